-- The octets of a text as its client sends them, and the text (RFC 5321, section 4.5.2).
use Rattle.std.specs.Prelude.{◌≡◌, ℕ, List, [], ◌∷◌, ◌++◌, flat_map, nat_eq, if◌then◌else◌}
use Rattle.std.specs.Cmp.Lexicographic.{pointwise}
use Rattle.mail_model.specs.Lines.{HasNoCrlf, sent_line}
use Rattle.mail_model.specs.Session.{undotted, undotted_line}
use Rattle.mail_model.specs.Session.Unit.{Text}
use Rattle.mail_model.specs.Told.{AreTextLines, unit_octets}

-- The octets are this text, through the line that is one period.
pub record IsText (octets text : List ℕ) : Type 0 where
  pub lines : List (List ℕ)
  pub are : AreTextLines lines
  pub whole : octets ≡ unit_octets (Text lines)
  pub gives : text ≡ undotted lines

-- what a line that has no CRLF yet has given to the text: a CR after a period that leads it waits for the next octet
abbrev pub begun : List ℕ → List ℕ
begun line = if pointwise nat_eq line (46 ∷ 13 ∷ []) then [] else undotted_line line

-- The octets are whole lines of a text and this line, which has not ended, and they have given so much of the text.
pub record IsTextBegun (octets line given : List ℕ) : Type 0 where
  pub lines : List (List ℕ)
  pub are : AreTextLines lines
  pub no_end : HasNoCrlf line
  pub whole : octets ≡ flat_map sent_line lines ++ line
  pub gives : given ≡ undotted lines ++ begun line
