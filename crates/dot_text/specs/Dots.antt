-- A text as it is sent (RFC 5321, section 4.5.2, and RFC 1939, section 3).
use Rattle.std.specs.Prelude.{◌≡◌, ◌≢◌, ℕ, nat_eq, List, [], ◌∷◌, ◌++◌, flat_map, ⊤, if◌then◌else◌}
use Rattle.mail_model.specs.Lines.{HasNoCrlf, sent_line, closed}
use Rattle.mail_model.specs.PopReplies.{dotted_line}
use Rattle.dot_text.specs.declared.dotting.Tail.{Tail}
use Rattle.dot_text.specs.declared.dotting.Tail.TheVariants.{LineEnd, Cr, Other}

-- lines as they are sent
abbrev pub dotted : List (List ℕ) → List ℕ
dotted lines = flat_map (λ line. sent_line (dotted_line line)) lines

-- each is a line
abbrev pub AreLines : List (List ℕ) → Type 0
AreLines [] = ⊤
AreLines (line ∷ lines) = HasNoCrlf line × AreLines lines

-- The text is sent as these octets.
pub record Dots (text octets : List ℕ) : Type 0 where
  pub lines : List (List ℕ)
  pub are : AreLines lines
  pub whole : closed text ≡ flat_map sent_line lines
  pub sends : octets ≡ dotted lines ++ sent_line (46 ∷ [])

-- where the line so far ends
abbrev pub IsTail : Tail → List ℕ → Type 0
IsTail LineEnd line = line ≡ []
IsTail Cr line = (front : List ℕ) × (line ≡ front ++ 13 ∷ [])
IsTail Other line = (front : List ℕ) × (x : ℕ) × (line ≡ front ++ x ∷ []) × (x ≢ 13)

-- and where it ends after the octet
abbrev pub next_tail : Tail → ℕ → Tail
next_tail LineEnd x = if nat_eq x 13 then Cr else Other
next_tail Cr x = if nat_eq x 10 then LineEnd else (if nat_eq x 13 then Cr else Other)
next_tail Other x = if nat_eq x 13 then Cr else Other

-- the octet as it is sent
abbrev pub dotted_octet : Tail → ℕ → List ℕ
dotted_octet LineEnd x = if nat_eq x 46 then 46 ∷ x ∷ [] else x ∷ []
dotted_octet Cr x = x ∷ []
dotted_octet Other x = x ∷ []

-- what is sent after the last octet: CRLF where the line has not ended, and the line that is one period
abbrev pub ending : Tail → List ℕ
ending LineEnd = sent_line (46 ∷ [])
ending Cr = 13 ∷ 10 ∷ sent_line (46 ∷ [])
ending Other = 13 ∷ 10 ∷ sent_line (46 ∷ [])

-- The text so far is whole lines and this line, and so it is sent.
pub record IsSent (text line octets : List ℕ) : Type 0 where
  pub lines : List (List ℕ)
  pub are : AreLines lines
  pub no_end : HasNoCrlf line
  pub whole : text ≡ flat_map sent_line lines ++ line
  pub sends : octets ≡ dotted lines ++ dotted_line line

abbrev pub IsSentAt : Tail → List ℕ → List ℕ → Type 0
IsSentAt tail text octets = (line : List ℕ) × IsTail tail line × IsSent text line octets
