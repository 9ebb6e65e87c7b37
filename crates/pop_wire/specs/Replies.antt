-- Replies of POP3 (RFC 1939, section 3): their lines, and with which reply octets begin.
use Rattle.std.specs.Prelude.{◌≡◌, ◌⊎◌, ℕ, Bool, true, false, ◌&&◌, ◌||◌, not, nat_eq, nat_le, List, [], ◌∷◌, ◌++◌, length, take, drop, map, flat_map, All, Vec, Option, Some, None, option_and_then, if◌then◌else◌, codes}
use Rattle.std.specs.Option.{option_map}
use Rattle.std.specs.declared.alloc.Global.{Global}
use Rattle.std.specs.List.{list_all}
use Rattle.std.specs.Cmp.Lexicographic.{pointwise}
use Rattle.mail_model.specs.Lines.{HasNoCrlf, sent_line}
use Rattle.mail_model.specs.Names.{begins_with, is_printable}
use Rattle.mail_model.specs.Session.{is_period}
use Rattle.mail_model.specs.Tape.{or_else}
use Rattle.dot_text.specs.Dots.{dotted}

-- a text in a reply, which may be empty
abbrev pub is_reply_text : List ℕ → Bool
is_reply_text text = nat_le (length text) 1017 && list_all is_printable text

-- What the first line of a reply says: whether it is `+OK`, and the text.
pub record FirstPart : Type 0 where
  pub good : Bool
  pub text : List ℕ

-- what stands behind the first word: nothing, or a space and a text
abbrev pub text_behind : List ℕ → Option (List ℕ)
text_behind [] = Some []
text_behind (x ∷ text) = if nat_eq x 32 && is_reply_text text then Some text else None

-- the text behind this word, where the line begins with it
abbrev pub text_after : List ℕ → List ℕ → Option (List ℕ)
text_after word line = if pointwise nat_eq (take (length word) line) word then text_behind (drop (length word) line) else None

-- what the first line says, given without its CRLF; None where it is none of a reply
abbrev pub first_says : List ℕ → Option FirstPart
first_says line =
    or_else (option_map (λ text. record { good = true; text = text }) (text_after (codes "+OK") line))
    (option_map (λ text. record { good = false; text = text }) (text_after (codes "-ERR") line))

-- what a further line says: a text, or that the reply ends
pub data Further : Type 0 where
  Ends : Further
  Says : (text : List ℕ) → Further

-- the line with one period off, where two lead it; None where one does
abbrev pub undoubled : List ℕ → Option (List ℕ)
undoubled [] = Some []
undoubled (x ∷ rest) = if nat_eq x 46 then (if begins_with 46 rest then Some rest else None) else Some (x ∷ rest)

-- the text, where it may stand in a reply
abbrev pub reply_text : List ℕ → Option (List ℕ)
reply_text text = if is_reply_text text then Some text else None

-- what the further line says, given without its CRLF; None where it is none of a reply
abbrev pub further_says : List ℕ → Option Further
further_says line = if is_period line then Some Ends else option_map Says (option_and_then reply_text (undoubled line))

-- a line that goes on with the reply
abbrev pub says_text : List ℕ → Option Further
says_text text = Some (Says text)

-- The octets begin with the first line of a good reply that has this text, and with further lines that have the texts and do not end it.
pub record BeginsSeveral (octets text : List ℕ) (texts : List (List ℕ)) (behind : List ℕ) : Type 0 where
  pub first : List ℕ
  pub first_whole : HasNoCrlf first
  pub good : first_says first ≡ Some (record { good = true; text = text })
  pub lines : List (List ℕ)
  pub are : All HasNoCrlf lines
  pub say : map further_says lines ≡ map says_text texts
  pub whole : octets ≡ flat_map sent_line (first ∷ lines) ++ behind

-- They begin with a whole reply of one line.
pub record BeginsOne (octets : List ℕ) (good : Bool) (text behind : List ℕ) : Type 0 where
  pub line : List ℕ
  pub line_whole : HasNoCrlf line
  pub says : first_says line ≡ Some (record { good = good; text = text })
  pub whole : octets ≡ sent_line line ++ behind

-- They begin with a whole reply. Where a good one is to have `several` lines, it ends with the line that is one period.
abbrev pub BeginsWithReply : Bool → List ℕ → Bool → List ℕ → Option (List (List ℕ)) → List ℕ → Type 0
BeginsWithReply several octets good text None behind = ((good && several) ≡ false) × BeginsOne octets good text behind
BeginsWithReply several octets good text (Some texts) behind = (several ≡ true) × (good ≡ true) × BeginsSeveral octets text texts (sent_line (46 ∷ []) ++ behind)

-- no whole reply is there yet, and each whole line may be one of a reply
abbrev pub HasNoReply : Bool → List ℕ → Type 0
HasNoReply several octets =
    HasNoCrlf octets
    ⊎ ((several ≡ true) × (text : List ℕ) × (texts : List (List ℕ)) × (behind : List ℕ) × BeginsSeveral octets text texts behind × HasNoCrlf behind)

-- the first whole line is none of a reply
pub record BreaksFirst (octets : List ℕ) : Type 0 where
  pub line : List ℕ
  pub line_whole : HasNoCrlf line
  pub breaks : first_says line ≡ None
  pub behind : List ℕ
  pub whole : octets ≡ sent_line line ++ behind

-- a further line is none, and comes before the reply's end
pub record BreaksFurther (octets : List ℕ) : Type 0 where
  pub text : List ℕ
  pub texts : List (List ℕ)
  pub line : List ℕ
  pub behind : List ℕ
  pub begins : BeginsSeveral octets text texts (sent_line line ++ behind)
  pub line_whole : HasNoCrlf line
  pub breaks : further_says line ≡ None

-- the first whole line that is none of the reply comes before the reply's end
abbrev pub BreaksReply : Bool → List ℕ → Type 0
BreaksReply several octets = BreaksFirst octets ⊎ ((several ≡ true) × BreaksFurther octets)

-- a text behind the first word
abbrev pub spaced : List ℕ → List ℕ
spaced [] = []
spaced (x ∷ text) = 32 ∷ x ∷ text

-- the texts of the further lines
abbrev pub texts_of : Option (Vec (List ℕ) Global) → Option (List (List ℕ))
texts_of None = None
texts_of (Some lines) = Some lines.items

-- the word that a reply begins with
abbrev pub first_word : Bool → List ℕ
first_word good = if good then codes "+OK" else codes "-ERR"

abbrev pub first_line : Bool → List ℕ → List ℕ
first_line good text = first_word good ++ spaced text

-- The octets of a reply: an empty text has no space before it, and a period that leads a further line is doubled.
abbrev pub reply_octets : Bool → List ℕ → Option (List (List ℕ)) → List ℕ
reply_octets good text None = sent_line (first_line good text)
reply_octets good text (Some texts) = sent_line (first_line good text) ++ (dotted texts ++ sent_line (46 ∷ []))
