-- Replies of SMTP (RFC 5321, sections 4.2 and 4.2.1): their lines, and with which reply octets begin.
use Rattle.std.specs.Prelude.{◌≡◌, ◌≢◌, ℕ, Bool, true, false, ◌&&◌, ◌||◌, nat_eq, nat_lt, nat_le, List, [], ◌∷◌, ◌++◌, length, take, drop, map, flat_map, All, ⊤, Option, Some, None, if◌then◌else◌}
use Rattle.std.specs.List.{list_all}
use Rattle.std.specs.Fmt.{decimal}
use Rattle.mail_model.specs.Lines.{HasNoCrlf, sent_line}
use Rattle.mail_model.specs.Numbers.{number_of}

-- printable ASCII
abbrev pub is_text_octet : ℕ → Bool
is_text_octet x = nat_le 32 x && nat_le x 126

-- a text in a reply, which may be empty
abbrev pub is_reply_text : List ℕ → Bool
is_reply_text text = nat_le (length text) 1018 && list_all is_text_octet text

-- a code
abbrev pub is_code : ℕ → Bool
is_code code = nat_le 200 code && nat_le code 599

-- What one line of a reply says: the code, whether it is the last, and the text.
pub record ReplyPart : Type 0 where
  pub code : ℕ
  pub ends : Bool
  pub text : List ℕ

-- the code that a line begins with
abbrev pub code_if : Option ℕ → Option ℕ
code_if None = None
code_if (Some code) = if is_code code then Some code else None

abbrev pub code_of : List ℕ → Option ℕ
code_of line = code_if (number_of (take 3 line))

-- what stands behind the code: a hyphen on all lines but the last, and on that a space, or nothing
abbrev pub part_of : Option ℕ → List ℕ → Option ReplyPart
part_of None rest = None
part_of (Some code) [] = Some (record { code = code; ends = true; text = [] })
part_of (Some code) (x ∷ text) =
    if (nat_eq x 32 || nat_eq x 45) && is_reply_text text then Some (record { code = code; ends = nat_eq x 32; text = text }) else None

-- what the line says, given without its CRLF; None where it is none of a reply
abbrev pub line_says : List ℕ → Option ReplyPart
line_says line = part_of (code_of line) (drop 3 line)

-- a line that is not the last
abbrev pub says_more : ℕ → List ℕ → Option ReplyPart
says_more code text = Some (record { code = code; ends = false; text = text })

-- The octets begin with lines of one code that are not the last, and these have the texts.
pub record BeginReply (octets : List ℕ) (code : ℕ) (texts : List (List ℕ)) (behind : List ℕ) : Type 0 where
  pub lines : List (List ℕ)
  pub are : All HasNoCrlf lines
  pub whole : octets ≡ flat_map sent_line lines ++ behind
  pub say : map line_says lines ≡ map (says_more code) texts

-- whether a line may follow lines of this code with these texts
abbrev pub may_follow : ℕ → List (List ℕ) → Option ReplyPart → Bool
may_follow code texts None = false
may_follow code [] (Some part) = true
may_follow code (text ∷ texts) (Some part) = nat_eq part.code code

-- They begin with a whole reply: the last of its lines, in place of the hyphen, has a space or nothing.
pub record BeginsWithReply (octets : List ℕ) (code : ℕ) (texts : List (List ℕ)) (behind : List ℕ) : Type 0 where
  pub before : List (List ℕ)
  pub text : List ℕ
  pub line : List ℕ
  pub are : texts ≡ before ++ text ∷ []
  pub begins : BeginReply octets code before (sent_line line ++ behind)
  pub whole : HasNoCrlf line
  pub says : line_says line ≡ Some (record { code = code; ends = true; text = text })

-- No whole reply is there yet, and each whole line may be one of a reply.
pub record HasNoReply (octets : List ℕ) : Type 0 where
  pub code : ℕ
  pub texts : List (List ℕ)
  pub behind : List ℕ
  pub begins : BeginReply octets code texts behind
  pub none : HasNoCrlf behind

-- The first whole line that may be none of the reply, or has another code, comes before the reply's last.
pub record BreaksReply (octets : List ℕ) : Type 0 where
  pub code : ℕ
  pub texts : List (List ℕ)
  pub line : List ℕ
  pub behind : List ℕ
  pub begins : BeginReply octets code texts (sent_line line ++ behind)
  pub whole : HasNoCrlf line
  pub breaks : may_follow code texts (line_says line) ≡ false

-- The octets of a reply: a hyphen after the code on all lines but the last, and a space there.
abbrev pub reply_octets : ℕ → List (List ℕ) → List ℕ
reply_octets code [] = []
reply_octets code (text ∷ []) = sent_line (decimal code ++ 32 ∷ text)
reply_octets code (text ∷ other ∷ texts) = sent_line (decimal code ++ 45 ∷ text) ++ reply_octets code (other ∷ texts)
