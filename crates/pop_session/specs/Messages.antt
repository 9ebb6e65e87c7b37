-- A message as RETR and TOP show it (RFC 1939, sections 3, 5 and 7).
use Rattle.std.specs.Prelude.{◌≡◌, ℕ, Option, List, [], ◌∷◌, ◌++◌, Bool, false, ◌&&◌, nat_eq, flat_map, All}
use Rattle.mail_model.specs.Lines.{HasNoCrlf, sent_line}
use Rattle.session_model.specs.Calls.{ShowsPart}

-- The lines that show a message of these octets were appended, or as many of them as TOP asks for.
pub record ShowsPartIn (asked : Option ℕ) (octets old new : List ℕ) : Type 0 where
  pub reply : List (List ℕ)
  pub shows : ShowsPart asked octets reply
  pub says : new ≡ old ++ flat_map sent_line reply
  pub lines : All HasNoCrlf reply

-- a CRLF comes first
abbrev pub begins_crlf : List ℕ → Bool
begins_crlf [] = false
begins_crlf (x ∷ []) = false
begins_crlf (x ∷ y ∷ ys) = nat_eq x 13 && nat_eq y 10
