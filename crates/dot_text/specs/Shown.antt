-- What contracts see of a cutter, and what its calls lead to.
use Rattle.std.specs.Prelude.{◌≡◌, ◌⊎◌, ◌+◌, ◌<◌, ◌≤◌, ℕ, Bool, true, false, ◌&&◌, ◌-◌, nat_lt, nat_eq, List, [], ◌∷◌, ◌++◌, length, take, drop, slice_index, MatchBool}
use Rattle.mail_model.specs.Lines.{HasNoCrlf, sent_line}
use Rattle.dot_text.specs.Cuts.{Taken, Cuts}
use Rattle.dot_text.specs.Cuts.Taken.{Given}
use Rattle.dot_text.specs.declared.cutter.Line.{Line}
use Rattle.dot_text.specs.declared.cutter.Line.TheVariants.{Whole, Long}

-- the most octets of a line with its CRLF, whether octets of the next line were let go, and those that are held
pub record Shown : Type 0 where
  pub limit : ℕ
  pub past : Bool
  pub rest : List ℕ

-- the last octet is a CR
abbrev pub ends_in_cr : List ℕ → Bool
ends_in_cr octets = nat_lt 0 (length octets) && nat_eq (slice_index octets (length octets - 1)) 13

-- These octets were fed, and no line has taken them yet: first those that were let go, of a line that is then too long and of whose CRLF they have
-- nothing, and after them those that are held.
pub record Pending (cutter : Shown) (pending : List ℕ) : Type 0 where
  pub gone : List ℕ
  pub whole : pending ≡ gone ++ cutter.rest
  pub none : HasNoCrlf gone
  pub seam : (k : ℕ) → k + 1 ≡ length gone → slice_index gone k ≡ 13 → slice_index cutter.rest 0 ≡ 13
  pub long : MatchBool cutter.past (cutter.limit ≤ length gone + 1) (gone ≡ [])

-- so many octets of the line are held before its CRLF
abbrev pub line_length : Line → ℕ
line_length (Whole length) = length
line_length (Long length) = length

-- a line of which so many octets are held, and others were let go where it is past the limit
abbrev pub IsKind : Line → ℕ → ℕ → Bool → Type 0
IsKind (Whole count) held limit past = (count ≡ held) × (past ≡ false) × (held + 2 ≤ limit)
IsKind (Long count) held limit past = (count ≡ held) × ((past ≡ true) ⊎ (limit < held + 2))

-- the cutter once the line was taken
abbrev pub behind_line : Shown → Line → Shown
behind_line old line = record { limit = old.limit; past = false; rest = drop (line_length line + 2) old.rest }

-- the octets of the line, where it keeps the limit; and that it doesn't, where it is long
abbrev pub IsLine : Shown → Line → List ℕ → Type 0
IsLine old (Whole count) line = (line ≡ take count old.rest) × (length (sent_line line) ≤ old.limit)
IsLine old (Long count) line = old.limit < length (sent_line line)

-- of the octets that no line has taken yet, the first line is this
pub record Gives (old : Shown) (found : Line) (pending : List ℕ) : Type 0 where
  pub line : List ℕ
  pub first : HasNoCrlf line
  pub octets : pending ≡ sent_line line ++ drop (line_length found + 2) old.rest
  pub is : IsLine old found line
  pub shows : (fed : List ℕ) (taken : List Taken) → Cuts fed taken pending → Cuts fed (taken ++ Given line ∷ []) (drop (line_length found + 2) old.rest)

-- a line was found, and nothing was taken
pub record Finds (old : Shown) (found : Line) (new : Shown) : Type 0 where
  pub same : new ≡ old
  pub within : line_length found + 2 ≤ length old.rest
  pub gives : (pending : List ℕ) → Pending old pending → Gives old found pending

-- the octets that no line has taken yet have no whole line and begin with none, and they are still those
pub record Stays (new : Shown) (pending : List ℕ) : Type 0 where
  pub pends : Pending new pending
  pub none : HasNoCrlf pending
  pub no_line : (line more : List ℕ) → pending ≡ sent_line line ++ more → ⊥

-- No line was found. What is then held is shorter than the limit.
pub record FindsNone (old new : Shown) : Type 0 where
  pub limit : new.limit ≡ old.limit
  pub short : length new.rest < old.limit
  pub fewer : length new.rest ≤ length old.rest
  pub stays : (pending : List ℕ) → Pending old pending → Stays new pending

-- What is held has no CRLF. It is shorter than the limit, or was let go but for a CR.
pub record LetsGo (old new : Shown) : Type 0 where
  pub limit : new.limit ≡ old.limit
  pub short : length new.rest < old.limit
  pub fewer : length new.rest ≤ length old.rest
  pub pends : (pending : List ℕ) → Pending old pending → Pending new pending
