-- Lines cut out of octets that come in pieces (RFC 5321, section 2.3.8), and octets that were skipped.
use Rattle.std.specs.Prelude.{◌≡◌, ◌≢◌, ◌+◌, ◌<◌, ℕ, List, [], ◌∷◌, ◌++◌, length, flat_map, slice_index, ⊤, Option, Some, None}
use Rattle.mail_model.specs.Lines.{HasNoCrlf, sent_line}

-- what was taken off the front of the octets: a line with its CRLF, or octets that were skipped
pub data Taken : Type 0 where
  Given : (line : List ℕ) → Taken
  Skipped : (octets : List ℕ) → Taken

-- the octets of it
abbrev pub taken_octets : Taken → List ℕ
taken_octets (Given line) = sent_line line
taken_octets (Skipped octets) = octets

-- each line ends at its first CRLF
abbrev pub AreTaken : List Taken → Type 0
AreTaken [] = ⊤
AreTaken (Given line ∷ taken) = HasNoCrlf line × AreTaken taken
AreTaken (Skipped octets ∷ taken) = AreTaken taken

-- These octets were fed, this was taken off them one after the other, and this is the rest.
pub record Cuts (fed : List ℕ) (taken : List Taken) (rest : List ℕ) : Type 0 where
  pub whole : fed ≡ flat_map taken_octets taken ++ rest
  pub lines : AreTaken taken

-- what was asked for: the next line, or so many octets
abbrev pub asked_length : Taken → Option ℕ
asked_length (Given line) = None
asked_length (Skipped octets) = Some (length octets)

-- a CRLF begins at this place, and none before it
pub record IsFirstCrlf (octets : List ℕ) (place : ℕ) : Type 0 where
  pub within : place + 1 < length octets
  pub cr : slice_index octets place ≡ 13
  pub lf : slice_index octets (place + 1) ≡ 10
  pub first : (k : ℕ) → k < place → slice_index octets k ≡ 13 → slice_index octets (k + 1) ≢ 10

-- no CRLF begins before this place, and none can that comes with what is fed later
abbrev pub HasNoneBefore : List ℕ → ℕ → Type 0
HasNoneBefore octets place = (k : ℕ) → k < place → (k + 1 < length octets) × (slice_index octets k ≡ 13 → slice_index octets (k + 1) ≢ 10)
