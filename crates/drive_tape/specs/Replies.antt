-- Where the lines of a reply end.
use Rattle.std.specs.Prelude.{◌≡◌, ◌≢◌, ◌+◌, ◌<◌, ℕ, List, length, flat_map, All, slice_index, ◌++◌, Option}
use Rattle.std.specs.Io.KnownBytes.{Appends}
use Rattle.mail_model.specs.Lines.{HasNoCrlf, sent_line}
use Rattle.mail_model.specs.Transcript.{written_of, said_lines}

-- a CRLF begins at this place, and none before it
pub record IsFirstCrlf (octets : List ℕ) (place : ℕ) : Type 0 where
  pub within : place + 1 < length octets
  pub cr : slice_index octets place ≡ 13
  pub lf : slice_index octets (place + 1) ≡ 10
  pub first : (k : ℕ) → k < place → slice_index octets k ≡ 13 → slice_index octets (k + 1) ≢ 10

-- so far the first of these lines of a reply are written, and the octets that are left are the others
pub record HasWritten (old now : Option (List ℕ)) (k : ℕ) (lines : List (List ℕ)) (octets : List ℕ) : Type 0 where
  pub done : List (List ℕ)
  pub left : List (List ℕ)
  pub are : lines ≡ done ++ left
  pub rest : octets ≡ flat_map sent_line left
  pub each : All HasNoCrlf left
  pub gave : Appends old now (written_of (said_lines k done))
