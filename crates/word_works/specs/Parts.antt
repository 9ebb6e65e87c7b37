-- A text that was not written whole.
use Rattle.std.specs.Prelude.{◌≡◌, ◌<◌, ℕ, List, ◌++◌, length, Option}
use Rattle.std.specs.Io.KnownBytes.{Appends}

-- a prefix of the text was written, and never all of it
abbrev pub WritesPart : Option (List ℕ) → Option (List ℕ) → List ℕ → Type 0
WritesPart held0 held1 text = (front : List ℕ) × (missing : List ℕ) × (0 < length missing) × (text ≡ front ++ missing) × Appends held0 held1 front
