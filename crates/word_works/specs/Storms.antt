-- What the word `storm` writes.
use Rattle.std.specs.Prelude.{◌≡◌, ◌⊎◌, ℕ, List, Option}
use Rattle.std.specs.Io.KnownBytes.{Appends}
use Rattle.storm_maker.specs.Tape.{storm_tape}
use Rattle.word_works.specs.Parts.{WritesPart}

-- the whole tape of the number and so many rounds, at status 0; at 5 and 7 a part of it
abbrev pub WritesStorm : Option (List ℕ) → Option (List ℕ) → ℕ → ℕ → ℕ → Type 0
WritesStorm held0 held1 number size status =
    ((status ≡ 0) × Appends held0 held1 (storm_tape number size))
    ⊎ (((status ≡ 5) ⊎ (status ≡ 7)) × WritesPart held0 held1 (storm_tape number size))
