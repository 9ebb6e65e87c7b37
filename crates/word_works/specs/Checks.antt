-- What the word `check` finds of a plan file, and writes.
use Rattle.std.specs.Prelude.{◌≡◌, ◌⊎◌, ℕ, List, [], ◌∷◌, ◌++◌, Option, Some, None, IfSome, ⊤, codes}
use Rattle.std.specs.Fmt.{decimal}
use Rattle.std.specs.Io.KnownBytes.{Appends}
use Rattle.toml.specs.Data.{Data}
use Rattle.cluster_config.specs.Answers.{IsDocument}
use Rattle.cluster_config.specs.Rules.{first_broken}
use Rattle.word_works.specs.Parts.{WritesPart}
use Rattle.word_works.specs.declared.found.Found.{Found}
use Rattle.word_works.specs.declared.found.Found.TheVariants.{Good, Broken, Unread, NoMemory}

-- the octets are a document that keeps all rules of a plan file
abbrev pub KeepsRules : List ℕ → Type 0
KeepsRules octets = (file : Data) × IsDocument octets file × (first_broken file ≡ None)

-- the octets break the rule of this number, and no rule before it: rule 1 where they are no document, and else as its value breaks them
abbrev pub BreaksRule : List ℕ → ℕ → Type 0
BreaksRule octets rule =
    ((rule ≡ 1) × ((file : Data) → IsDocument octets file → ⊥))
    ⊎ ((file : Data) × IsDocument octets file × (first_broken file ≡ Some rule))

-- what is found in octets
abbrev pub IsFoundIn : List ℕ → Found → Type 0
IsFoundIn octets Good = KeepsRules octets
IsFoundIn octets (Broken rule) = BreaksRule octets rule
IsFoundIn octets Unread = ⊥
IsFoundIn octets NoMemory = ⊤

-- what is found in a file, whose octets are told or not: it was read, and what it was found to be is said of its octets; or it was not read
abbrev pub Finds : Option (List ℕ) → Found → Type 0
Finds told found =
    (found ≡ Unread) ⊎ (found ≡ NoMemory)
    ⊎ ((octets : List ℕ) × IfSome told (λ held. octets ≡ held) × IsFoundIn octets found)

abbrev pub status_of : Found → ℕ
status_of Good = 0
status_of (Broken rule) = 2
status_of Unread = 4
status_of NoMemory = 7

-- the line that is written, with its LF
abbrev pub line_of : Found → List ℕ
line_of Good = codes "ok" ++ 10 ∷ []
line_of (Broken rule) = codes "! plan " ++ decimal rule ++ 10 ∷ []
line_of Unread = codes "! read" ++ 10 ∷ []
line_of NoMemory = []

-- the line was written, and the status is that of what was found; or it was written in part, at 5; or nothing was, at 7
abbrev pub Tells : Option (List ℕ) → Option (List ℕ) → Found → ℕ → Type 0
Tells held0 held1 found status =
    ((status ≡ status_of found) × Appends held0 held1 (line_of found))
    ⊎ ((status ≡ 5) × WritesPart held0 held1 (line_of found))
    ⊎ ((status ≡ 7) × (held1 ≡ held0))

-- The whole: what was found in the file, and that it was told.
pub record ChecksPlan (told held0 held1 : Option (List ℕ)) (status : ℕ) : Type 0 where
  pub found : Found
  pub finds : Finds told found
  pub tells : Tells held0 held1 found status

-- the file was read and breaks the rule of this number, and no rule before it; the line that says so was written
abbrev pub NamesRule : Option (List ℕ) → Option (List ℕ) → Option (List ℕ) → ℕ → Type 0
NamesRule told held0 held1 rule =
    Appends held0 held1 (line_of (Broken rule)) × ((octets : List ℕ) × IfSome told (λ held. octets ≡ held) × BreaksRule octets rule)
