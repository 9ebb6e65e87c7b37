-- The words of the command line, and what is written with others.
use Rattle.std.specs.Prelude.{◌≡◌, ◌⊎◌, ℕ, Bool, false, List, [], ◌∷◌, ◌++◌, drop, String, Option, Result, Ok, Err, codes}
use Rattle.std.specs.String.{string_bytes}
use Rattle.std.specs.Io.KnownBytes.{Appends}
use Rattle.std.specs.Vec.Iter.{into_iter_items}
use Rattle.std.specs.declared.vec.IntoIter.{IntoIter}
use Rattle.std.specs.IoError.{error_kind}
use Rattle.std.specs.declared.io.Error.{Error}
use Rattle.std.specs.declared.io.ErrorKind.TheVariants.{InvalidData}
use Rattle.io_edge.specs.Causes.{Rose}
use Rattle.command_words.specs.Forms.{is_word}

-- what the system hands over has a word that is not text
abbrev pub IsNotText : {X : Type 0} → Result X Error → Type 0
IsNotText (Ok arguments) = ⊥
IsNotText (Err fault) = error_kind fault ≡ InvalidData

-- the words after the program's name, and none where they are not text
abbrev pub words_after_name : {X Z : Type 0} → Result (IntoIter X Z) Error → List X
words_after_name (Ok arguments) = drop 1 (into_iter_items arguments)
words_after_name (Err fault) = []

-- the first word is `serve`
abbrev pub serves_first : {Z : Type 0} → List (String Z) → Bool
serves_first [] = false
serves_first (word ∷ words) = is_word (string_bytes word) (codes "serve")

-- the line that refuses other words
abbrev pub words_line : List ℕ
words_line = codes "! words" ++ 10 ∷ []

-- the whole line was written; or the sink failed, and a prefix of it was
abbrev pub RefusesWords : Option (List ℕ) → Option (List ℕ) → ℕ → ℕ → Type 0
RefusesWords held0 held1 before now =
    Appends held0 held1 words_line
    ⊎ (Rose before now × ((prefix : List ℕ) × (missing : List ℕ) × (words_line ≡ prefix ++ missing) × Appends held0 held1 prefix))
