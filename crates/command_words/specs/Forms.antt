-- Which words of a command line are of a form, and what they ask for.
use Rattle.std.specs.Prelude.{ℕ, Bool, false, ◌&&◌, nat_eq, nat_le, List, [], ◌∷◌, length, Option, Some, None, if◌then◌else◌, codes}
use Rattle.std.specs.List.{list_any}
use Rattle.std.specs.Cmp.Lexicographic.{pointwise}
use Rattle.mail_model.specs.Numbers.{number_of}

-- what is asked for
pub data Task : Type 0 where
  Drive : Task
  Storm : ℕ → ℕ → Task
  Check : List ℕ → Task
  Serve : List ℕ → Task

-- the word is this one
abbrev pub is_word : List ℕ → List ℕ → Bool
is_word word known = pointwise nat_eq word known

-- a word that begins with a dash
abbrev pub begins_with_dash : List ℕ → Bool
begins_with_dash [] = false
begins_with_dash (x ∷ xs) = nat_eq x 45

abbrev pub has_option : List (List ℕ) → Bool
has_option words = list_any begins_with_dash words

-- a number of at most six digits from 1 to 100,000
abbrev pub size_in : List ℕ → Option ℕ → Option ℕ
size_in word None = None
size_in word (Some n) = if nat_le (length word) 6 && nat_le 1 n && nat_le n 100000 then Some n else None

abbrev pub size_of : List ℕ → Option ℕ
size_of word = size_in word (number_of word)

abbrev pub storm_of : Option ℕ → Option ℕ → Option Task
storm_of (Some number) (Some size) = Some (Task.Storm number size)
storm_of _ _ = None

-- what a word before the name of a file asks for
abbrev pub with_file : List ℕ → List ℕ → Option Task
with_file verb file = if is_word verb (codes "check") then Some (Task.Check file) else if is_word verb (codes "serve") then Some (Task.Serve file) else None

-- what words without a dash at their head ask for, by how many they are
abbrev pub form_of : List (List ℕ) → Option Task
form_of (verb ∷ []) = if is_word verb (codes "drive") then Some Task.Drive else None
form_of (verb ∷ file ∷ []) = if nat_eq (length file) 0 then None else with_file verb file
form_of (verb ∷ number ∷ size ∷ []) = if is_word verb (codes "storm") then storm_of (number_of number) (size_of size) else None
form_of _ = None

-- what the words ask for; nothing where they are of no form
abbrev pub task_of : List (List ℕ) → Option Task
task_of words = if has_option words then None else form_of words

-- the same by places: the first word, the second and the third
abbrev pub form_at : Option (List ℕ) → Option (List ℕ) → Option (List ℕ) → Option Task
form_at (Some verb) None None = form_of (verb ∷ [])
form_at (Some verb) (Some second) None = form_of (verb ∷ second ∷ [])
form_at (Some verb) (Some second) (Some third) = form_of (verb ∷ second ∷ third ∷ [])
form_at _ _ _ = None
