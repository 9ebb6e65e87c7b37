-- What was written where the work was left off: whole lines, and perhaps a part of one more.
use Rattle.std.specs.Prelude.{◌≡◌, ◌⊎◌, ◌<◌, ℕ, List, [], ◌∷◌, ◌++◌, length}
use Rattle.mail_model.specs.Lines.{ended}
use Rattle.mail_model.specs.Transcript.{Entry, entry_line}

-- a prefix of the line of the first of these entries, which may be empty and is not the whole of it
pub record IsPartOfLine (entries : List Entry) (cut : List ℕ) : Type 0 where
  pub entry : Entry
  pub more : List Entry
  pub rest : List ℕ
  pub are : entries ≡ entry ∷ more
  pub some : 0 < length rest
  pub whole : ended (entry_line entry) ≡ cut ++ rest

-- nothing, or such a prefix
abbrev pub IsCutEntry : List Entry → List ℕ → Type 0
IsCutEntry entries cut = (cut ≡ []) ⊎ IsPartOfLine entries cut
