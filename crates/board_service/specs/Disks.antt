-- Whether disks tell what they hold.
use Rattle.std.specs.Prelude.{◌≡◌, ℕ, true, is_some, List, Option}

-- each disk of the type tells what it holds
abbrev pub EachTells : {D : Type 0} → (D → Option (List ℕ)) → Type 0
EachTells {D} seen = (disk : D) → is_some (seen disk) ≡ true
