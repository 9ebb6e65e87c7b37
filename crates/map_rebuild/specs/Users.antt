-- Lists and sets of users.
use Rattle.std.specs.Prelude.{Bool, ℕ, List}
use Rattle.std.specs.Ordering.{nat_cmp, eq_by_cmp}
use Rattle.std.specs.Cmp.Lexicographic.{slice_cmp}
use Rattle.std.specs.List.{list_any}

-- whether the user is one of these
abbrev pub has_user : List (List ℕ) → List ℕ → Bool
has_user users user = list_any (eq_by_cmp (slice_cmp nat_cmp) user) users
