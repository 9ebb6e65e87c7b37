-- How the wrappers for tests count.
use Rattle.std.specs.Prelude.{◌≡◌, ℕ, ◌+◌, ◌-◌, ◌^◌, min, Bool, true, false}

-- the count is one more after a call that was made to fail, or stands at its type's end, and else as it was
abbrev pub IsCounted : ℕ → ℕ → Bool → Type 0
IsCounted before now true = now ≡ min (before + 1) (2 ^ 64 - 1)
IsCounted before now false = now ≡ before
