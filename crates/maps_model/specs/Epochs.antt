-- How epochs are ordered.
use Rattle.std.specs.Prelude.{◌≡◌, ◌⊎◌, ◌<◌}
use Rattle.mail_model.specs.Identity.{EpochId}

-- by count, and then by node
abbrev pub IsBefore : EpochId → EpochId → Type 0
IsBefore a b = (a.count < b.count) ⊎ ((a.count ≡ b.count) × (a.node < b.node))

abbrev pub IsAtMost : EpochId → EpochId → Type 0
IsAtMost a b = IsBefore a b ⊎ (a ≡ b)
