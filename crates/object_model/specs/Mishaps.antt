-- What may befall a call, and how often it did.
use Rattle.std.specs.Prelude.{ℕ, ◌+◌, ◌-◌, ◌^◌, nat_lt, if◌then◌else◌}

pub data MishapKind : Type 0 where
  -- too few nodes of the epoch for the call
  FewMembers : MishapKind
  -- the seconds are past the last year that a date can have
  Year : MishapKind
  -- a letter of the call was dropped
  Dropped : MishapKind
  -- it was thrown, since its receiver has another epoch or none
  Stale : MishapKind
  -- it was thrown, since its receiver is not up
  Down : MishapKind
  -- it took its receiver down by a disk fault
  Disk : MishapKind
  -- it found no room among the letters in flight
  Crowded : MishapKind

-- how often each befell a call
pub record Mishaps : Type 0 where
  pub few_members : ℕ
  pub year : ℕ
  pub dropped : ℕ
  pub stale : ℕ
  pub down : ℕ
  pub disk : ℕ
  pub crowded : ℕ

abbrev pub no_mishaps : Mishaps
no_mishaps = record { few_members = 0; year = 0; dropped = 0; stale = 0; down = 0; disk = 0; crowded = 0 }

-- one more; a count at its greatest, which is 2 ^ 64 - 1, stays there
abbrev pub one_more : ℕ → ℕ
one_more count = if nat_lt count (2 ^ 64 - 1) then count + 1 else count

-- a mishap of the kind is counted
abbrev pub counted : MishapKind → Mishaps → Mishaps
counted FewMembers mishaps = record mishaps { few_members = one_more mishaps.few_members }
counted Year mishaps = record mishaps { year = one_more mishaps.year }
counted Dropped mishaps = record mishaps { dropped = one_more mishaps.dropped }
counted Stale mishaps = record mishaps { stale = one_more mishaps.stale }
counted Down mishaps = record mishaps { down = one_more mishaps.down }
counted Disk mishaps = record mishaps { disk = one_more mishaps.disk }
counted Crowded mishaps = record mishaps { crowded = one_more mishaps.crowded }

-- how many there were of all kinds
abbrev pub mishaps_of : Mishaps → ℕ
mishaps_of mishaps = mishaps.few_members + mishaps.year + mishaps.dropped + mishaps.stale + mishaps.down + mishaps.disk + mishaps.crowded
