-- The greatest profile among the rows of a user.
use Rattle.std.specs.Prelude.{◌≡◌, ℕ, Bool, true, false, List, Option, Some, None, if◌then◌else◌}
use Rattle.std.specs.declared.cmp.Ordering.{Ordering}
use Rattle.std.specs.Ordering.{nat_cmp, on, then_cmp, is_gt}
use Rattle.std.specs.Cmp.{IsTotalOrder}
use Rattle.std.specs.Cmp.Lexicographic.{slice_cmp, nat_list_cmp_total}
use Rattle.std.proofs.lemmas.Cmp.{then_total, on_total}
use Rattle.mail_model.specs.Identity.{Stamp}
use Rattle.object_model.specs.Letters.{Row}
use Rattle.mail_base.specs.Orders.{stamp_cmp, stamp_total}

abbrev pub Profile : Type 0
Profile = Stamp × List ℕ

-- by stamp, and then by secret
abbrev pub profile_cmp : Profile → Profile → Ordering
profile_cmp = then_cmp (on (λ p. p.0) stamp_cmp) (on (λ p. p.1) (slice_cmp nat_cmp))

pub profile_total : IsTotalOrder profile_cmp
profile_total = then_total (on_total (λ p. p.0) stamp_total) (on_total (λ p. p.1) nat_list_cmp_total)

-- Some row has this profile, and none has a greater one.
pub record IsGreatestProfile (rows : ℕ → ℕ → Option Row) (profile : Profile) : Type 0 where
  pub node : ℕ
  pub boot : ℕ
  pub row : Row
  pub stands : rows node boot ≡ Some row
  pub has : row.profile ≡ Some profile
  pub greatest : (n k : ℕ) (other : Row) (lesser : Profile) → rows n k ≡ Some other → other.profile ≡ Some lesser → is_gt (profile_cmp lesser profile) ≡ false

-- the greatest profile of these rows, or nothing where none has one
abbrev pub IsGreatest : (ℕ → ℕ → Option Row) → Option Profile → Type 0
IsGreatest rows None = (n k : ℕ) (row : Row) → rows n k ≡ Some row → row.profile ≡ None
IsGreatest rows (Some profile) = IsGreatestProfile rows profile

-- a profile is above none, and above a lesser one
abbrev pub is_above : Option Profile → Option Profile → Bool
is_above None other = false
is_above (Some profile) None = true
is_above (Some profile) (Some other) = is_gt (profile_cmp profile other)

-- the row of the greater profile, the earlier among equals
abbrev pub greater_of : Option Row → Row → Option Row
greater_of None row = Some row
greater_of (Some found) row = if is_above row.profile found.profile then Some row else Some found

abbrev pub profile_in : Option Row → Option Profile
profile_in None = None
profile_in (Some row) = row.profile
