-- The users that are listed are those of whom a message is here.
use Rattle.std.proofs.Common.{◌≡◌, refl, sym, ap, ◌∙◌, List, ℕ, Bool, true, false, not, Option, Some, None, is_some}
use Rattle.std.specs.Ordering.{nat_cmp, eq_by_cmp}
use Rattle.std.specs.Cmp.{eq_by_cmp_equiv}
use Rattle.std.specs.Cmp.Lexicographic.{slice_cmp, nat_list_cmp_total}
use Rattle.std.specs.List.{list_any, filter}
use Rattle.std.specs.Map.{lookup, keys_of}
use Rattle.std.specs.BTreeMap as tree
use Rattle.std.specs.BTreeMap.{BTreeMap}
use Rattle.std.specs.BTreeSet.{BTreeSet}
use Rattle.std.proofs.lemmas.Map.Made.{is_some-lookup}
use Rattle.std.proofs.lemmas.Map.Entries.{lookup-filter-values, option_filter}
use Rattle.std.proofs.lemmas.Map.Keys.{IsDistinct-from_sorted}
use Rattle.mail_model.specs.Identity.{Id}
use Rattle.mailbox_fragment.specs.Here.{ids_at, is_none, full_in}

abbrev has_some : BTreeSet Id → Bool
has_some ids = not (is_none ids.keys)

filtered : (o : Option (BTreeSet Id)) → is_some (option_filter has_some o) ≡ not (is_none (ids_at o))
filtered None = refl
filtered (Some ids) = by (has_some ids) refl
  where
    by : (t : Bool) → has_some ids ≡ t → is_some (option_filter has_some (Some ids)) ≡ t
    by true e = rw e refl
    by false e = rw e refl

pub full_found : (users : BTreeMap (List ℕ) (BTreeSet Id)) → tree.IsOrdered (slice_cmp nat_cmp) users → (user : List ℕ)
    → list_any (eq_by_cmp (slice_cmp nat_cmp) user) (full_in users.entries) ≡ not (is_none (ids_at (tree.get (slice_cmp nat_cmp) users user)))
full_found users ordered user =
    sym (is_some-lookup (eq_by_cmp (slice_cmp nat_cmp) user) (filter (λ entry. has_some entry.1) users.entries))
    ∙ ap is_some (lookup-filter-values (eq_by_cmp_equiv nat_list_cmp_total) has_some user users.entries (IsDistinct-from_sorted (slice_cmp nat_cmp) (keys_of users.entries) ordered))
    ∙ filtered (tree.get (slice_cmp nat_cmp) users user)
