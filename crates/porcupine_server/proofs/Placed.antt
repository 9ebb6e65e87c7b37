-- Stores by their places: as they were taken, looked at, opened and given back.
use Rattle.std.proofs.Common.{◌≡◌, ◌≢◌, inl, inr, ⊎_elim, ℕ, zero, suc, ◌<◌, ◌≤◌, Bool, true, false, List, [], ◌∷◌, length, Option, Some, None, refl, sym, ap, ◌∙◌, subst, arith, ◌&&◌}
use Rattle.std.specs.Prelude.{IfSome, is_some, slice_get}
use Rattle.std.specs.List.{list_all}
use Rattle.std.proofs.lemmas.Option.{none-some, slice_get_cases, slice_get_within}
use Rattle.io_edge.specs.Causes.{Rose}
use Rattle.io_edge.specs.Octets.{IsToldAlike}
use Rattle.mail_model.specs.Plan.{Plan}
use Rattle.yard_stores.specs.Taken.{Looked, AllLooked, DiskFailed}
use Rattle.node_store.specs.Disks.{View}
use Rattle.cluster_world.specs.Worlds.{disks_of, disks_tell}
use Rattle.cluster_world.specs.Opens.{Opened}
use Rattle.cluster_world.specs.declared.world.World.{World}
use Rattle.drive_tape.specs.Worlds.{HasFailed}
use Rattle.serve_word.specs.Stores.{NodeStoreFailed}
use Rattle.serve_word.proofs.Storing.{looked_at}

-- what stands at a place within the list
pub has_place : {X : Type 0} (xs : List X) (k : ℕ) → k < length xs → (x : X) × (slice_get xs k ≡ Some x)
has_place xs k within = ⊎_elim (λ there. (there.0, there.2)) (λ past. absurd (omega (arith, past.0, within))) (slice_get_cases xs k).1

-- octets that were not told are not told later
untold : (old new : Option (List ℕ)) → IsToldAlike old new → new ≡ None → IfSome old (λ held. held ≢ [])
untold None new alike none = tt
untold (Some held) new alike none = absurd (let never : false ≡ true = sym (ap is_some none) ∙ alike in cc)

-- where not all tell what they hold, one of them does not
abbrev HasUntold : {D : Type 0} → (D → Option (List ℕ)) → List D → Type 0
HasUntold {D} seen disks = (k : ℕ) × (disk : D) × (slice_get disks k ≡ Some disk) × (seen disk ≡ None)

untold_first : {D : Type 0} (seen : D → Option (List ℕ)) (disk : D) (disks : List D) (held : Option (List ℕ)) → seen disk ≡ held
    → (list_all (λ d. is_some (seen d)) disks ≡ false → HasUntold seen disks) → list_all (λ d. is_some (seen d)) (disk ∷ disks) ≡ false → HasUntold seen (disk ∷ disks)
untold_first seen disk disks None is more none = (0, disk, refl, is)
untold_first seen disk disks (Some held) is more none =
    let rest = more (by (is_some (seen disk)) (ap is_some is) none) in (suc rest.0, rest.1, rest.2, rest.3)
  where
    by : (b : Bool) → b ≡ true → (b && list_all (λ d. is_some (seen d)) disks) ≡ false → list_all (λ d. is_some (seen d)) disks ≡ false
    by true told none = none
    by false told none = absurd (let never : false ≡ true = told in cc)

one_untold : {D : Type 0} (seen : D → Option (List ℕ)) (disks : List D) → list_all (λ disk. is_some (seen disk)) disks ≡ false → HasUntold seen disks
one_untold seen [] none = absurd (let never : true ≡ false = none in cc)
one_untold seen (disk ∷ disks) none = untold_first seen disk disks (seen disk) refl (one_untold seen disks) none

module _ {D : Type 0} (on : View D) (is_settled : D → Type 0) (plan : Plan) (taken disks given : List D) (start last : World D) (looked : AllLooked on.seen on.faults taken disks)
    (opened : Opened on is_settled plan disks start) (closed : given ≡ disks_of last) (handed : length (disks_of last) ≡ length (disks_of start)) where
  -- the store of one node, as it was taken, opened, left and given back
  record At (k : ℕ) : Type 0 where
    was : D
    first : D
    is : D
    taken_at : slice_get taken k ≡ Some was
    first_at : slice_get (disks_of start) k ≡ Some first
    last_at : slice_get (disks_of last) k ≡ Some is
    given_at : slice_get given k ≡ Some is
    alike : IsToldAlike (on.seen was) (on.seen first)
    quiet : on.faults first ≡ on.faults was

  at : (k : ℕ) → k < length (disks_of start) → At k
  at k within =
      let first = has_place (disks_of start) k within in
      let is = has_place (disks_of last) k (omega (arith, within, handed)) in
      let disk = has_place disks k (omega (arith, within, opened.handed.count)) in
      let was = looked_at on.seen on.faults taken disks looked k disk.0 disk.1 in
      record {
        was = was.0;
        first = first.0;
        is = is.0;
        taken_at = was.1;
        first_at = first.1;
        last_at = is.1;
        given_at = ap (λ l. slice_get l k) closed ∙ is.1;
        alike = opened.handed.told k disk.0 first.0 disk.1 first.1 ∙ ap is_some was.2.same;
        quiet = opened.quiet k disk.0 first.0 disk.1 first.1 ∙ was.2.quiet;
      }

  failed : (k : ℕ) (a : At k) → DiskFailed on.seen on.faults a.was a.is → NodeStoreFailed on.seen on.faults (suc k) taken given
  failed k a cause = record { old = a.was; new = a.is; was = a.taken_at; is = a.given_at; failed = cause }

  -- a store that did not tell what it holds
  pub untold_store : disks_tell on.seen start ≡ false → (node : ℕ) × NodeStoreFailed on.seen on.faults node taken given
  untold_store none =
      let one = one_untold on.seen (disks_of start) none in
      let a = at one.0 (slice_get_within (disks_of start) one.0 one.1 one.2) in
      let same : Some a.first ≡ Some one.1 = sym a.first_at ∙ one.2 in
      let first : a.first ≡ one.1 = cc in
      (suc one.0, failed one.0 a (inr (untold (on.seen a.was) (on.seen a.first) a.alike (ap on.seen first ∙ one.3))))

  -- a node that failed has its cause
  pub fell : (n : ℕ) → n ≢ 0 → n ≤ length (disks_of start) → HasFailed on start last n → (node : ℕ) × NodeStoreFailed on.seen on.faults node taken given
  fell zero some within cause = absurd (some refl)
  fell (suc k) some within cause =
      let a = at k (omega (arith, within)) in
      ⊎_elim
      (λ rose. (suc k, failed k a (inl (subst (λ n. Rose n (on.faults a.is)) a.quiet rose))))
      (λ rest. ⊎_elim (λ none. (suc k, failed k a (inr (untold (on.seen a.was) (on.seen a.first) a.alike none)))) untold_store rest)
      (cause a.first a.is a.first_at a.last_at)
