-- Where a cluster opens, members alone manage users, and the world is sound.
use Rattle.std.proofs.Common.{◌≡◌, ⊎_elim, ℕ, zero, suc, ◌≤◌, ◌<◌, [], ◌∷◌, List, length, Option, Some, None, refl, sym, subst, arith}
use Rattle.std.specs.Prelude.{slice_get}
use Rattle.std.proofs.lemmas.List.{length-append}
use Rattle.mail_model.specs.Identity.{EpochId, no_epoch}
use Rattle.mail_model.specs.Plan.{Plan}
use Rattle.mail_base.specs.Buckets.{bucket_at}
use Rattle.object_model.specs.Letters.{Member, Claim, MapRow}
use Rattle.cluster_model.specs.Starts.{first_epoch, first_members, first_membership}
use Rattle.cluster_model.specs.WorldLaws.{opening_world}
use Rattle.maps_model.specs.Assign.{IsOfMembers, IsAssigned, ClaimedRow, FreeRow}
use Rattle.maps_model.specs.Cluster.{manager_in}
use Rattle.maps_model.specs.Words.{ManagersAreMembers}
use Rattle.whole_world.specs.First.{first_world}
use Rattle.whole_world.specs.Laws.{Stands}
use Rattle.whole_world.specs.Settled.{unopened_world}
use Rattle.whole_world.specs.Sweeps.{IsCharted}
use Rattle.whole_world.specs.World.{mail_world_of}
use Rattle.whole_world.proofs.Charting.{opens_charted}
use Rattle.whole_world.proofs.FirstSettled.{first_charted}
use Rattle.whole_world.proofs.InFirst.{first_stands}
use Rattle.whole_world.proofs.Opening.{opens}
use Rattle.user_map.proofs.Assigned.{some_map}
use Rattle.whole_node.specs.Starting.{first_map}
use Rattle.cluster_world.proofs.Still.{some_same}

-- whoever manages in a map that was assigned is a member
managing : (claims : List Claim) (members : List Member) (buckets : ℕ) (epoch : EpochId) (rows : List MapRow) → IsAssigned claims members buckets epoch rows
    → (bucket manager : ℕ) → manager_in (slice_get rows bucket) ≡ Some manager → IsOfMembers members manager
managing claims members buckets epoch rows a bucket manager e = by (slice_get rows bucket) refl e
  where
    by : (x : Option MapRow) → slice_get rows bucket ≡ x → manager_in x ≡ Some manager → IsOfMembers members manager
    by None f e = absurd (let never : None ≡ Some manager = e in cc)
    by (Some row) f e = subst (IsOfMembers members) (some_same row.manager manager e) (⊎_elim
        (λ (k : ClaimedRow claims members bucket row). subst (IsOfMembers members) (sym k.same_node) k.best.counts.of_member)
        (λ (v : FreeRow claims members epoch rows bucket row). v.least.of_member)
        (a.each bucket row f))

first_some : (nodes : ℕ) → 1 ≤ nodes → 0 < length (first_members nodes)
first_some zero some = absurd (omega (arith, some))
first_some (suc k) some = omega (arith, length-append (first_members k) (record { node = suc k; boot = 1; was = no_epoch } ∷ []))

pub first_managers : (plan : Plan) → 1 ≤ plan.nodes → ManagersAreMembers (first_membership plan.nodes (first_map plan))
first_managers plan some user manager h =
    managing [] (first_members plan.nodes) plan.buckets first_epoch (first_map plan) (some_map [] (first_members plan.nodes) plan.buckets first_epoch (first_some plan.nodes some))
    (bucket_at user (length (first_map plan))) manager h

-- A cluster that opens in its first epoch is sound, and so is one of no nodes.
pub first_world_stands : (plan : Plan) → plan.nodes ≤ 64 → Stands plan (first_world plan.nodes (first_map plan)) × (mail_world_of (first_world plan.nodes (first_map plan)) ≡ opening_world plan.nodes (first_map plan))
first_world_stands plan few = by plan.nodes refl
  where
    by : (nodes : ℕ) → plan.nodes ≡ nodes → Stands plan (first_world plan.nodes (first_map plan)) × (mail_world_of (first_world plan.nodes (first_map plan)) ≡ opening_world plan.nodes (first_map plan))
    by zero e = (
      subst (λ (k : ℕ). Stands plan (first_world k (first_map plan))) (sym e) (subst (λ (k : ℕ). Stands plan (unopened_world k)) e (opens plan few)),
      subst (λ (k : ℕ). mail_world_of (first_world k (first_map plan)) ≡ opening_world k (first_map plan)) (sym e) refl,
    )
    by (suc k) e = let some : 1 ≤ plan.nodes = omega (arith, e) in first_stands plan (first_map plan) some few (first_managers plan some)

-- and settling can count on it
pub first_world_charted : (plan : Plan) → 0 < plan.buckets → IsCharted plan (first_world plan.nodes (first_map plan))
first_world_charted plan some = by plan.nodes refl
  where
    by : (nodes : ℕ) → plan.nodes ≡ nodes → IsCharted plan (first_world plan.nodes (first_map plan))
    by zero e = subst (λ (k : ℕ). IsCharted plan (first_world k (first_map plan))) (sym e) (subst (λ (k : ℕ). IsCharted plan (unopened_world k)) e (opens_charted plan))
    by (suc k) e =
        let nodes : 1 ≤ plan.nodes = omega (arith, e) in
        first_charted plan (first_map plan) (some_map [] (first_members plan.nodes) plan.buckets first_epoch (first_some plan.nodes nodes)).size some
