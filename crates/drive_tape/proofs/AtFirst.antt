-- How the nodes of a world are as it begins, and that a node is lost only by a run line.
use Rattle.std.proofs.Common.{◌≡◌, ◌≢◌, ◌<◌, ◌≤◌, ℕ, zero, suc, nat_eq, nat_lt, Bool, true, false, ◌||◌, List, [], ◌∷◌, length, Some, refl, sym, ap, ◌∙◌, subst, arith}
use Rattle.std.specs.Prelude.{slice_get}
use Rattle.std.proofs.lemmas.Bool.Decides.{nat_tests}
use Rattle.mail_model.specs.Plan.{Plan}
use Rattle.object_model.specs.Letters.{MapRow}
use Rattle.session_model.specs.Events.NodeLife.{Up}
use Rattle.session_model.specs.Run.{is_no_node}
use Rattle.cluster_model.specs.Cluster as plain
use Rattle.cluster_model.specs.World as machine
use Rattle.cluster_model.specs.WorldLaws.{fresh_slot, fresh_slots}
use Rattle.node_store.specs.Disks.{View}
use Rattle.whole_node.specs.Starting.{first_map}
use Rattle.cluster_world.specs.Lives.{life_seen}
use Rattle.cluster_world.specs.Stands.{SlotStands, SlotsStand}
use Rattle.cluster_world.specs.Worlds.{plan_of, life_of, disks_of, lives_of, seen_life}
use Rattle.cluster_world.specs.Opens.{IsAtBeginning}
use Rattle.cluster_world.specs.declared.life.Life.{Life}
use Rattle.cluster_world.specs.declared.life.Life.TheVariants as life
use Rattle.cluster_world.specs.declared.world.World.{World}
use Rattle.cluster_world.proofs.Leading.{opens_whole}

-- as a world begins

get_within : {X : Type 0} (xs : List X) (k : ℕ) → k < length xs → (x : X) × (slice_get xs k ≡ Some x)
get_within [] k within = absurd (omega (arith, within))
get_within (x ∷ xs) zero within = (x, refl)
get_within (x ∷ xs) (suc k) within = get_within xs k (omega (arith, within))

fresh_at : (nodes n k : ℕ) (rows : List MapRow) → k < n → slice_get (fresh_slots nodes rows n) k ≡ Some (fresh_slot nodes rows)
fresh_at nodes zero k rows within = absurd (omega (arith, within))
fresh_at nodes (suc n) zero rows within = refl
fresh_at nodes (suc n) (suc k) rows within = fresh_at nodes n k rows (omega (arith, within))

up_first : {D : Type 0} (on : View D) (own nodes : ℕ) (rows : List MapRow) (one : Life) (disk : D) → SlotStands on own one disk (fresh_slot nodes rows) → life_seen one ≡ Up 1
up_first on own nodes rows (life.Up node) disk stands =
    let same : plain.Life.Up stands.0 ≡ (fresh_slot nodes rows).life = sym stands.1 in
    ap Up (ap (λ (s : plain.Node). s.boot) stands.2.seen_is ∙ boot_is stands.0 (fresh_slot nodes rows).life same)
  where
    boot_of : plain.Life → ℕ
    boot_of (plain.Life.Up seen) = seen.boot
    boot_of (plain.Life.Down pending) = 0
    boot_of plain.Life.Lost = 0

    boot_is : (seen : plain.Node) (of : plain.Life) → plain.Life.Up seen ≡ of → seen.boot ≡ boot_of of
    boot_is seen of same = ap boot_of same
up_first on own nodes rows life.Down disk stands = absurd (let never : (fresh_slot nodes rows).life ≡ plain.Life.Down stands.0 = stands.1 in cc)
up_first on own nodes rows life.Lost disk stands = absurd (let never : (fresh_slot nodes rows).life ≡ plain.Life.Lost = stands.0 in cc)

-- nodes that stand for fresh slots, whichever map their epoch has
fresh_life : {D : Type 0} (on : View D) (nodes : ℕ) (rows : List MapRow) (lives : List Life) (disks : List D) (k : ℕ) → SlotsStand on lives disks (fresh_slots nodes rows nodes) → k < nodes → k < length lives → k < length disks
    → seen_life (slice_get lives k) ≡ Up 1
fresh_life on nodes rows lives disks k stands within alive there =
    let one = get_within lives k alive in
    let disk = get_within disks k there in
    ap seen_life one.1 ∙ up_first on (suc k) nodes rows one.0 disk.0 (stands.each k one.0 disk.0 (fresh_slot nodes rows) one.1 disk.1 (fresh_at nodes nodes k rows within))

-- each node is up in its first boot
pub first_lives : {D : Type 0} (on : View D) (plan : Plan) (world : World D) → IsAtBeginning on plan world → (n : ℕ) → 1 ≤ n → n ≤ (plan_of world).nodes → life_of world n ≡ Up 1
first_lives on plan world begins zero above within = absurd (omega (arith, above))
first_lives on plan world begins (suc k) above within =
    let nodes : (plan_of world).nodes ≡ plan.nodes = ap (λ (p : Plan). p.nodes) begins.plan_is in
    let slots : SlotsStand on (lives_of world) (disks_of world) (fresh_slots plan.nodes (first_map plan) plan.nodes) =
    subst (λ (w : machine.World). SlotsStand on (lives_of world) (disks_of world) w.slots) (opens_whole on plan world begins).2 begins.stands.mail.slots in
    fresh_life on plan.nodes (first_map plan) (lives_of world) (disks_of world) k slots (omega (arith, within, nodes)) (omega (arith, within, world.nodes.all)) (omega (arith, within, world.nodes.disk_each))

-- a number that is that of a node
pub node_within : (plan : Plan) (n : ℕ) → is_no_node plan n ≡ false → (1 ≤ n) × (n ≤ plan.nodes)
node_within plan n = by (nat_eq n 0) (nat_lt plan.nodes n) refl refl
  where
    by : (a b : Bool) → nat_eq n 0 ≡ a → nat_lt plan.nodes n ≡ b → (a || b) ≡ false → (1 ≤ n) × (n ≤ plan.nodes)
    by true b is past none = absurd (let never : true ≡ false = none in cc)
    by false true is past none = absurd (let never : true ≡ false = none in cc)
    by false false is past none = (let some : n ≢ 0 = grind (arith, nat_tests, is) in above n some, grind (arith, nat_tests, past))
      where
        above : (m : ℕ) → m ≢ 0 → 1 ≤ m
        above zero not_zero = absurd (not_zero refl)
        above (suc m) not_zero = omega arith
