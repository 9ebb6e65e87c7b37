-- What is settled in the whole machine is settled here; so a world where a cluster opens is at rest.
use Rattle.std.proofs.Common.{◌≡◌, ◌≢◌, ◌⊎◌, inl, inr, ⊎_elim, ℕ, zero, suc, ◌+◌, ◌≤◌, ◌<◌, Bool, true, false, true≢false, List, [], ◌∷◌, map, length, Option, Some, None, refl, sym, ap, ◌∙◌, subst, arith, if◌then◌else◌}
use Rattle.std.specs.Prelude.{slice_get}
use Rattle.std.specs.FinMap as fin
use Rattle.mail_model.specs.Plan.{Plan}
use Rattle.mail_model.specs.Record.{Record}
use Rattle.object_model.specs.Lists.{Among}
use Rattle.object_model.specs.Sets.{has}
use Rattle.object_model.specs.Letters.{Member, MapRow, Membership}
use Rattle.cluster_model.specs.Starts.{first_membership}
use Rattle.maps_model.specs.Cluster as maps
use Rattle.whole_model.specs.Whole as whole
use Rattle.whole_model.specs.Whole.{mail_slot, mail_life}
use Rattle.whole_world.specs.First.{first_node, first_slot, first_slots, first_world}
use Rattle.whole_world.specs.Laws.{Stands}
use Rattle.whole_world.specs.Settled.{IsSettled}
use Rattle.whole_world.specs.World as whole_world
use Rattle.whole_world.specs.World.{mail_world_of}
use Rattle.whole_world.specs.Thrown.{is_before}
use Rattle.whole_world.proofs.Along.{mail_here}
use Rattle.whole_world.proofs.FirstSettled.{first_settled}
use Rattle.joint_world.proofs.Opening.{first_all_stand}
use Rattle.node_store.specs.Disks.{View}
use Rattle.node_core.specs.Nodes.{node_seen}
use Rattle.node_core.specs.Owing.{OwesAnother}
use Rattle.node_maps.specs.Nodes.{node_of}
use Rattle.whole_node.specs.Starting.{first_map}
use Rattle.whole_node.specs.declared.node.WholeNode.{WholeNode}
use Rattle.cluster_world.specs.Lives.{of_node}
use Rattle.cluster_world.specs.Maps.{StandsForWhole}
use Rattle.cluster_world.specs.Opens.{IsAtBeginning}
use Rattle.cluster_world.specs.Rests.{OpeningIsAtRest}
use Rattle.cluster_world.specs.Settling.{installed_at, later_of, latest_since, latest_in, IsAtRest, IsSettledMember, IsSettledIn}
use Rattle.cluster_world.specs.Worlds.{WorldState, state_of, disks_tell}
use Rattle.cluster_world.specs.declared.life.Life.{Life}
use Rattle.cluster_world.specs.declared.life.Life.TheVariants.{Up, Down, Lost}
use Rattle.cluster_world.specs.declared.world.World.{World}
use Rattle.cluster_world.proofs.Joined.{node_up}
use Rattle.cluster_world.proofs.AtRest.{rest_is_settled}
use Rattle.cluster_world.proofs.Still.{some_same, both_at}
use Rattle.cluster_world.proofs.AtFirst.{first_managers}
use Rattle.cluster_world.proofs.Wholes.{UpWhole, whole_up}

same_up : (x y : whole.Node) → whole.Life.Up x ≡ whole.Life.Up y → x ≡ y
same_up x y e = cc

module _ {D : Type 0} (on : View D) (plan : Plan) (world : World D) (v : whole_world.World) (sound : Stands plan v) (st : StandsForWhole on (state_of world) v) where
  abbrev state : WorldState D
  state = state_of world

  even : length state.disks ≡ length state.lives
  even = world.nodes.disk_each ∙ sym world.nodes.all

  -- a node that is up there is up here
  pub record UpHere (n : ℕ) (seen : whole.Node) : Type 0 where
    pub node : WholeNode
    pub up : of_node state.lives n ≡ Some (Up node)
    pub mail : seen.mail ≡ node_seen node.mail
    pub maps_are : seen.maps ≡ node_of node.maps

  pub up_here : (n : ℕ) (seen : whole.Node) (disk : List Record) → whole_world.IsUp v n seen disk → UpHere n seen
  up_here n seen disk there =
      let (node, up) = node_up on state even (mail_world_of v) st.mail n (mail_slot (whole_world.slot_up seen disk)) seen.mail (mail_here v.slots n (whole_world.slot_up seen disk) there) refl in
      let u = whole_up on state v n node even st up in
      let same : u.seen ≡ seen = same_up u.seen seen (ap (λ (x : whole.Slot). x.life) (some_same (whole_world.slot_up u.seen u.disk) (whole_world.slot_up seen disk) (sym u.up ∙ there))) in
      record { node = node; up = up; mail = ap (λ (x : whole.Node). x.mail) (sym same) ∙ u.mail; maps_are = ap (λ (x : whole.Node). x.maps) (sym same) ∙ u.maps }

  pub settled_here : (g : Membership) → latest_in state.lives ≡ Some g → IsSettled v g → state.flying.flights ≡ [] → IsSettledIn state
  settled_here g latest settled clear = record {
    membership = g;
    latest = latest;
    members = member_here;
    clear = clear;
  }
    where
      member_here : (member : Member) → Among member g.members → IsSettledMember state g member
      member_here member m =
          let o = settled member m in
          let l = o.live in
          let h = up_here member.node l.node l.disk l.up in
          let mail_is : (node_seen h.node.mail).installed ≡ Some g = ap (λ y. y.installed) (sym h.mail) ∙ sound.one_epoch.each member.node (whole_world.slot_up l.node l.disk) l.up l.node refl ∙ l.installed in
          record {
            node = h.node;
            up = h.up;
            boot = ap (λ (y : maps.Node). y.boot) (sym h.maps_are) ∙ l.boot;
            own = g;
            installed = ap (λ (y : maps.Node). y.installed) (sym h.maps_are) ∙ l.installed;
            epoch = refl;
            owes = record {
              log = λ (a : OwesAnother member.node (node_seen h.node.mail)).
                  let same : a.membership ≡ g = some_same a.membership g (sym a.installed ∙ mail_is) in
                  true≢false (sym a.remains ∙ o.owes a.key a.entry (ap (λ y. fin.get y.log a.key) h.mail ∙ a.stands) a.member (subst (λ (x : Membership). Among a.member x.members) same a.inside) a.other);
              unmarked = λ user. ap (λ (y : maps.Node). y.marked user) (sym h.maps_are) ∙ o.unmarked user;
            };
          }

-- where all have installed one membership, it is the latest
later_same : (a : Option Membership) (g : Membership) → (a ≡ None) ⊎ (a ≡ Some g) → later_of a (Some g) ≡ Some g
later_same a g (inl none) = ap (λ (o : Option Membership). later_of o (Some g)) none
later_same a g (inr some) = ap (λ (o : Option Membership). later_of o (Some g)) some ∙ either (is_before g.epoch g.epoch)
  where
    either : (b : Bool) → (if b then Some g else Some g) ≡ Some g
    either true = refl
    either false = refl

latest_same : (found : Option Membership) (lives : List Life) (g : Membership) → found ≡ Some g → ((k : ℕ) (life : Life) → slice_get lives k ≡ Some life → installed_at life ≡ Some g) → latest_since found lives ≡ Some g
latest_same found [] g was all = was
latest_same found (life ∷ lives) g was all =
    latest_same (later_of found (installed_at life)) lives g (ap (later_of found) (all 0 life refl) ∙ later_same found g (inr was)) (λ k one here. all (suc k) one here)

pub all_latest : (lives : List Life) (g : Membership) → 0 < length lives → ((k : ℕ) (life : Life) → slice_get lives k ≡ Some life → installed_at life ≡ Some g) → latest_in lives ≡ Some g
all_latest [] g some all = absurd (omega (arith, some))
all_latest (life ∷ lives) g some all = latest_same (later_of None (installed_at life)) lives g (all 0 life refl) (λ k one here. all (suc k) one here)

as_many : {X Y : Type 0} (f : X → Y) (xs : List X) → length (map f xs) ≡ length xs
as_many f [] = refl
as_many f (x ∷ xs) = ap suc (as_many f xs)

first_is : (all : ℕ) (rows : List MapRow) (nodes k : ℕ) (slot : whole.Slot) → slice_get (first_slots all rows nodes) k ≡ Some slot → slot ≡ first_slot all rows
first_is all rows zero k slot e = absurd (cc e)
first_is all rows (suc n) zero slot e = some_same slot (first_slot all rows) (sym e)
first_is all rows (suc n) (suc k) slot e = first_is all rows n k slot e

module _ {D : Type 0} (on : View D) where
  pub opening_is_at_rest : OpeningIsAtRest on
  opening_is_at_rest plan world some few begins =
      let rows = first_map plan in
      let g = first_membership plan.nodes rows in
      let tells = disks_tell on.seen world in
      let f = first_all_stand plan tells rows some (omega (arith, few)) (first_managers plan some) in
      let v = first_world plan.nodes rows in
      let sound : Stands plan v = subst (Stands plan) f.1 f.0.whole in
      let st : StandsForWhole on (state_of world) v = subst (StandsForWhole on (state_of world)) f.1 (record { mail = begins.stands.mail; maps = begins.stands.maps }) in
      let lives = (state_of world).lives in
      let count : length lives ≡ length v.slots = sym st.mail.slots.count ∙ as_many mail_slot v.slots in
      let installed = λ (k : ℕ) (life : Life) (here : slice_get lives k ≡ Some life).
      let (slot, there) = both_at v.slots lives k life count here in
      let up : whole_world.IsUp v (suc k) (first_node plan.nodes rows) (first_slot plan.nodes rows).disk = there ∙ ap Some (first_is plan.nodes rows plan.nodes k slot there) in
      let h = up_here on plan world v sound st (suc k) (first_node plan.nodes rows) (first_slot plan.nodes rows).disk up in
      ap installed_at (some_same life (Up h.node) (sym here ∙ h.up)) ∙ ap (λ (y : maps.Node). y.installed) (sym h.maps_are) in
      let long : 0 < length lives = omega (arith, some, world.nodes.all, ap (λ (p : Plan). p.nodes) begins.plan_is) in
      (rest_is_settled D (state_of world)).1 (settled_here on plan world v sound st g (all_latest lives g long installed) (first_settled plan rows) begins.stands.mail.flying)
