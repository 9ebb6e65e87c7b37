-- A world that is at rest and stands for a sound one of the whole machine has right maps.
use Rattle.std.proofs.Common.{◌≡◌, ◌≢◌, ◌⊎◌, inl, inr, ⊎_elim, ℕ, zero, suc, ◌+◌, ◌≤◌, ◌<◌, Bool, true, false, true≢false, List, [], ◌∷◌, length, Option, Some, None, refl, sym, ap, ◌∙◌, subst, arith}
use Rattle.std.specs.Prelude.{slice_get}
use Rattle.std.specs.FinMap as fin
use Rattle.std.proofs.Math.Nat.{mod-lt}
use Rattle.mail_model.specs.Identity.{Key, State}
use Rattle.mail_model.specs.Plan.{Plan}
use Rattle.mail_model.specs.Record.{Record}
use Rattle.mail_base.specs.Buckets.{bucket_at, hash_of}
use Rattle.object_model.specs.Lists.{Among}
use Rattle.object_model.specs.Sets.{has}
use Rattle.object_model.specs.UpdateLog.{Logged}
use Rattle.object_model.specs.Letters.{Member, Membership}
use Rattle.maps_model.specs.Cluster as maps
use Rattle.maps_model.specs.Laws.{named}
use Rattle.whole_model.specs.Whole as whole
use Rattle.whole_model.specs.Whole.{maps_disk_of}
use Rattle.whole_world.specs.Laws.{Stands}
use Rattle.whole_world.specs.Settled.{IsLive, OwesNothing as WholeOwes, IsSettled, IsKnownEpoch, fragments, Names}
use Rattle.whole_world.specs.Sweeps.{IsCharted}
use Rattle.whole_world.specs.World as whole_world
use Rattle.whole_world.proofs.Along.{maps_here}
use Rattle.whole_world.proofs.Quieting.{place_found}
use Rattle.whole_world.proofs.Settling.{one_map_per_epoch, names, agree}
use Rattle.node_store.specs.Disks.{View}
use Rattle.node_core.specs.Nodes.{node_seen}
use Rattle.node_core.specs.Owing.{OwesAnother}
use Rattle.node_maps.specs.Nodes.{node_of}
use Rattle.whole_node.specs.declared.node.WholeNode.{WholeNode}
use Rattle.joint_world.specs.World.{whole_world_of}
use Rattle.cluster_world.specs.Lasting.{WasDriven}
use Rattle.cluster_world.specs.Lives.{of_node}
use Rattle.cluster_world.specs.Maps.{StandsForWhole}
use Rattle.cluster_world.specs.Outcomes.{Outcome, Awaited}
use Rattle.cluster_world.specs.Rests.{IsManagedRight, HasRightMaps, RestsRight, SettledMapsAreRight}
use Rattle.cluster_world.specs.Settling.{latest_in, IsAtRest, IsSettledMember, IsSettledIn}
use Rattle.cluster_world.specs.Sound.{IsWhole}
use Rattle.cluster_world.specs.Worlds.{WorldState, state_of}
use Rattle.cluster_world.specs.declared.life.Life.TheVariants.{Up}
use Rattle.cluster_world.specs.declared.world.World.{World}
use Rattle.cluster_world.proofs.AtRest.{rest_is_settled, latest_at}
use Rattle.cluster_world.proofs.Still.{some_same}
use Rattle.cluster_world.proofs.Wholes.{as_whole, UpWhole, whole_up, world_is_whole}

has_manager : (g : Membership) (user : List ℕ) → 0 < length g.map → (manager : ℕ) × (maps.manager_of g user ≡ Some manager)
has_manager g user some = let p = place_found g.map (bucket_at user (length g.map)) (mod-lt (hash_of user) some) in (p.0.manager, ap maps.manager_in p.1)

length_positive : {a b : ℕ} → (a ≡ b) × (0 < b) → 0 < a
length_positive (e, p) = subst (λ k. 0 < k) (sym e) p

module _ {D : Type 0} (on : View D) (plan : Plan) (world : World D) (h : IsWhole on plan world) where
  abbrev state : WorldState D
  state = state_of world

  abbrev v : whole_world.World
  v = whole_world_of h.v

  even : length state.disks ≡ length state.lives
  even = world.nodes.disk_each ∙ sym world.nodes.all

  -- a node that is up, in the whole machine
  there : (n : ℕ) (node : WholeNode) → of_node state.lives n ≡ Some (Up node) → UpWhole on v n node
  there n node up = whole_up on state v n node even (as_whole on plan world h) up

  -- the latest epoch is known there
  pub latest_known : (g : Membership) → latest_in state.lives ≡ Some g → IsKnownEpoch v g
  latest_known g latest =
      let at = latest_at state.lives g latest in
      let u = there (suc at.place) at.node at.up in
      inl (suc at.place, u.seen, u.disk, u.up, ap (λ (x : maps.Node). x.installed) u.maps ∙ at.installed)

  -- so it has a member: whoever manages some user
  pub has_member : (g : Membership) → latest_in state.lives ≡ Some g → (member : Member) × Among member g.members
  has_member g latest =
      let at = latest_at state.lives g latest in
      let u = there (suc at.place) at.node at.up in
      let (manager, its) = has_manager g [] (length_positive (h.charted.mapped g (latest_known g latest))) in
      let of_it = h.sound.whole.sound.maps.one.managers g (inl (record {
        n = suc at.place;
        node = u.seen.maps;
        disk = maps_disk_of u.disk;
        here = maps_here v.slots (suc at.place) (whole_world.slot_up u.seen u.disk) u.up;
        is = ap (λ (x : maps.Node). x.installed) u.maps ∙ at.installed;
      })) [] manager its in
      (of_it.member, of_it.inside)

  -- who is settled here is settled there
  module _ (s : IsSettledIn state) where
    abbrev g : Membership
    g = s.membership

    record Member_there (member : Member) : Type 0 where
      node : WholeNode
      up : of_node state.lives member.node ≡ Some (Up node)
      installed : (node_of node.maps).installed ≡ Some g
      owes : WholeOwes v g member

    member_there : (member : Member) → Among member g.members → Member_there member
    member_there member m =
        let x = s.members member m in
        let u = there member.node x.node x.up in
        let known : IsKnownEpoch v x.own = inl (member.node, u.seen, u.disk, u.up, ap (λ (y : maps.Node). y.installed) u.maps ∙ x.installed) in
        let same : x.own ≡ g = one_map_per_epoch plan v h.sound.whole x.own g known (latest_known g s.latest) x.epoch in
        let here : (node_of x.node.maps).installed ≡ Some g = x.installed ∙ ap Some same in
        let live : IsLive v g member = record {
          node = u.seen;
          disk = u.disk;
          up = u.up;
          boot = ap (λ (y : maps.Node). y.boot) u.maps ∙ x.boot;
          installed = ap (λ (y : maps.Node). y.installed) u.maps ∙ here;
        } in
        let mail_is : (node_seen x.node.mail).installed ≡ Some g =
        ap (λ y. y.installed) (sym u.mail) ∙ h.sound.whole.one_epoch.each member.node (whole_world.slot_up u.seen u.disk) u.up u.seen refl ∙ live.installed in
        record {
          node = x.node;
          up = x.up;
          installed = here;
          owes = record {
            live = live;
            owes = λ key entry stands other k apart. none_left (has entry.remaining other.node) (λ remains. x.owes.log (record {
              membership = g;
              installed = mail_is;
              member = other;
              inside = k;
              other = apart;
              key = key;
              entry = entry;
              stands = ap (λ y. fin.get y.log key) (sym u.mail) ∙ stands;
              remains = remains;
            }));
            unmarked = λ user. ap (λ (y : maps.Node). y.marked user) u.maps ∙ x.owes.unmarked user;
          };
        }
      where
        none_left : (b : Bool) → (b ≡ true → ⊥) → b ≡ false
        none_left true never = absurd (never refl)
        none_left false never = refl

    settled_there : IsSettled v g
    settled_there member m = (member_there member m).owes

    -- each user's manager
    managed : (user : List ℕ) → IsManagedRight on state v g user
    managed user =
        let known = latest_known g s.latest in
        let (manager, its) = has_manager g user (length_positive (h.charted.mapped g known)) in
        let at = latest_at state.lives g s.latest in
        let u = there (suc at.place) at.node at.up in
        let of_it = h.sound.whole.sound.maps.one.managers g (inl (record {
          n = suc at.place;
          node = u.seen.maps;
          disk = maps_disk_of u.disk;
          here = maps_here v.slots (suc at.place) (whole_world.slot_up u.seen u.disk) u.up;
          is = ap (λ (x : maps.Node). x.installed) u.maps ∙ at.installed;
        })) user manager its in
        let named_there : Names v g user manager = names plan v h.sound.whole g settled_there of_it.member of_it.inside user manager its in
        let m = member_there of_it.member of_it.inside in
        let um = there of_it.member.node m.node m.up in
        let same : whole_world.slot_up named_there.node named_there.disk ≡ whole_world.slot_up um.seen um.disk =
        some_same (whole_world.slot_up named_there.node named_there.disk) (whole_world.slot_up um.seen um.disk) (sym named_there.up ∙ ap (whole.slot_at v.slots) (sym of_it.is) ∙ um.up) in
        let maps_are : named_there.node.maps ≡ node_of m.node.maps = ap (λ (x : whole.Node). x.maps) (same_up named_there.node um.seen (ap (λ (x : whole.Slot). x.life) same)) ∙ um.maps in
        record {
          member = of_it.member;
          among = of_it.inside;
          is = its ∙ ap Some (sym of_it.is);
          node = m.node;
          up = m.up;
          installed = m.installed;
          names = ap (λ (x : maps.Node). named x user g.members) (sym maps_are) ∙ named_there.same;
        }
      where
        same_up : (x y : whole.Node) → whole.Life.Up x ≡ whole.Life.Up y → x ≡ y
        same_up x y e = cc

    pub right_there : HasRightMaps on state
    right_there = record {
      v = h.v;
      stands = h.stands;
      membership = g;
      latest = s.latest;
      users = managed;
      agree = λ a b ma mb slot here key state says target. agree plan v h.sound.whole g settled_there a b ma mb slot here key state says target;
    }

module _ {D : Type 0} (on : View D) where
  pub rests_right : RestsRight on
  rests_right plan world h rest = right_there on plan world h ((rest_is_settled D (state_of world)).0 rest)

  pub settled_maps_are_right : SettledMapsAreRight on
  settled_maps_are_right plan lines outcomes left start last d rest = rests_right plan last (world_is_whole on plan lines outcomes left start last d) rest
