-- A world that is at rest is settled as the whole machine has it.
use Rattle.std.proofs.Common.{◌≡◌, inl, ℕ, Bool, true, false, Some, refl, sym, ap, ◌∙◌}
use Rattle.std.specs.FinMap as fin
use Rattle.mail_model.specs.Plan.{Plan}
use Rattle.object_model.specs.Lists.{Among}
use Rattle.object_model.specs.Sets.{has}
use Rattle.object_model.specs.Letters.{Member, Membership}
use Rattle.maps_model.specs.Cluster as maps
use Rattle.whole_world.specs.Settled.{IsLive, OwesNothing as WholeOwes, IsSettled, IsKnownEpoch}
use Rattle.whole_world.specs.World as whole_world
use Rattle.whole_world.proofs.Settling.{one_map_per_epoch}
use Rattle.node_store.specs.Disks.{View}
use Rattle.node_core.specs.Nodes.{node_seen}
use Rattle.node_maps.specs.Nodes.{node_of}
use Rattle.whole_node.specs.declared.node.WholeNode.{WholeNode}
use Rattle.joint_world.specs.World.{whole_world_of}
use Rattle.cluster_world.specs.Lives.{of_node}
use Rattle.cluster_world.specs.Settling.{IsSettledIn}
use Rattle.cluster_world.specs.Sound.{IsWhole}
use Rattle.cluster_world.specs.Worlds.{WorldState, state_of}
use Rattle.cluster_world.specs.declared.life.Life.TheVariants.{Up}
use Rattle.cluster_world.specs.declared.world.World.{World}
use Rattle.cluster_world.proofs.Righted.{latest_known}
use Rattle.cluster_world.proofs.Wholes.{as_whole, UpWhole, whole_up}

module _ {D : Type 0} (on : View D) (plan : Plan) (world : World D) (h : IsWhole on plan world) (s : IsSettledIn (state_of world)) where
  abbrev state : WorldState D
  state = state_of world

  abbrev v : whole_world.World
  v = whole_world_of h.v

  abbrev g : Membership
  g = s.membership

  -- a node that is up, in the whole machine
  there : (n : ℕ) (node : WholeNode) → of_node state.lives n ≡ Some (Up node) → UpWhole on v n node
  there n node up = whole_up on state v n node (world.nodes.disk_each ∙ sym world.nodes.all) (as_whole on plan world h) up

  record MemberThere (member : Member) : Type 0 where
    node : WholeNode
    up : of_node state.lives member.node ≡ Some (Up node)
    installed : (node_of node.maps).installed ≡ Some g
    owes : WholeOwes v g member

  member_there : (member : Member) → Among member g.members → MemberThere member
  member_there member m =
      let x = s.members member m in
      let u = there member.node x.node x.up in
      let known : IsKnownEpoch v x.own = inl (member.node, u.seen, u.disk, u.up, ap (λ (y : maps.Node). y.installed) u.maps ∙ x.installed) in
      let same : x.own ≡ g = one_map_per_epoch plan v h.sound.whole x.own g known (latest_known on plan world h g s.latest) x.epoch in
      let here : (node_of x.node.maps).installed ≡ Some g = x.installed ∙ ap Some same in
      let live : IsLive v g member = record {
        node = u.seen;
        disk = u.disk;
        up = u.up;
        boot = ap (λ (y : maps.Node). y.boot) u.maps ∙ x.boot;
        installed = ap (λ (y : maps.Node). y.installed) u.maps ∙ here;
      } in
      let mail_is : (node_seen x.node.mail).installed ≡ Some g =
      ap (λ y. y.installed) (sym u.mail) ∙ h.sound.whole.one_epoch.each member.node (whole_world.slot_up u.seen u.disk) u.up u.seen refl ∙ live.installed in
      record {
        node = x.node;
        up = x.up;
        installed = here;
        owes = record {
          live = live;
          owes = λ key entry stands other k apart. none_left (has entry.remaining other.node) (λ remains. x.owes.log (record {
            membership = g;
            installed = mail_is;
            member = other;
            inside = k;
            other = apart;
            key = key;
            entry = entry;
            stands = ap (λ y. fin.get y.log key) (sym u.mail) ∙ stands;
            remains = remains;
          }));
          unmarked = λ user. ap (λ (y : maps.Node). y.marked user) u.maps ∙ x.owes.unmarked user;
        };
      }
    where
      none_left : (b : Bool) → (b ≡ true → ⊥) → b ≡ false
      none_left true never = absurd (never refl)
      none_left false never = refl

  pub settled_there : IsSettled v g
  settled_there member m = (member_there member m).owes
