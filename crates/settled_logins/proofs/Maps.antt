-- In a settled epoch managers name exactly the fragments, and members agree, by the records of the disks.
use Rattle.std.proofs.Common.{◌≡◌, inl, ◌≤◌, ℕ, zero, suc, Bool, true, List, map, Some, refl, sym, ap, ◌∙◌, subst, le_trans}
use Rattle.mail_model.specs.Plan.{Plan}
use Rattle.mail_model.specs.Record.{Record}
use Rattle.object_model.specs.Lists.{Among}
use Rattle.object_model.specs.Said.{said}
use Rattle.object_model.specs.Sets.{has, nodes_in}
use Rattle.object_model.specs.Letters.{Member, Membership}
use Rattle.object_model.proofs.Lists.{same_some}
use Rattle.cluster_model.specs.Cluster.{set_of_members}
use Rattle.maps_model.specs.Cluster as maps
use Rattle.maps_model.specs.Words.{Known}
use Rattle.whole_model.specs.Whole as whole
use Rattle.whole_model.specs.Whole.{maps_disk_of}
use Rattle.whole_world.specs.Settled.{IsSettled}
use Rattle.whole_world.proofs.Along.{maps_here}
use Rattle.whole_world.proofs.Settling.{agree}
use Rattle.login_model.specs.Cluster as login
use Rattle.login_model.specs.Listing.{NamesHolders}
use Rattle.login_model.proofs.Reacts.{same_up}
use Rattle.joint_model.specs.Joint.{Slot, slot_at, slot_up, whole_slot, user_named_in, read_node, read_slot}
use Rattle.joint_model.proofs.Fresh.{names}
use Rattle.joint_model.proofs.Kept.{whole_here, read_here}
use Rattle.joint_model.proofs.Settled.{whole_back, members_have, have_members}
use Rattle.joint_world.specs.World.{World, whole_world_of, cluster_of}
use Rattle.joint_world.specs.Laws.{Stands}
use Rattle.standing_model.specs.Standing.{disk_at, OnDisk, HasExactly, HasFragment, MembersAgree}
use Rattle.settled_logins.specs.Reading.{disks_of}
use Rattle.settled_logins.specs.Laws.{TellsFragments}
use Rattle.settled_logins.proofs.Epochs.{MemberUp, member_up, in_epoch, as_joint, members_of_plan}
use Rattle.settled_logins.proofs.Named.{nodes_rise, named_shown}
use Rattle.settled_logins.proofs.Resting.{get_view, get_back, fuse}

-- the slot that has these records
on_slot : (w : World) (n : ℕ) (records : List Record) → disk_at (disks_of w) n ≡ Some records → (slot : Slot) × (slot_at w.slots n ≡ Some slot) × (slot.disk ≡ records)
on_slot w zero records e = absurd (cc e)
on_slot w (suc k) records e = get_back (λ (slot : Slot). slot.disk) w.slots k records e

of_slot : (w : World) (n : ℕ) (slot : Slot) → slot_at w.slots n ≡ Some slot → disk_at (disks_of w) n ≡ Some slot.disk
of_slot w zero slot e = absurd (cc e)
of_slot w (suc k) slot e = get_view (λ (slot : Slot). slot.disk) w.slots k slot e

module _ (plan : Plan) (tells : Bool) (story : List (List login.Slot)) (w : World) (stands : Stands plan tells story w) (g : Membership) (settled : IsSettled (whole_world_of w) g) (nodes : List ℕ)
    (exactly : HasExactly (set_of_members g.members) nodes) where
  pub agrees : MembersAgree (disks_of w) nodes
  agrees a b ma mb key state (records, at, says) target =
      let one = members_have g.members a ((exactly a).1 ma) in
      let other = members_have g.members b ((exactly b).1 mb) in
      let x = on_slot w a records at in
      let there = agree plan (whole_world_of w) stands.whole g settled one.0 other.0 one.1 other.1 (whole_slot x.0) (whole_here w.slots one.0.node x.0 (subst (λ n. slot_at w.slots n ≡ Some x.0) (sym one.2) x.1)) key state
      (subst (λ d. said key d ≡ Some state) (sym x.2) says) (subst (λ n. has state.targets n ≡ true) (sym other.2) target) in
      let y = whole_back w.slots other.0.node there.slot there.here in (
        y.0.disk,
        of_slot w b y.0 (subst (λ n. slot_at w.slots n ≡ Some y.0) other.2 y.1),
        record { other = there.held; says = subst (λ (s : whole.Slot). said key s.disk ≡ Some there.held) (sym y.2) there.says; value = there.same.value; stamp = there.same.stamp; targets = there.same.targets },
      )

  module _ (few : plan.nodes ≤ 64) (member : Member) (inside : Among member g.members) (user : List ℕ) (manager : ℕ) (managed : maps.manager_of g user ≡ Some manager) where
    u : MemberUp w g member
    u = member_up w g settled member inside

    h : NamesHolders (map (read_slot tells) w.slots) (set_of_members g.members) user manager
    h = names plan.confirm plan.nodes (cluster_of tells story w) (record { whole = stands.whole.sound; reads = stands.reads }) few g (as_joint w g settled tells story) (members_of_plan w g settled plan stands.whole)
        member.node u.node u.disk u.up (in_epoch w g member u) user manager managed

    abbrev wholes : List whole.Slot
    wholes = map whole_slot w.slots

    known : Known (map whole.maps_slot wholes) (cluster_of tells story w).flying g
    known = inl (record {
      n = member.node;
      node = u.node.whole.maps;
      disk = maps_disk_of u.disk;
      here = maps_here wholes member.node (whole_slot (slot_up u.node u.disk)) (whole_here w.slots member.node (slot_up u.node u.disk) u.up);
      is = in_epoch w g member u;
    })

    -- the manager is a member
    record Managing : Type 0 where
      one : Member
      among : Among one g.members
      is : one.node ≡ manager

    managing : Managing
    managing = let m = stands.whole.sound.maps.one.managers g known user manager managed in record { one = m.member; among = m.inside; is = m.is }

    m : MemberUp w g managing.one
    m = member_up w g settled managing.one managing.among

    there : slot_at w.slots manager ≡ Some (slot_up m.node m.disk)
    there = subst (λ n. slot_at w.slots n ≡ Some (slot_up m.node m.disk)) managing.is m.up

    -- whom it names
    set_is : h.node.named user ≡ user_named_in m.node.whole.maps user (Some g)
    set_is =
        let same : login.slot_up h.node h.disk ≡ read_slot tells (slot_up m.node m.disk) = same_some (login.slot_at (map (read_slot tells) w.slots) manager) (login.slot_up h.node h.disk) (read_slot tells (slot_up m.node m.disk)) h.here
        (read_here tells w.slots manager (slot_up m.node m.disk) there) in
        ap (λ (n : login.Node). n.named user) (same_up h.node (read_node tells m.node) (ap (λ (s : login.Slot). s.life) same)) ∙ ap (user_named_in m.node.whole.maps user) (in_epoch w g managing.one m)

    among_nodes : Among manager nodes
    among_nodes =
        let p = members_of_plan w g settled plan stands.whole managing.one managing.among in
        (exactly manager).0 (subst (λ n. has (set_of_members g.members) n ≡ true) managing.is (have_members g.members managing.one p.0 (le_trans p.1 few) managing.among))

    within : (most : ℕ) → plan.nodes ≤ most → (n : ℕ) → has (set_of_members g.members) n ≡ true → n ≤ most
    within most le n in_set =
        let one = members_have g.members n in_set in
        subst (λ k. k ≤ most) one.2 (le_trans (members_of_plan w g settled plan stands.whole one.0 one.1).1 le)

    pub tells_fragments : TellsFragments plan w g nodes user manager
    tells_fragments = record {
      member = managing.one;
      among = managing.among;
      same = managing.is;
      node = m.node;
      disk = m.disk;
      up = there;
      installed = in_epoch w g managing.one m;
      names = λ most le. record {
        manager = manager;
        nodes = nodes_in (user_named_in m.node.whole.maps user (Some g)) most;
        tells = refl;
        member = among_nodes;
        rising = nodes_rise (user_named_in m.node.whole.maps user (Some g)) most;
        exact = λ n. (
          λ inside_.
              let s = (named_shown (map (read_slot tells) w.slots) (set_of_members g.members) nodes user manager exactly h most (within most le) n).0 (subst (λ set. Among n (nodes_in set most)) (sym set_is) inside_) in
              (s.0, subst (λ (d : List (List Record)). OnDisk d n (HasFragment user)) same_disks s.1),
          λ holds. subst (λ set. Among n (nodes_in set most)) set_is
              ((named_shown (map (read_slot tells) w.slots) (set_of_members g.members) nodes user manager exactly h most (within most le) n).1
              (holds.0, subst (λ (d : List (List Record)). OnDisk d n (HasFragment user)) (sym same_disks) holds.1)),
        );
      };
    }
      where
        same_disks : map (λ (s : login.Slot). s.disk) (map (read_slot tells) w.slots) ≡ disks_of w
        same_disks = fuse (read_slot tells) (λ (s : login.Slot). s.disk) w.slots
