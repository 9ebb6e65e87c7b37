-- What a settled epoch of the whole machine is to a cluster of all three machines, and that it stays settled where maps and logs stay.
use Rattle.std.proofs.Common.{◌≡◌, Bool, false, List, map, Some, refl, sym, ap, ◌∙◌, subst}
use Rattle.std.specs.FinMap as fin
use Rattle.mail_model.specs.Plan.{Plan}
use Rattle.mail_model.specs.Record.{Record}
use Rattle.object_model.specs.Lists.{Among}
use Rattle.object_model.specs.Sets.{has}
use Rattle.object_model.specs.Letters.{Member, Membership}
use Rattle.object_model.specs.UpdateLog.{Log}
use Rattle.object_model.proofs.Lists.{same_some}
use Rattle.maps_model.specs.Cluster as maps
use Rattle.whole_model.specs.Whole as whole
use Rattle.whole_model.specs.Whole.{maps_disk_of}
use Rattle.whole_world.specs.World as whole_world
use Rattle.whole_world.specs.Laws as whole_laws
use Rattle.whole_world.specs.Settled.{OwesNothing, IsSettled}
use Rattle.whole_world.proofs.Along.{mail_here, maps_here}
use Rattle.login_model.specs.Cluster as login
use Rattle.joint_model.specs.Joint.{Node, Life, Slot, slot_at, slot_up, whole_slot}
use Rattle.joint_model.specs.Joint.Life.{Up, Down, Lost}
use Rattle.joint_model.specs.Fresh as joint
use Rattle.joint_model.proofs.Kept.{whole_here}
use Rattle.joint_model.proofs.Settled.{whole_back, members_have}
use Rattle.joint_world.specs.World.{World, cluster_of, whole_world_of, IsUp}
use Rattle.settled_logins.proofs.Resting.{Rests, rests_at, up_so}

same_up : (a b : whole.Node) → whole.Life.Up a ≡ whole.Life.Up b → a ≡ b
same_up a b e = cc

-- who is up to the whole machine is up
record UpAs (slot : Slot) (n : whole.Node) (disk : List Record) : Type 0 where
  node : Node
  is : slot ≡ slot_up node disk
  same : node.whole ≡ n

up_as : (slot : Slot) (n : whole.Node) (disk : List Record) → whole_slot slot ≡ whole_world.slot_up n disk → UpAs slot n disk
up_as slot n disk e = by slot.life refl
  where
    disks : slot.disk ≡ disk
    disks = ap (λ (s : whole.Slot). s.disk) e

    lives : (life : Life) → slot.life ≡ life → (whole_slot (record { life = life; disk = slot.disk })).life ≡ whole.Life.Up n
    lives life is = ap (λ (l : Life). (whole_slot (record { life = l; disk = slot.disk })).life) (sym is) ∙ ap (λ (s : whole.Slot). s.life) e

    not_down : (pending : List Record) → whole.Life.Down pending ≡ whole.Life.Up n → ⊥
    not_down pending k = cc

    not_lost : whole.Life.Lost ≡ whole.Life.Up n → ⊥
    not_lost k = cc

    by : (life : Life) → slot.life ≡ life → UpAs slot n disk
    by (Up node) is = record { node = node; is = λ i. record { life = is i; disk = disks i }; same = same_up node.whole n (lives (Up node) is) }
    by (Down pending) is = absurd (not_down pending (lives (Down pending) is))
    by Lost is = absurd (not_lost (lives Lost is))

-- a member is up in the epoch
pub record MemberUp (w : World) (g : Membership) (member : Member) : Type 0 where
  pub owes : OwesNothing (whole_world_of w) g member
  pub node : Node
  pub disk : List Record
  pub up : IsUp w member.node node disk
  pub same : node.whole ≡ owes.live.node

pub member_up : (w : World) (g : Membership) → IsSettled (whole_world_of w) g → (member : Member) → Among member g.members → MemberUp w g member
member_up w g settled member m =
    let q = settled member m in
    let back = whole_back w.slots member.node (whole_world.slot_up q.live.node q.live.disk) q.live.up in
    let u = up_as back.0 q.live.node q.live.disk back.2 in
    record { owes = q; node = u.node; disk = q.live.disk; up = back.1 ∙ ap Some u.is; same = u.same }

pub in_epoch : (w : World) (g : Membership) (member : Member) (u : MemberUp w g member) → u.node.whole.maps.installed ≡ Some g
in_epoch w g member u = ap (λ (n : whole.Node). n.maps.installed) u.same ∙ u.owes.live.installed

module _ (w : World) (g : Membership) (settled : IsSettled (whole_world_of w) g) where
  pub as_joint : (tells : Bool) (story : List (List login.Slot)) → joint.IsSettled (cluster_of tells story w) g
  as_joint tells story = record {
    quiet = λ member m. let q = settled member m in record {
      node = q.live.node.maps;
      disk = maps_disk_of q.live.disk;
      here = maps_here (map whole_slot w.slots) member.node (whole_world.slot_up q.live.node q.live.disk) q.live.up;
      boot = q.live.boot;
      installed = q.live.installed;
      unmarked = q.unmarked;
    };
    logs = λ a b ha hb apart node disk at key entry h.
        let one = members_have g.members a ha in
        let other = members_have g.members b hb in
        let u = member_up w g settled one.0 one.1 in
        let there : slot_at w.slots one.0.node ≡ Some (slot_up node disk) = subst (λ n. slot_at w.slots n ≡ Some (slot_up node disk)) (sym one.2) at in
        let same : node ≡ u.node = node_same node u.node (ap (λ (s : Slot). s.life) (same_some (slot_at w.slots one.0.node) (slot_up node disk) (slot_up u.node u.disk) there u.up)) in
        subst (λ n. has entry.remaining n ≡ false) other.2
        (u.owes.owes key entry (ap (λ (n : whole.Node). fin.get n.mail.log key) (sym u.same) ∙ ap (λ (n : Node). fin.get n.whole.mail.log key) (sym same) ∙ h) other.0 other.1
        (λ e. apart (sym (sym other.2 ∙ e ∙ one.2))));
  }
    where
      node_same : (a b : Node) → ◌≡◌ {A = Life} (Up a) (Up b) → a ≡ b
      node_same a b e = cc

  pub members_of_plan : (plan : Plan) → whole_laws.Stands plan (whole_world_of w) → joint.AreOfPlan plan.nodes g
  members_of_plan plan stands member m =
      let q = settled member m in
      let p = stands.in_plan member.node (whole.mail_slot (whole_world.slot_up q.live.node q.live.disk)) (mail_here (map whole_slot w.slots) member.node (whole_world.slot_up q.live.node q.live.disk) q.live.up) in
      (p.some, p.within)

-- it stays settled where maps and logs stay
pub settled_on : (old new : World) (g : Membership) → Rests old new → IsSettled (whole_world_of old) g → IsSettled (whole_world_of new) g
settled_on old new g r settled member m =
    let u = member_up old g settled member m in
    let now = rests_at old new r member.node (slot_up u.node u.disk) u.up in
    let n = up_so now.0 u.node.whole.maps u.node.whole.mail.log u.disk now.2 in
    let maps_are : n.node.whole.maps ≡ u.owes.live.node.maps = n.maps_is ∙ ap (λ (x : whole.Node). x.maps) u.same in
    let logs_are : n.node.whole.mail.log ≡ u.owes.live.node.mail.log = n.log_is ∙ ap (λ (x : whole.Node). x.mail.log) u.same in
    record {
      live = record {
        node = n.node.whole;
        disk = u.disk;
        up = whole_here new.slots member.node (slot_up n.node u.disk) (now.1 ∙ ap Some n.is);
        boot = ap (λ (x : maps.Node). x.boot) maps_are ∙ u.owes.live.boot;
        installed = ap (λ (x : maps.Node). x.installed) maps_are ∙ u.owes.live.installed;
      };
      owes = λ key entry h other inside apart. u.owes.owes key entry (ap (λ (l : Log). fin.get l key) (sym logs_are) ∙ h) other inside apart;
      unmarked = λ user. ap (λ (x : maps.Node). x.marked user) maps_are ∙ u.owes.unmarked user;
    }
