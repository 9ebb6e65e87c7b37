-- In a plan of one node no call that reads ever waits: that node manages all users, and is all that anybody names.
use Rattle.std.proofs.Common.{◌≡◌, inl, inr, ⊎_elim, ◌≤◌, ◌<◌, ℕ, zero, suc, min, nat_eq, nat_lt, Bool, true, false, List, [], ◌∷◌, map, Option, Some, None, bit_and, refl, sym, ap, ◌∙◌, subst, arith, true≢false, if◌then◌else◌}
use Rattle.std.specs.Int.{bit_at}
use Rattle.std.proofs.lemmas.Bool.{and_parts, and_from, eq-eqb}
use Rattle.std.proofs.lemmas.Bool.Decides.{nat_tests}
use Rattle.std.proofs.lemmas.Nat.Bits.{bit_at_and, bit_at-lt}
use Rattle.mail_model.specs.Plan.{Plan}
use Rattle.mail_model.specs.Record.{Record}
use Rattle.object_model.specs.Lists.{Among}
use Rattle.object_model.specs.Sets.{has}
use Rattle.object_model.specs.Letters.{Member, Membership}
use Rattle.object_model.proofs.SetLaws.{has_none, has_with}
use Rattle.cluster_model.specs.Cluster.{set_of_members, members_in, members_of}
use Rattle.cluster_model.specs.Steps.{asked_of}
use Rattle.cluster_model.specs.World.{letters_of}
use Rattle.maps_model.specs.Cluster as maps
use Rattle.maps_model.specs.Laws.{named}
use Rattle.maps_model.specs.Cluster.{is_full}
use Rattle.maps_model.specs.Words.{Known}
use Rattle.whole_model.specs.Whole as whole
use Rattle.whole_world.proofs.Along.{maps_here}
use Rattle.login_model.specs.Cluster as login
use Rattle.joint_model.specs.Joint.{Node, Slot, slot_at, slot_up, whole_slot, read_node, user_named_in, user_manager_in}
use Rattle.joint_model.proofs.Kept.{whole_here}
use Rattle.joint_model.proofs.Settled.{maps_back, whole_back, set_has}
use Rattle.joint_world.specs.World.{World, whole_world_of, IsUp}
use Rattle.joint_world.specs.Laws.{Stands}
use Rattle.joint_world.proofs.Views.{mail_at}

-- a member is found by its number
found_member : (members : List Member) (member : Member) → Among member members → (first : Member) × (maps.member_of members member.node ≡ Some first)
found_member [] member m = absurd m
found_member (head ∷ members) member m = by (found_member members member) (nat_eq head.node member.node) refl
  where
    by : (Among member members → (first : Member) × (maps.member_of members member.node ≡ Some first)) → (b : Bool) → nat_eq head.node member.node ≡ b
        → (first : Member) × ((if b then Some head else maps.member_of members member.node) ≡ Some first)
    by rest true e = (head, refl)
    by rest false e = rest (⊎_elim (λ same. absurd (true≢false (sym (eq-eqb head.node member.node (ap (λ (x : Member). x.node) same)) ∙ e))) (λ later. later) m)

-- whom a node names is a member
named_member : (node : maps.Node) (user : List ℕ) (members : List Member) (m : ℕ) → Among m (named node user members) → (member : Member) × Among member members × (member.node ≡ m)
named_member node user [] m inside = absurd inside
named_member node user (head ∷ members) m inside =
    by (λ later. let r = named_member node user members m later in (r.0, inr r.1, r.2)) (is_full (node.rows head.node head.boot user)) inside
  where
    by : (Among m (named node user members) → (member : Member) × Among member (head ∷ members) × (member.node ≡ m)) → (b : Bool) → Among m (if b then head.node ∷ named node user members else named node user members)
        → (member : Member) × Among member (head ∷ members) × (member.node ≡ m)
    by behind true k = ⊎_elim (λ is. (head, inl refl, is)) behind k
    by behind false k = behind k

set_member : (members : List Member) (m : ℕ) → has (set_of_members members) m ≡ true → (member : Member) × Among member members × (member.node ≡ m)
set_member [] m h = absurd (true≢false (sym h ∙ has_none m))
set_member (head ∷ members) m h = ⊎_elim
    (λ later. let r = set_member members m later in (r.0, inr r.1, r.2))
    (λ is. (head, inl refl, sym is))
    (has_with (set_of_members members) head.node m h)

-- who is in both sets is in the second
in_second : (a b n : ℕ) → has (bit_and a b) n ≡ true → has b n ≡ true
in_second a b zero h = absurd (true≢false (sym h))
in_second a b (suc k) h =
    let parts = and_parts (nat_lt k 64) (nat_eq (bit_at (bit_and a b) k) 1) h in
    and_from (nat_lt k 64) (nat_eq (bit_at b k) 1) parts.0 (least (bit_at a k) (bit_at b k) (bit_at-lt b k) (sym (ap (λ x. nat_eq x 1) (bit_at_and a b k)) ∙ parts.1))
  where
    least : (x y : ℕ) → y < 2 → nat_eq (min x y) 1 ≡ true → nat_eq y 1 ≡ true
    least x y lt e = grind (arith, nat_tests)

module _ (plan : Plan) (tells : Bool) (one : plan.nodes ≡ 1) (story : List (List login.Slot)) (w : World) (stands : Stands plan tells story w) where
  -- there is no other node
  pub only_one : (n : ℕ) (slot : Slot) → slot_at w.slots n ≡ Some slot → n ≡ 1
  only_one n slot here = let p = stands.whole.in_plan n (whole.mail_slot (whole_slot slot)) (mail_at w n slot here) in at n p.some (subst (λ k. n ≤ k) one p.within)
    where
      at : (n : ℕ) → (n ≡ 0 → ⊥) → n ≤ 1 → n ≡ 1
      at zero some le = absurd (some refl)
      at (suc k) some le = omega (arith, le)

  module _ (n : ℕ) (node : Node) (disk : List Record) (up : IsUp w n node disk) where
    is_known : (g : Membership) → node.whole.maps.installed ≡ Some g → Known (map whole.maps_slot (whole_world_of w).slots) (letters_of w.flying) g
    is_known g installed = inl (record {
      n = n;
      node = node.whole.maps;
      disk = whole.maps_disk_of disk;
      here = maps_here (map whole_slot w.slots) n (whole_slot (slot_up node disk)) (whole_here w.slots n (slot_up node disk) up);
      is = installed;
    })

    member_one : (g : Membership) → node.whole.maps.installed ≡ Some g → (member : Member) → Among member g.members → member.node ≡ 1
    member_one g installed member inside =
        let first = found_member g.members member inside in
        let joined = (stands.whole.sound.maps.joins.named g (is_known g installed) member.node first.0.boot first.0.was (record { member = first.0; is = first.1; same = refl; from = refl })).0 in
        let seen = maps_back (map whole_slot w.slots) member.node joined.slot joined.here in
        let slot = whole_back w.slots member.node seen.0 seen.1 in
        only_one member.node slot.0 slot.1

    pub manager_one : (user : List ℕ) (m : ℕ) → (read_node tells node).manager user ≡ Some m → m ≡ 1
    manager_one user m managed = by node.whole.maps.installed refl managed
      where
        by : (o : Option Membership) → node.whole.maps.installed ≡ o → user_manager_in user o ≡ Some m → m ≡ 1
        by None installed e = absurd (cc e)
        by (Some g) installed e = let of = stands.whole.sound.maps.one.managers g (is_known g installed) user m e in sym of.is ∙ member_one g installed of.member of.inside

    pub named_one : (user : List ℕ) (m : ℕ) → has ((read_node tells node).named user) m ≡ true → m ≡ 1
    named_one user m h = by node.whole.maps.installed refl h
      where
        by : (o : Option Membership) → node.whole.maps.installed ≡ o → has (user_named_in node.whole.maps user o) m ≡ true → m ≡ 1
        by None installed e = absurd (true≢false (sym e ∙ has_none m))
        by (Some g) installed e =
            let r = named_member node.whole.maps user g.members m (set_has (named node.whole.maps user g.members) m e) in sym r.2 ∙ member_one g installed r.0 r.1

    pub asked_one : (holders m : ℕ) → has (asked_of node.whole.mail holders) m ≡ true → m ≡ 1
    asked_one holders m h = by node.whole.maps.installed refl
        (subst (λ o. has (members_in o) m ≡ true) (stands.whole.one_epoch.each n (whole_slot (slot_up node disk)) (whole_here w.slots n (slot_up node disk) up) node.whole refl) (in_second holders (members_of node.whole.mail) m h))
      where
        by : (o : Option Membership) → node.whole.maps.installed ≡ o → has (members_in o) m ≡ true → m ≡ 1
        by None installed e = absurd (true≢false (sym e ∙ has_none m))
        by (Some g) installed e = let r = set_member g.members m e in sym r.2 ∙ member_one g installed r.0 r.1
