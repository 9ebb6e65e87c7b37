-- A cluster that opens in its first epoch is sound.
use Rattle.std.proofs.Common.{◌≡◌, ◌≢◌, ◌⊎◌, inl, inr, ◌<◌, ◌≤◌, ℕ, zero, suc, Bool, true, false, nat_eq, List, [], ◌∷◌, ◌++◌, map, Option, Some, None, refl, sym, ap, ◌∙◌, subst, le_refl, arith, if◌then◌else◌}
use Rattle.std.proofs.lemmas.Bool.{eqb-true}
use Rattle.std.proofs.lemmas.Bool.Decides.{eqb_tells}
use Rattle.std.specs.Prelude.{slice_get}
use Rattle.mail_model.specs.Identity.{EpochId, no_epoch}
use Rattle.mail_model.specs.Plan.{Plan}
use Rattle.object_model.specs.Letters.{Member, MapRow, Membership, Row}
use Rattle.cluster_model.specs.Cluster as mail
use Rattle.cluster_model.specs.Parts as mail_parts
use Rattle.cluster_model.specs.Starts.{first_epoch, first_members, first_membership}
use Rattle.cluster_model.specs.World as mail_world
use Rattle.cluster_model.specs.WorldLaws.{InPlan, fresh_slots, opening_world}
use Rattle.cluster_model.proofs.Opening.{opening_sound}
use Rattle.maps_model.specs.Cluster as maps
use Rattle.maps_model.specs.Cluster.{NamesNode, Comes, manager_of}
use Rattle.maps_model.specs.Epochs.{IsBefore, IsAtMost}
use Rattle.maps_model.specs.Moves.{NodeInOrder, IsInOrder}
use Rattle.maps_model.specs.Parts as maps_parts
use Rattle.maps_model.specs.Words as words
use Rattle.maps_model.specs.Words.{ManagersAreMembers}
use Rattle.maps_model.specs.Words.RowFor.{Stands as StandsRow, WillDrop, WillKeep, Ahead}
use Rattle.whole_model.specs.Whole.{Node, Slot, slot_at, mail_slot, maps_slot}
use Rattle.whole_model.specs.Whole.Life.{Up}
use Rattle.whole_world.specs.World.{mail_world_of}
use Rattle.whole_world.specs.Laws.{OneEpoch, Stands}
use Rattle.whole_world.specs.First.{first_maps, first_node, first_slot, first_slots, first_world}

-- a member of the first epoch
abbrev first : ℕ → Member
first n = record { node = n; boot = 1; was = no_epoch }

member_front : (xs ys : List Member) (n : ℕ) (m : Member) → maps.member_of xs n ≡ Some m → maps.member_of (xs ++ ys) n ≡ Some m
member_front [] ys n m e = absurd (cc e)
member_front (x ∷ xs) ys n m e = by (λ h. member_front xs ys n m h) (nat_eq x.node n) e
  where
    by : (maps.member_of xs n ≡ Some m → maps.member_of (xs ++ ys) n ≡ Some m) → (b : Bool) → (if b then Some x else maps.member_of xs n) ≡ Some m → (if b then Some x else maps.member_of (xs ++ ys) n) ≡ Some m
    by rest true e = e
    by rest false e = rest e

member_behind : (xs ys : List Member) (n : ℕ) → maps.member_of xs n ≡ None → maps.member_of (xs ++ ys) n ≡ maps.member_of ys n
member_behind [] ys n e = refl
member_behind (x ∷ xs) ys n e = by (λ h. member_behind xs ys n h) (nat_eq x.node n) e
  where
    by : (maps.member_of xs n ≡ None → maps.member_of (xs ++ ys) n ≡ maps.member_of ys n) → (b : Bool) → (if b then Some x else maps.member_of xs n) ≡ None → (if b then Some x else maps.member_of (xs ++ ys) n) ≡ maps.member_of ys n
    by rest true e = absurd (cc e)
    by rest false e = rest e

no_member : (k n : ℕ) → k < n → maps.member_of (first_members k) n ≡ None
no_member zero n less = refl
no_member (suc k) n less = member_behind (first_members k) (first (suc k) ∷ []) n (no_member k n (omega (arith, less))) ∙ by (nat_eq (suc k) n) (eqb_tells (suc k) n)
  where
    by : (b : Bool) → ((nat_eq (suc k) n ≡ true) × (suc k ≡ n)) ⊎ ((nat_eq (suc k) n ≡ false) × (suc k ≢ n)) → (if nat_eq (suc k) n then Some (first (suc k)) else None) ≡ None
    by b (inl same) = absurd (omega (arith, less, same.1))
    by b (inr other) = ap (λ (t : Bool). if t then Some (first (suc k)) else None) other.0

-- each node of the plan is a member
has_member : (k n : ℕ) → 1 ≤ n → n ≤ k → maps.member_of (first_members k) n ≡ Some (first n)
has_member zero n some within = absurd (omega (arith, some, within))
has_member (suc k) n some within = by (λ h. has_member k n some h) (eqb_tells (suc k) n)
  where
    by : (n ≤ k → maps.member_of (first_members k) n ≡ Some (first n)) → ((nat_eq (suc k) n ≡ true) × (suc k ≡ n)) ⊎ ((nat_eq (suc k) n ≡ false) × (suc k ≢ n))
        → maps.member_of (first_members (suc k)) n ≡ Some (first n)
    by rest (inl same) = member_behind (first_members k) (first (suc k) ∷ []) n (no_member k n (omega (arith, same.1)))
        ∙ ap (λ (t : Bool). if t then Some (first (suc k)) else None) same.0 ∙ ap (λ (m : ℕ). Some (first m)) same.1
    by rest (inr other) = member_front (first_members k) (first (suc k) ∷ []) n (first n) (rest (omega (arith, within, other.1)))

-- and nobody else is
found_last : (xs : List Member) (last : Member) (n : ℕ) (m : Member) → maps.member_of (xs ++ last ∷ []) n ≡ Some m → (maps.member_of xs n ≡ Some m) ⊎ ((last.node ≡ n) × (last ≡ m))
found_last [] last n m e = by (nat_eq last.node n) refl e
  where
    some : (a b : Member) → Some a ≡ Some b → a ≡ b
    some a b h = cc

    by : (b : Bool) → nat_eq last.node n ≡ b → (if b then Some last else None) ≡ Some m → (None ≡ Some m) ⊎ ((last.node ≡ n) × (last ≡ m))
    by true t e = inr (eqb-true last.node n t, some last m e)
    by false t e = inl e
found_last (x ∷ xs) last n m e = by (λ h. found_last xs last n m h) (nat_eq x.node n) e
  where
    by : (maps.member_of (xs ++ last ∷ []) n ≡ Some m → (maps.member_of xs n ≡ Some m) ⊎ ((last.node ≡ n) × (last ≡ m))) → (b : Bool)
        → (if b then Some x else maps.member_of (xs ++ last ∷ []) n) ≡ Some m → ((if b then Some x else maps.member_of xs n) ≡ Some m) ⊎ ((last.node ≡ n) × (last ≡ m))
    by rest true e = inl e
    by rest false e = rest e

pub found_first : (k n : ℕ) (m : Member) → maps.member_of (first_members k) n ≡ Some m → (m ≡ first n) × (1 ≤ n) × (n ≤ k)
found_first zero n m e = absurd (cc e)
found_first (suc k) n m e = by (λ h. found_first k n m h) (found_last (first_members k) (first (suc k)) n m e)
  where
    by : (maps.member_of (first_members k) n ≡ Some m → (m ≡ first n) × (1 ≤ n) × (n ≤ k)) → (maps.member_of (first_members k) n ≡ Some m) ⊎ ((suc k ≡ n) × (first (suc k) ≡ m))
        → (m ≡ first n) × (1 ≤ n) × (n ≤ suc k)
    by rest (inl front) = let r = rest front in (r.0, r.1, omega (arith, r.2))
    by rest (inr (same, is)) = (sym is ∙ ap first same, omega (arith, same), omega (arith, same))

-- each place has the first slot
module _ {X : Type 0} (f : Slot → X) (all : ℕ) (rows : List MapRow) where
  each_at : (nodes k : ℕ) (x : X) → slice_get (map f (first_slots all rows nodes)) k ≡ Some x → (f (first_slot all rows) ≡ x) × (suc k ≤ nodes)
  each_at zero k x e = absurd (cc e)
  each_at (suc n) zero x e = (some (f (first_slot all rows)) x e, one_more n)
    where
      some : (a b : X) → Some a ≡ Some b → a ≡ b
      some a b h = cc

      one_more : (n : ℕ) → 1 ≤ suc n
      one_more n = omega arith
  each_at (suc n) (suc k) x e = let r = each_at n k x e in (r.0, omega (arith, r.1))

  there : (nodes k : ℕ) → suc k ≤ nodes → slice_get (map f (first_slots all rows nodes)) k ≡ Some (f (first_slot all rows))
  there zero k less = absurd (omega (arith, less))
  there (suc n) zero less = refl
  there (suc n) (suc k) less = there n k (omega (arith, less))

-- messages see the opening of theirs
mail_first : (all : ℕ) (rows : List MapRow) (nodes : ℕ) → map mail_slot (first_slots all rows nodes) ≡ fresh_slots all rows nodes
mail_first all rows zero = refl
mail_first all rows (suc k) = ap (λ (s : List mail.Slot). mail_slot (first_slot all rows) ∷ s) (mail_first all rows k)

abbrev with_slots : List mail.Slot → mail_world.World
with_slots s = record { slots = s; flying = []; sent = 0; seconds = 0; book = [] }

one_some : 0 < 1
one_some = omega arith

before_self : (a : EpochId) → IsBefore a a → ⊥
before_self a (inl less) = omega (arith, less)
before_self a (inr same) = omega (arith, same.1)

module _ (nodes : ℕ) (rows : List MapRow) where
  abbrev g : Membership
  g = first_membership nodes rows

  abbrev slots : List maps.Slot
  slots = map maps_slot (first_slots nodes rows nodes)

  abbrev one : maps.Slot
  one = maps_slot (first_slot nodes rows)

  maps_at : (n : ℕ) (slot : maps.Slot) → maps.slot_at slots n ≡ Some slot → (one ≡ slot) × (1 ≤ n) × (n ≤ nodes)
  maps_at zero slot e = absurd (cc e)
  maps_at (suc k) slot e = let r = each_at maps_slot nodes rows nodes k slot e in (r.0, omega arith, r.1)

  maps_there : (n : ℕ) → 1 ≤ n → n ≤ nodes → maps.slot_at slots n ≡ Some one
  maps_there zero some within = absurd (omega (arith, some))
  maps_there (suc k) some within = there maps_slot nodes rows nodes k within

  node_is : (n : ℕ) (node : maps.Node) (disk : maps.Disk) → maps.slot_at slots n ≡ Some (maps.slot_up node disk) → first_maps nodes rows ≡ node
  node_is n node disk e = up (first_maps nodes rows) node (ap (λ (s : maps.Slot). s.life) (maps_at n (maps.slot_up node disk) e).0)
    where
      up : (a b : maps.Node) → maps.Life.Up a ≡ maps.Life.Up b → a ≡ b
      up a b h = cc

  disk_is : (n : ℕ) (node : maps.Node) (disk : maps.Disk) → maps.slot_at slots n ≡ Some (maps.slot_up node disk) → one.disk ≡ disk
  disk_is n node disk e = ap (λ (s : maps.Slot). s.disk) (maps_at n (maps.slot_up node disk) e).0

  installed_is : (a : Membership) → Some g ≡ Some a → g ≡ a
  installed_is a e = cc

  -- the first membership alone is known
  known_is : (a : Membership) → words.Known slots [] a → g ≡ a
  known_is a (inl h) = installed_is a (ap (λ (k : maps.Node). k.installed) (node_is h.n h.node h.disk h.here) ∙ h.is)
  known_is a (inr h) = absurd h.inside

  in_order : (n : ℕ) → 1 ≤ n → n ≤ nodes → NodeInOrder n (first_maps nodes rows) one.disk
  in_order n some within = record {
    booted = refl;
    promised = refl;
    heard = le_refl 1;
    installed = λ a e. subst (λ (m : Membership). IsAtMost m.epoch first_epoch × NamesNode m n 1) (installed_is a e)
        (inr refl, record { member = first n; is = has_member nodes n some within; same = refl });
    group = λ opened e. absurd (cc e);
    counted = λ opened e. absurd (cc e);
    joined = λ opened e. absurd (cc e);
  }

  over_first : 1 ≤ nodes → words.IsOver slots first_epoch
  over_first some = record { slot = one; here = maps_there 1 (le_refl 1) some; promised = inr refl; closed = λ opened e. absurd (cc e) }

  joined_first : (n boot : ℕ) (was : EpochId) → Comes g n boot was → words.JoinStands slots [] n boot first_epoch was
  joined_first n boot was c =
      let f = found_first nodes n c.member c.is in
      let boot_is : boot ≡ 1 = sym c.same ∙ ap (λ (m : Member). m.boot) f.0 in (
        record {
          slot = one;
          here = maps_there n f.1 f.2;
          begun = subst (λ b. b ≤ 1) (sym boot_is) (le_refl 1);
          promised = inr refl;
          still = λ its promised before. absurd (before_self first_epoch before);
        },
        inl (sym c.from ∙ ap (λ (m : Member). m.was) f.0),
      )

  -- no node has a row
  no_rows : (own : ℕ) (node : maps.Node) → first_maps nodes rows ≡ node → (a : Membership) (n boot : ℕ) (user : List ℕ) (row : Option Row) (epoch : EpochId) → words.RowFor own node a n boot user row epoch → row ≡ None
  no_rows own node is a n boot user row epoch (StandsRow installed row_is epoch_is) = row_is ∙ ap (λ (k : maps.Node). k.rows n boot user) (sym is)
  no_rows own node is a n boot user row epoch (WillDrop before comes kept row_is epoch_is) = row_is
  no_rows own node is a n boot user row epoch (WillKeep before comes kept row_is epoch_is) = row_is ∙ ap (λ (k : maps.Node). k.rows n boot user) (sym is)
  no_rows own node is a n boot user row epoch (Ahead keeps next installed before comes its manages row_is epoch_is) = row_is ∙ ap (λ (k : maps.Node). k.rows n boot user) (sym is)

  -- so what a manager has of a node agrees with it
  agrees : (n : ℕ) (user : List ℕ) (a b : EpochId) (row : Option Row) → row ≡ None → words.Agrees [] n user a b row 0 false false
  agrees n user a b row none = record {
    fits = λ told e. absurd (let never : None ≡ Some told = sym none ∙ e in cc);
    acked = λ letter m. absurd m;
    unmarked = λ _. inl (record { missing = none; empty = refl; silent = λ letter m. absurd m });
  }

  maps_sound : 1 ≤ nodes → ManagersAreMembers g → maps_parts.Sound (record { slots = slots; flying = [] })
  maps_sound some managers = record {
    order = record { each = λ n slot at. let r = maps_at n slot at in subst (λ (s : maps.Slot). IsInOrder n s.disk s.life) r.0 (in_order n r.1 r.2) };
    apart = record { each = λ letter m. absurd m };
    one = record {
      one = λ a b x y e. sym (known_is a x) ∙ known_is b y;
      over = λ a k. subst (λ (m : Membership). words.IsOver slots m.epoch) (known_is a k) (over_first some);
      counted = λ a k. subst (λ (m : Membership). 0 < m.epoch.count) (known_is a k) one_some;
      managers = λ a k. subst ManagersAreMembers (known_is a k) managers;
    };
    joins = record {
      named = λ a k n boot was c. subst (λ (m : Membership). words.JoinStands slots [] n boot m.epoch was) (known_is a k) (joined_first n boot was (subst (λ (m : Membership). Comes m n boot was) (sym (known_is a k)) c));
      joined = λ n node disk at opened e. absurd (no_group node opened (node_is n node disk at) e);
      joining = λ letter m. absurd m;
    };
    spoken = record {
      report_over = λ letter m. absurd m;
      ack_over = λ letter m. absurd m;
      reported = λ letter m. absurd m;
      acked = λ letter m. absurd m;
      rows = λ n node disk at m boot user row e. absurd (no_row node m boot user row (node_is n node disk at) e);
    };
    reported = record { to = λ letter m. absurd m; fits = λ n node disk at letter m. absurd m };
    told = record {
      each = λ n node disk at a installed user manager managed other its there row epoch for.
          subst (λ (k : maps.Node). words.Agrees [] n user a.epoch epoch row (k.version user) (disk.holds user) (k.marked user)) (node_is n node disk at)
          (subst (λ (d : maps.Disk). words.Agrees [] n user a.epoch epoch row 0 (d.holds user) false) (disk_is n node disk at)
          (agrees n user a.epoch epoch row (no_rows manager other (node_is manager other its there) a n node.boot user row epoch for)));
    };
  }
    where
      no_group : (node : maps.Node) (opened : maps.OpenGroup) → first_maps nodes rows ≡ node → node.group ≡ Some opened → ⊥
      no_group node opened is e = let never : None ≡ Some opened = ap (λ (k : maps.Node). k.group) is ∙ e in cc

      no_row : (node : maps.Node) (m boot : ℕ) (user : List ℕ) (row : Row) → first_maps nodes rows ≡ node → node.rows m boot user ≡ Some row → ⊥
      no_row node m boot user row is e = let never : None ≡ Some row = ap (λ (k : maps.Node). k.rows m boot user) is ∙ e in cc

  one_epoch : OneEpoch (first_slots nodes rows nodes)
  one_epoch = record { each = λ n slot at node up. by n slot at node up }
    where
      epochs : (node : Node) → first_node nodes rows ≡ node → node.mail.installed ≡ node.maps.installed
      epochs node is = subst (λ (k : Node). k.mail.installed ≡ k.maps.installed) is refl

      ups : (a b : Node) → Up a ≡ Up b → a ≡ b
      ups a b h = cc

      by : (n : ℕ) (slot : Slot) → slot_at (first_slots nodes rows nodes) n ≡ Some slot → (node : Node) → slot.life ≡ Up node → node.mail.installed ≡ node.maps.installed
      by zero slot at node up = absurd (cc at)
      by (suc k) slot at node up = epochs node (ups (first_node nodes rows) node (ap (λ (s : Slot). s.life) (here nodes k slot at) ∙ up))
        where
          some : (a b : Slot) → Some a ≡ Some b → a ≡ b
          some a b h = cc

          here : (m k : ℕ) (slot : Slot) → slice_get (first_slots nodes rows m) k ≡ Some slot → first_slot nodes rows ≡ slot
          here zero k slot e = absurd (cc e)
          here (suc m) zero slot e = some (first_slot nodes rows) slot e
          here (suc m) (suc k) slot e = here m k slot e

pub first_stands : (plan : Plan) (rows : List MapRow) → 1 ≤ plan.nodes → plan.nodes ≤ 64 → ManagersAreMembers (first_membership plan.nodes rows)
    → Stands plan (first_world plan.nodes rows) × (mail_world_of (first_world plan.nodes rows) ≡ opening_world plan.nodes rows)
first_stands plan rows some few managers =
    let opening = opening_sound plan.nodes plan.confirm rows few in
    let seen : map mail_slot (first_slots plan.nodes rows plan.nodes) ≡ fresh_slots plan.nodes rows plan.nodes = mail_first plan.nodes rows plan.nodes in (
      record {
        in_plan = subst (λ (s : List mail.Slot). InPlan plan.nodes s) (sym seen) opening.0;
        sound = record {
          mail = subst (λ (s : List mail.Slot). mail_parts.Sound plan.confirm (record { slots = s; flying = []; book = [] })) (sym seen) opening.1;
          maps = maps_sound plan.nodes rows some managers;
        };
        one_epoch = one_epoch plan.nodes rows;
      },
      ap with_slots seen,
    )
