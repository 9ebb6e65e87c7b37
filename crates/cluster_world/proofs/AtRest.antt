-- What it means that a world is at rest: each member of its latest epoch is live and owes nothing, whatever the disks tell.
use Rattle.std.proofs.Common.{◌≡◌, ◌≢◌, ◌⊎◌, ◌↔◌, inl, inr, ⊎_elim, ℕ, zero, suc, Bool, true, false, true≢false, not, ◌&&◌, nat_eq, List, [], ◌∷◌, length, Option, Some, None, refl, sym, ap, ◌∙◌, subst, arith, if◌then◌else◌, ◌<◌, ◌≤◌, nat_le, leb-true, leb-false}
use Rattle.std.specs.Prelude.{IsTrue, slice_get, nat_lt}
use Rattle.std.specs.List.{list_all}
use Rattle.std.proofs.lemmas.Bool.{and_parts, eqb-true, eq-eqb}
use Rattle.mail_model.specs.Identity.{EpochId}
use Rattle.object_model.specs.Keys.{is_same_epoch}
use Rattle.object_model.specs.Lists.{Among}
use Rattle.object_model.specs.Letters.{Member, Membership}
use Rattle.maps_model.specs.Epochs.{IsBefore}
use Rattle.whole_world.specs.Thrown.{is_before}
use Rattle.whole_world.proofs.Before.{before_true, true_before, before_false}
use Rattle.map_rebuild.specs.Users.{has_user}
use Rattle.map_rebuild.specs.Rows.{marked_users}
use Rattle.map_rebuild.proofs.AsMachine.{among_has}
use Rattle.node_core.specs.Nodes.{node_seen}
use Rattle.node_core.specs.Owing.{owes_another, OwesAnother}
use Rattle.node_core.proofs.Owing.{owes_words, none_owed}
use Rattle.node_maps.specs.Nodes.{node_of, is_within}
use Rattle.whole_node.specs.Nodes.{whole_seen}
use Rattle.whole_node.specs.Settling.{has_no_marks, OwesNobody}
use Rattle.whole_node.specs.declared.node.WholeNode.{WholeNode}
use Rattle.cluster_world.specs.Lives.{of_node}
use Rattle.cluster_world.specs.Settling.{installed_at, later_of, latest_since, latest_in, is_live_at, is_live_in, lower_of, absent_since, absent_in, owes_none, is_settled_at, all_settled, rest_by, rest_of, rest_in, IsAtRest, IsSettledMember, IsSettledIn, RestIsSettled}
use Rattle.cluster_world.specs.Worlds.{WorldState}
use Rattle.cluster_world.specs.declared.life.Life.{Life}
use Rattle.cluster_world.specs.declared.life.Life.TheVariants.{Up, Down, Lost}
use Rattle.cluster_world.specs.declared.settling.Rest.{Rest}
use Rattle.cluster_world.specs.declared.settling.Rest.TheVariants.{Absent, Calm, Owing}
use Rattle.cluster_world.proofs.Still.{some_same}

same_epoch : (a b : EpochId) → is_same_epoch a b ≡ true → a ≡ b
same_epoch a b e =
    let p = and_parts (nat_eq a.count b.count) (nat_eq a.node b.node) e in
    let counts : a.count ≡ b.count = eqb-true a.count b.count p.0 in
    let nodes : a.node ≡ b.node = eqb-true a.node b.node p.1 in
    λ i. record { count = counts i; node = nodes i }

epoch_self : (a b : EpochId) → a ≡ b → is_same_epoch a b ≡ true
epoch_self a b same = ap (λ t. t && nat_eq a.node b.node) (eq-eqb a.count b.count (ap (λ (x : EpochId). x.count) same)) ∙ eq-eqb a.node b.node (ap (λ (x : EpochId). x.node) same)

both_true : (a b : Bool) → a ≡ true → b ≡ true → (a && b) ≡ true
both_true true b p q = q
both_true false b p q = absurd (true≢false (sym p))

-- a node that owes nothing, as a test and in words
none_has : (users : List (List ℕ)) → length users ≡ 0 → (user : List ℕ) → has_user users user ≡ false
none_has [] none user = refl
none_has (one ∷ users) none user = absurd (omega (arith, none))

none_is : (users : List (List ℕ)) → ((user : List ℕ) → has_user users user ≡ false) → nat_eq (length users) 0 ≡ true
none_is [] none = refl
none_is (one ∷ users) none = absurd (true≢false (sym (among_has (one ∷ users) one (inl refl)) ∙ none one))

owed_not : (n : ℕ) (node : WholeNode) → IsTrue (not (owes_another n (node_seen node.mail))) ↔ (OwesAnother n (node_seen node.mail) → ⊥)
owed_not n node = none_owed (OwesAnother n (node_seen node.mail)) (owes_another n (node_seen node.mail)) (owes_words n (node_seen node.mail))

pub owes_in_words : (n : ℕ) (node : WholeNode) → owes_none n node ≡ true → OwesNobody n (whole_seen node)
owes_in_words n node e =
    let parts = and_parts (not (owes_another n (node_seen node.mail))) (has_no_marks node) e in
    record {
      log = (owed_not n node).0 parts.0;
      unmarked = none_has (marked_users node.maps.reports) (eqb-true (length (marked_users node.maps.reports)) 0 parts.1);
    }

pub owes_as_test : (n : ℕ) (node : WholeNode) → OwesNobody n (whole_seen node) → owes_none n node ≡ true
owes_as_test n node owes = both_true (not (owes_another n (node_seen node.mail))) (has_no_marks node) ((owed_not n node).1 owes.log) (none_is (marked_users node.maps.reports) owes.unmarked)

-- a node that is live
pub record LiveNode (o : Option Life) (epoch : EpochId) (boot : ℕ) : Type 0 where
  pub node : WholeNode
  pub up : o ≡ Some (Up node)
  pub boot_is : (node_of node.maps).boot ≡ boot
  pub own : Membership
  pub installed : (node_of node.maps).installed ≡ Some own
  pub epoch_is : own.epoch ≡ epoch

within_words : (installed : Option Membership) (epoch : EpochId) → is_within installed epoch ≡ true → (own : Membership) × (installed ≡ Some own) × (own.epoch ≡ epoch)
within_words None epoch e = absurd (true≢false (sym e))
within_words (Some own) epoch e = (own, refl, same_epoch own.epoch epoch e)

pub live_words : (o : Option Life) (epoch : EpochId) (boot : ℕ) → is_live_at epoch boot o ≡ true → LiveNode o epoch boot
live_words None epoch boot e = absurd (true≢false (sym e))
live_words (Some Down) epoch boot e = absurd (true≢false (sym e))
live_words (Some Lost) epoch boot e = absurd (true≢false (sym e))
live_words (Some (Up node)) epoch boot e =
    let p = and_parts (nat_eq (node_of node.maps).boot boot) (is_within (node_of node.maps).installed epoch) e in
    let (own, is, same) = within_words (node_of node.maps).installed epoch p.1 in
    record { node = node; up = refl; boot_is = eqb-true (node_of node.maps).boot boot p.0; own = own; installed = is; epoch_is = same }

pub live_test : (o : Option Life) (epoch : EpochId) (boot : ℕ) (node : WholeNode) (own : Membership) → o ≡ Some (Up node) → (node_of node.maps).boot ≡ boot → (node_of node.maps).installed ≡ Some own → own.epoch ≡ epoch → is_live_at epoch boot o ≡ true
live_test o epoch boot node own up boots is same =
    ap (is_live_at epoch boot) up
    ∙ both_true (nat_eq (node_of node.maps).boot boot) (is_within (node_of node.maps).installed epoch) (eq-eqb (node_of node.maps).boot boot boots) (ap (λ x. is_within x epoch) is ∙ epoch_self own.epoch epoch same)

settled_words : (n : ℕ) (o : Option Life) (node : WholeNode) → o ≡ Some (Up node) → is_settled_at n o ≡ true → OwesNobody n (whole_seen node)
settled_words n o node up e = owes_in_words n node (sym (ap (is_settled_at n) up) ∙ e)

-- who is absent
pub present_all : (lives : List Life) (epoch : EpochId) (found : Option ℕ) (members : List Member) → absent_since lives epoch found members ≡ None
    → (found ≡ None) × ((member : Member) → Among member members → is_live_in lives epoch member ≡ true)
present_all lives epoch found [] e = (e, λ member m. absurd m)
present_all lives epoch found (one ∷ members) e =
    let rest = present_all lives epoch (if is_live_in lives epoch one then found else lower_of found one.node) members e in
    let here = by (is_live_in lives epoch one) refl rest.0 in
    (here.0, λ member m. ⊎_elim (λ (same : one ≡ member). ap (λ (x : Member). is_live_in lives epoch x) (sym same) ∙ here.1) (λ later. rest.1 member later) m)
  where
    low_some : (o : Option ℕ) (n : ℕ) → lower_of o n ≡ None → ⊥
    low_some None n f = let never : Some n ≡ None = f in cc
    low_some (Some low) n f = let never : Some (if nat_lt n low then n else low) ≡ None = f in cc

    by : (b : Bool) → is_live_in lives epoch one ≡ b → (if b then found else lower_of found one.node) ≡ None → (found ≡ None) × (is_live_in lives epoch one ≡ true)
    by true is f = (f, is)
    by false is f = absurd (low_some found one.node f)

pub absent_none : (lives : List Life) (epoch : EpochId) (found : Option ℕ) (members : List Member) → ((member : Member) → Among member members → is_live_in lives epoch member ≡ true) → absent_since lives epoch found members ≡ found
absent_none lives epoch found [] live = refl
absent_none lives epoch found (one ∷ members) live =
    ap (λ (b : Bool). absent_since lives epoch (if b then found else lower_of found one.node) members) (live one (inl refl)) ∙ absent_none lives epoch found members (λ member m. live member (inr m))

all_words : (lives : List Life) (members : List Member) → all_settled lives members ≡ true → (member : Member) → Among member members → is_settled_at member.node (of_node lives member.node) ≡ true
all_words lives [] e member m = absurd m
all_words lives (one ∷ members) e member m =
    let p = and_parts (is_settled_at one.node (of_node lives one.node)) (all_settled lives members) e in
    ⊎_elim (λ (same : one ≡ member). ap (λ (x : Member). is_settled_at x.node (of_node lives x.node)) (sym same) ∙ p.0) (λ later. all_words lives members p.1 member later) m

all_test : (lives : List Life) (members : List Member) → ((member : Member) → Among member members → is_settled_at member.node (of_node lives member.node) ≡ true) → all_settled lives members ≡ true
all_test lives [] each = refl
all_test lives (one ∷ members) each = both_true (is_settled_at one.node (of_node lives one.node)) (all_settled lives members) (each one (inl refl)) (all_test lives members (λ member m. each member (inr m)))

-- how the latest epoch is
pub record CalmIn (lives : List Life) : Type 0 where
  pub membership : Membership
  pub latest : latest_in lives ≡ Some membership
  pub present : absent_in lives membership ≡ None
  pub settled : all_settled lives membership.members ≡ true

pub calm_words : (lives : List Life) → rest_of lives (latest_in lives) ≡ Calm → CalmIn lives
calm_words lives e = by (latest_in lives) refl e
  where
    in_epoch : (g : Membership) → latest_in lives ≡ Some g → (o : Option ℕ) → absent_in lives g ≡ o → (b : Bool) → all_settled lives g.members ≡ b → rest_by o b ≡ Calm → CalmIn lives
    in_epoch g is (Some n) absent b settled f = absurd (let never : Absent n ≡ Calm = f in cc)
    in_epoch g is None absent true settled f = record { membership = g; latest = is; present = absent; settled = settled }
    in_epoch g is None absent false settled f = absurd (let never : Owing ≡ Calm = f in cc)

    by : (o : Option Membership) → latest_in lives ≡ o → rest_of lives o ≡ Calm → CalmIn lives
    by None is f = absurd (let never : Absent 1 ≡ Calm = f in cc)
    by (Some g) is f = in_epoch g is (absent_in lives g) refl (all_settled lives g.members) refl f

module _ {D : Type 0} (state : WorldState D) where
  settled_there : IsAtRest state → IsSettledIn state
  settled_there rest =
      let c = calm_words state.lives rest.calm in
      record {
        membership = c.membership;
        latest = c.latest;
        members = λ member m.
            let l = live_words (of_node state.lives member.node) c.membership.epoch member.boot ((present_all state.lives c.membership.epoch None c.membership.members c.present).1 member m) in
            record {
              node = l.node;
              up = l.up;
              boot = l.boot_is;
              own = l.own;
              installed = l.installed;
              epoch = l.epoch_is;
              owes = settled_words member.node (of_node state.lives member.node) l.node l.up (all_words state.lives c.membership.members c.settled member m);
            };
        clear = rest.clear;
      }

  rests_there : IsSettledIn state → IsAtRest state
  rests_there s =
      let g = s.membership in
      let live = λ (member : Member) (m : Among member g.members). let x = s.members member m in live_test (of_node state.lives member.node) g.epoch member.boot x.node x.own x.up x.boot x.installed x.epoch in
      let settled = λ (member : Member) (m : Among member g.members). let x = s.members member m in ap (is_settled_at member.node) x.up ∙ owes_as_test member.node x.node x.owes in
      record {
        calm = ap (rest_of state.lives) s.latest ∙ ap (λ o. rest_by o (all_settled state.lives g.members)) (absent_none state.lives g.epoch None g.members live) ∙ ap (λ b. rest_by None b) (all_test state.lives g.members settled);
        clear = s.clear;
      }

pub rest_is_settled : (D : Type 0) → RestIsSettled D
rest_is_settled D state = (settled_there state, rests_there state)

-- The latest membership is installed at a node that is up.
pub record LatestAt (lives : List Life) (g : Membership) : Type 0 where
  pub place : ℕ
  pub node : WholeNode
  pub up : slice_get lives place ≡ Some (Up node)
  pub installed : (node_of node.maps).installed ≡ Some g

installed_words : (life : Life) (g : Membership) → installed_at life ≡ Some g → (node : WholeNode) × (life ≡ Up node) × ((node_of node.maps).installed ≡ Some g)
installed_words (Up node) g e = (node, refl, e)
installed_words Down g e = absurd (let never : None ≡ Some g = e in cc)
installed_words Lost g e = absurd (let never : None ≡ Some g = e in cc)

later_words : (a b : Option Membership) (g : Membership) → later_of a b ≡ Some g → (a ≡ Some g) ⊎ (b ≡ Some g)
later_words None b g e = inr e
later_words (Some one) None g e = inl e
later_words (Some one) (Some other) g e = by (is_before one.epoch other.epoch) e
  where
    by : (t : Bool) → (if t then Some other else Some one) ≡ Some g → (Some one ≡ Some g) ⊎ (Some other ≡ Some g)
    by true f = inr f
    by false f = inl f

latest_from : (found : Option Membership) (lives : List Life) (g : Membership) → latest_since found lives ≡ Some g → (found ≡ Some g) ⊎ LatestAt lives g
latest_from found [] g e = inl e
latest_from found (life ∷ lives) g e = ⊎_elim
    (λ now. ⊎_elim (λ was. inl was) (λ (here : installed_at life ≡ Some g). let (node, up, is) = installed_words life g here in inr (record { place = 0; node = node; up = ap Some up; installed = is })) (later_words found (installed_at life) g now))
    (λ (later : LatestAt lives g). inr (record { place = suc later.place; node = later.node; up = later.up; installed = later.installed }))
    (latest_from (later_of found (installed_at life)) lives g e)

pub latest_at : (lives : List Life) (g : Membership) → latest_in lives ≡ Some g → LatestAt lives g
latest_at lives g e = ⊎_elim (λ (never : None ≡ Some g). absurd (cc never)) (λ at. at) (latest_from None lives g e)

-- where nobody is absent
pub record PresentIn (lives : List Life) : Type 0 where
  pub membership : Membership
  pub latest : latest_in lives ≡ Some membership
  pub present : absent_in lives membership ≡ None

pub present_words : (lives : List Life) → ((n : ℕ) → rest_of lives (latest_in lives) ≡ Absent n → ⊥) → PresentIn lives
present_words lives never = by (latest_in lives) refl never
  where
    in_epoch : (g : Membership) → latest_in lives ≡ Some g → (o : Option ℕ) → absent_in lives g ≡ o → ((n : ℕ) → rest_by o (all_settled lives g.members) ≡ Absent n → ⊥) → PresentIn lives
    in_epoch g is (Some n) absent none = absurd (none n refl)
    in_epoch g is None absent none = record { membership = g; latest = is; present = absent }

    by : (o : Option Membership) → latest_in lives ≡ o → ((n : ℕ) → rest_of lives o ≡ Absent n → ⊥) → PresentIn lives
    by None is none = absurd (none 1 refl)
    by (Some g) is none = in_epoch g is (absent_in lives g) refl none

pub owing_present : (lives : List Life) → rest_of lives (latest_in lives) ≡ Owing → PresentIn lives
owing_present lives owing = present_words lives (λ n absent. let never : Owing ≡ Absent n = sym owing ∙ absent in cc)

-- How epochs are compared.
before_trans : (a b c : EpochId) → IsBefore a b → IsBefore b c → IsBefore a c
before_trans a b c (inl p) (inl q) = inl (omega (arith, p, q))
before_trans a b c (inl p) (inr (same, q)) = inl (omega (arith, p, same))
before_trans a b c (inr (same, p)) (inl q) = inl (omega (arith, q, same))
before_trans a b c (inr (same, p)) (inr (other, q)) = inr (same ∙ other, omega (arith, p, q))

before_self : (a : EpochId) → IsBefore a a → ⊥
before_self a (inl p) = omega (arith, p)
before_self a (inr (same, p)) = omega (arith, p)

not_before : (a b : EpochId) → is_before a b ≡ false → IsBefore a b → ⊥
not_before a b e p = true≢false (sym (before_true a b p) ∙ e)

at_most : (a b : ℕ) → (a < b → ⊥) → b ≤ a
at_most a b never = by (nat_le b a) refl
  where
    by : (t : Bool) → nat_le b a ≡ t → b ≤ a
    by true e = leb-true b a e
    by false e = absurd (never (leb-false b a e))

-- two of which none is before the other are one
pub one_epoch : (a b : EpochId) → is_before a b ≡ false → is_before b a ≡ false → a ≡ b
one_epoch a b p q =
    let x = at_most a.count b.count (λ less. not_before a b p (inl less)) in
    let y = at_most b.count a.count (λ less. not_before b a q (inl less)) in
    let counts : a.count ≡ b.count = omega (arith, x, y) in
    let z = at_most a.node b.node (λ less. not_before a b p (inr (counts, less))) in
    let t = at_most b.node a.node (λ less. not_before b a q (inr (sym counts, less))) in
    let nodes : a.node ≡ b.node = omega (arith, z, t) in
    λ i. record { count = counts i; node = nodes i }

pub most_or : (a b : EpochId) → is_before b a ≡ false → IsBefore a b ⊎ (a ≡ b)
most_or a b e = by (is_before a b) refl
  where
    by : (t : Bool) → is_before a b ≡ t → IsBefore a b ⊎ (a ≡ b)
    by true less = inl (true_before a b less)
    by false not_less = inr (one_epoch a b not_less e)

-- The latest is before none.
pub record LatestFrom (lives : List Life) (found : Option Membership) (x : Membership) : Type 0 where
  pub membership : Membership
  pub latest : latest_since found lives ≡ Some membership
  pub not_less : is_before membership.epoch x.epoch ≡ false

later_keeps : (z : Membership) (o : Option Membership) (x : Membership) → is_before z.epoch x.epoch ≡ false → (y : Membership) × (later_of (Some z) o ≡ Some y) × (is_before y.epoch x.epoch ≡ false)
later_keeps z None x e = (z, refl, e)
later_keeps z (Some other) x e = by (is_before z.epoch other.epoch) refl
  where
    by : (t : Bool) → is_before z.epoch other.epoch ≡ t → (y : Membership) × ((if t then Some other else Some z) ≡ Some y) × (is_before y.epoch x.epoch ≡ false)
    by true less = (other, refl, before_false other.epoch x.epoch (λ b. not_before z.epoch x.epoch e (before_trans z.epoch other.epoch x.epoch (true_before z.epoch other.epoch less) b)))
    by false not_less = (z, refl, e)

latest_keeps : (found : Option Membership) (lives : List Life) (x z : Membership) → found ≡ Some z → is_before z.epoch x.epoch ≡ false → LatestFrom lives found x
latest_keeps found [] x z is e = record { membership = z; latest = is; not_less = e }
latest_keeps found (life ∷ lives) x z is e =
    let (y, later, less) = later_keeps z (installed_at life) x e in
    let l = latest_keeps (later_of found (installed_at life)) lives x y (ap (λ (o : Option Membership). later_of o (installed_at life)) is ∙ later) less in
    record { membership = l.membership; latest = l.latest; not_less = l.not_less }

-- the first of both where it is not before the other
later_some : (found : Option Membership) (x : Membership) → (y : Membership) × (later_of found (Some x) ≡ Some y) × (is_before y.epoch x.epoch ≡ false)
later_some None x = (x, refl, before_false x.epoch x.epoch (before_self x.epoch))
later_some (Some z) x = by (is_before z.epoch x.epoch) refl
  where
    by : (t : Bool) → is_before z.epoch x.epoch ≡ t → (y : Membership) × ((if t then Some x else Some z) ≡ Some y) × (is_before y.epoch x.epoch ≡ false)
    by true less = (x, refl, before_false x.epoch x.epoch (before_self x.epoch))
    by false not_less = (z, refl, not_less)

latest_above : (found : Option Membership) (lives : List Life) (k : ℕ) (life : Life) (x : Membership) → slice_get lives k ≡ Some life → installed_at life ≡ Some x → LatestFrom lives found x
latest_above found [] k life x here is = absurd (let never : None ≡ Some life = here in cc)
latest_above found (one ∷ lives) zero life x here is =
    let (y, later, less) = later_some found x in
    let l = latest_keeps (later_of found (installed_at one)) lives x y (ap (later_of found) (ap installed_at (some_same one life here) ∙ is) ∙ later) less in
    record { membership = l.membership; latest = l.latest; not_less = l.not_less }
latest_above found (one ∷ lives) (suc k) life x here is =
    let l = latest_above (later_of found (installed_at one)) lives k life x here is in
    record { membership = l.membership; latest = l.latest; not_less = l.not_less }

pub latest_least : (lives : List Life) (k : ℕ) (node : WholeNode) (x : Membership) → slice_get lives k ≡ Some (Up node) → (node_of node.maps).installed ≡ Some x → LatestFrom lives None x
latest_least lives k node x here is = latest_above None lives k (Up node) x here is
