-- When the machine sees the same node, and which of two epochs comes first.
use Rattle.std.proofs.Common.{◌≡◌, inl, inr, ◌+◌, ℕ, Bool, true, false, ◌&&◌, ◌||◌, nat_eq, nat_lt, List, None, refl, sym, ap, ◌∙◌, subst, arith}
use Rattle.std.proofs.lemmas.Bool.{and_parts, eqb-true, eq-eqb, ltb-true, lt-ltb}
use Rattle.mail_model.specs.Identity.{EpochId}
use Rattle.maps_model.specs.Epochs.{IsBefore, IsAtMost}
use Rattle.maps_model.specs.Cluster.{Disk}
use Rattle.maps_model.specs.Rules.{started}
use Rattle.user_map.specs.Plain.{is_before}
use Rattle.membership.specs.Groups.{Group, new_group, node_of_group}
use Rattle.mail_map.specs.Rows.{Rows, rows_of}
use Rattle.mail_map.specs.declared.map.MailMap.{MailMap}
use Rattle.map_rebuild.specs.Rows.{version_of, is_marked}
use Rattle.map_rebuild.specs.declared.reports.Reports.{Reports}

-- versions, marks and rows that agree everywhere make one node
pub same_node : (group : Group) (v w : List ℕ → ℕ) (m k : List ℕ → Bool) (r s : Rows) → ((u : List ℕ) → v u ≡ w u) → ((u : List ℕ) → m u ≡ k u) → ((n b : ℕ) (u : List ℕ) → r n b u ≡ s n b u)
    → node_of_group group v m r ≡ node_of_group group w k s
same_node group v w m k r s x y z = λ i. node_of_group group (λ u. x u i) (λ u. y u i) (λ n b u. z n b u i)

pub starts : (group : Group) (reports : Reports) (rows : MailMap) (own boot : ℕ) (promise : EpochId) → group ≡ new_group own boot promise
    → ((u : List ℕ) → version_of reports u ≡ 0) → ((u : List ℕ) → is_marked reports u ≡ false) → ((n b : ℕ) (u : List ℕ) → rows_of rows n b u ≡ None)
    → (image : Disk) → image.boot + 1 ≡ boot → image.promise ≡ promise → node_of_group group (version_of reports) (is_marked reports) (rows_of rows) ≡ started image
starts group reports rows own boot promise is v m r image at same =
    ap (λ g. node_of_group g (version_of reports) (is_marked reports) (rows_of rows)) is
    ∙ (λ i. record {
      boot = (sym at) i;
      promise = (sym same) i;
      heard = ((sym same) i).count;
      group = None;
      installed = None;
      version = λ u. v u i;
      marked = λ u. m u i;
      rows = λ n b u. r n b u i;
    })

or_true : (a b : Bool) → b ≡ true → (a || b) ≡ true
or_true true b e = refl
or_true false b e = e

both_true : (a b : Bool) → a ≡ true → b ≡ true → (a && b) ≡ true
both_true a b x y = ap (λ t. t && b) x ∙ y

pub before_true : (a b : EpochId) → IsBefore a b → is_before a b ≡ true
before_true a b (inl lt) = ap (λ t. t || (nat_eq a.count b.count && nat_lt a.node b.node)) (lt-ltb a.count b.count lt)
before_true a b (inr (same, lt)) = or_true (nat_lt a.count b.count) (nat_eq a.count b.count && nat_lt a.node b.node)
    (both_true (nat_eq a.count b.count) (nat_lt a.node b.node) (eq-eqb a.count b.count same) (lt-ltb a.node b.node lt))

before_is : (a b : EpochId) → is_before a b ≡ true → IsBefore a b
before_is a b e = by (nat_lt a.count b.count) refl e
  where
    by : (t : Bool) → nat_lt a.count b.count ≡ t → (t || (nat_eq a.count b.count && nat_lt a.node b.node)) ≡ true → IsBefore a b
    by true lt e = inl (ltb-true a.count b.count lt)
    by false lt e = let parts = and_parts (nat_eq a.count b.count) (nat_lt a.node b.node) e in inr (eqb-true a.count b.count parts.0, ltb-true a.node b.node parts.1)

not_both : (a b : EpochId) → IsBefore a b → IsBefore b a → ⊥
not_both a b (inl x) (inl y) = omega (arith, x, y)
not_both a b (inl x) (inr (e, y)) = omega (arith, x, e)
not_both a b (inr (e, x)) (inl y) = omega (arith, e, y)
not_both a b (inr (e, x)) (inr (f, y)) = omega (arith, x, y)

not_self : (a : EpochId) → IsBefore a a → ⊥
not_self a (inl x) = omega (arith, x)
not_self a (inr (e, x)) = omega (arith, x)

pub before_false : (a b : EpochId) → IsAtMost b a → is_before a b ≡ false
before_false a b most = by (is_before a b) refl
  where
    clash : IsBefore a b → IsAtMost b a → ⊥
    clash first (inl other) = not_both a b first other
    clash first (inr same) = not_self a (subst (λ x. IsBefore a x) same first)

    by : (t : Bool) → is_before a b ≡ t → t ≡ false
    by false e = refl
    by true e = absurd (clash (before_is a b e) most)
