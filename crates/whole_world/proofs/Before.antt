-- How epochs are compared.
use Rattle.std.proofs.Common.{◌≡◌, inl, inr, Bool, true, false, ◌||◌, ◌&&◌, refl, sym, ap, nat_eq, nat_lt, eq-eqb, true≢false}
use Rattle.std.proofs.lemmas.Bool.{ltb-true, lt-ltb, eqb-true}
use Rattle.mail_model.specs.Identity.{EpochId}
use Rattle.maps_model.specs.Epochs.{IsBefore}
use Rattle.whole_world.specs.Thrown.{is_before}

pub before_true : (a b : EpochId) → IsBefore a b → is_before a b ≡ true
before_true a b (inl less) = ap (λ t. t || (nat_eq a.count b.count && nat_lt a.node b.node)) (lt-ltb a.count b.count less)
before_true a b (inr (same, less)) = by (nat_lt a.count b.count) (nat_eq a.count b.count) (nat_lt a.node b.node) (eq-eqb a.count b.count same) (lt-ltb a.node b.node less)
  where
    by : (x y z : Bool) → y ≡ true → z ≡ true → (x || (y && z)) ≡ true
    by true y z p q = refl
    by false true z p q = q
    by false false z p q = absurd (true≢false (sym p))

pub true_before : (a b : EpochId) → is_before a b ≡ true → IsBefore a b
true_before a b e = by (nat_lt a.count b.count) (nat_eq a.count b.count) (nat_lt a.node b.node) refl refl refl e
  where
    by : (x y z : Bool) → nat_lt a.count b.count ≡ x → nat_eq a.count b.count ≡ y → nat_lt a.node b.node ≡ z → (x || (y && z)) ≡ true → IsBefore a b
    by true y z p q r e = inl (ltb-true a.count b.count p)
    by false true true p q r e = inr (eqb-true a.count b.count q, ltb-true a.node b.node r)
    by false true false p q r e = absurd (true≢false (sym e))
    by false false z p q r e = absurd (true≢false (sym e))

pub before_false : (a b : EpochId) → (IsBefore a b → ⊥) → is_before a b ≡ false
before_false a b never = by (is_before a b) refl
  where
    by : (x : Bool) → is_before a b ≡ x → x ≡ false
    by true e = absurd (never (true_before a b e))
    by false e = refl
