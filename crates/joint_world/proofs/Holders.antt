-- A set has a node, or it has none and counts none.
use Rattle.std.proofs.Common.{◌≡◌, ◌≤◌, ◌+◌, ℕ, zero, suc, Bool, true, false, cond, ◌&&◌, refl, sym, ap, ◌∙◌, arith, true≢false, nat_eq, nat_lt, ltb-true}
use Rattle.std.specs.Int.{bit_at}
use Rattle.std.proofs.lemmas.Bool.Decides.{nat_tests}
use Rattle.object_model.specs.Sets.{has, count_below, count_in}
use Rattle.login_model.specs.NodeLaws.{HasHolder}

some_below : (mask k c : ℕ) → count_below mask k ≡ suc c → HasHolder mask
unfolding count_below
some_below mask zero c e = absurd (cc e)
some_below mask (suc k) c e = by (λ f. some_below mask k c f) (has mask (suc k)) refl e
  where
    by : (count_below mask k ≡ suc c → HasHolder mask) → (b : Bool) → has mask (suc k) ≡ b → count_below mask k + cond b 1 0 ≡ suc c → HasHolder mask
    by rest true is f = (suc k, is)
    by rest false is f = rest (omega (arith, f))

none_below : (mask k : ℕ) → count_below mask k ≡ 0 → (m : ℕ) → has mask m ≡ true → m ≤ k → ⊥
unfolding count_below
none_below mask zero e m is le = true≢false (sym is ∙ ap (has mask) at)
  where
    at : m ≡ 0
    at = omega (arith, le)
none_below mask (suc k) e m is le = by (λ none below. none_below mask k none m is below) (has mask (suc k)) refl e
  where
    below : (m ≡ suc k → ⊥) → m ≤ k
    below other = omega (arith, le, other)

    by : (count_below mask k ≡ 0 → m ≤ k → ⊥) → (b : Bool) → has mask (suc k) ≡ b → count_below mask k + cond b 1 0 ≡ 0 → ⊥
    by rest true at f = absurd (omega (arith, f))
    by rest false at f = rest (omega (arith, f)) (below (λ same. true≢false (sym is ∙ ap (has mask) same ∙ at)))

within : (mask m : ℕ) → has mask m ≡ true → m ≤ 64
within mask zero is = omega arith
within mask (suc k) is = by (nat_lt k 64) refl is
  where
    by : (b : Bool) → nat_lt k 64 ≡ b → (b && nat_eq (bit_at mask k) 1) ≡ true → suc k ≤ 64
    by true lt h = ltb-true k 64 lt
    by false lt h = absurd (true≢false (sym h))

pub counts_none : (mask : ℕ) → (HasHolder mask → ⊥) → nat_eq (count_in mask) 0 ≡ true
counts_none mask nobody = by (count_in mask) refl
  where
    by : (c : ℕ) → count_in mask ≡ c → nat_eq c 0 ≡ true
    by zero e = refl
    by (suc c) e = absurd (nobody (some_below mask 64 c e))

never : (c : ℕ) → nat_eq (suc c) 0 ≡ false
never c = grind (arith, nat_tests)

pub counts_some : (mask : ℕ) → HasHolder mask → nat_eq (count_in mask) 0 ≡ false
counts_some mask (m, is) = by (count_in mask) refl
  where
    by : (c : ℕ) → count_in mask ≡ c → nat_eq c 0 ≡ false
    by zero e = absurd (none_below mask 64 e m is (within mask m is))
    by (suc c) e = never c
