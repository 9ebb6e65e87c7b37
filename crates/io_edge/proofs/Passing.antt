-- How the images of a disk pass on from one call to the next.
use Rattle.std.proofs.Common.{inl, inr, ⊎_elim, ℕ, List, arith}
use Rattle.io_edge.specs.Moments.{Clock, Passed, Keeps, IsTornFrom, Tears}

module _ {D : Type 0} (clock : Clock D) where
  -- what has P has Q
  pub weaker : (old new : D) (P Q : List ℕ → Type 0) → ((c : List ℕ) → P c → Q c) → Passed clock old new P → Passed clock old new Q
  weaker old new P Q to p = record { later = p.later; since = λ t c le was. ⊎_elim (λ o. inl o) (λ x. inr (to c x)) (p.since t c le was); now = λ c is. to c (p.now c is) }

  -- one call, and then one whose images have the same
  pub passes : (old mid new : D) (P Q : List ℕ → Type 0) → Passed clock old mid P → Passed clock mid new Q → ((c : List ℕ) → Q c → P c) → Passed clock old new P
  passes old mid new P Q a b to = record {
    later = omega (arith, a.later, b.later);
    since = λ t c le was. ⊎_elim (a.since t c le) (λ x. inr (to c x)) (b.since t c (omega (arith, le, a.later)) was);
    now = λ c is. to c (b.now c is);
  }

  -- no call
  pub keeps_none : (disk : D) → Keeps clock disk disk
  keeps_none disk = record { later = omega arith; since = λ t c le was. inl was; now = λ c is. is }

  -- a call, and then one that wrote nothing
  pub then_kept : (old mid new : D) (P : List ℕ → Type 0) → Passed clock old mid P → Keeps clock mid new → Passed clock old new P
  then_kept old mid new P a b = passes old mid new P (clock.is_image mid) a b a.now

  -- a call that wrote nothing, and then a write
  pub tears_after : (old mid new : D) (at n : ℕ) → Keeps clock old mid → Tears clock mid new at n → ((c : List ℕ) → clock.is_image old c → IsTornFrom clock old at n c) → Tears clock old new at n
  tears_after old mid new at n a b same = passes old mid new (IsTornFrom clock old at n) (IsTornFrom clock mid at n)
      (weaker old mid (clock.is_image old) (IsTornFrom clock old at n) same a) b
      (λ c t. record { base = t.base; was = a.now t.base t.was; torn = t.torn })
