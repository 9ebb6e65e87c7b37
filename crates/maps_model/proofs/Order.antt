-- The order of epochs.
use Rattle.std.proofs.Common.{◌≡◌, ◌⊎◌, inl, inr, ⊎_elim, ℕ, zero, suc, ◌<◌, refl, sym, ◌∙◌, subst, arith}
use Rattle.mail_model.specs.Identity.{EpochId, no_epoch}
use Rattle.maps_model.specs.Epochs.{IsBefore, IsAtMost}

pub before_itself : (a : EpochId) → IsBefore a a → ⊥
before_itself a (inl h) = omega (arith, h)
before_itself a (inr h) = omega (arith, h.1)

pub before_before : (a b c : EpochId) → IsBefore a b → IsBefore b c → IsBefore a c
before_before a b c (inl h) (inl k) = inl (omega (arith, h, k))
before_before a b c (inl h) (inr k) = inl (omega (arith, h, k.0))
before_before a b c (inr h) (inl k) = inl (omega (arith, h.0, k))
before_before a b c (inr h) (inr k) = inr (h.0 ∙ k.0, omega (arith, h.1, k.1))

pub before_same : (a b c : EpochId) → IsBefore a b → b ≡ c → IsBefore a c
before_same a b c h e = subst (λ x. IsBefore a x) e h

pub same_before : (a b c : EpochId) → a ≡ b → IsBefore b c → IsBefore a c
same_before a b c e h = subst (λ x. IsBefore x c) (sym e) h

pub before_most : (a b c : EpochId) → IsBefore a b → IsAtMost b c → IsBefore a c
before_most a b c h (inl k) = before_before a b c h k
before_most a b c h (inr e) = before_same a b c h e

pub most_before : (a b c : EpochId) → IsAtMost a b → IsBefore b c → IsBefore a c
most_before a b c (inl h) k = before_before a b c h k
most_before a b c (inr e) k = same_before a b c e k

pub most_most : (a b c : EpochId) → IsAtMost a b → IsAtMost b c → IsAtMost a c
most_most a b c (inl h) k = inl (before_most a b c h k)
most_most a b c (inr e) k = subst (λ x. IsAtMost x c) (sym e) k

pub most_itself : (a : EpochId) → IsAtMost a a
most_itself a = inr refl

-- what is before is not at least
pub before_not_most : (a b : EpochId) → IsBefore a b → IsAtMost b a → ⊥
before_not_most a b h k = before_itself a (before_most a b a h k)

-- what is before is not the same
pub before_not_same : (a b : EpochId) → IsBefore a b → a ≡ b → ⊥
before_not_same a b h e = before_itself b (same_before b a b (sym e) h)

-- two epochs of which neither is later are the same
pub most_same : (a b : EpochId) → IsAtMost a b → IsAtMost b a → a ≡ b
most_same a b (inl h) k = absurd (before_not_most a b h k)
most_same a b (inr e) k = e

-- nothing is before no epoch
pub none_before : (a : EpochId) → IsBefore a no_epoch → ⊥
none_before a (inl h) = omega (arith, h)
none_before a (inr h) = omega (arith, h.1)

-- no epoch is the least
least_of : (n : ℕ) → (0 < n) ⊎ (0 ≡ n)
least_of zero = inr refl
least_of (suc k) = inl (omega arith)

pub none_least : (a : EpochId) → IsAtMost no_epoch a
none_least a = ⊎_elim
    (λ h. inl (inl h))
    (λ e. ⊎_elim
    (λ h. inl (inr (e, h)))
    (λ f. inr (λ i. record { count = e i; node = f i }))
    (least_of a.node))
    (least_of a.count)
