-- Reads of a map after one of its keys is written.
use Rattle.std.proofs.Common.{◌≡◌, ◌≢◌, ◌⊎◌, inl, inr, Bool, true, false, cond, Some, None, refl, sym, ap, subst, ◌∙◌, true≢false}
use Rattle.std.specs.Ordering.{eq_by_cmp, nat_cmp, ordering_then}
use Rattle.std.specs.Cmp.{IsTotalOrder, nat_cmp_total, tied_itself, Equal-is}
use Rattle.std.specs.Cmp.Lexicographic.{nat_list_cmp_total, slice_cmp}
use Rattle.std.specs.FinMap.{FinMap, get, insert, remove, get-insert, get-remove}
use Rattle.std.specs.declared.cmp.Ordering.{Ordering}
use Rattle.std.specs.declared.cmp.Ordering.TheVariants.{Equal}
use Rattle.std.proofs.lemmas.Cmp.{then_total, on_total}
use Rattle.std.proofs.lemmas.Map.Lookups.{CmpEqualImpliesEq, exact_pairs, exact_unsigned, exact_bytes}
use Rattle.std.proofs.Common.{ℕ, List}
use Rattle.mail_model.specs.Identity.{Id, Key}
use Rattle.mail_model.specs.Identity.Key.{Profile, Message}
use Rattle.object_model.specs.Keys.{kind_of, user_of, id_of, id_cmp, key_cmp}

module _ {K X : Type 0} {R : K → K → Ordering} (o : IsTotalOrder R) (exact : CmpEqualImpliesEq R) where
  -- what a read finds: what was written, or what stood under another key
  pub found : (m : FinMap R X) (k : K) (x : X) (q : K) (y : X) → get (insert m k x) q ≡ Some y → ((q ≡ k) × (y ≡ x)) ⊎ ((q ≢ k) × (get m q ≡ Some y))
  found m k x q y h = by (eq_by_cmp R q k) refl (sym (get-insert o m k x q) ∙ h)
    where
      by : (b : Bool) → eq_by_cmp R q k ≡ b → cond b (Some x) (get m q) ≡ Some y → ((q ≡ k) × (y ≡ x)) ⊎ ((q ≢ k) × (get m q ≡ Some y))
      by true e f = inl (exact q k ((Equal-is (R q k)).0 e), cc)
      by false e f = inr (λ same. true≢false (sym ((Equal-is (R q k)).1 (subst (λ z. R z k ≡ Equal) (sym same) (tied_itself o k))) ∙ e), f)

  pub written : (m : FinMap R X) (k : K) (x : X) → get (insert m k x) k ≡ Some x
  written m k x = get-insert o m k x k ∙ ap (λ b. cond b (Some x) (get m k)) ((Equal-is (R k k)).1 (tied_itself o k))

  pub kept_other : (m : FinMap R X) (k : K) (x : X) (q : K) → q ≢ k → get (insert m k x) q ≡ get m q
  kept_other m k x q apart = get-insert o m k x q ∙ by (eq_by_cmp R q k) refl
    where
      by : (b : Bool) → eq_by_cmp R q k ≡ b → cond b (Some x) (get m q) ≡ get m q
      by true e = absurd (apart (exact q k ((Equal-is (R q k)).0 e)))
      by false e = refl

  -- what is left after one key is taken out
  pub left_found : (m : FinMap R X) (k : K) (q : K) (y : X) → get (remove m k) q ≡ Some y → (q ≢ k) × (get m q ≡ Some y)
  left_found m k q y h = by (eq_by_cmp R q k) refl (sym (get-remove o m k q) ∙ h)
    where
      by : (b : Bool) → eq_by_cmp R q k ≡ b → cond b None (get m q) ≡ Some y → (q ≢ k) × (get m q ≡ Some y)
      by true e f = absurd (cc f)
      by false e f = (λ same. true≢false (sym ((Equal-is (R q k)).1 (subst (λ z. R z k ≡ Equal) (sym same) (tied_itself o k))) ∙ e), f)

  pub left_other : (m : FinMap R X) (k : K) (q : K) → q ≢ k → get (remove m k) q ≡ get m q
  left_other m k q apart = get-remove o m k q ∙ by (eq_by_cmp R q k) refl
    where
      by : (b : Bool) → eq_by_cmp R q k ≡ b → cond b None (get m q) ≡ get m q
      by true e = absurd (apart (exact q k ((Equal-is (R q k)).0 e)))
      by false e = refl

-- keys are told apart by their order
pub id_total : IsTotalOrder id_cmp
id_total = then_total (on_total (λ i. i.node) nat_cmp_total) (then_total (on_total (λ i. i.boot) nat_cmp_total) (on_total (λ i. i.seq) nat_cmp_total))

pub key_total : IsTotalOrder key_cmp
key_total = then_total (on_total kind_of nat_cmp_total) (then_total (on_total user_of nat_list_cmp_total) (on_total id_of id_total))

pub id_exact : CmpEqualImpliesEq id_cmp
id_exact a b h = ap (λ (p : ℕ × (ℕ × ℕ)). record { node = p.0; boot = p.1.0; seq = p.1.1 })
    (exact_pairs nat_cmp (λ (x y : ℕ × ℕ). ordering_then (nat_cmp x.0 y.0) (nat_cmp x.1 y.1)) exact_unsigned (exact_pairs nat_cmp nat_cmp exact_unsigned exact_unsigned)
    (a.node, (a.boot, a.seq)) (b.node, (b.boot, b.seq)) h)

same_parts : (a b : Key) → ◌≡◌ {A = ℕ × (List ℕ × Id)} (kind_of a, (user_of a, id_of a)) (kind_of b, (user_of b, id_of b)) → a ≡ b
same_parts (Profile a) (Profile b) h = ap (λ (p : ℕ × (List ℕ × Id)). Profile p.1.0) h
same_parts (Profile a) (Message b j) h = absurd (cc (ap (λ (p : ℕ × (List ℕ × Id)). p.0) h))
same_parts (Message a i) (Profile b) h = absurd (cc (ap (λ (p : ℕ × (List ℕ × Id)). p.0) h))
same_parts (Message a i) (Message b j) h = ap (λ (p : ℕ × (List ℕ × Id)). Message p.1.0 p.1.1) h

pub key_exact : CmpEqualImpliesEq key_cmp
key_exact a b h = same_parts a b
    (exact_pairs nat_cmp (λ (x y : List ℕ × Id). ordering_then (slice_cmp nat_cmp x.0 y.0) (id_cmp x.1 y.1)) exact_unsigned (exact_pairs (slice_cmp nat_cmp) id_cmp exact_bytes id_exact)
    (kind_of a, (user_of a, id_of a)) (kind_of b, (user_of b, id_of b)) h)
