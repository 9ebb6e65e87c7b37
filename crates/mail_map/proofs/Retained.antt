-- What is left of a map of maps by calls of `retain`.
use Rattle.std.proofs.Common.{◌≡◌, refl, sym, ap, ◌∙◌, subst, cond, List, [], ◌∷◌, map, ℕ, Bool, true, false, true≢false, Option, Some, None}
use Rattle.std.specs.Ordering.{nat_cmp}
use Rattle.std.specs.declared.cmp.Ordering.{Ordering}
use Rattle.std.specs.declared.cmp.Ordering.TheVariants.{Less, Equal, Greater}
use Rattle.std.specs.Cmp.Lexicographic.{slice_cmp}
use Rattle.std.specs.FinMap.{nat_cmp-IsAntisymmetric}
use Rattle.std.specs.List.{AllByRecursion}
use Rattle.std.specs.List.Sorted.{IsStrictlySortedBy}
use Rattle.std.specs.Map.{lookup}
use Rattle.std.specs.Map.Calls.{RetainsPairs}
use Rattle.std.specs.BTreeMap.{BTreeMap, is_at}
use Rattle.object_model.specs.Letters.{Row}
use Rattle.mail_map.specs.Tellers.{Teller, teller_cmp}
use Rattle.mail_map.specs.Rows.{row_of_teller}
use Rattle.mail_map.proofs.OneUser.{same_user}

-- tellers who tie are one
pub same_teller : (a b : Teller) → is_at (teller_cmp a) b ≡ true → a ≡ b
same_teller a b e = by (nat_cmp a.node b.node) refl (nat_cmp a.boot b.boot) refl
  where
    by : (o : Ordering) → nat_cmp a.node b.node ≡ o → (p : Ordering) → nat_cmp a.boot b.boot ≡ p → a ≡ b
    by Equal n Equal k = λ i. record { node = nat_cmp-IsAntisymmetric a.node b.node n i; boot = nat_cmp-IsAntisymmetric a.boot b.boot k i }
    by Less n p k = absurd (true≢false (sym e ∙ rw n refl))
    by Greater n p k = absurd (true≢false (sym e ∙ rw n refl))
    by Equal n Less k = absurd (true≢false (sym e ∙ rw (n, k) refl))
    by Equal n Greater k = absurd (true≢false (sym e ∙ rw (n, k) refl))

module _ {X : Type 0} where
  -- a key before all others is not among them
  absent : (q : List ℕ) (es : List (List ℕ × X)) → AllByRecursion (λ y. slice_cmp nat_cmp q y ≡ Less) (map (λ e. e.0) es) → lookup (is_at (slice_cmp nat_cmp q)) es ≡ None
  absent q [] h = refl
  absent q (e ∷ es) h = rw h.0 (absent q es h.1)

  pub none_later : (e : List ℕ × X) (es : List (List ℕ × X)) (q : List ℕ) → IsStrictlySortedBy (slice_cmp nat_cmp) (map (λ e. e.0) (e ∷ es)) → q ≡ e.0 → lookup (is_at (slice_cmp nat_cmp q)) es ≡ None
  unfolding IsStrictlySortedBy
  none_later e es q h same = subst (λ (u : List ℕ). lookup (is_at (slice_cmp nat_cmp u)) es ≡ None) (sym same) (absent e.0 es h.0)

  pub later_sorted : (e : List ℕ × X) (es : List (List ℕ × X)) → IsStrictlySortedBy (slice_cmp nat_cmp) (map (λ e. e.0) (e ∷ es)) → IsStrictlySortedBy (slice_cmp nat_cmp) (map (λ e. e.0) es)
  unfolding IsStrictlySortedBy
  later_sorted e es h = h.1

nothing : (b : Bool) → ◌≡◌ {A = Option Row} (cond b None None) None
nothing true = refl
nothing false = refl

-- a call leaves of a user's rows those that stay, or forgets the user where none does
abbrev pub Leaves : (ℕ → ℕ → List ℕ → Bool) → List ℕ → BTreeMap Teller Row → Bool → BTreeMap Teller Row → Type 0
Leaves stays user old b new = (n boot : ℕ) → row_of_teller (cond b (Some new) None) n boot ≡ cond (stays n boot user) (row_of_teller (Some old) n boot) None

module _ {F : Type 0} (T : F → List ℕ → BTreeMap Teller Row → Bool → BTreeMap Teller Row → F → Type 0) (stays : ℕ → ℕ → List ℕ → Bool) (f : F)
    (calls : (k : List ℕ) (v : BTreeMap Teller Row) (b : Bool) (w : BTreeMap Teller Row) (f' : F) → T f k v b w f' → Leaves stays k v b w × (f' ≡ f)) where
  pub retained : (es kept : List (List ℕ × BTreeMap Teller Row)) → IsStrictlySortedBy (slice_cmp nat_cmp) (map (λ e. e.0) es) → RetainsPairs T f es kept → (q : List ℕ) (n boot : ℕ)
      → row_of_teller (lookup (is_at (slice_cmp nat_cmp q)) kept) n boot ≡ cond (stays n boot q) (row_of_teller (lookup (is_at (slice_cmp nat_cmp q)) es) n boot) None
  retained [] kept sorted is q n boot = ap (λ (l : List (List ℕ × BTreeMap Teller Row)). row_of_teller (lookup (is_at (slice_cmp nat_cmp q)) l) n boot) is ∙ sym (nothing (stays n boot q))
  retained (e ∷ es) kept sorted (b, w, f', rest, call, more, is) q n boot =
      ap (λ (l : List (List ℕ × BTreeMap Teller Row)). row_of_teller (lookup (is_at (slice_cmp nat_cmp q)) l) n boot) is
      ∙ by (is_at (slice_cmp nat_cmp q) e.0) refl b ((calls e.0 e.1 b w f' call).0 n boot)
      (retained es rest (later_sorted e es sorted) (subst (λ g. RetainsPairs T g es rest) (calls e.0 e.1 b w f' call).1 more) q n boot)
    where
      by : (t : Bool) → is_at (slice_cmp nat_cmp q) e.0 ≡ t → (c : Bool) → row_of_teller (cond c (Some w) None) n boot ≡ cond (stays n boot e.0) (row_of_teller (Some e.1) n boot) None
          → row_of_teller (lookup (is_at (slice_cmp nat_cmp q)) rest) n boot ≡ cond (stays n boot q) (row_of_teller (lookup (is_at (slice_cmp nat_cmp q)) es) n boot) None
          → row_of_teller (lookup (is_at (slice_cmp nat_cmp q)) (cond c ((e.0, w) ∷ rest) rest)) n boot ≡ cond (stays n boot q) (row_of_teller (cond (is_at (slice_cmp nat_cmp q) e.0) (Some e.1) (lookup (is_at (slice_cmp nat_cmp q)) es)) n boot) None
      by true at true step before =
          ap (λ t. row_of_teller (cond t (Some w) (lookup (is_at (slice_cmp nat_cmp q)) rest)) n boot) at
          ∙ step
          ∙ ap (λ (u : List ℕ). cond (stays n boot u) (row_of_teller (Some e.1) n boot) None) (sym (same_user q e.0 at))
          ∙ sym (ap (λ t. cond (stays n boot q) (row_of_teller (cond t (Some e.1) (lookup (is_at (slice_cmp nat_cmp q)) es)) n boot) None) at)
      by true at false step before =
          before
          ∙ ap (λ (o : Option (BTreeMap Teller Row)). cond (stays n boot q) (row_of_teller o n boot) None) (none_later e es q sorted (same_user q e.0 at))
          ∙ nothing (stays n boot q)
          ∙ step
          ∙ ap (λ (u : List ℕ). cond (stays n boot u) (row_of_teller (Some e.1) n boot) None) (sym (same_user q e.0 at))
          ∙ sym (ap (λ t. cond (stays n boot q) (row_of_teller (cond t (Some e.1) (lookup (is_at (slice_cmp nat_cmp q)) es)) n boot) None) at)
      by false at true step before =
          ap (λ t. row_of_teller (cond t (Some w) (lookup (is_at (slice_cmp nat_cmp q)) rest)) n boot) at
          ∙ before
          ∙ sym (ap (λ t. cond (stays n boot q) (row_of_teller (cond t (Some e.1) (lookup (is_at (slice_cmp nat_cmp q)) es)) n boot) None) at)
      by false at false step before =
          before
          ∙ sym (ap (λ t. cond (stays n boot q) (row_of_teller (cond t (Some e.1) (lookup (is_at (slice_cmp nat_cmp q)) es)) n boot) None) at)
