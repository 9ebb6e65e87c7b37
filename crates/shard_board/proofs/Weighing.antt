-- Whether all items of a list pass a test is told by how much those weigh that do not.
use Rattle.std.proofs.Common.{◌≡◌, ℕ, Bool, true, false, ◌&&◌, cond, List, [], ◌∷◌, refl, ap, ◌∙◌, arith}
use Rattle.std.specs.List.{list_all}
use Rattle.std.proofs.lemmas.Bool.{and_parts}
use Rattle.turnstile.specs.Lists.{weight}

module _ {X : Type 0} (passes : X → Bool) where
  -- 1, where an item does not pass
  abbrev pub failing : X → ℕ
  failing x = cond (passes x) 0 1

  pub light : (xs : List X) → list_all passes xs ≡ true → weight failing xs ≡ 0
  light [] all = refl
  light (x ∷ xs) all =
      let both = and_parts (passes x) (list_all passes xs) all in
      let here : failing x ≡ 0 = ap (λ b. cond b 0 1) both.0 in
      omega (arith, here, light xs both.1)

  pub all_light : (xss : List (List X)) → list_all (λ xs. list_all passes xs) xss ≡ true → weight (weight failing) xss ≡ 0
  all_light [] all = refl
  all_light (xs ∷ xss) all =
      let both = and_parts (list_all passes xs) (list_all (λ ys. list_all passes ys) xss) all in
      omega (arith, light xs both.0, all_light xss both.1)

  pub all_pass : (xs : List X) → weight failing xs ≡ 0 → list_all passes xs ≡ true
  all_pass [] none = refl
  all_pass (x ∷ xs) none = by (passes x) refl (all_pass xs (omega (arith, none)))
    where
      by : (b : Bool) → passes x ≡ b → list_all passes xs ≡ true → list_all passes (x ∷ xs) ≡ true
      by true here rest = ap (λ b. b && list_all passes xs) here ∙ rest
      by false here rest =
          let one : failing x ≡ 1 = ap (λ b. cond b 0 1) here in
          absurd (omega (arith, none, one))
