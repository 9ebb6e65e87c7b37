-- Octets inside a line that are no CR, in one run.
use Rattle.std.proofs.Common.{arith, ◌≡◌, ◌+◌, ◌≤◌, ℕ, suc, Bool, true, false, ◌||◌, nat_eq, List, [], ◌∷◌, ◌++◌, length, take, drop, Some, refl, sym, ap, subst, ◌∙◌, append_assoc}
use Rattle.std.proofs.lemmas.List.{append-nil}
use Rattle.std.proofs.Math.Seq.{take-add}
use Rattle.std.specs.List.{list_any, position_or_len}
use Rattle.dot_text.specs.Places.{IsRun, UndotsAt, next_place}
use Rattle.dot_text.specs.declared.undotter.Place.{Place}
use Rattle.dot_text.specs.declared.undotter.Place.TheVariants.{LineStart, Period, PeriodCr, Inside, Cr}
use Rattle.dot_text.proofs.Undotting.{goes_on}

before_step : (x : ℕ) (octets : List ℕ) (b : Bool) → nat_eq x 13 ≡ b → list_any (λ y. nat_eq y 13) (take (position_or_len (λ y. nat_eq y 13) octets) octets) ≡ false
    → list_any (λ y. nat_eq y 13) (take (position_or_len (λ y. nat_eq y 13) (x ∷ octets)) (x ∷ octets)) ≡ false
before_step x octets true e none = rw e refl
before_step x octets false e none =
    let one_more : position_or_len (λ y. nat_eq y 13) (x ∷ octets) ≡ suc (position_or_len (λ y. nat_eq y 13) octets) = rw e (omega arith) in
    ap (λ n. list_any (λ y. nat_eq y 13) (take n (x ∷ octets))) one_more ∙ rw e none

-- before the first CR stands none
pub before_cr : (octets : List ℕ) → list_any (λ x. nat_eq x 13) (take (position_or_len (λ x. nat_eq x 13) octets) octets) ≡ false
before_cr [] = refl
before_cr (x ∷ octets) = before_step x octets (nat_eq x 13) refl (before_cr octets)

or_false : (a b : Bool) → (a || b) ≡ false → (a ≡ false) × (b ≡ false)
or_false true b h = absurd (cc)
or_false false b h = (refl, h)

stays_inside : (x : ℕ) → nat_eq x 13 ≡ false → next_place Inside x ≡ Some Inside
stays_inside x e = rw e refl

run_inside : (octets fed given : List ℕ) → list_any (λ x. nat_eq x 13) octets ≡ false → UndotsAt Inside fed given → UndotsAt Inside (fed ++ octets) (given ++ octets)
run_inside [] fed given none here =
    let Fed : List ℕ → Type 0 = λ l. UndotsAt Inside l (given ++ []) in
    let Given : List ℕ → Type 0 = λ l. UndotsAt Inside fed l in
    subst Fed (sym (append-nil fed)) (subst Given (sym (append-nil given)) here)
run_inside (x ∷ octets) fed given none here =
    let both = or_false (nat_eq x 13) (list_any (λ y. nat_eq y 13) octets) none in
    let next : UndotsAt Inside (fed ++ x ∷ []) (given ++ x ∷ []) = goes_on Inside Inside fed given x (stays_inside x both.0) here in
    let Fed : List ℕ → Type 0 = λ l. UndotsAt Inside l (given ++ (x ∷ octets)) in
    let Given : List ℕ → Type 0 = λ l. UndotsAt Inside ((fed ++ x ∷ []) ++ octets) l in
    subst Fed (append_assoc fed (x ∷ []) octets)
    (subst Given (append_assoc given (x ∷ []) octets) (run_inside octets (fed ++ x ∷ []) (given ++ x ∷ []) both.1 next))

run_none : (place : Place) (octets fed given : List ℕ) → octets ≡ [] → UndotsAt place fed given → UndotsAt place (fed ++ octets) (given ++ octets)
run_none place octets fed given none here =
    let Fed : List ℕ → Type 0 = λ l. UndotsAt place l (given ++ octets) in
    let Given : List ℕ → Type 0 = λ l. UndotsAt place fed l in
    subst Fed (sym (ap (λ (l : List ℕ). fed ++ l) none ∙ append-nil fed)) (subst Given (sym (ap (λ (l : List ℕ). given ++ l) none ∙ append-nil given)) here)

-- a run is given as it is, and leaves the place
pub run_at : (place : Place) (octets fed given : List ℕ) → IsRun place octets → UndotsAt place fed given → UndotsAt place (fed ++ octets) (given ++ octets)
run_at LineStart octets fed given none here = run_none LineStart octets fed given none here
run_at Period octets fed given none here = run_none Period octets fed given none here
run_at PeriodCr octets fed given none here = run_none PeriodCr octets fed given none here
run_at Inside octets fed given none here = run_inside octets fed given none here
run_at Cr octets fed given none here = run_none Cr octets fed given none here

-- so many octets of the rest were given in a run
abbrev pub Given : Place → List ℕ → List ℕ → ℕ → List ℕ → Type 0
Given place out new run rest = (run ≤ length rest) × IsRun place (take run rest) × (new ≡ out ++ take run rest)

-- no octet was given in a run
pub no_run : (place : Place) (rest out new : List ℕ) (run : ℕ) → run ≤ 0 → new ≡ out ++ take run rest → new ≡ out
no_run place rest out new run none e =
    let zero_long : run ≡ 0 = omega (arith, none) in
    e ∙ ap (λ (n : ℕ). out ++ take n rest) zero_long ∙ append-nil out

-- the same in a loop over a piece
module _ (place : Place) (piece more out new : List ℕ) (i run : ℕ) where
  -- what the octets before gave, and the run
  pub run_out : (start : List ℕ) → out ≡ start ++ more → new ≡ out ++ take run (drop i piece) → new ≡ start ++ (more ++ take run (drop i piece))
  run_out start so_far e = e ∙ ap (λ (l : List ℕ). l ++ take run (drop i piece)) so_far ∙ append_assoc start more (take run (drop i piece))

  pub run_on : (fed given : List ℕ) → IsRun place (take run (drop i piece)) → UndotsAt place (fed ++ take i piece) (given ++ more)
      → UndotsAt place (fed ++ take (i + run) piece) (given ++ (more ++ take run (drop i piece)))
  run_on fed given is here =
      let octets : List ℕ = take run (drop i piece) in
      let Fed : List ℕ → Type 0 = λ l. UndotsAt place l (given ++ (more ++ octets)) in
      let Given : List ℕ → Type 0 = λ l. UndotsAt place ((fed ++ take i piece) ++ octets) l in
      subst Fed (append_assoc fed (take i piece) octets ∙ ap (λ (l : List ℕ). fed ++ l) (sym (take-add i run piece)))
      (subst Given (append_assoc given more octets) (run_at place octets (fed ++ take i piece) (given ++ more) is here))
