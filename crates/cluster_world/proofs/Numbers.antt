-- Letters in flight with distinct numbers: a number names one.
use Rattle.std.proofs.Common.{◌≡◌, ◌⊎◌, inl, inr, ⊎_elim, ℕ, ◌<◌, ◌≤◌, Bool, true, false, nat_eq, List, [], ◌∷◌, ◌++◌, Option, Some, None, refl, sym, ap, ◌∙◌, subst, arith, if◌then◌else◌}
use Rattle.object_model.specs.Lists.{Among}
use Rattle.object_model.specs.Letters.{Letter}
use Rattle.cluster_model.specs.Room.{Flight}
use Rattle.cluster_model.specs.Steps.{letter_at}
use Rattle.cluster_model.specs.World as machine
use Rattle.cluster_model.specs.World.{Flies}
use Rattle.whole_world.specs.Regroup.{AreNumbered}
use Rattle.whole_world.specs.World as whole_world
use Rattle.cluster_world.specs.Flights.{InFlight, AreAbove, NumbersRise, AreUpTo, AreInOrder}
use Rattle.cluster_world.proofs.Still.{some_same}

eq_self : (n : ℕ) → nat_eq n n ≡ true
eq_self n = grind arith

eq_apart : (a b : ℕ) → a < b → nat_eq a b ≡ false
eq_apart a b h = by (nat_eq a b) refl
  where
    by : (t : Bool) → nat_eq a b ≡ t → nat_eq a b ≡ false
    by true e = absurd (let same : a ≡ b = grind arith in omega (arith, h, same))
    by false e = e

above_in : (n : ℕ) (front : List Flight) (f : Flight) (back : List Flight) → AreAbove n (front ++ f ∷ back) → n < f.number
above_in n [] f back h = h.0
above_in n (x ∷ front) f back h = above_in n front f back h.1

-- who stands there is found
found_at : (front : List Flight) (f : Flight) (back : List Flight) → NumbersRise (front ++ f ∷ back) → letter_at f.number (front ++ f ∷ back) ≡ Some f.letter
found_at [] f back h = ap (λ b. if b then Some f.letter else letter_at f.number back) (eq_self f.number)
found_at (x ∷ front) f back h =
    ap (λ b. if b then Some x.letter else letter_at f.number (front ++ f ∷ back)) (eq_apart x.number f.number (above_in x.number front f back h.0)) ∙ found_at front f back h.1

-- So the machine finds the letter of the number that the code finds.
pub one_letter : (flying : InFlight) (number : ℕ) (letter : Letter) → AreInOrder flying → letter_at number flying.flights ≡ Some letter → (w : machine.World) → flying.flights ≡ w.flying → (f : Flies w number) → f.letter ≡ letter
one_letter flying number letter order here w same f =
    some_same f.letter letter
    (sym (found_at f.front (record { number = number; letter = f.letter }) f.back (subst NumbersRise (same ∙ f.is) order.rising))
    ∙ ap (letter_at number) (sym (same ∙ f.is)) ∙ here)

-- none has a number that was not sent
up_to_among : (n : ℕ) (fs : List Flight) → AreUpTo n fs → (f : Flight) → Among f fs → f.number ≤ n
up_to_among n [] h f m = absurd m
up_to_among n (x ∷ fs) h f m = ⊎_elim (λ same. subst (λ (y : Flight). y.number ≤ n) same h.0) (λ more. up_to_among n fs h.1 f more) m

pub are_numbered : (flying : InFlight) (w : whole_world.World) → AreInOrder flying → flying.flights ≡ w.flying → flying.sent ≡ w.sent → AreNumbered w
are_numbered flying w order flights sent = record {
  each = λ f m. subst (λ n. f.number ≤ n) sent (up_to_among flying.sent flying.flights order.drawn f (subst (Among f) (sym flights) m));
}
