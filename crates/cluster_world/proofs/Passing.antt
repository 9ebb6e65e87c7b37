-- Where the letter of the lowest number leaves, all that is in flight has higher numbers.
use Rattle.std.proofs.Common.{◌≡◌, ℕ, ◌+◌, ◌-◌, ◌^◌, ◌≤◌, ◌<◌, Bool, true, false, List, [], ◌∷◌, ◌++◌, length, Option, Some, None, refl, sym, ap, ◌∙◌, subst, arith, if◌then◌else◌}
use Rattle.std.specs.Prelude.{nat_eq, is_some}
use Rattle.object_model.specs.Letters.{Letter}
use Rattle.cluster_model.specs.Room.{Flight, has_room}
use Rattle.cluster_model.specs.Plain.{without_letter}
use Rattle.cluster_model.specs.Steps.{letter_at}
use Rattle.cluster_world.specs.Flights.{InFlight, PutDown, AreAbove, AreUpTo, NumbersRise, AreInOrder, with_flight, put_all, put_down, taken_out, first_number}
use Rattle.cluster_world.specs.Reading.{FliesOn}

some_number : (a b : ℕ) → Some a ≡ Some b → a ≡ b
some_number a b e = cc

pub above_less : (m n : ℕ) (fs : List Flight) → m ≤ n → AreAbove n fs → AreAbove m fs
above_less m n [] le h = tt
above_less m n (f ∷ fs) le h = (omega (arith, le, h.0), above_less m n fs le h.1)

pub above_both : (n : ℕ) (fs gs : List Flight) → AreAbove n fs → AreAbove n gs → AreAbove n (fs ++ gs)
above_both n [] gs h k = k
above_both n (f ∷ fs) gs h k = (h.0, above_both n fs gs h.1 k)

-- the others have higher numbers
pub rest_above : (n : ℕ) (fs : List Flight) → NumbersRise fs → first_number fs ≡ Some n → AreAbove n (without_letter n fs)
rest_above n [] rise e = tt
rest_above n (f ∷ fs) rise e =
    let same : f.number ≡ n = some_number f.number n e in
    let here : nat_eq f.number n ≡ true = grind arith in
    subst (λ (xs : List Flight). AreAbove n xs) (sym (ap (λ b. if b then fs else f ∷ without_letter n fs) here)) (subst (λ k. AreAbove k fs) same rise.0)

first_up : (n sent : ℕ) (fs : List Flight) → AreUpTo sent fs → first_number fs ≡ Some n → n ≤ sent
first_up n sent [] h e = absurd (let never : None ≡ Some n = e in cc)
first_up n sent (f ∷ fs) h e = let same : f.number ≡ n = some_number f.number n e in omega (arith, same, h.0)

-- what is put in flight behind them has higher numbers still
pub flies_passed : (n : ℕ) (old new : InFlight) → AreInOrder old → first_number old.flights ≡ Some n → FliesOn (taken_out (Some n) old) new → AreAbove n new.flights
flies_passed n old new order first on =
    subst (λ (fs : List Flight). AreAbove n fs) (sym on.is) (above_both n (without_letter n old.flights) on.more (rest_above n old.flights order.rising first)
    (above_less n old.sent on.more (first_up n old.sent old.flights order.drawn first) on.above))

pub stays_flying : (flying : InFlight) → FliesOn flying flying
stays_flying flying = record { more = []; is = sym (append_none flying.flights); above = tt; later = omega arith }
  where
    append_none : (fs : List Flight) → fs ++ [] ≡ fs
    append_none [] = refl
    append_none (f ∷ fs) = ap (λ (xs : List Flight). f ∷ xs) (append_none fs)

append_three : (xs ys zs : List Flight) → (xs ++ ys) ++ zs ≡ xs ++ (ys ++ zs)
append_three [] ys zs = refl
append_three (x ∷ xs) ys zs = ap (λ (l : List Flight). x ∷ l) (append_three xs ys zs)

pub flies_further : (a b c : InFlight) → FliesOn a b → FliesOn b c → FliesOn a c
flies_further a b c first after = record {
  more = first.more ++ after.more;
  is = after.is ∙ ap (λ (fs : List Flight). fs ++ after.more) first.is ∙ append_three a.flights first.more after.more;
  above = above_both a.sent first.more after.more first.above (above_less a.sent b.sent after.more first.later after.above);
  later = omega (arith, first.later, after.later);
}

pub one_flies : (flying : InFlight) (letter : Letter) → FliesOn flying (with_flight flying letter)
one_flies flying letter = record { more = record { number = flying.sent + 1; letter = letter } ∷ []; is = refl; above = (omega arith, tt); later = omega arith }

pub all_fly : (letters : List Letter) (p : PutDown) → FliesOn p.flying (put_all letters p).flying
all_fly [] p = stays_flying p.flying
all_fly (letter ∷ letters) p = by (has_room p.flying.flights letter) (λ q. all_fly letters q)
  where
    by : (b : Bool) → ((q : PutDown) → FliesOn q.flying (put_all letters q).flying)
        → FliesOn p.flying (put_all letters (if b then record { flying = with_flight p.flying letter; left = p.left } else record { flying = p.flying; left = p.left ++ letter ∷ [] })).flying
    by true more = flies_further p.flying (with_flight p.flying letter) (put_all letters (record { flying = with_flight p.flying letter; left = p.left })).flying (one_flies p.flying letter) (more (record { flying = with_flight p.flying letter; left = p.left }))
    by false more = more (record { flying = p.flying; left = p.left ++ letter ∷ [] })

-- so where letters are put in flight in the place of the lowest,
pub sent_passed : (n : ℕ) (letters : List Letter) (old new : InFlight) → AreInOrder old → first_number old.flights ≡ Some n → new ≡ (put_down letters (taken_out (Some n) old)).flying → AreAbove n new.flights
sent_passed n letters old new order first e =
    subst (λ (f : InFlight). AreAbove n f.flights) (sym e) (flies_passed n old (put_down letters (taken_out (Some n) old)).flying order first (all_fly letters (record { flying = taken_out (Some n) old; left = [] })))

-- and where it leaves alone
pub left_passed : (n : ℕ) (old new : InFlight) → AreInOrder old → first_number old.flights ≡ Some n → new ≡ taken_out (Some n) old → AreAbove n new.flights
left_passed n old new order first e = subst (λ (f : InFlight). AreAbove n f.flights) (sym e) (rest_above n old.flights order.rising first)

-- How far the lowest number in flight is from the end of all numbers: the measure of letters that are posted one after another.
pub distance_of : Option ℕ → ℕ
distance_of None = 0
distance_of (Some n) = 2 ^ 64 - n

pub nearer : (n : ℕ) (fs : List Flight) → n < 2 ^ 64 → AreAbove n fs → distance_of (first_number fs) < distance_of (Some n)
unfolding distance_of
nearer n [] within h = omega (arith, within)
nearer n (f ∷ fs) within h = omega (arith, within, h.0)

-- one letter less
pub one_less : (n : ℕ) (fs : List Flight) → is_some (letter_at n fs) ≡ true → length (without_letter n fs) + 1 ≡ length fs
one_less n [] here = absurd (let never : false ≡ true = here in cc)
one_less n (f ∷ fs) here = by (nat_eq f.number n) here (one_less n fs)
  where
    by : (b : Bool) → is_some (if b then Some f.letter else letter_at n fs) ≡ true → (is_some (letter_at n fs) ≡ true → length (without_letter n fs) + 1 ≡ length fs)
        → length (if b then fs else f ∷ without_letter n fs) + 1 ≡ length (f ∷ fs)
    by true some more = omega arith
    by false some more = omega (arith, more some)
