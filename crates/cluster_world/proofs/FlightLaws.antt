-- Letters in flight in order of number: what stands where, and what is left as one leaves.
use Rattle.std.proofs.Common.{◌≡◌, ◌≢◌, ⊎_elim, ℕ, zero, suc, ◌<◌, ◌≤◌, Bool, true, false, List, [], ◌∷◌, length, get_or, Some, None, Result, Ok, Err, refl, sym, ap, ◌∙◌, subst, arith, if◌then◌else◌}
use Rattle.std.specs.Prelude.{nat_eq, slice_get, MatchOption}
use Rattle.std.specs.Ordering.{nat_cmp, ordering_index}
use Rattle.std.specs.declared.cmp.Ordering.TheVariants.{Less, Greater}
use Rattle.std.specs.List.Sorted.{IsBinarySearchResult, IsSearchInRange, IsNonDecreasingBy, IsPartitionPoint}
use Rattle.std.proofs.lemmas.Cmp.{ranked}
use Rattle.std.proofs.lemmas.Bool.{cases_lt, and_parts}
use Rattle.std.specs.Prelude.{nat_lt, nat_le}
use Rattle.std.proofs.lemmas.Bool.Decides.{nat_tests}
use Rattle.std.specs.Result.{result_ok}
use Rattle.std.proofs.lemmas.Option.{slice_get_within, slice_get-get_or, get_or_from_slice_get}
use Rattle.std.specs.List.{remove}
use Rattle.std.proofs.Common.{◌+◌, ◌-◌, ◌++◌, take, drop, Option, All}
use Rattle.object_model.specs.Letters.{Letter}
use Rattle.node_core.specs.Spelling.{AllCanBeTaken}
use Rattle.whole_node.specs.Hearing.{FitsMaps}
use Rattle.cluster_world.specs.Hears.{CanBeHeard, AllCanBeHeard}
use Rattle.cluster_model.specs.Room.{Flight, octets_of, octets_flying, fits, most_letters, most_octets}
use Rattle.cluster_model.specs.Steps.{letter_at}
use Rattle.cluster_model.specs.Plain.{without_letter}
use Rattle.cluster_world.specs.Flights.{AreAbove, NumbersRise, AreUpTo, FlightsCanBeHeard, FlightIsCounted, HasAt, PutDown, flights_without, put_one, put_all}

eq_self : (n : ℕ) → nat_eq n n ≡ true
eq_self n = grind arith

eq_apart : (a b : ℕ) → a ≢ b → nat_eq a b ≡ false
eq_apart a b h = by (nat_eq a b) refl
  where
    by : (t : Bool) → nat_eq a b ≡ t → nat_eq a b ≡ false
    by true e = absurd (h (grind arith))
    by false e = e

above_at : (n : ℕ) (fs : List Flight) → AreAbove n fs → (k : ℕ) (d : Flight) → k < length fs → n < (get_or fs k d).number
above_at n [] h k d within = absurd (omega (arith, within))
above_at n (f ∷ fs) h zero d within = h.0
above_at n (f ∷ fs) h (suc k) d within = above_at n fs h.1 k d (omega (arith, within))

-- each number is below those behind it
rising_at : (fs : List Flight) → NumbersRise fs → (i j : ℕ) (d : Flight) → i < j → j < length fs → (get_or fs i d).number < (get_or fs j d).number
rising_at [] h i j d below within = absurd (omega (arith, within))
rising_at (f ∷ fs) h zero zero d below within = absurd (omega (arith, below))
rising_at (f ∷ fs) h zero (suc j) d below within = above_at f.number fs h.0 j d (omega (arith, within))
rising_at (f ∷ fs) h (suc i) zero d below within = absurd (omega (arith, below))
rising_at (f ∷ fs) h (suc i) (suc j) d below within = rising_at fs h.1 i j d (omega (arith, below)) (omega (arith, within))

all_above : (n : ℕ) (fs : List Flight) → AreAbove n fs → (k : ℕ) (g : Flight) → slice_get fs k ≡ Some g → n < g.number
all_above n fs h k g e = subst (λ (x : Flight). n < x.number) (get_or_from_slice_get fs k g g e) (above_at n fs h k g (slice_get_within fs k g e))

same_some : {A : Type 0} (a b : A) → Some a ≡ Some b → a ≡ b
same_some a b e = cc

pub has_at : (fs : List Flight) (k : ℕ) (f : Flight) → NumbersRise fs → slice_get fs k ≡ Some f → HasAt fs f.number k
has_at [] k f h e = absurd (let never : None ≡ Some f = e in cc)
has_at (g ∷ fs) zero f h e = subst (λ (x : Flight). HasAt (g ∷ fs) x.number 0) (same_some g f e) (record {
  letter = g.letter;
  here = refl;
  found = ap (λ b. if b then Some g.letter else letter_at g.number fs) (eq_self g.number);
  front = [];
  back = fs;
  is = refl;
  left = ap (λ b. if b then fs else g ∷ without_letter g.number fs) (eq_self g.number);
  count = refl;
})
has_at (g ∷ fs) (suc k) f h e =
    let rest = has_at fs k f h.1 e in
    let apart = eq_apart g.number f.number (λ same. omega (arith, same, all_above g.number fs h.0 k f e)) in
    record {
      letter = rest.letter;
      here = rest.here;
      found = ap (λ b. if b then Some g.letter else letter_at f.number fs) apart ∙ rest.found;
      front = g ∷ rest.front;
      back = rest.back;
      is = ap (λ (x : List Flight). g ∷ x) rest.is;
      left = ap (λ b. if b then fs else g ∷ without_letter f.number fs) apart ∙ ap (λ (x : List Flight). g ∷ x) rest.left;
      count = ap suc rest.count;
    }

pub has_none : (fs : List Flight) (n : ℕ) → ((k : ℕ) (f : Flight) → slice_get fs k ≡ Some f → f.number ≢ n) → letter_at n fs ≡ None
has_none [] n h = refl
has_none (f ∷ fs) n h =
    ap (λ b. if b then Some f.letter else letter_at n fs) (eq_apart f.number n (h 0 f refl)) ∙ has_none fs n (λ k g e. h (suc k) g e)

module _ (fs : List Flight) (n : ℕ) (rising : NumbersRise fs) where
  -- the numbers rise along the list, as a search asks
  numbers_rise : IsNonDecreasingBy (λ (f : Flight). ordering_index (nat_cmp f.number n)) fs
  numbers_rise i j d le within =
      let rise : (get_or fs i d).number ≤ (get_or fs j d).number = grind (arith, rising_at fs rising i j d, λ (same : i ≡ j). ap (λ k. (get_or fs k d).number) same) in
      grind (arith, nat_tests)

  no_flight_before : (k at : ℕ) (f : Flight) → IsPartitionPoint (λ (f : Flight). nat_cmp f.number n ≡ Less) (λ (f : Flight). nat_cmp f.number n ≡ Greater) fs at
      → slice_get fs k ≡ Some f → f.number ≢ n
  no_flight_before k at f parted e same =
      let within = slice_get_within fs k f e in
      let read = get_or_from_slice_get fs k f f e in
      ⊎_elim
      (λ below. omega (arith, same, ap (λ (x : Flight). x.number) read, ranked (get_or fs k f).number n _ (sym (parted.0 k f (omega arith) below))))
      (λ above. omega (arith, same, ap (λ (x : Flight). x.number) read, ranked (get_or fs k f).number n _ (sym (parted.1 k f above within))))
      (cases_lt k at)

  -- what a search by number finds
  pub searched : (len : ℕ) (r : Result ℕ ℕ) → len ≡ length fs → IsSearchInRange r len → IsBinarySearchResult (λ (f : Flight). nat_cmp f.number n) fs r
      → MatchOption (result_ok r) (letter_at n fs ≡ None) (λ k. HasAt fs n k)
  searched len (Ok k) whole bound found = at fs refl
    where
      at : (gs : List Flight) → gs ≡ fs → HasAt fs n k
      at [] e = absurd (omega (arith, whole, bound, ap length e))
      at (d ∷ ds) e =
          let here = slice_get-get_or fs k d (omega (arith, whole, bound)) in
          let same = ranked (get_or fs k d).number n _ (sym (found d)) in
          subst (λ m. HasAt fs m k) same (has_at fs k (get_or fs k d) rising here)
  searched len (Err k) whole bound found = has_none fs n (λ j f e. no_flight_before j k f (found numbers_rise) e)

-- what holds of both lists holds of the one that is chosen
either_list : (P : List Flight → Type 0) (b : Bool) (xs ys : List Flight) → P xs → P ys → P (if b then xs else ys)
either_list P true xs ys p q = p
either_list P false xs ys p q = q

-- what is left as a letter leaves
above_without : (m n : ℕ) (fs : List Flight) → AreAbove m fs → AreAbove m (without_letter n fs)
above_without m n [] h = tt
above_without m n (f ∷ fs) h = either_list (AreAbove m) (nat_eq f.number n) fs (f ∷ without_letter n fs) h.1 (h.0, above_without m n fs h.1)

rising_without : (n : ℕ) (fs : List Flight) → NumbersRise fs → NumbersRise (without_letter n fs)
rising_without n [] h = tt
rising_without n (f ∷ fs) h = either_list NumbersRise (nat_eq f.number n) fs (f ∷ without_letter n fs) h.1 (above_without f.number n fs h.0, rising_without n fs h.1)

up_to_without : (m n : ℕ) (fs : List Flight) → AreUpTo m fs → AreUpTo m (without_letter n fs)
up_to_without m n [] h = tt
up_to_without m n (f ∷ fs) h = either_list (AreUpTo m) (nat_eq f.number n) fs (f ∷ without_letter n fs) h.1 (h.0, up_to_without m n fs h.1)

heard_without : (n : ℕ) (fs : List Flight) → FlightsCanBeHeard fs → FlightsCanBeHeard (without_letter n fs)
heard_without n [] h = tt
heard_without n (f ∷ fs) h = either_list FlightsCanBeHeard (nat_eq f.number n) fs (f ∷ without_letter n fs) h.1 (h.0, heard_without n fs h.1)

pub counted_without : (octets less sent n : ℕ) (fs : List Flight) → FlightIsCounted octets sent fs → less + octets_flying (without_letter n fs) ≡ octets_flying fs
    → FlightIsCounted (octets - less) sent (without_letter n fs)
counted_without octets less sent n fs h e = record {
  rising = rising_without n fs h.rising;
  drawn = up_to_without sent n fs h.drawn;
  sum = omega (arith, e, h.sum);
  few = omega (arith, h.few);
  heard = heard_without n fs h.heard;
}

-- a letter that can be heard
pub heard_at : (fs : List Flight) (n : ℕ) (letter : Letter) → FlightsCanBeHeard fs → letter_at n fs ≡ Some letter → CanBeHeard letter
heard_at [] n letter h e = absurd (let never : None ≡ Some letter = e in cc)
heard_at (f ∷ fs) n letter h e = by (nat_eq f.number n) (heard_at fs n letter h.1) e
  where
    by : (b : Bool) → (letter_at n fs ≡ Some letter → CanBeHeard letter) → (if b then Some f.letter else letter_at n fs) ≡ Some letter → CanBeHeard letter
    by true more e = subst (λ (l : Letter). CanBeHeard l) (same_some f.letter letter e) h.0
    by false more e = more e

pub none_taken : (fs : List Flight) (n : ℕ) → letter_at n fs ≡ None → without_letter n fs ≡ fs
none_taken [] n e = refl
none_taken (f ∷ fs) n e = by (nat_eq f.number n) (none_taken fs n) e
  where
    by : (b : Bool) → (letter_at n fs ≡ None → without_letter n fs ≡ fs) → (if b then Some f.letter else letter_at n fs) ≡ None → (if b then fs else f ∷ without_letter n fs) ≡ f ∷ fs
    by true more e = absurd (let never : Some f.letter ≡ None = e in cc)
    by false more e = ap (λ (xs : List Flight). f ∷ xs) (more e)

take_front : {A : Type 0} (xs ys : List A) → take (length xs) (xs ++ ys) ≡ xs
take_front [] ys = refl
take_front {A} (x ∷ xs) ys = ap (λ (zs : List A). x ∷ zs) (take_front xs ys)

drop_front : {A : Type 0} (xs ys : List A) (y : A) → drop (suc (length xs)) (xs ++ y ∷ ys) ≡ ys
drop_front [] ys y = refl
drop_front (x ∷ xs) ys y = drop_front xs ys y

-- the list without what stands at the place
pub removed : (fs : List Flight) (n k : ℕ) → HasAt fs n k → remove fs k ≡ without_letter n fs
removed fs n k h =
    let one : Flight = record { number = n; letter = h.letter } in
    ap (λ (xs : List Flight). take k xs ++ drop (suc k) xs) h.is
    ∙ ap (λ j. take j (h.front ++ one ∷ h.back) ++ drop (suc j) (h.front ++ one ∷ h.back)) (sym h.count)
    ∙ ap (λ (xs : List Flight). xs ++ drop (suc (length h.front)) (h.front ++ one ∷ h.back)) (take_front h.front (one ∷ h.back))
    ∙ ap (λ (xs : List Flight). h.front ++ xs) (drop_front h.front h.back one) ∙ sym h.left

octets_more : (xs ys : List Flight) → octets_flying (xs ++ ys) ≡ octets_flying xs + octets_flying ys
octets_more [] ys = omega arith
octets_more (x ∷ xs) ys = omega (arith, octets_more xs ys)

pub octets_without : (fs : List Flight) (n k : ℕ) (h : HasAt fs n k) → octets_of h.letter + octets_flying (without_letter n fs) ≡ octets_flying fs
octets_without fs n k h =
    let whole = ap octets_flying h.is ∙ octets_more h.front (record { number = n; letter = h.letter } ∷ h.back) in
    let less = ap octets_flying h.left ∙ octets_more h.front h.back in
    omega (arith, whole, less)

-- what is read at the place is the letter
pub read_at : (fs : List Flight) (n k : ℕ) (h : HasAt fs n k) (f : Flight) → f ≡ get_or fs k f → f.letter ≡ h.letter
read_at fs n k h f e = ap (λ (x : Flight). x.letter) (e ∙ get_or_from_slice_get fs k (record { number = n; letter = h.letter }) f h.here)

-- a letter more, under the next number
above_more : (m : ℕ) (fs : List Flight) (f : Flight) → m < f.number → AreAbove m fs → AreAbove m (fs ++ f ∷ [])
above_more m [] f lt h = (lt, tt)
above_more m (g ∷ gs) f lt h = (h.0, above_more m gs f lt h.1)

rising_more : (fs : List Flight) (f : Flight) (sent : ℕ) → sent < f.number → AreUpTo sent fs → NumbersRise fs → NumbersRise (fs ++ f ∷ [])
rising_more [] f sent lt up h = (tt, tt)
rising_more (g ∷ gs) f sent lt up h = (above_more g.number gs f (omega (arith, lt, up.0)) h.0, rising_more gs f sent lt up.1 h.1)

up_to_more : (fs : List Flight) (f : Flight) (sent : ℕ) → AreUpTo sent fs → f.number ≡ sent + 1 → AreUpTo (sent + 1) (fs ++ f ∷ [])
up_to_more [] f sent h e = (omega (arith, e), tt)
up_to_more (g ∷ gs) f sent h e = (omega (arith, h.0), up_to_more gs f sent h.1 e)

heard_more : (fs : List Flight) (f : Flight) → FlightsCanBeHeard fs → CanBeHeard f.letter → FlightsCanBeHeard (fs ++ f ∷ [])
heard_more [] f h one = (one, tt)
heard_more (g ∷ gs) f h one = (h.0, heard_more gs f h.1 one)

pub counted_more : (octets sent letters : ℕ) (fs : List Flight) (letter : Letter) → FlightIsCounted octets sent fs → CanBeHeard letter → fits letters octets (octets_of letter) ≡ true
    → FlightIsCounted (octets + octets_of letter) (sent + 1) (fs ++ record { number = sent + 1; letter = letter } ∷ [])
counted_more octets sent letters fs letter h one room =
    let f : Flight = record { number = sent + 1; letter = letter } in
    let within = and_parts (nat_lt letters most_letters) (nat_le (octets + octets_of letter) most_octets) room in
    let small : octets + octets_of letter ≤ 536870912 = at_most (octets + octets_of letter) within.1 in
    record {
      rising = rising_more fs f sent (omega arith) h.drawn h.rising;
      drawn = up_to_more fs f sent h.drawn refl;
      sum = omega (arith, h.sum, octets_more fs (f ∷ []), one_octets f);
      few = omega (arith, small);
      heard = heard_more fs f h.heard one;
    }
  where
    at_most : (n : ℕ) → nat_le n 536870912 ≡ true → n ≤ 536870912
    at_most n e = grind (arith, nat_tests)

    one_octets : (f : Flight) → octets_flying (f ∷ []) ≡ octets_of f.letter
    one_octets f = omega arith

-- letters that are put in flight after others
pub put_more : (xs : List Letter) (x : Letter) (p : PutDown) → put_all (xs ++ x ∷ []) p ≡ put_one x (put_all xs p)
put_more [] x p = refl
put_more (y ∷ ys) x p = put_more ys x (put_one y p)

pub counted_left : (octets less sent : ℕ) (posted : Option ℕ) (fs : List Flight) → FlightIsCounted octets sent fs → less + octets_flying (flights_without posted fs) ≡ octets_flying fs
    → FlightIsCounted (octets - less) sent (flights_without posted fs)
counted_left octets less sent None fs h e = subst (λ n. FlightIsCounted n sent fs) (omega (arith, e)) h
counted_left octets less sent (Some n) fs h e = counted_without octets less sent n fs h e

pub all_rest : (x : Letter) (xs ys : List Letter) → ys ≡ x ∷ xs → AllCanBeHeard ys → AllCanBeHeard xs
all_rest x xs ys e h = λ k d within. subst (λ (zs : List Letter). AllCanBeHeard zs) e h (suc k) d (omega (arith, within))

-- letters that can be taken and that fit can be heard
pub all_heard : (letters : List Letter) → AllCanBeTaken letters → All FitsMaps letters → AllCanBeHeard letters
all_heard letters taken fits = λ k d within. record { taken = taken k d within; fits = fits k d within }
