-- A line of the transcript tells its entry.
use Rattle.std.proofs.Common.{◌≡◌, ◌⊎◌, inl, inr, ⊎_elim, ◌<◌, ◌≤◌, ◌^◌, ◌+◌, ◌/◌, ◌%◌, ℕ, Bool, true, false, List, [], ◌∷◌, ◌++◌, refl, sym, ap, ap₂, get_or, drop, arith, nat_eq, not, ◌&&◌, if◌then◌else◌}
use Rattle.std.specs.Fmt.{decimal}
use Rattle.std.specs.Str.Parse.{AllDigits}
use Rattle.std.proofs.lemmas.Fmt.{decimal_is_IsNumeral, decimal_injective}
use Rattle.std.proofs.lemmas.Str.Parse.{tells_digits}
use Rattle.std.proofs.lemmas.Bool.{cases_lt, lt-ltb, le-ltb, eqb-false, not-true, and_parts}
use Rattle.mail_model.specs.Names.{is_printable}
use Rattle.mail_model.specs.Transcript.{escaped, hex_digit}
use Rattle.mail_model.specs.Transcript.Entry.{Said, Event, Refused}
use Rattle.mail_model.specs.OneReading.{OneEntry}

-- the text of a reply

-- a digit is one of ten, or a letter
hex_digit_is : (n : ℕ) → ((n < 10) × (hex_digit n ≡ 48 + n)) ⊎ ((10 ≤ n) × (hex_digit n ≡ 55 + n))
hex_digit_is n = ⊎_elim
    (λ low. inl (low, rw (lt-ltb n 10 low) refl))
    (λ high. inr (high, rw (le-ltb n 10 high) refl))
    (cases_lt n 10)

one_digit : (m n : ℕ) → hex_digit m ≡ hex_digit n → m ≡ n
one_digit m n e = ⊎_elim
    (λ low. ⊎_elim (λ low_too. omega (arith, e, low.1, low_too.1)) (λ high. absurd (omega (arith, e, low.0, low.1, high.0, high.1))) (hex_digit_is n))
    (λ high. ⊎_elim (λ low. absurd (omega (arith, e, low.0, low.1, high.0, high.1))) (λ high_too. omega (arith, e, high.1, high_too.1)) (hex_digit_is n))
    (hex_digit_is m)

-- whether an octet stands for itself
abbrev is_plain : ℕ → Bool
is_plain x = is_printable x && not (nat_eq x 92)

plain_is_no_escape : (x : ℕ) → is_plain x ≡ true → x ≡ 92 → ⊥
plain_is_no_escape x plain e =
    eqb-false x 92 (not-true (nat_eq x 92) (and_parts (is_printable x) (not (nat_eq x 92)) plain).1) e

abbrev shown_by : Bool → ℕ → List ℕ
shown_by b x = if b then x ∷ [] else 92 ∷ 120 ∷ hex_digit (x / 16) ∷ hex_digit (x % 16) ∷ []

-- an octet and what follows it
same_shown : (b c : Bool) (x y : ℕ) (xs ys : List ℕ) → is_plain x ≡ b → is_plain y ≡ c → shown_by b x ++ xs ≡ shown_by c y ++ ys → (x ≡ y) × (xs ≡ ys)
same_shown true true x y xs ys is is_too e = (cc, cc)
same_shown true false x y xs ys is is_too e = absurd (plain_is_no_escape x is cc)
same_shown false true x y xs ys is is_too e = absurd (plain_is_no_escape y is_too cc)
same_shown false false x y xs ys is is_too e =
    let high : x / 16 ≡ y / 16 = one_digit (x / 16) (y / 16) (ap (λ (l : List ℕ). get_or l 2 0) e) in
    let low : x % 16 ≡ y % 16 = one_digit (x % 16) (y % 16) (ap (λ (l : List ℕ). get_or l 3 0) e) in
    (omega (arith, high, low), ap (drop 4) e)

-- each octet shows something
some_shown : {P : Type 0} (b : Bool) (x : ℕ) (xs : List ℕ) → shown_by b x ++ xs ≡ [] → P
some_shown true x xs e = cc
some_shown false x xs e = cc

one_text : (xs ys : List ℕ) → escaped xs ≡ escaped ys → xs ≡ ys
one_text [] [] e = refl
one_text [] (y ∷ ys) e = some_shown (is_plain y) y (escaped ys) (sym e)
one_text (x ∷ xs) [] e = some_shown (is_plain x) x (escaped xs) e
one_text (x ∷ xs) (y ∷ ys) e =
    let parts = same_shown (is_plain x) (is_plain y) x y (escaped xs) (escaped ys) refl refl e in
    ap₂ ◌∷◌ parts.0 (one_text xs ys parts.1)

-- the number of a session

digit_range : (d : ℕ) (ds : List ℕ) → AllDigits 10 (d ∷ ds) → (48 ≤ d) × AllDigits 10 ds
digit_range d ds all = let parts = tells_digits.parts d ds all in (omega (arith, parts.0), parts.1)

-- digits end at the first space
one_split : (a b x y : List ℕ) → AllDigits 10 a → AllDigits 10 b → a ++ 32 ∷ x ≡ b ++ 32 ∷ y → (a ≡ b) × (x ≡ y)
one_split [] [] x y is is_too e = (refl, cc)
one_split [] (d ∷ b) x y is is_too e = let first : 32 ≡ d = cc in absurd (omega (arith, first, (digit_range d b is_too).0))
one_split (d ∷ a) [] x y is is_too e = let first : d ≡ 32 = cc in absurd (omega (arith, first, (digit_range d a is).0))
one_split (d ∷ a) (c ∷ b) x y is is_too e =
    let first : d ≡ c = cc in
    let later : a ++ 32 ∷ x ≡ b ++ 32 ∷ y = cc in
    let rest = one_split a b x y (digit_range d a is).1 (digit_range c b is_too).1 later in
    (ap₂ ◌∷◌ first rest.0, rest.1)

-- no number begins with a mark
no_mark : {P : Type 0} (a x y : List ℕ) (mark : ℕ) → AllDigits 10 a → mark < 48 → (mark ≡ 32 → ⊥) → a ++ 32 ∷ x ≡ mark ∷ y → P
no_mark [] x y mark is low other e = let first : 32 ≡ mark = cc in absurd (other (sym first))
no_mark (d ∷ a) x y mark is low other e = let first : d ≡ mark = cc in absurd (omega (arith, first, low, (digit_range d a is).0))

number_digits : (n : ℕ) → n < 2 ^ 64 → AllDigits 10 (decimal n)
number_digits n small = (decimal_is_IsNumeral n small).0.1

same_said : (m n : ℕ) (s t : List ℕ) → m < 2 ^ 64 → n < 2 ^ 64 → decimal m ++ 32 ∷ escaped s ≡ decimal n ++ 32 ∷ escaped t → Said m s ≡ Said n t
same_said m n s t small small_too e =
    let parts = one_split (decimal m) (decimal n) (escaped s) (escaped t) (number_digits m small) (number_digits n small_too) e in
    ap₂ Said (decimal_injective m n small small_too parts.0) (one_text s t parts.1)

pub one_entry : OneEntry
one_entry (Said m s) (Said n t) is is_too e = same_said m n s t is is_too e
one_entry (Said m s) (Event t) is is_too e = no_mark (decimal m) (escaped s) (32 ∷ t) 42 (number_digits m is) (omega arith) (λ h. omega (arith, h)) e
one_entry (Said m s) (Refused t) is is_too e = no_mark (decimal m) (escaped s) (32 ∷ t) 33 (number_digits m is) (omega arith) (λ h. omega (arith, h)) e
one_entry (Event s) (Said n t) is is_too e = no_mark (decimal n) (escaped t) (32 ∷ s) 42 (number_digits n is_too) (omega arith) (λ h. omega (arith, h)) (sym e)
one_entry (Event s) (Event t) is is_too e = ap Event (ap (drop 2) e)
one_entry (Event s) (Refused t) is is_too e = absurd (omega (arith, ap (λ (l : List ℕ). get_or l 0 0) e))
one_entry (Refused s) (Said n t) is is_too e = no_mark (decimal n) (escaped t) (32 ∷ s) 33 (number_digits n is_too) (omega arith) (λ h. omega (arith, h)) (sym e)
one_entry (Refused s) (Event t) is is_too e = absurd (omega (arith, ap (λ (l : List ℕ). get_or l 0 0) e))
one_entry (Refused s) (Refused t) is is_too e = ap Refused (ap (drop 2) e)
