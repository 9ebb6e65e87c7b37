-- What comes next after lines that were read from a text.
use Rattle.std.proofs.Common.{◌≡◌, ◌≢◌, ◌≤◌, ℕ, List, [], ◌∷◌, ◌++◌, length, flat_map, All, refl, sym, ap, ◌∙◌, arith, append_assoc, length-append, inl, inr, ⊎_elim}
use Rattle.std.specs.Prelude.{◌⊎◌}
use Rattle.std.proofs.lemmas.List.Elements.{All-nil, All-cons, All-head, All-tail}
use Rattle.mail_model.specs.Lines.{HasNoLf, BeginsWith, ended}
use Rattle.std.proofs.lemmas.List.{append-nil}
use Rattle.std.proofs.lemmas.List.Concat.{flat_map-append}

abbrev IsNoLf : ℕ → Type 0
IsNoLf x = x ≢ 10

first_of : {X : Type 0} → X → List X → X
first_of x [] = x
first_of x (y ∷ ys) = y

rest_of : {X : Type 0} → List X → List X
rest_of [] = []
rest_of (x ∷ xs) = xs

-- two lists that are equal begin alike, and go on alike
same_first : {X : Type 0} (x y : X) (xs ys : List X) → x ∷ xs ≡ y ∷ ys → x ≡ y
unfolding first_of
same_first x y xs ys is = ap (first_of x) is

same_rest : {X : Type 0} (x y : X) (xs ys : List X) → x ∷ xs ≡ y ∷ ys → xs ≡ ys
unfolding rest_of
same_rest x y xs ys is = ap rest_of is

-- a list with one more at its end
pub flat_map_last : {X : Type 0} (f : X → List ℕ) (xs : List X) (x : X) → flat_map f (xs ++ x ∷ []) ≡ flat_map f xs ++ f x
flat_map_last f xs x = flat_map-append f xs (x ∷ []) ∙ ap (λ (l : List ℕ). flat_map f xs ++ l) (append-nil (f x))

-- what is said of all elements is said of those in front, and of the last
pub front_all : {X : Type 0} (P : X → Type 0) (xs ys : List X) → All P (xs ++ ys) → All P xs
front_all P [] ys all = All-nil P
front_all P (x ∷ xs) ys all = All-cons P x xs (All-head P x (xs ++ ys) all) (front_all P xs ys (All-tail P x (xs ++ ys) all))

pub last_all : {X : Type 0} (P : X → Type 0) (xs : List X) (x : X) → All P (xs ++ x ∷ []) → P x
last_all P [] x all = All-head P x [] all
last_all P (y ∷ xs) x all = last_all P xs x (All-tail P y (xs ++ x ∷ []) all)

one_line : (x a y b : List ℕ) → HasNoLf x → HasNoLf y → x ++ 10 ∷ a ≡ y ++ 10 ∷ b → (x ≡ y) × (a ≡ b)
one_line [] a [] b none one is = (refl, same_rest 10 10 a b is)
one_line [] a (y ∷ ys) b none one is = absurd (All-head IsNoLf y ys one (sym (same_first 10 y a (ys ++ 10 ∷ b) is)))
one_line (x ∷ xs) a [] b none one is = absurd (All-head IsNoLf x xs none (same_first x 10 (xs ++ 10 ∷ a) b is))
one_line (x ∷ xs) a (y ∷ ys) b none one is =
    let more = one_line xs a ys b (All-tail IsNoLf x xs none) (All-tail IsNoLf y ys one) (same_rest x y (xs ++ 10 ∷ a) (ys ++ 10 ∷ b) is) in
    (ap (λ (l : List ℕ). x ∷ l) more.0 ∙ ap (λ (z : ℕ). z ∷ ys) (same_first x y (xs ++ 10 ∷ a) (ys ++ 10 ∷ b) is), more.1)

-- octets begin with one line
pub same_line : (octets x a y b : List ℕ) → BeginsWith octets x a → BeginsWith octets y b → (x ≡ y) × (a ≡ b)
same_line octets x a y b first second = one_line x a y b first.one second.one (sym first.whole ∙ second.whole)

-- and so do longer ones
pub begins_more : (octets line rest more : List ℕ) → BeginsWith octets line rest → BeginsWith (octets ++ more) line (rest ++ more)
begins_more octets line rest more begins = record {
  whole = ap (λ (l : List ℕ). l ++ more) begins.whole ∙ append_assoc line (10 ∷ rest) more;
  one = begins.one;
}

-- octets with no LF that a line begins with are no longer than the line
pub within_line : (octets more line rest : List ℕ) → HasNoLf octets → octets ++ more ≡ line ++ 10 ∷ rest → length octets ≤ length line
within_line [] more line rest none is = omega arith
within_line (x ∷ octets) more [] rest none is = absurd (All-head IsNoLf x octets none (same_first x 10 (octets ++ more) rest is))
within_line (x ∷ octets) more (y ∷ line) rest none is =
    let shorter = within_line octets more line rest (All-tail IsNoLf x octets none) (same_rest x y (octets ++ more) (line ++ 10 ∷ rest) is) in
    omega (arith, shorter)

-- octets with no LF begin with no line
pub no_line : (octets line rest : List ℕ) → HasNoLf octets → octets ++ [] ≡ line ++ 10 ∷ rest → ⊥
no_line octets line rest none is =
    omega (arith, within_line octets [] line rest none is, ap length is, length-append octets [], length-append line (10 ∷ rest))

-- the octets after some of the lines of a text: the next line, and others
pub record Ahead (all lines : List (List ℕ)) (behind more : List ℕ) : Type 0 where
  pub next : List ℕ
  pub others : List (List ℕ)
  pub split : all ≡ lines ++ next ∷ others
  pub begins : BeginsWith more next (flat_map ended others ++ behind)

-- a text that begins with a line and others
line_first : (line : List ℕ) (lines : List (List ℕ)) (behind : List ℕ) → flat_map ended (line ∷ lines) ++ behind ≡ line ++ 10 ∷ (flat_map ended lines ++ behind)
line_first line lines behind = append_assoc (ended line) (flat_map ended lines) behind ∙ append_assoc line (10 ∷ []) (flat_map ended lines ++ behind)

-- A text that is some lines and more, in two ways: the lines of the second are a prefix of those of the first, or go beyond them.
pub next_line : (all lines : List (List ℕ)) (behind more : List ℕ) → All HasNoLf all → All HasNoLf lines
    → flat_map ended all ++ behind ≡ flat_map ended lines ++ more → Ahead all lines behind more ⊎ ((extra : List (List ℕ)) × (lines ≡ all ++ extra))
next_line [] lines behind more each read is = inr (lines, refl)
next_line (x ∷ all) [] behind more each read is =
    inl (record { next = x; others = all; split = refl; begins = record { whole = sym is ∙ line_first x all behind; one = All-head HasNoLf x all each } })
next_line (x ∷ all) (y ∷ lines) behind more each read is =
    let same = same_line (flat_map ended (x ∷ all) ++ behind) x (flat_map ended all ++ behind) y (flat_map ended lines ++ more)
    (record { whole = line_first x all behind; one = All-head HasNoLf x all each })
    (record { whole = is ∙ line_first y lines more; one = All-head HasNoLf y lines read }) in
    ⊎_elim
    (λ (ahead : Ahead all lines behind more). inl (record {
      next = ahead.next;
      others = ahead.others;
      split = ap (λ (l : List (List ℕ)). x ∷ l) ahead.split ∙ ap (λ (l : List ℕ). l ∷ (lines ++ ahead.next ∷ ahead.others)) same.0;
      begins = ahead.begins;
    }))
    (λ (beyond : (extra : List (List ℕ)) × (lines ≡ all ++ extra)).
    inr (beyond.0, ap (λ (l : List (List ℕ)). y ∷ l) beyond.1 ∙ ap (λ (l : List ℕ). l ∷ (all ++ beyond.0)) (sym same.0)))
    (next_line all lines behind more (All-tail HasNoLf x all each) (All-tail HasNoLf y lines read) same.1)

-- where one list with a last element is cut: at that element, or before it
pub last_or_before : {X : Type 0} (xs : List X) (last : X) (front : List X) (x : X) (rest : List X) → xs ++ last ∷ [] ≡ front ++ x ∷ rest
    → ((xs ≡ front) × (last ≡ x) × (rest ≡ [])) ⊎ ((others : List X) × (xs ≡ front ++ x ∷ others))
last_or_before [] last [] x rest is = inl (refl, same_first last x [] rest is, sym (same_rest last x [] rest is))
last_or_before [] last (f ∷ front) x rest is = absurd (omega (arith, ap length is, length-append front (x ∷ rest)))
last_or_before (y ∷ xs) last [] x rest is = inr (xs, ap (λ z. z ∷ xs) (same_first y x (xs ++ last ∷ []) rest is))
last_or_before (y ∷ xs) last (f ∷ front) x rest is =
    let first = same_first y f (xs ++ last ∷ []) (front ++ x ∷ rest) is in
    ⊎_elim
    (λ (here : (xs ≡ front) × (last ≡ x) × (rest ≡ [])). inl (ap (λ l. y ∷ l) here.0 ∙ ap (λ z. z ∷ front) first, here.1, here.2))
    (λ (before : (others : List _) × (xs ≡ front ++ x ∷ others)). inr (before.0, ap (λ l. y ∷ l) before.1 ∙ ap (λ z. z ∷ (front ++ x ∷ before.0)) first))
    (last_or_before xs last front x rest (same_rest y f (xs ++ last ∷ []) (front ++ x ∷ rest) is))
