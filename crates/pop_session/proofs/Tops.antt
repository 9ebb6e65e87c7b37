-- What TOP shows of a message, octet by octet.
use Rattle.std.proofs.Common.{◌≡◌, ◌<◌, ◌≤◌, ◌+◌, ◌-◌, ℕ, zero, suc, Bool, true, false, List, [], ◌∷◌, ◌++◌, length, take, drop, append_assoc, append-nil, refl, sym, ap, ap₂, ◌∙◌, arith}
use Rattle.std.proofs.lemmas.List.{drop-drop, drop_all, length-take-le, length-drop}
use Rattle.mail_model.specs.PopReplies.{header_from, header_of, first_lines, top_of}
use Rattle.pop_session.specs.Messages.{begins_crlf}

-- no octets have no first ones
take_none : (n : ℕ) → ◌≡◌ {A = List ℕ} (take n []) []
take_none zero = refl
take_none (suc n) = refl

-- the octets up to a place, and some behind it
pub take_on : (at k : ℕ) (octets : List ℕ) → take (at + k) octets ≡ take at octets ++ take k (drop at octets)
take_on zero k octets = let e : 0 + k ≡ k = omega arith in ap (λ n. take n octets) e
take_on (suc at) k [] = take_none (suc at + k) ∙ sym (take_none k)
take_on (suc at) k (x ∷ octets) = let e : suc at + k ≡ suc (at + k) = omega arith in ap (λ n. take n (x ∷ octets)) e ∙ ap (λ (l : List ℕ). x ∷ l) (take_on at k octets)

-- so many octets more were looked at
pub looked : (F G : List ℕ → List ℕ) (at k : ℕ) (octets whole : List ℕ) → F (drop at octets) ≡ take k (drop at octets) ++ G (drop k (drop at octets))
    → take at octets ++ F (drop at octets) ≡ whole → take (at + k) octets ++ G (drop (at + k) octets) ≡ whole
looked F G at k octets whole step is =
    ap₂ (λ (a b : List ℕ). a ++ G b) (take_on at k octets) (sym (drop-drop k at octets))
    ∙ append_assoc (take at octets) (take k (drop at octets)) (G (drop k (drop at octets)))
    ∙ ap (λ (l : List ℕ). take at octets ++ l) (sym step) ∙ is

-- a CRLF is two octets
pub crlf_room : (octets : List ℕ) → begins_crlf octets ≡ true → 2 ≤ length octets
crlf_room [] h = absurd (cc)
crlf_room (x ∷ []) h = absurd (cc)
crlf_room (x ∷ y ∷ ys) h = omega arith

pub room_behind : (at : ℕ) (octets : List ℕ) → at ≤ length octets → begins_crlf (drop at octets) ≡ true → at + 2 ≤ length octets
room_behind at octets within crlf = let room = crlf_room (drop at octets) crlf in omega (arith, room, length-drop at octets, within)

pub some_left : (at : ℕ) (octets : List ℕ) → at < length octets → 0 < length (drop at octets)
some_left at octets within = omega (arith, length-drop at octets, within)

-- the header, where no CRLF comes next
pub header_other : (begins : Bool) (octets : List ℕ) → 0 < length octets → begins_crlf octets ≡ false → header_from begins octets ≡ take 1 octets ++ header_from false (drop 1 octets)
header_other begins [] some h = absurd (omega (arith, some))
header_other begins (x ∷ []) some h = refl
header_other begins (x ∷ y ∷ ys) some h = rw h

-- where one ends a line
pub header_more : (octets : List ℕ) → begins_crlf octets ≡ true → header_from false octets ≡ take 2 octets ++ header_from true (drop 2 octets)
header_more [] h = absurd (cc)
header_more (x ∷ []) h = absurd (cc)
header_more (x ∷ y ∷ ys) h = rw h

-- and where one is an empty line
pub header_ends : (octets : List ℕ) → begins_crlf octets ≡ true → header_from true octets ≡ take 2 octets
header_ends [] h = absurd (cc)
header_ends (x ∷ []) h = absurd (cc)
header_ends (x ∷ y ∷ ys) h = rw h

pub header_found : (at : ℕ) (octets : List ℕ) → begins_crlf (drop at octets) ≡ true → take at octets ++ header_from true (drop at octets) ≡ header_of octets → take (at + 2) octets ≡ header_of octets
header_found at octets crlf is = take_on at 2 octets ∙ ap (λ (l : List ℕ). take at octets ++ l) (sym (header_ends (drop at octets) crlf)) ∙ is

-- nothing more is left
pub header_all : (begins : Bool) (at : ℕ) (octets : List ℕ) → length octets ≤ at → take at octets ++ header_from begins (drop at octets) ≡ header_of octets → take at octets ≡ header_of octets
header_all begins at octets past is = sym (append-nil (take at octets)) ∙ ap (λ (l : List ℕ). take at octets ++ header_from begins l) (sym (drop_all at octets past)) ∙ is

-- lines, where no CRLF comes next
pub lines_other : (n : ℕ) (octets : List ℕ) → 0 < n → 0 < length octets → begins_crlf octets ≡ false → first_lines n octets ≡ take 1 octets ++ first_lines n (drop 1 octets)
lines_other zero octets more some h = absurd (omega (arith, more))
lines_other (suc n) [] more some h = absurd (omega (arith, some))
lines_other (suc n) (x ∷ []) more some h = refl
lines_other (suc n) (x ∷ y ∷ ys) more some h = rw h

-- and where one ends a line
pub lines_more : (n : ℕ) (octets : List ℕ) → 0 < n → begins_crlf octets ≡ true → first_lines n octets ≡ take 2 octets ++ first_lines (n - 1) (drop 2 octets)
lines_more zero octets more h = absurd (omega (arith, more))
lines_more (suc n) [] more h = absurd (cc)
lines_more (suc n) (x ∷ []) more h = absurd (cc)
lines_more (suc n) (x ∷ y ∷ ys) more h = let e : suc n - 1 ≡ n = omega arith in rw (h, e)

-- no more lines are asked for, or left
lines_done : (n : ℕ) → first_lines n [] ≡ []
lines_done zero = refl
lines_done (suc n) = refl

pub lines_none : (n at : ℕ) (octets all : List ℕ) → n ≡ 0 → take at octets ++ first_lines n (drop at octets) ≡ all → take at octets ≡ all
lines_none n at octets all none is = sym (append-nil (take at octets)) ∙ ap (λ m. take at octets ++ first_lines m (drop at octets)) (sym none) ∙ is

pub lines_all : (n at : ℕ) (octets all : List ℕ) → length octets ≤ at → take at octets ++ first_lines n (drop at octets) ≡ all → take at octets ≡ all
lines_all n at octets all past is =
    sym (append-nil (take at octets)) ∙ ap (λ (l : List ℕ). take at octets ++ l) (sym (lines_done n)) ∙ ap (λ (l : List ℕ). take at octets ++ first_lines n l) (sym (drop_all at octets past)) ∙ is

-- both
pub top_is : (n header lines : ℕ) (octets : List ℕ) → header ≤ length octets → take header octets ≡ header_of octets → take lines (drop header octets) ≡ first_lines n (drop header octets)
    → take (header + lines) octets ≡ top_of n octets
top_is n header lines octets within is shown =
    let len : length (header_of octets) ≡ header = ap length (sym is) ∙ length-take-le header octets within in
    take_on header lines octets ∙ ap₂ (λ (a b : List ℕ). a ++ b) is shown ∙ ap (λ m. header_of octets ++ first_lines n (drop m octets)) (sym len)
