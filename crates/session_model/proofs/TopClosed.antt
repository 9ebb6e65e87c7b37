-- What TOP shows of a message that is empty or ends in CRLF is so too.
use Rattle.std.proofs.Common.{◌≡◌, ◌⊎◌, inl, inr, ⊎_elim, ℕ, zero, suc, Bool, true, false, ◌&&◌, nat_eq, List, [], ◌∷◌, ◌++◌, length, drop, append-nil, refl, sym, ap, ◌∙◌, subst, if◌then◌else◌}
use Rattle.std.proofs.Math.Seq.{drop-length}
use Rattle.std.proofs.lemmas.Bool.{cond_both, cond-true, or_right}
use Rattle.mail_model.specs.Lines.{closed, ends_in_crlf}
use Rattle.mail_model.specs.PopReplies.{header_from, header_of, first_lines, top_of}
use Rattle.mail_model.proofs.ShownFiled.{ends_front}

-- a text that ends so is closed
closes : (text : List ℕ) → ends_in_crlf text ≡ true → closed text ≡ text
closes text ends = cond-true _ _ _ (or_right (nat_eq (length text) 0) (ends_in_crlf text) ends)

-- the header

-- it is all octets, or ends so
header_ends : (begins : Bool) (octets : List ℕ) → (header_from begins octets ≡ octets) ⊎ (ends_in_crlf (header_from begins octets) ≡ true)
header_ends begins [] = inl refl
header_ends begins (x ∷ []) = inl refl
header_ends begins (x ∷ y ∷ ys) =
    cond_both (nat_eq x 13 && nat_eq y 10) _ _ (λ l. (l ≡ x ∷ y ∷ ys) ⊎ (ends_in_crlf l ≡ true)) (by_begins begins (header_ends true ys))
    (λ other. ⊎_elim (λ all. inl (ap (λ (l : List ℕ). x ∷ l) all)) (λ ends. inr (ends_front (x ∷ []) (header_from false (y ∷ ys)) ends)) (header_ends false (y ∷ ys)))
  where
    by_begins : (b : Bool) → (header_from true ys ≡ ys) ⊎ (ends_in_crlf (header_from true ys) ≡ true) → (nat_eq x 13 && nat_eq y 10) ≡ true
        → (x ∷ y ∷ (if b then [] else header_from true ys) ≡ x ∷ y ∷ ys) ⊎ (ends_in_crlf (x ∷ y ∷ (if b then [] else header_from true ys)) ≡ true)
    by_begins true later crlf = inr crlf
    by_begins false later crlf = ⊎_elim (λ all. inl (ap (λ (l : List ℕ). x ∷ y ∷ l) all)) (λ ends. inr (ends_front (x ∷ y ∷ []) (header_from true ys) ends)) later

-- it begins them
header_begins : (begins : Bool) (octets : List ℕ) → header_from begins octets ++ drop (length (header_from begins octets)) octets ≡ octets
header_begins begins [] = refl
header_begins begins (x ∷ []) = refl
header_begins begins (x ∷ y ∷ ys) =
    cond_both (nat_eq x 13 && nat_eq y 10) _ _ (λ l. l ++ drop (length l) (x ∷ y ∷ ys) ≡ x ∷ y ∷ ys) (λ crlf. by_begins begins (header_begins true ys))
    (λ other. ap (λ (l : List ℕ). x ∷ l) (header_begins false (y ∷ ys)))
  where
    by_begins : (b : Bool) → header_from true ys ++ drop (length (header_from true ys)) ys ≡ ys
        → (x ∷ y ∷ (if b then [] else header_from true ys)) ++ drop (length (x ∷ y ∷ (if b then [] else header_from true ys))) (x ∷ y ∷ ys) ≡ x ∷ y ∷ ys
    by_begins true later = refl
    by_begins false later = ap (λ (l : List ℕ). x ∷ y ∷ l) later

-- the lines behind it

-- they are all octets, or end so
lines_end : (n : ℕ) (octets : List ℕ) → (first_lines (suc n) octets ≡ octets) ⊎ (ends_in_crlf (first_lines (suc n) octets) ≡ true)
lines_end n [] = inl refl
lines_end n (x ∷ []) = inl refl
lines_end n (x ∷ y ∷ ys) =
    cond_both (nat_eq x 13 && nat_eq y 10) _ _ (λ l. (l ≡ x ∷ y ∷ ys) ⊎ (ends_in_crlf l ≡ true)) (by_count n (λ m. lines_end m ys))
    (λ other. ⊎_elim (λ all. inl (ap (λ (l : List ℕ). x ∷ l) all)) (λ ends. inr (ends_front (x ∷ []) (first_lines (suc n) (y ∷ ys)) ends)) (lines_end n (y ∷ ys)))
  where
    by_count : (n : ℕ) → ((m : ℕ) → (first_lines (suc m) ys ≡ ys) ⊎ (ends_in_crlf (first_lines (suc m) ys) ≡ true)) → (nat_eq x 13 && nat_eq y 10) ≡ true
        → (x ∷ y ∷ first_lines n ys ≡ x ∷ y ∷ ys) ⊎ (ends_in_crlf (x ∷ y ∷ first_lines n ys) ≡ true)
    by_count zero later crlf = inr crlf
    by_count (suc n) later crlf = ⊎_elim (λ all. inl (ap (λ (l : List ℕ). x ∷ y ∷ l) all)) (λ ends. inr (ends_front (x ∷ y ∷ []) (first_lines (suc n) ys) ends)) (later n)

none_behind : (n : ℕ) → first_lines n [] ≡ []
none_behind zero = refl
none_behind (suc n) = refl

-- both

-- where the header is all
all_shown : (n : ℕ) (octets : List ℕ) → header_of octets ≡ octets → top_of n octets ≡ octets
all_shown n octets all =
    ap (λ (h : List ℕ). h ++ first_lines n (drop (length h) octets)) all
    ∙ ap (λ (l : List ℕ). octets ++ first_lines n l) (drop-length octets)
    ∙ ap (λ (l : List ℕ). octets ++ l) (none_behind n) ∙ append-nil octets

top_ends : (n : ℕ) (octets : List ℕ) → (top_of n octets ≡ octets) ⊎ (ends_in_crlf (top_of n octets) ≡ true)
top_ends n octets = ⊎_elim (λ all. inl (all_shown n octets all)) (by_count n) (header_ends true octets)
  where
    by_count : (n : ℕ) → ends_in_crlf (header_of octets) ≡ true → (top_of n octets ≡ octets) ⊎ (ends_in_crlf (top_of n octets) ≡ true)
    by_count zero ends = inr (ap ends_in_crlf (append-nil (header_of octets)) ∙ ends)
    by_count (suc n) ends = ⊎_elim
        (λ all. inl (ap (λ (l : List ℕ). header_of octets ++ l) all ∙ header_begins true octets))
        (λ more. inr (ends_front (header_of octets) (first_lines (suc n) (drop (length (header_of octets)) octets)) more))
        (lines_end n (drop (length (header_of octets)) octets))

pub top_closed : (n : ℕ) (octets : List ℕ) → closed octets ≡ octets → closed (top_of n octets) ≡ top_of n octets
top_closed n octets same = ⊎_elim
    (λ all. subst (λ (l : List ℕ). closed l ≡ l) (sym all) same)
    (λ ends. closes (top_of n octets) ends) (top_ends n octets)
