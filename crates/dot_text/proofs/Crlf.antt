-- Octets with no CRLF, and one octet more.
use Rattle.std.proofs.Common.{◌≡◌, ◌≢◌, ◌+◌, ◌<◌, ℕ, zero, suc, List, [], ◌∷◌, ◌++◌, length, refl, sym, ap, ap₂, subst, ◌∙◌, arith, append_assoc}
use Rattle.std.specs.Prelude.{slice_index}
use Rattle.mail_model.specs.Lines.{HasNoCrlf, sent_line}

-- none before octets with none
pub none_cons : (x y : ℕ) (l : List ℕ) → (x ≡ 13 → y ≢ 10) → HasNoCrlf (y ∷ l) → HasNoCrlf (x ∷ y ∷ l)
none_cons x y l here later zero within cr lf = here cr lf
none_cons x y l here later (suc k) within cr lf =
    let one : suc k + 1 ≡ suc (k + 1) = omega arith in
    let inside : k + 1 < length (y ∷ l) = omega arith in
    later k inside cr (sym (ap (slice_index (x ∷ y ∷ l)) one) ∙ lf)

-- nor in what follows their first
pub none_tail : (x : ℕ) (l : List ℕ) → HasNoCrlf (x ∷ l) → HasNoCrlf l
none_tail x l none k within cr lf =
    let one : suc k + 1 ≡ suc (k + 1) = omega arith in
    let inside : suc k + 1 < length (x ∷ l) = omega arith in
    none (suc k) inside cr (ap (slice_index (x ∷ l)) one ∙ lf)

-- and not at their beginning
pub none_here : (x y : ℕ) (l : List ℕ) → HasNoCrlf (x ∷ y ∷ l) → x ≡ 13 → y ≢ 10
none_here x y l none cr lf = none 0 (omega arith) cr lf

-- one octet or none
pub none_nil : HasNoCrlf []
none_nil k within = absurd (omega arith)

pub none_one : (x : ℕ) → HasNoCrlf (x ∷ [])
none_one x k within = absurd (omega arith)

-- one octet more after a last one
pub none_push : (front : List ℕ) (y x : ℕ) → HasNoCrlf (front ++ y ∷ []) → (y ≡ 13 → x ≢ 10) → HasNoCrlf ((front ++ y ∷ []) ++ x ∷ [])
none_push [] y x none here = none_cons y x [] here (none_one x)
none_push (a ∷ []) y x none here = none_cons a y (x ∷ []) (none_here a y [] none) (none_push [] y x (none_tail a (y ∷ []) none) here)
none_push (a ∷ b ∷ front) y x none here =
    none_cons a b ((front ++ y ∷ []) ++ x ∷ []) (none_here a b (front ++ y ∷ []) none)
    (none_push (b ∷ front) y x (none_tail a (b ∷ (front ++ y ∷ [])) none) here)

-- one octet less
pub none_front : (front more : List ℕ) → HasNoCrlf (front ++ more) → HasNoCrlf front
none_front [] more none = none_nil
none_front (a ∷ []) more none = none_one a
none_front (a ∷ b ∷ front) more none =
    none_cons a b front (none_here a b (front ++ more) none) (none_front (b ∷ front) more (none_tail a (b ∷ (front ++ more)) none))

-- octets that are no line yet, and CRLF after others
not_whole : (line : List ℕ) → HasNoCrlf (13 ∷ 10 ∷ line) → ⊥
not_whole line none = none 0 (omega arith) refl refl

-- a line ends at its first CRLF, and what follows it begins there
pub one_line : (a b x y : List ℕ) → HasNoCrlf a → HasNoCrlf b → a ++ 13 ∷ 10 ∷ x ≡ b ++ 13 ∷ 10 ∷ y → (a ≡ b) × (x ≡ y)
one_line [] [] x y none_a none_b same = (refl, cc)
one_line [] (c ∷ []) x y none_a none_b same = cc
one_line [] (c ∷ d ∷ b) x y none_a none_b same =
    let first : c ∷ d ∷ b ≡ 13 ∷ 10 ∷ b = cc in
    absurd (not_whole b (subst HasNoCrlf first none_b))
one_line (c ∷ []) [] x y none_a none_b same = cc
one_line (c ∷ d ∷ a) [] x y none_a none_b same =
    let first : c ∷ d ∷ a ≡ 13 ∷ 10 ∷ a = cc in
    absurd (not_whole a (subst HasNoCrlf first none_a))
one_line (c ∷ a) (d ∷ b) x y none_a none_b same =
    let first : c ≡ d = cc in
    let later : a ++ 13 ∷ 10 ∷ x ≡ b ++ 13 ∷ 10 ∷ y = cc in
    let rest = one_line a b x y (none_tail c a none_a) (none_tail d b none_b) later in
    (ap₂ ◌∷◌ first rest.0, rest.1)

-- the same of the line with its CRLF
pub one_sent_line : (a b x y : List ℕ) → HasNoCrlf a → HasNoCrlf b → sent_line a ++ x ≡ sent_line b ++ y → (a ≡ b) × (x ≡ y)
one_sent_line a b x y none_a none_b same =
    one_line a b x y none_a none_b (sym (append_assoc a (13 ∷ 10 ∷ []) x) ∙ same ∙ append_assoc b (13 ∷ 10 ∷ []) y)

-- octets with a CRLF among them
has_one : (a x : List ℕ) → HasNoCrlf (a ++ 13 ∷ 10 ∷ x) → ⊥
has_one [] x none = not_whole x none
has_one (c ∷ a) x none = has_one a x (none_tail c (a ++ 13 ∷ 10 ∷ x) none)

-- octets with no CRLF begin with no line
pub no_line : (a x l : List ℕ) → HasNoCrlf l → sent_line a ++ x ≡ l → ⊥
no_line a x l none same = has_one a x (subst HasNoCrlf (sym same ∙ append_assoc a (13 ∷ 10 ∷ []) x) none)
