-- TOP shows whole lines.
use Rattle.std.proofs.Common.{◌≡◌, ◌≢◌, ℕ, zero, suc, Bool, true, false, ◌&&◌, nat_eq, List, [], ◌∷◌, ◌++◌, length, take, drop, flat_map, append_assoc, append-nil, refl, sym, ap, ◌∙◌, arith}
use Rattle.std.specs.Prelude.{All}
use Rattle.std.proofs.Math.Seq.{drop-append_seam}
use Rattle.std.proofs.lemmas.List.Concat.{flat_map-append}
use Rattle.std.proofs.lemmas.List.Elements.{All-head, All-tail}
use Rattle.std.proofs.lemmas.Bool.{cond-false, eqb-true, and_right, ne_eqb}
use Rattle.mail_model.specs.Lines.{HasNoCrlf, sent_line}
use Rattle.mail_model.specs.PopReplies.{header_from, header_of, first_lines, top_of}
use Rattle.mail_model.specs.Laws.{AreFilled, TopShowsLines}
use Rattle.mail_model.proofs.Units.{rest_whole}

-- two octets of a whole line are no CRLF
no_crlf : (x y : ℕ) (line : List ℕ) → HasNoCrlf (x ∷ y ∷ line) → (nat_eq x 13 && nat_eq y 10) ≡ false
no_crlf x y line whole = by (nat_eq x 13) refl
  where
    by : (b : Bool) → nat_eq x 13 ≡ b → (b && nat_eq y 10) ≡ false
    by false is = refl
    by true is = ne_eqb y 10 (whole 0 (omega arith) (eqb-true x 13 is))

-- nor is the last of them with the CR behind it
no_lf : (x : ℕ) → (nat_eq x 13 && nat_eq 13 10) ≡ false
no_lf x = and_right (nat_eq x 13) false refl

-- the header, line by line

header_line : (x : ℕ) (line more : List ℕ) (begins : Bool) → HasNoCrlf (x ∷ line)
    → header_from begins (x ∷ line ++ 13 ∷ 10 ∷ more) ≡ x ∷ line ++ 13 ∷ 10 ∷ header_from true more
header_line x [] more begins whole = cond-false _ _ _ (no_lf x)
header_line x (y ∷ line) more begins whole =
    cond-false _ _ _ (no_crlf x y line whole) ∙ ap (λ (l : List ℕ). x ∷ l) (header_line y line more false (rest_whole x (y ∷ line) whole))

-- the first line of some, and what is behind it
behind_line : (line rest : List ℕ) → sent_line line ++ rest ≡ line ++ 13 ∷ 10 ∷ rest
behind_line line rest = append_assoc line (13 ∷ 10 ∷ []) rest

header_on : (line more : List ℕ) → HasNoCrlf line → line ≢ [] → header_from true (sent_line line ++ more) ≡ sent_line line ++ header_from true more
header_on [] more whole filled = absurd (filled refl)
header_on (x ∷ line) more whole filled =
    ap (header_from true) (behind_line (x ∷ line) more) ∙ header_line x line more true whole ∙ sym (behind_line (x ∷ line) (header_from true more))

header_lines : (header : List (List ℕ)) (more : List ℕ) → AreFilled header
    → header_from true (flat_map sent_line header ++ more) ≡ flat_map sent_line header ++ header_from true more
header_lines [] more filled = refl
header_lines (line ∷ header) more filled =
    ap (header_from true) (append_assoc (sent_line line) (flat_map sent_line header) more)
    ∙ header_on line (flat_map sent_line header ++ more) filled.0 filled.1
    ∙ ap (λ (l : List ℕ). sent_line line ++ l) (header_lines header more filled.2)
    ∙ sym (append_assoc (sent_line line) (flat_map sent_line header) (header_from true more))

-- the lines behind it

lines_line : (n : ℕ) (line more : List ℕ) → HasNoCrlf line → first_lines (suc n) (line ++ 13 ∷ 10 ∷ more) ≡ line ++ 13 ∷ 10 ∷ first_lines n more
lines_line n [] more whole = refl
lines_line n (x ∷ []) more whole = cond-false _ _ _ (no_lf x)
lines_line n (x ∷ y ∷ line) more whole =
    cond-false _ _ _ (no_crlf x y line whole) ∙ ap (λ (l : List ℕ). x ∷ l) (lines_line n (y ∷ line) more (rest_whole x (y ∷ line) whole))

lines_first : (n : ℕ) (body : List (List ℕ)) → All HasNoCrlf body → first_lines n (flat_map sent_line body) ≡ flat_map sent_line (take n body)
lines_first zero body whole = refl
lines_first (suc n) [] whole = refl
lines_first (suc n) (line ∷ body) whole =
    ap (first_lines (suc n)) (behind_line line (flat_map sent_line body))
    ∙ lines_line n line (flat_map sent_line body) (All-head HasNoCrlf line body whole)
    ∙ ap (λ (l : List ℕ). line ++ 13 ∷ 10 ∷ l) (lines_first n body (All-tail HasNoCrlf line body whole))
    ∙ sym (behind_line line (flat_map sent_line (take n body)))

-- nothing behind the header shows nothing
no_lines : (n : ℕ) → first_lines n [] ≡ []
no_lines zero = refl
no_lines (suc n) = refl

-- both

top_on : (n : ℕ) (header body : List ℕ) → header_of (header ++ body) ≡ header → top_of n (header ++ body) ≡ header ++ first_lines n body
top_on n header body is =
    ap (λ (h : List ℕ). h ++ first_lines n (drop (length h) (header ++ body))) is
    ∙ ap (λ (l : List ℕ). header ++ first_lines n l) (drop-append_seam header body)

-- a message with an empty line behind its header
with_empty : (header : List (List ℕ)) (body : List (List ℕ)) → flat_map sent_line (header ++ [] ∷ body) ≡ (flat_map sent_line header ++ 13 ∷ 10 ∷ []) ++ flat_map sent_line body
with_empty header body = flat_map-append sent_line header ([] ∷ body) ∙ sym (append_assoc (flat_map sent_line header) (13 ∷ 10 ∷ []) (flat_map sent_line body))

with_body : (n : ℕ) (header body : List (List ℕ)) → AreFilled header → All HasNoCrlf body
    → top_of n (flat_map sent_line (header ++ [] ∷ body)) ≡ flat_map sent_line (header ++ [] ∷ take n body)
with_body n header body filled whole =
    let front : List ℕ = flat_map sent_line header ++ 13 ∷ 10 ∷ [] in
    ap (top_of n) (with_empty header body)
    ∙ top_on n front (flat_map sent_line body) (ap header_of (append_assoc (flat_map sent_line header) (13 ∷ 10 ∷ []) (flat_map sent_line body))
    ∙ header_lines header (13 ∷ 10 ∷ flat_map sent_line body) filled)
    ∙ ap (λ (l : List ℕ). front ++ l) (lines_first n body whole)
    ∙ sym (with_empty header (take n body))

without_body : (n : ℕ) (header : List (List ℕ)) → AreFilled header → top_of n (flat_map sent_line header) ≡ flat_map sent_line header
without_body n header filled =
    let all : List ℕ = flat_map sent_line header in
    let is : header_of (all ++ []) ≡ all = header_lines header [] filled ∙ append-nil all in
    ap (top_of n) (sym (append-nil all)) ∙ top_on n all [] is ∙ ap (λ (l : List ℕ). all ++ l) (no_lines n) ∙ append-nil all

pub top_shows_lines : TopShowsLines
top_shows_lines n header body filled whole = (with_body n header body filled whole, without_body n header filled)
