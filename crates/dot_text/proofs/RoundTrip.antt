-- What is sent is read back.
use Rattle.std.proofs.Common.{◌≡◌, ℕ, Bool, true, false, nat_eq, List, [], ◌∷◌, ◌++◌, map, flat_map, if◌then◌else◌, refl, sym, ap, ap₂, ◌∙◌, arith}
use Rattle.std.specs.Cmp.Lexicographic.{pointwise}
use Rattle.std.proofs.lemmas.Bool.{and_left, cond-false}
use Rattle.mail_model.specs.Lines.{HasNoCrlf, sent_line}
use Rattle.mail_model.specs.Session.{is_period, undotted, undotted_line}
use Rattle.mail_model.specs.Told.{AreTextLines}
use Rattle.mail_model.specs.PopReplies.{dotted_line}
use Rattle.dot_text.specs.Texts.{IsText}
use Rattle.mail_model.specs.Lines.{closed}
use Rattle.dot_text.specs.Dots.{Dots, dotted, AreLines}
use Rattle.dot_text.specs.Laws.{RoundTrips, DotsAreOne}
use Rattle.dot_text.proofs.Crlf.{none_nil, none_cons, one_sent_line, no_line}
use Rattle.dot_text.proofs.Once.{texts_one, begun_none}

-- a line as it is sent is a line of a text

dotted_none : (line : List ℕ) → HasNoCrlf line → HasNoCrlf (dotted_line line)
dotted_none [] none = none
dotted_none (x ∷ xs) none = by_test (nat_eq x 46)
  where
    by_test : (b : Bool) → HasNoCrlf (if b then 46 ∷ x ∷ xs else x ∷ xs)
    by_test true = none_cons 46 x xs (λ e. absurd (omega (arith, e))) none
    by_test false = none

dotted_no_period : (line : List ℕ) → is_period (dotted_line line) ≡ false
dotted_no_period [] = refl
dotted_no_period (x ∷ xs) = by_test (nat_eq x 46) refl
  where
    by_test : (b : Bool) → nat_eq x 46 ≡ b → is_period (if b then 46 ∷ x ∷ xs else x ∷ xs) ≡ false
    by_test true e = refl
    by_test false e = and_left (nat_eq x 46) (pointwise nat_eq xs []) e

-- and is read back
undotted_dotted : (line : List ℕ) → undotted_line (dotted_line line) ≡ line
undotted_dotted [] = refl
undotted_dotted (x ∷ xs) = by_test (nat_eq x 46) refl
  where
    by_test : (b : Bool) → nat_eq x 46 ≡ b → undotted_line (if b then 46 ∷ x ∷ xs else x ∷ xs) ≡ x ∷ xs
    by_test true e = refl
    by_test false e = cond-false (nat_eq x 46) xs (x ∷ xs) e

-- the same of all lines

text_lines : (lines : List (List ℕ)) → AreLines lines → AreTextLines (map dotted_line lines)
text_lines [] are = tt
text_lines (line ∷ lines) are = (dotted_none line are.0, dotted_no_period line, text_lines lines are.1)

undotted_all : (lines : List (List ℕ)) → flat_map sent_line lines ≡ undotted (map dotted_line lines)
undotted_all [] = refl
undotted_all (line ∷ lines) = ap₂ ◌++◌ (ap sent_line (sym (undotted_dotted line))) (undotted_all lines)

octets_all : (lines : List (List ℕ)) → dotted lines ≡ flat_map sent_line (map dotted_line lines)
octets_all [] = refl
octets_all (line ∷ lines) = ap (λ (l : List ℕ). sent_line (dotted_line line) ++ l) (octets_all lines)

-- the text

dots_text : (text octets : List ℕ) → Dots text octets → IsText octets (closed text)
dots_text text octets is = record {
  lines = map dotted_line is.lines;
  are = text_lines is.lines is.are;
  whole = is.sends ∙ ap (λ (l : List ℕ). l ++ sent_line (46 ∷ [])) (octets_all is.lines);
  gives = is.whole ∙ undotted_all is.lines;
}

pub round_trips : RoundTrips
round_trips text octets is = record {
  is = dots_text text octets is;
  used = λ after others other behind read same. texts_one others octets other (closed text) behind after read (dots_text text octets is) same;
  ends = λ after line given begun. begun_none (octets ++ after) line given octets (closed text) after begun (dots_text text octets is) refl;
}

-- lines that are the same octets
one_lines : (lines others : List (List ℕ)) → AreLines lines → AreLines others → flat_map sent_line lines ≡ flat_map sent_line others → lines ≡ others
one_lines [] [] are_a are_b same = refl
one_lines [] (b ∷ others) are_a are_b same = absurd (no_line b (flat_map sent_line others) [] none_nil (sym same))
one_lines (a ∷ lines) [] are_a are_b same = absurd (no_line a (flat_map sent_line lines) [] none_nil same)
one_lines (a ∷ lines) (b ∷ others) are_a are_b same =
    let first = one_sent_line a b (flat_map sent_line lines) (flat_map sent_line others) are_a.0 are_b.0 same in
    ap₂ ◌∷◌ first.0 (one_lines lines others are_a.1 are_b.1 first.1)

pub dots_one : DotsAreOne
dots_one text octets others first second =
    first.sends
    ∙ ap (λ (ls : List (List ℕ)). dotted ls ++ sent_line (46 ∷ [])) (one_lines first.lines second.lines first.are second.are (sym first.whole ∙ second.whole))
    ∙ sym second.sends
