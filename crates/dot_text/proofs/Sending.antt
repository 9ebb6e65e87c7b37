-- One octet more of a text that is sent.
use Rattle.std.proofs.Common.{◌≡◌, ◌≢◌, ◌+◌, ◌<◌, ◌≤◌, ℕ, Bool, true, false, ◌&&◌, ◌||◌, nat_eq, List, [], ◌∷◌, ◌++◌, length, take, get_or, flat_map, if◌then◌else◌, refl, sym, ap, subst, ◌∙◌, arith, append_assoc}
use Rattle.std.proofs.lemmas.List.{append-nil, take_more, length-append}
use Rattle.std.proofs.lemmas.Bool.{eqb-true, eqb-false, ne_eqb, cond-true, cond-false, or_right, or_from}
use Rattle.mail_model.specs.Lines.{HasNoCrlf, sent_line}
use Rattle.mail_model.specs.PopReplies.{dotted_line}
use Rattle.mail_model.specs.Lines.{closed, ends_in_crlf}
use Rattle.dot_text.specs.Dots.{Dots, dotted, AreLines, next_tail, dotted_octet, ending, IsSent, IsSentAt}
use Rattle.dot_text.specs.declared.dotting.Tail.{Tail}
use Rattle.dot_text.specs.declared.dotting.Tail.TheVariants.{LineEnd, Cr, Other}
use Rattle.dot_text.proofs.Crlf.{none_nil, none_one, none_push, none_front, none_tail, none_here}
use Rattle.dot_text.proofs.Undotting.{made_push}

-- the lines, and one more
lines_push : (lines : List (List ℕ)) (line : List ℕ) → AreLines lines → HasNoCrlf line → AreLines (lines ++ line ∷ [])
lines_push [] line are none = (none, tt)
lines_push (first ∷ lines) line are none = (are.0, lines_push lines line are.1 none)

-- one octet more of a line that has one
one_more : (b : Bool) (a : ℕ) (line : List ℕ) (x : ℕ) → (if b then 46 ∷ a ∷ (line ++ x ∷ []) else a ∷ (line ++ x ∷ [])) ≡ (if b then 46 ∷ a ∷ line else a ∷ line) ++ x ∷ []
one_more true a line x = refl
one_more false a line x = refl

dotted_push : (front : List ℕ) (y x : ℕ) → dotted_line ((front ++ y ∷ []) ++ x ∷ []) ≡ dotted_line (front ++ y ∷ []) ++ x ∷ []
dotted_push [] y x = one_more (nat_eq y 46) y [] x
dotted_push (a ∷ front) y x = one_more (nat_eq a 46) a (front ++ y ∷ []) x

-- an octet more of the line
in_line : (text line octets : List ℕ) (x : ℕ) (sends : List ℕ) → IsSent text line octets → HasNoCrlf (line ++ x ∷ []) → dotted_line (line ++ x ∷ []) ≡ dotted_line line ++ sends
    → IsSent (text ++ x ∷ []) (line ++ x ∷ []) (octets ++ sends)
in_line text line octets x sends is none made = record {
  lines = is.lines;
  are = is.are;
  no_end = none;
  whole = ap (λ (l : List ℕ). l ++ x ∷ []) is.whole ∙ append_assoc (flat_map sent_line is.lines) line (x ∷ []);
  sends = ap (λ (l : List ℕ). l ++ sends) is.sends ∙ append_assoc (dotted is.lines) (dotted_line line) sends ∙ ap (λ (l : List ℕ). dotted is.lines ++ l) (sym made);
}

-- the LF that ends it
ends_line : (text front octets : List ℕ) → IsSent text (front ++ 13 ∷ []) octets → IsSent (text ++ 10 ∷ []) [] (octets ++ 10 ∷ [])
ends_line text front octets is = record {
  lines = is.lines ++ front ∷ [];
  are = lines_push is.lines front is.are (none_front front (13 ∷ []) is.no_end);
  no_end = none_nil;
  whole = ap (λ (l : List ℕ). l ++ 10 ∷ []) is.whole
      ∙ append_assoc (flat_map sent_line is.lines) (front ++ 13 ∷ []) (10 ∷ [])
      ∙ ap (λ (l : List ℕ). flat_map sent_line is.lines ++ l) (append_assoc front (13 ∷ []) (10 ∷ []))
      ∙ sym (append-nil (flat_map sent_line (is.lines ++ front ∷ [])) ∙ made_push sent_line is.lines front);
  sends = ap (λ (l : List ℕ). l ++ 10 ∷ []) is.sends
      ∙ append_assoc (dotted is.lines) (dotted_line (front ++ 13 ∷ [])) (10 ∷ [])
      ∙ ap (λ (l : List ℕ). dotted is.lines ++ l) (ap (λ (l : List ℕ). l ++ 10 ∷ []) (with_cr front) ∙ append_assoc (dotted_line front) (13 ∷ []) (10 ∷ []))
      ∙ sym (append-nil (dotted (is.lines ++ front ∷ [])) ∙ made_push (λ line. sent_line (dotted_line line)) is.lines front);
}
  where
    with_cr : (l : List ℕ) → dotted_line (l ++ 13 ∷ []) ≡ dotted_line l ++ 13 ∷ []
    with_cr [] = refl
    with_cr (a ∷ l) = one_more (nat_eq a 46) a l 13

-- an octet that ends no line
plain_step : (text line octets : List ℕ) (x : ℕ) (sends : List ℕ) → IsSent text line octets → HasNoCrlf (line ++ x ∷ []) → dotted_line (line ++ x ∷ []) ≡ dotted_line line ++ sends
    → IsSentAt (if nat_eq x 13 then Cr else Other) (text ++ x ∷ []) (octets ++ sends)
plain_step text line octets x sends is none made = by_test (nat_eq x 13) refl
  where
    by_test : (b : Bool) → nat_eq x 13 ≡ b → IsSentAt (if b then Cr else Other) (text ++ x ∷ []) (octets ++ sends)
    by_test true e = (line ++ x ∷ [], (line, ap (λ (y : ℕ). line ++ y ∷ []) (eqb-true x 13 e)), in_line text line octets x sends is none made)
    by_test false e = (line ++ x ∷ [], (line, x, refl, eqb-false x 13 e), in_line text line octets x sends is none made)

at_cr : (text front octets : List ℕ) (x : ℕ) → IsSent text (front ++ 13 ∷ []) octets → IsSentAt (next_tail Cr x) (text ++ x ∷ []) (octets ++ x ∷ [])
at_cr text front octets x is = by_test (nat_eq x 10) refl
  where
    by_test : (b : Bool) → nat_eq x 10 ≡ b → IsSentAt (if b then LineEnd else (if nat_eq x 13 then Cr else Other)) (text ++ x ∷ []) (octets ++ x ∷ [])
    by_test true e =
        let Behind : ℕ → Type 0 = λ y. IsSentAt LineEnd (text ++ y ∷ []) (octets ++ y ∷ []) in
        subst Behind (sym (eqb-true x 10 e)) ([], refl, ends_line text front octets is)
    by_test false e =
        plain_step text (front ++ 13 ∷ []) octets x (x ∷ []) is (none_push front 13 x is.no_end (λ _. eqb-false x 10 e)) (dotted_push front 13 x)

-- an octet more
pub sends_on : (tail : Tail) (text octets : List ℕ) (x : ℕ) → IsSentAt tail text octets → IsSentAt (next_tail tail x) (text ++ x ∷ []) (octets ++ dotted_octet tail x)
sends_on LineEnd text octets x (line, at, is) =
    let OfLine : List ℕ → Type 0 = λ l. IsSent text l octets in
    plain_step text [] octets x (dotted_octet LineEnd x) (subst OfLine at is) (none_one x) refl
sends_on Cr text octets x (line, (front, at), is) =
    let OfLine : List ℕ → Type 0 = λ l. IsSent text l octets in
    at_cr text front octets x (subst OfLine at is)
sends_on Other text octets x (line, (front, y, at, no_cr), is) =
    let OfLine : List ℕ → Type 0 = λ l. IsSent text l octets in
    let here = subst OfLine at is in
    plain_step text (front ++ y ∷ []) octets x (x ∷ []) here (none_push front y x here.no_end (λ e. absurd (no_cr e))) (dotted_push front y x)

-- the same in a loop over the text
module _ (tail : Tail) (text so_far out : List ℕ) (i : ℕ) (within : i < length text) where
  pub loop_on : IsSentAt tail (take i text) so_far → IsSentAt (next_tail tail (get_or text i 0)) (take (i + 1) text) (so_far ++ dotted_octet tail (get_or text i 0))
  loop_on here =
      let OfText : List ℕ → Type 0 = λ l. IsSentAt (next_tail tail (get_or text i 0)) l (so_far ++ dotted_octet tail (get_or text i 0)) in
      subst OfText (sym (take_more text i 0 within)) (sends_on tail (take i text) so_far (get_or text i 0) here)

-- where a text ends

-- octets of three or more, without the first
ends_tail : (x y z : ℕ) (l : List ℕ) → ends_in_crlf (x ∷ y ∷ z ∷ l) ≡ ends_in_crlf (y ∷ z ∷ l)
ends_tail x y z l = refl

-- after any octets, two or more decide
ends_behind : (front : List ℕ) (y z : ℕ) (l : List ℕ) → ends_in_crlf (front ++ y ∷ z ∷ l) ≡ ends_in_crlf (y ∷ z ∷ l)
ends_behind [] y z l = refl
ends_behind (a ∷ []) y z l = refl
ends_behind (a ∷ b ∷ []) y z l = refl
ends_behind (a ∷ b ∷ c ∷ front) y z l = ends_behind (b ∷ c ∷ front) y z l

-- a line that has no CRLF
ends_no_line : (line : List ℕ) → HasNoCrlf line → ends_in_crlf line ≡ false
ends_no_line [] none = refl
ends_no_line (x ∷ []) none = refl
ends_no_line (x ∷ y ∷ []) none = by_test (nat_eq x 13) refl
  where
    by_test : (b : Bool) → nat_eq x 13 ≡ b → (b && nat_eq y 10) ≡ false
    by_test true e = ne_eqb y 10 (none_here x y [] none (eqb-true x 13 e))
    by_test false e = refl
ends_no_line (x ∷ y ∷ z ∷ l) none = ends_no_line (y ∷ z ∷ l) (none_tail x (y ∷ z ∷ l) none)

-- after an LF
ends_behind_lf : (line : List ℕ) → HasNoCrlf line → ends_in_crlf (10 ∷ line) ≡ false
ends_behind_lf [] none = refl
ends_behind_lf (x ∷ []) none = refl
ends_behind_lf (x ∷ y ∷ l) none = ends_no_line (x ∷ y ∷ l) none

-- after any octets, octets that are two or more
ends_append : (front l : List ℕ) → 2 ≤ length l → ends_in_crlf (front ++ l) ≡ ends_in_crlf l
ends_append front [] two = absurd (omega (arith, two))
ends_append front (y ∷ []) two = absurd (omega (arith, two))
ends_append front (y ∷ z ∷ l) two = ends_behind front y z l

-- a line with its CRLF has two or more
two_octets : (line more : List ℕ) → 2 ≤ length (sent_line line ++ more)
two_octets line more = omega (arith, length-append (sent_line line) more, length-append line (13 ∷ 10 ∷ []))

-- whole lines end in CRLF
ends_with_lines : (first : List ℕ) (lines : List (List ℕ)) → ends_in_crlf (flat_map sent_line (first ∷ lines)) ≡ true
ends_with_lines first [] = ap ends_in_crlf (append-nil (sent_line first)) ∙ ends_behind first 13 10 []
ends_with_lines first (second ∷ lines) =
    ends_append (sent_line first) (flat_map sent_line (second ∷ lines)) (two_octets second (flat_map sent_line lines)) ∙ ends_with_lines second lines

-- and octets after them that are no line do not
ends_with_line : (lines : List (List ℕ)) (y : ℕ) (line : List ℕ) → HasNoCrlf (y ∷ line) → ends_in_crlf (flat_map sent_line lines ++ y ∷ line) ≡ false
ends_with_line [] y line none = ends_no_line (y ∷ line) none
ends_with_line (first ∷ []) y line none =
    ap ends_in_crlf (ap (λ (l : List ℕ). l ++ y ∷ line) (append-nil (sent_line first)) ∙ append_assoc first (13 ∷ 10 ∷ []) (y ∷ line))
    ∙ ends_behind first 13 10 (y ∷ line) ∙ ends_behind_lf (y ∷ line) none
ends_with_line (first ∷ second ∷ lines) y line none =
    ap ends_in_crlf (append_assoc (sent_line first) (flat_map sent_line (second ∷ lines)) (y ∷ line))
    ∙ ends_append (sent_line first) (flat_map sent_line (second ∷ lines) ++ y ∷ line)
    (omega (arith, two_octets second (flat_map sent_line lines), length-append (flat_map sent_line (second ∷ lines)) (y ∷ line)))
    ∙ ends_with_line (second ∷ lines) y line none

-- the text, closed
closed_same : (text : List ℕ) → ends_in_crlf text ≡ true → closed text ≡ text
closed_same text ends = cond-true (nat_eq (length text) 0 || ends_in_crlf text) text (sent_line text) (or_right (nat_eq (length text) 0) (ends_in_crlf text) ends)

closed_more : (text : List ℕ) → length text ≢ 0 → ends_in_crlf text ≡ false → closed text ≡ sent_line text
closed_more text some ends =
    cond-false (nat_eq (length text) 0 || ends_in_crlf text) text (sent_line text) (or_from (nat_eq (length text) 0) (ends_in_crlf text) (ne_eqb (length text) 0 some) ends)

-- whole lines
closed_lines : (lines : List (List ℕ)) → closed (flat_map sent_line lines) ≡ flat_map sent_line lines
closed_lines [] = refl
closed_lines (first ∷ lines) = closed_same (flat_map sent_line (first ∷ lines)) (ends_with_lines first lines)

-- and octets after them
closed_line : (lines : List (List ℕ)) (y : ℕ) (line : List ℕ) → HasNoCrlf (y ∷ line)
    → closed (flat_map sent_line lines ++ y ∷ line) ≡ flat_map sent_line (lines ++ (y ∷ line) ∷ [])
closed_line lines y line none =
    closed_more (flat_map sent_line lines ++ y ∷ line) (λ e. absurd (omega (arith, e, length-append (flat_map sent_line lines) (y ∷ line)))) (ends_with_line lines y line none)
    ∙ append_assoc (flat_map sent_line lines) (y ∷ line) (13 ∷ 10 ∷ [])
    ∙ sym (made_push sent_line lines (y ∷ line))

-- the end of the text after whole lines, and after others
sends_lines : (text octets : List ℕ) → IsSent text [] octets → Dots text (octets ++ ending LineEnd)
sends_lines text octets is = record {
  lines = is.lines;
  are = is.are;
  whole = ap closed (is.whole ∙ append-nil (flat_map sent_line is.lines)) ∙ closed_lines is.lines;
  sends = ap (λ (l : List ℕ). l ++ ending LineEnd) (is.sends ∙ append-nil (dotted is.lines));
}

sends_line : (text octets : List ℕ) (y : ℕ) (line : List ℕ) → IsSent text (y ∷ line) octets → Dots text (octets ++ ending Other)
sends_line text octets y line is = record {
  lines = is.lines ++ (y ∷ line) ∷ [];
  are = lines_push is.lines (y ∷ line) is.are is.no_end;
  whole = ap closed is.whole ∙ closed_line is.lines y line is.no_end;
  sends = ap (λ (l : List ℕ). l ++ ending Other) is.sends
      ∙ sym (append_assoc (dotted is.lines ++ dotted_line (y ∷ line)) (13 ∷ 10 ∷ []) (sent_line (46 ∷ [])))
      ∙ ap (λ (l : List ℕ). l ++ sent_line (46 ∷ [])) (append_assoc (dotted is.lines) (dotted_line (y ∷ line)) (13 ∷ 10 ∷ [])
      ∙ sym (made_push (λ l. sent_line (dotted_line l)) is.lines (y ∷ line)));
}

sends_push : (text octets front : List ℕ) (z : ℕ) → IsSent text (front ++ z ∷ []) octets → Dots text (octets ++ ending Other)
sends_push text octets [] z is = sends_line text octets z [] is
sends_push text octets (y ∷ front) z is = sends_line text octets y (front ++ z ∷ []) is

pub sends_end : (tail : Tail) (text octets : List ℕ) → IsSentAt tail text octets → Dots text (octets ++ ending tail)
sends_end LineEnd text octets (line, at, is) =
    let OfLine : List ℕ → Type 0 = λ l. IsSent text l octets in
    sends_lines text octets (subst OfLine at is)
sends_end Cr text octets (line, (front, at), is) =
    let OfLine : List ℕ → Type 0 = λ l. IsSent text l octets in
    sends_push text octets front 13 (subst OfLine at is)
sends_end Other text octets (line, (front, y, at, no_cr), is) =
    let OfLine : List ℕ → Type 0 = λ l. IsSent text l octets in
    sends_push text octets front y (subst OfLine at is)

-- nothing was sent yet
pub sends_none : IsSentAt LineEnd [] []
sends_none = ([], refl, record { lines = []; are = tt; no_end = none_nil; whole = refl; sends = refl })
