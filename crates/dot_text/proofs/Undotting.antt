-- One octet more of a text.
use Rattle.std.proofs.Common.{◌≡◌, ◌≢◌, ◌+◌, ◌<◌, ℕ, Bool, true, false, nat_eq, List, [], ◌∷◌, ◌++◌, length, take, get_or, flat_map, Some, None, if◌then◌else◌, refl, sym, ap, ap₂, subst, ◌∙◌, arith, append_assoc}
use Rattle.std.specs.Cmp.Lexicographic.{pointwise}
use Rattle.std.proofs.lemmas.List.{append-nil, same_from_push, take_more}
use Rattle.std.proofs.lemmas.List.Concat.{flat_map-append}
use Rattle.std.proofs.lemmas.Bool.{and_parts, eqb-true, eqb-false, cond-false, false_from_ne_true}
use Rattle.mail_model.specs.Lines.{HasNoCrlf, sent_line}
use Rattle.mail_model.specs.Session.{is_period, undotted, undotted_line}
use Rattle.mail_model.specs.Told.{AreTextLines}
use Rattle.dot_text.specs.Texts.{IsText, IsTextBegun, begun}
use Rattle.dot_text.specs.Places.{UndotsAt, plain_place, next_place, told}
use Rattle.dot_text.specs.declared.undotter.Place.{Place}
use Rattle.dot_text.specs.declared.undotter.Place.TheVariants.{LineStart, Period, PeriodCr, Inside, Cr}
use Rattle.dot_text.proofs.Crlf.{none_nil, none_one, none_push, none_front}

-- octets that are the same by a test
same_octets : (a b : List ℕ) → pointwise nat_eq a b ≡ true → a ≡ b
same_octets [] [] h = refl
same_octets [] (y ∷ b) h = cc
same_octets (x ∷ a) [] h = cc
same_octets (x ∷ a) (y ∷ b) h =
    let both = and_parts (nat_eq x y) (pointwise nat_eq a b) h in
    ap₂ ◌∷◌ (eqb-true x y both.0) (same_octets a b both.1)

other_octets : (a b : List ℕ) → a ≢ b → pointwise nat_eq a b ≡ false
other_octets a b other = false_from_ne_true (pointwise nat_eq a b) (λ h. other (same_octets a b h))

not_period : (line : List ℕ) → is_period line ≡ false → line ≢ 46 ∷ []
not_period line other e =
    let both : is_period (46 ∷ []) ≡ false = ap is_period (sym e) ∙ other in cc

-- what a line has begun to give, which waits for nothing
begun_all : (line : List ℕ) → line ≢ 46 ∷ 13 ∷ [] → begun line ≡ undotted_line line
begun_all line other = cond-false (pointwise nat_eq line (46 ∷ 13 ∷ [])) [] (undotted_line line) (other_octets line (46 ∷ 13 ∷ []) other)

-- one octet more of a line that has one
one_more : (b : Bool) (a : ℕ) (line : List ℕ) (x : ℕ) → (if b then line ++ x ∷ [] else a ∷ (line ++ x ∷ [])) ≡ (if b then line else a ∷ line) ++ x ∷ []
one_more true a line x = refl
one_more false a line x = refl

undotted_push : (front : List ℕ) (y x : ℕ) → undotted_line ((front ++ y ∷ []) ++ x ∷ []) ≡ undotted_line (front ++ y ∷ []) ++ x ∷ []
undotted_push [] y x = one_more (nat_eq y 46) y [] x
undotted_push (a ∷ front) y x = one_more (nat_eq a 46) a (front ++ y ∷ []) x

begun_push : (front : List ℕ) (y x : ℕ) → front ++ y ∷ [] ≢ 46 ∷ 13 ∷ [] → is_period (front ++ y ∷ []) ≡ false
    → begun ((front ++ y ∷ []) ++ x ∷ []) ≡ begun (front ++ y ∷ []) ++ x ∷ []
begun_push front y x other no_period =
    begun_all ((front ++ y ∷ []) ++ x ∷ []) (λ e. not_period (front ++ y ∷ []) no_period (same_from_push (front ++ y ∷ []) (46 ∷ []) x 13 e).0)
    ∙ undotted_push front y x
    ∙ ap (λ (l : List ℕ). l ++ x ∷ []) (sym (begun_all (front ++ y ∷ []) other))

-- the lines of a text, and one more
text_push : (lines : List (List ℕ)) (line : List ℕ) → AreTextLines lines → HasNoCrlf line → is_period line ≡ false → AreTextLines (lines ++ line ∷ [])
text_push [] line are none other = (none, other, tt)
text_push (first ∷ lines) line are none other = (are.0, are.1, text_push lines line are.2 none other)

-- and what each is made into
pub made_push : (f : List ℕ → List ℕ) (lines : List (List ℕ)) (line : List ℕ) → flat_map f (lines ++ line ∷ []) ≡ flat_map f lines ++ f line
made_push f lines line = flat_map-append f lines (line ∷ []) ∙ ap (λ (l : List ℕ). flat_map f lines ++ l) (append-nil (f line))

-- an octet more of the line
in_line : (fed line given : List ℕ) (x : ℕ) (tells : List ℕ) → IsTextBegun fed line given → HasNoCrlf (line ++ x ∷ []) → begun (line ++ x ∷ []) ≡ begun line ++ tells
    → IsTextBegun (fed ++ x ∷ []) (line ++ x ∷ []) (given ++ tells)
in_line fed line given x tells is none gives = record {
  lines = is.lines;
  are = is.are;
  no_end = none;
  whole = ap (λ (l : List ℕ). l ++ x ∷ []) is.whole ∙ append_assoc (flat_map sent_line is.lines) line (x ∷ []);
  gives = ap (λ (l : List ℕ). l ++ tells) is.gives ∙ append_assoc (undotted is.lines) (begun line) tells ∙ ap (λ (l : List ℕ). undotted is.lines ++ l) (sym gives);
}

-- the LF that ends a line
ends_line : (fed front given : List ℕ) → IsTextBegun fed (front ++ 13 ∷ []) given → is_period front ≡ false → begun (front ++ 13 ∷ []) ≡ undotted_line front ++ 13 ∷ []
    → IsTextBegun (fed ++ 10 ∷ []) [] (given ++ 10 ∷ [])
ends_line fed front given is other gives = record {
  lines = is.lines ++ front ∷ [];
  are = text_push is.lines front is.are (none_front front (13 ∷ []) is.no_end) other;
  no_end = none_nil;
  whole = ap (λ (l : List ℕ). l ++ 10 ∷ []) is.whole
      ∙ append_assoc (flat_map sent_line is.lines) (front ++ 13 ∷ []) (10 ∷ [])
      ∙ ap (λ (l : List ℕ). flat_map sent_line is.lines ++ l) (append_assoc front (13 ∷ []) (10 ∷ []))
      ∙ sym (append-nil (flat_map sent_line (is.lines ++ front ∷ [])) ∙ made_push sent_line is.lines front);
  gives = ap (λ (l : List ℕ). l ++ 10 ∷ []) is.gives
      ∙ append_assoc (undotted is.lines) (begun (front ++ 13 ∷ [])) (10 ∷ [])
      ∙ ap (λ (l : List ℕ). undotted is.lines ++ l) (ap (λ (l : List ℕ). l ++ 10 ∷ []) gives ∙ append_assoc (undotted_line front) (13 ∷ []) (10 ∷ []))
      ∙ sym (append-nil (undotted (is.lines ++ front ∷ [])) ∙ made_push (λ line. sent_line (undotted_line line)) is.lines front);
}

-- the LF that ends the text
ends_text : (fed given : List ℕ) → IsTextBegun fed (46 ∷ 13 ∷ []) given → IsText (fed ++ 10 ∷ []) (given ++ [])
ends_text fed given is = record {
  lines = is.lines;
  are = is.are;
  whole = ap (λ (l : List ℕ). l ++ 10 ∷ []) is.whole ∙ append_assoc (flat_map sent_line is.lines) (46 ∷ 13 ∷ []) (10 ∷ []);
  gives = append-nil given ∙ is.gives ∙ append-nil (undotted is.lines);
}

-- an octet of a line that is none of the special ones
plain_step : (fed line given : List ℕ) (x : ℕ) (tells : List ℕ) → IsTextBegun fed line given → is_period line ≡ false → is_period (line ++ x ∷ []) ≡ false
    → HasNoCrlf (line ++ x ∷ []) → begun (line ++ x ∷ []) ≡ begun line ++ tells → UndotsAt (plain_place x) (fed ++ x ∷ []) (given ++ tells)
plain_step fed line given x tells is other other_more none gives = by_test (nat_eq x 13) refl
  where
    by_test : (b : Bool) → nat_eq x 13 ≡ b → UndotsAt (if b then Cr else Inside) (fed ++ x ∷ []) (given ++ tells)
    by_test true e = (line ++ x ∷ [], (line, ap (λ (y : ℕ). line ++ y ∷ []) (eqb-true x 13 e), other), in_line fed line given x tells is none gives)
    by_test false e = (line ++ x ∷ [], (line, x, refl, eqb-false x 13 e, other_more), in_line fed line given x tells is none gives)

-- at the beginning of a line
at_start : (fed given : List ℕ) (x : ℕ) → IsTextBegun fed [] given
    → UndotsAt (if nat_eq x 46 then Period else plain_place x) (fed ++ x ∷ []) (given ++ (if nat_eq x 46 then [] else x ∷ []))
at_start fed given x is = by_test (nat_eq x 46) refl
  where
    period : x ≡ 46 → begun (x ∷ []) ≡ []
    period e = ap (λ (y : ℕ). begun (y ∷ [])) e

    by_test : (b : Bool) → nat_eq x 46 ≡ b → UndotsAt (if b then Period else plain_place x) (fed ++ x ∷ []) (given ++ (if b then [] else x ∷ []))
    by_test true e = (x ∷ [], ap (λ (y : ℕ). y ∷ []) (eqb-true x 46 e), in_line fed [] given x [] is (none_one x) (period (eqb-true x 46 e)))
    by_test false e =
        let no_period : is_period (x ∷ []) ≡ false = rw e refl in
        plain_step fed [] given x (x ∷ []) is refl no_period (none_one x)
        (begun_all (x ∷ []) (λ same. let two : 1 ≡ 2 = ap (λ (l : List ℕ). length l) same in absurd (omega (arith, two))) ∙ rw e refl)

-- after a period that leads a line
at_period : (fed given : List ℕ) (x : ℕ) → IsTextBegun fed (46 ∷ []) given
    → UndotsAt (if nat_eq x 13 then PeriodCr else Inside) (fed ++ x ∷ []) (given ++ (if nat_eq x 13 then [] else x ∷ []))
at_period fed given x is = by_test (nat_eq x 13) refl
  where
    none : HasNoCrlf (46 ∷ x ∷ [])
    none = none_push [] 46 x (none_one 46) (λ e. absurd (omega (arith, e)))

    waits : x ≡ 13 → begun (46 ∷ x ∷ []) ≡ []
    waits e = ap (λ (y : ℕ). begun (46 ∷ y ∷ [])) e

    by_test : (b : Bool) → nat_eq x 13 ≡ b → UndotsAt (if b then PeriodCr else Inside) (fed ++ x ∷ []) (given ++ (if b then [] else x ∷ []))
    by_test true e = (46 ∷ x ∷ [], ap (λ (y : ℕ). 46 ∷ y ∷ []) (eqb-true x 13 e), in_line fed (46 ∷ []) given x [] is none (waits (eqb-true x 13 e)))
    by_test false e = (
      46 ∷ x ∷ [],
      (46 ∷ [], x, refl, eqb-false x 13 e, refl),
      in_line fed (46 ∷ []) given x (x ∷ []) is none
          (begun_all (46 ∷ x ∷ []) (λ same. let cr : x ≡ 13 = cc in eqb-false x 13 e cr)),
    )

-- after other octets
at_inside : (fed front given : List ℕ) (y x : ℕ) → y ≢ 13 → is_period (front ++ y ∷ []) ≡ false → IsTextBegun fed (front ++ y ∷ []) given
    → UndotsAt (plain_place x) (fed ++ x ∷ []) (given ++ x ∷ [])
at_inside fed front given y x no_cr other is =
    plain_step fed (front ++ y ∷ []) given x (x ∷ []) is other
    (other_octets ((front ++ y ∷ []) ++ x ∷ []) (46 ∷ []) (λ e. let none = (same_from_push (front ++ y ∷ []) [] x 46 e).0 in too_long front y none))
    (none_push front y x is.no_end (λ e. absurd (no_cr e)))
    (begun_push front y x (λ e. no_cr (same_from_push front (46 ∷ []) y 13 e).1) other)
  where
    too_long : (l : List ℕ) (z : ℕ) → l ++ z ∷ [] ≢ []
    too_long [] z e = cc
    too_long (a ∷ l) z e = cc

-- after CR that may end a line
at_cr : (fed front given : List ℕ) (x : ℕ) → is_period front ≡ false → IsTextBegun fed (front ++ 13 ∷ []) given
    → UndotsAt (if nat_eq x 10 then LineStart else plain_place x) (fed ++ x ∷ []) (given ++ x ∷ [])
at_cr fed front given x other is = by_test (nat_eq x 10) refl
  where
    no_wait : front ++ 13 ∷ [] ≢ 46 ∷ 13 ∷ []
    no_wait e = not_period front other (same_from_push front (46 ∷ []) 13 13 e).0

    no_period : is_period (front ++ 13 ∷ []) ≡ false
    no_period = other_octets (front ++ 13 ∷ []) (46 ∷ []) (λ e. let last = (same_from_push front [] 13 46 e).1 in absurd (omega (arith, last)))

    gives : (l : List ℕ) → is_period l ≡ false → undotted_line (l ++ 13 ∷ []) ≡ undotted_line l ++ 13 ∷ []
    gives [] e = refl
    gives (a ∷ l) e = one_more (nat_eq a 46) a l 13

    too_long : (l : List ℕ) (z : ℕ) → l ++ z ∷ [] ≢ []
    too_long [] z e = cc
    too_long (a ∷ l) z e = cc

    by_test : (b : Bool) → nat_eq x 10 ≡ b → UndotsAt (if b then LineStart else plain_place x) (fed ++ x ∷ []) (given ++ x ∷ [])
    by_test true e =
        let Behind : ℕ → Type 0 = λ y. UndotsAt LineStart (fed ++ y ∷ []) (given ++ y ∷ []) in
        subst Behind (sym (eqb-true x 10 e))
        ([], refl, ends_line fed front given is other (begun_all (front ++ 13 ∷ []) no_wait ∙ gives front other))
    by_test false e =
        plain_step fed (front ++ 13 ∷ []) given x (x ∷ []) is no_period
        (other_octets ((front ++ 13 ∷ []) ++ x ∷ []) (46 ∷ []) (λ same. too_long front 13 (same_from_push (front ++ 13 ∷ []) [] x 46 same).0))
        (none_push front 13 x is.no_end (λ _. eqb-false x 10 e))
        (begun_push front 13 x no_wait no_period)

-- after a period that leads a line, and CR
at_period_cr : (next : Place) (fed given : List ℕ) (x : ℕ) → IsTextBegun fed (46 ∷ 13 ∷ []) given → next_place PeriodCr x ≡ Some next
    → UndotsAt next (fed ++ x ∷ []) (given ++ told PeriodCr x)
at_period_cr next fed given x is = by_test (nat_eq x 10) refl
  where
    by_test : (b : Bool) → nat_eq x 10 ≡ b → (if b then None else Some (plain_place x)) ≡ Some next → UndotsAt next (fed ++ x ∷ []) (given ++ (if b then [] else 13 ∷ x ∷ []))
    by_test true e some = cc
    by_test false e some =
        let At : Place → Type 0 = λ p. UndotsAt p (fed ++ x ∷ []) (given ++ 13 ∷ x ∷ []) in
        let same : plain_place x ≡ next = cc in
        subst At same
        (plain_step fed (46 ∷ 13 ∷ []) given x (13 ∷ x ∷ []) is refl refl
        (none_push (46 ∷ []) 13 x is.no_end (λ _. eqb-false x 10 e)) refl)

-- a text of which nothing was fed
pub begins : UndotsAt LineStart [] []
begins = ([], refl, record { lines = []; are = tt; no_end = none_nil; whole = refl; gives = refl })

-- an octet more, which does not end the text
pub goes_on : (place next : Place) (fed given : List ℕ) (x : ℕ) → next_place place x ≡ Some next → UndotsAt place fed given
    → UndotsAt next (fed ++ x ∷ []) (given ++ told place x)
goes_on LineStart next fed given x some (line, at, is) =
    let OfLine : List ℕ → Type 0 = λ l. IsTextBegun fed l given in
    let At : Place → Type 0 = λ p. UndotsAt p (fed ++ x ∷ []) (given ++ told LineStart x) in
    let same : (if nat_eq x 46 then Period else plain_place x) ≡ next = cc in
    subst At same (at_start fed given x (subst OfLine at is))
goes_on Period next fed given x some (line, at, is) =
    let OfLine : List ℕ → Type 0 = λ l. IsTextBegun fed l given in
    let At : Place → Type 0 = λ p. UndotsAt p (fed ++ x ∷ []) (given ++ told Period x) in
    let same : (if nat_eq x 13 then PeriodCr else Inside) ≡ next = cc in
    subst At same (at_period fed given x (subst OfLine at is))
goes_on PeriodCr next fed given x some (line, at, is) =
    let OfLine : List ℕ → Type 0 = λ l. IsTextBegun fed l given in
    at_period_cr next fed given x (subst OfLine at is) some
goes_on Inside next fed given x some (line, (front, y, at, no_cr, other), is) =
    let OfLine : List ℕ → Type 0 = λ l. IsTextBegun fed l given in
    let At : Place → Type 0 = λ p. UndotsAt p (fed ++ x ∷ []) (given ++ x ∷ []) in
    let same : plain_place x ≡ next = cc in
    subst At same (at_inside fed front given y x no_cr (sym (ap is_period at) ∙ other) (subst OfLine at is))
goes_on Cr next fed given x some (line, (front, at, other), is) =
    let OfLine : List ℕ → Type 0 = λ l. IsTextBegun fed l given in
    let At : Place → Type 0 = λ p. UndotsAt p (fed ++ x ∷ []) (given ++ x ∷ []) in
    let same : (if nat_eq x 10 then LineStart else plain_place x) ≡ next = cc in
    subst At same (at_cr fed front given x other (subst OfLine at is))

-- the octet that ends the text
pub ends : (place : Place) (fed given : List ℕ) (x : ℕ) → next_place place x ≡ None → UndotsAt place fed given
    → IsText (fed ++ x ∷ []) (given ++ told place x)
ends LineStart fed given x none here = cc
ends Period fed given x none here = cc
ends PeriodCr fed given x none (line, at, is) = by_test (nat_eq x 10) refl none
  where
    by_test : (b : Bool) → nat_eq x 10 ≡ b → (if b then None else Some (plain_place x)) ≡ None → IsText (fed ++ x ∷ []) (given ++ (if b then [] else 13 ∷ x ∷ []))
    by_test true e end =
        let OfLine : List ℕ → Type 0 = λ l. IsTextBegun fed l given in
        let Behind : ℕ → Type 0 = λ y. IsText (fed ++ y ∷ []) (given ++ []) in
        subst Behind (sym (eqb-true x 10 e)) (ends_text fed given (subst OfLine at is))
    by_test false e end = cc
ends Inside fed given x none here = cc
ends Cr fed given x none here = cc

-- the same in a loop over a piece
module _ (place : Place) (piece more out tells : List ℕ) (i : ℕ) (within : i < length piece) where
  -- what the octets up to this one gave
  pub out_more : (start new : List ℕ) → out ≡ start ++ more → new ≡ out ++ tells → new ≡ start ++ (more ++ tells)
  out_more start new so_far e = e ∙ ap (λ (l : List ℕ). l ++ tells) so_far ∙ append_assoc start more tells

  -- the octets up to this one
  fed_more : (fed : List ℕ) → (fed ++ take i piece) ++ get_or piece i 0 ∷ [] ≡ fed ++ take (i + 1) piece
  fed_more fed = append_assoc fed (take i piece) (get_or piece i 0 ∷ []) ∙ ap (λ (l : List ℕ). fed ++ l) (sym (take_more piece i 0 within))

  pub loop_on : (next : Place) (fed given : List ℕ) → next_place place (get_or piece i 0) ≡ Some next → UndotsAt place (fed ++ take i piece) (given ++ more)
      → UndotsAt next (fed ++ take (i + 1) piece) (given ++ (more ++ told place (get_or piece i 0)))
  loop_on next fed given some here =
      let Fed : List ℕ → Type 0 = λ l. UndotsAt next l (given ++ (more ++ told place (get_or piece i 0))) in
      let Given : List ℕ → Type 0 = λ l. UndotsAt next ((fed ++ take i piece) ++ get_or piece i 0 ∷ []) l in
      subst Fed (fed_more fed)
      (subst Given (append_assoc given more (told place (get_or piece i 0))) (goes_on place next (fed ++ take i piece) (given ++ more) (get_or piece i 0) some here))

  pub loop_ends : (fed given : List ℕ) → next_place place (get_or piece i 0) ≡ None → UndotsAt place (fed ++ take i piece) (given ++ more)
      → IsText (fed ++ take (i + 1) piece) (given ++ (more ++ told place (get_or piece i 0)))
  loop_ends fed given none here =
      let Fed : List ℕ → Type 0 = λ l. IsText l (given ++ (more ++ told place (get_or piece i 0))) in
      let Given : List ℕ → Type 0 = λ l. IsText ((fed ++ take i piece) ++ get_or piece i 0 ∷ []) l in
      subst Fed (fed_more fed)
      (subst Given (append_assoc given more (told place (get_or piece i 0))) (ends place (fed ++ take i piece) (given ++ more) (get_or piece i 0) none here))
