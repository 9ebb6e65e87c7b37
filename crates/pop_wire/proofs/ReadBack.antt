-- What is written of a reply is read as that reply.
use Rattle.std.proofs.Common.{◌≡◌, ◌≢◌, ◌≤◌, ◌&&◌, ℕ, Bool, true, false, nat_eq, List, [], ◌∷◌, ◌++◌, length, map, flat_map, Option, Some, None, refl, sym, ap, ap₂, ◌∙◌, arith, append_assoc}
use Rattle.std.specs.Prelude.{All, codes, is_some}
use Rattle.std.specs.List.{list_all}
use Rattle.std.proofs.lemmas.Bool.Decides.{nat_tests}
use Rattle.std.proofs.lemmas.List.Elements.{All-nil, All-cons}
use Rattle.mail_model.specs.Lines.{HasNoCrlf, sent_line}
use Rattle.mail_model.specs.Names.{is_printable}
use Rattle.mail_model.specs.PopReplies.{dotted_line}
use Rattle.line_words.proofs.Verbs.{and_true}
use Rattle.dot_text.specs.Dots.{dotted}
use Rattle.dot_text.proofs.Crlf.{none_nil, none_one, none_cons}
use Rattle.pop_wire.specs.Replies.{FirstPart, Further, BeginsSeveral, BeginsWithReply, is_reply_text, first_says, first_line, further_says, says_text, spaced, reply_octets}
use Rattle.pop_wire.specs.ReplyLaws.{IsReply, RepliesAreReadBack}

-- a first line says what was written
first_read : (good : Bool) (text : List ℕ) → is_reply_text text ≡ true → first_says (first_line good text) ≡ Some (record { good = good; text = text })
first_read true [] fits = refl
first_read true (x ∷ text) fits = rw fits refl
first_read false [] fits = refl
first_read false (x ∷ text) fits = rw fits refl

-- a further line too
further_read : (text : List ℕ) → is_reply_text text ≡ true → further_says (dotted_line text) ≡ says_text text
further_read [] fits = refl
further_read (x ∷ text) fits = by_test (nat_eq x 46) refl
  where
    by_test : (b : Bool) → nat_eq x 46 ≡ b → further_says (dotted_line (x ∷ text)) ≡ says_text (x ∷ text)
    by_test true e =
        let dotted_is : dotted_line (x ∷ text) ≡ 46 ∷ x ∷ text = rw e refl in
        let read : further_says (46 ∷ x ∷ text) ≡ says_text (x ∷ text) = rw (e, fits) refl in
        ap further_says dotted_is ∙ read
    by_test false e =
        let dotted_is : dotted_line (x ∷ text) ≡ x ∷ text = rw e refl in
        let read : further_says (x ∷ text) ≡ says_text (x ∷ text) = rw (e, fits) refl in
        ap further_says dotted_is ∙ read

-- printable octets have no CRLF
no_cr : (x y : ℕ) → is_printable x ≡ true → x ≡ 13 → y ≢ 10
no_cr x y shown cr lf = absurd (let low : 32 ≤ x = grind (arith, nat_tests) in omega (arith, low, cr))

no_crlf : (l : List ℕ) → list_all is_printable l ≡ true → HasNoCrlf l
no_crlf [] shown = none_nil
no_crlf (x ∷ []) shown = none_one x
no_crlf (x ∷ y ∷ l) shown =
    let both = and_true (is_printable x) (list_all is_printable (y ∷ l)) shown in
    none_cons x y l (no_cr x y both.0) (no_crlf (y ∷ l) both.1)

printed : (text : List ℕ) → is_reply_text text ≡ true → list_all is_printable text ≡ true
printed text fits = (and_true _ (list_all is_printable text) fits).1

first_whole : (good : Bool) (text : List ℕ) → is_reply_text text ≡ true → HasNoCrlf (first_line good text)
first_whole good text fits = no_crlf (first_line good text) (shown good text (printed text fits))
  where
    shown : (good : Bool) (text : List ℕ) → list_all is_printable text ≡ true → list_all is_printable (first_line good text) ≡ true
    shown true [] h = refl
    shown true (x ∷ text) h = h
    shown false [] h = refl
    shown false (x ∷ text) h = h

further_whole : (text : List ℕ) → is_reply_text text ≡ true → HasNoCrlf (dotted_line text)
further_whole text fits = no_crlf (dotted_line text) (shown text (printed text fits))
  where
    by_test : (x : ℕ) (text : List ℕ) (b : Bool) → nat_eq x 46 ≡ b → list_all is_printable (x ∷ text) ≡ true → list_all is_printable (dotted_line (x ∷ text)) ≡ true
    by_test x text true e h = rw e h
    by_test x text false e h = rw e h

    shown : (text : List ℕ) → list_all is_printable text ≡ true → list_all is_printable (dotted_line text) ≡ true
    shown [] h = refl
    shown (x ∷ text) h = by_test x text (nat_eq x 46) refl h

-- the further lines
dotted_is : (texts : List (List ℕ)) → dotted texts ≡ flat_map sent_line (map dotted_line texts)
dotted_is [] = refl
dotted_is (text ∷ texts) = ap (λ (l : List ℕ). sent_line (dotted_line text) ++ l) (dotted_is texts)

all_whole : (texts : List (List ℕ)) → list_all is_reply_text texts ≡ true → All HasNoCrlf (map dotted_line texts)
all_whole [] h = All-nil HasNoCrlf
all_whole (text ∷ texts) h =
    let both = and_true (is_reply_text text) (list_all is_reply_text texts) h in
    All-cons HasNoCrlf (dotted_line text) (map dotted_line texts) (further_whole text both.0) (all_whole texts both.1)

all_read : (texts : List (List ℕ)) → list_all is_reply_text texts ≡ true → map further_says (map dotted_line texts) ≡ map says_text texts
all_read [] h = refl
all_read (text ∷ texts) h =
    let both = and_true (is_reply_text text) (list_all is_reply_text texts) h in
    ap₂ (λ (o : Option Further) (os : List (Option Further)). o ∷ os) (further_read text both.0) (all_read texts both.1)

begins_several : (text : List ℕ) (texts : List (List ℕ)) (behind : List ℕ) → is_reply_text text ≡ true → list_all is_reply_text texts ≡ true
    → BeginsSeveral (reply_octets true text (Some texts) ++ behind) text texts (sent_line (46 ∷ []) ++ behind)
begins_several text texts behind fits are =
    let first : List ℕ = sent_line (first_line true text) in
    let last : List ℕ = sent_line (46 ∷ []) in
    record {
      first = first_line true text;
      first_whole = first_whole true text fits;
      good = first_read true text fits;
      lines = map dotted_line texts;
      are = all_whole texts are;
      say = all_read texts are;
      whole = append_assoc first (dotted texts ++ last) behind ∙ ap (λ (l : List ℕ). first ++ l) (append_assoc (dotted texts) last behind)
          ∙ sym (append_assoc first (dotted texts) (last ++ behind)) ∙ ap (λ (l : List ℕ). (first ++ l) ++ (last ++ behind)) (dotted_is texts);
    }

pub read_back : RepliesAreReadBack
read_back several good text None behind reply rightly = (rightly, record { line = first_line good text; line_whole = first_whole good text reply.first; says = first_read good text reply.first; whole = refl })
read_back several good text (Some texts) behind reply rightly = (told several good reply.further.0 rightly, reply.further.0, rw (reply.further.0) (begins_several text texts behind reply.first reply.further.1))
  where
    told : (several good : Bool) → good ≡ true → (good && several) ≡ true → several ≡ true
    told several true e h = h
    told several false e h = cc
