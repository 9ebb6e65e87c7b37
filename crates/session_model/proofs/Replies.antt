-- Each answer of a call's kind has a reply.
use Rattle.std.proofs.Common.{◌≡◌, ◌≢◌, ⊎_elim, ◌+◌, ℕ, zero, suc, Bool, true, false, ◌||◌, nat_eq, List, [], ◌∷◌, ◌++◌, length, map, flat_map, All, Option, None, refl, sym, ap, ◌∙◌, subst, arith, if◌then◌else◌}
use Rattle.std.specs.List.{slice_index}
use Rattle.std.proofs.lemmas.Bool.{and_parts, cases_eq, eqb-true, ne_eqb, false≢true}
use Rattle.std.proofs.lemmas.List.Elements.{All-nil, All-cons, All-head, All-tail}
use Rattle.mail_model.specs.Lines.{HasNoCrlf, sent_line, ends_in_crlf, closed}
use Rattle.mail_model.specs.Smtp.{stored_text}
use Rattle.mail_model.specs.PopReplies.{one_line, shown_part, shown_text, dotted_line, last_line}
use Rattle.mail_model.specs.Maildrop.{wrong_text, entered_text, gone_text, later_text, bye_text, remaining_text}
use Rattle.mail_model.proofs.ShownFiled.{sent_ends}
use Rattle.session_model.specs.Calls.{EachAnswerHasReply, ShowsPart, asked_lines, unstored_text, in_use_text}
use Rattle.session_model.specs.Calls.Call.{Deliver, Login, Fetch, Strike}
use Rattle.session_model.specs.Calls.Answer.{Stored, Listed, Wrong, InUse, NoProfile, Part, GoneAlready, Dropped, Failed}

-- the octets are whole lines
record AreLines (octets : List ℕ) : Type 0 where
  pub lines : List (List ℕ)
  pub whole : All HasNoCrlf lines
  pub are : flat_map sent_line lines ≡ octets

-- no line at all is whole
empty_whole : HasNoCrlf []
empty_whole k within cr lf = absurd (omega (arith, within))

-- one octet more before a line: where it is a CR, no LF follows
one_more : (x : ℕ) (line : List ℕ) → HasNoCrlf line → (x ≡ 13 → slice_index (line ++ 13 ∷ []) 0 ≢ 10) → HasNoCrlf (x ∷ line)
one_more x [] whole not zero within cr lf = absurd (omega (arith, within))
one_more x (y ∷ line) whole not zero within cr lf = not cr lf
one_more x line whole not (suc k) within cr lf =
    let one : suc k + 1 ≡ suc (k + 1) = omega arith in
    whole k (omega (arith, within)) cr (ap (slice_index (x ∷ line)) (sym one) ∙ lf)

-- octets before whole lines
begins_more : (x y : ℕ) (octets : List ℕ) → AreLines (y ∷ octets) → (x ≡ 13 → y ≢ 10) → AreLines (x ∷ y ∷ octets)
begins_more x y octets cut not = by_lines cut.lines cut.whole cut.are
  where
    by_lines : (lines : List (List ℕ)) → All HasNoCrlf lines → flat_map sent_line lines ≡ y ∷ octets → AreLines (x ∷ y ∷ octets)
    by_lines [] whole are = cc
    by_lines (line ∷ lines) whole are = record {
      lines = (x ∷ line) ∷ lines;
      whole = All-cons HasNoCrlf (x ∷ line) lines (one_more x line (All-head HasNoCrlf line lines whole) (λ cr lf. not cr (sym (first line are) ∙ lf))) (All-tail HasNoCrlf line lines whole);
      are = ap (λ (l : List ℕ). x ∷ l) are;
    }
      where
        first : (line : List ℕ) → sent_line line ++ flat_map sent_line lines ≡ y ∷ octets → slice_index (line ++ 13 ∷ []) 0 ≡ y
        first [] same = cc
        first (z ∷ line) same = cc

-- a CRLF before whole lines
begins_empty : (octets : List ℕ) → AreLines octets → AreLines (13 ∷ 10 ∷ octets)
begins_empty octets cut = record {
  lines = [] ∷ cut.lines;
  whole = All-cons HasNoCrlf [] cut.lines empty_whole cut.whole;
  are = ap (λ (l : List ℕ). 13 ∷ 10 ∷ l) cut.are;
}

-- what ends in CRLF is whole lines
ended_lines : (octets : List ℕ) → ends_in_crlf octets ≡ true → AreLines octets
ended_lines [] ends = absurd (false≢true ends)
ended_lines (x ∷ []) ends = absurd (false≢true ends)
ended_lines (x ∷ y ∷ []) ends =
    let both = and_parts (nat_eq x 13) (nat_eq y 10) ends in
    subst (λ (a : ℕ). AreLines (a ∷ y ∷ [])) (sym (eqb-true x 13 both.0))
    (subst (λ (b : ℕ). AreLines (13 ∷ b ∷ [])) (sym (eqb-true y 10 both.1)) (begins_empty [] (record { lines = []; whole = All-nil HasNoCrlf; are = refl })))
ended_lines (x ∷ y ∷ z ∷ []) ends =
    let both = and_parts (nat_eq y 13) (nat_eq z 10) ends in
    begins_more x y (z ∷ []) (ended_lines (y ∷ z ∷ []) ends) (λ cr lf. let e : 13 ≡ 10 = sym (eqb-true y 13 both.0) ∙ lf in absurd (omega (arith, e)))
ended_lines (x ∷ y ∷ z ∷ w ∷ octets) ends = ⊎_elim
    (λ cr. ⊎_elim
    (λ lf.
    subst (λ (a : ℕ). AreLines (a ∷ y ∷ z ∷ w ∷ octets)) (sym cr)
    (subst (λ (b : ℕ). AreLines (13 ∷ b ∷ z ∷ w ∷ octets)) (sym lf) (begins_empty (z ∷ w ∷ octets) (ended_lines (z ∷ w ∷ octets) ends))))
    (λ other. begins_more x y (z ∷ w ∷ octets) (ended_lines (y ∷ z ∷ w ∷ octets) ends) (λ e. other))
    (cases_eq y 10))
    (λ other. begins_more x y (z ∷ w ∷ octets) (ended_lines (y ∷ z ∷ w ∷ octets) ends) (λ e. absurd (other e)))
    (cases_eq x 13)

-- so is a message that is closed
closed_lines : (octets : List ℕ) → AreLines (closed octets)
closed_lines octets = by_test octets (nat_eq (length octets) 0 || ends_in_crlf octets) refl
  where
    either : (text : List ℕ) → nat_eq (length text) 0 || ends_in_crlf text ≡ true → AreLines text
    either [] is = record { lines = []; whole = All-nil HasNoCrlf; are = refl }
    either (x ∷ text) is = ended_lines (x ∷ text) (not_empty (length text) is)
      where
        not_empty : (n : ℕ) → nat_eq (suc n) 0 || ends_in_crlf (x ∷ text) ≡ true → ends_in_crlf (x ∷ text) ≡ true
        not_empty n e = subst (λ (b : Bool). (b || ends_in_crlf (x ∷ text)) ≡ true) (ne_eqb (suc n) 0 (λ z. absurd (omega (arith, z)))) e

    by_test : (text : List ℕ) (b : Bool) → (nat_eq (length text) 0 || ends_in_crlf text) ≡ b → AreLines (if b then text else sent_line text)
    by_test text true is = either text is
    by_test text false is = ended_lines (sent_line text) (sent_ends text)

part_reply : (asked : Option ℕ) (octets : List ℕ) → (reply : List (List ℕ)) × ShowsPart asked octets reply
part_reply asked octets =
    let cut = closed_lines (shown_part asked octets) in
    (shown_text asked (length octets) ∷ map dotted_line cut.lines ++ last_line, record { lines = cut.lines; are = cut.whole; whole = cut.are; says = refl })

pub each_answer_has_reply : EachAnswerHasReply
each_answer_has_reply unit (Deliver mail) (Stored id) is = ((one_line stored_text, refl), (one_line stored_text, refl))
each_answer_has_reply unit (Deliver mail) Failed is = ((one_line unstored_text, refl), (one_line unstored_text, refl))
each_answer_has_reply unit (Login user given) (Listed items) is = ((one_line entered_text, refl), (one_line entered_text, refl))
each_answer_has_reply unit (Login user given) Wrong is = ((one_line wrong_text, refl), (one_line wrong_text, refl))
each_answer_has_reply unit (Login user given) InUse is = ((one_line in_use_text, refl), (one_line in_use_text, refl))
each_answer_has_reply unit (Login user given) NoProfile is = ((one_line later_text, refl), (one_line later_text, refl))
each_answer_has_reply unit (Login user given) Failed is = ((one_line later_text, refl), (one_line later_text, refl))
each_answer_has_reply unit (Fetch user id) GoneAlready is = ((one_line gone_text, refl), (one_line gone_text, refl))
each_answer_has_reply unit (Fetch user id) Failed is = ((one_line later_text, refl), (one_line later_text, refl))
each_answer_has_reply unit (Strike user ids) Dropped is = ((one_line bye_text, refl), (one_line bye_text, refl))
each_answer_has_reply unit (Strike user ids) Failed is = ((one_line remaining_text, refl), (one_line remaining_text, refl))
each_answer_has_reply unit (Fetch user id) (Part octets) is = (part_reply None octets, part_reply (asked_lines unit) octets)
each_answer_has_reply unit call answer is = absurd is
