-- Each reply of a session is a whole one, by which what comes after it is known.
use Rattle.std.proofs.Common.{◌≡◌, ◌≢◌, ◌⊎◌, inl, inr, ◌&&◌, ℕ, Bool, true, false, List, [], ◌∷◌, ◌++◌, length, map, Option, Some, None, get_or, refl, sym, ap, ap₂, ◌∙◌, subst, arith, codes}
use Rattle.std.specs.Prelude.{⊤, Result, Ok, Err, if◌then◌else◌}
use Rattle.std.specs.Fmt.{decimal}
use Rattle.std.proofs.lemmas.Bool.{true≢false, cond_both, cond-true}
use Rattle.mail_model.specs.Plan.{Plan}
use Rattle.mail_model.specs.Tape.{Protocol}
use Rattle.mail_model.specs.Tape.Protocol.{Smtp, Pop}
use Rattle.mail_model.specs.Transcript.{has_code, ends_reply}
use Rattle.mail_model.specs.Smtp as smtp
use Rattle.mail_model.specs.Smtp.{Command, Fault, command_of, stored_text, extension_lines}
use Rattle.mail_model.specs.Smtp.Command.{Helo, Mail, Rcpt, Data, Rset, Noop, Vrfy}
use Rattle.mail_model.specs.Session.{Unit, Told, reply_text, reply_lines, lines_before, command_lines, is_long_line, is_quit_line, is_large}
use Rattle.mail_model.specs.Session.Unit.{Line, Text}
use Rattle.mail_model.specs.Pop.{pop_command_of}
use Rattle.mail_model.specs.Pop.Command.{Quit}
use Rattle.mail_model.specs.PopReplies as pop
use Rattle.mail_model.specs.PopReplies.{one_line, shown_text, dotted_line, last_line}
use Rattle.mail_model.specs.Maildrop.{LineOutcome, line_outcome, wrong_text, entered_text, gone_text, later_text, bye_text, remaining_text}
use Rattle.mail_model.specs.Maildrop.Stage.{Authorization, Transaction}
use Rattle.mail_model.specs.Maildrop.LineOutcome.{Answered, Closed, AsksLogin, AsksMessage, AsksDeletion}
use Rattle.mail_model.specs.Shown.{IsReplyTo, asks_several, is_good}
use Rattle.mail_model.specs.Told.{IsUnit, mail_of}
use Rattle.mail_model.proofs.Replies.{line_fits}
use Rattle.mail_model.proofs.ShownCuts.{IsBehind, one_reply}
use Rattle.mail_model.proofs.DeletedReplies.{Answers}
use Rattle.mail_model.proofs.DeletedOutcomes.{LeadsBefore, LeadsBehind, before, behind, bad, login_quiet, fetch_tells, gone_tells}
use Rattle.session_model.specs.Calls.{Call, Answer, unstored_text, in_use_text, asked_lines}
use Rattle.session_model.specs.Calls.Call.{Deliver, Login, Fetch, Strike}
use Rattle.session_model.specs.Calls.Answer.{Stored, Listed, Wrong, InUse, NoProfile, Part, GoneAlready, Dropped, Failed}
use Rattle.session_model.specs.Talk.{TalkState, Exchange, IsNext, IsLed, Awaits, line_lead, lead_of, closing_line, down_line}
use Rattle.session_model.specs.Talk.TalkState.{Mailing, Entering, Reading}
use Rattle.session_model.specs.Talk.Lead.{Says, Ends, Asks}
use Rattle.session_model.specs.Reading.{line_of}
use Rattle.session_model.proofs.Marking.{later_quiet, in_use_quiet}

-- lines of which none ends a reply
abbrev pub AreFront : List (List ℕ) → Type 0
AreFront [] = ⊤
AreFront (line ∷ lines) = (ends_reply line ≡ false) × AreFront lines

-- lines of which the last alone ends a reply
pub record EndsOnce (reply : List (List ℕ)) : Type 0 where
  pub front : List (List ℕ)
  pub line : List ℕ
  pub is : reply ≡ front ++ line ∷ []
  pub on : AreFront front
  pub end : ends_reply line ≡ true

-- what follows such lines is known
one_ended : (a b : List (List ℕ)) (line other : List ℕ) (x y : List (List ℕ)) → AreFront a → AreFront b → ends_reply line ≡ true → ends_reply other ≡ true
    → (a ++ line ∷ []) ++ x ≡ (b ++ other ∷ []) ++ y → (a ++ line ∷ [] ≡ b ++ other ∷ []) × (x ≡ y)
one_ended [] [] line other x y on_a on_b end_a end_b same =
    let first : line ≡ other = cc in (ap (λ (l : List ℕ). l ∷ []) first, cc)
one_ended [] (second ∷ b) line other x y on_a on_b end_a end_b same =
    let first : line ≡ second = cc in absurd (true≢false (sym end_a ∙ ap ends_reply first ∙ on_b.0))
one_ended (second ∷ a) [] line other x y on_a on_b end_a end_b same =
    let first : second ≡ other = cc in absurd (true≢false (sym end_b ∙ ap ends_reply (sym first) ∙ on_a.0))
one_ended (first ∷ a) (second ∷ b) line other x y on_a on_b end_a end_b same =
    let head : first ≡ second = cc in
    let later : (a ++ line ∷ []) ++ x ≡ (b ++ other ∷ []) ++ y = cc in
    let rest = one_ended a b line other x y on_a.1 on_b.1 end_a end_b later in
    (ap₂ ◌∷◌ head rest.0, rest.1)

-- some line there is
ended_some : (front : List (List ℕ)) (line : List ℕ) → [] ≡ front ++ line ∷ [] → ⊥
ended_some [] line e = cc
ended_some (x ∷ front) line e = cc

-- a whole reply to the unit, and none that a session gets as its node goes down
abbrev pub IsWhole : Protocol → ℕ → Unit → List (List ℕ) → Type 0
IsWhole Smtp node unit reply = EndsOnce reply × (reply ≢ down_line Smtp node ∷ [])
IsWhole Pop node unit reply = IsReplyTo (line_of unit) reply × (reply ≢ down_line Pop node ∷ [])

-- it is something
pub some_reply : (protocol : Protocol) (node : ℕ) (unit : Unit) → IsWhole protocol node unit [] → ⊥
some_reply Smtp node unit (ends, other) = ended_some ends.front ends.line ends.is
some_reply Pop node unit (is, other) = is

-- and what comes after it is known
pub one_whole : (protocol : Protocol) (node : ℕ) (unit : Unit) (a b x y : List (List ℕ)) → IsWhole protocol node unit a → IsWhole protocol node unit b → a ++ x ≡ b ++ y → (a ≡ b) × (x ≡ y)
one_whole Smtp node unit a b x y (ends, differs) (ends_too, differs_too) same =
    let both = one_ended ends.front ends_too.front ends.line ends_too.line x y ends.on ends_too.on ends.end ends_too.end
    (ap (λ (l : List (List ℕ)). l ++ x) (sym ends.is) ∙ same ∙ ap (λ (l : List (List ℕ)). l ++ y) ends_too.is) in
    (ends.is ∙ both.0 ∙ sym ends_too.is, both.1)
one_whole Pop node unit a b x y (is, differs) (is_too, differs_too) same = one_reply (line_of unit) a b x y is is_too same

-- a session that takes mail

-- lines before the last of a reply to a command
greeting_front : (node : ℕ) (extended : Bool) → AreFront (if extended then extension_lines node else [])
greeting_front node true = (refl, (refl, (refl, tt)))
greeting_front node false = tt

command_front : (node : ℕ) (command : Result Command Fault) → AreFront (command_lines node command)
command_front node (Ok (Helo name extended)) = greeting_front node extended
command_front node (Ok (Mail sender size)) = tt
command_front node (Ok (Rcpt path)) = tt
command_front node (Ok Data) = tt
command_front node (Ok Rset) = tt
command_front node (Ok Noop) = tt
command_front node (Ok smtp.Command.Quit) = tt
command_front node (Ok Vrfy) = tt
command_front node (Err fault) = tt

before_front : (node : ℕ) (line : List ℕ) → AreFront (lines_before node line)
before_front node line = cond_both (is_long_line line) [] (command_lines node (command_of line)) AreFront (λ long. tt) (λ short. command_front node (command_of line))

-- such a line before others is no farewell
front_no_farewell : (node : ℕ) (front : List (List ℕ)) (text : List ℕ) → AreFront front → has_code (codes "421") text ≡ false → front ++ text ∷ [] ≢ down_line Smtp node ∷ []
front_no_farewell node [] text on other e =
    let same : text ≡ down_line Smtp node = cc in
    true≢false (ap (has_code (codes "421")) (sym same) ∙ other)
front_no_farewell node (first ∷ front) text on other e =
    let same : first ≡ down_line Smtp node = cc in
    true≢false (ap ends_reply (sym same) ∙ on.0)

-- a reply that is no 421
mail_whole : (node : ℕ) (unit : Unit) (front : List (List ℕ)) (text : List ℕ) (reply : List (List ℕ)) → reply ≡ front ++ text ∷ [] → AreFront front → ends_reply text ≡ true
    → has_code (codes "421") text ≡ false → IsWhole Smtp node unit reply
mail_whole node unit front text reply says on end other = (
  record { front = front; line = text; is = says; on = on; end = end },
  λ down. front_no_farewell node front text on other (sym says ∙ down),
)

-- what an exchange of it is: it waits, or its reply is whole and tells whether a text comes next
abbrev pub IsReplied : Protocol → ℕ → Exchange → Type 0
IsReplied protocol node one = ((one.reply ≡ []) × (one.answer ≡ None) × ((call : Call) × (one.call ≡ Some call))) ⊎ IsWhole protocol node one.unit one.reply

mailing_replied : (plan : Plan) (node : ℕ) (talk : Told) (one : Exchange) → IsUnit talk.in_text one.unit → IsLed (lead_of plan node (Mailing talk) one.unit) one → IsReplied Smtp node one
mailing_replied plan node talk one is_unit led = by_unit one.unit refl
  where
    not_text : (line : List ℕ) (mode : Bool) → IsUnit mode (Line line) → mode ≡ false
    not_text line false u = refl
    not_text line true u = absurd u

    by_answer : (lines : List (List ℕ)) → one.call ≡ Some (Deliver (mail_of talk lines)) → (answer : Option Answer) → one.answer ≡ answer
        → Awaits one.unit (Deliver (mail_of talk lines)) answer one.reply → IsReplied Smtp node one
    by_answer lines call None there says = inl (says, there, (Deliver (mail_of talk lines), call))
    by_answer lines call (Some (Stored id)) there says = inr (mail_whole node one.unit [] stored_text one.reply says tt refl refl)
    by_answer lines call (Some Failed) there says = inr (mail_whole node one.unit [] unstored_text one.reply says tt refl refl)
    by_answer lines call (Some answer) there says = absurd says

    by_unit : (unit : Unit) → one.unit ≡ unit → IsReplied Smtp node one
    by_unit (Line line) is =
        let off : talk.in_text ≡ false = not_text line talk.in_text (subst (IsUnit talk.in_text) is is_unit) in
        let fits = line_fits plan talk off node line in
        cond_both (is_quit_line line) (Ends (reply_lines plan node talk line)) (Says (reply_lines plan node talk line)) (λ lead. IsLed lead one → IsReplied Smtp node one)
        (λ quits h. inr (mail_whole node one.unit (lines_before node line) (reply_text plan node talk (Line line)) one.reply h.2 (before_front node line) fits.is_reply.last fits.is_reply.no_farewell))
        (λ goes h. inr (mail_whole node one.unit (lines_before node line) (reply_text plan node talk (Line line)) one.reply h.2 (before_front node line) fits.is_reply.last fits.is_reply.no_farewell))
        (subst (λ (u : Unit). IsLed (lead_of plan node (Mailing talk) u) one) is led)
    by_unit (Text lines) is =
        cond_both (is_large lines) (Says (one_line (reply_text plan node talk (Text lines)))) (Asks (Deliver (mail_of talk lines))) (λ lead. IsLed lead one → IsReplied Smtp node one)
        (λ large h. inr (mail_whole node one.unit [] (codes "552 message too large") one.reply (h.2 ∙ ap one_line (cond-true (is_large lines) (codes "552 message too large") stored_text large)) tt refl refl))
        (λ small h. by_answer lines h.0 one.answer refl h.1)
        (subst (λ (u : Unit). IsLed (lead_of plan node (Mailing talk) u) one) is led)

-- a session that reads mail

module _ (node : ℕ) (line : List ℕ) (one : Exchange) (is : one.unit ≡ Line line) where
  -- by what the reply answers
  by_answers : (reply : List (List ℕ)) → one.reply ≡ reply → Answers line reply → IsReplied Pop node one
  by_answers reply says answers = inr (
    subst (λ (u : Unit). IsReplyTo (line_of u) one.reply) (sym is) (subst (IsReplyTo line) (sym says) answers.whole),
    λ down. answers.goes_on.not_down node (sym says ∙ down),
  )

  -- the last reply, to QUIT
  by_quit : (text : List ℕ) → one.reply ≡ one_line text → pop_command_of line ≡ Ok Quit → text ≢ pop.down_text node → IsReplied Pop node one
  by_quit text says quits other = inr (
    subst (λ (u : Unit). IsReplyTo (line_of u) one.reply) (sym is) (subst (IsReplyTo line) (sym says) (subst (λ r. IsBehind (asks_several r && is_good text) []) (sym quits) refl)),
    λ down. other (ap closing_line (sym says ∙ down)),
  )

  bye_other : bye_text ≢ pop.down_text node
  bye_other e = let first : 43 ≡ 45 = ap (λ (l : List ℕ). get_or l 0 0) e in omega (arith, first)

  remaining_other : remaining_text ≢ pop.down_text node
  remaining_other e = let letter : 115 ≡ 110 = ap (λ (l : List ℕ). get_or l 16 0) e in omega (arith, letter)

  entering_replied : (named : Option (List ℕ)) (outcome : LineOutcome) → LeadsBefore named line outcome → IsLed (line_lead [] outcome) one → IsReplied Pop node one
  entering_replied named (Answered lines) leads led = by_answers lines led.2 leads.answers
  entering_replied named (Closed lines) leads led = by_quit bye_text (led.2 ∙ leads.0) leads.1.1 bye_other
  entering_replied named (AsksLogin name given) leads led = by_answer one.answer refl led.1
    where
      by_answer : (answer : Option Answer) → one.answer ≡ answer → Awaits one.unit (Login name given) answer one.reply → IsReplied Pop node one
      by_answer None there says = inl (says, there, (Login name given, led.0))
      by_answer (Some (Listed items)) there says = by_answers (one_line entered_text) says (login_quiet named line name leads).answers
      by_answer (Some Wrong) there says = by_answers (one_line wrong_text) says (bad line wrong_text (refl, refl, refl)).answers
      by_answer (Some InUse) there says = by_answers (one_line in_use_text) says (in_use_quiet line).answers
      by_answer (Some NoProfile) there says = by_answers (one_line later_text) says (later_quiet line).answers
      by_answer (Some Failed) there says = by_answers (one_line later_text) says (later_quiet line).answers
      by_answer (Some answer) there says = absurd says
  entering_replied named (AsksMessage number id) leads led = absurd leads
  entering_replied named (AsksDeletion ids) leads led = absurd leads

  reading_replied : (user : List ℕ) (slots : List pop.ListingSlot) (outcome : LineOutcome) → LeadsBehind slots line outcome → IsLed (line_lead user outcome) one → IsReplied Pop node one
  reading_replied user slots (Answered lines) leads led = by_answers lines led.2 leads.answers
  reading_replied user slots (Closed lines) leads led = by_quit bye_text (led.2 ∙ leads.0) leads.1.1 bye_other
  reading_replied user slots (AsksLogin name given) leads led = absurd leads
  reading_replied user slots (AsksMessage number id) leads led = by_answer one.answer refl led.1
    where
      by_part : (asked : Option ℕ) (size : ℕ) (lines : List (List ℕ)) → one.reply ≡ shown_text asked size ∷ map dotted_line lines ++ last_line → IsReplied Pop node one
      by_part None size lines says = by_answers _ says (fetch_tells slots line number (codes " " ++ decimal size ++ codes " octets") lines leads).answers
      by_part (Some m) size lines says = by_answers _ says (fetch_tells slots line number (codes " top") lines leads).answers

      by_answer : (answer : Option Answer) → one.answer ≡ answer → Awaits one.unit (Fetch user id) answer one.reply → IsReplied Pop node one
      by_answer None there says = inl (says, there, (Fetch user id, led.0))
      by_answer (Some (Part octets)) there says =
          by_part (asked_lines one.unit) (length octets) says.lines says.says
      by_answer (Some GoneAlready) there says = by_answers (one_line gone_text) says (gone_tells slots line number leads).answers
      by_answer (Some Failed) there says = by_answers (one_line later_text) says (later_quiet line).answers
      by_answer (Some answer) there says = absurd says
  reading_replied user slots (AsksDeletion ids) leads led = by_answer one.answer refl led.1
    where
      by_answer : (answer : Option Answer) → one.answer ≡ answer → Awaits one.unit (Strike user ids) answer one.reply → IsReplied Pop node one
      by_answer None there says = inl (says, there, (Strike user ids, led.0))
      by_answer (Some Dropped) there says = by_quit bye_text says leads.1.1 bye_other
      by_answer (Some Failed) there says = by_quit remaining_text says leads.1.1 remaining_other
      by_answer (Some answer) there says = absurd says

-- either

-- the session is of this protocol
abbrev pub Speaks : Protocol → TalkState → Type 0
Speaks Smtp (Mailing talk) = ⊤
Speaks Smtp (Entering named) = ⊥
Speaks Smtp (Reading user slots) = ⊥
Speaks Pop (Mailing talk) = ⊥
Speaks Pop (Entering named) = ⊤
Speaks Pop (Reading user slots) = ⊤

pub next_replied : (plan : Plan) (node : ℕ) (protocol : Protocol) (state : TalkState) (there left : List ℕ) (one : Exchange) → Speaks protocol state → IsNext plan node state there one left
    → IsReplied protocol node one
next_replied plan node Smtp (Mailing talk) there left one speaks n = mailing_replied plan node talk one n.is_unit n.led
next_replied plan node Smtp (Entering named) there left one speaks n = absurd speaks
next_replied plan node Smtp (Reading user slots) there left one speaks n = absurd speaks
next_replied plan node Pop (Mailing talk) there left one speaks n = absurd speaks
next_replied plan node Pop (Entering named) there left one speaks n = by_unit one.unit refl
  where
    by_unit : (unit : Unit) → one.unit ≡ unit → IsReplied Pop node one
    by_unit (Text lines) is = absurd (subst (IsUnit false) is n.is_unit)
    by_unit (Line line) is = entering_replied node line one is named (line_outcome plan (Authorization named) line) (before plan named line)
        (subst (λ (u : Unit). IsLed (lead_of plan node (Entering named) u) one) is n.led)
next_replied plan node Pop (Reading user slots) there left one speaks n = by_unit one.unit refl
  where
    by_unit : (unit : Unit) → one.unit ≡ unit → IsReplied Pop node one
    by_unit (Text lines) is = absurd (subst (IsUnit false) is n.is_unit)
    by_unit (Line line) is = reading_replied node line one is user slots (line_outcome plan (Transaction slots) line) (behind slots line plan)
        (subst (λ (u : Unit). IsLed (lead_of plan node (Reading user slots) u) one) is n.led)
