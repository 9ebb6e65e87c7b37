-- Fronts of chains, and what exchanges of a session that takes mail are.
use Rattle.std.proofs.Common.{◌≡◌, ◌⊎◌, inl, inr, ℕ, List, [], ◌∷◌, ◌++◌, Option, Some, None, refl, sym, ap₂, ◌∙◌, subst}
use Rattle.std.specs.Prelude.{⊤}
use Rattle.std.proofs.lemmas.Option.{none-some}
use Rattle.std.proofs.lemmas.Bool.{cond_both}
use Rattle.mail_model.specs.Identity.{Id}
use Rattle.mail_model.specs.Plan.{Plan}
use Rattle.mail_model.specs.Tape.Protocol.{Smtp}
use Rattle.mail_model.specs.Session.{Unit, Told, reply_text, reply_lines, lines_before, after_unit, is_quit_line, is_large}
use Rattle.mail_model.specs.Session.Unit.{Line, Text}
use Rattle.mail_model.specs.PopReplies.{one_line}
use Rattle.mail_model.specs.Told.{Mail, mail_of}
use Rattle.mail_model.proofs.Mailboxes.{HasOnce, unit_once as mailboxes_once}
use Rattle.session_model.specs.Calls.{Call, Answer}
use Rattle.session_model.specs.Calls.Call.{Deliver, Strike}
use Rattle.session_model.specs.Calls.Answer.{Stored, Failed}
use Rattle.session_model.specs.Talk.{TalkState, Exchange, Standing, Lead, IsNext, IsLed, Awaits, TalkGoes, opening_state, lead_of, stands, stands_by, closing_line}
use Rattle.session_model.specs.Talk.TalkState.{Mailing, Entering, Reading}
use Rattle.session_model.specs.Talk.Lead.{Says, Ends, Asks}
use Rattle.session_model.specs.Talk.Standing.{Hearing, Waiting, EndedByQuit, EndedDown, EndedClosed}
use Rattle.session_model.specs.Mailing.{stored_lines}
use Rattle.session_model.proofs.Mailing.{front_unstored}
use Rattle.session_model.proofs.Chains.{goes_at, through}

-- a prefix of a chain is one
pub goes_front : (plan : Plan) (node : ℕ) (first : Standing) (octets : List ℕ) (xs ys : List Exchange) (last : Standing) (rest : List ℕ)
    → TalkGoes plan node first octets (xs ++ ys) last rest
    → (mid : Standing) × (left : List ℕ) × TalkGoes plan node first octets xs mid left × TalkGoes plan node mid left ys last rest
goes_front plan node first octets [] ys last rest g = (first, octets, (refl, refl), g)
goes_front plan node (Hearing state) octets (one ∷ xs) ys last rest g =
    let later = goes_front plan node (stands_by plan node state one) g.0 xs ys last rest g.2 in
    (later.0, later.1, (g.0, g.1, later.2), later.3)
goes_front plan node first octets (one ∷ xs) ys last rest g = absurd g

-- lists with one more at the end
pub one_end : {X : Type 0} (xs ys : List X) (x y : X) → xs ++ x ∷ [] ≡ ys ++ y ∷ [] → (xs ≡ ys) × (x ≡ y)
one_end [] [] x y e = (refl, cc)
one_end [] (b ∷ []) x y e = cc
one_end [] (b ∷ c ∷ ys) x y e = cc
one_end (a ∷ []) [] x y e = cc
one_end (a ∷ c ∷ xs) [] x y e = cc
one_end (a ∷ xs) (b ∷ ys) x y e =
    let first : a ≡ b = cc in
    let later : xs ++ x ∷ [] ≡ ys ++ y ∷ [] = cc in
    let rest = one_end xs ys x y later in
    (ap₂ ◌∷◌ first rest.0, rest.1)

-- no line, or some of which only the last may be `250 stored`
abbrev pub IsShort : List (List ℕ) → Type 0
IsShort reply = (reply ≡ []) ⊎ ((front : List (List ℕ)) × (line : List ℕ) × (reply ≡ front ++ line ∷ []) × (stored_lines front ≡ 0))

-- the session takes mail
abbrev pub TakesMail : Standing → Type 0
TakesMail (Hearing (Mailing talk)) = ⊤
TakesMail (Hearing (Entering named)) = ⊥
TakesMail (Hearing (Reading user slots)) = ⊥
TakesMail (Waiting told call) = ⊤
TakesMail EndedByQuit = ⊤
TakesMail EndedDown = ⊤
TakesMail EndedClosed = ⊤

-- its transaction has each mailbox once
abbrev pub IsOnceAt : Standing → Type 0
IsOnceAt (Hearing (Mailing talk)) = HasOnce talk.envelope
IsOnceAt (Hearing (Entering named)) = ⊥
IsOnceAt (Hearing (Reading user slots)) = ⊥
IsOnceAt (Waiting told call) = ⊤
IsOnceAt EndedByQuit = ⊤
IsOnceAt EndedDown = ⊤
IsOnceAt EndedClosed = ⊤

-- no deletion is asked for
abbrev pub IsNoStrike : Option Call → Type 0
IsNoStrike call = (user : List ℕ) (ids : List Id) → call ≡ Some (Strike user ids) → ⊥

-- An exchange of a session that takes mail.
pub record IsOfMail (plan : Plan) (talk : Told) (one : Exchange) (then_stands : Standing) : Type 0 where
  pub short : IsShort one.reply
  pub no_strike : IsNoStrike one.call
  pub still : TakesMail then_stands
  pub asks : (mail : Mail) → one.call ≡ Some (Deliver mail) → (lines : List (List ℕ)) × (mail ≡ mail_of talk lines)
  pub once : HasOnce talk.envelope → IsOnceAt then_stands

pub mail_step : (plan : Plan) (node : ℕ) (talk : Told) (one : Exchange) → IsLed (lead_of plan node (Mailing talk) one.unit) one
    → IsOfMail plan talk one (stands plan (Mailing talk) one (lead_of plan node (Mailing talk) one.unit))
mail_step plan node talk one led = by_unit one.unit led
  where
    Is : Lead → Type 0
    Is lead = IsLed lead one → IsOfMail plan talk one (stands plan (Mailing talk) one lead)

    at_once : (front : List (List ℕ)) (reply : List ℕ) → stored_lines front ≡ 0 → one.call ≡ None → one.reply ≡ front ++ reply ∷ [] → (standing : Standing) → TakesMail standing → (HasOnce talk.envelope → IsOnceAt standing)
        → IsOfMail plan talk one standing
    at_once front reply unstored none says standing takes once = record {
      short = inr (front, reply, says, unstored);
      no_strike = λ user ids is. none-some (Strike user ids) (sym none ∙ is);
      still = takes;
      asks = λ mail is. absurd (none-some (Deliver mail) (sym none ∙ is));
      once = once;
    }

    unit_once : HasOnce talk.envelope → HasOnce (after_unit plan talk one.unit (closing_line one.reply)).envelope
    unit_once once = mailboxes_once plan talk one.unit (closing_line one.reply) once

    still_once : (lines : List (List ℕ)) (answer : Option Answer) → one.answer ≡ answer → HasOnce talk.envelope → IsOnceAt (stands plan (Mailing talk) one (Asks (Deliver (mail_of talk lines))))
    still_once lines None there once = subst (λ (a : Option Answer). IsOnceAt (stands plan (Mailing talk) (record one { answer = a }) (Asks (Deliver (mail_of talk lines))))) (sym there) tt
    still_once lines (Some answer) there once =
        subst (λ (a : Option Answer). IsOnceAt (stands plan (Mailing talk) (record one { answer = a }) (Asks (Deliver (mail_of talk lines))))) (sym there)
        (mailboxes_once plan talk one.unit [] once)

    by_answer : (lines : List (List ℕ)) → one.call ≡ Some (Deliver (mail_of talk lines)) → (answer : Option Answer) → one.answer ≡ answer
        → Awaits one.unit (Deliver (mail_of talk lines)) answer one.reply → IsShort one.reply
    by_answer lines call None there says = inl says
    by_answer lines call (Some (Stored id)) there says = inr ([], _, says, refl)
    by_answer lines call (Some Failed) there says = inr ([], _, says, refl)
    by_answer lines call (Some answer) there says = absurd says

    still_mail : (lines : List (List ℕ)) (answer : Option Answer) → one.answer ≡ answer → TakesMail (stands plan (Mailing talk) one (Asks (Deliver (mail_of talk lines))))
    still_mail lines None there = subst (λ (a : Option Answer). TakesMail (stands plan (Mailing talk) (record one { answer = a }) (Asks (Deliver (mail_of talk lines))))) (sym there) tt
    still_mail lines (Some answer) there =
        subst (λ (a : Option Answer). TakesMail (stands plan (Mailing talk) (record one { answer = a }) (Asks (Deliver (mail_of talk lines))))) (sym there) tt

    by_unit : (unit : Unit) → IsLed (lead_of plan node (Mailing talk) unit) one → IsOfMail plan talk one (stands plan (Mailing talk) one (lead_of plan node (Mailing talk) unit))
    by_unit (Line line) l =
        cond_both (is_quit_line line) (Ends (reply_lines plan node talk line)) (Says (reply_lines plan node talk line)) Is
        (λ quits h. at_once (lines_before node line) _ (front_unstored node line) h.0 h.2 EndedByQuit tt (λ once. tt))
        (λ goes h. at_once (lines_before node line) _ (front_unstored node line) h.0 h.2 _ tt unit_once) l
    by_unit (Text lines) l =
        cond_both (is_large lines) (Says (one_line (reply_text plan node talk (Text lines)))) (Asks (Deliver (mail_of talk lines))) Is
        (λ large h. at_once [] _ refl h.0 h.2 _ tt unit_once)
        (λ small h. record {
          short = by_answer lines h.0 one.answer refl h.1;
          no_strike = λ user ids is. let both : Some (Deliver (mail_of talk lines)) ≡ Some (Strike user ids) = sym h.0 ∙ is in cc;
          still = still_mail lines one.answer refl;
          asks = λ mail is. let both : Some (Deliver (mail_of talk lines)) ≡ Some (Deliver mail) = sym h.0 ∙ is in let same : mail_of talk lines ≡ mail = cc in (lines, sym same);
          once = still_once lines one.answer refl;
        }) l

-- so is each
pub of_mail : (plan : Plan) (node : ℕ) (octets : List ℕ) (before behind : List Exchange) (one : Exchange) (last : Standing) (rest : List ℕ)
    → TalkGoes plan node (Hearing (opening_state Smtp)) octets (before ++ one ∷ behind) last rest → IsShort one.reply × IsNoStrike one.call
of_mail plan node octets before behind one last rest g =
    let at = goes_at plan node (Hearing (opening_state Smtp)) octets before one behind last rest g in
    let takes : TakesMail (Hearing at.state) = through plan node (λ s l. TakesMail s) (λ been s there left x takes n. step been s there left x takes n)
    (Hearing (opening_state Smtp)) octets [] before (Hearing at.state) at.there tt at.goes_before in
    by_state at.state takes at.next.led
  where
    step : (been : List Exchange) (s : TalkState) (there left : List ℕ) (x : Exchange) → TakesMail (Hearing s) → IsNext plan node s there x left → TakesMail (stands_by plan node s x)
    step been (Mailing talk) there left x takes n = (mail_step plan node talk x n.led).still
    step been (Entering named) there left x takes n = absurd takes
    step been (Reading user slots) there left x takes n = absurd takes

    by_state : (s : TalkState) → TakesMail (Hearing s) → IsLed (lead_of plan node s one.unit) one → IsShort one.reply × IsNoStrike one.call
    by_state (Mailing talk) takes led = let is = mail_step plan node talk one led in (is.short, is.no_strike)
    by_state (Entering named) takes led = absurd takes
    by_state (Reading user slots) takes led = absurd takes

-- the reply of an exchange that asked
pub awaits : (lead : Lead) (one : Exchange) (call : Call) → IsLed lead one → one.call ≡ Some call → Awaits one.unit call one.answer one.reply
awaits (Says reply) one call led is = absurd (none-some call (sym led.0 ∙ is))
awaits (Ends reply) one call led is = absurd (none-some call (sym led.0 ∙ is))
awaits (Asks asks) one call led is =
    let both : Some asks ≡ Some call = sym led.0 ∙ is in
    let same : asks ≡ call = cc in
    subst (λ (c : Call). Awaits one.unit c one.answer one.reply) same led.1
