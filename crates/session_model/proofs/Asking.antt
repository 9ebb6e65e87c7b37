-- What a session asks to be stored.
use Rattle.std.proofs.Common.{◌≡◌, ◌≢◌, ℕ, false, List, [], AllPairs, Some, refl, sym, ◌∙◌, subst}
use Rattle.std.proofs.lemmas.Option.{none-some}
use Rattle.mail_model.specs.Plan.{Plan}
use Rattle.mail_model.specs.Tape.Protocol.{Smtp, Pop}
use Rattle.mail_model.specs.Session.{Unit, Told}
use Rattle.mail_model.specs.Session.Unit.{Line, Text}
use Rattle.mail_model.specs.Maildrop.{LineOutcome, line_outcome}
use Rattle.mail_model.specs.Maildrop.Stage.{Authorization, Transaction}
use Rattle.mail_model.specs.Maildrop.LineOutcome.{Answered, Closed, AsksLogin, AsksMessage, AsksDeletion}
use Rattle.mail_model.specs.Told.{Mail, IsUnit, mail_of}
use Rattle.mail_model.proofs.Mailboxes.{AreOnce, mail_once}
use Rattle.session_model.specs.Calls.Call.{Deliver, Login, Fetch, Strike}
use Rattle.session_model.specs.Talk.{TalkState, Exchange, IsNext, IsLed, TalkGoes, opening_state, line_lead, lead_of, stands_by}
use Rattle.session_model.specs.Talk.TalkState.{Mailing, Entering, Reading}
use Rattle.session_model.specs.Talk.Standing.{Hearing}
use Rattle.session_model.specs.Mailing.{AsksAsTold}
use Rattle.session_model.proofs.Chains.{goes_at, through}
use Rattle.session_model.proofs.Cuts.{IsOnceAt, mail_step}
use Rattle.session_model.proofs.Showing.{ShowsSoFar, step_shown}

-- the message is that of a transaction, with each mailbox once
abbrev IsTold : Mail → Type 0
IsTold mail = ((talk : Told) × (lines : List (List ℕ)) × (mail ≡ mail_of talk lines)) × AllPairs (λ a b. a ≢ b) mail.mailboxes

-- in a session that takes mail
step_once : (plan : Plan) (node : ℕ) (been : List Exchange) (state : TalkState) (there left : List ℕ) (one : Exchange) → IsOnceAt (Hearing state) → IsNext plan node state there one left
    → IsOnceAt (stands_by plan node state one)
step_once plan node been (Mailing talk) there left one once n = (mail_step plan node talk one n.led).once once
step_once plan node been (Entering named) there left one once n = absurd once
step_once plan node been (Reading user slots) there left one once n = absurd once

mail_told : (plan : Plan) (node : ℕ) (state : TalkState) (there left : List ℕ) (one : Exchange) (mail : Mail) → IsOnceAt (Hearing state) → IsNext plan node state there one left
    → one.call ≡ Some (Deliver mail) → IsTold mail
mail_told plan node (Mailing talk) there left one mail once n is =
    let asks = (mail_step plan node talk one n.led).asks mail is in
    ((talk, asks.0, asks.1), subst (λ (m : Mail). AreOnce m.mailboxes) (sym asks.1) (mail_once talk asks.0 once))
mail_told plan node (Entering named) there left one mail once n is = absurd once
mail_told plan node (Reading user slots) there left one mail once n is = absurd once

-- in one that reads mail there is none
no_mail : (user : List ℕ) (outcome : LineOutcome) (one : Exchange) (mail : Mail) → IsLed (line_lead user outcome) one → one.call ≡ Some (Deliver mail) → ⊥
no_mail user (Answered lines) one mail led is = none-some (Deliver mail) (sym led.0 ∙ is)
no_mail user (Closed lines) one mail led is = none-some (Deliver mail) (sym led.0 ∙ is)
no_mail user (AsksLogin name given) one mail led is = let both : Some (Login name given) ≡ Some (Deliver mail) = sym led.0 ∙ is in cc
no_mail user (AsksMessage number id) one mail led is = let both : Some (Fetch user id) ≡ Some (Deliver mail) = sym led.0 ∙ is in cc
no_mail user (AsksDeletion ids) one mail led is = let both : Some (Strike user ids) ≡ Some (Deliver mail) = sym led.0 ∙ is in cc

reader_asks : (plan : Plan) (node : ℕ) (been : List Exchange) (state : TalkState) (there left : List ℕ) (one : Exchange) (mail : Mail) → ShowsSoFar (Hearing state) been
    → IsNext plan node state there one left → one.call ≡ Some (Deliver mail) → ⊥
reader_asks plan node been (Mailing talk) there left one mail so_far n is = so_far
reader_asks plan node been (Entering named) there left one mail so_far n is = by_unit one.unit refl
  where
    by_unit : (unit : Unit) → one.unit ≡ unit → ⊥
    by_unit (Text lines) same = subst (IsUnit false) same n.is_unit
    by_unit (Line line) same =
        no_mail [] (line_outcome plan (Authorization named) line) one mail (subst (λ (u : Unit). IsLed (lead_of plan node (Entering named) u) one) same n.led) is
reader_asks plan node been (Reading user slots) there left one mail so_far n is = by_unit one.unit refl
  where
    by_unit : (unit : Unit) → one.unit ≡ unit → ⊥
    by_unit (Text lines) same = subst (IsUnit false) same n.is_unit
    by_unit (Line line) same =
        no_mail user (line_outcome plan (Transaction slots) line) one mail (subst (λ (u : Unit). IsLed (lead_of plan node (Reading user slots) u) one) same n.led) is

pub asks_as_told : AsksAsTold
asks_as_told plan node Smtp octets exchanges last rest g before behind one mail are is =
    let at = goes_at plan node (Hearing (opening_state Smtp)) octets before one behind last rest (subst (λ (l : List Exchange). TalkGoes plan node (Hearing (opening_state Smtp)) octets l last rest) are g) in
    let once = through plan node (λ s l. IsOnceAt s) (step_once plan node) (Hearing (opening_state Smtp)) octets [] before (Hearing at.state) at.there tt at.goes_before in
    let told = mail_told plan node at.state at.there at.left one mail once at.next is in
    (refl, told.0, told.1)
asks_as_told plan node Pop octets exchanges last rest g before behind one mail are is =
    let at = goes_at plan node (Hearing (opening_state Pop)) octets before one behind last rest (subst (λ (l : List Exchange). TalkGoes plan node (Hearing (opening_state Pop)) octets l last rest) are g) in
    absurd (reader_asks plan node before at.state at.there at.left one mail
    (through plan node ShowsSoFar (step_shown plan node) (Hearing (opening_state Pop)) octets [] before (Hearing at.state) at.there (λ items. tt) at.goes_before) at.next is)
