-- A deletion is asked for at QUIT, for what the session marked.
use Rattle.std.proofs.Common.{◌≡◌, ◌≢◌, ◌+◌, ℕ, Bool, true, false, List, [], ◌∷◌, ◌++◌, map, Option, Some, None, refl, sym, ap, ◌∙◌, subst, if◌then◌else◌}
use Rattle.std.specs.Prelude.{Ok}
use Rattle.std.proofs.lemmas.Option.{none-some}
use Rattle.std.proofs.lemmas.Bool.{cond-false}
use Rattle.mail_model.specs.Identity.{Id}
use Rattle.mail_model.specs.Plan.{Plan}
use Rattle.mail_model.specs.Session.{Unit, is_long_line}
use Rattle.mail_model.specs.Session.Unit.{Line, Text}
use Rattle.mail_model.specs.Pop.{pop_command_of}
use Rattle.mail_model.specs.Pop.Command.{Quit}
use Rattle.mail_model.specs.PopReplies.{ListingSlot, marked_ids}
use Rattle.mail_model.specs.Maildrop.{LineOutcome, line_outcome, command_outcome, deletion_of}
use Rattle.mail_model.specs.Maildrop.Stage.{Authorization, Transaction}
use Rattle.mail_model.specs.Maildrop.LineOutcome.{Answered, Closed, AsksLogin, AsksMessage, AsksDeletion}
use Rattle.mail_model.specs.Told.{IsUnit}
use Rattle.mail_model.specs.Deleted.{Enters, Mark, IsMarked}
use Rattle.mail_model.proofs.DeletedMarks.{marks_from, are_marks, no_marked}
use Rattle.mail_model.proofs.DeletedOutcomes.{LeadsBefore, LeadsBehind, before, behind}
use Rattle.mail_model.proofs.DeletedSessions.{Known}
use Rattle.session_model.specs.Calls.{Answer}
use Rattle.session_model.specs.Calls.Call.{Login, Fetch, Strike}
use Rattle.session_model.specs.Talk.{TalkState, Exchange, Standing, IsLed, TalkGoes, opening_state, in_text, line_lead, lead_of, stands, standing_asked, heard}
use Rattle.session_model.specs.Talk.TalkState.{Mailing, Entering, Reading}
use Rattle.session_model.specs.Talk.Standing.{Hearing}
use Rattle.session_model.specs.Reading.{Each, ListsOnce, all_seen, IsQuitUnit, QuitsMarked, StrikesAtQuit, QuitStrikes}
use Rattle.mail_model.specs.Tape.Protocol.{Pop}
use Rattle.session_model.proofs.Chains.{At, goes_at, along}
use Rattle.session_model.proofs.Marking.{IsAsSeen, step_seen}

-- what each has, each of a prefix has
pub each_front : (P : Exchange → Type 0) (front behind : List Exchange) → Each P (front ++ behind) → Each P front
each_front P [] behind each = tt
each_front P (one ∷ front) behind each = (each.0, each_front P front behind each.1)

-- and the one after a prefix
pub each_at : (P : Exchange → Type 0) (front behind : List Exchange) (one : Exchange) → Each P (front ++ one ∷ behind) → P one
each_at P [] behind one each = each.0
each_at P (first ∷ front) behind one each = each_at P front behind one each.1

-- wherever the session hears, it is as its exchanges left it
pub as_seen : (plan : Plan) (node : ℕ) (octets : List ℕ) (been : List Exchange) (state : TalkState) (there : List ℕ)
    → TalkGoes plan node (Hearing (opening_state Pop)) octets been (Hearing state) there → Each ListsOnce been → IsAsSeen state been
as_seen plan node octets been state there g = along plan node (λ s l. Each ListsOnce l → IsAsSeen s l)
    (λ front s here left one next holds n is lists.
    step_seen plan node front s here left one next (holds (each_front ListsOnce front (one ∷ []) lists)) (each_at ListsOnce front [] one lists) n is)
    (Hearing (opening_state Pop)) octets [] been state there
    (λ s is lists. first s is) g
  where
    first : (s : TalkState) → Hearing (opening_state Pop) ≡ Hearing s → IsAsSeen s []
    first s is =
        let same : opening_state Pop ≡ s = cc in
        subst (λ (t : TalkState). IsAsSeen t []) same (record { unmarked = λ n marked. marked; unshown = λ items. tt; named = λ name named. absurd (none-some name named) })

-- the ids of the marks of slots
ids_from : (n : ℕ) (slots : List ListingSlot) → map (λ (mark : Mark). mark.id) (marks_from n slots) ≡ marked_ids slots
ids_from n [] = refl
ids_from n (slot ∷ slots) = by_test slot.marked (ids_from (n + 1) slots)
  where
    by_test : (b : Bool) → map (λ (mark : Mark). mark.id) (marks_from (n + 1) slots) ≡ marked_ids slots
        → map (λ (mark : Mark). mark.id) (if b then record { number = n; id = slot.item.id } ∷ marks_from (n + 1) slots else marks_from (n + 1) slots)
        ≡ (if b then slot.item.id ∷ marked_ids slots else marked_ids slots)
    by_test true same = ap (λ (l : List Id). slot.item.id ∷ l) same
    by_test false same = same

-- what QUIT leads to after the login
quit_leads : (plan : Plan) (slots : List ListingSlot) (line : List ℕ) → is_long_line line ≡ false → pop_command_of line ≡ Ok Quit
    → line_outcome plan (Transaction slots) line ≡ deletion_of (marked_ids slots)
quit_leads plan slots line short quits =
    cond-false (is_long_line line) _ (command_outcome plan (Transaction slots) (pop_command_of line)) short ∙ ap (command_outcome plan (Transaction slots)) quits

-- a deletion is of something
some_deleted : (all ids : List Id) → deletion_of all ≡ AsksDeletion ids → ids ≢ []
some_deleted [] ids e = λ none. cc
some_deleted (id ∷ all) ids e = λ none. cc

-- after a call for a deletion nothing is heard
strike_last : (plan : Plan) (node : ℕ) (told : TalkState) (user : List ℕ) (ids : List Id) (answer : Option Answer) (left : List ℕ) (xs : List Exchange) (last : Standing) (rest : List ℕ)
    → TalkGoes plan node (standing_asked told (Strike user ids) answer) left xs last rest → xs ≡ []
strike_last plan node told user ids answer left [] last rest g = refl
strike_last plan node told user ids None left (x ∷ xs) last rest g = absurd g
strike_last plan node told user ids (Some answer) left (x ∷ xs) last rest g = absurd g

module _ (plan : Plan) (node : ℕ) (octets : List ℕ) (been behind_it : List Exchange) (one : Exchange) (last : Standing) (rest : List ℕ)
    (at : At plan node (Hearing (opening_state Pop)) octets been one behind_it last rest) (lists : Each ListsOnce been) where
  -- before the login nothing is deleted
  no_strike : (named : Option (List ℕ)) (line user : List ℕ) (ids : List Id) (outcome : LineOutcome) → LeadsBefore named line outcome → IsLed (line_lead [] outcome) one
      → one.call ≡ Some (Strike user ids) → ⊥
  no_strike named line user ids (Answered lines) leads led call = none-some (Strike user ids) (sym led.0 ∙ call)
  no_strike named line user ids (Closed lines) leads led call = none-some (Strike user ids) (sym led.0 ∙ call)
  no_strike named line user ids (AsksLogin name given) leads led call = let both : Some (Login name given) ≡ Some (Strike user ids) = sym led.0 ∙ call in cc
  no_strike named line user ids (AsksMessage number id) leads led call = absurd leads
  no_strike named line user ids (AsksDeletion other) leads led call = absurd leads

  -- after it QUIT asks for it
  strike_is : (name line user : List ℕ) (slots : List ListingSlot) (ids : List Id) → one.unit ≡ Line line → Known slots name (all_seen been)
      → (outcome : LineOutcome) → line_outcome plan (Transaction slots) line ≡ outcome → LeadsBehind slots line outcome → IsLed (line_lead name outcome) one
      → one.call ≡ Some (Strike user ids) → TalkGoes plan node (stands plan (Reading name slots) one (line_lead name outcome)) at.left behind_it last rest
      → (behind_it ≡ []) × QuitsMarked been one user ids
  strike_is name line user slots ids unit known (Answered lines) is leads led call g = absurd (none-some (Strike user ids) (sym led.0 ∙ call))
  strike_is name line user slots ids unit known (Closed lines) is leads led call g = absurd (none-some (Strike user ids) (sym led.0 ∙ call))
  strike_is name line user slots ids unit known (AsksLogin other given) is leads led call g = absurd leads
  strike_is name line user slots ids unit known (AsksMessage number id) is leads led call g = let both : Some (Fetch name id) ≡ Some (Strike user ids) = sym led.0 ∙ call in cc
  strike_is name line user slots ids unit known (AsksDeletion all) is leads led call g =
      let both : Some (Strike name all) ≡ Some (Strike user ids) = sym led.0 ∙ call in
      let users : name ≡ user = cc in
      let same : all ≡ ids = cc in (
        strike_last plan node (heard plan (Reading name slots) one.unit []) name all one.answer at.left behind_it last rest g,
        record {
          quit = record { line = line; is = unit; short = leads.1.0; quits = leads.1.1 };
          enters = subst (Enters (all_seen been)) users known.enters;
          marks = marks_from 1 slots;
          are = are_marks (all_seen been) slots known.agree;
          ids_are = ids_from 1 slots ∙ sym leads.0 ∙ same;
          some = subst (λ (l : List Id). l ≢ []) same (some_deleted (marked_ids slots) all (sym (quit_leads plan slots line leads.1.0 leads.1.1) ∙ is));
        },
      )

  -- so in whatever state it is asked for
  strike_at : (state : TalkState) → at.state ≡ state → IsAsSeen state been → (unit : Unit) → one.unit ≡ unit → (user : List ℕ) (ids : List Id) → one.call ≡ Some (Strike user ids)
      → (behind_it ≡ []) × QuitsMarked been one user ids
  strike_at (Mailing talk) is seen unit unit_is user ids call = absurd seen
  strike_at (Entering named) is seen (Text lines) unit_is user ids call =
      absurd (subst (IsUnit false) unit_is (subst (λ (s : TalkState). IsUnit (in_text s) one.unit) is at.next.is_unit))
  strike_at (Reading name slots) is seen (Text lines) unit_is user ids call =
      absurd (subst (IsUnit false) unit_is (subst (λ (s : TalkState). IsUnit (in_text s) one.unit) is at.next.is_unit))
  strike_at (Entering named) is seen (Line line) unit_is user ids call =
      absurd (no_strike named line user ids (line_outcome plan (Authorization named) line) (before plan named line)
      (subst (λ (u : Unit). IsLed (lead_of plan node (Entering named) u) one) unit_is (subst (λ (s : TalkState). IsLed (lead_of plan node s one.unit) one) is at.next.led)) call)
  strike_at (Reading name slots) is seen (Line line) unit_is user ids call =
      let led = subst (λ (u : Unit). IsLed (lead_of plan node (Reading name slots) u) one) unit_is (subst (λ (s : TalkState). IsLed (lead_of plan node s one.unit) one) is at.next.led) in
      let goes = subst (λ (u : Unit). TalkGoes plan node (stands plan (Reading name slots) one (lead_of plan node (Reading name slots) u)) at.left behind_it last rest) unit_is
      (subst (λ (s : TalkState). TalkGoes plan node (stands plan s one (lead_of plan node s one.unit)) at.left behind_it last rest) is at.goes_behind) in
      strike_is name line user slots ids unit_is seen (line_outcome plan (Transaction slots) line) refl (behind slots line plan) led call goes

  -- and QUIT after a mark asks for it
  strike_asked : (state : TalkState) → at.state ≡ state → IsAsSeen state been → (quit : IsQuitUnit one.unit) (n : ℕ) → IsMarked n (all_seen been)
      → (user : List ℕ) × (ids : List Id) × (one.call ≡ Some (Strike user ids))
  strike_asked (Mailing talk) is seen quit n marked = absurd seen
  strike_asked (Entering named) is seen quit n marked = absurd (seen.unmarked n marked)
  strike_asked (Reading name slots) is seen quit n marked = by_ids (marked_ids slots) refl
    where
      led : IsLed (line_lead name (line_outcome plan (Transaction slots) quit.line)) one
      led = subst (λ (u : Unit). IsLed (lead_of plan node (Reading name slots) u) one) quit.is (subst (λ (s : TalkState). IsLed (lead_of plan node s one.unit) one) is at.next.led)

      by_ids : (ids : List Id) → marked_ids slots ≡ ids → (user : List ℕ) × (ids : List Id) × (one.call ≡ Some (Strike user ids))
      by_ids [] none = absurd (no_marked slots n none (seen.agree.all n marked))
      by_ids (id ∷ ids) some =
          let asks : line_outcome plan (Transaction slots) quit.line ≡ AsksDeletion (id ∷ ids) = quit_leads plan slots quit.line quit.short quit.quits ∙ ap deletion_of some in
          (name, id ∷ ids, (subst (λ (o : LineOutcome). IsLed (line_lead name o) one) asks led).0)

-- wherever an exchange stands
pub strikes_at_quit : StrikesAtQuit
strikes_at_quit plan node octets exchanges last rest g lists front behind_it one user ids cut call =
    let at = goes_at plan node (Hearing (opening_state Pop)) octets front one behind_it last rest
    (subst (λ (l : List Exchange). TalkGoes plan node (Hearing (opening_state Pop)) octets l last rest) cut g) in
    let once = each_front ListsOnce front (one ∷ behind_it) (subst (Each ListsOnce) cut lists) in
    strike_at plan node octets front behind_it one last rest at once at.state refl (as_seen plan node octets front at.state at.there at.goes_before once) one.unit refl user ids call

pub quit_strikes : QuitStrikes
quit_strikes plan node octets exchanges last rest g lists front behind_it one n cut quit marked =
    let at = goes_at plan node (Hearing (opening_state Pop)) octets front one behind_it last rest
    (subst (λ (l : List Exchange). TalkGoes plan node (Hearing (opening_state Pop)) octets l last rest) cut g) in
    let once = each_front ListsOnce front (one ∷ behind_it) (subst (Each ListsOnce) cut lists) in
    strike_asked plan node octets front behind_it one last rest at once at.state refl (as_seen plan node octets front at.state at.there at.goes_before once) quit n marked
