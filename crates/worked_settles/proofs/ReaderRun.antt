-- Whatever the reader of the freshly ended tape is told, the tape is run.
use Rattle.std.proofs.Common.{◌≡◌, ◌≢◌, ℕ, zero, suc, Bool, List, [], ◌∷◌, ◌++◌, flat_map, if◌then◌else◌, Some, None, refl, sym, ap, subst, arith, codes, append-nil}
use Rattle.mail_model.specs.Lines.{sent_line}
use Rattle.mail_model.specs.Maildrop.{entered_text, wrong_text}
use Rattle.mail_model.specs.Maildrop.Given.{BySecret}
use Rattle.mail_model.specs.Maildrop.LineOutcome.{Answered, AsksLogin}
use Rattle.mail_model.specs.PopReplies.{Item, ready_text, one_line, listed_slots}
use Rattle.mail_model.specs.Session.Unit.{Line}
use Rattle.mail_model.specs.Tape.Protocol.{Pop}
use Rattle.mail_model.specs.Tape.Order.{Open}
use Rattle.mail_model.specs.Tape.ClusterOrder.{Flow, Settle}
use Rattle.mail_model.specs.Transcript.{Entry, said_lines, all_of}
use Rattle.mail_model.specs.Transcript.Entry.{Said}
use Rattle.mail_model.proofs.Sessions.{by_number}
use Rattle.session_model.specs.Calls.Answer.{Listed}
use Rattle.session_model.specs.Events.{event_entries}
use Rattle.session_model.specs.Events.ClusterEvent.{HasFlowed, HasSettled}
use Rattle.session_model.specs.Talk.{Lead, IsLed, lead_of, line_lead, stands}
use Rattle.session_model.specs.Talk.TalkState.{Entering, Reading}
use Rattle.session_model.specs.Talk.Lead.{Asks}
use Rattle.session_model.specs.Talk.Standing.{Hearing, Waiting}
use Rattle.session_model.specs.Moves.{with_answer}
use Rattle.session_model.specs.Sessions.{Session, session_at}
use Rattle.session_model.specs.Acts.{Act, opened_session}
use Rattle.session_model.specs.Acts.Act.{Opens, Does, StillWaits, Makes}
use Rattle.session_model.specs.Acts.Deed.{IsFed, Hears, IsAnswered}
use Rattle.session_model.specs.Turns.{Waits}
use Rattle.session_model.specs.Turns.Turn.{Asking}
use Rattle.session_model.specs.Run.{IsHandled, AreHandled}
use Rattle.fresh_sessions.specs.Kept.{IsRun}
use Rattle.worked_sessions.specs.OneMessage.{at_once}
use Rattle.worked_sessions.proofs.Lines.{whole_line, has_alice, idle_line}
use Rattle.worked_settles.specs.FreshTape.{worked_plan, told_lines, told_acts, teller, login, passing, ids_reply, asking, reader, reader_acts, fresh_lines, fresh_acts, fresh_entries, fresh_sessions, reader_lines}
use Rattle.worked_settles.proofs.Lines.{IsPlace, handled_more, nobody, answered, asks, moved_on, moved, hears_on}
use Rattle.worked_settles.proofs.Messages.{alone}
use Rattle.worked_settles.proofs.FreshRun.{told_outputs, told_run}

-- the second of two sessions, of which the first has ended
abbrev beside : Session → List Session
beside s = teller ∷ s ∷ []

second : IsPlace 2 beside
second = record { first = omega arith; at = λ s. refl; put = λ s t. refl; others = none_else }
  where
    ended : Waits (Some teller) → ⊥
    ended (state, call, waits) = cc

    none_else : (s : Session) (j : ℕ) → j ≢ 2 → Waits (session_at (teller ∷ s ∷ []) j) → ⊥
    none_else s zero other waits = waits
    none_else s (suc zero) other waits = ended waits
    none_else s (suc (suc zero)) other waits = other refl
    none_else s (suc (suc (suc n))) other waits = subst Waits (by_number (teller ∷ s ∷ []) (suc (suc n))) waits

-- the reader, line by line
abbrev at_open : Session
at_open = opened_session Pop 1

abbrev at_user : Session
at_user = record at_open {
  octets = sent_line (codes "USER alice");
  whole = at_once (codes "USER alice") (codes "+OK send PASS") ∷ [];
  standing = Hearing (Entering (Some (codes "alice")));
}

abbrev at_pass : Session
at_pass = record at_open {
  octets = sent_line (codes "USER alice") ++ sent_line (codes "PASS tanstaaf");
  whole = at_once (codes "USER alice") (codes "+OK send PASS") ∷ passing ∷ [];
  standing = Waiting (Entering None) login;
}

settles : (been : List Act) → IsHandled worked_plan been (teller ∷ []) (codes "settle") (Makes Settle HasSettled ∷ []) (event_entries HasSettled ∷ []) (teller ∷ [])
settles been = moved worked_plan been 1 (λ s. s ∷ []) alone teller (codes "settle") Settle HasSettled refl refl tt refl (λ waits. let never = waits.2 in cc)

opens : IsHandled worked_plan (flat_map (λ a. a) told_acts ++ Makes Settle HasSettled ∷ []) (teller ∷ []) (codes "open pop 1") (Opens Pop 1 (ready_text 1 1 2 0) ∷ []) ((Said 2 (ready_text 1 1 2 0) ∷ []) ∷ []) (beside at_open)
opens = record {
  last = Asking 1;
  begun = record {
    order = Open Pop 1;
    spelled = refl;
    accepted = refl;
    first = Opens Pop 1 (ready_text 1 1 2 0);
    said = Said 2 (ready_text 1 1 2 0) ∷ [];
    next = Asking 1;
    mid = beside at_open;
    starts = (1, refl, refl, refl);
    acted = (refl, refl);
    more = [];
    others = [];
    goes = (refl, refl);
    acts_are = refl;
    outputs_are = refl;
  };
  done = (1, refl, nobody worked_plan [] 2 beside second at_open (hears_on worked_plan [] 2 beside second at_open (Entering None) refl));
}

user : (been : List Act) → IsHandled worked_plan been (beside at_open) (codes "say 2 USER alice") (Does 2 (IsFed (sent_line (codes "USER alice"))) ∷ Does 2 (Hears (at_once (codes "USER alice") (codes "+OK send PASS"))) ∷ [])
    ([] ∷ (Said 2 (codes "+OK send PASS") ∷ []) ∷ []) (beside at_user)
user been = answered worked_plan been 2 beside second at_open at_user (codes "say 2 USER alice") (codes "USER alice") (at_once (codes "USER alice") (codes "+OK send PASS")) (Entering None)
    (Said 2 (codes "+OK send PASS") ∷ []) refl refl refl refl refl
    (record { is_unit = whole_line (codes "USER alice") refl; whole = refl; led = (refl, refl, refl) }) refl refl idle_line refl
    (hears_on worked_plan been 2 beside second at_user (Entering (Some (codes "alice"))) refl)

-- PASS asks for the login, since the plan has the user
pass_leads : lead_of worked_plan 1 (Entering (Some (codes "alice"))) (Line (codes "PASS tanstaaf")) ≡ Asks login
pass_leads = ap (λ (b : Bool). line_lead [] (if b then AsksLogin (codes "alice") (BySecret (codes "tanstaaf")) else Answered (one_line wrong_text))) has_alice

pass : (been : List Act) → IsHandled worked_plan been (beside at_user) (codes "say 2 PASS tanstaaf") (Does 2 (IsFed (sent_line (codes "PASS tanstaaf"))) ∷ Does 2 (Hears passing) ∷ StillWaits 2 ∷ [])
    ([] ∷ [] ∷ [] ∷ []) (beside at_pass)
pass been = asks worked_plan been 2 beside second at_user at_pass (codes "say 2 PASS tanstaaf") (codes "PASS tanstaaf") passing login (Entering (Some (codes "alice"))) (Entering None) refl refl refl refl refl refl
    (record { is_unit = whole_line (codes "PASS tanstaaf") refl; whole = refl; led = subst (λ (lead : Lead). IsLed lead passing) (sym pass_leads) (refl, refl) })
    (ap (stands worked_plan (Entering (Some (codes "alice"))) passing) pass_leads) refl

module _ (items : List Item) where
  abbrev at_listed : Session
  at_listed = record at_pass {
    whole = at_once (codes "USER alice") (codes "+OK send PASS") ∷ with_answer passing (Listed items) (one_line entered_text) ∷ [];
    standing = Hearing (Reading (codes "alice") (listed_slots items));
  }

  flows : (been : List Act) → IsHandled worked_plan been (beside at_pass) (codes "flow") (Makes Flow HasFlowed ∷ Does 2 (IsAnswered login (Listed items) (one_line entered_text)) ∷ [])
      (event_entries HasFlowed ∷ (Said 2 entered_text ∷ []) ∷ []) (beside at_listed)
  flows been = moved_on worked_plan been 2 beside second at_pass at_listed (codes "flow") Flow HasFlowed login (Listed items) (one_line entered_text) (Said 2 entered_text ∷ [])
      (at_once (codes "USER alice") (codes "+OK send PASS") ∷ []) passing (Entering None) refl refl tt refl refl refl refl refl refl idle_line refl
      (hears_on worked_plan been 2 beside second at_listed (Reading (codes "alice") (listed_slots items)) refl)

  uidl : (been : List Act) → IsHandled worked_plan been (beside at_listed) (codes "say 2 UIDL") (Does 2 (IsFed (sent_line (codes "UIDL"))) ∷ Does 2 (Hears (asking items)) ∷ [])
      ([] ∷ said_lines 2 (ids_reply items) ∷ []) (beside (reader items))
  uidl been = answered worked_plan been 2 beside second at_listed (reader items) (codes "say 2 UIDL") (codes "UIDL") (asking items) (Reading (codes "alice") (listed_slots items))
      (said_lines 2 (ids_reply items)) refl refl refl refl refl
      (record { is_unit = whole_line (codes "UIDL") refl; whole = refl; led = (refl, refl, refl) }) refl (sym (append-nil _)) idle_line refl
      (hears_on worked_plan been 2 beside second (reader items) (Reading (codes "alice") (listed_slots items)) refl)

  -- what is written from the settle on
  abbrev pub reader_outputs : List (List (List Entry))
  reader_outputs =
      (event_entries HasSettled ∷ []) ∷ ((Said 2 (ready_text 1 1 2 0) ∷ []) ∷ []) ∷ ([] ∷ (Said 2 (codes "+OK send PASS") ∷ []) ∷ []) ∷ ([] ∷ [] ∷ [] ∷ [])
      ∷ (event_entries HasFlowed ∷ (Said 2 entered_text ∷ []) ∷ []) ∷ ([] ∷ said_lines 2 (ids_reply items) ∷ []) ∷ []

  reads : AreHandled worked_plan (flat_map (λ a. a) told_acts) (teller ∷ [])
      (codes "settle" ∷ reader_lines)
      ((Makes Settle HasSettled ∷ []) ∷ reader_acts items) reader_outputs (fresh_sessions items)
  reads = (
    teller ∷ [],
    settles _,
    (beside at_open, opens, (beside at_user, user _, (beside at_pass, pass _, (beside at_listed, flows _, (beside (reader items), uidl _, refl))))),
  )

  pub fresh_handled : AreHandled worked_plan [] [] fresh_lines (fresh_acts items) (told_outputs ++ reader_outputs) (fresh_sessions items)
  fresh_handled = handled_more worked_plan [] [] (teller ∷ []) (fresh_sessions items) told_lines (codes "settle" ∷ reader_lines) told_acts ((Makes Settle HasSettled ∷ []) ∷ reader_acts items) told_outputs
      reader_outputs told_run reads

  pub fresh_wrote : fresh_entries items ≡ flat_map all_of (told_outputs ++ reader_outputs)
  fresh_wrote = simp append-nil

  pub fresh_run : IsRun worked_plan fresh_lines (fresh_entries items) (fresh_acts items)
  fresh_run = record {
    outputs = told_outputs ++ reader_outputs;
    last = fresh_sessions items;
    handled = fresh_handled;
    wrote = fresh_wrote;
  }
