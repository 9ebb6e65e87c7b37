-- A tape whose node stops, starts again, and is lost.
use Rattle.std.proofs.Common.{◌≡◌, ◌≢◌, inl, inr, ℕ, zero, suc, List, [], ◌∷◌, ◌++◌, flat_map, Some, refl, ap, subst, arith, codes, slice_get, get_or}
use Rattle.std.specs.Fmt.{decimal}
use Rattle.std.proofs.lemmas.Fmt.{decimal_digit}
use Rattle.mail_model.specs.Smtp.{greeting_text, helo_text, down_text}
use Rattle.mail_model.specs.Session.{silent}
use Rattle.mail_model.specs.Stored.{IsLost}
use Rattle.mail_model.specs.Tape.Protocol.{Smtp}
use Rattle.mail_model.specs.Tape.Order.{Open, Moves}
use Rattle.mail_model.specs.Tape.ClusterOrder.{Crash, Start, Lose}
use Rattle.mail_model.specs.Transcript.{Entry, closed_event}
use Rattle.mail_model.specs.Transcript.Entry.{Said, Event, Refused}
use Rattle.mail_model.proofs.Sessions.{by_number}
use Rattle.session_model.specs.Events.{event_entries}
use Rattle.session_model.specs.Events.ClusterEvent.{WentDown, CameUp, WasLost}
use Rattle.session_model.specs.Talk.TalkState.{Mailing}
use Rattle.session_model.specs.Acts.Act.{Opens, Does, Makes}
use Rattle.session_model.specs.Acts.Deed.{Falls}
use Rattle.session_model.specs.Turns.{StandsAt, Waits, IsNone}
use Rattle.session_model.specs.Turns.Turn.{Falling, Asking}
use Rattle.session_model.specs.Run.{IsHandled, IsLeftOff, IsDriven}
use Rattle.session_model.specs.Run.Stop.{SinkFailed}
use Rattle.worked_sessions.specs.OneMessage.{at_open, at_helo, at_mail, at_rcpt, at_data, at_subject, at_gap, at_hello, at_wait, text_acts}
use Rattle.worked_sessions.specs.ThreeNodes.{three_nodes, waits_first}
use Rattle.worked_sessions.specs.CrashedNode.{CrashedNodeDriven, crashed_lines, losing_lines, at_down, acts_to_crash, crashed_acts, losing_acts, crashed_made, crashed_entries}
use Rattle.worked_sessions.proofs.Lines.{never_waits, nobody, only_one, nobody_after, helo, mail, rcpt, data_line, subject, gap, hello, waits_line}
use Rattle.worked_sessions.proofs.ThreeNodes.{opens_at_1}

-- a session that ended with its node does not wait
down_waits : Waits (Some at_down) → ⊥
down_waits (state, call, waits) = cc

-- `crash 1`: the session that waits falls
crash : IsHandled three_nodes (flat_map (λ a. a) (text_acts ++ waits_first ∷ [])) (at_wait ∷ []) (codes "crash 1") (Makes (Crash 1) (WentDown 1) ∷ Does 1 Falls ∷ [])
    (event_entries (WentDown 1) ∷ (Said 1 (down_text 1) ∷ closed_event 1 ∷ []) ∷ []) (at_down ∷ [])
crash = record {
  last = Falling 2 1 1;
  begun = record {
    order = Moves (Crash 1);
    spelled = refl;
    accepted = refl;
    first = Makes (Crash 1) (WentDown 1);
    said = event_entries (WentDown 1);
    next = Falling 1 1 1;
    mid = at_wait ∷ [];
    starts = (WentDown 1, refl, refl, refl);
    acted = (refl, refl);
    more = Does 1 Falls ∷ [];
    others = (Said 1 (down_text 1) ∷ closed_event 1 ∷ []) ∷ [];
    goes = (
      Falling 2 1 1,
      at_down ∷ [],
      (only_one (StandsAt 1) at_wait (refl, tt), refl),
      (at_wait, at_down, down_text 1 ∷ [], refl, (tt, refl, refl), refl, refl),
      (refl, refl),
    );
    acts_are = refl;
    outputs_are = refl;
  };
  done = (1, (refl, nobody_after (StandsAt 1) at_down (λ none. none)), nobody at_down down_waits);
}

-- `start 1`
start : IsHandled three_nodes (flat_map (λ a. a) acts_to_crash) (at_down ∷ []) (codes "start 1") (Makes (Start 1) (CameUp 1 2) ∷ []) (event_entries (CameUp 1 2) ∷ []) (at_down ∷ [])
start = record {
  last = Asking 1;
  begun = record {
    order = Moves (Start 1);
    spelled = refl;
    accepted = refl;
    first = Makes (Start 1) (CameUp 1 2);
    said = event_entries (CameUp 1 2);
    next = Asking 1;
    mid = at_down ∷ [];
    starts = (CameUp 1 2, refl, refl, refl);
    acted = (refl, refl);
    more = [];
    others = [];
    goes = (refl, refl);
    acts_are = refl;
    outputs_are = refl;
  };
  done = (1, refl, nobody at_down down_waits);
}

-- nobody waits, though one session stands
neither : IsNone Waits (at_down ∷ at_open ∷ []) 1
neither zero above waits = absurd (omega (arith, above))
neither (suc n) above waits = at_place n (subst Waits (by_number (at_down ∷ at_open ∷ []) n) waits)
  where
    at_place : (i : ℕ) → Waits (slice_get (at_down ∷ at_open ∷ []) i) → ⊥
    at_place zero there = down_waits there
    at_place (suc zero) there = never_waits at_open (Mailing silent) refl there
    at_place (suc (suc i)) there = there

-- `open smtp 1`, in the second boot
opens_again : IsHandled three_nodes (flat_map (λ a. a) (acts_to_crash ++ (Makes (Start 1) (CameUp 1 2) ∷ []) ∷ [])) (at_down ∷ []) (codes "open smtp 1") (Opens Smtp 1 (greeting_text 1) ∷ [])
    ((Said 2 (greeting_text 1) ∷ []) ∷ []) (at_down ∷ at_open ∷ [])
opens_again = record {
  last = Asking 1;
  begun = record {
    order = Open Smtp 1;
    spelled = refl;
    accepted = refl;
    first = Opens Smtp 1 (greeting_text 1);
    said = Said 2 (greeting_text 1) ∷ [];
    next = Asking 1;
    mid = at_down ∷ at_open ∷ [];
    starts = (2, refl, refl, refl);
    acted = (refl, refl);
    more = [];
    others = [];
    goes = (refl, refl);
    acts_are = refl;
    outputs_are = refl;
  };
  done = (1, refl, neither);
}

-- `lose 1`, of which nothing is written
loses : IsLeftOff three_nodes (flat_map (λ a. a) crashed_acts) SinkFailed (at_down ∷ at_open ∷ []) losing_lines losing_acts [] [] (at_down ∷ at_open ∷ [])
loses = (
  Falling 1 1 1,
  record {
    before = [];
    says = event_entries (WasLost 1);
    begun = record {
      order = Moves (Lose 1);
      spelled = refl;
      accepted = refl;
      first = Makes (Lose 1) (WasLost 1);
      said = event_entries (WasLost 1);
      next = Falling 1 1 1;
      mid = at_down ∷ at_open ∷ [];
      starts = (WasLost 1, refl, refl, refl);
      acted = (refl, refl);
      more = [];
      others = [];
      goes = (refl, refl);
      acts_are = refl;
      outputs_are = refl;
    };
    front = [];
    missing = event_entries (WasLost 1);
    cut = refl;
    may = λ none. cc;
    written = refl;
  },
  refl,
)

driven : IsDriven three_nodes SinkFailed crashed_lines losing_lines crashed_acts losing_acts crashed_made crashed_entries (at_down ∷ at_open ∷ [])
driven = record {
  outputs =
      ((Said 1 (greeting_text 1) ∷ []) ∷ []) ∷ ([] ∷ (Said 1 (helo_text 1) ∷ []) ∷ []) ∷ ([] ∷ (Said 1 (codes "250 sender ok") ∷ []) ∷ []) ∷ ([] ∷ (Said 1 (codes "250 recipient ok") ∷ []) ∷ [])
      ∷ ([] ∷ (Said 1 (codes "354 end with a line that is a single period") ∷ []) ∷ []) ∷ ([] ∷ []) ∷ ([] ∷ []) ∷ ([] ∷ [])
      ∷ ([] ∷ [] ∷ [] ∷ [])
      ∷ (event_entries (WentDown 1) ∷ (Said 1 (down_text 1) ∷ closed_event 1 ∷ []) ∷ []) ∷ (event_entries (CameUp 1 2) ∷ []) ∷ ((Said 2 (greeting_text 1) ∷ []) ∷ []) ∷ [];
  mid = at_down ∷ at_open ∷ [];
  are = (
    at_open ∷ [],
    opens_at_1,
    (
      at_helo ∷ [],
      helo 3 _,
      (
        at_mail ∷ [],
        mail 3 _,
        (
          at_rcpt ∷ [],
          rcpt 3 _,
          (
            at_data ∷ [],
            data_line 3 _,
            (
              at_subject ∷ [],
              subject 3 _,
              (
                at_gap ∷ [],
                gap 3 _,
                (
                  at_hello ∷ [],
                  hello 3 _,
                  (at_wait ∷ [], waits_line 3 _, (at_down ∷ [], crash, (at_down ∷ [], start, (at_down ∷ at_open ∷ [], opens_again, refl)))),
                ),
              ),
            ),
          ),
        ),
      ),
    ),
  );
  tail = [];
  extra = [];
  off = loses;
  written = refl;
  steps = refl;
}

-- The transcript has no line that the node is lost, whatever the digits of its number are.

abbrev text_in : Entry → List ℕ
text_in (Said session text) = text
text_in (Event text) = text
text_in (Refused text) = text

-- two events whose texts differ at this place
other_text : (place : ℕ) (one other : List ℕ) → get_or one place 0 ≢ get_or other place 0 → Event one ≡ Event other → ⊥
other_text place one other differ same = differ (ap (λ (e : Entry). get_or (text_in e) place 0) same)

abbrev lost_with : List ℕ → List ℕ
lost_with d = codes "node " ++ d ++ codes " lost"

down_lost : (d : List ℕ) → d ≡ 49 ∷ [] → Event (codes "node " ++ d ++ codes " down") ≡ Event (lost_with d) → ⊥
down_lost d one same = other_text 7 (codes "node 1 down") (codes "node 1 lost") (λ e. omega (arith, e)) (subst (λ (x : List ℕ). Event (codes "node " ++ x ++ codes " down") ≡ Event (lost_with x)) one same)

closed_lost : (d : List ℕ) → d ≡ 49 ∷ [] → Event (d ++ codes " closed") ≡ Event (lost_with d) → ⊥
closed_lost d one same = other_text 0 (codes "1 closed") (codes "node 1 lost") (λ e. omega (arith, e)) (subst (λ (x : List ℕ). Event (x ++ codes " closed") ≡ Event (lost_with x)) one same)

up_lost : (d more : List ℕ) → d ≡ 49 ∷ [] → Event (codes "node " ++ d ++ codes " up " ++ more) ≡ Event (lost_with d) → ⊥
up_lost d more one same =
    other_text 7 (codes "node 1 up " ++ more) (codes "node 1 lost") (λ e. omega (arith, e)) (subst (λ (x : List ℕ). Event (codes "node " ++ x ++ codes " up " ++ more) ≡ Event (lost_with x)) one same)

untold : IsLost crashed_entries 1 → ⊥
untold (inl is) = cc
untold (inr (inl is)) = cc
untold (inr (inr (inl is))) = cc
untold (inr (inr (inr (inl is)))) = cc
untold (inr (inr (inr (inr (inl is))))) = cc
untold (inr (inr (inr (inr (inr (inl is)))))) = down_lost (decimal 1) (decimal_digit 1 (omega arith)) is
untold (inr (inr (inr (inr (inr (inr (inl is))))))) = cc
untold (inr (inr (inr (inr (inr (inr (inr (inl is)))))))) = closed_lost (decimal 1) (decimal_digit 1 (omega arith)) is
untold (inr (inr (inr (inr (inr (inr (inr (inr (inl is))))))))) = up_lost (decimal 1) (decimal 2) (decimal_digit 1 (omega arith)) is
untold (inr (inr (inr (inr (inr (inr (inr (inr (inr (inl is)))))))))) = cc
untold (inr (inr (inr (inr (inr (inr (inr (inr (inr (inr none)))))))))) = none

pub crashed_node_driven : CrashedNodeDriven
crashed_node_driven = record {
  driven = driven;
  while_down = refl;
  once_up = refl;
  lost = inr (tt, record { before = crashed_lines; line = codes "lose 1"; last = refl; loses = refl });
  untold = untold;
}
