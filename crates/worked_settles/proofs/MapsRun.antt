-- The tape that ends in a map is a run, with any map.
use Rattle.std.proofs.Common.{◌≡◌, ℕ, Bool, true, List, [], ◌∷◌, ◌++◌, flat_map, refl, sym, subst, codes, append-nil, ap, not}
use Rattle.mail_model.specs.Lines.{sent_line}
use Rattle.mail_model.specs.PopReplies.{one_line}
use Rattle.mail_model.specs.Site.{nth_id}
use Rattle.mail_model.specs.Smtp.{greeting_text, helo_text, closing_text, stored_text}
use Rattle.mail_model.specs.Tape.Protocol.{Smtp}
use Rattle.mail_model.specs.Tape.ClusterOrder.{Post, Settle, Maps}
use Rattle.mail_model.specs.Transcript.{Entry, closed_event, all_of}
use Rattle.mail_model.specs.Transcript.Entry.{Said}
use Rattle.session_model.specs.Calls.Call.{Deliver}
use Rattle.session_model.specs.Calls.Answer.{Stored}
use Rattle.session_model.specs.Events.{event_entries}
use Rattle.session_model.specs.Events.ClusterEvent.{WasHeard, HasSettled, HasMapped}
use Rattle.session_model.specs.Talk.{Exchange, TalkState}
use Rattle.session_model.specs.Talk.TalkState.{Mailing}
use Rattle.session_model.specs.Runs.{Shows}
use Rattle.session_model.specs.Acts.{Act}
use Rattle.session_model.specs.Acts.Act.{Opens, Makes}
use Rattle.session_model.specs.Run.{IsHandled, AreHandled, fault_if}
use Rattle.fresh_sessions.specs.Acts.ShowsMembers.{AtOpening}
use Rattle.worked_sessions.specs.OneMessage.{greeted, small_mail, waiting, at_once, said_once, at_open, at_helo}
use Rattle.worked_sessions.specs.ThreeNodes.{heard_in_vain}
use Rattle.worked_sessions.proofs.Lines.{whole_line, idle_line, has_alice}
use Rattle.worked_settles.specs.FreshTape.{worked_plan, message_words, message_lines, message_acts, message_talk, tells_stored}
use Rattle.worked_settles.specs.MapsTape.{IsMapsRun, ToldMap, stored_lines, maps_lines, stored_acts, maps_acts, maps_entries, storer}
use Rattle.worked_settles.proofs.Lines.{handled_more, answered, moved_in_vain, moved_on, moved, hears_on}
use Rattle.worked_settles.proofs.Messages.{alone, message_outputs, waits_after, opens, helo, tells}
use Rattle.worked_settles.proofs.FreshRun.{fed_0, had_0, hearing, before_text}
use Rattle.worked_settles.proofs.Formed.{none_formed}
use Rattle.worked_settles.proofs.Shown.{shows, all_answered}
use Rattle.session_model.specs.Talk.Standing.{Waiting}
use Rattle.session_model.specs.Calls.{Call}
use Rattle.mail_model.specs.Site.TapeFault.{BadLine}
use Rattle.mail_model.specs.Plan.{is_user}

-- what the session was fed before QUIT, and its exchanges
abbrev fed_1 : List ℕ
fed_1 = fed_0 ++ flat_map sent_line message_words

abbrev had_1 : List Exchange
had_1 = had_0 ++ message_talk (Stored (nth_id 1)) stored_text

first_letter : (been : List Act) → IsHandled worked_plan been (waits_after fed_0 had_0 ∷ []) (codes "post 1") (heard_in_vain (Post 1) 1) (event_entries (WasHeard 1) ∷ [] ∷ []) (waits_after fed_0 had_0 ∷ [])
first_letter been = moved_in_vain worked_plan been 1 (λ s. s ∷ []) alone (waits_after fed_0 had_0) (codes "post 1") (Post 1) (WasHeard 1) refl refl refl refl (Mailing greeted, Deliver small_mail, refl)

last_letter : (been : List Act) → IsHandled worked_plan been (waits_after fed_0 had_0 ∷ []) (codes "post 2") (Makes (Post 2) (WasHeard 2) ∷ tells_stored 1 ∷ [])
    (event_entries (WasHeard 2) ∷ (Said 1 stored_text ∷ []) ∷ []) (hearing fed_1 had_1 ∷ [])
last_letter been = moved_on worked_plan been 1 (λ s. s ∷ []) alone (waits_after fed_0 had_0) (hearing fed_1 had_1) (codes "post 2") (Post 2) (WasHeard 2) (Deliver small_mail) (Stored (nth_id 1)) (one_line stored_text)
    (Said 1 stored_text ∷ []) (had_0 ++ before_text) waiting (Mailing greeted) refl refl refl refl refl refl refl refl refl idle_line refl
    (hears_on worked_plan been 1 (λ s. s ∷ []) alone (hearing fed_1 had_1) (Mailing greeted) refl)

quit : (been : List Act) → IsHandled worked_plan been (hearing fed_1 had_1 ∷ []) (codes "say 1 QUIT") (said_once (codes "QUIT") (closing_text 1)) ([] ∷ (Said 1 (closing_text 1) ∷ closed_event 1 ∷ []) ∷ []) (storer ∷ [])
quit been = answered worked_plan been 1 (λ s. s ∷ []) alone (hearing fed_1 had_1) storer (codes "say 1 QUIT") (codes "QUIT") (at_once (codes "QUIT") (closing_text 1)) (Mailing greeted)
    (Said 1 (closing_text 1) ∷ closed_event 1 ∷ []) refl refl refl refl refl
    (record { is_unit = whole_line (codes "QUIT") refl; whole = refl; led = (refl, refl, refl) }) refl refl tt refl (λ waits. let never = waits.2 in cc)

-- the lines behind the message, up to the settle
abbrev letter_lines : List (List ℕ)
letter_lines = codes "post 1" ∷ codes "post 2" ∷ codes "say 1 QUIT" ∷ []

abbrev letter_acts : List (List Act)
letter_acts = heard_in_vain (Post 1) 1 ∷ (Makes (Post 2) (WasHeard 2) ∷ tells_stored 1 ∷ []) ∷ said_once (codes "QUIT") (closing_text 1) ∷ []

abbrev letter_outputs : List (List (List Entry))
letter_outputs =
    (event_entries (WasHeard 1) ∷ [] ∷ []) ∷ (event_entries (WasHeard 2) ∷ (Said 1 stored_text ∷ []) ∷ []) ∷ ([] ∷ (Said 1 (closing_text 1) ∷ closed_event 1 ∷ []) ∷ []) ∷ []

letters : (been : List Act) → AreHandled worked_plan been (waits_after fed_0 had_0 ∷ []) letter_lines letter_acts letter_outputs (storer ∷ [])
letters been = (waits_after fed_0 had_0 ∷ [], first_letter _, (hearing fed_1 had_1 ∷ [], last_letter _, (storer ∷ [], quit _, refl)))

-- what is written before the settle
abbrev pub stored_outputs : List (List (List Entry))
stored_outputs = ((Said 1 (greeting_text 1) ∷ []) ∷ []) ∷ ([] ∷ (Said 1 (helo_text 1) ∷ []) ∷ []) ∷ message_outputs ++ letter_outputs

pub stored_run : AreHandled worked_plan [] [] stored_lines stored_acts stored_outputs (storer ∷ [])
stored_run = (
  at_open ∷ [],
  opens,
  (
    at_helo ∷ [],
    helo _,
    handled_more worked_plan (Opens Smtp 1 (greeting_text 1) ∷ said_once (codes "HELO c.example") (helo_text 1)) (at_helo ∷ []) (waits_after fed_0 had_0 ∷ []) (storer ∷ []) message_lines letter_lines
        message_acts letter_acts message_outputs letter_outputs (tells fed_0 had_0 _) (letters _),
  ),
)

rests : (state : TalkState) (call : Call) → storer.standing ≡ Waiting state call → ⊥
rests state call waits = cc

settles : (been : List Act) → IsHandled worked_plan been (storer ∷ []) (codes "settle") (Makes Settle HasSettled ∷ []) (event_entries HasSettled ∷ []) (storer ∷ [])
settles been = moved worked_plan been 1 (λ s. s ∷ []) alone storer (codes "settle") Settle HasSettled refl refl tt refl (λ waits. rests waits.0 waits.1 waits.2)

-- the plan has the user whose map is asked for
user_of_plan : is_user worked_plan (codes "alice") ≡ true
user_of_plan = has_alice

module _ (told : ToldMap) where
  maps : (been : List Act) → IsHandled worked_plan been (storer ∷ []) (codes "maps alice") (Makes (Maps (codes "alice")) (HasMapped (codes "alice") told) ∷ [])
      (event_entries (HasMapped (codes "alice") told) ∷ []) (storer ∷ [])
  maps been = moved worked_plan been 1 (λ s. s ∷ []) alone storer (codes "maps alice") (Maps (codes "alice")) (HasMapped (codes "alice") told) refl
      (ap (λ (b : Bool). fault_if (not b) BadLine) user_of_plan) refl refl (λ waits. rests waits.0 waits.1 waits.2)

  abbrev outputs : List (List (List Entry))
  outputs = stored_outputs ++ (event_entries HasSettled ∷ []) ∷ (event_entries (HasMapped (codes "alice") told) ∷ []) ∷ []

  handled : AreHandled worked_plan [] [] maps_lines (maps_acts told) outputs (storer ∷ [])
  handled = handled_more worked_plan [] [] (storer ∷ []) (storer ∷ []) stored_lines (codes "settle" ∷ codes "maps alice" ∷ []) stored_acts
      ((Makes Settle HasSettled ∷ []) ∷ (Makes (Maps (codes "alice")) (HasMapped (codes "alice") told) ∷ []) ∷ []) stored_outputs
      ((event_entries HasSettled ∷ []) ∷ (event_entries (HasMapped (codes "alice") told) ∷ []) ∷ []) stored_run (storer ∷ [], settles _, (storer ∷ [], maps _, refl))

  wrote : maps_entries told ≡ flat_map all_of outputs
  wrote = simp append-nil

  shown : Shows worked_plan maps_lines (maps_entries told) (flat_map (λ a. a) (maps_acts told)) (storer ∷ [])
  shown = subst (λ (e : List Entry). Shows worked_plan maps_lines e (flat_map (λ a. a) (maps_acts told)) (storer ∷ [])) (sym wrote)
      (shows worked_plan maps_lines (maps_acts told) outputs (storer ∷ []) handled)

  pub is_maps_run : IsMapsRun told
  is_maps_run = record {
    run = record { outputs = outputs; last = storer ∷ []; handled = handled; wrote = wrote };
    sessions = shown.are;
    answered = all_answered worked_plan maps_lines (maps_acts told) outputs (storer ∷ []) handled;
    logged = shown.logged;
    ended = record {
      before = stored_lines;
      settles = codes "settle";
      asks = codes "maps alice";
      are = refl;
      settle = refl;
      ask = refl;
      settled = record {
        front = stored_acts;
        split = refl;
        outputs = stored_outputs;
        sessions = storer ∷ [];
        handled = stored_run;
        none_open = refl;
        faultless = refl;
        shown = AtOpening refl (none_formed (flat_map (λ a. a) stored_acts) refl);
      };
    };
  }
