-- The tape that ends in a map behind a regroup is a run, with any map.
use Rattle.std.proofs.Common.{◌≡◌, ℕ, zero, suc, Bool, List, [], ◌∷◌, ◌++◌, flat_map, refl, sym, subst, codes, append-nil, ap, not, arith}
use Rattle.mail_model.specs.Tape.Order.{Moves}
use Rattle.mail_model.specs.Tape.ClusterOrder.{Crash, Regroup, Settle, Maps}
use Rattle.mail_model.specs.Site.TapeFault.{BadLine}
use Rattle.mail_model.specs.Transcript.{Entry, all_of}
use Rattle.mail_model.proofs.Sessions.{by_number}
use Rattle.session_model.specs.Calls.{Call}
use Rattle.session_model.specs.Events.{event_entries}
use Rattle.session_model.specs.Events.ClusterEvent.{WentDown, HasFormed, HasSettled, HasMapped}
use Rattle.session_model.specs.Talk.{TalkState}
use Rattle.session_model.specs.Talk.Standing.{Waiting}
use Rattle.session_model.specs.Runs.{Shows}
use Rattle.session_model.specs.Sessions.{session_at}
use Rattle.session_model.specs.Acts.{Act}
use Rattle.session_model.specs.Acts.Act.{Makes}
use Rattle.session_model.specs.Turns.{StandsAt}
use Rattle.session_model.specs.Turns.Turn.{Falling}
use Rattle.session_model.specs.Run.{IsHandled, AreHandled, fault_if}
use Rattle.fresh_sessions.specs.Acts.{ShowsMembers}
use Rattle.fresh_sessions.specs.Acts.ShowsMembers.{ByRegroup}
use Rattle.worked_sessions.proofs.Lines.{has_alice}
use Rattle.worked_settles.specs.FreshTape.{worked_plan, told_lines, told_acts, teller}
use Rattle.worked_settles.specs.MapsTape.{ToldMap}
use Rattle.worked_settles.specs.RegroupedTape.{IsRegroupedRun, second_epoch, two_members, left_lines, left_acts, regrouped_lines, regrouped_acts, regrouped_entries}
use Rattle.worked_settles.proofs.Formed.{none_formed}
use Rattle.worked_settles.proofs.FreshRun.{told_outputs, told_run}
use Rattle.worked_settles.proofs.Lines.{handled_more, moved, nobody}
use Rattle.worked_settles.proofs.Messages.{alone}
use Rattle.worked_settles.proofs.Shown.{shows, all_answered}

-- all that was done before the crash, and before the regroup
abbrev told_done : List Act
told_done = flat_map (λ a. a) told_acts

abbrev crashed : List Act
crashed = told_done ++ Makes (Crash 3) (WentDown 3) ∷ []

-- the one session has ended
rests : (state : TalkState) (call : Call) → teller.standing ≡ Waiting state call → ⊥
rests state call waits = cc

-- and is not at node 3
none_falls : (j : ℕ) → StandsAt 3 (session_at (teller ∷ []) j) → ⊥
none_falls zero stands = stands
none_falls (suc zero) stands = omega (arith, stands.0)
none_falls (suc (suc n)) stands = subst (StandsAt 3) (by_number (teller ∷ []) (suc n)) stands

crashes : IsHandled worked_plan told_done (teller ∷ []) (codes "crash 3") (Makes (Crash 3) (WentDown 3) ∷ []) (event_entries (WentDown 3) ∷ []) (teller ∷ [])
crashes = record {
  last = Falling 1 3 1;
  begun = record {
    order = Moves (Crash 3);
    spelled = refl;
    accepted = refl;
    first = Makes (Crash 3) (WentDown 3);
    said = event_entries (WentDown 3);
    next = Falling 1 3 1;
    mid = teller ∷ [];
    starts = (WentDown 3, refl, refl, refl);
    acted = (refl, refl);
    more = [];
    others = [];
    goes = (refl, refl);
    acts_are = refl;
    outputs_are = refl;
  };
  done = (1, (refl, λ j later stands. none_falls j stands), nobody worked_plan told_done 1 (λ s. s ∷ []) alone teller (λ waits. rests waits.0 waits.1 waits.2));
}

regroups : IsHandled worked_plan crashed (teller ∷ []) (codes "regroup 1") (Makes (Regroup 1) (HasFormed second_epoch two_members) ∷ []) (event_entries (HasFormed second_epoch two_members) ∷ [])
    (teller ∷ [])
regroups = moved worked_plan crashed 1 (λ s. s ∷ []) alone teller (codes "regroup 1") (Regroup 1) (HasFormed second_epoch two_members) refl refl tt refl (λ waits. rests waits.0 waits.1 waits.2)

-- what is written before the settle
abbrev pub left_outputs : List (List (List Entry))
left_outputs = told_outputs ++ (event_entries (WentDown 3) ∷ []) ∷ (event_entries (HasFormed second_epoch two_members) ∷ []) ∷ []

pub left_run : AreHandled worked_plan [] [] left_lines left_acts left_outputs (teller ∷ [])
left_run = handled_more worked_plan [] [] (teller ∷ []) (teller ∷ []) told_lines (codes "crash 3" ∷ codes "regroup 1" ∷ []) told_acts
    ((Makes (Crash 3) (WentDown 3) ∷ []) ∷ (Makes (Regroup 1) (HasFormed second_epoch two_members) ∷ []) ∷ []) told_outputs
    ((event_entries (WentDown 3) ∷ []) ∷ (event_entries (HasFormed second_epoch two_members) ∷ []) ∷ []) told_run (teller ∷ [], crashes, (teller ∷ [], regroups, refl))

settles : (been : List Act) → IsHandled worked_plan been (teller ∷ []) (codes "settle") (Makes Settle HasSettled ∷ []) (event_entries HasSettled ∷ []) (teller ∷ [])
settles been = moved worked_plan been 1 (λ s. s ∷ []) alone teller (codes "settle") Settle HasSettled refl refl tt refl (λ waits. rests waits.0 waits.1 waits.2)

-- the regroup shows both members
pub left_members : ShowsMembers worked_plan (flat_map (λ a. a) left_acts) two_members
left_members = ByRegroup crashed [] 1 second_epoch refl (none_formed [] refl)

module _ (told : ToldMap) where
  maps : (been : List Act) → IsHandled worked_plan been (teller ∷ []) (codes "maps alice") (Makes (Maps (codes "alice")) (HasMapped (codes "alice") told) ∷ [])
      (event_entries (HasMapped (codes "alice") told) ∷ []) (teller ∷ [])
  maps been = moved worked_plan been 1 (λ s. s ∷ []) alone teller (codes "maps alice") (Maps (codes "alice")) (HasMapped (codes "alice") told) refl
      (ap (λ (b : Bool). fault_if (not b) BadLine) has_alice) refl refl (λ waits. rests waits.0 waits.1 waits.2)

  abbrev outputs : List (List (List Entry))
  outputs = left_outputs ++ (event_entries HasSettled ∷ []) ∷ (event_entries (HasMapped (codes "alice") told) ∷ []) ∷ []

  handled : AreHandled worked_plan [] [] regrouped_lines (regrouped_acts told) outputs (teller ∷ [])
  handled = handled_more worked_plan [] [] (teller ∷ []) (teller ∷ []) left_lines (codes "settle" ∷ codes "maps alice" ∷ []) left_acts
      ((Makes Settle HasSettled ∷ []) ∷ (Makes (Maps (codes "alice")) (HasMapped (codes "alice") told) ∷ []) ∷ []) left_outputs
      ((event_entries HasSettled ∷ []) ∷ (event_entries (HasMapped (codes "alice") told) ∷ []) ∷ []) left_run (teller ∷ [], settles _, (teller ∷ [], maps _, refl))

  wrote : regrouped_entries told ≡ flat_map all_of outputs
  wrote = simp append-nil

  shown : Shows worked_plan regrouped_lines (regrouped_entries told) (flat_map (λ a. a) (regrouped_acts told)) (teller ∷ [])
  shown = subst (λ (e : List Entry). Shows worked_plan regrouped_lines e (flat_map (λ a. a) (regrouped_acts told)) (teller ∷ [])) (sym wrote)
      (shows worked_plan regrouped_lines (regrouped_acts told) outputs (teller ∷ []) handled)

  pub is_regrouped_run : IsRegroupedRun told
  is_regrouped_run = record {
    run = record { outputs = outputs; last = teller ∷ []; handled = handled; wrote = wrote };
    sessions = shown.are;
    answered = all_answered worked_plan regrouped_lines (regrouped_acts told) outputs (teller ∷ []) handled;
    logged = shown.logged;
    ended = record {
      before = left_lines;
      settles = codes "settle";
      asks = codes "maps alice";
      are = refl;
      settle = refl;
      ask = refl;
      settled = record {
        front = left_acts;
        split = refl;
        outputs = left_outputs;
        sessions = teller ∷ [];
        handled = left_run;
        none_open = refl;
        faultless = refl;
        shown = left_members;
      };
    };
  }
