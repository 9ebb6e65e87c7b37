-- What a run shows of its sessions.
use Rattle.std.proofs.Common.{◌≡◌, ℕ, List, [], ◌++◌, flat_map, refl, sym, subst, append-nil}
use Rattle.mail_model.specs.Plan.{Plan}
use Rattle.mail_model.specs.Transcript.{Entry, all_of}
use Rattle.session_model.specs.Sessions.{Session, AreAnswered}
use Rattle.session_model.specs.Acts.{Act}
use Rattle.session_model.specs.Run.{AreHandled, IsDriven, made_by}
use Rattle.session_model.specs.Run.Stop.{BehindLine, Denied, SinkFailed}
use Rattle.session_model.specs.Runs.{Shows}
use Rattle.session_model.proofs.Driven.{driven_written, wrote_shown, shown_last}
use Rattle.session_model.proofs.Resting.{driven_answers_units}

-- lines that were handled, behind which the work stopped
module _ (plan : Plan) (lines : List (List ℕ)) (acts : List (List Act)) (outputs : List (List (List Entry))) (last : List Session) (handled : AreHandled plan [] [] lines acts outputs last) where
  driven : IsDriven plan BehindLine lines [] acts [] (flat_map made_by (flat_map (λ a. a) (acts ++ []))) (flat_map all_of outputs) last
  driven = record {
    outputs = outputs;
    mid = last;
    are = handled;
    tail = [];
    extra = [];
    off = (refl, refl, refl, λ is. absurd (let never : BehindLine ≡ SinkFailed = is in cc), λ is. absurd (let never : BehindLine ≡ Denied = is in cc));
    written = sym (append-nil _);
    steps = sym (append-nil _);
  }

  pub shows : Shows plan (lines ++ []) (flat_map all_of outputs) (flat_map (λ a. a) (acts ++ [])) last
  shows =
      let written = driven_written plan BehindLine lines [] acts [] (flat_map made_by (flat_map (λ a. a) (acts ++ []))) (flat_map all_of outputs) last driven in
      subst (Shows plan (lines ++ []) (flat_map all_of outputs) (flat_map (λ a. a) (acts ++ [])))
      (shown_last plan (lines ++ []) (flat_map (λ a. a) (acts ++ [])) (flat_map all_of outputs) last written.acts_of BehindLine (λ never. never) written.wrote)
      (wrote_shown plan (lines ++ []) (flat_map (λ a. a) (acts ++ [])) (flat_map all_of outputs) last written.acts_of BehindLine written.wrote).1

  pub all_answered : AreAnswered last
  all_answered k session at =
      let is = driven_answers_units plan BehindLine lines [] acts [] (flat_map made_by (flat_map (λ a. a) (acts ++ []))) (flat_map all_of outputs) last driven (λ never. never) k session at in
      (is.1, is.2)
