-- What is promised of a run that ends behind a settled epoch, and that a cluster which gives what it owes keeps it.
use Rattle.std.specs.Prelude.{◌≡◌, ℕ, List, [], flat_map}
use Rattle.mail_model.specs.Plan.{Plan}
use Rattle.mail_model.specs.Transcript.{Entry, all_of}
use Rattle.mail_model.specs.Record.{Record}
use Rattle.session_model.specs.Sessions.{Session, AreAnswered}
use Rattle.session_model.specs.SessionParts.{AreShown, AreReaderTalks}
use Rattle.session_model.specs.Acts.{Act}
use Rattle.session_model.specs.Logs.{AreLogged, asked_by, answered_by}
use Rattle.session_model.specs.Run.{AreHandled}
use Rattle.fresh_sessions.specs.Acts.{OwesSettled}
use Rattle.fresh_sessions.specs.Tapes.{FreshListsAll, SettledAgrees}

-- The promises of a settled epoch, over the run lines, the acts of each, the records of the nodes and the sessions.
pub record KeepsSettled (plan : Plan) (lines : List (List ℕ)) (acts : List (List Act)) (disks : List (List Record)) (sessions : List Session) : Type 0 where
  pub fresh_lists_all : FreshListsAll plan lines acts disks sessions
  pub settled_agrees : SettledAgrees plan lines acts disks

-- These are all entries of a run of these lines, and the acts of each line.
pub record IsRun (plan : Plan) (lines : List (List ℕ)) (entries : List Entry) (acts : List (List Act)) : Type 0 where
  pub outputs : List (List (List Entry))
  pub last : List Session
  pub handled : AreHandled plan [] [] lines acts outputs last
  pub wrote : entries ≡ flat_map all_of outputs

-- The promises are kept of a run that led from these lines to these entries.
pub record KeepsSettledOver (plan : Plan) (lines : List (List ℕ)) (entries : List Entry) (disks : List (List Record)) (sessions : List Session) : Type 0 where
  pub acts : List (List Act)
  pub run : IsRun plan lines entries acts
  pub keeps : KeepsSettled plan lines acts disks sessions

-- Of a run whose sessions are these, with all that they asked and were answered: where the cluster gives what it owes of its end, the promises are kept.
abbrev pub OwedSettledIsKept : Type 0
OwedSettledIsKept = (plan : Plan) (lines : List (List ℕ)) (entries wrote : List Entry) (acts : List (List Act)) (disks : List (List Record)) (sessions : List Session)
    → IsRun plan lines wrote acts → AreShown lines entries sessions → AreReaderTalks plan sessions → AreAnswered sessions
    → AreLogged (flat_map asked_by (flat_map (λ a. a) acts)) (flat_map answered_by (flat_map (λ a. a) acts)) sessions
    → OwesSettled plan disks (flat_map (λ a. a) acts) → KeepsSettled plan lines acts disks sessions
