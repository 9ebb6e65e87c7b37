-- How far the work on a tape got, line by line.
use Rattle.std.specs.Prelude.{◌≡◌, ◌⊎◌, ◌+◌, ◌^◌, ℕ, List, [], length, flat_map, All, Option, Result, Ok, Err}
use Rattle.std.specs.Io.KnownBytes.{Consumes, Appends}
use Rattle.mail_model.specs.Lines.{HasNoLf, ended}
use Rattle.mail_model.specs.Plan.{Plan}
use Rattle.mail_model.specs.Transcript.{Entry, written_of, all_of}
use Rattle.session_model.specs.Acts.{Act}
use Rattle.session_model.specs.Run.{AreHandled}
use Rattle.node_store.specs.Disks.{View}
use Rattle.cluster_world.specs.Worlds.{plan_of}
use Rattle.cluster_world.specs.declared.world.World.{World}
use Rattle.drive_tape.specs.declared.cluster.Cluster.{Cluster}
use Rattle.drive_tape.specs.declared.reader.LineStop.{LineStop}
use Rattle.drive_tape.specs.declared.drove.Stop.{Stop as Why}
use Rattle.drive_tape.specs.Lines.{LineWent, LineStopped}
use Rattle.drive_tape.specs.Led.{AreLed}
use Rattle.drive_tape.specs.Points.{Point, AreAtOwnNodes, IsAtPoint}
use Rattle.drive_tape.specs.Reads.{ReadsLine}
use Rattle.drive_tape.specs.Stops.{of_line}

-- so far these lines were handled
pub record Progress {D : Type 0} (on : View D) (start : World D) (left0 left1 held0 held1 : Option (List ℕ)) (cluster : Cluster D) (count room : ℕ) : Type 0 where
  pub handled : List (List ℕ)
  pub took : Consumes left0 left1 (flat_map ended handled)
  pub each : All HasNoLf handled
  pub counted : length handled ≡ count
  pub size : length (flat_map ended handled) + room ≡ 2 ^ 40
  pub acts : List (List Act)
  pub outputs : List (List (List Entry))
  pub point : Point
  pub are : AreHandled (plan_of start) [] [] handled acts outputs point.sessions
  pub linked : AreLed (plan_of start) [] [] (flat_map (λ a. a) acts) point.outcomes
  pub at_nodes : AreAtOwnNodes point.sessions point.outcomes
  pub been : point.been ≡ flat_map (λ a. a) acts
  pub gave : Appends held0 held1 (written_of (flat_map all_of outputs))
  pub held_is : point.held ≡ held1
  pub shows : IsAtPoint on start (plan_of start) cluster point

-- no line was read, or the work on it stopped
abbrev pub TurnStopped : {D : Type 0} → View D → World D → Plan → Point → Why → List ℕ → Option (List ℕ) → ℕ → Option (List ℕ) → Cluster D → Cluster D → Type 0
TurnStopped on start plan p stop taken left room held old new =
    ((why : LineStop) × (stop ≡ of_line why) × ReadsLine (Err why) left taken room × (p.held ≡ held) × (new ≡ old))
    ⊎ ((line : List ℕ) × (taken ≡ ended line) × HasNoLf line × LineStopped on start plan p line stop held new.world)

abbrev pub TurnDid : {D T : Type 0} → View D → World D → Plan → Point → Result T Why → List ℕ → Option (List ℕ) → ℕ → Option (List ℕ) → Cluster D → Cluster D → Type 0
TurnDid on start plan p (Ok _) taken left room held old new = (line : List ℕ) × (taken ≡ ended line) × HasNoLf line × LineWent on start plan p line held new
TurnDid on start plan p (Err stop) taken left room held old new = TurnStopped on start plan p stop taken left room held old new

-- the octets that a turn took, and what it did
pub record Turned {D T : Type 0} (on : View D) (start : World D) (plan : Plan) (p : Point) (result : Result T Why) (left0 left1 : Option (List ℕ)) (room0 room1 : ℕ) (held : Option (List ℕ)) (old new : Cluster D) : Type 0 where
  pub taken : List ℕ
  pub took : Consumes left0 left1 taken
  pub size : room1 + length taken ≡ room0
  pub did : TurnDid on start plan p result taken left1 room1 held old new
