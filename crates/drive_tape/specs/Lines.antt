-- What handling a line of a tape did.
use Rattle.std.specs.Prelude.{◌≡◌, ◌⊎◌, ℕ, List, [], ◌∷◌, ◌++◌, flat_map, Option, Some, None, Result, Ok, Err}
use Rattle.std.specs.Io.KnownBytes.{Appends}
use Rattle.mail_model.specs.Plan.{Plan}
use Rattle.mail_model.specs.Tape.{Order, tape_order}
use Rattle.mail_model.specs.Tape.Order.{End}
use Rattle.mail_model.specs.Transcript.{Entry, written_of}
use Rattle.mail_model.specs.Transcript.{all_of}
use Rattle.session_model.specs.Sessions.{Session}
use Rattle.session_model.specs.Acts.{Act, Acted}
use Rattle.session_model.specs.Lives.{failed_in}
use Rattle.session_model.specs.Logs.{Asked}
use Rattle.session_model.specs.Turns.{Starts, IsDone}
use Rattle.session_model.specs.Run.{Made, Stop, IsHandled, IsLeftOff, refusal}
use Rattle.session_model.specs.Run.Stop.{BehindLine, Denied, SinkFailed, OutOfMemory}
use Rattle.node_store.specs.Disks.{View}
use Rattle.cluster_world.specs.Outcomes.{Outcome}
use Rattle.cluster_world.specs.declared.world.World.{World}
use Rattle.drive_tape.specs.declared.cluster.Cluster.{Cluster}
use Rattle.drive_tape.specs.declared.drove.TapeFault.TheVariants.{BadLine}
use Rattle.drive_tape.specs.declared.drove.Stop.{Stop as Why}
use Rattle.drive_tape.specs.declared.drove.Stop.TheVariants as why
use Rattle.drive_tape.specs.Drive.{EndsDenied}
use Rattle.drive_tape.specs.Faults.{tape_fault_seen}
use Rattle.drive_tape.specs.Parts.{IsCutEntry}
use Rattle.drive_tape.specs.Led.{Led, AreLed, AreLedTo}
use Rattle.drive_tape.specs.Points.{Point, AreAtOwnNodes, IsAtPoint}
use Rattle.drive_tape.specs.Worlds.{IsSince, AreLives, HasCauses}

-- nothing is under way, and nobody is left to be asked
abbrev pub NothingIsUnderWay : Point → Type 0
NothingIsUnderWay p = IsDone p.turn p.sessions

-- The order was accepted, and its first act was made; nothing else yet.
pub record IsStarted (plan : Plan) (p q : Point) (order : Order) : Type 0 where
  pub accepted : refusal plan p.been p.sessions order ≡ None
  pub first : Act
  pub said : List Entry
  pub starts : Starts plan p.been order p.sessions first q.turn
  pub acted : Acted plan p.sessions first said q.sessions
  pub outcomes : List Outcome
  pub linked : Led plan p.been p.outcomes first outcomes
  pub at_nodes : AreAtOwnNodes q.sessions outcomes
  pub came : q.outcomes ≡ p.outcomes ++ outcomes
  pub been : q.been ≡ p.been ++ first ∷ []
  pub gave : Appends p.held q.held (written_of said)

-- The line was handled: from one point to another, at both of which nothing is under way.
pub record LineWent {D : Type 0} (on : View D) (start : World D) (plan : Plan) (p : Point) (line : List ℕ) (held : Option (List ℕ)) (cluster : Cluster D) : Type 0 where
  pub q : Point
  pub acts : List Act
  pub outputs : List (List Entry)
  pub outcomes : List Outcome
  pub handled : IsHandled plan p.been p.sessions line acts outputs q.sessions
  pub linked : AreLed plan p.been p.outcomes acts outcomes
  pub at_nodes : AreAtOwnNodes q.sessions outcomes
  pub came : q.outcomes ≡ p.outcomes ++ outcomes
  pub been : q.been ≡ p.been ++ acts
  pub gave : Appends p.held q.held (written_of (all_of outputs))
  pub held_is : q.held ≡ held
  pub shows : IsAtPoint on start plan cluster q

-- why a line is not handled: it is `end`, or the fault is this, found before anything was done or by the cluster
abbrev pub IsWhy : Why → Plan → Point → List ℕ → Stop → List (List ℕ) → List Outcome → Type 0
IsWhy why.Ended plan p line stop midst new = (stop ≡ BehindLine) × (midst ≡ []) × (tape_order line ≡ Some End)
IsWhy (why.Bad fault) plan p line stop midst new =
    ((stop ≡ BehindLine) × (midst ≡ [])
    × (((fault ≡ BadLine) × (tape_order line ≡ None)) ⊎ ((order : Order) × (tape_order line ≡ Some order) × (refusal plan p.been p.sessions order ≡ Some (tape_fault_seen fault)))))
    ⊎ ((stop ≡ Denied) × (midst ≡ line ∷ []) × EndsDenied fault new)
IsWhy why.WriteFault plan p line stop midst new = (stop ≡ SinkFailed) × (midst ≡ line ∷ [])
IsWhy why.NoMemory plan p line stop midst new = stop ≡ OutOfMemory
IsWhy why.ReadFault plan p line stop midst new = ⊥

-- The line was not handled, or the work stopped before it was done.
pub record LineStopped {D : Type 0} (on : View D) (start : World D) (plan : Plan) (p : Point) (line : List ℕ) (reason : Why) (held : Option (List ℕ)) (world : World D) : Type 0 where
  pub stop : Stop
  pub midst : List (List ℕ)
  pub behind : List (List Act)
  pub tail : List Entry
  pub extra : List Made
  pub sessions : List Session
  pub off : IsLeftOff plan p.been stop p.sessions midst behind tail extra sessions
  pub at_line : (midst ≡ []) ⊎ (midst ≡ line ∷ [])
  pub new : List Outcome
  pub why : IsWhy reason plan p line stop midst new
  pub lacking : List Asked
  pub linked : AreLedTo stop plan p.been p.outcomes (flat_map (λ a. a) behind) new lacking extra
  pub at_nodes : AreAtOwnNodes sessions new
  pub since : IsSince on start (p.outcomes ++ new) world
  pub lives : (stop ≡ OutOfMemory → ⊥) → AreLives plan (p.been ++ flat_map (λ a. a) behind) world
  pub causes : HasCauses on start (failed_in (p.been ++ flat_map (λ a. a) behind)) world
  pub missing : List Entry
  pub all : (missing ≡ []) ⊎ ((more : List Made) × IsLeftOff plan p.been OutOfMemory p.sessions midst behind (tail ++ missing) more sessions)
  pub cut : List ℕ
  pub is_cut : IsCutEntry missing cut
  pub whole : stop ≡ BehindLine → cut ≡ []
  pub gave : Appends p.held held (written_of tail ++ cut)

-- what the work on a line did
abbrev pub LineDid : {D T : Type 0} → View D → World D → Plan → Point → List ℕ → Result T Why → Option (List ℕ) → Cluster D → Type 0
LineDid on start plan p line (Ok _) held cluster = LineWent on start plan p line held cluster
LineDid on start plan p line (Err reason) held cluster = LineStopped on start plan p line reason held cluster.world
