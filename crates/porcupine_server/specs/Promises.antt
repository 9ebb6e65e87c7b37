-- The promises to clients, over the octets that the program read and wrote and the stores that it gave back.
use Rattle.std.specs.Prelude.{◌≡◌, ◌⊎◌, ◌+◌, ◌^◌, ℕ, Bool, true, List, [], ◌∷◌, ◌++◌, length, flat_map, map, All, ⊤, Option, Some, Result, Ok, Err, is_some}
use Rattle.std.specs.List.{list_all}
use Rattle.std.specs.Io.KnownBytes.{Consumes, Appends}
use Rattle.yard_stores.specs.Taken.{numbered_stores, TellsAll}
use Rattle.mail_model.specs.Lines.{HasNoLf, ended}
use Rattle.mail_model.specs.Plan.{Plan}
use Rattle.mail_model.specs.Stored.{Ack}
use Rattle.mail_model.specs.Tape.{Draft, Order, empty_draft, planned, tape_plan_line, tape_order}
use Rattle.mail_model.specs.Tape.Order.{Close, GiveUp, Moves, End}
use Rattle.mail_model.specs.Tape.PlanLine.{Go}
use Rattle.mail_model.specs.Transcript.{Entry, entry_line, written_of, all_of}
use Rattle.mail_model.specs.Record.{Record}
use Rattle.mail_model.specs.Shown.{lines_to}
use Rattle.session_model.specs.Copies.{AreDisks}
use Rattle.session_model.specs.Sessions.{Session, AreAnswered}
use Rattle.session_model.specs.Acts.{Act}
use Rattle.session_model.specs.Run.{AreHandled}
use Rattle.session_model.specs.Kept.{KeepsToClients, IsEnding}
use Rattle.cluster_owes.specs.Held.{filed_on}
use Rattle.fresh_sessions.specs.Kept.{KeepsSettledOver}
use Rattle.drive_tape.specs.declared.drove.Drove.{Drove}
use Rattle.drive_tape.specs.declared.drove.TapeFault.{TapeFault}
use Rattle.drive_tape.specs.Drive.{IsOrder, IsLineAtMost, StopsAt}
use Rattle.drive_tape.specs.Plans.{DraftsTo, ReadsHead}
use Rattle.drive_tape.specs.Kept.{AreBlindLines}
use Rattle.porcupine_server.specs.Endings.{ending_of, status_of}
use Rattle.porcupine_server.specs.Works.{Stores, SourceAndSink}

-- The octets are plan lines, `go`, these run lines, and these octets behind them.
pub record IsTape (octets : List ℕ) (plan : Plan) (lines : List (List ℕ)) (others : List ℕ) : Type 0 where
  pub head : List (List ℕ)
  pub draft : Draft
  pub go : List ℕ
  pub whole : octets ≡ flat_map ended head ++ (ended go ++ (flat_map ended lines ++ others))
  pub head_each : All HasNoLf head
  pub go_one : HasNoLf go
  pub each : All HasNoLf lines
  pub drafts : DraftsTo empty_draft head draft
  pub goes : tape_plan_line go ≡ Some Go
  pub plan_is : planned draft ≡ Some plan

-- an order that the cluster itself may refuse: nothing of it is fed to a session
abbrev pub IsDeniable : Order → Type 0
IsDeniable (Close k) = ⊤
IsDeniable (GiveUp k) = ⊤
IsDeniable (Moves order) = ⊤
IsDeniable order = ⊥

-- the last of these lines is such an order
abbrev pub LastIsDeniable : List (List ℕ) → Type 0
LastIsDeniable lines = (before : List (List ℕ)) × (line : List ℕ) × (order : Order) × (lines ≡ before ++ line ∷ []) × (tape_order line ≡ Some order) × IsDeniable order

-- These lines were handled, one after another, and wrote these entries but for a last line that says why the program ended; and what was taken behind them has a fault of
-- the tape, found before anything of it was done. A line that was handled is so none of what was taken behind.
pub record HasFaultBehind (plan : Plan) (lines : List (List ℕ)) (entries : List Entry) (others : List ℕ) (left : Option (List ℕ)) : Type 0 where
  pub acts : List (List Act)
  pub outputs : List (List (List Entry))
  pub sessions : List Session
  pub handled : AreHandled plan [] [] lines acts outputs sessions
  pub ending : List Entry
  pub ends : IsEnding ending
  pub wrote : entries ≡ flat_map all_of outputs ++ ending
  pub room : ℕ
  pub limit : length (flat_map ended lines ++ others) + room ≡ 2 ^ 40
  pub fault : TapeFault
  pub why : StopsAt fault plan (flat_map (λ a. a) acts) sessions left others room

-- Why the tape is refused: for what was taken behind the lines; or there is nothing, and the cluster refused the last line.
abbrev pub IsRefused : Plan → List (List ℕ) → List Entry → List ℕ → Option (List ℕ) → Type 0
IsRefused plan lines entries others left = HasFaultBehind plan lines entries others left ⊎ ((others ≡ []) × LastIsDeniable lines)

-- Which octets that were taken are none of the lines, by the status: at 0 the line `end`, at 3 the line that is refused, at 4 the beginning of a line, and never more than
-- one line.
pub record IsLeft (status : ℕ) (plan : Plan) (lines : List (List ℕ)) (entries : List Entry) (others : List ℕ) (left : Option (List ℕ)) : Type 0 where
  pub some_status : (status ≡ 0) ⊎ (status ≡ 3) ⊎ (status ≡ 4) ⊎ (status ≡ 5) ⊎ (status ≡ 7)
  pub ended_so : status ≡ 0 → IsOrder others End
  pub refused : status ≡ 3 → IsRefused plan lines entries others left
  pub in_line : status ≡ 4 → HasNoLf others
  pub at_most_one : IsLineAtMost others

-- The octets are the lines of these entries; a last line that was cut short counts as not written.
pub record IsTranscript (octets : List ℕ) (entries : List Entry) : Type 0 where
  pub cut : List ℕ
  pub whole : octets ≡ written_of entries ++ cut
  pub lines : All HasNoLf (map entry_line entries)
  pub rest : HasNoLf cut

-- all stores tell what they hold
abbrev pub all_tell : {D : Type 0} → (D → Option (List ℕ)) → List D → Bool
all_tell seen given = list_all (λ disk. is_some (seen disk)) given

-- the work was cut short: of a line the transcript may have nothing
abbrev pub IsCut : ℕ → Type 0
IsCut status = (status ≡ 5) ⊎ (status ≡ 7)

-- The records of the nodes, which their stores hold; the sessions as tape and transcript show them; the messages that were answered `250 stored`, and the nodes that
-- confirmed each: what is promised to clients is kept of these. Where the work was not cut short, each unit that a session reached is replied to.
pub record KeepsOver (plan : Plan) (tells : Bool) (status : ℕ) (lines : List (List ℕ)) (entries : List Entry) (stores : List (Option (List ℕ))) : Type 0 where
  pub records : List (List Record)
  pub holds : AreDisks 1 stores records
  pub sessions : List Session
  pub acks : List Ack
  pub confirmers : List (List ℕ)
  pub clients : KeepsToClients plan tells lines entries records (filed_on records) sessions acks confirmers
  pub answered : (IsCut status → ⊥) → AreAnswered sessions
  -- where the tape was run to its `end` and the stores tell what they hold: a new session behind a settled epoch lists exactly what stands, a map that is then asked for
  -- names exactly the fragments, and members agree
  pub settled : status ≡ 0 → tells ≡ true → KeepsSettledOver plan lines entries records sessions

-- The run lines that were handled, all whole lines of what was read but at most one, as the status says: over these, and over the stores that were given back, all is kept
-- that is promised to clients, where the stores tell what they hold, or no line needs what they hold.
pub record KeepsAll {D : Type 0} (seen : D → Option (List ℕ)) (given : List D) (read : List ℕ) (left : Option (List ℕ)) (entries : List Entry) (status : ℕ) : Type 0 where
  pub plan : Plan
  pub lines : List (List ℕ)
  pub others : List ℕ
  pub tape : IsTape read plan lines others
  pub behind : IsLeft status plan lines entries others left
  pub promises : (all_tell seen given ≡ true) ⊎ AreBlindLines plan.nodes lines → KeepsOver plan (all_tell seen given) status lines entries (map seen given)

-- the status where no run line was read: that of the fault of the plan lines, or that the stores were not there
abbrev pub IsStatusOf : Result (Plan × ℕ) Drove → ℕ → Type 0
IsStatusOf (Ok head) status = (status ≡ 6) ⊎ IsCut status
IsStatusOf (Err answer) status = (status ≡ status_of (ending_of answer)) ⊎ IsCut status

-- No run line was read: the plan lines had a fault, or the stores were not there. The status is not 0, and no session said anything.
pub record HasNoRun (left0 left1 : Option (List ℕ)) (entries : List Entry) (status : ℕ) : Type 0 where
  pub not_done : status ≡ 0 → ⊥
  pub head : Result (Plan × ℕ) Drove
  pub reads : ReadsHead left0 left1 head
  pub why : IsStatusOf head status
  pub unsaid : (k : ℕ) → lines_to k entries ≡ []

-- No run line was read; or the stores were given back, and all that is promised to clients is kept.
pub record HasKept {D : Type 0} (seen : D → Option (List ℕ)) (stores : Stores D) (ends : SourceAndSink) (status : ℕ) : Type 0 where
  pub read : List ℕ
  pub written : List ℕ
  pub entries : List Entry
  pub took : Consumes ends.left0 ends.left1 read
  pub gave : Appends ends.held0 ends.held1 written
  pub transcript : IsTranscript written entries
  pub promise : HasNoRun ends.left0 ends.left1 entries status
      ⊎ ((given : List D) × TellsAll stores.returned0 stores.returned1 (numbered_stores 1 given) × KeepsAll seen given read ends.left1 entries status)
