-- What reading the plan lines of a tape did, up to `go`.
use Rattle.std.specs.Prelude.{◌≡◌, ◌⊎◌, ◌<◌, ◌≤◌, ◌+◌, ◌^◌, ℕ, true, is_some, List, [], ◌∷◌, ◌++◌, length, flat_map, All, ⊤, Option, Some, None, Result, Ok, Err, option_and_then}
use Rattle.std.specs.Io.KnownBytes.{Consumes, IsAtEnd}
use Rattle.std.specs.FinMap as map
use Rattle.mail_model.specs.Lines.{HasNoLf, ended}
use Rattle.mail_model.specs.Plan.{Plan}
use Rattle.mail_model.specs.Tape.{Draft, empty_draft, drafted, planned, tape_plan_line}
use Rattle.mail_model.specs.Tape.PlanLine.{Go}
use Rattle.drive_tape.specs.declared.plan_head.PlanTurn.{PlanTurn}
use Rattle.drive_tape.specs.declared.plan_head.PlanTurn.TheVariants.{Line, End}
use Rattle.drive_tape.specs.declared.drove.Drove.{Drove}
use Rattle.drive_tape.specs.declared.drove.Drove.TheVariants.{BadTape}
use Rattle.drive_tape.specs.declared.drove.TapeFault.{TapeFault}
use Rattle.drive_tape.specs.declared.drove.TapeFault.TheVariants.{BadPlan, BadLine, TapeTooLong}
use Rattle.drive_tape.specs.declared.drove.Stop.{Stop}
use Rattle.drive_tape.specs.declared.drove.Stop.TheVariants.{Ended, ReadFault, WriteFault, Bad, NoMemory}
use Rattle.drive_tape.specs.Drive.{stop_of, NamesLine}

-- the line, as a plan line, makes the one draft of the other
abbrev pub DraftsOn : Draft → List ℕ → Draft → Type 0
DraftsOn old line new = option_and_then (drafted old) (tape_plan_line line) ≡ Some new

-- these lines, one after another
abbrev pub DraftsTo : Draft → List (List ℕ) → Draft → Type 0
DraftsTo old [] new = new ≡ old
DraftsTo old (line ∷ lines) new = (mid : Draft) × DraftsOn old line mid × DraftsTo mid lines new

-- the octets are a line that adds nothing to the draft, and if it is `go`, the draft is no plan
pub record IsBadPlan (octets : List ℕ) (draft : Draft) : Type 0 where
  pub line : List ℕ
  pub whole : octets ≡ ended line
  pub one : HasNoLf line
  pub adds_nothing : option_and_then (drafted draft) (tape_plan_line line) ≡ None
  pub no_plan : tape_plan_line line ≡ Some Go → planned draft ≡ None

-- Why the plan part has a fault of the tape, at these octets that were taken and are no plan line, with room for so many more.
abbrev pub PlanStopsAt : TapeFault → Option (List ℕ) → List ℕ → ℕ → Draft → Type 0
PlanStopsAt fault left octets room draft =
    ((fault ≡ BadPlan) × IsBadPlan octets draft)
    ⊎ ((fault ≡ BadLine) × HasNoLf octets × (IsAtEnd left ⊎ (65535 < length octets)))
    ⊎ ((fault ≡ TapeTooLong) × HasNoLf octets × (room ≡ 0))

-- Why it stopped.
abbrev pub PlanStops : Stop → Option (List ℕ) → List ℕ → ℕ → Draft → Type 0
PlanStops Ended left octets room draft = ⊥
PlanStops ReadFault left octets room draft = HasNoLf octets
PlanStops WriteFault left octets room draft = ⊥
PlanStops (Bad fault) left octets room draft = PlanStopsAt fault left octets room draft
PlanStops NoMemory left octets room draft = ⊤

-- one line
abbrev pub PlanDid : Result PlanTurn Stop → Option (List ℕ) → List ℕ → ℕ → Draft → Draft → Type 0
PlanDid (Ok Line) left octets room old new = (line : List ℕ) × (octets ≡ ended line) × HasNoLf line × DraftsOn old line new
PlanDid (Ok End) left octets room old new = (line : List ℕ) × (octets ≡ ended line) × HasNoLf line × (tape_plan_line line ≡ Some Go) × (new ≡ old)
PlanDid (Err stop) left octets room old new = PlanStops stop left octets room old

-- the octets that it took
pub record PlanTurned (left0 left1 : Option (List ℕ)) (result : Result PlanTurn Stop) (room0 : ℕ) (old : Draft) (room1 : ℕ) (new : Draft) : Type 0 where
  pub taken : List ℕ
  pub took : Consumes left0 left1 taken
  pub did : PlanDid result left1 taken room1 old new
  pub size : room1 + length taken ≡ room0

-- so far these plan lines were read
pub record PlanProgress (left0 left1 : Option (List ℕ)) (draft : Draft) (count room : ℕ) : Type 0 where
  pub lines : List (List ℕ)
  pub took : Consumes left0 left1 (flat_map ended lines)
  pub each : All HasNoLf lines
  pub drafts : DraftsTo empty_draft lines draft
  pub counted : length lines ≡ count
  pub size : length (flat_map ended lines) + room ≡ 2 ^ 40

-- the octets after the plan lines are `go`, with a plan; or why they are not
abbrev pub HeadDid : Result (Plan × ℕ) Drove → Option (List ℕ) → List ℕ → ℕ → Draft → ℕ → Type 0
HeadDid (Ok head) left octets room draft count =
    (line : List ℕ) × (octets ≡ ended line) × HasNoLf line × (tape_plan_line line ≡ Some Go) × (planned draft ≡ Some head.0) × (head.1 ≡ count + 1)
HeadDid (Err answer) left octets room draft count = PlanStops (stop_of answer) left octets room draft × NamesLine answer (count + 1)

-- The whole: the octets that were read are plan lines, and `go`, or the answer is why there is none.
pub record ReadsHead (left0 left1 : Option (List ℕ)) (result : Result (Plan × ℕ) Drove) : Type 0 where
  pub lines : List (List ℕ)
  pub draft : Draft
  pub others : List ℕ
  pub room : ℕ
  pub took : Consumes left0 left1 (flat_map ended lines ++ others)
  pub each : All HasNoLf lines
  pub drafts : DraftsTo empty_draft lines draft
  pub limit : length (flat_map ended lines ++ others) + room ≡ 2 ^ 40
  pub did : HeadDid result left1 others room draft (length lines)

-- what the draft gives at `go`, at the line of this number
abbrev pub HeadEnds : Result (Plan × ℕ) Drove → Draft → ℕ → Type 0
HeadEnds (Ok head) draft number = (planned draft ≡ Some head.0) × (head.1 ≡ number)
HeadEnds (Err answer) draft number = (answer ≡ BadTape number BadPlan) × (planned draft ≡ None)

-- A plan as tapes have it: from 1 to 16 nodes, with as many copies at most, of which as many confirm at most, and one at least; from 1 to 1,024 buckets; 4,096 users
-- at most, of which the postmaster is one.
pub record IsTapePlan (plan : Plan) : Type 0 where
  pub some : 1 ≤ plan.nodes
  pub few : plan.nodes ≤ 16
  pub confirmed : 1 ≤ plan.confirm
  pub copied : plan.confirm ≤ plan.copies
  pub spread : plan.copies ≤ plan.nodes
  pub buckets : (1 ≤ plan.buckets) × (plan.buckets ≤ 1024)
  pub users : map.len plan.users ≤ 4096
  pub postmaster : is_some (map.get plan.users plan.postmaster) ≡ true
