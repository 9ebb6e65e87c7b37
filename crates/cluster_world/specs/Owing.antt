-- What a cluster owes, over a world that was driven.
use Rattle.std.specs.Prelude.{◌≡◌, ◌⊎◌, ◌≤◌, ℕ, true, List, [], ◌∷◌, flat_map, map, ⊤, IfSome}
use Rattle.mail_model.specs.Plan.{Plan}
use Rattle.mail_model.specs.Record.{Record}
use Rattle.mail_model.specs.Stored.{IsOnClock}
use Rattle.mail_model.specs.Tape.{ClusterOrder as order}
use Rattle.object_model.specs.Letters.{Number}
use Rattle.object_model.specs.Lists.{Among}
use Rattle.session_model.specs.SoundMails.{IsSoundMail}
use Rattle.session_model.specs.Owes.{Owes}
use Rattle.cluster_owes.specs.Held.{filed_on}
use Rattle.cluster_owes.specs.Outcomes.{IsTakenAt}
use Rattle.node_store.specs.Disks.{View}
use Rattle.cluster_world.specs.Worlds.{plan_of, disks_of, book_of, disks_tell}
use Rattle.cluster_world.specs.Steps.{IsBlind}
use Rattle.cluster_world.specs.Opens.{IsAtBeginning}
use Rattle.cluster_world.specs.Made.{StepMade}
use Rattle.cluster_world.specs.Outcomes.{Outcome, Awaited, Makes, asked_by_outcome, answered_by_outcome}
use Rattle.cluster_world.specs.Outcomes.Outcome.{Began, Refused, Fell, Broke, StillPending, Moved, Settling}
use Rattle.cluster_world.specs.declared.world.World.{World}

-- none of these steps reads from a disk what the machine has to know
abbrev pub AreBlind : ℕ → List StepMade → Type 0
AreBlind nodes [] = ⊤
AreBlind nodes (one ∷ more) = IsBlind nodes one.step × AreBlind nodes more

-- nor does any that led to this outcome; a step that a session leads to never does
abbrev pub IsOfBlind : ℕ → Outcome → Type 0
IsOfBlind nodes (Moved order steps sum up) = AreBlind nodes steps
IsOfBlind nodes (Settling result steps) = AreBlind nodes steps
IsOfBlind nodes outcome = ⊤

abbrev pub AllBlind : ℕ → List Outcome → Type 0
AllBlind nodes [] = ⊤
AllBlind nodes (outcome ∷ more) = IsOfBlind nodes outcome × AllBlind nodes more

-- The disks tell what they hold, or no step needs it.
abbrev pub AreKnown : {D : Type 0} → View D → World D → List Outcome → Type 0
AreKnown on start outcomes = (disks_tell on.seen start ≡ true) ⊎ AllBlind (plan_of start).nodes outcomes

-- A call that has begun, or whose node fell in it, is one that a session of that node makes. A call that was refused tells a message whole, too. The clock is set by a line.
abbrev pub IsOfSession : List (List ℕ) → Outcome → Type 0
IsOfSession lines (Began k node asked ticket) = IsSoundMail asked × IsTakenAt lines k node asked
IsOfSession lines (Fell k node asked) = IsSoundMail asked × IsTakenAt lines k node asked
IsOfSession lines (Broke k node asked) = IsSoundMail asked × IsTakenAt lines k node asked
IsOfSession lines (Refused k node asked) = IsSoundMail asked
IsOfSession lines (Moved (order.Tick seconds) steps sum up) = IsOnClock lines seconds
IsOfSession lines outcome = ⊤

abbrev pub AreOfSessions : List (List ℕ) → List Outcome → Type 0
AreOfSessions lines outcomes = (outcome : Outcome) → Among outcome outcomes → IsOfSession lines outcome

-- Whatever steps a world makes from its opening on, in whatever order its calls begin and are asked for, whatever becomes of its letters and of its nodes: it owes of its
-- calls what sessions are promised, and has it.
abbrev pub WorldOwes : {D : Type 0} → View D → Type 0
WorldOwes {D} on = (plan : Plan) (lines : List (List ℕ)) (outcomes : List Outcome) (left : List Awaited) (start last : World D)
    → IsAtBeginning on plan start → AreKnown on start outcomes → Makes on outcomes [] start left last → AreOfSessions lines outcomes
    → (disks : List (List Record)) × Owes plan (disks_tell on.seen last) lines (map on.seen (disks_of last)) disks (filed_on disks)
    (flat_map asked_by_outcome outcomes) (flat_map answered_by_outcome outcomes) (book_of last)

-- In a plan of one node no call that has begun ever waits: it is done as it is asked for.
abbrev pub NonePending : {D : Type 0} → View D → Type 0
NonePending {D} on = (plan : Plan) (lines : List (List ℕ)) (outcomes : List Outcome) (left : List Awaited) (start last : World D) → plan.nodes ≡ 1 → plan.confirm ≡ 1 → 1 ≤ plan.copies
    → IsAtBeginning on plan start → AreKnown on start outcomes → Makes on outcomes [] start left last → AreOfSessions lines outcomes
    → (k : ℕ) (ticket : Number) → Among (StillPending k ticket) outcomes → ⊥

-- what reads of a disk give is one of its images
abbrev pub TellsImages : {D : Type 0} → View D → Type 0
TellsImages {D} on = (disk : D) → IfSome (on.seen disk) (λ held. on.clock.is_image disk held)
