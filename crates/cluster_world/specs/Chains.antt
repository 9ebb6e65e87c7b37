-- What holds of steps that a world makes one after another.
use Rattle.std.specs.Prelude.{◌≡◌, ℕ, ◌+◌, ◌-◌, ◌^◌, ◌≤◌, min, List, [], ◌∷◌, ◌++◌, length, Some}
use Rattle.mail_model.specs.Plan.{Plan}
use Rattle.node_store.specs.Disks.{View}
use Rattle.cluster_world.specs.Worlds.{plan_of, disks_of, disk_of_node, steps_of, disks_tell}
use Rattle.cluster_world.specs.Opens.{IsAtBeginning}
use Rattle.cluster_world.specs.Outcomes.{Outcome, Awaited, Came, Makes}
use Rattle.cluster_world.specs.Outcomes.Outcome.{Moved, Settling, Mapped}
use Rattle.cluster_world.specs.declared.world.World.{World}

-- how many steps an outcome is of
abbrev pub steps_in : Outcome → ℕ
steps_in (Moved order steps sum up) = length steps
steps_in (Settling result steps) = length steps
steps_in (Mapped user told) = 0
steps_in outcome = 1

abbrev pub all_steps_in : List Outcome → ℕ
all_steps_in [] = 0
all_steps_in (outcome ∷ outcomes) = steps_in outcome + all_steps_in outcomes

-- Steps and one more are steps.
abbrev pub MakesMore : {D : Type 0} → View D → Type 0
MakesMore {D} on = (outcomes : List Outcome) (outcome : Outcome) (awaited between left : List Awaited) (old mid new : World D)
    → Makes on outcomes awaited old between mid → Came on outcome between mid left new → Makes on (outcomes ++ outcome ∷ []) awaited old left new

-- Each of them was counted, up to the end of the count, and nothing else was.
abbrev pub StepsAreCounted : {D : Type 0} → View D → Type 0
StepsAreCounted {D} on = (plan : Plan) (outcomes : List Outcome) (left : List Awaited) (start last : World D)
    → IsAtBeginning on plan start → Makes on outcomes [] start left last → steps_of last ≡ min (all_steps_in outcomes) (2 ^ 64 - 1)

-- The plan and the number of disks stay, and whether they all tell what they hold.
abbrev pub PlanStays : {D : Type 0} → View D → Type 0
PlanStays {D} on = (outcomes : List Outcome) (awaited left : List Awaited) (old new : World D) → Makes on outcomes awaited old left new
    → (plan_of new ≡ plan_of old) × (length (disks_of new) ≡ length (disks_of old)) × (disks_tell on.seen new ≡ disks_tell on.seen old)

-- No disk's count of faults falls.
abbrev pub LaterAfter : {D : Type 0} → View D → Type 0
LaterAfter {D} on = (outcomes : List Outcome) (awaited left : List Awaited) (old new : World D) (n : ℕ) (disk disk' : D) → Makes on outcomes awaited old left new
    → disk_of_node old n ≡ Some disk → disk_of_node new n ≡ Some disk' → on.faults disk ≤ on.faults disk'
