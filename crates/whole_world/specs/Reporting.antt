-- What a Report comes to: rows go out, none is due, or there is no room for what is due; and it is one of these alone.
use Rattle.std.specs.Prelude.{◌≡◌, ◌↔◌, ℕ, Bool, true, List, take}
use Rattle.std.specs.Cmp.Lexicographic.{slice_cmp}
use Rattle.std.specs.List.{filter}
use Rattle.std.specs.List.Sorted.{IsStrictlySortedBy}
use Rattle.std.specs.Ordering.{nat_cmp}
use Rattle.mail_model.specs.Plan.{Plan}
use Rattle.mail_model.specs.Record.{Record}
use Rattle.object_model.specs.Lists.{Among}
use Rattle.maps_model.specs.Cluster as maps
use Rattle.whole_model.specs.Whole.{Node}
use Rattle.whole_world.specs.World.{World, IsUp}
use Rattle.whole_world.specs.Steps.{StepOutcome, AreFirstDue}
use Rattle.whole_world.specs.Steps.Step.{ReportTo}
use Rattle.whole_world.specs.Steps.StepOutcome.{NoMemory}
use Rattle.whole_world.specs.Makes.{MakesStep}

-- the users whose rows are due to some manager, in order of names
pub record AreMarked (node : maps.Node) (users : List (List ℕ)) : Type 0 where
  pub in_order : IsStrictlySortedBy (slice_cmp nat_cmp) users
  pub all : (user : List ℕ) → (node.marked user ≡ true) ↔ Among user users

-- Who goes through them in that order finds the first that are due to a manager,
abbrev pub FirstDueAreFound : Type 0
FirstDueAreFound = (to most : ℕ) (node : maps.Node) (users : List (List ℕ)) → AreMarked node users → AreFirstDue to most node (take most (filter (maps.manages_in node.installed to) users))

-- and nothing else is the first that are due.
abbrev pub FirstDueAreOne : Type 0
FirstDueAreOne = (to most : ℕ) (node : maps.Node) (a b : List (List ℕ)) → AreFirstDue to most node a → AreFirstDue to most node b → a ≡ b

-- memory lasted
abbrev pub MemoryLasted : StepOutcome → Type 0
MemoryLasted (NoMemory down) = ⊥
MemoryLasted outcome = Unit {0}

-- As long as memory lasts a Report comes to something, where the rows that are due can be listed,
abbrev pub ReportsGo : Type 0
ReportsGo = (plan : Plan) (tells : Bool) (w : World) (from to : ℕ) → ((node : Node) (disk : List Record) → IsUp w from node disk → (users : List (List ℕ)) × AreMarked node.maps users)
    → (outcome : StepOutcome) × (new : World) × MemoryLasted outcome × MakesStep plan tells w (ReportTo from to) outcome new

-- and to one thing alone.
abbrev pub ReportsAreOne : Type 0
ReportsAreOne = (plan : Plan) (tells : Bool) (w : World) (from to : ℕ) (a b : StepOutcome) (one two : World) → MemoryLasted a → MemoryLasted b
    → MakesStep plan tells w (ReportTo from to) a one → MakesStep plan tells w (ReportTo from to) b two → (a ≡ b) × (one ≡ two)
