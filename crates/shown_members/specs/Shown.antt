-- Which membership the nodes of a cluster have installed, as long as no further epoch is formed.
use Rattle.std.specs.Prelude.{◌≡◌, ◌⊎◌, ◌≤◌, ℕ, suc, Bool, List, Some}
use Rattle.mail_model.specs.Identity.{EpochId}
use Rattle.mail_model.specs.Plan.{Plan}
use Rattle.mail_model.specs.Record.{Record}
use Rattle.object_model.specs.Lists.{Among}
use Rattle.object_model.specs.Letters.{Member, Membership, MapRow, Letter}
use Rattle.object_model.specs.Letters.Body.{Install}
use Rattle.cluster_model.specs.Cluster.{set_of_members}
use Rattle.cluster_model.specs.Starts.{first_membership}
use Rattle.cluster_model.specs.World.{letters_of}
use Rattle.maps_model.specs.Cluster as maps
use Rattle.maps_model.specs.Epochs.{IsAtMost}
use Rattle.maps_model.specs.Words.{ManagersAreMembers}
use Rattle.whole_model.specs.Whole.{Node}
use Rattle.whole_world.specs.World.{World, IsUp}
use Rattle.whole_world.specs.Steps.{Step, Said, StepOutcome}
use Rattle.whole_world.specs.Steps.Step.{ConcludeGroup}
use Rattle.whole_world.specs.Steps.StepOutcome.{Says}
use Rattle.whole_world.specs.Makes.{MakesStep, MadeStep, MakesAll}
use Rattle.whole_world.specs.Laws.{Stands}
use Rattle.whole_world.specs.Settled.{IsSettled}
use Rattle.whole_world.specs.First.{first_world}
use Rattle.whole_world.specs.Regroup.{AreNumbered, HasRoomFor, Regroups}

-- An Install of `other` brings no node to it: whichever node is up in a boot that it names is already in g, which is of no earlier epoch.
abbrev pub MovesNobody : World → Membership → Membership → Type 0
MovesNobody w g other = (n : ℕ) (node : Node) (disk : List Record) → IsUp w n node disk → maps.NamesNode other n node.maps.boot → (node.maps.installed ≡ Some g) × IsAtMost other.epoch g.epoch

-- Each node that is up has installed g, or nothing. And each Install in flight is of g, or brings no node to another membership.
pub record ShowsStill (w : World) (g : Membership) : Type 0 where
  pub installed : (n : ℕ) (node : Node) (disk : List Record) → IsUp w n node disk → (h : Membership) → node.maps.installed ≡ Some h → h ≡ g
  pub installs : (letter : Letter) → Among letter (letters_of w.flying) → (other : Membership) → letter.body ≡ Install other → (other ≡ g) ⊎ MovesNobody w g other

-- The step forms no epoch: it is no conclusion of a group, or it is refused, or it runs out of memory.
abbrev pub FormsNoEpoch : Step → StepOutcome → Type 0
FormsNoEpoch step outcome = (n : ℕ) (said : Said) → step ≡ ConcludeGroup n → outcome ≡ Says said → ⊥

-- such a step keeps g shown, whatever comes of it,
abbrev pub StepsShow : Type 0
StepsShow = (plan : Plan) (tells : Bool) (old new : World) (step : Step) (outcome : StepOutcome) (g : Membership) → MakesStep plan tells old step outcome new → FormsNoEpoch step outcome
    → Stands plan old → ShowsStill old g → ShowsStill new g

-- and so do all steps of which each is such a one.
abbrev pub AllStepsShow : Type 0
AllStepsShow = (plan : Plan) (tells : Bool) (old new : World) (steps : List MadeStep) (g : Membership) → MakesAll plan tells old steps new
    → ((made : MadeStep) → Among made steps → FormsNoEpoch made.step made.outcome) → Stands plan old → ShowsStill old g → ShowsStill new g

-- A cluster that opens in its first epoch shows it, with all nodes of the plan as members.
abbrev pub FirstShows : Type 0
FirstShows = (plan : Plan) (map : List MapRow) → 1 ≤ plan.nodes → plan.nodes ≤ 64 → ManagersAreMembers (first_membership plan.nodes map)
    → ShowsStill (first_world plan.nodes map) (first_membership plan.nodes map)

-- the epoch and the members that were told are those of a membership that is shown
pub record IsTold (epoch : EpochId) (members : ℕ) (w : World) : Type 0 where
  pub membership : Membership
  pub epoch_is : membership.epoch ≡ epoch
  pub members_are : members ≡ set_of_members membership.members
  pub shows : ShowsStill w membership

-- Where a node regroups, nothing fails and there is room for the letters, what it tells is shown. Installs of other epochs may still be in flight.
abbrev pub RegroupShows : Type 0
RegroupShows = (plan : Plan) (tells : Bool) (old new : World) (n : ℕ) (epoch : EpochId) (members : ℕ) → Stands plan old → AreNumbered old → HasRoomFor (suc plan.nodes) old.flying
    → Regroups plan tells old n epoch members new → IsTold epoch members new

-- Whatever a node that is up has installed is the membership that is shown. So a settled epoch that has a member is that one.
abbrev pub SettledIsShown : Type 0
SettledIsShown = (w : World) (g : Membership) → ShowsStill w g
    → ((n : ℕ) (node : Node) (disk : List Record) → IsUp w n node disk → (h : Membership) → node.maps.installed ≡ Some h → h ≡ g)
    × ((h : Membership) (member : Member) → Among member h.members → IsSettled w h → h ≡ g)

-- The premise of RegroupShows on numbers of letters: each step keeps it, whatever comes of it.
abbrev pub StepsNumber : Type 0
StepsNumber = (plan : Plan) (tells : Bool) (old new : World) (step : Step) (outcome : StepOutcome) → MakesStep plan tells old step outcome new → AreNumbered old → AreNumbered new
