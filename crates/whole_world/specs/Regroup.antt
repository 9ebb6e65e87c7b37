-- How a node forms an epoch of all nodes that are up: rounds of letters, and what they come to.
use Rattle.std.specs.Prelude.{◌≡◌, ◌≢◌, ◌≤◌, ℕ, suc, ◌+◌, ◌*◌, Bool, false, List, [], ◌∷◌, length, Option, Some, None}
use Rattle.mail_model.specs.Identity.{EpochId}
use Rattle.mail_model.specs.Plan.{Plan}
use Rattle.object_model.specs.Lists.{Among}
use Rattle.object_model.specs.Letters.{Membership}
use Rattle.cluster_model.specs.Cluster.{set_of_members}
use Rattle.cluster_model.specs.Room.{Flight, octets_flying, most_letters, most_octets}
use Rattle.cluster_model.specs.Thrown.Why.{Old}
use Rattle.cluster_model.specs.Steps.Step.{Post}
use Rattle.cluster_model.specs.Steps.Said.{Thrown, Faulted}
use Rattle.maps_model.specs.Cluster as maps
use Rattle.whole_model.specs.Whole.{Life, Slot, slot_at}
use Rattle.whole_model.specs.Whole.Life.{Up, Down, Lost}
use Rattle.whole_world.specs.World.{World}
use Rattle.whole_world.specs.Steps.{Said}
use Rattle.whole_world.specs.Steps.Step.{OfMessages, OpenGroup, ConcludeGroup}
use Rattle.whole_world.specs.Steps.Said.{Told, Grouped, Concluded}
use Rattle.whole_world.specs.Steps.StepOutcome.{Says}
use Rattle.whole_world.specs.Makes.{MakesStep}
use Rattle.whole_world.specs.Laws.{Stands}

-- the letters that follow this number are posted, so many, one after another, and no disk fails
abbrev pub PostsEach : Plan → Bool → World → ℕ → List Said → World → Type 0
PostsEach plan tells w number [] new = new ≡ w
PostsEach plan tells w number (said ∷ saids) new =
    (mid : World) × MakesStep plan tells w (OfMessages (Post (number + 1) false)) (Says said) mid × ((n : ℕ) → said ≢ Told (Faulted n)) × PostsEach plan tells mid (number + 1) saids new

-- A group is opened; all its Group letters are posted in rising order, and then all Joins that answer them.
pub record Round (plan : Plan) (tells : Bool) (old : World) (n : ℕ) (epoch : EpochId) (saids : List Said) (new : World) : Type 0 where
  pub opened : World
  pub asked : World
  pub answers : List Said
  pub opens : MakesStep plan tells old (OpenGroup n) (Says (Grouped epoch)) opened
  pub asks : PostsEach plan tells opened old.sent saids asked
  pub all_asked : opened.sent ≡ old.sent + length saids
  pub hears : PostsEach plan tells asked opened.sent answers new
  pub all_heard : asked.sent ≡ opened.sent + length answers

abbrev pub ThrownOld : Said
ThrownOld = Told (Thrown Old)

-- The group is concluded, with this epoch and these members, and all its Installs are posted.
pub record ConcludesAll (plan : Plan) (tells : Bool) (old : World) (n : ℕ) (epoch : EpochId) (members : ℕ) (new : World) : Type 0 where
  pub formed : World
  pub concludes : MakesStep plan tells old (ConcludeGroup n) (Says (Concluded epoch members)) formed
  pub installs : List Said
  pub posts : PostsEach plan tells formed old.sent installs new
  pub all_posted : formed.sent ≡ old.sent + length installs

-- A node regroups: a second round follows where a node that is up threw the first as old. Then all is concluded.
pub data Regroups (plan : Plan) (tells : Bool) (old : World) (n : ℕ) (epoch : EpochId) (members : ℕ) (new : World) : Type 0 where
  AtOnce : (opened : EpochId) (saids : List Said) (mid : World) → Round plan tells old n opened saids mid → (Among ThrownOld saids → ⊥)
      → ConcludesAll plan tells mid n epoch members new → Regroups plan tells old n epoch members new
  Again : (first : EpochId) (saids : List Said) (mid : World) → Round plan tells old n first saids mid → Among ThrownOld saids
      → (opened : EpochId) (others : List Said) (last : World) → Round plan tells mid n opened others last
      → ConcludesAll plan tells last n epoch members new → Regroups plan tells old n epoch members new

-- what maps have of a node that is up
abbrev pub maps_in : Life → Option maps.Node
maps_in (Up node) = Some node.maps
maps_in (Down pending) = None
maps_in Lost = None

abbrev pub maps_of_slot : Option Slot → Option maps.Node
maps_of_slot None = None
maps_of_slot (Some slot) = maps_in slot.life

abbrev pub maps_at : World → ℕ → Option maps.Node
maps_at w n = maps_of_slot (slot_at w.slots n)

-- no letter in flight has a number above the last
pub record AreNumbered (w : World) : Type 0 where
  pub each : (flight : Flight) → Among flight w.flying → flight.number ≤ w.sent

-- there is room for so many letters of 64 octets
pub record HasRoomFor (count : ℕ) (flying : List Flight) : Type 0 where
  pub letters : length flying + count ≤ most_letters
  pub octets : octets_flying flying + 64 * count ≤ most_octets

-- The epoch has just the nodes that are up as members, and all have installed it; and these are the members that were told.
pub record HasFormed (epoch : EpochId) (members : ℕ) (old new : World) : Type 0 where
  pub membership : Membership
  pub epoch_is : membership.epoch ≡ epoch
  pub members_are : members ≡ set_of_members membership.members
  pub all_up : (n : ℕ) (node : maps.Node) → maps_at old n ≡ Some node → (now : maps.Node) × (maps_at new n ≡ Some now) × (now.installed ≡ Some membership) × maps.NamesNode membership n now.boot
  pub only_up : (n boot : ℕ) → maps.NamesNode membership n boot → (node : maps.Node) × (maps_at old n ≡ Some node) × (node.boot ≡ boot)

-- where nothing fails and there is room for the letters, a node that regroups forms an epoch of just the nodes that are up
abbrev pub RegroupForms : Type 0
RegroupForms = (plan : Plan) (tells : Bool) (old new : World) (n : ℕ) (epoch : EpochId) (members : ℕ) → Stands plan old → AreNumbered old → HasRoomFor (suc plan.nodes) old.flying
    → Regroups plan tells old n epoch members new → HasFormed epoch members old new
