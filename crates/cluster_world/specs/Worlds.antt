-- A world of the program: what it holds, and when that stands for a world of the machine.
use Rattle.std.specs.Prelude.{◌≡◌, ℕ, ◌+◌, ◌-◌, ◌^◌, min, Bool, List, Option, Some, None, is_some}
use Rattle.std.specs.List.{list_all}
use Rattle.mail_model.specs.Plan.{Plan}
use Rattle.mail_model.specs.Book.{BookEntry}
use Rattle.session_model.specs.Events.{NodeLife, NodeLife as life}
use Rattle.cluster_model.specs.Cluster as plain
use Rattle.cluster_model.specs.World as machine
use Rattle.joint_model.specs.Joint as joint
use Rattle.node_store.specs.Disks.{View}
use Rattle.node_core.specs.Nodes.{node_seen}
use Rattle.whole_node.specs.Nodes.{joint_seen}
use Rattle.cluster_world.specs.Books.{booked_by}
use Rattle.cluster_world.specs.Flights.{InFlight}
use Rattle.cluster_world.specs.Lives.{life_seen, of_node, CanWorkOn}
use Rattle.cluster_world.specs.Stands.{SlotsStand}
use Rattle.world_book.specs.declared.book.Book.{Book}
use Rattle.cluster_world.specs.declared.life.Life.{Life}
use Rattle.cluster_world.specs.declared.life.Life.TheVariants.{Up}
use Rattle.cluster_world.specs.declared.nodes.Nodes.{Nodes}
use Rattle.cluster_world.specs.declared.world.World.{World}

-- what a world holds: the plan, its nodes with their disks, what is in flight, the seconds and what the book says
pub record WorldState (D : Type 0) : Type 0 where
  pub plan : Plan
  pub lives : List Life
  pub disks : List D
  pub flying : InFlight
  pub seconds : ℕ
  pub book : List BookEntry

abbrev pub state_with : {D : Type 0} → Nodes D → InFlight → ℕ → Book → WorldState D
state_with nodes flying seconds book = record {
  plan = nodes.plan;
  lives = nodes.lives.items;
  disks = nodes.disks.items;
  flying = flying;
  seconds = seconds;
  book = booked_by book;
}

abbrev pub state_of : {D : Type 0} → World D → WorldState D
state_of world = state_with world.nodes world.flying world.seconds world.book

-- the life of a node; whoever is no node of the plan is as one that is lost
abbrev pub seen_life : Option Life → NodeLife
seen_life None = life.Lost
seen_life (Some one) = life_seen one

abbrev pub life_among : {D : Type 0} → Nodes D → ℕ → NodeLife
life_among nodes n = seen_life (of_node nodes.lives.items n)

abbrev pub life_in : {D : Type 0} → WorldState D → ℕ → NodeLife
life_in state n = seen_life (of_node state.lives n)

-- what a node that is up has in memory for messages, in the machine's words
abbrev pub node_of_life : Option Life → Option plain.Node
node_of_life (Some (Up node)) = Some (node_seen node.mail)
node_of_life life = None

abbrev pub node_in : {D : Type 0} → WorldState D → ℕ → Option plain.Node
node_in state n = node_of_life (of_node state.lives n)

-- all that it has in memory: for messages, its maps, its tickets of calls that read and its locks
abbrev pub memory_of_life : Option Life → Option joint.Node
memory_of_life (Some (Up node)) = Some (joint_seen node)
memory_of_life life = None

abbrev pub memory_in : {D : Type 0} → WorldState D → ℕ → Option joint.Node
memory_in state n = memory_of_life (of_node state.lives n)

abbrev pub disk_in : {D : Type 0} → WorldState D → ℕ → Option D
disk_in state n = of_node state.disks n

-- whether all disks tell what they hold
abbrev pub tells_in : {D : Type 0} → (D → Option (List ℕ)) → WorldState D → Bool
tells_in seen state = list_all (λ disk. is_some (seen disk)) state.disks

abbrev pub plan_of : {D : Type 0} → World D → Plan
plan_of world = (state_of world).plan

abbrev pub lives_of : {D : Type 0} → World D → List Life
lives_of world = (state_of world).lives

-- the disks of the nodes, in order
abbrev pub disks_of : {D : Type 0} → World D → List D
disks_of world = (state_of world).disks

abbrev pub disk_of_node : {D : Type 0} → World D → ℕ → Option D
disk_of_node world n = disk_in (state_of world) n

abbrev pub life_of : {D : Type 0} → World D → ℕ → NodeLife
life_of world n = life_in (state_of world) n

abbrev pub disks_tell : {D : Type 0} → (D → Option (List ℕ)) → World D → Bool
disks_tell seen world = tells_in seen (state_of world)

-- what the book says
abbrev pub book_of : {D : Type 0} → World D → List BookEntry
book_of world = (state_of world).book

-- how many steps it was asked for, also those that it refused; the count stays at its type's end
abbrev pub steps_of : {D : Type 0} → World D → ℕ
steps_of world = world.steps

abbrev pub one_more : ℕ → ℕ
one_more steps = min (steps + 1) (2 ^ 64 - 1)

-- What a world needs for its steps, and each of them keeps: a node that is up is its node of the plan, and can work with its disk.
abbrev pub CanMakeSteps : {D : Type 0} → (D → Option (List ℕ)) → World D → Type 0
CanMakeSteps seen world = CanWorkOn seen (plan_of world) (lives_of world) (disks_of world)

-- It stands for a world of the machine: nodes and disks for slots, letters, numbers, seconds and book as they are.
pub record StateStandsFor {D : Type 0} (on : View D) (state : WorldState D) (w : machine.World) : Type 0 where
  pub slots : SlotsStand on state.lives state.disks w.slots
  pub flying : state.flying.flights ≡ w.flying
  pub sent : state.flying.sent ≡ w.sent
  pub seconds : state.seconds ≡ w.seconds
  pub book : state.book ≡ w.book

abbrev pub StandsFor : {D : Type 0} → View D → World D → machine.World → Type 0
StandsFor on world w = StateStandsFor on (state_of world) w
