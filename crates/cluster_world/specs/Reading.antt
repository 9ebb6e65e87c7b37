-- What nodes do for calls that read, as worlds with all that nodes keep have it.
use Rattle.std.specs.Prelude.{◌≡◌, ◌≤◌, ◌<◌, ◌⊎◌, ℕ, suc, ◌+◌, Bool, List, [], ◌∷◌, ◌++◌, length, map, Option, Some, None}
use Rattle.object_model.specs.Letters.{Number, Letter}
use Rattle.object_model.specs.Lists.{Among}
use Rattle.object_model.specs.Mishaps.{MishapKind}
use Rattle.cluster_model.specs.Room.{Flight}
use Rattle.whole_model.specs.Whole.{mail_slot}
use Rattle.login_model.specs.Facts.{far_end}
use Rattle.joint_model.specs.Joint as joint
use Rattle.joint_model.specs.Joint.{whole_slot}
use Rattle.joint_world.specs.World.{World}
use Rattle.joint_world.specs.Putting.{put, missed, Puts}
use Rattle.joint_world.specs.Ending.{chances_in}
use Rattle.node_store.specs.Disks.{View}
use Rattle.node_reads.specs.Readings.{listed}
use Rattle.whole_node.specs.Nodes.{WholeWorks, joint_seen}
use Rattle.whole_node.specs.ReadTickets.{BefallsRead}
use Rattle.cluster_world.specs.Flights.{InFlight, AreAbove}
use Rattle.cluster_world.specs.Lives.{of_node, all_falls_left, CanWorkOn}
use Rattle.cluster_world.specs.Maps.{AreMaps, AreReads}
use Rattle.cluster_world.specs.Noting.{LifeChanges}
use Rattle.cluster_world.specs.Stands.{SlotsStand}
use Rattle.cluster_world.specs.Worlds.{seen_life}
use Rattle.cluster_world.specs.declared.life.Life.{Life}
use Rattle.cluster_world.specs.declared.life.Life.TheVariants.{Up, Down, Lost}
use Rattle.cluster_world.specs.declared.nodes.Nodes.{Nodes}
use Rattle.cluster_world.specs.declared.roomy.Roomy.{Roomy}

-- nodes with their disks stand for slots with all that they keep
pub record AllStand {D : Type 0} (on : View D) (lives : List Life) (disks : List D) (slots : List joint.Slot) : Type 0 where
  pub mail : SlotsStand on lives disks (map mail_slot (map whole_slot slots))
  pub maps : AreMaps lives (map whole_slot slots)
  pub reads : AreReads lives slots

-- so with the letters in flight for a world
pub record StandsFlying {D : Type 0} (on : View D) (nodes : Nodes D) (flying : InFlight) (v : World) : Type 0 where
  pub all : AllStand on nodes.lives.items nodes.disks.items v.slots
  pub flies : flying.flights ≡ v.flying
  pub sent : flying.sent ≡ v.sent

-- Nodes go on with the disks that they had, as far as anybody is told; and what the book may need is as much.
pub record StaysBeside {D : Type 0} (seen : D → Option (List ℕ)) (old new : Nodes D) : Type 0 where
  pub plan : new.plan ≡ old.plan
  pub disks : new.disks.items ≡ old.disks.items
  pub lives : (n : ℕ) → seen_life (of_node new.lives.items n) ≡ seen_life (of_node old.lives.items n)
  pub falls : all_falls_left new.lives.items ≡ all_falls_left old.lives.items
  pub works : CanWorkOn seen old.plan old.lives.items old.disks.items → CanWorkOn seen new.plan new.lives.items new.disks.items

-- a node that is up notes a mishap of a letter to or from node `at` at the ticket, and may send a letter for it
abbrev pub LifeBefell : MishapKind → ℕ → Number → Option Letter → Life → Life → Type 0
LifeBefell kind at number out (Up old) (Up new) = BefallsRead kind at number out old new × (new.mail ≡ old.mail) × ((seen : Option (List ℕ)) → WholeWorks seen old → WholeWorks seen new)
LifeBefell kind at number out Down Down = out ≡ None
LifeBefell kind at number out Lost Lost = out ≡ None
LifeBefell kind at number out old new = ⊥

-- the ticket's node does, where there is one
abbrev pub LivesBefell : MishapKind → ℕ → Number → Option Letter → List Life → List Life → Type 0
LivesBefell kind at number out old new = ((length old < number.node) × (new ≡ old) × (out ≡ None)) ⊎ LifeChanges (LifeBefell kind at number out) number.node old new

-- so a mishap of a letter of a call that reads is noted, where it has a ticket
abbrev pub BefellUnder : MishapKind → Letter → Option Number → Option Letter → List Life → List Life → Type 0
BefellUnder kind letter None out old new = (new ≡ old) × (out ≡ None)
BefellUnder kind letter (Some number) out old new = LivesBefell kind (far_end letter number) number out old new

-- how many letters mishaps may still send for the ticket
abbrev pub chances_of_life : Number → Option Life → ℕ
chances_of_life number (Some (Up node)) = chances_in number (joint.Life.Up (joint_seen node))
chances_of_life number life = 0

abbrev pub chances_for : List Life → Option Number → ℕ
chances_for lives None = 0
chances_for lives (Some number) = chances_of_life number (of_node lives number.node)

-- each of these letters is of this ticket, or of none
abbrev pub AreFor : Option Number → List Letter → Type 0
AreFor ticket letters = (letter : Letter) → Among letter letters → (letter.ticket ≡ None) ⊎ (letter.ticket ≡ ticket)

-- A mishap of a letter was noted, and may have sent one: it is what the machine does with each world that these nodes stand for.
pub record HasBefallen {D : Type 0} (on : View D) (kind : MishapKind) (letter : Letter) (out : Option Letter) (old new : Nodes D) : Type 0 where
  pub beside : StaysBeside on.seen old new
  pub none : letter.ticket ≡ None → out ≡ None
  pub each : (tells : Bool) (slots : List joint.Slot) → AllStand on old.lives.items old.disks.items slots
      → AllStand on new.lives.items new.disks.items (missed tells kind slots letter).slots × (listed out ≡ (missed tells kind slots letter).out)
  pub fewer : (ticket : Option Number) → (letter.ticket ≡ None) ⊎ (letter.ticket ≡ ticket)
      → AreFor ticket (listed out) × (length (listed out) + chances_for new.lives.items ticket ≤ chances_for old.lives.items ticket)

-- what flies is what flew, and letters of higher numbers
pub record FliesOn (old new : InFlight) : Type 0 where
  pub more : List Flight
  pub is : new.flights ≡ old.flights ++ more
  pub above : AreAbove old.sent more
  pub later : old.sent ≤ new.sent

-- One look at a queue: its first letter is in flight, or its mishap is noted, and what that sends is to come behind the queue.
pub record LooksAt {D : Type 0} (on : View D) (letter : Letter) (out : Option Letter) (old : Nodes D) (flying : InFlight) (new : Nodes D) (flying' : InFlight) : Type 0 where
  pub beside : StaysBeside on.seen old new
  pub flies : FliesOn flying flying'
  pub each : (tells : Bool) (v : World) → StandsFlying on old flying v
      → (next : World) × StandsFlying on new flying' next
      × ((fuel : ℕ) (queue : List Letter) → put tells (suc fuel) (letter ∷ queue) v ≡ put tells fuel (queue ++ listed out) next)
  pub fewer : (ticket : Option Number) → (letter.ticket ≡ None) ⊎ (letter.ticket ≡ ticket)
      → AreFor ticket (listed out) × (length (listed out) + chances_for new.lives.items ticket ≤ chances_for old.lives.items ticket)

-- The letters are put in flight from a queue: of each world that these nodes stand for.
pub record PutsQueue {D : Type 0} (on : View D) (queue : List Letter) (old : Nodes D) (flying : InFlight) (new : Nodes D) (flying' : InFlight) : Type 0 where
  pub beside : StaysBeside on.seen old new
  pub flies : FliesOn flying flying'
  pub each : (tells : Bool) (v : World) → StandsFlying on old flying v
      → (next : World) × StandsFlying on new flying' next × Puts tells queue v next

-- what is in flight, taken out of a world as long as a step goes on
abbrev pub flying_of : Roomy → InFlight
flying_of roomy = record { flights = roomy.flights.items; sent = roomy.sent }

-- the ticket of the first of these letters that has one
abbrev pub ticket_under : Option Number → Option Number → Option Number
ticket_under None rest = rest
ticket_under (Some number) rest = Some number

abbrev pub ticket_among : List Letter → Option Number
ticket_among [] = None
ticket_among (letter ∷ letters) = ticket_under letter.ticket (ticket_among letters)

-- they are of one ticket, or of none
abbrev pub AreOfOne : List Letter → Type 0
AreOfOne letters = AreFor (ticket_among letters) letters
