-- Mishaps of letters, noted at their tickets.
use Rattle.mail_model.specs.Plan.{Plan}
use Rattle.std.specs.Prelude.{◌≡◌, ℕ, List, [], ◌∷◌, Option, Some}
use Rattle.whole_node.specs.declared.node.WholeNode.{WholeNode}
use Rattle.object_model.specs.Letters.{Letter}
use Rattle.object_model.specs.Mishaps.{MishapKind}
use Rattle.cluster_model.specs.Cluster as plain
use Rattle.cluster_model.specs.World.{missed}
use Rattle.node_store.specs.Disks.{View}
use Rattle.cluster_world.specs.Lives.{of_node, all_falls_left, CanWorkOn}
use Rattle.cluster_world.specs.Keeping.{HasSameReads}
use Rattle.cluster_world.specs.Stands.{SlotsStand}
use Rattle.cluster_world.specs.Worlds.{seen_life}
use Rattle.object_model.specs.Mishaps.MishapKind.{Crowded}
use Rattle.cluster_world.specs.Flights.{InFlight, put_down, taken_out}
use Rattle.cluster_world.specs.declared.life.Life.TheVariants.{Up}
use Rattle.cluster_world.specs.declared.nodes.Nodes.{Nodes}

-- a mishap of each of these letters
abbrev pub all_missed : MishapKind → List plain.Slot → List Letter → List plain.Slot
all_missed kind slots [] = slots
all_missed kind slots (letter ∷ letters) = all_missed kind (missed kind slots letter) letters

-- Tickets may have changed, and nothing else that is told of nodes: the slots that they stand for became these.
pub record OnlyTickets {D : Type 0} (on : View D) (change : List plain.Slot → List plain.Slot) (old new : Nodes D) : Type 0 where
  pub plan : new.plan ≡ old.plan
  pub disks : new.disks.items ≡ old.disks.items
  pub lives : (n : ℕ) → seen_life (of_node new.lives.items n) ≡ seen_life (of_node old.lives.items n)
  pub maps : (n : ℕ) (a b : WholeNode) → of_node old.lives.items n ≡ Some (Up a) → of_node new.lives.items n ≡ Some (Up b) → b.maps ≡ a.maps
  pub beside : (n : ℕ) (a b : WholeNode) → of_node old.lives.items n ≡ Some (Up a) → of_node new.lives.items n ≡ Some (Up b) → HasSameReads a b
  pub falls : all_falls_left new.lives.items ≡ all_falls_left old.lives.items
  pub slots : (slots : List plain.Slot) → SlotsStand on old.lives.items old.disks.items slots → SlotsStand on new.lives.items new.disks.items (change slots)

-- Tickets changed so, and each node that is up can work.
pub record Noticed {D : Type 0} (on : View D) (plan : Plan) (change : List plain.Slot → List plain.Slot) (old new : Nodes D) : Type 0 where
  pub only : OnlyTickets on change old new
  pub works : CanWorkOn on.seen plan new.lives.items new.disks.items

-- These letters are in flight, as far as there is room, and the mishaps of the others are noted; one was taken out before, if it is named.
pub record SentOff {D : Type 0} (on : View D) (plan : Plan) (letters : List Letter) (posted : Option ℕ) (flying flying' : InFlight) (old new : Nodes D) : Type 0 where
  pub flies : flying' ≡ (put_down letters (taken_out posted flying)).flying
  pub noticed : Noticed on plan (λ slots. all_missed Crowded slots (put_down letters (taken_out posted flying)).left) old new
