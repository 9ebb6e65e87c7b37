-- A cluster with all that its nodes do: messages, membership and mail maps as a whole, and calls that read beside them, over the same disks and letters.
use Rattle.std.specs.Prelude.{ℕ, zero, suc, Bool, List, [], ◌∷◌, map, Option, Some, None, slice_get, slice_set}
use Rattle.mail_model.specs.Record.{Record}
use Rattle.mail_model.specs.Book.{BookEntry}
use Rattle.object_model.specs.Sets.{with_node}
use Rattle.object_model.specs.Letters.{Membership, Letter}
use Rattle.maps_model.specs.Cluster as maps
use Rattle.maps_model.specs.Laws.{named}
use Rattle.whole_model.specs.Whole as whole
use Rattle.login_model.specs.Readings.{Reads}
use Rattle.object_model.specs.Locks.{Held}
use Rattle.login_model.specs.Cluster as login

-- the soft state of a node: for messages, membership and maps, its tickets of calls that read, and the locks of the maildrops that it manages
pub record Node : Type 0 where
  pub whole : whole.Node
  pub reads : Reads
  pub locks : Held

pub data Life : Type 0 where
  Up : (node : Node) → Life
  Down : (pending : List Record) → Life
  Lost : Life

pub record Slot : Type 0 where
  pub life : Life
  pub disk : List Record

-- Whether disks tell the octets that they hold is one fact of the whole cluster.
pub record Cluster : Type 0 where
  pub tells : Bool
  pub slots : List Slot
  pub flying : List Letter
  pub book : List BookEntry
  pub story : List (List login.Slot)

-- What messages, membership and maps see.
abbrev pub whole_life : Life → whole.Life
whole_life (Up node) = whole.Life.Up node.whole
whole_life (Down pending) = whole.Life.Down pending
whole_life Lost = whole.Life.Lost

abbrev pub whole_slot : Slot → whole.Slot
whole_slot slot = record { life = whole_life slot.life; disk = slot.disk }

abbrev pub whole_of : Cluster → whole.Cluster
whole_of w = record { slots = map whole_slot w.slots; flying = w.flying; book = w.book }

-- a set of these nodes
abbrev pub nodes_as_set : List ℕ → ℕ
nodes_as_set [] = 0
nodes_as_set (n ∷ nodes) = with_node (nodes_as_set nodes) n

-- whom a node names of a user, and who it says manages the user
abbrev pub user_named_in : maps.Node → List ℕ → Option Membership → ℕ
user_named_in node user None = 0
user_named_in node user (Some membership) = nodes_as_set (named node user membership.members)

abbrev pub user_manager_in : List ℕ → Option Membership → Option ℕ
user_manager_in user None = None
user_manager_in user (Some membership) = maps.manager_of membership user

-- What calls that read see. Locks they do not.
abbrev pub read_node : Bool → Node → login.Node
read_node tells node = record {
  boot = node.whole.mail.boot;
  calls = node.whole.mail.calls;
  epoch = maps.epoch_of node.whole.maps;
  manager = λ user. user_manager_in user node.whole.maps.installed;
  named = λ user. user_named_in node.whole.maps user node.whole.maps.installed;
  reads = node.reads;
  tells = tells;
}

abbrev pub read_life : Bool → Life → login.Life
read_life tells (Up node) = login.Life.Up (read_node tells node)
read_life tells (Down pending) = login.Life.Down
read_life tells Lost = login.Life.Lost

abbrev pub read_slot : Bool → Slot → login.Slot
read_slot tells slot = record { life = read_life tells slot.life; disk = slot.disk }

abbrev pub reads_of : Cluster → login.Cluster
reads_of w = record { slots = map (read_slot w.tells) w.slots; flying = w.flying; story = w.story }

-- the slot of node n, numbered from 1
abbrev pub slot_at : List Slot → ℕ → Option Slot
slot_at slots zero = None
slot_at slots (suc k) = slice_get slots k

abbrev pub with_slot : List Slot → ℕ → Slot → List Slot
with_slot slots zero slot = slots
with_slot slots (suc k) slot = slice_set slots k slot

abbrev pub slot_up : Node → List Record → Slot
slot_up node disk = record { life = Up node; disk = disk }
