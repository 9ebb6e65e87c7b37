-- A cluster as a whole: each node has what it needs for messages, and what it needs for membership and mail maps, over one disk. Letters and disks are the same for both.
use Rattle.std.specs.Prelude.{ℕ, zero, suc, Bool, false, ◌&&◌, ◌||◌, List, [], ◌∷◌, ◌++◌, map, Option, Some, None, slice_get, slice_set, nat_eq}
use Rattle.std.specs.Cmp.Lexicographic.{pointwise}
use Rattle.mail_model.specs.Identity.{EpochId, Key, State, no_epoch}
use Rattle.mail_model.specs.Identity.Key.{Profile, Message}
use Rattle.mail_model.specs.Record.{Record}
use Rattle.mail_model.specs.Record.Record.{Boot, Promise, Octets, Stated, Retired}
use Rattle.mail_model.specs.Listing.{is_here}
use Rattle.mail_model.specs.Book.{BookEntry}
use Rattle.object_model.specs.Said.{said}
use Rattle.object_model.specs.Letters.{Letter}
use Rattle.cluster_model.specs.Claims.{boot_of}
use Rattle.cluster_model.specs.Cluster as mail
use Rattle.maps_model.specs.Cluster as maps

-- the soft state of a node: for messages, and for membership and maps
pub record Node : Type 0 where
  pub mail : mail.Node
  pub maps : maps.Node

pub data Life : Type 0 where
  Up : (node : Node) → Life
  Down : (pending : List Record) → Life
  Lost : Life

pub record Slot : Type 0 where
  pub life : Life
  pub disk : List Record

pub record Cluster : Type 0 where
  pub slots : List Slot
  pub flying : List Letter
  pub book : List BookEntry

-- the promise of the last Promise record
abbrev pub promise_after : EpochId → List Record → EpochId
promise_after promise [] = promise
promise_after promise (Promise epoch ∷ records) = promise_after epoch records
promise_after promise (Boot boot ∷ records) = promise_after promise records
promise_after promise (Octets id octets ∷ records) = promise_after promise records
promise_after promise (Stated key state ∷ records) = promise_after promise records
promise_after promise (Retired key state ∷ records) = promise_after promise records

abbrev pub promise_of : List Record → EpochId
promise_of records = promise_after no_epoch records

-- whether a state that is held is here
abbrev pub is_held_here : Option State → Bool
is_held_here None = false
is_held_here (Some state) = is_here state.value

-- whether a key is of a copy of the user that `all` says is here
abbrev pub shows_here : List ℕ → List Record → Key → Bool
shows_here user all (Profile name) = false
shows_here user all (Message name id) = pointwise nat_eq name user && is_held_here (said (Message name id) all)

-- whether some record of these is of such a copy
abbrev pub some_here : List ℕ → List Record → List Record → Bool
some_here user all [] = false
some_here user all (Stated key state ∷ records) = shows_here user all key || some_here user all records
some_here user all (Boot boot ∷ records) = some_here user all records
some_here user all (Promise epoch ∷ records) = some_here user all records
some_here user all (Octets id octets ∷ records) = some_here user all records
some_here user all (Retired key state ∷ records) = some_here user all records

-- whether the disk says that some copy of the user is here
abbrev pub holds_of : List Record → List ℕ → Bool
holds_of records user = some_here user records records

-- what membership and maps see of a disk
abbrev pub maps_disk_of : List Record → maps.Disk
maps_disk_of records = record { boot = boot_of records; promise = promise_of records; holds = holds_of records }

-- What messages see of a life and of a slot, and what membership and maps see.
abbrev pub mail_life : Life → mail.Life
mail_life (Up node) = mail.Life.Up node.mail
mail_life (Down pending) = mail.Life.Down pending
mail_life Lost = mail.Life.Lost

abbrev pub mail_slot : Slot → mail.Slot
mail_slot slot = record { life = mail_life slot.life; disk = slot.disk }

abbrev pub maps_life : List Record → Life → maps.Life
maps_life disk (Up node) = maps.Life.Up node.maps
maps_life disk (Down pending) = maps.Life.Down (maps_disk_of (disk ++ pending))
maps_life disk Lost = maps.Life.Lost

abbrev pub maps_slot : Slot → maps.Slot
maps_slot slot = record { life = maps_life slot.disk slot.life; disk = maps_disk_of slot.disk }

abbrev pub mail_part_of : Cluster → mail.Cluster
mail_part_of w = record { slots = map mail_slot w.slots; flying = w.flying; book = w.book }

abbrev pub maps_of : Cluster → maps.Cluster
maps_of w = record { slots = map maps_slot w.slots; flying = w.flying }

-- the slot of node n, numbered from 1
abbrev pub slot_at : List Slot → ℕ → Option Slot
slot_at slots zero = None
slot_at slots (suc k) = slice_get slots k

abbrev pub with_slot : List Slot → ℕ → Slot → List Slot
with_slot slots zero slot = slots
with_slot slots (suc k) slot = slice_set slots k slot
