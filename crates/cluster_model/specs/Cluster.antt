-- A cluster of several nodes as the invariant sees it: lives, disks, letters in flight and the book.
use Rattle.std.specs.Prelude.{ℕ, zero, suc, List, [], ◌∷◌, Option, Some, None, slice_get, slice_set}
use Rattle.std.specs.Ordering.{nat_cmp}
use Rattle.std.specs.FinMap as map
use Rattle.mail_model.specs.Identity.{Id, EpochId, no_epoch}
use Rattle.mail_model.specs.Record.{Record}
use Rattle.mail_model.specs.Book.{BookEntry}
use Rattle.object_model.specs.Sets.{with_node}
use Rattle.object_model.specs.UpdateLog.{Log}
use Rattle.object_model.specs.Mishaps.{Mishaps}
use Rattle.object_model.specs.Letters.{Member, Membership, Letter}

-- A message that was filed: its id, its users, the seconds at which it came, and the number and SHA-256 of its octets.
pub record NodeFiling : Type 0 where
  pub id : Id
  pub users : List (List ℕ)
  pub seconds : ℕ
  pub size : ℕ
  pub digest : List ℕ

-- what a ticket asks of nodes: copies of a message, or one deletion
pub data AskedOfNodes : Type 0 where
  Copies : (filing : NodeFiling) → AskedOfNodes
  Deletion : (user : List ℕ) (id : Id) → AskedOfNodes

-- something that is asked, with its targets by how they answered
pub record Want : Type 0 where
  pub asked : AskedOfNodes
  pub confirmed : ℕ
  pub waiting : ℕ
  pub failed : ℕ

-- the kinds of call that have a ticket
pub data CallKind : Type 0 where
  Delivering : CallKind
  LoggingIn : CallKind
  Fetching : CallKind
  Striking : CallKind

-- A Deliver has one want, and a Strike one for each of its items. A call that failed at once has none. One that reads has no ticket here, unless it failed at once.
pub record Ticket : Type 0 where
  pub kind : CallKind
  pub wants : List Want
  pub mishaps : Mishaps

abbrev pub Tickets : Type 0
Tickets = map.FinMap nat_cmp Ticket

-- The soft state of a node: its boot, the greatest numbers that it drew or knows of messages, of stamps and of tickets, the epoch that it has installed,
-- its log and its tickets.
pub record Node : Type 0 where
  pub boot : ℕ
  pub drawn : ℕ
  pub count : ℕ
  pub calls : ℕ
  pub installed : Option Membership
  pub log : Log
  pub tickets : Tickets

-- A node that is down has no soft state. Where an append failed, the next start keeps or loses what is pending.
pub data Life : Type 0 where
  Up : (node : Node) → Life
  Down : (pending : List Record) → Life
  Lost : Life

-- a node and its disk
pub record Slot : Type 0 where
  pub life : Life
  pub disk : List Record

pub record Cluster : Type 0 where
  pub slots : List Slot
  pub flying : List Letter
  pub book : List BookEntry

-- the slot of node n, numbered from 1
abbrev pub slot_at : List Slot → ℕ → Option Slot
slot_at slots zero = None
slot_at slots (suc k) = slice_get slots k

abbrev pub with_slot : List Slot → ℕ → Slot → List Slot
with_slot slots zero slot = slots
with_slot slots (suc k) slot = slice_set slots k slot

abbrev pub log_of : Life → Log
log_of (Up node) = node.log
log_of (Down pending) = map.empty
log_of Lost = map.empty

abbrev pub tickets_of : Life → Tickets
tickets_of (Up node) = node.tickets
tickets_of (Down pending) = map.empty
tickets_of Lost = map.empty

-- what the disk of such a node may hold beyond what it surely holds
abbrev pub pending_of : Life → List Record
pending_of (Up node) = []
pending_of (Down pending) = pending
pending_of Lost = []

-- the epoch that a node has installed
abbrev pub epoch_in : Option Membership → EpochId
epoch_in None = no_epoch
epoch_in (Some membership) = membership.epoch

abbrev pub epoch_of : Node → EpochId
epoch_of node = epoch_in node.installed

-- the members of that epoch, as a set
abbrev pub set_of_members : List Member → ℕ
set_of_members [] = 0
set_of_members (member ∷ members) = with_node (set_of_members members) member.node

abbrev pub members_in : Option Membership → ℕ
members_in None = 0
members_in (Some membership) = set_of_members membership.members

abbrev pub members_of : Node → ℕ
members_of node = members_in node.installed
