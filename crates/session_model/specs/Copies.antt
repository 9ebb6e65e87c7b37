-- What the records of nodes say of users' copies of messages. Where the store of a node tells what it holds, these are the records that it spells, and no others.
use Rattle.std.specs.Prelude.{◌≡◌, ◌⊎◌, ℕ, ◌+◌, ◌-◌, ◌≤◌, List, [], ◌∷◌, length, ⊤, All, Option, Some, IfSome, slice_get}
use Rattle.mail_model.specs.Identity.{Id, Stamp}
use Rattle.mail_model.specs.Identity.Key.{Message}
use Rattle.mail_model.specs.Identity.Value.{Here}
use Rattle.mail_model.specs.Plan.{Plan}
use Rattle.mail_model.specs.Tape.Protocol.{Smtp}
use Rattle.mail_model.specs.Mail.{IsStored}
use Rattle.mail_model.specs.Record.{Record, IsAmongRecords, IsJournal, payloads_of, SaysHere, SaysGone, HoldsOctets}
use Rattle.mail_model.specs.Record.Record.{Octets, Stated}
use Rattle.mail_model.specs.Grammar.{IsRecord}
use Rattle.mail_model.specs.Stored.{Ack, AreRising, opened, kind_at, IsOnClock}
use Rattle.mail_model.specs.Book.{BookEntry}
use Rattle.mail_model.specs.Book.BookEntry.{Dropped}
use Rattle.mail_model.specs.Deleted.{mask_of}

-- The stores of the nodes from this one on are the journals of these records, each in the grammar.
abbrev pub AreDisks : ℕ → List (Option (List ℕ)) → List (List Record) → Type 0
AreDisks node [] [] = ⊤
AreDisks node (told ∷ stores) (records ∷ disks) =
    All IsRecord records × IfSome told (λ octets. IsJournal node octets (payloads_of records)) × AreDisks (node + 1) stores disks
AreDisks node stores disks = ⊥

-- This is so of the records of the node. A node that is lost for good is none of a kind of its own: its store is given back as it was when the node was lost.
abbrev pub OnNode : List (List Record) → (List Record → Type 0) → ℕ → Type 0
OnNode disks is_so node = (records : List Record) × (slice_get disks (node - 1) ≡ Some records) × is_so records

-- nodes of the plan, each another one, as many as it confirms or more
pub record AreConfirmers (plan : Plan) (nodes : List ℕ) : Type 0 where
  pub rising : AreRising 0 nodes plan.nodes
  pub enough : plan.confirm ≤ length nodes

-- it is so on each of such nodes
pub record OnEnough (plan : Plan) (disks : List (List Record)) (is_so : List Record → Type 0) (nodes : List ℕ) : Type 0 where
  pub are : AreConfirmers plan nodes
  pub each : All (OnNode disks is_so) nodes

-- the user's copy of the message is here with its octets, or its owner deleted it
abbrev pub KeepsCopy : Ack → List ℕ → List Record → Type 0
KeepsCopy ack user records =
    (SaysHere (Message user ack.id) records × ((octets : List ℕ) × IsStored ack.mail ack.id ack.seconds octets × HoldsOctets ack.id octets records))
    ⊎ SaysGone (Message user ack.id) records

-- A message that was acknowledged, under an id of the node of its session and with seconds of the clock: on each of these nodes the copy of each of its users is so.
pub record Stands (plan : Plan) (lines : List (List ℕ)) (disks : List (List Record)) (ack : Ack) (nodes : List ℕ) : Type 0 where
  pub at_node : kind_at (opened lines) ack.session ≡ Some (Smtp, ack.id.node)
  pub at_clock : IsOnClock lines ack.seconds
  pub copies : All (λ user. OnEnough plan disks (KeepsCopy ack user) nodes) ack.mail.mailboxes

-- each message stands so, on the nodes that confirmed it
abbrev pub EachStands : Plan → List (List ℕ) → List (List Record) → List Ack → List (List ℕ) → Type 0
EachStands plan lines disks [] confirmers = ⊤
EachStands plan lines disks (ack ∷ acks) [] = ⊥
EachStands plan lines disks (ack ∷ acks) (nodes ∷ confirmers) = Stands plan lines disks ack nodes × EachStands plan lines disks acks confirmers

-- the user's copy is gone on these nodes
abbrev pub AreGoneOn : Plan → List (List Record) → List ℕ → Id → List ℕ → Type 0
AreGoneOn plan disks user id nodes = OnEnough plan disks (SaysGone (Message user id)) nodes

-- Each copy whose deletion the book says was confirmed is gone on each node that confirmed it, and these are as many as the plan confirms or more.
abbrev pub DroppedAreGone : Plan → List (List Record) → List BookEntry → Type 0
DroppedAreGone plan disks [] = ⊤
DroppedAreGone plan disks (Dropped user id confirmers ∷ book) =
    ((nodes : List ℕ) × (confirmers ≡ mask_of nodes) × AreGoneOn plan disks user id nodes) × DroppedAreGone plan disks book
DroppedAreGone plan disks (entry ∷ book) = DroppedAreGone plan disks book

-- Some node has a record that says that the user's copy of the message is here. It may have another that says that the copy is gone.
pub record HasRecordOf (disks : List (List Record)) (user : List ℕ) (id : Id) : Type 0 where
  pub n : ℕ
  pub records : List Record
  pub at : slice_get disks n ≡ Some records
  pub stamp : Stamp
  pub targets : ℕ
  pub says : IsAmongRecords (Stated (Message user id) (record { value = Here; stamp = stamp; targets = targets })) records

-- All octets that some node has of a message are those that are filed: no two nodes have other octets under one id.
abbrev pub OneContent : (Id → Option (List ℕ)) → List (List Record) → Type 0
OneContent filed disks = (n : ℕ) (records : List Record) (id : Id) (octets : List ℕ) → slice_get disks n ≡ Some records → IsAmongRecords (Octets id octets) records → filed id ≡ Some octets
