-- What becomes of tickets of calls that read, and of locks, in a step of the whole machine.
use Rattle.std.specs.Prelude.{◌≡◌, ℕ, true, false, Some, if◌then◌else◌}
use Rattle.std.specs.FinMap as map
use Rattle.object_model.specs.Keys.{is_same_epoch}
use Rattle.object_model.specs.Letters.{Number, is_read_body}
use Rattle.cluster_model.specs.Cluster.{slot_at as slot_of}
use Rattle.cluster_model.specs.Steps as mail
use Rattle.cluster_model.specs.Steps.NodeCall.{Deliver, Strike}
use Rattle.cluster_model.specs.Steps.Step.{Begin, AskFor, GiveUp, Post, DropLetter}
use Rattle.cluster_model.specs.World as mail_world
use Rattle.maps_model.specs.Cluster.{epoch_of}
use Rattle.whole_world.specs.Steps as whole
use Rattle.whole_world.specs.Steps.Step.{OfMessages}
use Rattle.object_model.specs.Locks.{Held, no_locks}
use Rattle.joint_model.specs.Joint.{Node, Life, Slot, slot_at}
use Rattle.joint_model.specs.Joint.Life.{Up, Down, Lost}
use Rattle.joint_world.specs.World.{World, mail_world_of}

-- the locks of a node once it did something: where it has installed another epoch they are let go
abbrev pub locks_after : Node → Node → Held
locks_after before after = if is_same_epoch (epoch_of before.whole.maps) (epoch_of after.whole.maps) then before.locks else no_locks

-- A node that stays up keeps its tickets, and one that starts has no tickets and no locks.
abbrev pub KeepsReads : Life → Node → Type 0
KeepsReads (Up before) after = (after.reads ≡ before.reads) × (after.locks ≡ locks_after before after)
KeepsReads (Down pending) after = (after.reads ≡ map.empty) × (after.locks ≡ no_locks)
KeepsReads Lost after = (after.reads ≡ map.empty) × (after.locks ≡ no_locks)

pub record ReadsStay (old new : World) : Type 0 where
  pub each : (n : ℕ) (before after : Slot) → slot_at old.slots n ≡ Some before → slot_at new.slots n ≡ Some after → (node : Node) → after.life ≡ Up node → KeepsReads before.life node

-- the calls of messages
abbrev pub IsMailCall : mail.NodeCall → Type 0
IsMailCall (Deliver mail) = Unit {0}
IsMailCall (Strike user items) = Unit {0}
IsMailCall call = ⊥

-- a ticket of messages stands under the number
abbrev pub HasMailTicket : mail_world.World → Number → Type 0
HasMailTicket w number = mail.stands_at number (slot_of w.slots number.node) ≡ true

-- A step is none of calls that read: it begins no such call, asks for no ticket of one and gives none up, and does nothing to a letter of one.
abbrev pub IsForMail : mail_world.World → mail.Step → Type 0
IsForMail w (Begin node call) = IsMailCall call
IsForMail w (AskFor number) = HasMailTicket w number
IsForMail w (GiveUp number) = HasMailTicket w number
IsForMail w (Post number keep) = (flies : mail_world.Flies w number) → is_read_body flies.letter.body ≡ false
IsForMail w (DropLetter number) = (flies : mail_world.Flies w number) → is_read_body flies.letter.body ≡ false
IsForMail w step = Unit {0}

abbrev pub IsForWhole : World → whole.Step → Type 0
IsForWhole w (OfMessages step) = IsForMail (mail_world_of w) step
IsForWhole w step = Unit {0}
