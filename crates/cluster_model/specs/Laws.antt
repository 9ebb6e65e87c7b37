-- What holds of a cluster whatever moves are made.
use Rattle.std.specs.Prelude.{◌≡◌, ◌⊎◌, ◌≤◌, ℕ, true, List, length, Some}
use Rattle.sha2.specs.Sha256.{sha256}
use Rattle.mail_model.specs.Identity.{Id}
use Rattle.mail_model.specs.Identity.Key.{Message}
use Rattle.mail_model.specs.Record.{SaysHere, SaysGone, HoldsOctets}
use Rattle.mail_model.specs.Book.{Acked}
use Rattle.mail_model.specs.Book.BookEntry.{Acknowledged, Struck, Dropped}
use Rattle.object_model.specs.Sets.{has, count_in}
use Rattle.object_model.specs.Lists.{Among}
use Rattle.cluster_model.specs.Cluster.{Slot, Cluster, slot_at}
use Rattle.cluster_model.specs.Moves.{Move, after_moves, MayMoves}
use Rattle.cluster_model.specs.Parts.{Sound}

-- whatever moves are made, a sound cluster stays sound
abbrev pub MovesKeepSound : Type 0
MovesKeepSound = (confirm : ℕ) (w : Cluster) (moves : List Move) → MayMoves confirm moves w → Sound confirm w → Sound confirm (after_moves moves w)

-- node m has the copy with its octets
pub record HasCopyOf (copy : Acked) (slots : List Slot) (m : ℕ) : Type 0 where
  pub slot : Slot
  pub here : slot_at slots m ≡ Some slot
  pub stands : SaysHere (Message copy.user copy.id) slot.disk × ((octets : List ℕ) × HoldsOctets copy.id octets slot.disk × (copy.size ≡ length octets) × (copy.digest ≡ sha256 octets))

-- Each copy that the book says was acknowledged and never struck is here with its octets on each confirmer, and F nodes confirmed it at least. The disk of a node that
-- is lost stays as it was when it was lost.
abbrev pub AcknowledgedStand : Type 0
AcknowledgedStand = (confirm : ℕ) (w : Cluster) → Sound confirm w → (copy : Acked) → Among (Acknowledged copy) w.book → (Among (Struck copy.user copy.id) w.book → ⊥)
    → (confirm ≤ count_in copy.confirmers) × ((m : ℕ) → has copy.confirmers m ≡ true → HasCopyOf copy w.slots m)

-- node m has the copy with its octets, or says that it is gone
pub record KeepsCopyOf (copy : Acked) (slots : List Slot) (m : ℕ) : Type 0 where
  pub slot : Slot
  pub here : slot_at slots m ≡ Some slot
  pub stands : (SaysHere (Message copy.user copy.id) slot.disk
      × ((octets : List ℕ) × HoldsOctets copy.id octets slot.disk × (copy.size ≡ length octets) × (copy.digest ≡ sha256 octets)))
      ⊎ SaysGone (Message copy.user copy.id) slot.disk

-- Each copy that was acknowledged, struck or not, is here with its octets or gone on each confirmer.
abbrev pub AcknowledgedKept : Type 0
AcknowledgedKept = (confirm : ℕ) (w : Cluster) → Sound confirm w → (copy : Acked) → Among (Acknowledged copy) w.book
    → (confirm ≤ count_in copy.confirmers) × ((m : ℕ) → has copy.confirmers m ≡ true → KeepsCopyOf copy w.slots m)

-- node m says that the copy is gone
pub record LacksCopy (user : List ℕ) (id : Id) (slots : List Slot) (m : ℕ) : Type 0 where
  pub slot : Slot
  pub here : slot_at slots m ≡ Some slot
  pub stands : SaysGone (Message user id) slot.disk

-- Each copy whose deletion was confirmed is gone on each confirmer, and F nodes confirmed it at least.
abbrev pub DroppedAreGone : Type 0
DroppedAreGone = (confirm : ℕ) (w : Cluster) → Sound confirm w → (user : List ℕ) (id : Id) (confirmers : ℕ) → Among (Dropped user id confirmers) w.book
    → (confirm ≤ count_in confirmers) × ((m : ℕ) → has confirmers m ≡ true → LacksCopy user id w.slots m)
