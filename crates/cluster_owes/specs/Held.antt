-- What the stores of a cluster hold in the end.
use Rattle.std.specs.Prelude.{◌≡◌, ◌⊎◌, ◌<◌, ◌^◌, ℕ, List, [], ◌∷◌, ◌++◌, length, ⊤, Option, Some, None, slice_get}
use Rattle.mail_model.specs.Identity.{Id}
use Rattle.mail_model.specs.Tape.{or_else}
use Rattle.mail_model.specs.Record.{Record}
use Rattle.mail_model.specs.Record.Record.{Octets}
use Rattle.mail_model.specs.Listing.{octets_in}
use Rattle.object_model.specs.Lists.{Among}
use Rattle.cluster_model.specs.Cluster.{Slot, pending_of}

-- A store holds the records of its node, with what was pending or without it.
abbrev pub IsHeld : Slot → List Record → Type 0
IsHeld slot records = (records ≡ slot.disk) ⊎ (records ≡ slot.disk ++ pending_of slot.life)

abbrev pub AreHeld : List Slot → List (List Record) → Type 0
AreHeld [] [] = ⊤
AreHeld (slot ∷ slots) (records ∷ disks) = IsHeld slot records × AreHeld slots disks
AreHeld slots disks = ⊥

-- the octets of the first message of this id that some disk has
abbrev pub filed_on : List (List Record) → Id → Option (List ℕ)
filed_on [] id = None
filed_on (records ∷ disks) id = or_else (octets_in id records) (filed_on disks id)

-- 64 bits count the octets of each message
abbrev pub AreCounted : List (List Record) → Type 0
AreCounted disks = (n : ℕ) (records : List Record) (id : Id) (octets : List ℕ) → slice_get disks n ≡ Some records → Among (Octets id octets) records → length octets < 2 ^ 64
