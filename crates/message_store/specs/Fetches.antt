-- What a fetch gives.
use Rattle.std.specs.Prelude.{◌≡◌, ℕ, ◌-◌, ◌≤◌, List, [], length, take, drop, min, Option, Some, None, IfSome, Result, Ok, Err}
use Rattle.io_edge.specs.Causes.{Rose}
use Rattle.mail_model.specs.Identity.{Id}
use Rattle.mail_model.specs.Record.{payload_of}
use Rattle.mail_model.specs.Record.Record.{Octets}
use Rattle.disk_journal.specs.declared.place.Place.{Place}
use Rattle.message_store.specs.declared.fault.StoreFault.{StoreFault}
use Rattle.message_store.specs.declared.fault.StoreFault.TheVariants.{DiskFault, NotHere, NotAJournal, TooLarge, NoMemory}
use Rattle.message_store.specs.Places.{IsMessageAt}

-- The first octets of `into` are those of the message from that offset on, as many as fit, where the message lies at the place.
pub record GivesOctets (held : List ℕ) (place : Place) (id : Id) (start count : ℕ) (into : List ℕ) : Type 0 where
  pub head : take 14 (drop place.at held) ≡ payload_of (Octets id [])
  pub those : (octets : List ℕ) → IsMessageAt held place id octets → (count ≡ min (length into) (length octets - start)) × (take count into ≡ take count (drop start octets))

-- no octets of the message lie there
abbrev pub IsNoMessageAt : List ℕ → Place → Id → Type 0
IsNoMessageAt held place id = (octets : List ℕ) → IsMessageAt held place id octets → ⊥

-- What a fetch answers of a message that lies at the place, and why it answers no octets.
abbrev pub HasFetched : Result ℕ StoreFault → Option Place → Id → ℕ → List ℕ → Option (List ℕ) → ℕ → ℕ → Type 0
HasFetched (Ok count) None id start into seen before now = ⊥
HasFetched (Ok count) (Some place) id start into seen before now = IfSome seen (λ held. GivesOctets held place id start count into) × (now ≡ before)
HasFetched (Err DiskFault) place id start into seen before now = (before ≤ now) × Rose before now
HasFetched (Err NotHere) place id start into seen before now = (place ≡ None) × (now ≡ before)
HasFetched (Err NotAJournal) None id start into seen before now = ⊥
HasFetched (Err NotAJournal) (Some place) id start into seen before now = IfSome seen (λ held. IsNoMessageAt held place id) × (now ≡ before)
HasFetched (Err TooLarge) place id start into seen before now = ⊥
HasFetched (Err NoMemory) place id start into seen before now = ⊥

-- the record at the place begins as one of the message's octets does
abbrev pub HasHead : Result (Unit {0}) StoreFault → Place → Id → Option (List ℕ) → ℕ → ℕ → Type 0
HasHead (Ok _) place id seen before now = IfSome seen (λ held. take 14 (drop place.at held) ≡ payload_of (Octets id [])) × (now ≡ before)
HasHead (Err DiskFault) place id seen before now = (before ≤ now) × Rose before now
HasHead (Err NotHere) place id seen before now = ⊥
HasHead (Err NotAJournal) place id seen before now = IfSome seen (λ held. IsNoMessageAt held place id) × (now ≡ before)
HasHead (Err TooLarge) place id seen before now = ⊥
HasHead (Err NoMemory) place id seen before now = ⊥
