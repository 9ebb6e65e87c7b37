-- What a filing leaves.
use Rattle.std.specs.Prelude.{◌≡◌, ℕ, ◌+◌, ◌<◌, ◌≤◌, List, [], ◌∷◌, ◌++◌, Option, Result, Ok, Err, IsOk, if◌then◌else◌}
use Rattle.std.specs.Ordering.{eq_by_cmp}
use Rattle.io_edge.specs.Causes.{Rose}
use Rattle.mail_model.specs.Identity.{Id}
use Rattle.mail_base.specs.Orders.{id_cmp}
use Rattle.disk_journal.specs.Journal.{TellsJournal, HoldsEither, HasGate, largest}
use Rattle.disk_journal.specs.declared.place.Place.{Place}
use Rattle.message_store.specs.declared.store.MessageStore.{MessageStore}
use Rattle.message_store.specs.declared.fault.StoreFault.{StoreFault}
use Rattle.message_store.specs.declared.fault.StoreFault.TheVariants.{DiskFault, NotHere, NotAJournal, TooLarge, NoMemory}
use Rattle.message_store.specs.Places.{place_of, first_of, HasSamePlaces}

-- the id is noted at the place where it was not before, and all other ids are as they were
abbrev pub Notes : MessageStore → MessageStore → Id → Place → Type 0
Notes old new id place = (other : Id) → place_of new other ≡ (if eq_by_cmp id_cmp id other then first_of (place_of old id) place else place_of old other)

-- A message that is there already is left as it is, and so are the journal and the disk.
abbrev pub IsKnown : Result (Unit {0}) StoreFault → MessageStore → MessageStore → Option (List ℕ) → Option (List ℕ) → ℕ → ℕ → ℕ → ℕ → Type 0
IsKnown result old new seen seen' end end' before now = IsOk result × HasSamePlaces old new × (seen' ≡ seen) × (end' ≡ end) × (now ≡ before)

-- The journal stands with the record after it, or without it where memory was out or the record too large; where the disk failed one of both.
abbrev pub Appends : Result (Unit {0}) StoreFault → Option (List ℕ) → ℕ → List (List ℕ) → List ℕ → ℕ → Type 0
Appends (Ok _) seen node payloads payload end = TellsJournal seen node (payloads ++ payload ∷ []) end
Appends (Err DiskFault) seen node payloads payload end = HoldsEither seen node payloads payload
Appends (Err NotHere) seen node payloads payload end = ⊥
Appends (Err NotAJournal) seen node payloads payload end = ⊥
Appends (Err TooLarge) seen node payloads payload end = TellsJournal seen node payloads end
Appends (Err NoMemory) seen node payloads payload end = TellsJournal seen node payloads end

-- why nothing was filed
abbrev pub RefusesToFile : Result (Unit {0}) StoreFault → ℕ → Option (List ℕ) → Option (List ℕ) → ℕ → ℕ → ℕ → ℕ → Type 0
RefusesToFile (Ok _) size old new end end' before now = (size ≤ largest) × HasGate new end' × (now ≡ before) × (end' ≡ end + 5 + size)
RefusesToFile (Err DiskFault) size old new end end' before now = (before ≤ now) × Rose before now
RefusesToFile (Err NotHere) size old new end end' before now = ⊥
RefusesToFile (Err NotAJournal) size old new end end' before now = ⊥
RefusesToFile (Err TooLarge) size old new end end' before now = (largest < size) × (new ≡ old) × (end' ≡ end) × (now ≡ before)
RefusesToFile (Err NoMemory) size old new end end' before now = (new ≡ old) × (end' ≡ end) × (now ≡ before)
