-- A journal that stands on a disk, and what a creation or an append leaves of it.
use Rattle.std.specs.Prelude.{◌≡◌, ◌⊎◌, ℕ, ◌+◌, ◌<◌, ◌≤◌, List, [], ◌∷◌, ◌++◌, length, Option, IfSome, Result, Ok, Err}
use Rattle.std.specs.Int.{to_be_bytes, w32}
use Rattle.io_edge.specs.Causes.{Rose}
use Rattle.mail_model.specs.Record.{IsJournal, journal_of}
use Rattle.disk_journal.specs.declared.journal.Journal.{Journal}
use Rattle.disk_journal.specs.declared.fault.JournalFault.{JournalFault}
use Rattle.disk_journal.specs.declared.fault.JournalFault.TheVariants.{DiskFault, NotAJournal, TooLarge, NoMemory}

-- the place of the closed gate that ends the journal
abbrev pub end_of : Journal → ℕ
end_of journal = journal.end

-- where the octets are told, they reach past the closed gate's place
abbrev pub HasGate : Option (List ℕ) → ℕ → Type 0
HasGate seen end = IfSome seen (λ held. end < length held)

-- The octets are the journal of the node with these payloads, and its closed gate stands at `end`.
pub record EndsAt (node : ℕ) (held : List ℕ) (payloads : List (List ℕ)) (end : ℕ) : Type 0 where
  pub journal : IsJournal node held payloads
  pub at_gate : end ≡ length (journal_of node payloads)

-- where the octets are told, they are this journal
abbrev pub TellsJournal : Option (List ℕ) → ℕ → List (List ℕ) → ℕ → Type 0
TellsJournal seen node payloads end = IfSome seen (λ held. EndsAt node held payloads end)

-- what a record has after its gate, and the next gate, closed
abbrev pub behind_gate : List ℕ → List ℕ
behind_gate payload = to_be_bytes w32 (length payload) ++ payload ++ 0 ∷ []

-- where the octets are told, they are the journal of the node with the payload or without it
abbrev pub HoldsEither : Option (List ℕ) → ℕ → List (List ℕ) → List ℕ → Type 0
HoldsEither seen node payloads payload =
    IfSome seen (λ held. IsJournal node held payloads ⊎ IsJournal node held (payloads ++ payload ∷ []))

-- what reads give after an append of the payload: all of it, nothing of it, or where the disk failed one of both
abbrev pub Appended : {T : Type 0} → Result T JournalFault → Option (List ℕ) → ℕ → List (List ℕ) → List ℕ → ℕ → Type 0
Appended (Ok _) seen node payloads payload end = TellsJournal seen node (payloads ++ payload ∷ []) end
Appended (Err DiskFault) seen node payloads payload end = HoldsEither seen node payloads payload
Appended (Err NotAJournal) seen node payloads payload end = ⊥
Appended (Err TooLarge) seen node payloads payload end = TellsJournal seen node payloads end
Appended (Err NoMemory) seen node payloads payload end = TellsJournal seen node payloads end

-- what reads give after the four disk calls of an append, of which any may have failed
abbrev pub Gated : {T E : Type 0} → Result T E → Option (List ℕ) → ℕ → List (List ℕ) → List ℕ → ℕ → Type 0
Gated (Ok _) seen node payloads payload end = TellsJournal seen node (payloads ++ payload ∷ []) end
Gated (Err _) seen node payloads payload end = HoldsEither seen node payloads payload

-- what a creation leaves: a journal of 16 octets with no payload, or nothing where memory ran out
abbrev pub Created : Result Journal JournalFault → Option (List ℕ) → Option (List ℕ) → ℕ → ℕ → ℕ → Type 0
Created (Ok journal) old new node before now = TellsJournal new node [] (end_of journal) × HasGate new (end_of journal) × (now ≡ before) × (end_of journal ≡ 16)
Created (Err DiskFault) old new node before now = Rose before now
Created (Err NotAJournal) old new node before now = ⊥
Created (Err TooLarge) old new node before now = ⊥
Created (Err NoMemory) old new node before now = (new ≡ old) × (now ≡ before)

-- as much as a record may have
abbrev pub largest : ℕ
largest = 16_842_752

-- When an append is refused, and what a refusal leaves: only out of memory and a payload that is too large leave all as it was.
abbrev pub Refuses : {T : Type 0} → Result T JournalFault → ℕ → Option (List ℕ) → Option (List ℕ) → ℕ → ℕ → ℕ → ℕ → Type 0
Refuses (Ok _) size old new end end' before now = (size ≤ largest) × HasGate new end' × (now ≡ before) × (end' ≡ end + 5 + size)
Refuses (Err DiskFault) size old new end end' before now = (size ≤ largest) × (before ≤ now) × Rose before now
Refuses (Err NotAJournal) size old new end end' before now = ⊥
Refuses (Err TooLarge) size old new end end' before now = (largest < size) × (new ≡ old) × (end' ≡ end) × (now ≡ before)
Refuses (Err NoMemory) size old new end end' before now = (size ≤ largest) × (new ≡ old) × (end' ≡ end) × (now ≡ before)
