-- How a journal is read: record by record, up to the first closed gate.
use Rattle.std.specs.Prelude.{◌≡◌, ◌≢◌, ℕ, ◌+◌, ◌-◌, ◌<◌, ◌≤◌, ◌^◌, min, List, [], ◌∷◌, ◌++◌, length, take, drop, ⊤, Vec, Option, Some, None, IfSome, Result, Ok, Err}
use Rattle.std.specs.declared.alloc.Global.{Global}
use Rattle.io_edge.specs.Causes.{Rose}
use Rattle.mail_model.specs.Record.{IsJournal, header_of, framed}
use Rattle.disk_journal.specs.Journal.{EndsAt, end_of}
use Rattle.disk_journal.specs.declared.place.Place.{Place}
use Rattle.disk_journal.specs.declared.journal.Journal.{Journal}
use Rattle.disk_journal.specs.declared.fault.JournalFault.{JournalFault}
use Rattle.disk_journal.specs.declared.fault.JournalFault.TheVariants.{DiskFault, NotAJournal, TooLarge, NoMemory}

-- the places are those of these payloads, one record after another from this octet on
abbrev pub AreAt : ℕ → List Place → List (List ℕ) → Type 0
AreAt at [] [] = ⊤
AreAt at [] (payload ∷ payloads) = ⊥
AreAt at (place ∷ places) [] = ⊥
AreAt at (place ∷ places) (payload ∷ payloads) = (place.at ≡ at + 5) × (place.length ≡ length payload) × AreAt (at + 5 + length payload) places payloads

-- the places lie one after another from this octet on, each behind a gate and a length, and the last of them ends here
abbrev pub LieInRow : ℕ → List Place → ℕ → Type 0
LieInRow at [] end = end ≡ at
LieInRow at (place ∷ places) end = (place.at ≡ at + 5) × LieInRow (at + 5 + place.length) places end

-- the octets are no journal of the node: the header is another's, or the file ends before its first closed gate
abbrev pub IsNoJournal : ℕ → List ℕ → Type 0
IsNoJournal node held = (payloads : List (List ℕ)) → IsJournal node held payloads → ⊥

-- the disk may give fewer octets than reach to this place: it tells that it holds no more, or tells nothing
abbrev pub MayEndBefore : Option (List ℕ) → ℕ → Type 0
MayEndBefore None end = ⊤
MayEndBefore (Some held) end = length held < end

-- The octets are a journal of the node, whose gate is that of the opened one and whose records lie at these places.
pub record IsOpened (node : ℕ) (held : List ℕ) (end : ℕ) (places : List Place) : Type 0 where
  pub payloads : List (List ℕ)
  pub ends : EndsAt node held payloads end
  pub within : end < length held
  pub are : AreAt 16 places payloads

-- what an opening gives: the places of exactly the records, or NotAJournal where there is no journal
abbrev pub JournalOpened : Result (Journal × Vec Place Global) JournalFault → ℕ → Option (List ℕ) → ℕ → ℕ → Type 0
JournalOpened (Ok opened) node seen before now = IfSome seen (λ held. IsOpened node held (end_of opened.0) opened.1.items) × (now ≡ before)
JournalOpened (Err DiskFault) node seen before now = (before ≤ now) × Rose before now
JournalOpened (Err NotAJournal) node seen before now = IfSome seen (IsNoJournal node) × (now ≡ before)
JournalOpened (Err TooLarge) node seen before now = ⊥
JournalOpened (Err NoMemory) node seen before now = now ≡ before

-- What a read of these octets of a record gives: as many as fit, from that offset on. NotAJournal comes only where the disk ends before they do.
abbrev pub HasRead : Result ℕ JournalFault → Place → ℕ → List ℕ → Option (List ℕ) → ℕ → ℕ → Type 0
HasRead (Ok count) place start into seen before now =
    (count ≡ min (length into) (place.length - start)) × IfSome seen (λ held. take count into ≡ take count (drop (place.at + start) held)) × (now ≡ before)
HasRead (Err DiskFault) place start into seen before now = (before ≤ now) × Rose before now
HasRead (Err NotAJournal) place start into seen before now = MayEndBefore seen (place.at + place.length) × (now ≡ before)
HasRead (Err TooLarge) place start into seen before now = ⊥
HasRead (Err NoMemory) place start into seen before now = ⊥

-- a closed gate stands at this place
pub record IsClosedAt (held : List ℕ) (at : ℕ) : Type 0 where
  pub gate : ℕ
  pub others : List ℕ
  pub here : drop at held ≡ gate ∷ others
  pub closed : gate ≢ 0xA5

-- a record stands at this place, and its payload lies at the place that was found
pub record IsRecordAt (held : List ℕ) (at : ℕ) (place : Place) : Type 0 where
  pub payload : List ℕ
  pub others : List ℕ
  pub here : drop at held ≡ framed payload ++ others
  pub begins : place.at ≡ at + 5
  pub size : place.length ≡ length payload
  pub short : length payload < 2 ^ 32

-- what stands at this place of a journal: a closed gate, or a record
abbrev pub LiesAtPlace : List ℕ → ℕ → Option Place → Type 0
LiesAtPlace held at None = IsClosedAt held at
LiesAtPlace held at (Some place) = IsRecordAt held at place

-- neither stands there
pub record IsCutAt (held : List ℕ) (at : ℕ) : Type 0 where
  pub no_gate : (gate : ℕ) (others : List ℕ) → drop at held ≡ gate ∷ others → gate ≢ 0xA5 → ⊥
  pub no_record : (payload others : List ℕ) → length payload < 2 ^ 32 → drop at held ≡ framed payload ++ others → ⊥

-- why a slice was filled or not, up to this place of the disk
abbrev pub Fills : {T : Type 0} → Result T JournalFault → Option (List ℕ) → ℕ → ℕ → ℕ → Type 0
Fills (Ok _) seen end before now = now ≡ before
Fills (Err DiskFault) seen end before now = (before ≤ now) × Rose before now
Fills (Err NotAJournal) seen end before now = MayEndBefore seen end × (now ≡ before)
Fills (Err TooLarge) seen end before now = ⊥
Fills (Err NoMemory) seen end before now = ⊥

-- whether the disk begins with the header of the node's journal
abbrev pub HasHeader : {T : Type 0} → Result T JournalFault → ℕ → Option (List ℕ) → ℕ → ℕ → Type 0
HasHeader (Ok _) node seen before now = IfSome seen (λ held. (16 ≤ length held) × (take 16 held ≡ header_of node)) × (now ≡ before)
HasHeader (Err DiskFault) node seen before now = (before ≤ now) × Rose before now
HasHeader (Err NotAJournal) node seen before now = IfSome seen (IsNoJournal node) × (now ≡ before)
HasHeader (Err TooLarge) node seen before now = ⊥
HasHeader (Err NoMemory) node seen before now = ⊥

-- what was found at the place of a gate
abbrev pub FoundAt : Result (Option Place) JournalFault → Option (List ℕ) → ℕ → ℕ → ℕ → Type 0
FoundAt (Ok found) seen at before now = IfSome seen (λ held. LiesAtPlace held at found) × (now ≡ before)
FoundAt (Err DiskFault) seen at before now = (before ≤ now) × Rose before now
FoundAt (Err NotAJournal) seen at before now = IfSome seen (λ held. IsCutAt held at) × (now ≡ before)
FoundAt (Err TooLarge) seen at before now = ⊥
FoundAt (Err NoMemory) seen at before now = ⊥
