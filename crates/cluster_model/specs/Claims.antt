-- What is claimed of a node, and by whom: by tickets, logs, records, letters and the book.
use Rattle.std.specs.Prelude.{◌≡◌, ◌≢◌, ◌⊎◌, ◌<◌, ◌≤◌, ℕ, true, false, List, [], ◌∷◌, ◌++◌, length, Some}
use Rattle.std.specs.FinMap as fin
use Rattle.sha2.specs.Sha256.{sha256}
use Rattle.mail_model.specs.Identity.{Id, Stamp, Key, State}
use Rattle.mail_model.specs.Identity.Key.{Message}
use Rattle.mail_model.specs.Identity.Value.{Gone}
use Rattle.mail_model.specs.Record.{Record}
use Rattle.mail_model.specs.Record.Record.{Boot, Octets, Stated, Promise, Retired}
use Rattle.mail_model.specs.Book.{BookEntry}
use Rattle.mail_model.specs.Book.BookEntry.{Acknowledged, Struck, Dropped, WentDown, CameUp, WasLost}
use Rattle.object_model.specs.Sets.{has}
use Rattle.object_model.specs.Lists.{Among}
use Rattle.object_model.specs.Said.{said, CoversAtLeast}
use Rattle.object_model.specs.Letters.{Number, DeletionMark, Body, Letter}
use Rattle.object_model.specs.Letters.Body.{File, Filed, Strike, StrikeTold, Push, PushAck, Retire}
use Rattle.object_model.specs.UpdateLog.{Logged}
use Rattle.cluster_model.specs.Cluster.{NodeFiling, AskedOfNodes, Want, Ticket, Node, Life, Slot, slot_at, tickets_of, pending_of}
use Rattle.cluster_model.specs.Cluster.AskedOfNodes.{Copies, Deletion}
use Rattle.cluster_model.specs.Cluster.Life.{Up, Down, Lost}

-- all that a disk may turn out to hold
abbrev pub all_records : Slot → List Record
all_records slot = slot.disk ++ pending_of slot.life

-- What a disk may be claimed to say. All of it stays when records are added.
pub data Fact : Type 0 where
  HasCopies : (users : List (List ℕ)) (id : Id) → Fact
  IsGone : (user : List ℕ) (id : Id) → Fact
  IsAtLeast : (key : Key) (state : State) → Fact

-- it has octets of the message
pub record StoresMessage (id : Id) (disk : List Record) : Type 0 where
  pub octets : List ℕ
  pub inside : Among (Octets id octets) disk

-- the user's copy is here with its octets, or gone
pub record HasCopy (user : List ℕ) (id : Id) (disk : List Record) : Type 0 where
  pub state : State
  pub inside : Among (Stated (Message user id) state) disk
  pub stored : (state.value ≡ Gone) ⊎ StoresMessage id disk

-- it is gone
pub record ShowsGone (user : List ℕ) (id : Id) (disk : List Record) : Type 0 where
  pub state : State
  pub inside : Among (Stated (Message user id) state) disk
  pub gone : state.value ≡ Gone

abbrev pub SaysFact : List Record → Fact → Type 0
SaysFact disk (HasCopies users id) = (user : List ℕ) → Among user users → HasCopy user id disk
SaysFact disk (IsGone user id) = ShowsGone user id disk
SaysFact disk (IsAtLeast key state) = CoversAtLeast key state disk

-- The disk of node m says the fact. That of a node that is lost stays as it was, and so says what it said.
pub record FactStands (slots : List Slot) (m : ℕ) (fact : Fact) : Type 0 where
  pub slot : Slot
  pub here : slot_at slots m ≡ Some slot
  pub stands : SaysFact slot.disk fact

-- what a target that confirmed says
abbrev pub fact_of : AskedOfNodes → Fact
fact_of (Copies filing) = HasCopies filing.users filing.id
fact_of (Deletion user id) = IsGone user id

-- something asked under a ticket of this life
pub record Wants (life : Life) (seq : ℕ) (want : Want) : Type 0 where
  pub ticket : Ticket
  pub here : fin.get (tickets_of life) seq ≡ Some ticket
  pub inside : Among want ticket.wants

-- a ticket counts m as confirmed
pub record TicketClaims (life : Life) (m : ℕ) (fact : Fact) : Type 0 where
  pub seq : ℕ
  pub want : Want
  pub stands : Wants life seq want
  pub counts : has want.confirmed m ≡ true
  pub is : fact_of want.asked ≡ fact

-- the log has no need to tell m of what the disk says
pub record LogClaims (n : ℕ) (slot : Slot) (m : ℕ) (fact : Fact) : Type 0 where
  pub node : Node
  pub up : slot.life ≡ Up node
  pub key : Key
  pub state : State
  pub says : said key slot.disk ≡ Some state
  pub target : has state.targets m ≡ true
  pub other : m ≢ n
  pub told : (entry : Logged) → fin.get node.log key ≡ Some entry → has entry.remaining m ≡ false
  pub is : IsAtLeast key state ≡ fact

-- a record says that the other targets have the state
pub record DiskClaims (n : ℕ) (slot : Slot) (m : ℕ) (fact : Fact) : Type 0 where
  pub key : Key
  pub state : State
  pub inside : Among (Retired key state) (all_records slot)
  pub target : has state.targets m ≡ true
  pub other : m ≢ n
  pub is : IsAtLeast key state ≡ fact

abbrev pub SlotClaims : ℕ → Slot → ℕ → Fact → Type 0
SlotClaims n slot m fact = TicketClaims slot.life m fact ⊎ LogClaims n slot m fact ⊎ DiskClaims n slot m fact

-- some node claims it
pub record NodesClaim (slots : List Slot) (m : ℕ) (fact : Fact) : Type 0 where
  pub node : ℕ
  pub slot : Slot
  pub here : slot_at slots node ≡ Some slot
  pub claims : SlotClaims node slot m fact

-- a letter does. What Filed claims depends on the ticket that it answers.
abbrev pub BodyClaims : ℕ → Body → ℕ → Fact → Type 0
BodyClaims from (StrikeTold user ids) m fact = (from ≡ m) × ((id : Id) × Among id ids × (IsGone user id ≡ fact))
BodyClaims from (PushAck key state) m fact = (from ≡ m) × (IsAtLeast key state ≡ fact)
BodyClaims from (Retire key state) m fact = (has state.targets m ≡ true) × (IsAtLeast key state ≡ fact)
BodyClaims from body m fact = ⊥

abbrev pub LetterClaims : Letter → ℕ → Fact → Type 0
LetterClaims letter m fact = BodyClaims letter.from letter.body m fact

-- the book does: who confirmed a message, or a deletion
abbrev pub EntryClaims : BookEntry → ℕ → Fact → Type 0
EntryClaims (Acknowledged copy) m fact = (has copy.confirmers m ≡ true) × (HasCopies (copy.user ∷ []) copy.id ≡ fact)
EntryClaims (Struck user id) m fact = ⊥
EntryClaims (Dropped user id confirmers) m fact = (has confirmers m ≡ true) × (IsGone user id ≡ fact)
EntryClaims (WentDown node) m fact = ⊥
EntryClaims (CameUp node boot) m fact = ⊥
EntryClaims (WasLost node) m fact = ⊥

-- the letter files the message for these users
pub record IsFile (letter : Letter) (id : Id) (users : List (List ℕ)) : Type 0 where
  pub stamp : Stamp
  pub targets : ℕ
  pub octets : List ℕ
  pub is : letter.body ≡ File id stamp targets users octets

-- a ticket of some node asks for copies
pub record NodesWant (slots : List Slot) (filing : NodeFiling) : Type 0 where
  pub node : ℕ
  pub slot : Slot
  pub here : slot_at slots node ≡ Some slot
  pub seq : ℕ
  pub want : Want
  pub stands : Wants slot.life seq want
  pub is : want.asked ≡ Copies filing

-- octets of a message on a disk, and in a letter
abbrev pub SlotHolds : Slot → Id → List ℕ → Type 0
SlotHolds slot id octets = Among (Octets id octets) (all_records slot)

abbrev pub BodyHolds : Body → Id → List ℕ → Type 0
BodyHolds (File other stamp targets users held) id octets = (other ≡ id) × (held ≡ octets)
BodyHolds (Push (Message user other) state (Some held)) id octets = (other ≡ id) × (held ≡ octets)
BodyHolds body id octets = ⊥

abbrev pub LetterHolds : Letter → Id → List ℕ → Type 0
LetterHolds letter id octets = BodyHolds letter.body id octets

-- the octets are of this number and digest
abbrev pub AreOf : ℕ → List ℕ → List ℕ → Type 0
AreOf size digest octets = (size ≡ length octets) × (digest ≡ sha256 octets)

-- the boot of the last Boot record
abbrev pub boot_after : ℕ → List Record → ℕ
boot_after boot [] = boot
boot_after boot (Boot other ∷ records) = boot_after other records
boot_after boot (Octets id octets ∷ records) = boot_after boot records
boot_after boot (Stated key state ∷ records) = boot_after boot records
boot_after boot (Promise epoch ∷ records) = boot_after boot records
boot_after boot (Retired key state ∷ records) = boot_after boot records

abbrev pub boot_of : List Record → ℕ
boot_of records = boot_after 0 records

-- the id was drawn by this node
abbrev pub DrawnIn : Life → List Record → Id → Type 0
DrawnIn (Up node) disk id = (id.boot < node.boot) ⊎ ((id.boot ≡ node.boot) × (id.seq ≤ node.drawn))
DrawnIn (Down pending) disk id = id.boot ≤ boot_of disk
DrawnIn Lost disk id = id.boot ≤ boot_of disk

abbrev pub DrawnAt : Slot → Id → Type 0
DrawnAt slot id = DrawnIn slot.life slot.disk id

-- by the node that it names
pub record IsIdDrawn (slots : List Slot) (id : Id) : Type 0 where
  pub slot : Slot
  pub here : slot_at slots id.node ≡ Some slot
  pub drawn : DrawnAt slot id

-- What speaks of a deletion: a record, a letter, and what a ticket asks.
pub record RecordSpeaks (record_ : Record) (user : List ℕ) (id : Id) : Type 0 where
  pub state : State
  pub is : (record_ ≡ Stated (Message user id) state) ⊎ (record_ ≡ Retired (Message user id) state)
  pub gone : state.value ≡ Gone

pub record DiskSpeaks (records : List Record) (user : List ℕ) (id : Id) : Type 0 where
  pub one : Record
  pub inside : Among one records
  pub speaks : RecordSpeaks one user id

pub record TicketSpeaks (life : Life) (user : List ℕ) (id : Id) : Type 0 where
  pub seq : ℕ
  pub want : Want
  pub stands : Wants life seq want
  pub is : want.asked ≡ Deletion user id

abbrev pub SlotSpeaks : Slot → List ℕ → Id → Type 0
SlotSpeaks slot user id = DiskSpeaks (all_records slot) user id ⊎ TicketSpeaks slot.life user id

abbrev pub BodySpeaks : Body → List ℕ → Id → Type 0
BodySpeaks (Strike name marks) user id = (name ≡ user) × ((mark : DeletionMark) × Among mark marks × (mark.id ≡ id))
BodySpeaks (StrikeTold name ids) user id = (name ≡ user) × Among id ids
BodySpeaks (Push key state octets) user id = (key ≡ Message user id) × (state.value ≡ Gone)
BodySpeaks (PushAck key state) user id = (key ≡ Message user id) × (state.value ≡ Gone)
BodySpeaks (Retire key state) user id = (key ≡ Message user id) × (state.value ≡ Gone)
BodySpeaks body user id = ⊥

abbrev pub LetterSpeaks : Letter → List ℕ → Id → Type 0
LetterSpeaks letter user id = BodySpeaks letter.body user id

-- a letter asks a node for this, or tells that it was done
abbrev pub Asks : Body → AskedOfNodes → Type 0
Asks (File id stamp targets users octets) (Copies filing) = id ≡ filing.id
Asks (Strike user marks) (Deletion name id) = (user ≡ name) × ((mark : DeletionMark) × Among mark marks × (mark.id ≡ id))
Asks body asked = ⊥

abbrev pub Tells : Body → AskedOfNodes → Type 0
Tells (Filed id) (Copies filing) = id ≡ filing.id
Tells (StrikeTold user ids) (Deletion name id) = (user ≡ name) × Among id ids
Tells body asked = ⊥

-- under this ticket its node asks m, or m tells it
abbrev pub Covers : Letter → Number → ℕ → AskedOfNodes → Type 0
Covers letter number m asked = (letter.ticket ≡ Some number)
    × (((letter.from ≡ number.node) × (letter.to ≡ m) × Asks letter.body asked) ⊎ ((letter.to ≡ number.node) × (letter.from ≡ m) × Tells letter.body asked))

pub record Covered (letters : List Letter) (number : Number) (m : ℕ) (asked : AskedOfNodes) : Type 0 where
  pub letter : Letter
  pub inside : Among letter letters
  pub covers : Covers letter number m asked

-- a ticket of this life and number waits for m
pub record LifeWaits (life : Life) (number : Number) (m : ℕ) (asked : AskedOfNodes) : Type 0 where
  pub node : Node
  pub up : life ≡ Up node
  pub boot : number.boot ≡ node.boot
  pub want : Want
  pub stands : Wants life number.seq want
  pub waits : has want.waiting m ≡ true
  pub is : want.asked ≡ asked

pub record NodesWait (slots : List Slot) (number : Number) (m : ℕ) (asked : AskedOfNodes) : Type 0 where
  pub slot : Slot
  pub here : slot_at slots number.node ≡ Some slot
  pub waits : LifeWaits slot.life number m asked
