-- What may be told of a node, and who tells it.
use Rattle.std.specs.Prelude.{◌≡◌, ◌≢◌, ◌⊎◌, ◌<◌, ◌≤◌, ℕ, Bool, true, false, nat_eq, List, map, Option, Some, None, if◌then◌else◌}
use Rattle.mail_model.specs.Identity.{Id, Stamp, State}
use Rattle.mail_model.specs.Identity.Key.{Message}
use Rattle.mail_model.specs.Record.{Record}
use Rattle.object_model.specs.Sets.{has}
use Rattle.object_model.specs.Lists.{Among}
use Rattle.object_model.specs.Said.{said}
use Rattle.object_model.specs.Mishaps.{mishaps_of}
use Rattle.object_model.specs.Letters.{Number, ToldItem, ToldPart, Body, Letter}
use Rattle.object_model.specs.Letters.LoginWord.{Named}
use Rattle.object_model.specs.Letters.ToldPart.{Octets, Gone}
use Rattle.object_model.specs.Letters.Body.{LoginAsk, LoginTold, ListAsk, ListTold, FetchAsk, FetchTold, Unlock}
use Rattle.cluster_model.specs.Claims.{boot_of}
use Rattle.cluster_model.specs.Reads.{ListedCopy, IsListing, IsPart, is_here_held, has_copy}
use Rattle.login_model.specs.Rules.{first_stamp}
use Rattle.login_model.specs.Readings.{ToldList, LoginStage, FetchStage, Fetch, Reading, ReadTicket, Subject}
use Rattle.login_model.specs.Readings.LoginStage.{AsksManager, IsDenied, AsksNodes, HasFailed}
use Rattle.login_model.specs.Readings.FetchStage.{AsksHolder, IsAnswered, NobodyLeft}
use Rattle.login_model.specs.Readings.Reading.{LogsIn, Fetches}
use Rattle.login_model.specs.Readings.Subject.{OfUser, OfPart}
use Rattle.login_model.specs.Cluster.{Node, Life, Slot, slot_at, LifeReads}
use Rattle.login_model.specs.Cluster.Life.{Up, Down, Lost}

-- What is true of a node at a moment: who manages a user in its epoch, whom it names of the user, what it lists, and a part of a message.
pub data Fact : Type 0 where
  Manages : (user : List ℕ) (manager : ℕ) → Fact
  Names : (user : List ℕ) (named : ℕ) → Fact
  Lists : (user : List ℕ) (items : List ToldItem) → Fact
  Says : (user : List ℕ) (id : Id) (at most : ℕ) (part : ToldPart) → Fact

-- a message as it is told is a copy of a listing
abbrev pub copy_told : ToldItem → ListedCopy
copy_told item = record { id = item.id; stamp = item.stamp; targets = item.targets; size = item.size }

abbrev pub IsToldList : List ℕ → List Record → List ToldItem → Type 0
IsToldList user disk items = IsListing user disk (map copy_told items)

-- the stamp of what is said, if anything is
abbrev pub stamp_said : Option State → Stamp
stamp_said None = first_stamp
stamp_said (Some state) = state.stamp

-- Octets of the message where the copy is here, and else that it is not. Where the disk does not tell what it holds, only is known how many octets the message has.
abbrev pub IsToldPart : Bool → List ℕ → Id → ℕ → ℕ → List Record → ToldPart → Type 0
IsToldPart tells user id at most disk (Octets octets whole) = (is_here_held (said (Message user id) disk) ≡ true) × IsPart tells id at most disk octets whole
IsToldPart tells user id at most disk (Gone stamp) = (has_copy user id disk ≡ false) × (stamp ≡ stamp_said (said (Message user id) disk))

-- what shows a fact: a node that is up, with its disk
abbrev pub NodeShows : Node → List Record → Fact → Type 0
NodeShows node disk (Manages user manager) = node.manager user ≡ Some manager
NodeShows node disk (Names user named) = node.named user ≡ named
NodeShows node disk (Lists user items) = IsToldList user disk items
NodeShows node disk (Says user id at most part) = IsToldPart node.tells user id at most disk part

pub record SlotShows (slot : Slot) (fact : Fact) : Type 0 where
  pub node : Node
  pub up : slot.life ≡ Up node
  pub shows : NodeShows node slot.disk fact

-- A number of a ticket is drawn: by a boot that is over, or in this one.
abbrev pub DrawnIn : Life → List Record → Number → Type 0
DrawnIn (Up node) disk number = (number.boot < node.boot) ⊎ ((number.boot ≡ node.boot) × (number.seq ≤ node.calls))
DrawnIn Down disk number = number.boot ≤ boot_of disk
DrawnIn Lost disk number = number.boot ≤ boot_of disk

abbrev pub DrawnAt : Slot → Number → Type 0
DrawnAt slot number = DrawnIn slot.life slot.disk number

pub record IsDrawn (slots : List Slot) (number : Number) : Type 0 where
  pub slot : Slot
  pub here : slot_at slots number.node ≡ Some slot
  pub drawn : DrawnAt slot number

-- The fact was true of node n at some moment since the ticket began.
pub record WasTrue (story : List (List Slot)) (number : Number) (n : ℕ) (fact : Fact) : Type 0 where
  pub moment : List Slot
  pub inside : Among moment story
  pub since : IsDrawn moment number
  pub slot : Slot
  pub here : slot_at moment n ≡ Some slot
  pub shows : SlotShows slot fact

-- what a letter asks
abbrev pub subject_asked : Body → Option Subject
subject_asked (LoginAsk user proof) = Some (OfUser user)
subject_asked (ListAsk user) = Some (OfUser user)
subject_asked (FetchAsk user id at most) = Some (OfPart user id at most)
subject_asked body = None

-- and what it tells of a subject
abbrev pub is_told : Body → Bool
is_told (LoginTold word) = true
is_told (ListTold items) = true
is_told (FetchTold part) = true
is_told body = false

abbrev pub fact_told : Body → Subject → Option Fact
fact_told (LoginTold (Named named)) (OfUser user) = Some (Names user named)
fact_told (ListTold items) (OfUser user) = Some (Lists user items)
fact_told (FetchTold part) (OfPart user id at most) = Some (Says user id at most part)
fact_told body subject = None

-- letters of calls that read
abbrev pub IsReadBody : Body → Type 0
IsReadBody (LoginAsk user proof) = Unit {0}
IsReadBody (LoginTold word) = Unit {0}
IsReadBody (ListAsk user) = Unit {0}
IsReadBody (ListTold items) = Unit {0}
IsReadBody (FetchAsk user id at most) = Unit {0}
IsReadBody (FetchTold part) = Unit {0}
IsReadBody (Unlock user login) = Unit {0}
IsReadBody body = ⊥

-- such a letter from the node to another
pub record GoesOut (own : ℕ) (letter : Letter) : Type 0 where
  pub from : letter.from ≡ own
  pub to : letter.to ≢ own
  pub body : IsReadBody letter.body

-- what a login counts on: of the own node, of the manager, and of each node that has told
abbrev pub ToldBy : List ToldList → List ℕ → ℕ → Fact → Type 0
ToldBy told user m fact = (one : ToldList) × Among one told × (one.node ≡ m) × (Lists user one.items ≡ fact)

abbrev pub StageClaims : List ℕ → ℕ → LoginStage → ℕ → Fact → Type 0
StageClaims user manager AsksManager m fact = ⊥
StageClaims user manager (IsDenied word) m fact = ⊥
StageClaims user manager (AsksNodes named waiting told) m fact = ((m ≡ manager) × (Names user named ≡ fact)) ⊎ ToldBy told user m fact
StageClaims user manager HasFailed m fact = ⊥

abbrev pub FetchClaims : Fetch → FetchStage → ℕ → Fact → Type 0
FetchClaims fetch (AsksHolder holder left) m fact = ⊥
FetchClaims fetch (IsAnswered by part) m fact = (m ≡ by) × (Says fetch.user fetch.id fetch.at fetch.most part ≡ fact)
FetchClaims fetch NobodyLeft m fact = ⊥

abbrev pub ReadingClaims : ℕ → Reading → ℕ → Fact → Type 0
ReadingClaims own (LogsIn login) m fact = ((m ≡ own) × (Manages login.user login.manager ≡ fact)) ⊎ StageClaims login.user login.manager login.stage m fact
ReadingClaims own (Fetches fetch) m fact = FetchClaims fetch fetch.stage m fact

-- Who is named has told or is waited for, and nobody else.
pub record StageIsWhole (named waiting : ℕ) (told : List ToldList) : Type 0 where
  pub covered : (m : ℕ) → has named m ≡ true → (has waiting m ≡ true) ⊎ ((one : ToldList) × Among one told × (one.node ≡ m))
  pub told_named : (one : ToldList) → Among one told → has named one.node ≡ true
  pub waiting_named : (m : ℕ) → has waiting m ≡ true → has named m ≡ true

abbrev pub LoginIsWhole : LoginStage → Type 0
LoginIsWhole AsksManager = Unit {0}
LoginIsWhole (IsDenied word) = Unit {0}
LoginIsWhole (AsksNodes named waiting told) = StageIsWhole named waiting told
LoginIsWhole HasFailed = Unit {0}

abbrev pub ReadingIsWhole : Reading → Type 0
ReadingIsWhole (LogsIn login) = LoginIsWhole login.stage
ReadingIsWhole (Fetches fetch) = Unit {0}

-- whether a call has failed
abbrev pub login_failed : LoginStage → Bool
login_failed AsksManager = false
login_failed (IsDenied word) = false
login_failed (AsksNodes named waiting told) = false
login_failed HasFailed = true

abbrev pub fetch_failed : FetchStage → Bool
fetch_failed (AsksHolder holder left) = false
fetch_failed (IsAnswered by part) = false
fetch_failed NobodyLeft = true

abbrev pub has_failed : Reading → Bool
has_failed (LogsIn login) = login_failed login.stage
has_failed (Fetches fetch) = fetch_failed fetch.stage

-- a call that has failed counts a mishap
abbrev pub CountsMishap : ReadTicket → Type 0
CountsMishap ticket = has_failed ticket.reading ≡ true → 0 < mishaps_of ticket.mishaps

-- what a ticket may wait for: the word of a manager, the list of a node, a part
pub data AnswerAwaited : Type 0 where
  ForWord : AnswerAwaited
  ForList : AnswerAwaited
  ForPart : AnswerAwaited

abbrev pub LoginWaits : ℕ → LoginStage → ℕ → AnswerAwaited → Type 0
LoginWaits manager AsksManager m ForWord = m ≡ manager
LoginWaits manager (AsksNodes named waiting told) m ForList = has waiting m ≡ true
LoginWaits manager stage m what = ⊥

abbrev pub FetchWaits : FetchStage → ℕ → AnswerAwaited → Type 0
FetchWaits (AsksHolder holder left) m ForPart = m ≡ holder
FetchWaits stage m what = ⊥

abbrev pub ReadingWaits : Reading → ℕ → AnswerAwaited → Type 0
ReadingWaits (LogsIn login) m what = LoginWaits login.manager login.stage m what
ReadingWaits (Fetches fetch) m what = FetchWaits fetch.stage m what

-- a letter asks for it, or tells it
abbrev pub AsksFor : Body → AnswerAwaited → Type 0
AsksFor (LoginAsk user proof) ForWord = Unit {0}
AsksFor (ListAsk user) ForList = Unit {0}
AsksFor (FetchAsk user id at most) ForPart = Unit {0}
AsksFor body what = ⊥

abbrev pub TellsFor : Body → AnswerAwaited → Type 0
TellsFor (LoginTold word) ForWord = Unit {0}
TellsFor (ListTold items) ForList = Unit {0}
TellsFor (FetchTold part) ForPart = Unit {0}
TellsFor body what = ⊥

-- under this ticket its node asks m, or m tells it
abbrev pub Covers : Letter → Number → ℕ → AnswerAwaited → Type 0
Covers letter number m what = (letter.ticket ≡ Some number)
    × (((letter.from ≡ number.node) × (letter.to ≡ m) × AsksFor letter.body what) ⊎ ((letter.to ≡ number.node) × (letter.from ≡ m) × TellsFor letter.body what))

pub record Covered (letters : List Letter) (number : Number) (m : ℕ) (what : AnswerAwaited) : Type 0 where
  pub letter : Letter
  pub inside : Among letter letters
  pub covers : Covers letter number m what

-- a ticket of this life and number waits for m
pub record LifeWaits (life : Life) (number : Number) (m : ℕ) (what : AnswerAwaited) : Type 0 where
  pub reading : Reading
  pub reads : LifeReads life number reading
  pub waits : ReadingWaits reading m what

pub record NodesWait (slots : List Slot) (number : Number) (m : ℕ) (what : AnswerAwaited) : Type 0 where
  pub slot : Slot
  pub here : slot_at slots number.node ≡ Some slot
  pub waits : LifeWaits slot.life number m what

-- the end of a letter that is not the node of its ticket
abbrev pub far_end : Letter → Number → ℕ
far_end letter number = if nat_eq letter.from number.node then letter.to else letter.from
