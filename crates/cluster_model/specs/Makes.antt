-- What each step makes of a world, by what it answers.
use Rattle.std.specs.Prelude.{◌≡◌, ◌≢◌, ◌⊎◌, ◌<◌, ◌≤◌, ℕ, ◌+◌, Bool, true, false, List, [], ◌∷◌, ◌++◌, length, map, Option, Some, None}
use Rattle.mail_model.specs.Identity.{Id, EpochId, Key}
use Rattle.mail_model.specs.Identity.Key.{Message}
use Rattle.mail_model.specs.Lines.{ends_in_crlf}
use Rattle.mail_model.specs.Plan.{Plan, Proof}
use Rattle.mail_model.specs.Record.{Record}
use Rattle.mail_model.specs.Mail.{IsStored}
use Rattle.mail_model.specs.Book.{BookEntry}
use Rattle.mail_model.specs.Book.BookEntry.{Struck as StruckEntry, WentDown, CameUp, WasLost}
use Rattle.object_model.specs.Sets.{has, nodes_in}
use Rattle.object_model.specs.Said.{said as said_of}
use Rattle.object_model.specs.Letters.{Number, Body, Letter, is_read_body}
use Rattle.object_model.specs.Letters.Body.{FetchAsk}
use Rattle.object_model.specs.Mishaps.{MishapKind, no_mishaps, counted, mishaps_of}
use Rattle.object_model.specs.Mishaps.MishapKind.{FewMembers, Dropped, Stale as StaleKind, Down as DownKind, Disk}
use Rattle.cluster_model.specs.Cluster.{CallKind, Ticket, Node, Life, Slot, slot_at, with_slot, pending_of, members_of}
use Rattle.cluster_model.specs.Cluster.CallKind.{Delivering, LoggingIn, Fetching, Striking}
use Rattle.cluster_model.specs.Cluster.Life.{Down, Lost}
use Rattle.cluster_model.specs.Claims.{boot_of}
use Rattle.cluster_model.specs.Rules.{Reaction, idle, ticket_at, push, can_widen, widen, begin_deliver, begin_strike, end_ticket, refuse, new_number}
use Rattle.cluster_model.specs.Targets.{deliver_targets, strike_asks}
use Rattle.cluster_model.specs.Starts.{StartsNode, StopsStart}
use Rattle.cluster_model.specs.Forms.{IsMapsBody, promise_records, FormsEpoch}
use Rattle.cluster_model.specs.Thrown.{is_stale, answers_ticket, thrown_by, with_stamps}
use Rattle.cluster_model.specs.Thrown.Why.{WhileDown, Stale, Late}
use Rattle.cluster_model.specs.Progress.{NodeAnswer, ask_of, entries_with}
use Rattle.cluster_model.specs.Progress.Ask.{Pending, Done}
use Rattle.cluster_model.specs.Progress.NodeAnswer.{Read, Failed}
use Rattle.cluster_model.specs.Deeds.{slot_up, hear}
use Rattle.cluster_model.specs.Room.{has_room, keys_pushed}
use Rattle.cluster_model.specs.World.{World, missed, put, with_letter, Flies, flies_on}
use Rattle.cluster_model.specs.Steps.{Struck, NodeCall, Step, Said, StepFault, StepOutcome, actor_of, actor_fault, stands_at, asked_of, mishaps_of_call, fails_at_once, ids_drawn, greatest_boot, node_name_fault, first_fault, step_fault}
use Rattle.cluster_model.specs.Steps.NodeCall.{Deliver, Login, Fetch, Strike, Leave}
use Rattle.cluster_model.specs.Steps.Step.{Begin, AskFor, GiveUp, Post, DropLetter, PushTo, Widen, Form, Crash, Start, Lose, Tick}
use Rattle.cluster_model.specs.Steps.Said.{Begun, Noted, Asked, Heard, Thrown, Sent, Widened, Grouped, Concluded, NodeUp, Finished, Faulted}
use Rattle.cluster_model.specs.Steps.StepFault.{NoSuchTicket, Worn}
use Rattle.cluster_model.specs.Steps.StepOutcome.{Says, Refused, NoMemory}

-- node `own` is up, with this soft state and this disk
abbrev pub IsUp : World → ℕ → Node → List Record → Type 0
IsUp w own node disk = slot_at w.slots own ≡ Some (slot_up node disk)

-- the world once a node has done this: its slot is written, and its letters are put in flight
abbrev pub after : World → ℕ → Reaction → World
after w own did = put has_room did.out (record w { slots = with_slot w.slots own (slot_up did.node did.disk) })

-- the entries of the book for what a Strike is to delete
abbrev pub struck_entries : List ℕ → List Struck → List BookEntry
struck_entries user items = map (λ item. StruckEntry user item.id) items

abbrev pub with_struck : World → NodeCall → World
with_struck w (Strike user items) = record w { book = w.book ++ struck_entries user items }
with_struck w call = w

-- the kind of the ticket of a call, which a Leave does not have
abbrev pub kind_of_call : NodeCall → Option CallKind
kind_of_call (Deliver mail) = Some Delivering
kind_of_call (Login user proof) = Some LoggingIn
kind_of_call (Fetch user id from most holders) = Some Fetching
kind_of_call (Strike user items) = Some Striking
kind_of_call (Leave user login manager) = None

-- the nodes that a delivery asks, and of each item of a deletion those that it asks
abbrev pub targets_for : Plan → ℕ → Node → ℕ
targets_for plan own node = deliver_targets plan.copies own (node.drawn + 1) (nodes_in (members_of node) plan.nodes)

abbrev pub asked_for : Plan → ℕ → Node → List Struck → List (Id × ℕ)
asked_for plan own node items = map (λ item. (item.id, strike_asks plan.confirm own item.targets (nodes_in (members_of node) plan.nodes))) items

-- The octets that a call files: those of its message under the next id of the node, at the seconds of the world. A Strike files none, and the other calls begin otherwise.
abbrev pub IsFiled : World → ℕ → Node → NodeCall → List ℕ → Type 0
IsFiled w own node (Deliver mail) octets =
    IsStored mail (record { node = own; boot = node.boot; seq = node.drawn + 1 }) w.seconds octets × (ends_in_crlf octets ≡ true)
IsFiled w own node (Strike user items) octets = octets ≡ []
IsFiled w own node call octets = ⊥

-- what the node does as a call begins that does not fail at once
abbrev pub begun_by : Plan → World → ℕ → Node → List Record → NodeCall → List ℕ → Reaction
begun_by plan w own node disk (Deliver mail) octets = begin_deliver own plan.nodes w.seconds node disk mail.mailboxes octets (targets_for plan own node)
begun_by plan w own node disk (Strike user items) octets = begin_strike own plan.nodes node disk user (asked_for plan own node items)
begun_by plan w own node disk call octets = idle node disk

-- The disk of a node fails in its work: the first of its records stand, and what is pending may.
pub record IsWorkCut (disk whole : List Record) (front pending : List Record) : Type 0 where
  pub missing : List Record
  pub is : whole ≡ disk ++ ((front ++ pending) ++ missing)

-- The world once node n went down so: the book has it, and nothing is sent.
abbrev pub cut_world : World → ℕ → List Record → List Record → List Record → World
cut_world w n disk front pending = record w { slots = with_slot w.slots n (record { life = Down pending; disk = disk ++ front }); book = w.book ++ WentDown n ∷ [] }

-- node n went down in work that would have left its disk so: one record at most is pending
pub record NodeGoesDown (w : World) (n : ℕ) (disk whole : List Record) (new : World) : Type 0 where
  pub front : List Record
  pub pending : List Record
  pub one : length pending ≤ 1
  pub cut : IsWorkCut disk whole front pending
  pub is : new ≡ cut_world w n disk front pending

-- A call begins: one for messages, or one that fails at once. The book has at once what a Strike is to delete, also where the disk then fails.
pub data BeginsCall (plan : Plan) (tells : Bool) (old : World) (own : ℕ) (call : NodeCall) (said : Said) (new : World) : Type 0 where
  -- it fails at once: its ticket has its mishaps
  FailsAtOnce : (node : Node) (disk : List Record) (kind : CallKind) → IsUp old own node disk → kind_of_call call ≡ Some kind → fails_at_once plan old.seconds node call ≡ true
      → said ≡ Begun (new_number own node)
      → new ≡ after (with_struck old call) own (refuse kind (mishaps_of_call plan old.seconds node call) (ids_drawn call) node disk)
      → BeginsCall plan tells old own call said new
  Goes : (node : Node) (disk : List Record) (octets : List ℕ) → IsUp old own node disk → fails_at_once plan old.seconds node call ≡ false → IsFiled old own node call octets
      → said ≡ Begun (new_number own node) → new ≡ after (with_struck old call) own (begun_by plan old own node disk call octets)
      → BeginsCall plan tells old own call said new
  FailsInIt : (node : Node) (disk : List Record) (octets : List ℕ) → IsUp old own node disk → IsFiled old own node call octets
      → said ≡ Faulted own → NodeGoesDown (with_struck old call) own disk (begun_by plan old own node disk call octets).disk new
      → BeginsCall plan tells old own call said new

-- A ticket is asked. While it is pending nothing changes. A ticket that is done ends, and the book has what was confirmed.
pub data AnswersAsk (plan : Plan) (old : World) (number : Number) (said : Said) (new : World) : Type 0 where
  Waits : (node : Node) (disk : List Record) (ticket : Ticket) → IsUp old number.node node disk → ticket_at number.node node (Some number) ≡ Some ticket
      → (got wanted : ℕ) → ask_of plan.confirm ticket ≡ Pending got wanted → said ≡ Asked (Pending got wanted) → new ≡ old
      → AnswersAsk plan old number said new
  Ends : (node : Node) (disk : List Record) (ticket : Ticket) → IsUp old number.node node disk → ticket_at number.node node (Some number) ≡ Some ticket
      → (answer : NodeAnswer) → ask_of plan.confirm ticket ≡ Done answer → said ≡ Asked (Done answer)
      → new ≡ record old { slots = with_slot old.slots number.node (slot_up (end_ticket number.seq node disk).node disk); book = old.book ++ entries_with answer ticket }
      → AnswersAsk plan old number said new

-- A ticket is given up: it ends, and the book has nothing.
pub record IsGivenUp (old : World) (number : Number) (said : Said) (new : World) : Type 0 where
  pub node : Node
  pub disk : List Record
  pub ticket : Ticket
  pub up : IsUp old number.node node disk
  pub stands : ticket_at number.node node (Some number) ≡ Some ticket
  pub said_is : said ≡ Finished
  pub new_world : new ≡ after old number.node (end_ticket number.seq node disk)

-- the world once a letter was lost: its mishap is noted, and it is taken out or kept
abbrev pub lost_letter : MishapKind → (w : World) (number : ℕ) → Flies w number → Bool → World
lost_letter kind w number flies keep = record w { slots = missed kind w.slots flies.letter; flying = flies_on w number flies keep }

-- A letter of membership or maps is heard, also one that its receiver then refuses.
abbrev pub IsHeardOrThrown : Said → Type 0
IsHeardOrThrown Heard = Unit {0}
IsHeardOrThrown (Thrown why) = Unit {0}
IsHeardOrThrown said = ⊥

-- A letter is handed to its receiver.
pub data Posts (plan : Plan) (old : World) (number : ℕ) (keep : Bool) (said : Said) (new : World) : Type 0 where
  NobodyUp : (flies : Flies old number) → ((node : Node) (disk : List Record) → IsUp old flies.letter.to node disk → ⊥)
      → said ≡ Thrown WhileDown → new ≡ lost_letter DownKind old number flies keep
      → Posts plan old number keep said new
  OfOtherEpoch : (flies : Flies old number) (node : Node) (disk : List Record) → IsUp old flies.letter.to node disk → thrown_by flies.letter.to node flies.letter ≡ Some Stale
      → said ≡ Thrown Stale → new ≡ lost_letter StaleKind old number flies keep
      → Posts plan old number keep said new
  TooLate : (flies : Flies old number) (node : Node) (disk : List Record) → IsUp old flies.letter.to node disk → thrown_by flies.letter.to node flies.letter ≡ Some Late
      → said ≡ Thrown Late → new ≡ record old { flying = flies_on old number flies keep }
      → Posts plan old number keep said new
  IsHeard : (flies : Flies old number) (node : Node) (disk : List Record) → IsUp old flies.letter.to node disk → thrown_by flies.letter.to node flies.letter ≡ None
      → said ≡ Heard → new ≡ after (record old { flying = flies_on old number flies keep }) flies.letter.to (hear flies.letter.to plan.nodes node disk flies.letter)
      → Posts plan old number keep said new
  -- its disk fails: the letter has a mishap
  FailsHearing : (flies : Flies old number) (node : Node) (disk : List Record) → IsUp old flies.letter.to node disk → thrown_by flies.letter.to node flies.letter ≡ None
      → said ≡ Faulted flies.letter.to
      → (down : World) → NodeGoesDown old flies.letter.to disk (hear flies.letter.to plan.nodes node disk flies.letter).disk down
      → new ≡ record down { slots = missed Disk down.slots flies.letter; flying = flies_on old number flies keep }
      → Posts plan old number keep said new
  -- It is of membership or maps. What its receiver does for these is not seen here.
  IsForMaps : (flies : Flies old number) (node : Node) (disk : List Record) → IsUp old flies.letter.to node disk → IsMapsBody flies.letter.body → is_stale flies.letter node.installed ≡ false
      → IsHeardOrThrown said → (did : Reaction) → FormsEpoch (with_stamps flies.letter.body node) disk did
      → new ≡ after (record old { flying = flies_on old number flies keep }) flies.letter.to did
      → Posts plan old number keep said new
  -- its disk fails as it promises
  FailsForMaps : (flies : Flies old number) (node : Node) (disk : List Record) (promise : Option EpochId) → IsUp old flies.letter.to node disk → IsMapsBody flies.letter.body
      → is_stale flies.letter node.installed ≡ false → said ≡ Faulted flies.letter.to
      → (down : World) → NodeGoesDown old flies.letter.to disk (disk ++ promise_records promise) down
      → new ≡ record down { flying = flies_on old number flies keep }
      → Posts plan old number keep said new

-- A letter is dropped.
pub record Drops (old : World) (number : ℕ) (said : Said) (new : World) : Type 0 where
  pub flies : Flies old number
  pub said_is : said ≡ Finished
  pub new_world : new ≡ lost_letter Dropped old number flies false

-- A node pushes to another. It reads octets, so its disk may fail.
pub data Pushes (old : World) (own to : ℕ) (said : Said) (new : World) : Type 0 where
  Sends : (node : Node) (disk : List Record) → IsUp old own node disk
      → said ≡ Sent (length (push own to (keys_pushed old.flying own to node disk) node disk).out)
      → new ≡ after old own (push own to (keys_pushed old.flying own to node disk) node disk)
      → Pushes old own to said new
  FailsPushing : (node : Node) (disk : List Record) → IsUp old own node disk → said ≡ Faulted own → new ≡ cut_world old own disk [] [] → Pushes old own to said new

-- A message gets a target more, where it is here and has not that target.
pub data Widens (old : World) (own to : ℕ) (key : Key) (said : Said) (new : World) : Type 0 where
  Adds : (node : Node) (disk : List Record) → IsUp old own node disk → said ≡ Widened (can_widen to (said_of key disk)) → new ≡ after old own (widen own to key node disk) → Widens old own to key said new
  FailsWidening : (node : Node) (disk : List Record) → IsUp old own node disk → said ≡ Faulted own → NodeGoesDown old own disk (widen own to key node disk).disk new → Widens old own to key said new

-- what is said of a node that opens or concludes a group, or reports
abbrev pub IsSaidOfForming : Said → Type 0
IsSaidOfForming (Grouped epoch) = Unit {0}
IsSaidOfForming (Concluded epoch members) = Unit {0}
IsSaidOfForming (Sent letters) = Unit {0}
IsSaidOfForming said = ⊥

-- A node opens or concludes a group, or reports. What it does for membership and maps is not seen here.
pub data FormsAt (old : World) (own : ℕ) (said : Said) (new : World) : Type 0 where
  Does : (node : Node) (disk : List Record) → IsUp old own node disk → IsSaidOfForming said → (did : Reaction) → FormsEpoch node disk did → new ≡ after old own did → FormsAt old own said new
  HasNone : IsSaidOfForming said → new ≡ old → FormsAt old own said new
  FailsForming : (node : Node) (disk : List Record) (promise : Option EpochId) → IsUp old own node disk → said ≡ Faulted own → NodeGoesDown old own disk (disk ++ promise_records promise) new
      → FormsAt old own said new

-- A node that is down starts, and the book has it. Where its disk fails it stays down.
pub data StartsUp (plan : Plan) (old : World) (n : ℕ) (said : Said) (new : World) : Type 0 where
  Comes : (disk pending : List Record) (node : Node) (records : List Record) → slot_at old.slots n ≡ Some (record { life = Down pending; disk = disk })
      → StartsNode n disk pending node records → node.boot ≤ greatest_boot → said ≡ NodeUp node.boot
      → new ≡ record old { slots = with_slot old.slots n (slot_up node records); book = old.book ++ CameUp n node.boot ∷ [] }
      → StartsUp plan old n said new
  FailsStarting : (disk pending next records : List Record) → slot_at old.slots n ≡ Some (record { life = Down pending; disk = disk })
      → StopsStart disk pending next records → said ≡ Faulted n
      → new ≡ record old { slots = with_slot old.slots n (record { life = Down next; disk = records }); book = old.book ++ WentDown n ∷ [] }
      → StartsUp plan old n said new

-- A node goes down, and the book has this entry.
pub record NodeFalls (old : World) (n : ℕ) (life : Life) (entry : BookEntry) (said : Said) (new : World) : Type 0 where
  pub slot : Slot
  pub here : slot_at old.slots n ≡ Some slot
  pub was : slot.life ≢ Lost
  pub said_is : said ≡ Finished
  pub new_world : new ≡ record old { slots = with_slot old.slots n (record slot { life = life }); book = old.book ++ entry ∷ [] }

-- A node is lost for good. What was pending on its disk was kept or lost before, and nobody reads it any more.
pub record LosesNode (old : World) (n : ℕ) (said : Said) (new : World) : Type 0 where
  pub slot : Slot
  pub here : slot_at old.slots n ≡ Some slot
  pub was : slot.life ≢ Lost
  pub kept : List Record
  pub pending_is : (kept ≡ []) ⊎ (kept ≡ pending_of slot.life)
  pub said_is : said ≡ Finished
  pub new_world : new ≡ record old { slots = with_slot old.slots n (record { life = Lost; disk = slot.disk ++ kept }); book = old.book ++ WasLost n ∷ [] }

-- A letter of a call that reads, which a node that is up sends to another; there is room for it.
pub record IsReadLetter (w : World) (letter : Letter) : Type 0 where
  pub body : is_read_body letter.body ≡ true
  pub other : letter.to ≢ letter.from
  pub node : Node
  pub disk : List Record
  pub up : IsUp w letter.from node disk
  pub room : has_room w.flying letter ≡ true

-- such letters are put in flight one by one, under the next numbers
abbrev pub SendsReading : World → List Letter → World → Type 0
SendsReading old [] new = new ≡ old
SendsReading old (letter ∷ letters) new = IsReadLetter old letter × SendsReading (with_letter old letter) letters new

-- Calls that read go on: what they send is in flight. What nodes keep of such calls messages do not see, and no ticket of theirs notes what befalls such letters.
pub record GoesOnReading (old new : World) : Type 0 where
  pub letters : List Letter
  pub sends : SendsReading old letters new

abbrev pub DrawsTicket : NodeCall → Type 0
DrawsTicket (Login user proof) = Unit {0}
DrawsTicket (Fetch user id from most holders) = Unit {0}
DrawsTicket call = ⊥

-- A call that reads begins: a node draws the number of a ticket, which messages do not have. A Leave draws none.
pub data BeginsRead (plan : Plan) (old : World) (own : ℕ) (call : NodeCall) (said : Said) (new : World) : Type 0 where
  -- nobody manages the user
  HasNoManager : (node : Node) (disk : List Record) (user : List ℕ) (proof : Proof) → IsUp old own node disk → call ≡ Login user proof → fails_at_once plan old.seconds node call ≡ false
      → said ≡ Begun (new_number own node) → new ≡ after old own (refuse LoggingIn (counted FewMembers no_mishaps) 0 node disk)
      → BeginsRead plan old own call said new
  Draws : (node : Node) (disk : List Record) → IsUp old own node disk → DrawsTicket call → fails_at_once plan old.seconds node call ≡ false → said ≡ Begun (new_number own node)
      → GoesOnReading (record old { slots = with_slot old.slots own (slot_up (record node { calls = node.calls + 1 }) disk) }) new
      → BeginsRead plan old own call said new
  -- the own node is a holder, and its disk fails as it is read
  FailsReading : (node : Node) (disk : List Record) (user : List ℕ) (id : Id) (from most holders : ℕ) → IsUp old own node disk → call ≡ Fetch user id from most holders
      → has (asked_of node holders) own ≡ true → said ≡ Faulted own → new ≡ cut_world old own disk [] []
      → BeginsRead plan old own call said new
  Leaves : (node : Node) (disk : List Record) (user : List ℕ) (login : Number) (manager : ℕ) → IsUp old own node disk → call ≡ Leave user login manager → said ≡ Noted → GoesOnReading old new
      → BeginsRead plan old own call said new

-- a number of the node's boot, of which messages have no ticket
pub record IsForReads (w : World) (number : Number) : Type 0 where
  pub node : Node
  pub disk : List Record
  pub up : IsUp w number.node node disk
  pub boot : number.boot ≡ node.boot
  pub none : ticket_at number.node node (Some number) ≡ None

-- what is said of a ticket that is none of messages
abbrev pub IsSaidOfReads : Said → Type 0
IsSaidOfReads (Asked (Pending got wanted)) = Unit {0}
IsSaidOfReads (Asked (Done (Read found))) = Unit {0}
IsSaidOfReads (Asked (Done (Failed mishaps))) = 0 < mishaps_of mishaps
IsSaidOfReads said = ⊥

-- such a ticket is asked, and may end by that
pub record AnswersRead (old : World) (number : Number) (said : Said) (new : World) : Type 0 where
  pub of : IsForReads old number
  pub said_is : IsSaidOfReads said
  pub new_world : new ≡ old

-- or it is given up
pub record GivesUpRead (old : World) (number : Number) (said : Said) (new : World) : Type 0 where
  pub of : IsForReads old number
  pub said_is : said ≡ Finished
  pub goes_on : GoesOnReading old new

abbrev pub IsFetchAsk : Body → Type 0
IsFetchAsk (FetchAsk user id from most) = Unit {0}
IsFetchAsk body = ⊥

-- A letter of a call that reads is handed to its receiver. Where it is lost, letters may be sent for it.
pub data PostsRead (old : World) (number : ℕ) (keep : Bool) (said : Said) (new : World) : Type 0 where
  NobodyUp : (flies : Flies old number) → is_read_body flies.letter.body ≡ true → ((node : Node) (disk : List Record) → IsUp old flies.letter.to node disk → ⊥)
      → said ≡ Thrown WhileDown → GoesOnReading (record old { flying = flies_on old number flies keep }) new
      → PostsRead old number keep said new
  OfOtherEpoch : (flies : Flies old number) (node : Node) (disk : List Record) → is_read_body flies.letter.body ≡ true → IsUp old flies.letter.to node disk
      → is_stale flies.letter node.installed ≡ true → said ≡ Thrown Stale → GoesOnReading (record old { flying = flies_on old number flies keep }) new
      → PostsRead old number keep said new
  -- it answers a ticket that stands no more
  TooLate : (flies : Flies old number) (node : Node) (disk : List Record) → is_read_body flies.letter.body ≡ true → IsUp old flies.letter.to node disk
      → is_stale flies.letter node.installed ≡ false → answers_ticket flies.letter.body ≡ true → said ≡ Thrown Late → new ≡ record old { flying = flies_on old number flies keep }
      → PostsRead old number keep said new
  -- its receiver learns the stamps of it
  IsHeard : (flies : Flies old number) (node : Node) (disk : List Record) → is_read_body flies.letter.body ≡ true → IsUp old flies.letter.to node disk
      → is_stale flies.letter node.installed ≡ false → said ≡ Heard
      → GoesOnReading (record old { slots = with_slot old.slots flies.letter.to (slot_up (with_stamps flies.letter.body node) disk); flying = flies_on old number flies keep }) new
      → PostsRead old number keep said new
  -- a holder's disk fails as it is read
  FailsForReads : (flies : Flies old number) (node : Node) (disk : List Record) → IsFetchAsk flies.letter.body → IsUp old flies.letter.to node disk
      → is_stale flies.letter node.installed ≡ false → said ≡ Faulted flies.letter.to
      → GoesOnReading (record (cut_world old flies.letter.to disk [] []) { flying = flies_on old number flies keep }) new
      → PostsRead old number keep said new

-- such a letter is dropped
pub record DropsRead (old : World) (number : ℕ) (said : Said) (new : World) : Type 0 where
  pub flies : Flies old number
  pub read : is_read_body flies.letter.body ≡ true
  pub said_is : said ≡ Finished
  pub goes_on : GoesOnReading (record old { flying = flies_on old number flies false }) new

-- the letter that was posted
abbrev pub posted_letter : {plan : Plan} {old : World} {number : ℕ} {keep : Bool} {said : Said} {new : World} → Posts plan old number keep said new → Letter
posted_letter (Posts.NobodyUp flies nobody is e) = flies.letter
posted_letter (Posts.OfOtherEpoch flies node disk up thrown is e) = flies.letter
posted_letter (Posts.TooLate flies node disk up thrown is e) = flies.letter
posted_letter (Posts.IsHeard flies node disk up thrown is e) = flies.letter
posted_letter (Posts.FailsHearing flies node disk up thrown is down g e) = flies.letter
posted_letter (Posts.IsForMaps flies node disk up of fresh is did forms e) = flies.letter
posted_letter (Posts.FailsForMaps flies node disk promise up of fresh is down g e) = flies.letter

-- what each step does that is not refused, by what it says
abbrev pub DoesStep : Plan → Bool → World → Step → Said → World → Type 0
DoesStep plan tells old (Begin node call) said new = BeginsCall plan tells old node call said new ⊎ BeginsRead plan old node call said new
DoesStep plan tells old (AskFor ticket) said new = AnswersAsk plan old ticket said new ⊎ AnswersRead old ticket said new
DoesStep plan tells old (GiveUp ticket) said new = IsGivenUp old ticket said new ⊎ GivesUpRead old ticket said new
DoesStep plan tells old (Post letter keep) said new = ((posts : Posts plan old letter keep said new) × (is_read_body (posted_letter posts).body ≡ false)) ⊎ PostsRead old letter keep said new
DoesStep plan tells old (DropLetter letter) said new = ((drops : Drops old letter said new) × (is_read_body drops.flies.letter.body ≡ false)) ⊎ DropsRead old letter said new
DoesStep plan tells old (PushTo from to) said new = Pushes old from to said new
DoesStep plan tells old (Widen at user id to) said new = Widens old at to (Message user id) said new
DoesStep plan tells old (Form node) said new = FormsAt old node said new
DoesStep plan tells old (Crash node) said new = NodeFalls old node (Down []) (WentDown node) said new
DoesStep plan tells old (Start node) said new = StartsUp plan old node said new
DoesStep plan tells old (Lose node) said new = LosesNode old node said new
DoesStep plan tells old (Tick seconds) said new = (said ≡ Finished) × (new ≡ record old { seconds = seconds })

-- Node n does something for membership or maps in the step: it forms an epoch, or hears such a letter.
abbrev pub FormsIn : World → Node → ℕ → Step → Type 0
FormsIn old node n (Form own) = own ≡ n
FormsIn old node n (Post number keep) = (flies : Flies old number) × (flies.letter.to ≡ n) × IsMapsBody flies.letter.body × (is_stale flies.letter node.installed ≡ false)
FormsIn old node n step = ⊥

-- Memory ran out in a step that had begun its work on a disk: some records are written, and the node is down. A letter that was posted stays in flight.
pub data RunsShort (plan : Plan) (old : World) (step : Step) (n : ℕ) (new : World) : Type 0 where
  Beginning : (call : NodeCall) (node : Node) (disk : List Record) (octets : List ℕ) → step ≡ Begin n call → IsUp old n node disk → IsFiled old n node call octets
      → NodeGoesDown (with_struck old call) n disk (begun_by plan old n node disk call octets).disk new
      → RunsShort plan old step n new
  Hearing : (number : ℕ) (keep : Bool) (flies : Flies old number) (node : Node) (disk : List Record) → step ≡ Post number keep → flies.letter.to ≡ n → IsUp old n node disk
      → NodeGoesDown old n disk (hear n plan.nodes node disk flies.letter).disk new
      → RunsShort plan old step n new
  Widening : (user : List ℕ) (id : Id) (to : ℕ) (node : Node) (disk : List Record) → step ≡ Widen n user id to → IsUp old n node disk
      → NodeGoesDown old n disk (widen n to (Message user id) node disk).disk new
      → RunsShort plan old step n new
  Forming : (node : Node) (disk : List Record) (promise : Option EpochId) → IsUp old n node disk → FormsIn old node n step → NodeGoesDown old n disk (disk ++ promise_records promise) new
      → RunsShort plan old step n new
  Starting : (disk pending next records : List Record) → step ≡ Start n → slot_at old.slots n ≡ Some (record { life = Down pending; disk = disk })
      → StopsStart disk pending next records
      → new ≡ record old { slots = with_slot old.slots n (record { life = Down next; disk = records }); book = old.book ++ WentDown n ∷ [] }
      → RunsShort plan old step n new

-- A start finds that the node has used up its boots: what was pending is kept or lost, and the last boot stands.
pub record IsLastBoot (old : World) (n : ℕ) : Type 0 where
  pub disk : List Record
  pub pending : List Record
  pub here : slot_at old.slots n ≡ Some (record { life = Down pending; disk = disk })
  pub kept : List Record
  pub pending_is : (kept ≡ []) ⊎ (kept ≡ pending)
  pub last : greatest_boot ≤ boot_of (disk ++ kept)

abbrev pub StartIsWorn : World → Step → Type 0
StartIsWorn old (Start n) = IsLastBoot old n
StartIsWorn old step = ⊥

-- a step has no fault but that no ticket of messages stands under this number
abbrev pub HasNoTicket : Plan → World → Step → Number → Type 0
HasNoTicket plan old step number = (first_fault (node_name_fault plan step ∷ actor_fault step old.slots (actor_of step) ∷ []) ≡ None) × (stands_at number (slot_at old.slots number.node) ≡ false)

-- A Form is refused for the sake of membership and maps, too, and an Ask and a GiveUp where no call that reads has such a ticket. These are not seen here.
abbrev pub IsUnseen : Plan → World → Step → StepFault → Type 0
IsUnseen plan old (Form node) fault = Unit {0}
IsUnseen plan old (AskFor number) fault = (fault ≡ NoSuchTicket) × HasNoTicket plan old (AskFor number) number
IsUnseen plan old (GiveUp number) fault = (fault ≡ NoSuchTicket) × HasNoTicket plan old (GiveUp number) number
IsUnseen plan old step fault = ⊥

-- A step is refused where it has a fault, and where a start is worn, and then changes nothing. Out of memory has no cause that is told.
abbrev pub MakesStep : Plan → Bool → World → Step → StepOutcome → World → Type 0
MakesStep plan tells old step (Says said) new = (step_fault plan step old ≡ None) × DoesStep plan tells old step said new
MakesStep plan tells old step (Refused fault) new =
    (((step_fault plan step old ≡ Some fault) ⊎ ((step_fault plan step old ≡ None) × (fault ≡ Worn) × StartIsWorn old step)) ⊎ IsUnseen plan old step fault) × (new ≡ old)
MakesStep plan tells old step (NoMemory None) new = new ≡ old
MakesStep plan tells old step (NoMemory (Some n)) new = RunsShort plan old step n new

-- a step and what came of it
pub record MadeStep : Type 0 where
  pub step : Step
  pub outcome : StepOutcome

abbrev pub MakesAll : Plan → Bool → World → List MadeStep → World → Type 0
MakesAll plan tells old [] new = new ≡ old
MakesAll plan tells old (made ∷ others) new = (mid : World) × MakesStep plan tells old made.step made.outcome mid × MakesAll plan tells mid others new
