-- What a node with locks does for calls that read: the rules of `login_model`, and what they do to the locks of the maildrops that the node manages.
use Rattle.std.specs.Prelude.{◌≡◌, ℕ, Bool, true, false, nat_eq, List, [], Option, Some, None, if◌then◌else◌}
use Rattle.mail_model.specs.Identity.{Id}
use Rattle.mail_model.specs.Plan.{Plan, Proof, proves}
use Rattle.mail_model.specs.Record.{Record}
use Rattle.object_model.specs.Sets.{has}
use Rattle.object_model.specs.Mishaps.{MishapKind}
use Rattle.object_model.specs.Letters.{Number, LoginWord, ToldItem, ToldPart, Body, Letter}
use Rattle.object_model.specs.Letters.LoginWord.{Named, Wrong, InUse}
use Rattle.object_model.specs.Letters.Body.{LoginAsk, LoginTold, ListAsk, ListTold, FetchAsk, FetchTold, Unlock}
use Rattle.cluster_model.specs.Steps.{asked_of}
use Rattle.login_model.specs.Cluster as login
use Rattle.login_model.specs.Readings.{LoginStage, Login, Reading, ReadTicket}
use Rattle.login_model.specs.Readings.LoginStage.{AsksManager, IsDenied, AsksNodes, HasFailed}
use Rattle.login_model.specs.Readings.Reading.{LogsIn as LogsInReading, Fetches as FetchesReading}
use Rattle.object_model.specs.Locks.{Held, holder_beside, taken, released}
use Rattle.login_model.specs.Rules as login_rules
use Rattle.login_model.specs.Rules.{idle, answering, judge, first_stamp, under, next_number, begin_read, begin_login, begin_fetch, hear_told, read_at, mishap, end_read, give_up_read, leave}
use Rattle.login_model.specs.Facts.{IsToldList, IsToldPart}
use Rattle.login_model.specs.NodeLaws.{HasHolder, HasMine}
use Rattle.joint_model.specs.Joint.{Node, read_node}
use Rattle.joint_model.specs.Laws.{with_reaction}

-- what a node does, and the letters that it sends
pub record Reaction : Type 0 where
  pub node : Node
  pub out : List Letter

-- a rule of calls that read was done, and it left these locks
abbrev pub reacted : Node → login_rules.Reaction → Held → Reaction
reacted node did locks = record { node = with_reaction node did locks; out = did.out }

-- the word of a manager, and the locks that it leaves
pub record Judged : Type 0 where
  pub word : LoginWord
  pub locks : Held

abbrev pub judged_beside : login.Node → List ℕ → Number → Held → Option Number → Judged
judged_beside node user number locks None = record { word = Named (node.named user); locks = taken user number locks }
judged_beside node user number locks (Some by) = record { word = InUse by; locks = locks }

-- Where the proof is right and no other login has the maildrop, this one takes its lock, and the nodes are named.
abbrev pub judged : Plan → login.Node → List ℕ → Proof → Number → Held → Judged
judged plan node user proof number locks =
    if proves plan user proof then judged_beside node user number locks (holder_beside user number locks) else record { word = Wrong first_stamp; locks = locks }

-- so for a letter; one without a ticket takes no lock
abbrev pub judged_for : Plan → login.Node → List ℕ → Proof → Option Number → Held → Judged
judged_for plan node user proof None locks = record { word = judge plan node user proof; locks = locks }
judged_for plan node user proof (Some number) locks = judged plan node user proof number locks

-- the word that a node gives to a login of its own
abbrev pub judged_here : Plan → Bool → ℕ → Node → List ℕ → Proof → Judged
judged_here plan tells own node user proof = judged plan (read_node tells node) user proof (next_number own (read_node tells node)) node.locks

-- A login begins, at a node whose map has a manager of the user. Where the node is that itself, it judges at once.
pub record LogsIn (plan : Plan) (tells : Bool) (own : ℕ) (node : Node) (disk : List Record) (user : List ℕ) (proof : Proof) (did : Reaction) : Type 0 where
  pub manager : ℕ
  pub managed : (read_node tells node).manager user ≡ Some manager
  pub mine : List ToldItem
  pub lists : (named : ℕ) → manager ≡ own → (judged_here plan tells own node user proof).word ≡ Named named → has named own ≡ true → IsToldList user disk mine
  pub is : did ≡ reacted node
      (begin_read own (read_node tells node) (begin_login (under own (read_node tells node) (next_number own (read_node tells node))) user proof manager (judged_here plan tells own node user proof).word mine))
      (if nat_eq manager own then (judged_here plan tells own node user proof).locks else node.locks)

-- A fetch begins, with a holder among them.
pub record Fetches (tells : Bool) (own : ℕ) (node : Node) (disk : List Record) (user : List ℕ) (id : Id) (at most holders : ℕ) (did : Reaction) : Type 0 where
  pub some : HasHolder (asked_of node.whole.mail holders)
  pub part : ToldPart
  pub says : has (asked_of node.whole.mail holders) own ≡ true → IsToldPart tells user id at most disk part
  pub is : did ≡ reacted node
      (begin_read own (read_node tells node) (begin_fetch (under own (read_node tells node) (next_number own (read_node tells node))) user id at most (asked_of node.whole.mail holders) part)) node.locks

-- what a node does with a letter of a call that reads
abbrev pub Hears : Plan → Bool → ℕ → Node → List Record → Letter → Body → Reaction → Type 0
Hears plan tells own node disk letter (LoginAsk user proof) did =
    did ≡ reacted node (answering (read_node tells node) letter (LoginTold (judged_for plan (read_node tells node) user proof letter.ticket node.locks).word)) (judged_for plan (read_node tells node) user proof letter.ticket node.locks).locks
Hears plan tells own node disk letter (ListAsk user) did = (mine : List ToldItem) × IsToldList user disk mine × (did ≡ reacted node (answering (read_node tells node) letter (ListTold mine)) node.locks)
Hears plan tells own node disk letter (FetchAsk user id at most) did =
    (part : ToldPart) × IsToldPart tells user id at most disk part × (did ≡ reacted node (answering (read_node tells node) letter (FetchTold part)) node.locks)
Hears plan tells own node disk letter (LoginTold word) did =
    (mine : List ToldItem) × HasMine own (read_node tells node) disk letter word mine × (did ≡ reacted node (hear_told own (read_node tells node) letter mine) node.locks)
Hears plan tells own node disk letter (ListTold items) did = did ≡ reacted node (hear_told own (read_node tells node) letter []) node.locks
Hears plan tells own node disk letter (FetchTold part) did = did ≡ reacted node (hear_told own (read_node tells node) letter []) node.locks
Hears plan tells own node disk letter (Unlock user number) did = did ≡ reacted node (idle (read_node tells node)) (released user number node.locks)
Hears plan tells own node disk letter body did = ⊥

-- a lock that the node itself manages goes back without a letter
abbrev pub let_go : ℕ → Number → Reading → Held → Held
let_go own number (LogsInReading login) locks = if nat_eq login.manager own then released login.user number locks else locks
let_go own number (FetchesReading fetch) locks = locks

-- whether a login fails by a mishap at a node
abbrev pub login_fails : ℕ → Login → LoginStage → Bool
login_fails at login AsksManager = nat_eq at login.manager
login_fails at login (IsDenied word) = false
login_fails at login (AsksNodes named waiting told) = has waiting at
login_fails at login HasFailed = false

abbrev pub fails_by : ℕ → Reading → Bool
fails_by at (LogsInReading login) = login_fails at login login.stage
fails_by at (FetchesReading fetch) = false

abbrev pub locks_befallen : ℕ → ℕ → Number → Held → Option ReadTicket → Held
locks_befallen own at number locks None = locks
locks_befallen own at number locks (Some ticket) = if fails_by at ticket.reading then let_go own number ticket.reading locks else locks

-- A mishap of a letter to or from node `at` is noted at a ticket.
abbrev pub befallen : Bool → ℕ → MishapKind → ℕ → Node → Number → Reaction
befallen tells own kind at node number =
    reacted node (mishap own kind at (read_node tells node) number) (locks_befallen own at number node.locks (read_at own (read_node tells node) (Some number)))

-- a ticket is taken out, as it is answered
abbrev pub ended : Bool → Node → ℕ → Reaction
ended tells node seq = reacted node (end_read (read_node tells node) seq) node.locks

-- whether the manager of a login may have given it a lock
abbrev pub login_may_hold : LoginStage → Bool
login_may_hold AsksManager = true
login_may_hold (IsDenied word) = false
login_may_hold (AsksNodes named waiting told) = true
login_may_hold HasFailed = false

abbrev pub may_hold : Reading → Bool
may_hold (LogsInReading login) = login_may_hold login.stage
may_hold (FetchesReading fetch) = false

-- a ticket is given up
abbrev pub given_up : Bool → ℕ → Node → Number → Reading → Reaction
given_up tells own node number reading =
    reacted node (give_up_read own (read_node tells node) number reading) (if may_hold reading then let_go own number reading node.locks else node.locks)

-- a session has ended
abbrev pub left : Bool → ℕ → Node → List ℕ → Number → ℕ → Reaction
left tells own node user number manager =
    reacted node (leave own (read_node tells node) user number manager) (if nat_eq manager own then released user number node.locks else node.locks)
