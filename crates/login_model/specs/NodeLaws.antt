-- That the rules of a node are acts of the machine.
use Rattle.std.specs.Prelude.{◌≡◌, ◌≢◌, ◌⊎◌, ◌≤◌, ◌<◌, ℕ, true, List, [], ◌∷◌, ◌++◌, Option, Some, None}
use Rattle.std.specs.FinMap as map
use Rattle.mail_model.specs.Identity.{Id}
use Rattle.mail_model.specs.Plan.{Plan, Proof}
use Rattle.mail_model.specs.Record.{Record}
use Rattle.object_model.specs.Sets.{has}
use Rattle.object_model.specs.Lists.{Among}
use Rattle.object_model.specs.Mishaps.{MishapKind}
use Rattle.object_model.specs.Letters.{Number, LoginWord, ToldItem, ToldPart, Body, Letter}
use Rattle.object_model.specs.Letters.LoginWord.{Named}
use Rattle.object_model.specs.Letters.Body.{LoginAsk, LoginTold, ListAsk, ListTold, FetchAsk, FetchTold}
use Rattle.cluster_model.specs.Claims.{boot_of}
use Rattle.login_model.specs.Readings.{Login, Reading, ReadTicket}
use Rattle.login_model.specs.Readings.Reading.{LogsIn}
use Rattle.login_model.specs.Cluster.{Node, Life, Slot, Cluster, slot_at, slot_up, NodesRead}
use Rattle.login_model.specs.Cluster.Life.{Up, Down, Lost}
use Rattle.login_model.specs.Rules.{Reaction, idle, answering, IsWordOf, hear_told, read_at, under, next_number, begin_read, begin_login, begin_fetch, mishap, end_read, give_up_read, leave}
use Rattle.login_model.specs.Facts.{IsToldList, IsToldPart, subject_asked, is_told, GoesOut, far_end}
use Rattle.login_model.specs.Moves.{NodeAct, Move, MayMove, MayMoves, IsReady, IsAct, IsCallDone}
use Rattle.login_model.specs.Moves.Move.{Acted, Taken}
use Rattle.login_model.specs.Parts.{Sound}

-- what a node does for calls that read: its disk stays
abbrev pub act_of : ℕ → Node → List Record → Reaction → Option Letter → NodeAct
act_of own node disk did heard = record { node = own; before = slot_up node disk; after = slot_up did.node disk; heard = heard; out = did.out }

-- The own list is at hand where a login is told that the own node is named.
abbrev pub HasMine : ℕ → Node → List Record → Letter → LoginWord → List ToldItem → Type 0
HasMine own node disk letter word mine = (login : Login) (ticket : ReadTicket) → read_at own node letter.ticket ≡ Some ticket → ticket.reading ≡ LogsIn login
    → (named : ℕ) → word ≡ Named named → has named own ≡ true → IsToldList login.user disk mine

-- what a node does with a letter of a call that reads
abbrev pub Hears : Plan → ℕ → Node → List Record → Letter → Body → Reaction → Type 0
Hears plan own node disk letter (LoginAsk user proof) did = (word : LoginWord) × IsWordOf plan node user proof word × (did ≡ answering node letter (LoginTold word))
Hears plan own node disk letter (ListAsk user) did = (mine : List ToldItem) × IsToldList user disk mine × (did ≡ answering node letter (ListTold mine))
Hears plan own node disk letter (FetchAsk user id at most) did = (part : ToldPart) × IsToldPart node.tells user id at most disk part × (did ≡ answering node letter (FetchTold part))
Hears plan own node disk letter (LoginTold word) did = (mine : List ToldItem) × HasMine own node disk letter word mine × (did ≡ hear_told own node letter mine)
Hears plan own node disk letter (ListTold items) did = did ≡ hear_told own node letter []
Hears plan own node disk letter (FetchTold part) did = did ≡ hear_told own node letter []
Hears plan own node disk letter other did = did ≡ idle node

abbrev pub NodesHear : Type 0
NodesHear = (plan : Plan) (own : ℕ) (node : Node) (disk : List Record) (letter : Letter) (did : Reaction) → Hears plan own node disk letter letter.body did
    → IsReady own (slot_up node disk) (Some letter) → IsCallDone (act_of own node disk did (Some letter))

abbrev pub NodesLogIn : Type 0
NodesLogIn = (plan : Plan) (own : ℕ) (node : Node) (disk : List Record) (user : List ℕ) (proof : Proof) (manager : ℕ) (word : LoginWord) (mine : List ToldItem) → node.manager user ≡ Some manager
    → (manager ≡ own → IsWordOf plan node user proof word) → ((named : ℕ) → manager ≡ own → word ≡ Named named → has named own ≡ true → IsToldList user disk mine) → IsReady own (slot_up node disk) None
    → IsCallDone (act_of own node disk (begin_read own node (begin_login (under own node (next_number own node)) user proof manager word mine)) None)

-- some node is a holder
abbrev pub HasHolder : ℕ → Type 0
HasHolder holders = (m : ℕ) × (has holders m ≡ true)

abbrev pub NodesFetch : Type 0
NodesFetch = (own : ℕ) (node : Node) (disk : List Record) (user : List ℕ) (id : Id) (at most holders : ℕ) (part : ToldPart) → HasHolder holders
    → (has holders own ≡ true → IsToldPart node.tells user id at most disk part) → IsReady own (slot_up node disk) None
    → IsCallDone (act_of own node disk (begin_read own node (begin_fetch (under own node (next_number own node)) user id at most holders part)) None)

abbrev pub NodesBefall : Type 0
NodesBefall = (own : ℕ) (node : Node) (disk : List Record) (kind : MishapKind) (at : ℕ) (number : Number) → IsReady own (slot_up node disk) None
    → IsCallDone (act_of own node disk (mishap own kind at node number) None)

abbrev pub NodesEnd : Type 0
NodesEnd = (own : ℕ) (node : Node) (disk : List Record) (seq : ℕ) → IsReady own (slot_up node disk) None → IsCallDone (act_of own node disk (end_read node seq) None)

abbrev pub NodesGiveUp : Type 0
NodesGiveUp = (own : ℕ) (node : Node) (disk : List Record) (number : Number) (reading : Reading) → IsReady own (slot_up node disk) None
    → IsCallDone (act_of own node disk (give_up_read own node number reading) None)

abbrev pub NodesLeave : Type 0
NodesLeave = (own : ℕ) (node : Node) (disk : List Record) (user : List ℕ) (login : Number) (manager : ℕ) → IsReady own (slot_up node disk) None
    → IsCallDone (act_of own node disk (leave own node user login manager) None)

-- All letters of these rules are letters of calls that read, from the node to others.
pub record RulesGoOut : Type 0 where
  pub hears : (plan : Plan) (own : ℕ) (node : Node) (disk : List Record) (letter : Letter) (did : Reaction) → letter.to ≡ own → letter.from ≢ own → Hears plan own node disk letter letter.body did
      → (one : Letter) → Among one did.out → GoesOut own one
  pub logs_in : (own : ℕ) (node : Node) (user : List ℕ) (proof : Proof) (manager : ℕ) (word : LoginWord) (mine : List ToldItem) (one : Letter)
      → Among one (begin_login (under own node (next_number own node)) user proof manager word mine).out → GoesOut own one
  pub fetches : (own : ℕ) (node : Node) (user : List ℕ) (id : Id) (at most holders : ℕ) (part : ToldPart) (one : Letter)
      → Among one (begin_fetch (under own node (next_number own node)) user id at most holders part).out → GoesOut own one
  pub befalls : (own : ℕ) (kind : MishapKind) (at : ℕ) (node : Node) (number : Number) (one : Letter) → Among one (mishap own kind at node number).out → GoesOut own one
  pub gives_up : (own : ℕ) (node : Node) (number : Number) (reading : Reading) (one : Letter) → Among one (give_up_read own node number reading).out → GoesOut own one
  pub leaves : (own : ℕ) (node : Node) (user : List ℕ) (login : Number) (manager : ℕ) (one : Letter) → Among one (leave own node user login manager).out → GoesOut own one

-- no letter of a call that reads
abbrev pub IsOtherLetter : Letter → Type 0
IsOtherLetter letter = (subject_asked letter.body ≡ None) × (is_told letter.body ≡ true → ⊥)

-- What a node does otherwise, for messages, membership and maps: its tickets of calls that read stay.
abbrev pub NodesDoOther : Type 0
NodesDoOther = (own : ℕ) (node new : Node) (disk after : List Record) (heard : Option Letter) (out : List Letter) → new.boot ≡ node.boot → node.calls ≤ new.calls → new.reads ≡ node.reads
    → boot_of after ≡ boot_of disk → ((letter : Letter) → heard ≡ Some letter → IsOtherLetter letter) → ((letter : Letter) → Among letter out → IsOtherLetter letter)
    → IsReady own (slot_up node disk) heard → IsCallDone (record { node = own; before = slot_up node disk; after = slot_up new after; heard = heard; out = out })

-- A node goes down or is lost, whatever its disk then holds.
abbrev pub NodesFall : Type 0
NodesFall = (n : ℕ) (before : Slot) (life : Life) (after : List Record) (heard : Option Letter) → (life ≡ Down) ⊎ (life ≡ Lost) → boot_of before.disk ≤ boot_of after
    → IsReady n before heard → IsAct (record { node = n; before = before; after = record { life = life; disk = after }; heard = heard; out = [] })

-- A node starts in a later boot, without tickets.
abbrev pub NodesStart : Type 0
NodesStart = (n : ℕ) (disk after : List Record) (node : Node) → node.boot ≡ boot_of after → boot_of disk < node.boot → node.reads ≡ map.empty
    → IsAct (record { node = n; before = record { life = Down; disk = disk }; after = slot_up node after; heard = None; out = [] })

-- Where no node has such a ticket, and no letter asks or tells, a cluster is sound.
abbrev pub OpeningIsSound : Type 0
OpeningIsSound = (slots : List Slot) (flying : List Letter)
    → ((slot : Slot) → Among slot slots → (node : Node) → slot.life ≡ Up node → (node.boot ≡ boot_of slot.disk) × (node.reads ≡ map.empty))
    → ((letter : Letter) → Among letter flying → IsOtherLetter letter) → Sound (record { slots = slots; flying = flying; story = slots ∷ [] })

-- A mishap befalls a letter: it is noted at the letter's ticket, where that stands, and it is taken out. These are the moves.
abbrev pub lost_moves : ℕ → Node → List Record → MishapKind → Letter → Number → List Letter → List Move
lost_moves own node disk kind letter number left =
    Acted (act_of own node disk (mishap own kind (far_end letter number) node number) None) ∷ Taken letter (left ++ (mishap own kind (far_end letter number) node number).out) ∷ []

-- They may be made, where the letter was in flight and all others stay so.
abbrev pub LostMayMove : Type 0
LostMayMove = (w : Cluster) → Sound w → (kind : MishapKind) (letter : Letter) (number : Number) (left : List Letter) → letter.ticket ≡ Some number → Among letter w.flying
    → ((one : Letter) → Among one left → Among one w.flying) → ((one : Letter) → Among one w.flying → Among one left ⊎ (one ≡ letter))
    → (node : Node) (disk : List Record) → slot_at w.slots number.node ≡ Some (slot_up node disk) → MayMoves (lost_moves number.node node disk kind letter number left) w

-- Where the node of the ticket is not up, or has another boot, or the letter has no ticket, it is taken out alone.
abbrev pub LateMayMove : Type 0
LateMayMove = (w : Cluster) (letter : Letter) (left : List Letter) → ((one : Letter) → Among one left → Among one w.flying) → ((one : Letter) → Among one w.flying → Among one left ⊎ (one ≡ letter))
    → ((number : Number) → letter.ticket ≡ Some number → (reading : Reading) → NodesRead w.slots number reading → ⊥) → MayMove (Taken letter left) w

-- A letter is heard: the node acts, and the letter is taken out.
abbrev pub HeardMayMove : Type 0
HeardMayMove = (w : Cluster) → Sound w → (act : NodeAct) (letter : Letter) (left : List Letter) → slot_at w.slots act.node ≡ Some act.before → act.heard ≡ Some letter → Among letter w.flying → letter.to ≡ act.node
    → (IsReady act.node act.before act.heard → IsCallDone act)
    → ((one : Letter) → Among one left → Among one w.flying) → ((one : Letter) → Among one w.flying → Among one left ⊎ (one ≡ letter))
    → MayMoves (Acted act ∷ Taken letter (left ++ act.out) ∷ []) w
