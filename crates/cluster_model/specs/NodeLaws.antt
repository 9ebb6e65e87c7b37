-- That the rules of a node are acts of the machine.
use Rattle.std.specs.Prelude.{◌≡◌, ◌≢◌, ◌⊎◌, ◌≤◌, ℕ, ◌+◌, true, List, [], ◌++◌, map, Option, Some, None}
use Rattle.mail_model.specs.Identity.{Id, Key}
use Rattle.mail_model.specs.Lines.{ends_in_crlf}
use Rattle.mail_model.specs.Record.{Record}
use Rattle.object_model.specs.Sets.{has}
use Rattle.object_model.specs.Lists.{Among}
use Rattle.object_model.specs.States.{join_with}
use Rattle.object_model.specs.Said.{said}
use Rattle.object_model.specs.Letters.{Letter, is_read_body}
use Rattle.object_model.specs.Mishaps.{MishapKind, Mishaps}
use Rattle.cluster_model.specs.Cluster.{CallKind, Node, Life, Slot}
use Rattle.cluster_model.specs.Cluster.Life.{Down, Lost}
use Rattle.cluster_model.specs.Store.{Store, Update, take_one, take_all}
use Rattle.cluster_model.specs.Moves.{Content, IsReady, IsAct, IsCallDone}
use Rattle.cluster_model.specs.Starts.{StartsNode, StopsStart, IsRecovered, recovered}
use Rattle.cluster_model.specs.Thrown.{with_stamps}
use Rattle.cluster_model.specs.Rules.{Reaction, idle, push, widen, begin_deliver, begin_strike, end_ticket, refuse, mishap}
use Rattle.cluster_model.specs.Deeds.{slot_up, act_of, cut_act, drop_act, start_act, stop_act, IsOfPlan, hear}

abbrev pub NodesHear : Type 0
NodesHear = (own nodes : ℕ) (node : Node) (disk : List Record) (letter : Letter) → IsOfPlan own nodes → letter.to ≡ own → IsReady own (slot_up node disk) (Some letter)
    → IsCallDone (act_of own (with_stamps letter.body node) disk (hear own nodes node disk letter) (Some letter) None [])

-- the message that a Deliver files
abbrev pub content_of : ℕ → Node → List (List ℕ) → List ℕ → Content
content_of own node users octets = record { id = record { node = own; boot = node.boot; seq = node.drawn + 1 }; users = users; octets = octets }

abbrev pub NodesDeliver : Type 0
NodesDeliver = (own nodes seconds : ℕ) (node : Node) (disk : List Record) (users : List (List ℕ)) (octets : List ℕ) (targets : ℕ) → ((m : ℕ) → has targets m ≡ true → m ≤ nodes) → ends_in_crlf octets ≡ true
    → IsReady own (slot_up node disk) None
    → IsCallDone (act_of own node disk (begin_deliver own nodes seconds node disk users octets targets) None (Some (content_of own node users octets)) [])

abbrev pub NodesStrike : Type 0
NodesStrike = (own nodes : ℕ) (node : Node) (disk : List Record) (user : List ℕ) (asked : List (Id × ℕ)) → IsOfPlan own nodes
    → ((pair : Id × ℕ) → Among pair asked → (m : ℕ) → has pair.1 m ≡ true → m ≤ nodes) → IsReady own (slot_up node disk) None
    → IsCallDone (act_of own node disk (begin_strike own nodes node disk user asked) None None (map (λ pair. (user, pair.0)) asked))

abbrev pub NodesPush : Type 0
NodesPush = (own to : ℕ) (keys : List Key) (node : Node) (disk : List Record) → IsReady own (slot_up node disk) None → IsCallDone (act_of own node disk (push own to keys node disk) None None [])

abbrev pub NodesWiden : Type 0
NodesWiden = (own to : ℕ) (key : Key) (node : Node) (disk : List Record) → IsReady own (slot_up node disk) None → IsCallDone (act_of own node disk (widen own to key node disk) None None [])

abbrev pub NodesEnd : Type 0
NodesEnd = (own seq : ℕ) (node : Node) (disk : List Record) → IsReady own (slot_up node disk) None → IsCallDone (act_of own node disk (end_ticket seq node disk) None None [])

abbrev pub NodesRefuse : Type 0
NodesRefuse = (own : ℕ) (kind : CallKind) (mishaps : Mishaps) (drawn : ℕ) (node : Node) (disk : List Record) → IsReady own (slot_up node disk) None → IsCallDone (act_of own node disk (refuse kind mishaps drawn node disk) None None [])

-- For a call that reads it draws numbers of tickets, learns stamps, and sends letters of such calls.
abbrev pub NodesRead : Type 0
NodesRead = (own calls count : ℕ) (out : List Letter) (node : Node) (disk : List Record) → ((letter : Letter) → Among letter out → is_read_body letter.body ≡ true) → IsReady own (slot_up node disk) None
    → IsCallDone (act_of own node disk (record { node = record node { calls = calls; count = count }; disk = disk; out = out }) None None [])

abbrev pub NodesNote : Type 0
NodesNote = (kind : MishapKind) (own seq at : ℕ) (node : Node) (disk : List Record) → IsReady own (slot_up node disk) None → IsCallDone (act_of own node disk (mishap kind seq at node disk) None None [])

-- whatever call it is, a fault of the disk may cut it
abbrev pub NodesFault : Type 0
NodesFault = (own : ℕ) (node : Node) (disk : List Record) (did : Reaction) (heard : Option Letter) (files : Option Content) (strikes : List (List ℕ × Id))
    → IsReady own (slot_up node disk) heard → (is : IsAct (act_of own node disk did heard files strikes))
    → (front pending missing : List Record) → is.grows.0 ≡ (front ++ pending) ++ missing → IsAct (cut_act own node disk heard files strikes front pending)

abbrev pub NodesFall : Type 0
NodesFall = (n : ℕ) (before : Slot) (life : Life) → before.life ≢ Lost → (life ≡ Down []) ⊎ (life ≡ Lost) → IsReady n before None → IsAct (drop_act n before life)

abbrev pub NodesStart : Type 0
NodesStart = (n : ℕ) (disk pending new : List Record) (node : Node) → StartsNode n disk pending node new → IsReady n (record { life = Down pending; disk = disk }) None
    → IsAct (start_act n disk pending node new)

-- a start that its disk cuts is one, too
abbrev pub NodesStopStart : Type 0
NodesStopStart = (n : ℕ) (disk pending next new : List Record) → StopsStart disk pending next new → IsReady n (record { life = Down pending; disk = disk }) None
    → IsAct (stop_act n disk pending next new)

-- what a start finds for the log owes each state that the disk says to all other targets, unless it is retired
abbrev pub StartsOwe : Type 0
StartsOwe = (own : ℕ) (records : List Record) → IsRecovered own (recovered own records) records

-- A node that hears a letter learns its stamps first, which is an act that changes nothing else.
abbrev pub NodesLearn : Type 0
NodesLearn = (own : ℕ) (node : Node) (disk : List Record) (letter : Letter) → IsReady own (slot_up node disk) None
    → IsCallDone (act_of own node disk (idle (with_stamps letter.body node) disk) None None [])

-- A state that is taken: the disk then says the join of what it said and of the state, and of every other key what it said.
abbrev pub TakesJoin : Type 0
TakesJoin = (own : ℕ) (update : Update) (store : Store)
    → (said update.key (take_one own update store).disk ≡ Some (join_with (said update.key store.disk) update.state))
    × ((key : Key) → key ≢ update.key → said key (take_one own update store).disk ≡ said key store.disk)

-- and of a key that is not taken it says what it said
abbrev pub TakesOnly : Type 0
TakesOnly = (own : ℕ) (updates : List Update) (store : Store) (key : Key) → ((u : Update) → Among u updates → key ≢ u.key)
    → said key (take_all own updates store).disk ≡ said key store.disk
