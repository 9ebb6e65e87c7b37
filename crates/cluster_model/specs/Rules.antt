-- What one node does: with a call that begins, with a letter that it hears, and with what it is told to do. It sees its own disk and nothing of other nodes.
use Rattle.std.specs.Prelude.{ℕ, zero, suc, ◌+◌, max, Bool, false, not, ◌&&◌, ◌||◌, nat_eq, List, [], ◌∷◌, ◌++◌, length, map, flat_map, Option, Some, None, if◌then◌else◌}
use Rattle.std.specs.List.{list_any}
use Rattle.std.specs.FinMap as fin
use Rattle.std.specs.Cmp.Lexicographic.{pointwise}
use Rattle.sha2.specs.Sha256.{sha256}
use Rattle.mail_model.specs.Identity.{Id, Stamp, EpochId, Key, Value, State}
use Rattle.mail_model.specs.Identity.Key.{Profile, Message}
use Rattle.mail_model.specs.Identity.Value.{Here, Gone, Secret}
use Rattle.mail_model.specs.Record.{Record}
use Rattle.mail_model.specs.Record.Record.{Retired}
use Rattle.mail_model.specs.Listing.{is_same_id, is_here, octets_in}
use Rattle.object_model.specs.Sets.{has, one_node, with_node, without_node, all_nodes}
use Rattle.object_model.specs.States.{is_same_state}
use Rattle.object_model.specs.Said.{said}
use Rattle.object_model.specs.Letters.{Number, DeletionMark, Body, Letter}
use Rattle.object_model.specs.Letters.Body.{File, Filed, Strike, StrikeTold, Push, PushAck, Retire}
use Rattle.object_model.specs.UpdateLog.{Logged, cleared}
use Rattle.object_model.specs.Mishaps.{MishapKind, Mishaps, no_mishaps, counted}
use Rattle.cluster_model.specs.Cluster.{NodeFiling, AskedOfNodes, Want, CallKind, Ticket, Node, epoch_of}
use Rattle.cluster_model.specs.Cluster.CallKind.{Delivering, Striking}
use Rattle.cluster_model.specs.Cluster.AskedOfNodes.{Copies, Deletion}
use Rattle.cluster_model.specs.Store.{Store, Update, take_all, here_updates, gone_updates, with_octets}

-- what a call leaves of the node and of its disk, and the letters that it sends in order of receiver
pub record Reaction : Type 0 where
  pub node : Node
  pub disk : List Record
  pub out : List Letter

-- nothing is done
abbrev pub idle : Node → List Record → Reaction
idle node disk = record { node = node; disk = disk; out = [] }

-- the node's log and its disk
abbrev pub store_of : Node → List Record → Store
store_of node disk = record { log = node.log; disk = disk }

-- The letter that answers this one. It carries the same epoch, since a letter of another epoch is not heard.
abbrev pub answer : Letter → Body → Letter
answer letter body = record { from = letter.to; to = letter.from; epoch = letter.epoch; ticket = letter.ticket; body = body }

-- the greatest number that was drawn for a message, or that a record names for the node and its boot
abbrev pub greatest_named : ℕ → ℕ → Key → ℕ
greatest_named own boot (Profile user) = 0
greatest_named own boot (Message user id) = if nat_eq id.node own && nat_eq id.boot boot then id.seq else 0

abbrev pub drawn_past : ℕ → ℕ → ℕ → List Update → ℕ
drawn_past own boot drawn [] = drawn
drawn_past own boot drawn (update ∷ updates) = drawn_past own boot (max drawn (greatest_named own boot update.key)) updates

-- the node once it took these updates
abbrev pub with_updates : ℕ → Node → List Update → Store → Node
with_updates own node updates store = record node { drawn = drawn_past own node.boot node.drawn updates; log = store.log }

-- File: each user's copy is taken, and octets are stored where a copy is here and has none yet. It is confirmed in every case.
abbrev pub hear_file : ℕ → Node → List Record → Letter → Id → Stamp → ℕ → List (List ℕ) → List ℕ → Reaction
hear_file own node disk letter id stamp targets users octets =
    let store = take_all own (here_updates id stamp targets users) (store_of node (with_octets id users octets disk)) in
    record { node = with_updates own node (here_updates id stamp targets users) store; disk = store.disk; out = answer letter (Filed id) ∷ [] }

-- Strike: each deletion is taken, for all nodes of the plan
abbrev pub hear_strike : ℕ → ℕ → Node → List Record → Letter → List ℕ → List DeletionMark → Reaction
hear_strike own nodes node disk letter user marks =
    let store = take_all own (gone_updates user (all_nodes nodes) marks) (store_of node disk) in
    record {
      node = with_updates own node (gone_updates user (all_nodes nodes) marks) store;
      disk = store.disk;
      out = answer letter (StrikeTold user (map (λ mark. mark.id) marks)) ∷ [];
    }

-- the disk with the octets that a Push carries
abbrev pub with_pushed : Key → Option (List ℕ) → List Record → List Record
with_pushed (Profile user) octets disk = disk
with_pushed (Message user id) None disk = disk
with_pushed (Message user id) (Some octets) disk = with_octets id (user ∷ []) octets disk

-- Push: the state is taken, and acknowledged in every case
abbrev pub hear_push : ℕ → Node → List Record → Letter → Key → State → Option (List ℕ) → Reaction
hear_push own node disk letter key state octets =
    let updates = record { key = key; state = state } ∷ [] in
    let store = take_all own updates (store_of node (with_pushed key octets disk)) in
    record { node = with_updates own node updates store; disk = store.disk; out = answer letter (PushAck key state) ∷ [] }

-- whether a letter tells that this was done
abbrev pub tells : Body → AskedOfNodes → Bool
tells (Filed id) (Copies filing) = is_same_id id filing.id
tells (StrikeTold user ids) (Deletion name id) = pointwise nat_eq user name && list_any (λ one. is_same_id one id) ids
tells body asked = false

-- who waits or failed is confirmed, where the letter tells so
abbrev pub told_want : Body → ℕ → Want → Want
told_want body from want =
    if tells body want.asked && (has want.waiting from || has want.failed from)
    then record want { confirmed = with_node want.confirmed from; waiting = without_node want.waiting from; failed = without_node want.failed from }
    else want

abbrev pub told_ticket : Body → ℕ → Ticket → Ticket
told_ticket body from ticket = record ticket { wants = map (told_want body from) ticket.wants }

-- the standing ticket that a letter answers
abbrev pub ticket_at : ℕ → Node → Option Number → Option Ticket
ticket_at own node None = None
ticket_at own node (Some number) = if nat_eq number.node own && nat_eq number.boot node.boot then fin.get node.tickets number.seq else None

abbrev pub seq_at : Option Number → ℕ
seq_at None = 0
seq_at (Some number) = number.seq

abbrev pub with_ticket : Node → ℕ → Ticket → Node
with_ticket node seq ticket = record node { tickets = fin.insert node.tickets seq ticket }

abbrev pub told_at : Node → List Record → Letter → Option Ticket → Reaction
told_at node disk letter None = idle node disk
told_at node disk letter (Some ticket) = record { node = with_ticket node (seq_at letter.ticket) (told_ticket letter.body letter.from ticket); disk = disk; out = [] }

-- Filed, StrikeTold: the ticket counts the sender as confirmed. Where it stands no more the letter is late.
abbrev pub hear_told : ℕ → Node → List Record → Letter → Reaction
hear_told own node disk letter = told_at node disk letter (ticket_at own node letter.ticket)

-- the nodes of the set, but for the own one, in rising order
abbrev pub receivers : ℕ → ℕ → ℕ → List ℕ
receivers own mask zero = []
receivers own mask (suc k) = receivers own mask k ++ (if has mask (suc k) && not (nat_eq (suc k) own) then suc k ∷ [] else [])

-- one letter to each of them
abbrev pub letters_to : ℕ → EpochId → Option Number → List ℕ → Body → List Letter
letters_to own epoch ticket to body = map (λ m. record { from = own; to = m; epoch = epoch; ticket = ticket; body = body }) to

-- an entry with fewer remaining: where none remains it is taken out and retired, and all other targets are told
abbrev pub shrunk : ℕ → ℕ → Node → List Record → Key → Logged → Reaction
shrunk own nodes node disk key entry =
    if nat_eq entry.remaining 0
    then record {
      node = record node { log = fin.remove node.log key };
      disk = disk ++ Retired key entry.state ∷ [];
      out = letters_to own (epoch_of node) None (receivers own entry.state.targets nodes) (Retire key entry.state);
    }
    else record { node = record node { log = fin.insert node.log key entry }; disk = disk; out = [] }

abbrev pub acked_at : ℕ → ℕ → Node → List Record → Key → State → ℕ → Option Logged → Reaction
acked_at own nodes node disk key state from None = idle node disk
acked_at own nodes node disk key state from (Some entry) =
    if is_same_state entry.state state && has entry.remaining from
    then shrunk own nodes node disk key (cleared from entry)
    else idle node disk

-- PushAck: the sender is taken out of an entry of that very state
abbrev pub hear_ack : ℕ → ℕ → Node → List Record → Key → State → ℕ → Reaction
hear_ack own nodes node disk key state from = acked_at own nodes node disk key state from (fin.get node.log key)

abbrev pub retired_at : Node → List Record → Key → State → Option Logged → Reaction
retired_at node disk key state None = idle node disk
retired_at node disk key state (Some entry) =
    if is_same_state entry.state state
    then record { node = record node { log = fin.remove node.log key }; disk = disk ++ Retired key entry.state ∷ []; out = [] }
    else idle node disk

-- Retire: an entry of that very state is taken out and retired
abbrev pub hear_retired : Node → List Record → Key → State → Reaction
hear_retired node disk key state = retired_at node disk key state (fin.get node.log key)

-- the octets that a Push of this value carries
abbrev pub pushed_octets : Key → Value → List Record → Option (List ℕ)
pushed_octets (Profile user) value disk = None
pushed_octets (Message user id) Here disk = octets_in id disk
pushed_octets (Message user id) Gone disk = None
pushed_octets (Message user id) (Secret octets) disk = None

abbrev pub push_of : ℕ → ℕ → EpochId → List Record → Key → Option Logged → List Letter
push_of own to epoch disk key None = []
push_of own to epoch disk key (Some entry) =
    if has entry.remaining to
    then record { from = own; to = to; epoch = epoch; ticket = None; body = Push key entry.state (pushed_octets key entry.state.value disk) } ∷ []
    else []

-- Pushes of the entries of these keys that are due to the node. The keys are the first that are due, as far as room allows.
abbrev pub push : ℕ → ℕ → List Key → Node → List Record → Reaction
push own to keys node disk = record { node = node; disk = disk; out = flat_map (λ key. push_of own to (epoch_of node) disk key (fin.get node.log key)) keys }

-- whether a copy is here and has not that target
abbrev pub can_widen : ℕ → Option State → Bool
can_widen to None = false
can_widen to (Some held) = is_here held.value && not (has held.targets to)

abbrev pub widened : ℕ → ℕ → Key → Node → List Record → Option State → Reaction
widened own to key node disk None = idle node disk
widened own to key node disk (Some held) =
    if is_here held.value && not (has held.targets to)
    then (let updates = record { key = key; state = record held { targets = with_node held.targets to } } ∷ [] in
    let store = take_all own updates (store_of node disk) in
    record { node = with_updates own node updates store; disk = store.disk; out = [] })
    else idle node disk

-- a state that is here gets a target more
abbrev pub widen : ℕ → ℕ → Key → Node → List Record → Reaction
widen own to key node disk = widened own to key node disk (said key disk)

-- a want that begins: the own node has confirmed where it is asked, and the others are waited for
abbrev pub new_want : ℕ → AskedOfNodes → ℕ → Want
new_want own asked targets = record { asked = asked; confirmed = if has targets own then one_node own else 0; waiting = without_node targets own; failed = 0 }

-- a ticket that begins
abbrev pub new_number : ℕ → Node → Number
new_number own node = record { node = own; boot = node.boot; seq = node.calls + 1 }

-- Deliver: the message gets an id and a stamp, is taken where the own node is a target, and is sent to the other targets
abbrev pub begin_deliver : ℕ → ℕ → ℕ → Node → List Record → List (List ℕ) → List ℕ → ℕ → Reaction
begin_deliver own nodes seconds node disk users octets targets =
    let id : Id = record { node = own; boot = node.boot; seq = node.drawn + 1 } in
    let stamp : Stamp = record { count = node.count + 1; boot = node.boot; node = own } in
    let filing : NodeFiling = record { id = id; users = users; seconds = seconds; size = length octets; digest = sha256 octets } in
    let store = if has targets own then take_all own (here_updates id stamp targets users) (store_of node (with_octets id users octets disk)) else store_of node disk in
    record {
      node = record node {
        drawn = node.drawn + 1;
        count = node.count + 1;
        calls = node.calls + 1;
        log = store.log;
        tickets = fin.insert node.tickets (node.calls + 1) (record { kind = Delivering; wants = new_want own (Copies filing) targets ∷ []; mishaps = no_mishaps });
      };
      disk = store.disk;
      out = letters_to own (epoch_of node) (Some (new_number own node)) (receivers own targets nodes) (File id stamp targets users octets);
    }

-- one deletion of a Strike, and the nodes that are asked for it
pub record StrikeItem : Type 0 where
  pub mark : DeletionMark
  pub asks : ℕ

-- each deletion gets a stamp of its own
abbrev pub dated : ℕ → Node → ℕ → List (Id × ℕ) → List StrikeItem
dated own node count [] = []
dated own node count (item ∷ items) =
    record { mark = record { id = item.0; stamp = record { count = count + 1; boot = node.boot; node = own } }; asks = item.1 } ∷ dated own node (count + 1) items

-- the deletions that node m is asked for
abbrev pub marks_for : ℕ → List StrikeItem → List DeletionMark
marks_for m [] = []
marks_for m (item ∷ items) = (if has item.asks m then item.mark ∷ [] else []) ++ marks_for m items

abbrev pub strike_to : ℕ → EpochId → Number → List ℕ → ℕ → List DeletionMark → List Letter
strike_to own epoch number user m [] = []
strike_to own epoch number user m (mark ∷ marks) = record { from = own; to = m; epoch = epoch; ticket = Some number; body = Strike user (mark ∷ marks) } ∷ []

abbrev pub strikes_to : ℕ → EpochId → Number → List ℕ → List StrikeItem → ℕ → List Letter
strikes_to own epoch number user items zero = []
strikes_to own epoch number user items (suc k) =
    strikes_to own epoch number user items k ++ (if nat_eq (suc k) own then [] else strike_to own epoch number user (suc k) (marks_for (suc k) items))

-- Strike begins: what the own node is asked for is taken, and each other node is sent what it is asked for
abbrev pub begin_strike : ℕ → ℕ → Node → List Record → List ℕ → List (Id × ℕ) → Reaction
begin_strike own nodes node disk user asked =
    let items = dated own node node.count asked in
    let updates = gone_updates user (all_nodes nodes) (marks_for own items) in
    let store = take_all own updates (store_of node disk) in
    record {
      node = record node {
        drawn = drawn_past own node.boot node.drawn updates;
        count = node.count + length asked;
        calls = node.calls + 1;
        log = store.log;
        tickets = fin.insert node.tickets (node.calls + 1) (record { kind = Striking; wants = map (λ item. new_want own (Deletion user item.mark.id) item.asks) items; mishaps = no_mishaps });
      };
      disk = store.disk;
      out = strikes_to own (epoch_of node) (new_number own node) user items nodes;
    }

-- a ticket is taken out, as it is answered or given up
abbrev pub end_ticket : ℕ → Node → List Record → Reaction
end_ticket seq node disk = record { node = record node { tickets = fin.remove node.tickets seq }; disk = disk; out = [] }

-- A call that fails at once: it has a ticket that wants nothing, with its mishaps, and a Deliver has drawn its number. Nothing is filed or sent.
abbrev pub refuse : CallKind → Mishaps → ℕ → Node → List Record → Reaction
refuse kind mishaps drawn node disk = record {
  node = record node { drawn = node.drawn + drawn; calls = node.calls + 1; tickets = fin.insert node.tickets (node.calls + 1) (record { kind = kind; wants = []; mishaps = mishaps }) };
  disk = disk;
  out = [];
}

-- a node fails, where it is waited for
abbrev pub failed_want : ℕ → Want → Want
failed_want at want = if has want.waiting at then record want { waiting = without_node want.waiting at; failed = with_node want.failed at } else want

abbrev pub failed_at : MishapKind → Node → List Record → ℕ → ℕ → Option Ticket → Reaction
failed_at kind node disk seq at None = idle node disk
failed_at kind node disk seq at (Some ticket) =
    record { node = with_ticket node seq (record ticket { wants = map (failed_want at) ticket.wants; mishaps = counted kind ticket.mishaps }); disk = disk; out = [] }

-- a mishap of a letter to or from node `at` is noted at a ticket
abbrev pub mishap : MishapKind → ℕ → ℕ → Node → List Record → Reaction
mishap kind seq at node disk = failed_at kind node disk seq at (fin.get node.tickets seq)
