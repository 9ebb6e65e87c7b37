-- What the rules of a node do to its tickets.
use Rattle.std.proofs.Common.{◌≡◌, inl, inr, ⊎_elim, ◌+◌, ℕ, Bool, true, false, ◌&&◌, not, List, [], ◌∷◌, ◌++◌, Option, Some, None, refl, sym, ap, ◌∙◌, if◌then◌else◌, le_refl, arith}
use Rattle.std.specs.Prelude.{nat_eq}
use Rattle.std.specs.FinMap as fin
use Rattle.std.specs.Cmp.{nat_cmp_total}
use Rattle.std.proofs.lemmas.Map.Lookups.{exact_unsigned}
use Rattle.mail_model.specs.Identity.{Key, State}
use Rattle.mail_model.specs.Record.{Record}
use Rattle.mail_model.specs.Record.Record.{Retired}
use Rattle.mail_model.specs.Listing.{is_here}
use Rattle.object_model.specs.Sets.{has, with_node}
use Rattle.object_model.specs.Said.{said}
use Rattle.object_model.specs.States.{is_same_state}
use Rattle.object_model.specs.Letters.{Body, Letter}
use Rattle.object_model.specs.Letters.Body.{File, Filed, Strike, StrikeTold, Push, PushAck, Retire}
use Rattle.object_model.specs.UpdateLog.{Logged, cleared}
use Rattle.object_model.proofs.MapLaws.{found, left_found}
use Rattle.cluster_model.specs.Cluster.{Ticket, Node, epoch_of}
use Rattle.cluster_model.specs.Store.{take_all}
use Rattle.cluster_model.specs.Rules.{Reaction, idle, store_of, receivers, letters_to, with_updates, ticket_at, seq_at, told_ticket, told_at, hear_told, shrunk, acked_at, retired_at, widened, widen, end_ticket}
use Rattle.cluster_model.specs.Thrown.{with_stamps}
use Rattle.cluster_model.specs.Deeds.{hear, hear_body}
use Rattle.cluster_model.proofs.HearTold.{Answers, answers_of}
use Rattle.cluster_owes.proofs.Standing.{NodeGoes, NoneNew, quiet_node, node_with, same_call, told_call}

-- a ticket that answers a letter is told
told_goes : (node : Node) (disk : List Record) (letter : Letter) (stood : Option Ticket) → ((ticket : Ticket) → stood ≡ Some ticket → fin.get node.tickets (seq_at letter.ticket) ≡ Some ticket)
    → NodeGoes node (told_at node disk letter stood).node NoneNew
told_goes node disk letter None here = quiet_node node node refl refl refl
told_goes node disk letter (Some ticket) here = node_with node (seq_at letter.ticket) ticket (told_ticket letter.body letter.from ticket) (here ticket refl) (told_call letter.body letter.from ticket)

hear_told_goes : (own : ℕ) (node : Node) (disk : List Record) (letter : Letter) → NodeGoes node (hear_told own node disk letter).node NoneNew
hear_told_goes own node disk letter = told_goes node disk letter (ticket_at own node letter.ticket)
    (λ ticket e. at ticket (answers_of own node letter.ticket ticket e))
  where
    at : (ticket : Ticket) → Answers own node letter.ticket ticket → fin.get node.tickets (seq_at letter.ticket) ≡ Some ticket
    at ticket a = ap (λ t. fin.get node.tickets (seq_at t)) a.is ∙ a.here

shrunk_goes : (own nodes : ℕ) (node : Node) (disk : List Record) (key : Key) (entry : Logged) → NodeGoes node (shrunk own nodes node disk key entry).node NoneNew
shrunk_goes own nodes node disk key entry = by (nat_eq entry.remaining 0)
  where
    by : (b : Bool) → NodeGoes node ((λ (r : Reaction). r.node) (if b
        then record {
          node = record node { log = fin.remove node.log key };
          disk = disk ++ Retired key entry.state ∷ [];
          out = letters_to own (epoch_of node) None (receivers own entry.state.targets nodes) (Retire key entry.state);
        }
        else record { node = record node { log = fin.insert node.log key entry }; disk = disk; out = [] })) NoneNew
    by true = quiet_node node _ refl refl refl
    by false = quiet_node node _ refl refl refl

acked_goes : (own nodes : ℕ) (node : Node) (disk : List Record) (key : Key) (state : State) (from : ℕ) (stood : Option Logged) → NodeGoes node (acked_at own nodes node disk key state from stood).node NoneNew
acked_goes own nodes node disk key state from None = quiet_node node node refl refl refl
acked_goes own nodes node disk key state from (Some entry) = by (is_same_state entry.state state && has entry.remaining from)
  where
    by : (b : Bool) → NodeGoes node ((λ (r : Reaction). r.node) (if b then shrunk own nodes node disk key (cleared from entry) else idle node disk)) NoneNew
    by true = shrunk_goes own nodes node disk key (cleared from entry)
    by false = quiet_node node node refl refl refl

retired_goes : (node : Node) (disk : List Record) (key : Key) (state : State) (stood : Option Logged) → NodeGoes node (retired_at node disk key state stood).node NoneNew
retired_goes node disk key state None = quiet_node node node refl refl refl
retired_goes node disk key state (Some entry) = by (is_same_state entry.state state)
  where
    by : (b : Bool) → NodeGoes node ((λ (r : Reaction). r.node) (if b
        then record { node = record node { log = fin.remove node.log key }; disk = disk ++ Retired key entry.state ∷ []; out = [] } else idle node disk)) NoneNew
    by true = quiet_node node _ refl refl refl
    by false = quiet_node node node refl refl refl

body_goes : (own nodes : ℕ) (node : Node) (disk : List Record) (letter : Letter) (body : Body) → NodeGoes node (hear_body own nodes node disk letter body).node NoneNew
body_goes own nodes node disk letter (File id stamp targets users octets) = quiet_node node _ refl refl refl
body_goes own nodes node disk letter (Filed id) = hear_told_goes own node disk letter
body_goes own nodes node disk letter (Strike user marks) = quiet_node node _ refl refl refl
body_goes own nodes node disk letter (StrikeTold user ids) = hear_told_goes own node disk letter
body_goes own nodes node disk letter (Push key state octets) = quiet_node node _ refl refl refl
body_goes own nodes node disk letter (PushAck key state) = acked_goes own nodes node disk key state letter.from (fin.get node.log key)
body_goes own nodes node disk letter (Retire key state) = retired_goes node disk key state (fin.get node.log key)
body_goes own nodes node disk letter body = quiet_node node _ refl refl refl

-- a letter is heard
pub hear_goes : (own nodes : ℕ) (node : Node) (disk : List Record) (letter : Letter) → NodeGoes node (hear own nodes node disk letter).node NoneNew
hear_goes own nodes node disk letter =
    let g = body_goes own nodes (with_stamps letter.body node) disk letter letter.body in
    record { boot = g.boot; calls = g.calls; came = g.came }

-- a state gets a target more
pub widen_goes : (own to : ℕ) (key : Key) (node : Node) (disk : List Record) → NodeGoes node (widen own to key node disk).node NoneNew
widen_goes own to key node disk = by_held (said key disk)
  where
    by_held : (held : Option State) → NodeGoes node (widened own to key node disk held).node NoneNew
    by_held None = quiet_node node node refl refl refl
    by_held (Some held) = by (is_here held.value && not (has held.targets to))
      where
        by : (b : Bool) → NodeGoes node ((λ (r : Reaction). r.node) (if b
            then (let updates = record { key = key; state = record held { targets = with_node held.targets to } } ∷ [] in
            let store = take_all own updates (store_of node disk) in
            record { node = with_updates own node updates store; disk = store.disk; out = [] })
            else idle node disk)) NoneNew
        by true = quiet_node node _ refl refl refl
        by false = quiet_node node node refl refl refl

-- a ticket ends
pub end_goes : (seq : ℕ) (node : Node) (disk : List Record) → NodeGoes node (end_ticket seq node disk).node NoneNew
end_goes seq node disk = record {
  boot = refl;
  calls = le_refl node.calls;
  came = λ at ticket e. inl (ticket, (left_found nat_cmp_total exact_unsigned node.tickets seq at ticket e).1, same_call ticket);
}

-- and stands no more
pub ended : (seq : ℕ) (node : Node) (disk : List Record) (ticket : Ticket) → fin.get (end_ticket seq node disk).node.tickets seq ≡ Some ticket → ⊥
ended seq node disk ticket e = (left_found nat_cmp_total exact_unsigned node.tickets seq seq ticket e).0 refl

-- a ticket begins under the next number
pub begin_goes : (node next : Node) (new : Ticket) → next.boot ≡ node.boot → next.calls ≡ node.calls + 1 → next.tickets ≡ fin.insert node.tickets (node.calls + 1) new
    → NodeGoes node next (λ seq ticket. (seq ≡ node.calls + 1) × (ticket ≡ new))
begin_goes node next new boot calls tickets = record {
  boot = boot;
  calls = let is = calls in omega (arith, is);
  came = λ seq ticket e. ⊎_elim
      (λ is. inr is)
      (λ (apart, stood). inl (ticket, stood, same_call ticket))
      (found nat_cmp_total exact_unsigned node.tickets (node.calls + 1) new seq ticket (sym (ap (λ t. fin.get t seq) tickets) ∙ e));
}
