-- What a node sends and records as a state is acknowledged or retired.
use Rattle.std.proofs.Common.{◌≡◌, ℕ, List, [], ◌∷◌, ◌++◌, Bool, true, false, cond, ◌&&◌, nat_eq, Option, Some, None, refl, ap}
use Rattle.std.specs.Prelude.{All}
use Rattle.std.specs.FinMap as fin
use Rattle.std.proofs.lemmas.Bool.{and_parts}
use Rattle.std.proofs.lemmas.List.Elements.{All-nil, All-cons, All-append}
use Rattle.mail_model.specs.Identity.{Key, State}
use Rattle.mail_model.specs.Grammar.{IsObject, IsRecord}
use Rattle.mail_model.specs.Record.{Record}
use Rattle.mail_model.specs.Record.Record.{Retired}
use Rattle.object_model.specs.Sets.{has, without_node}
use Rattle.object_model.specs.States.{is_same_state}
use Rattle.object_model.specs.UpdateLog.{Logged, cleared}
use Rattle.object_model.specs.Letters.{Letter}
use Rattle.object_model.specs.Letters.Body.{Retire}
use Rattle.object_model.proofs.StateLaws.{state_is}
use Rattle.update_log.specs.Answers.{answer_at}
use Rattle.update_log.specs.declared.logged.Acked.{Acked}
use Rattle.update_log.specs.declared.logged.Acked.TheVariants.{Cleared, Emptied, Other}
use Rattle.replica_push.specs.Rules.{retired_by}
use Rattle.cluster_model.specs.Cluster.{Node, epoch_of}
use Rattle.cluster_model.specs.Rules.{Reaction, idle, receivers, letters_to, acked_at, retired_at}
use Rattle.node_store.specs.Changes.{retired_where}

-- what is sent as a state is acknowledged
abbrev pub out_of : ℕ → ℕ → Node → Key → State → Acked → List Letter
out_of own nodes node key state Emptied = letters_to own (epoch_of node) None (receivers own state.targets nodes) (Retire key state)
out_of own nodes node key state Cleared = []
out_of own nodes node key state Other = []

pub ack_out : (own nodes : ℕ) (node : Node) (disk : List Record) (key : Key) (state : State) (by : ℕ) (stood : Option Logged)
    → (acked_at own nodes node disk key state by stood).out ≡ out_of own nodes node key state (answer_at state by stood)
ack_out own nodes node disk key state by None = refl
ack_out own nodes node disk key state by (Some entry) = at (is_same_state entry.state state && has entry.remaining by) refl (nat_eq (without_node entry.remaining by) 0)
  where
    gone : Reaction
    gone = record {
      node = record node { log = fin.remove node.log key };
      disk = disk ++ Retired key entry.state ∷ [];
      out = letters_to own (epoch_of node) None (receivers own entry.state.targets nodes) (Retire key entry.state);
    }

    fewer : Reaction
    fewer = record { node = record node { log = fin.insert node.log key (cleared by entry) }; disk = disk; out = [] }

    at : (b : Bool) → is_same_state entry.state state && has entry.remaining by ≡ b → (e : Bool)
        → (λ (r : Reaction). r.out) (cond b (cond e gone fewer) (idle node disk)) ≡ out_of own nodes node key state (cond b (cond e Emptied Cleared) Other)
    at true is true = ap (λ (s : State). letters_to own (epoch_of node) None (receivers own s.targets nodes) (Retire key s)) (state_is entry.state state (and_parts (is_same_state entry.state state) (has entry.remaining by) is).0)
    at true is false = refl
    at false is e = refl

-- the record that it is retired
pub acked_fit : (key : Key) (state : State) (acked : Acked) (records : List Record) → IsObject key state → All IsRecord records → All IsRecord (records ++ retired_by key state acked)
acked_fit key state Emptied records one fit = All-append IsRecord records (Retired key state ∷ []) fit (All-cons IsRecord (Retired key state) [] one (All-nil IsRecord))
acked_fit key state Cleared records one fit = All-append IsRecord records [] fit (All-nil IsRecord)
acked_fit key state Other records one fit = All-append IsRecord records [] fit (All-nil IsRecord)

pub retired_fit : (key : Key) (state : State) (b : Bool) (records : List Record) → IsObject key state → All IsRecord records → All IsRecord (records ++ retired_where key state b)
retired_fit key state true records one fit = All-append IsRecord records (Retired key state ∷ []) fit (All-cons IsRecord (Retired key state) [] one (All-nil IsRecord))
retired_fit key state false records one fit = All-append IsRecord records [] fit (All-nil IsRecord)

-- a node that hears that a state is retired sends nothing
pub retired_out : (node : Node) (disk : List Record) (key : Key) (state : State) (stood : Option Logged) → (retired_at node disk key state stood).out ≡ []
retired_out node disk key state None = refl
retired_out node disk key state (Some entry) = by (is_same_state entry.state state)
  where
    by : (b : Bool) → (λ (r : Reaction). r.out) (cond b (record { node = record node { log = fin.remove node.log key }; disk = disk ++ Retired key entry.state ∷ []; out = [] }) (idle node disk)) ≡ []
    by true = refl
    by false = refl
