-- How what a replica does with its table and its log follows the rules of the cluster: those of a node whose disk says what the table holds.
use Rattle.std.specs.Prelude.{◌≡◌, ℕ, ◌≤◌, nat_eq, List, [], ◌∷◌, ◌++◌, Option, Some, None, if◌then◌else◌}
use Rattle.std.specs.FinMap as fin
use Rattle.mail_model.specs.Identity.{Key, State}
use Rattle.mail_model.specs.Record.{Record}
use Rattle.mail_model.specs.Record.Record.{Stated, Retired}
use Rattle.object_model.specs.Said.{said}
use Rattle.object_model.specs.Sets.{without_node}
use Rattle.object_model.specs.States.{join_with}
use Rattle.object_model.specs.UpdateLog.{Log, is_of, retired}
use Rattle.object_table.specs.Tables.{Table, taken}
use Rattle.update_log.specs.Answers.{answer_at}
use Rattle.update_log.specs.declared.logged.Acked.{Acked}
use Rattle.update_log.specs.declared.logged.Acked.TheVariants.{Cleared, Emptied, Other}
use Rattle.cluster_model.specs.Cluster.{Node}
use Rattle.cluster_model.specs.Store.{Store, take_one}
use Rattle.cluster_model.specs.Rules as rule
use Rattle.replica_push.specs.Acks.{after_ack}
use Rattle.replica_push.specs.Pushes.{news_of, note_news, wider_of}

-- the disk says of each object what the table holds
abbrev pub TableTells : Table → List Record → Type 0
TableTells table disk = (key : Key) → fin.get table key ≡ said key disk

-- what is recorded of news: the state, and that it is retired where no other node is a target
abbrev pub records_of : ℕ → Key → Option State → List Record
records_of own key None = []
records_of own key (Some state) = if nat_eq (without_node state.targets own) 0 then Stated key state ∷ Retired key state ∷ [] else Stated key state ∷ []

-- news that no other node is a target of is retired at once
abbrev pub settled : ℕ → Key → Option State → Log → Log
settled own key None log = log
settled own key (Some state) log = if nat_eq (without_node state.targets own) 0 then retired key state log else log

-- A store that takes the state by the rules: its log is that of `hear_push`, once news for no other node is retired; its disk has the records of what `hear_push` answers, and says what the table then holds.
pub record IsTakenByRules (own : ℕ) (key : Key) (state : State) (table : Table) (old new : Store) : Type 0 where
  pub log : new.log ≡ settled own key (news_of (fin.get table key) state) (note_news own key (news_of (fin.get table key) state) old.log)
  pub disk : new.disk ≡ old.disk ++ records_of own key (news_of (fin.get table key) state)
  pub tells : TableTells (taken key state table) new.disk

abbrev pub PushesFollow : Type 0
PushesFollow = (own : ℕ) (key : Key) (state : State) (table : Table) (store : Store) → TableTells table store.disk
    → IsTakenByRules own key state table store (take_one own (record { key = key; state = state }) store)

-- A target more is heard as a push of the wider state would be: that state is the news, and its own join.
abbrev pub WideningFollows : Type 0
WideningFollows = (held next : State) (to : ℕ) → 1 ≤ to → to ≤ 64 → wider_of held to ≡ Some next
    → (news_of (Some held) next ≡ Some next) × (join_with (Some held) next ≡ next)

-- that a state is retired is recorded with the last acknowledgement
abbrev pub retired_by : Key → State → Acked → List Record
retired_by key state Emptied = Retired key state ∷ []
retired_by key state Cleared = []
retired_by key state Other = []

-- a node's log, and its disk
pub record IsLeft (node : Node) (log : Log) (disk : List Record) (left : rule.Reaction) : Type 0 where
  pub node_is : left.node ≡ record node { log = log }
  pub disk_is : left.disk ≡ disk

-- A node that hears PushAck has the log of `hear_ack`, and records Retired exactly where that answers Emptied.
abbrev pub AcksFollow : Type 0
AcksFollow = (own nodes : ℕ) (node : Node) (disk : List Record) (key : Key) (state : State) (by : ℕ)
    → IsLeft node (after_ack key state by (answer_at state by (fin.get node.log key)) node.log) (disk ++ retired_by key state (answer_at state by (fin.get node.log key)))
    (rule.hear_ack own nodes node disk key state by)

-- A node that hears Retire has the log of `hear_retired`, and records Retired exactly where that answers true.
abbrev pub RetiringFollows : Type 0
RetiringFollows = (node : Node) (disk : List Record) (key : Key) (state : State)
    → IsLeft node (retired key state node.log) (disk ++ (if is_of state (fin.get node.log key) then Retired key state ∷ [] else [])) (rule.hear_retired node disk key state)
