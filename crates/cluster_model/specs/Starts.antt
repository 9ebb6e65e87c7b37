-- What a node finds on its disk as it starts.
use Rattle.std.specs.Prelude.{◌≡◌, ◌≢◌, ◌⊎◌, ℕ, zero, suc, ◌+◌, max, true, false, ◌&&◌, nat_eq, List, [], ◌∷◌, ◌++◌, Option, Some, None, if◌then◌else◌}
use Rattle.std.specs.FinMap as fin
use Rattle.mail_model.specs.Identity.{EpochId, Key, State, no_epoch}
use Rattle.mail_model.specs.Record.{Record}
use Rattle.mail_model.specs.Record.Record.{Boot, Promise, Octets, Stated, Retired}
use Rattle.object_model.specs.Sets.{has, without_node}
use Rattle.object_model.specs.Lists.{Among}
use Rattle.object_model.specs.States.{join_with}
use Rattle.object_model.specs.Said.{said}
use Rattle.object_model.specs.Letters.{Member, MapRow, Membership}
use Rattle.object_model.specs.UpdateLog.{Logged, Log, noted, retired}
use Rattle.cluster_model.specs.Cluster.{Node}
use Rattle.cluster_model.specs.Claims.{boot_of}
use Rattle.cluster_model.specs.Rules.{greatest_named}

-- The first epoch, in which a cluster opens over empty disks, has all nodes of the plan as members, each in its first boot. It has one map of managers, which messages do not see.
abbrev pub first_epoch : EpochId
first_epoch = record { count = 1; node = 1 }

abbrev pub first_members : ℕ → List Member
first_members zero = []
first_members (suc k) = first_members k ++ record { node = suc k; boot = 1; was = no_epoch } ∷ []

abbrev pub first_membership : ℕ → List MapRow → Membership
first_membership nodes map = record { epoch = first_epoch; members = first_members nodes; map = map }

-- a node that is up in its first boot and in the first epoch, and has done nothing
abbrev pub fresh_node : ℕ → List MapRow → Node
fresh_node nodes map = record { boot = 1; drawn = 0; count = 0; calls = 0; installed = Some (first_membership nodes map); log = fin.empty; tickets = fin.empty }

-- the greatest count of a stamp in the states of these records
abbrev pub greatest_count_on : ℕ → List Record → ℕ
greatest_count_on count [] = count
greatest_count_on count (Stated key state ∷ records) = greatest_count_on (max count state.stamp.count) records
greatest_count_on count (Boot boot ∷ records) = greatest_count_on count records
greatest_count_on count (Promise epoch ∷ records) = greatest_count_on count records
greatest_count_on count (Octets id octets ∷ records) = greatest_count_on count records
greatest_count_on count (Retired key state ∷ records) = greatest_count_on count records

-- the greatest number of a message that these records name for a node and its boot
abbrev pub drawn_on : ℕ → ℕ → ℕ → List Record → ℕ
drawn_on own boot drawn [] = drawn
drawn_on own boot drawn (Octets id octets ∷ records) = drawn_on own boot (max drawn (if nat_eq id.node own && nat_eq id.boot boot then id.seq else 0)) records
drawn_on own boot drawn (Stated key state ∷ records) = drawn_on own boot (max drawn (greatest_named own boot key)) records
drawn_on own boot drawn (Retired key state ∷ records) = drawn_on own boot (max drawn (greatest_named own boot key)) records
drawn_on own boot drawn (Boot other ∷ records) = drawn_on own boot drawn records
drawn_on own boot drawn (Promise epoch ∷ records) = drawn_on own boot drawn records

-- a state that a record has: it is owed to its targets but for the own node
abbrev pub owed_state : ℕ → Key → State → Log → Log
owed_state own key state log = if nat_eq (without_node state.targets own) 0 then fin.remove log key else noted own key state log

-- the log once these records came after those that were seen
abbrev pub log_after : ℕ → List Record → Log → List Record → Log
log_after own seen log [] = log
log_after own seen log (Stated key state ∷ records) = log_after own (seen ++ Stated key state ∷ []) (owed_state own key (join_with (said key seen) state) log) records
log_after own seen log (Retired key state ∷ records) = log_after own (seen ++ Retired key state ∷ []) (retired key state log) records
log_after own seen log (Boot boot ∷ records) = log_after own (seen ++ Boot boot ∷ []) log records
log_after own seen log (Promise epoch ∷ records) = log_after own (seen ++ Promise epoch ∷ []) log records
log_after own seen log (Octets id octets ∷ records) = log_after own (seen ++ Octets id octets ∷ []) log records

-- What a start finds for the log: each state that the disk says is owed to all its other targets again, unless a Retired record of that very state stands after it.
abbrev pub recovered : ℕ → List Record → Log
recovered own records = log_after own [] fin.empty records

-- In other words: an entry is of the state that the disk says, who remains is a target, and a target that does not remain is covered by a Retired record.
pub record IsRecovered (own : ℕ) (log : Log) (disk : List Record) : Type 0 where
  pub logged : (key : Key) (entry : Logged) → fin.get log key ≡ Some entry → said key disk ≡ Some entry.state
  pub owed : (key : Key) (entry : Logged) → fin.get log key ≡ Some entry → (m : ℕ) → has entry.remaining m ≡ true → has entry.state.targets m ≡ true
  pub whole : (key : Key) (state : State) (m : ℕ) → said key disk ≡ Some state → has state.targets m ≡ true → m ≢ own
      → ((entry : Logged) → fin.get log key ≡ Some entry → has entry.remaining m ≡ false) → Among (Retired key state) disk

-- the node that starts over these records, with this epoch installed
abbrev pub started : ℕ → Option Membership → ℕ → List Record → Node
started own installed boot records = record {
  boot = boot;
  drawn = drawn_on own boot 0 records;
  count = greatest_count_on 0 records;
  calls = 0;
  installed = installed;
  log = recovered own records;
  tickets = fin.empty;
}

-- A start keeps or loses what was pending, and records the next boot before all else. It leaves the node without an epoch: the next that is formed lets it in.
pub record StartsNode (own : ℕ) (disk pending : List Record) (node : Node) (new : List Record) : Type 0 where
  pub kept : List Record
  pub pending_is : (kept ≡ []) ⊎ (kept ≡ pending)
  pub records : new ≡ (disk ++ kept) ++ Boot (boot_of (disk ++ kept) + 1) ∷ []
  pub is : node ≡ started own None (boot_of (disk ++ kept) + 1) new

-- A start that its disk cuts: what was pending is kept or lost, and the record of the boot may be pending, or nothing. Where not even the disk started, all is as it was.
pub record StopsStart (disk pending : List Record) (next new : List Record) : Type 0 where
  pub kept : List Record
  pub pending_is : (kept ≡ []) ⊎ (kept ≡ pending)
  pub records : new ≡ disk ++ kept
  pub next_is : (next ≡ []) ⊎ (next ≡ Boot (boot_of (disk ++ kept) + 1) ∷ []) ⊎ ((kept ≡ []) × (next ≡ pending))
