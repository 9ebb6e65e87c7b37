-- What calls that read leave of a whole node.
use Rattle.std.specs.Prelude.{◌≡◌, ◌⊎◌, ◌≤◌, ℕ, Bool, true, false, List, [], length, All, Option, Some, None, is_some, Result, Ok, Err}
use Rattle.mail_model.specs.Identity.{Id}
use Rattle.mail_model.specs.Plan.{Plan, Proof}
use Rattle.mail_model.specs.Record.{Record, payloads_of}
use Rattle.object_model.specs.Sets.{has}
use Rattle.object_model.specs.Lists.{Among}
use Rattle.object_model.specs.Letters.{Number, Letter}
use Rattle.cluster_model.specs.Cluster.{CallKind}
use Rattle.cluster_model.specs.Cluster.CallKind.{LoggingIn, Fetching}
use Rattle.cluster_model.specs.Rules.{new_number}
use Rattle.cluster_model.specs.Steps.{NodeCall, asked_of, is_worn_for}
use Rattle.cluster_model.specs.Steps.NodeCall.{Login, Fetch}
use Rattle.cluster_model.specs.Thrown.{is_stale}
use Rattle.login_model.specs.NodeLaws.{HasHolder}
use Rattle.joint_model.specs.Joint.{Node, read_node}
use Rattle.joint_world.specs.Rules as rules
use Rattle.joint_world.specs.Rules.{Reaction}
use Rattle.cluster_model.specs.Makes.{IsFetchAsk}
use Rattle.joint_world.specs.Makes.{refused, learnt, is_late_read}
use Rattle.disk_journal.specs.Journal.{TellsJournal}
use Rattle.node_store.specs.Disks.{View}
use Rattle.node_core.specs.Nodes as mail
use Rattle.node_core.specs.Nodes.{node_seen, NodeKeeps, end_in, CanWork, IsSameNode, IsAsBefore}
use Rattle.node_core.specs.Spelling.{AllCanBeTaken}
use Rattle.node_core.specs.Works.{IsOnlyRead, ReadFailed}
use Rattle.node_core.specs.declared.fault.NodeFault.{NodeFault}
use Rattle.node_core.specs.declared.fault.NodeFault.TheVariants.{Disk, Worn, NoMemory}
use Rattle.node_core.specs.declared.outbox.Why.{Why}
use Rattle.node_core.specs.declared.outbox.Why.TheVariants.{Stale, Late}
use Rattle.node_core.specs.declared.outbox.Outbox.{Outbox}
use Rattle.node_core.specs.declared.node.Node as half
use Rattle.node_reads.specs.Tables.{reads_in}
use Rattle.whole_node.specs.Nodes.{joint_seen}
use Rattle.whole_node.specs.Hearing.{FitsMaps}
use Rattle.whole_node.specs.declared.node.WholeNode.{WholeNode}

-- The half for messages is the same node of the same plan, and its store is as it was.
pub record KeepsMail (old new : half.Node) : Type 0 where
  pub same : IsSameNode old new
  pub keeps : (records : List Record) → NodeKeeps records old → NodeKeeps records new
  pub works : (seen : Option (List ℕ)) → CanWork seen old → CanWork seen new
  pub end_is : end_in new ≡ end_in old

-- nothing of what the node has in memory was changed
pub record IsUnchanged (old new : WholeNode) : Type 0 where
  pub mail : IsAsBefore old.mail new.mail
  pub maps : new.maps ≡ old.maps
  pub reads : reads_in new.reads ≡ reads_in old.reads
  pub locks : new.locks ≡ old.locks

-- Both halves are as they were.
pub record KeepsHalves (old new : WholeNode) : Type 0 where
  pub mail : new.mail ≡ old.mail
  pub maps : new.maps ≡ old.maps

-- letters of calls that read: each can be heard, they are few, and each is of one ticket, or of none
pub record AreReadLetters (sent : List Letter) : Type 0 where
  pub few : length sent ≤ 64
  pub taken : AllCanBeTaken sent
  pub fits : All FitsMaps sent
  pub one : (ticket : Option Number) × ((letter : Letter) → Among letter sent → (letter.ticket ≡ None) ⊎ (letter.ticket ≡ ticket))

-- What a node did for a call that reads, without a look at its disk. Whatever records this has, and whether or not it tells them, the node and the letters are those of the rule.
pub record ReadDid (rule : Bool → Node → List Record → Reaction → Type 0) (old new : WholeNode) (sent : List Letter) : Type 0 where
  pub did : (tells : Bool) (records : List Record) → NodeKeeps records old.mail → rule tells (joint_seen old) records (record { node = joint_seen new; out = sent })
  pub mail : KeepsMail old.mail new.mail
  pub maps : new.maps ≡ old.maps
  pub letters : AreReadLetters sent

-- So it did with a look at its disk, which was read at most.
pub record ReadDone {D : Type 0} (on : View D) (rule : Bool → Node → List Record → Reaction → Type 0) (old : WholeNode) (before : D) (new : WholeNode) (after : D) (sent : List Letter) : Type 0 where
  pub did : (records : List Record) → NodeKeeps records old.mail → TellsJournal (on.seen before) old.mail.store.own (payloads_of records) (end_in old.mail)
      → rule (is_some (on.seen before)) (joint_seen old) records (record { node = joint_seen new; out = sent })
  pub mail : KeepsMail old.mail new.mail
  pub maps : new.maps ≡ old.maps
  pub letters : AreReadLetters sent
  pub read : IsOnlyRead on before after
  pub quiet : on.faults after ≡ on.faults before

-- memory ran out
pub record RanShort {D : Type 0} (on : View D) (old : WholeNode) (before : D) (new : WholeNode) (after : D) : Type 0 where
  pub unchanged : IsUnchanged old new
  pub read : IsOnlyRead on before after
  pub quiet : on.faults after ≡ on.faults before

-- A call that fails at once has a ticket among those of messages, which counts that too few nodes are members. Nothing is sent.
abbrev pub refuses : CallKind → Node → List Record → Reaction
refuses kind node disk = record { node = refused kind node disk; out = [] }

-- A login begins, or fails at once, where the node's map has no manager of the user.
pub data BeginsBy (plan : Plan) (own : ℕ) (user : List ℕ) (proof : Proof) (tells : Bool) (node : Node) (disk : List Record) (did : Reaction) : Type 0 where
  HasNoManager : (read_node tells node).manager user ≡ None → did ≡ refuses LoggingIn node disk → BeginsBy plan own user proof tells node disk did
  LogsIn : rules.LogsIn plan tells own node disk user proof did → BeginsBy plan own user proof tells node disk did

-- A fetch begins, or fails at once, where no holder is a member.
pub data FetchesBy (own : ℕ) (user : List ℕ) (id : Id) (at most holders : ℕ) (tells : Bool) (node : Node) (disk : List Record) (did : Reaction) : Type 0 where
  HasNoHolder : (HasHolder (asked_of node.whole.mail holders) → ⊥) → did ≡ refuses Fetching node disk → FetchesBy own user id at most holders tells node disk did
  Fetches : rules.Fetches tells own node disk user id at most holders did → FetchesBy own user id at most holders tells node disk did

-- the call has begun under the next number, and nothing was thrown
pub record HasBegun (plan : Plan) (own seconds : ℕ) (call : NodeCall) (old : WholeNode) (ticket : Option Number) (outbox : Outbox) : Type 0 where
  pub fresh : is_worn_for plan seconds (node_seen old.mail) call ≡ false
  pub ticket_is : ticket ≡ Some (new_number own (node_seen old.mail))
  pub none_thrown : outbox.thrown ≡ None

-- What comes of a login that begins. It is worn exactly where the number of its ticket is used up.
abbrev pub BeginsLogin : Plan → ℕ → ℕ → List ℕ → Proof → Result (Option Number × Outbox) NodeFault → WholeNode → WholeNode → Type 0
BeginsLogin plan own seconds user proof (Ok begun) old new =
    HasBegun plan own seconds (Login user proof) old begun.0 begun.1 × ReadDid (BeginsBy plan own user proof) old new begun.1.letters
BeginsLogin plan own seconds user proof (Err Disk) old new = ⊥
BeginsLogin plan own seconds user proof (Err Worn) old new = (is_worn_for plan seconds (node_seen old.mail) (Login user proof) ≡ true) × IsUnchanged old new
BeginsLogin plan own seconds user proof (Err (NoMemory true)) old new = ⊥
BeginsLogin plan own seconds user proof (Err (NoMemory false)) old new = IsUnchanged old new

module _ {D : Type 0} (on : View D) (plan : Plan) (own : ℕ) (old : WholeNode) (before : D) (new : WholeNode) (after : D) where
  -- the own disk failed as a part was read for a fetch that begins
  pub record FailsFetching (seconds : ℕ) (user : List ℕ) (id : Id) (at most holders : ℕ) : Type 0 where
    pub fresh : is_worn_for plan seconds (node_seen old.mail) (Fetch user id at most holders) ≡ false
    pub holds : has (asked_of (node_seen old.mail) holders) own ≡ true
    pub failed : ReadFailed on own old.mail before new.mail after

  -- What comes of a fetch that begins.
  abbrev pub BeginsFetch : ℕ → List ℕ → Id → ℕ → ℕ → ℕ → Result (Option Number × Outbox) NodeFault → Type 0
  BeginsFetch seconds user id at most holders (Ok begun) =
      HasBegun plan own seconds (Fetch user id at most holders) old begun.0 begun.1 × ReadDone on (FetchesBy own user id at most holders) old before new after begun.1.letters
  BeginsFetch seconds user id at most holders (Err Disk) = FailsFetching seconds user id at most holders
  BeginsFetch seconds user id at most holders (Err Worn) = (is_worn_for plan seconds (node_seen old.mail) (Fetch user id at most holders) ≡ true) × IsUnchanged old new × (after ≡ before)
  BeginsFetch seconds user id at most holders (Err (NoMemory true)) = ⊥
  BeginsFetch seconds user id at most holders (Err (NoMemory false)) = RanShort on old before new after

  -- a letter of a call that reads was heard: its stamps first, and then by the rule
  pub record ReadHeard (letter : Letter) (sent : List Letter) : Type 0 where
    pub within : is_stale letter (node_seen old.mail).installed ≡ false
    pub in_time : is_late_read own (joint_seen old) letter ≡ false
    pub did : ReadDone on (λ tells node disk did. rules.Hears plan tells own (learnt node letter.body) disk letter letter.body did) old before new after sent

  -- it was thrown, and changed nothing
  pub record ReadThrown (sent : List Letter) : Type 0 where
    pub none : sent ≡ []
    pub unchanged : IsUnchanged old new
    pub untouched : after ≡ before

  abbrev pub ReadHeardOrThrown : Letter → Option Why → List Letter → Type 0
  ReadHeardOrThrown letter None sent = ReadHeard letter sent
  ReadHeardOrThrown letter (Some Stale) sent = (is_stale letter (node_seen old.mail).installed ≡ true) × ReadThrown sent
  ReadHeardOrThrown letter (Some Late) sent = (is_stale letter (node_seen old.mail).installed ≡ false) × (is_late_read own (joint_seen old) letter ≡ true) × ReadThrown sent
  ReadHeardOrThrown letter (Some why) sent = ⊥

  -- What comes of such a letter. The disk is read for a FetchAsk alone, and may fail in it.
  abbrev pub HearsRead : Letter → Result Outbox NodeFault → Type 0
  HearsRead letter (Ok outbox) = ReadHeardOrThrown letter outbox.thrown outbox.letters
  HearsRead letter (Err Disk) = IsFetchAsk letter.body × (is_stale letter (node_seen old.mail).installed ≡ false) × ReadFailed on own old.mail before new.mail after
  HearsRead letter (Err Worn) = ⊥
  HearsRead letter (Err (NoMemory true)) = ⊥
  HearsRead letter (Err (NoMemory false)) = RanShort on old before new after × ((IsFetchAsk letter.body → ⊥) → after ≡ before)
