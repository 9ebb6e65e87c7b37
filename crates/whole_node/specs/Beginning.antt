-- What a node does for a call that reads as it begins, before it draws the number of its ticket.
use Rattle.std.specs.Prelude.{◌≡◌, ◌+◌, ℕ, Bool, true, false, List, Option, Some, None, is_some, Result, Ok, Err}
use Rattle.mail_model.specs.Identity.{Id}
use Rattle.mail_model.specs.Plan.{Plan, Proof}
use Rattle.mail_model.specs.Record.{Record, payloads_of}
use Rattle.object_model.specs.Sets.{has}
use Rattle.object_model.specs.Letters.{Number, LoginWord, ToldItem, ToldPart, Letter}
use Rattle.object_model.specs.Letters.LoginWord.{Named}
use Rattle.cluster_model.specs.Cluster.{CallKind, epoch_of}
use Rattle.cluster_model.specs.Rules.{new_number}
use Rattle.cluster_model.specs.Steps.{NodeCall, is_worn_for}
use Rattle.cluster_model.specs.Makes.{DrawsTicket}
use Rattle.login_model.specs.Facts.{IsToldList, IsToldPart}
use Rattle.login_model.specs.Rules.{begin_login, begin_fetch}
use Rattle.joint_model.specs.Joint.{Node}
use Rattle.joint_world.specs.Rules as rules
use Rattle.disk_journal.specs.Journal.{TellsJournal}
use Rattle.node_store.specs.Disks.{View}
use Rattle.node_core.specs.Nodes.{node_seen, NodeKeeps, end_in}
use Rattle.node_core.specs.Works.{IsOnlyRead, ReadFailed}
use Rattle.node_core.specs.declared.outbox.Outbox.{Outbox}
use Rattle.node_core.specs.declared.fault.NodeFault.{NodeFault}
use Rattle.node_core.specs.declared.fault.NodeFault.TheVariants.{Disk, Worn, NoMemory}
use Rattle.node_reads.specs.Tables.{reads_in, Begins}
use Rattle.whole_node.specs.Nodes.{joint_seen}
use Rattle.whole_node.specs.Reading.{IsUnchanged, ReadDid, refuses}
use Rattle.whole_node.specs.declared.node.WholeNode.{WholeNode}

-- the node once it has drawn the number of a ticket
abbrev pub with_number : Node → Node
with_number node = record node { whole = record node.whole { mail = record node.whole.mail { calls = node.whole.mail.calls + 1 } } }

-- whether calls that read are worn
abbrev pub AreWorn : WholeNode → Bool → Type 0
AreWorn node worn = (plan : Plan) (seconds : ℕ) (call : NodeCall) → DrawsTicket call → is_worn_for plan seconds (node_seen node.mail) call ≡ worn

-- A call that reads fails at once.
pub record HasRefused (kind : CallKind) (old : WholeNode) (ticket : Option Number) (outbox : Outbox) (new : WholeNode) : Type 0 where
  pub fresh : AreWorn old false
  pub ticket_is : ticket ≡ Some (new_number old.mail.store.own (node_seen old.mail))
  pub none_thrown : outbox.thrown ≡ None
  pub did : ReadDid (λ tells node disk did. did ≡ refuses kind node disk) old new outbox.letters

abbrev pub RefusesAs : CallKind → Result (Option Number × Outbox) NodeFault → WholeNode → WholeNode → Type 0
RefusesAs kind (Ok begun) old new = HasRefused kind old begun.0 begun.1 new
RefusesAs kind (Err Disk) old new = ⊥
RefusesAs kind (Err Worn) old new = AreWorn old true × IsUnchanged old new
RefusesAs kind (Err (NoMemory true)) old new = ⊥
RefusesAs kind (Err (NoMemory false)) old new = IsUnchanged old new

-- The node takes its own word for a login of this number, with its own list where that names it.
pub record TakesOwnWord (user : List ℕ) (ticket : Number) (word : LoginWord) (letters : List Letter) (old new : WholeNode) : Type 0 where
  pub mine : List ToldItem
  pub lists : (records : List Record) → NodeKeeps records old.mail → (named : ℕ) → word ≡ Named named → has named old.mail.store.own ≡ true → IsToldList user records mine
  pub begins : (proof : Proof) → Begins (epoch_of (node_seen old.mail)) ticket.seq (λ u. begin_login u user proof old.reads.own word mine) letters old.reads new.reads

-- a login began by the rule, but for its number
abbrev pub LogsInAs : Plan → List ℕ → Proof → List Letter → WholeNode → WholeNode → Type 0
LogsInAs plan user proof letters old new = (tells : Bool) (records : List Record) → NodeKeeps records old.mail
    → rules.LogsIn plan tells old.mail.store.own (joint_seen old) records user proof (record { node = with_number (joint_seen new); out = letters })

-- some of these holders are asked, none of which is the own node
abbrev pub AsksAHolder : List ℕ → Id → ℕ → ℕ → ℕ → Number → List Letter → WholeNode → WholeNode → Type 0
AsksAHolder user id at most asked ticket letters old new =
    (part : ToldPart) → Begins (epoch_of (node_seen old.mail)) ticket.seq (λ u. begin_fetch u user id at most asked part) letters old.reads new.reads

module _ {D : Type 0} (on : View D) (user : List ℕ) (id : Id) (at most asked : ℕ) (ticket : Number) (old : WholeNode) (before : D) (new : WholeNode) (after : D) where
  -- a fetch began under this number
  pub record FetchBegan (letters : List Letter) : Type 0 where
    pub part : ToldPart
    pub says : has asked old.mail.store.own ≡ true → (records : List Record) → NodeKeeps records old.mail
        → TellsJournal (on.seen before) old.mail.store.own (payloads_of records) (end_in old.mail) → IsToldPart (is_some (on.seen before)) user id at most records part
    pub begins : Begins (epoch_of (node_seen old.mail)) ticket.seq (λ u. begin_fetch u user id at most asked part) letters old.reads new.reads
    pub read : IsOnlyRead on before after
    pub quiet : on.faults after ≡ on.faults before

  -- memory ran out, and the tickets are as before
  pub record FetchRanShort : Type 0 where
    pub reads : reads_in new.reads ≡ reads_in old.reads
    pub read : IsOnlyRead on before after
    pub quiet : on.faults after ≡ on.faults before

  -- What comes of it. The own disk is read, and may fail, where the own node is one of the holders.
  abbrev pub FetchesAmong : Result (List Letter) NodeFault → Type 0
  FetchesAmong (Ok letters) = FetchBegan letters
  FetchesAmong (Err Disk) = (has asked old.mail.store.own ≡ true) × ReadFailed on old.mail.store.own old.mail before new.mail after
  FetchesAmong (Err Worn) = ⊥
  FetchesAmong (Err (NoMemory true)) = ⊥
  FetchesAmong (Err (NoMemory false)) = FetchRanShort
