-- What a node does with a delivery or a deletion that begins.
use Rattle.std.specs.Prelude.{◌≡◌, ◌⊎◌, ℕ, List, [], map, true, false, Option, Some, None, ⊤, Result, Ok, Err}
use Rattle.mail_model.specs.Lines.{ends_in_crlf}
use Rattle.mail_model.specs.Plan.{Plan}
use Rattle.object_model.specs.Letters.{Number, Letter}
use Rattle.mail_base.specs.declared.item.Item.{Item}
use Rattle.mail_base.specs.Bodies.{proof_seen}
use Rattle.mail_base.specs.Delivers.{mail_in}
use Rattle.call_tickets.specs.declared.call.Call as code
use Rattle.call_tickets.specs.declared.call.Call.TheVariants as kind
use Rattle.cluster_model.specs.Cluster.{CallKind}
use Rattle.cluster_model.specs.World.{World}
use Rattle.cluster_model.specs.Rules.{refuse, new_number}
use Rattle.cluster_model.specs.Steps.NodeCall.{Deliver, Login, Fetch, Strike, Leave}
use Rattle.cluster_model.specs.Steps.{Struck, NodeCall, mishaps_of_call, fails_at_once, ids_drawn, is_worn_for}
use Rattle.cluster_model.specs.Makes.{IsFiled, begun_by, kind_of_call}
use Rattle.node_store.specs.Disks.{View}
use Rattle.node_store.specs.Appends.{Fails}
use Rattle.node_store.specs.declared.fault.KeepFault.{KeepFault}
use Rattle.node_store.specs.declared.fault.KeepFault.TheVariants as keep
use Rattle.node_core.specs.Nodes.{node_seen, IsAsBefore}
use Rattle.node_core.specs.Works.{NodeDid, NodeStopped, IsOnlyRead}
use Rattle.node_core.specs.declared.fault.NodeFault.{NodeFault}
use Rattle.node_core.specs.declared.fault.NodeFault.TheVariants.{Disk, Worn, NoMemory}
use Rattle.node_core.specs.declared.outbox.Outbox.{Outbox}
use Rattle.node_core.specs.declared.node.Node.{Node}

-- a world of which only the seconds matter: a call of one node reads nothing else of it
abbrev pub at_second : ℕ → World
at_second seconds = record { slots = []; flying = []; sent = 0; seconds = seconds; book = [] }

-- the copies that a Strike names, each with the targets that its listing told
abbrev pub struck_of : List Item → List Struck
struck_of items = map (λ item. record { id = item.id; targets = item.targets }) items

-- a call of the code in the machine's words
abbrev pub call_seen : code.Call → NodeCall
call_seen (kind.Deliver deliver) = Deliver (mail_in deliver)
call_seen (kind.Login user proof) = Login user (proof_seen proof)
call_seen (kind.Fetch user id holders from most) = Fetch user id from most holders
call_seen (kind.Strike user items) = Strike user (struck_of items)
call_seen (kind.Leave user login manager) = Leave user login manager

-- the text of a message is empty or ends in CRLF
abbrev pub IsTextEnded : NodeCall → Type 0
IsTextEnded (Deliver mail) = (mail.text ≡ []) ⊎ (ends_in_crlf mail.text ≡ true)
IsTextEnded call = ⊤

module _ {D : Type 0} (on : View D) (plan : Plan) (own seconds : ℕ) (call : NodeCall) (old : Node) (before : D) (new : Node) (after : D) where
  -- It fails at once, and its ticket has its mishaps; or it goes, and what it files is its message.
  pub data CallDid (ticket : Option Number) (sent : List Letter) : Type 0 where
    AtOnce : (kind : CallKind) → kind_of_call call ≡ Some kind → fails_at_once plan seconds (node_seen old) call ≡ true → ticket ≡ Some (new_number own (node_seen old))
        → NodeDid on (refuse kind (mishaps_of_call plan seconds (node_seen old) call) (ids_drawn call)) old before new after sent → CallDid ticket sent
    Goes : (octets : List ℕ) → fails_at_once plan seconds (node_seen old) call ≡ false → IsFiled (at_second seconds) own (node_seen old) call octets
        → ticket ≡ Some (new_number own (node_seen old))
        → NodeDid on (λ node disk. begun_by plan (at_second seconds) own node disk call octets) old before new after sent → CallDid ticket sent

  -- it has begun
  pub record CallBegun (ticket : Option Number) (outbox : Outbox) : Type 0 where
    pub fresh : is_worn_for plan seconds (node_seen old) call ≡ false
    pub none_thrown : outbox.thrown ≡ None
    pub did : CallDid ticket outbox.letters

  -- its work stopped
  pub record CallStopped (fault : KeepFault) : Type 0 where
    pub fresh : is_worn_for plan seconds (node_seen old) call ≡ false
    pub octets : List ℕ
    pub filed : IsFiled (at_second seconds) own (node_seen old) call octets
    pub stopped : NodeStopped on (λ node disk. begun_by plan (at_second seconds) own node disk call octets) old before after
    pub fails : Fails fault (on.faults before) (on.faults after)

  -- A call begins; it is worn exactly where a number that it would draw is used up. Out of memory that is told before its work begins leaves all as it was.
  abbrev pub NodeBegins : Result (Option Number × Outbox) NodeFault → Type 0
  NodeBegins (Ok begun) = CallBegun begun.0 begun.1
  NodeBegins (Err Disk) = CallStopped keep.Disk
  NodeBegins (Err Worn) = (is_worn_for plan seconds (node_seen old) call ≡ true) × IsAsBefore old new × (after ≡ before)
  NodeBegins (Err (NoMemory true)) = CallStopped keep.NoMemory
  NodeBegins (Err (NoMemory false)) = IsAsBefore old new × IsOnlyRead on before after × (on.faults after ≡ on.faults before)
