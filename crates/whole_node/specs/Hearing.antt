-- What a node makes of a letter of membership or maps: what the rule of the machine leaves of both its halves.
use Rattle.std.specs.Prelude.{◌≡◌, List, [], ◌++◌, All, Bool, true, false, ⊤, Option, Some, None, option_map, Result, Ok, Err}
use Rattle.mail_model.specs.Identity.{EpochId}
use Rattle.mail_model.specs.Grammar.{IsNodeNumber}
use Rattle.mail_model.specs.Record.{Record}
use Rattle.object_model.specs.Letters.{Membership, Body, Letter}
use Rattle.object_model.specs.Letters.Body.{Group, Install}
use Rattle.cluster_model.specs.Cluster as cluster
use Rattle.cluster_model.specs.Thrown as plain
use Rattle.cluster_model.specs.Thrown.{is_stale, with_stamps}
use Rattle.maps_model.specs.Rules as rules
use Rattle.whole_model.specs.Whole.{maps_disk_of}
use Rattle.whole_model.specs.Rules.{promise_records}
use Rattle.whole_world.specs.World.{Reaction}
use Rattle.whole_world.specs.Thrown.{refused_by}
use Rattle.whole_world.specs.Makes.{done_for_maps, learnt, promise_by}
use Rattle.node_store.specs.Disks.{View}
use Rattle.node_maps.specs.Nodes.{node_of, KeepsNode}
use Rattle.node_maps.specs.Hearing.{HearsBody, StopsHearing, TellsOwnRow}
use Rattle.node_maps.specs.declared.answer.Answer.{Answer}
use Rattle.node_maps.specs.declared.answer.Refusal.{Refusal}
use Rattle.node_maps.specs.declared.answer.Refusal.TheVariants as refusal
use Rattle.node_core.specs.Nodes.{node_seen, NodeKeeps, IsAsBefore, IsSameNode, IsWhole}
use Rattle.node_core.specs.Works.{Rule, NodeDid, NodeFailed}
use Rattle.node_core.specs.Hearing.{why_seen}
use Rattle.node_core.specs.declared.fault.NodeFault.{NodeFault}
use Rattle.node_core.specs.declared.fault.NodeFault.TheVariants.{Disk, Worn, NoMemory}
use Rattle.node_core.specs.declared.outbox.Why.{Why}
use Rattle.node_core.specs.declared.outbox.Why.TheVariants.{Stale}
use Rattle.node_core.specs.declared.outbox.Outbox.{Outbox}
use Rattle.node_core.specs.declared.node.Node.{Node}
use Rattle.whole_node.specs.Nodes.{whole_seen}
use Rattle.whole_node.specs.Forming.{forms_by, FormsOn}
use Rattle.whole_node.specs.declared.node.WholeNode.{WholeNode}

-- A Group names a node that there can be, so that its promise can be recorded.
abbrev pub NamesANode : Body → Type 0
NamesANode (Group epoch) = IsNodeNumber epoch.node
NamesANode body = Unit {0}

-- and a Report tells the row of its sender. So does each letter of membership and maps that a node sends.
abbrev pub FitsMaps : Letter → Type 0
FitsMaps letter = NamesANode letter.body × TellsOwnRow letter.from letter.body

-- why a letter is thrown, in the words of the whole node
abbrev pub why_refused : Refusal → plain.Why
why_refused refusal.Stale = plain.Why.Stale
why_refused refusal.Old = plain.Why.Old
why_refused refusal.NotPromised = plain.Why.NotPromised
why_refused refusal.NotMember = plain.Why.NotMember
why_refused refusal.Late = plain.Why.Late

abbrev pub is_install : Body → Bool
is_install (Install membership) = true
is_install body = false

-- A rule of membership and maps appends at most a promise to the disk, and sends letters.
abbrev pub appends_promise : Option EpochId → List Letter → Rule
appends_promise promise sent node disk = record { node = node; disk = disk ++ promise_records promise; out = sent }

-- after an Install messages go by the membership that the maps have
abbrev pub installs : Body → Option Membership → cluster.Node → cluster.Node
installs (Install membership) installed node = record node { installed = installed }
installs body installed node = node

-- a promise that was due stands on the disk; where none was, nothing was changed
pub record PromiseStands {D : Type 0} (on : View D) (promise : Option EpochId) (appended : Bool) (old : WholeNode) (before : D) (new : WholeNode) (after : D) : Type 0 where
  pub did : NodeDid on (appends_promise promise []) old.mail before new.mail after []
  pub none : appended ≡ false → (new.mail ≡ old.mail) × (after ≡ before)

abbrev pub MakesPromise : {D : Type 0} → View D → Option EpochId → Result Bool NodeFault → WholeNode → D → WholeNode → D → Type 0
MakesPromise on promise (Ok appended) old before new after = PromiseStands on promise appended old before new after
MakesPromise on promise (Err fault) old before new after = NodeFailed on (appends_promise promise []) ⊤ fault old.mail before new.mail after

-- messages go by this membership where the letter is an Install, and nothing else is changed
pub record SharesInstall (body : Body) (installed : Option Membership) (old new : Node) : Type 0 where
  pub seen : node_seen new ≡ installs body installed (node_seen old)
  pub store : new.store ≡ old.store
  pub same : IsSameNode old new
  pub whole : IsWhole old → IsWhole new

-- so it is, and the node knows the stamps of the letter
pub record HasTakenIn (body : Body) (installed : Option Membership) (old new : Node) : Type 0 where
  pub seen : node_seen new ≡ with_stamps body (installs body installed (node_seen old))
  pub store : new.store ≡ old.store
  pub same : IsSameNode old new
  pub whole : IsWhole old → IsWhole new

-- a letter was taken in whose promise stands
pub record TookLetter (letter : Letter) (outbox : Outbox) (old new : WholeNode) : Type 0 where
  pub answer : Answer
  pub heard : HearsBody old.maps letter letter.body answer new.maps
  pub letters : outbox.letters ≡ answer.letters
  pub thrown : option_map why_seen outbox.thrown ≡ option_map why_refused answer.thrown
  pub taken : HasTakenIn letter.body new.maps.group.installed old.mail new.mail

abbrev pub TakesLetter : {E : Type 0} → Letter → Result Outbox E → WholeNode → WholeNode → Type 0
TakesLetter letter (Ok outbox) old new = TookLetter letter outbox old new
TakesLetter letter (Err refused) old new = StopsHearing letter.body old.maps new.maps × (new.mail ≡ old.mail)

module _ {D : Type 0} (on : View D) (letter : Letter) (old : WholeNode) (before : D) (new : WholeNode) (after : D) where
  -- Whatever records its disk had, a rule of the machine was done, and this is left of the node, its disk and its letters.
  pub record LeftByRule (records : List Record) (sent : List Letter) : Type 0 where
    pub did : rules.Reaction
    pub hears : rules.Hears old.mail.store.own (node_of old.maps) (maps_disk_of records) letter letter.body did
    pub left : record { node = whole_seen new; disk = records ++ promise_records (promise_by (node_of old.maps) letter.body); out = sent }
        ≡ done_for_maps (learnt (whole_seen old) letter.body) records did (promise_by (node_of old.maps) letter.body) did.out

  -- The letter was looked at: it was heard, or refused as one of membership. One that is old is answered all the same.
  pub record LookedAt (thrown : Option Why) (sent : List Letter) : Type 0 where
    pub within : is_stale letter (node_seen old.mail).installed ≡ false
    pub refused : option_map why_seen thrown ≡ refused_by old.mail.store.own (node_of old.maps) letter.body
    pub rule : (records : List Record) → NodeKeeps records old.mail → LeftByRule records sent
    pub mail : FormsOn on (with_stamps letter.body) (node_of new.maps).installed (promise_by (node_of old.maps) letter.body) old.mail before new.mail after sent
    pub fits : All FitsMaps sent

  -- It was thrown before the node looked at it, and changed nothing: it is of another epoch.
  pub record ThrownStale (sent : List Letter) : Type 0 where
    pub stale : is_stale letter (node_seen old.mail).installed ≡ true
    pub none : sent ≡ []
    pub as_before : IsAsBefore old.mail new.mail
    pub maps : new.maps ≡ old.maps
    pub untouched : after ≡ before

  abbrev pub LookedAtOrStale : Option Why → List Letter → Type 0
  LookedAtOrStale (Some Stale) sent = ThrownStale sent
  LookedAtOrStale thrown sent = LookedAt thrown sent

  -- after a fault that the node may outlast the maps are as they were
  abbrev pub KeepsMaps : NodeFault → Type 0
  KeepsMaps Disk = ⊤
  KeepsMaps Worn = ⊤
  KeepsMaps (NoMemory true) = ⊤
  KeepsMaps (NoMemory false) = KeepsNode old.maps new.maps

  -- A letter is looked at, or stale. Its work stops only where it is looked at: of the promise that it makes due a prefix stands, the next record may, and nothing is sent.
  abbrev pub HearsOfMaps : Result Outbox NodeFault → Type 0
  HearsOfMaps (Ok outbox) = LookedAtOrStale outbox.thrown outbox.letters
  HearsOfMaps (Err fault) = NodeFailed on (forms_by (with_stamps letter.body) None (promise_by (node_of old.maps) letter.body) []) (is_stale letter (node_seen old.mail).installed ≡ false) fault old.mail before new.mail after
      × KeepsMaps fault
