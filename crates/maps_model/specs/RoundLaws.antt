-- What rounds of letters do, where both ends are in one epoch and nothing changes in between: they clear marks, and they bring nodes into an epoch.
use Rattle.std.specs.Prelude.{◌≡◌, ◌≤◌, ℕ, false, List, [], ◌∷◌, Some, None}
use Rattle.mail_model.specs.Identity.{EpochId}
use Rattle.object_model.specs.Letters.{Claim, Membership, Letter}
use Rattle.object_model.specs.Lists.{Among}
use Rattle.maps_model.specs.Epochs.{IsBefore, IsAtMost}
use Rattle.maps_model.specs.Cluster.{Joined, OpenGroup, Node, Disk, epoch_of, NamesNode}
use Rattle.object_model.specs.Letters.Body.{Report}
use Rattle.maps_model.specs.Rules.{Reaction, own_row, ack_letter, promised, join_letter, HearsGroup, HearsJoin, HearsInstall, HearsReport, HearsAck}

abbrev pub report_letter : ℕ → ℕ → Membership → Node → Disk → List ℕ → Letter
report_letter own to membership node disk user = record { from = own; to = to; epoch = membership.epoch; ticket = None; body = Report (own_row own node disk user) }

-- A Report is acknowledged whatever row stands, and the acknowledgement clears the mark.
abbrev pub RoundClears : Type 0
RoundClears = (own to : ℕ) (user : List ℕ) (membership : Membership) (node : Node) (disk : Disk) → node.installed ≡ Some membership
    → (manager : Node) (its : Disk) → manager.installed ≡ Some membership → (heard : Reaction) → HearsReport manager its (report_letter own to membership node disk user) user node.boot (own_row own node disk user) heard
    → (heard.out ≡ ack_letter (report_letter own to membership node disk user) user (own_row own node disk user) ∷ [])
    × ((cleared : Reaction) → HearsAck node disk (ack_letter (report_letter own to membership node disk user) user (own_row own node disk user)) user (node.version user) cleared → cleared.node.marked user ≡ false)

-- A node that has promised no such epoch yet joins a group.
abbrev pub NodesJoin : Type 0
NodesJoin = (own from : ℕ) (node : Node) (disk : Disk) (epoch : EpochId) (did : Reaction) → IsBefore node.promise epoch → HearsGroup own node disk from epoch did
    → (did.node.promise ≡ epoch) × (did.node.installed ≡ node.installed) × (did.out ≡ join_letter own (promised node epoch) epoch from ∷ [])

-- a join of a node, in that boot or a later one
pub record HasJoinOf (joins : List Joined) (n boot : ℕ) : Type 0 where
  pub join : Joined
  pub inside : Among join joins
  pub same : join.member.node ≡ n
  pub not_below : boot ≤ join.member.boot

-- Its Join is added to a group that is open.
abbrev pub JoinsAdd : Type 0
JoinsAdd = (node : Node) (disk : Disk) (from : ℕ) (epoch promise : EpochId) (boot : ℕ) (was : EpochId) (claims : List Claim) (did : Reaction) (group : OpenGroup)
    → node.group ≡ Some group → group.epoch ≡ epoch → IsAtMost promise epoch → HearsJoin node disk from epoch promise boot was claims did
    → (grown : OpenGroup) × (did.node.group ≡ Some grown) × (grown.epoch ≡ epoch) × HasJoinOf grown.joins from boot

-- Whoever has promised just that epoch, has not installed it and is named in its boot enters it.
abbrev pub MembersEnter : Type 0
MembersEnter = (own : ℕ) (node : Node) (disk : Disk) (membership : Membership) (did : Reaction) → membership.epoch ≡ node.promise → IsBefore (epoch_of node) membership.epoch
    → NamesNode membership own node.boot → HearsInstall own node disk membership did → did.node.installed ≡ Some membership
