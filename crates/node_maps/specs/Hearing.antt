-- What a node makes of a letter: the rule of the machine, and why it throws the letter.
use Rattle.std.specs.Prelude.{◌≡◌, ◌⊎◌, ℕ, List, [], ◌∷◌, Option, Some, None, Result, Ok, Err, if◌then◌else◌}
use Rattle.mail_model.specs.Identity.{EpochId, no_epoch}
use Rattle.object_model.specs.Letters.{Membership, Body, Letter}
use Rattle.object_model.specs.Letters.Body.{Group, Join, Install, Report, ReportAck}
use Rattle.maps_model.specs.Epochs.{IsBefore, IsAtMost}
use Rattle.maps_model.specs.Cluster.{OpenGroup, Node, Disk, NamesNode, epoch_of}
use Rattle.maps_model.specs.Rules.{Reaction, Hears, letter_to, claims_in}
use Rattle.user_map.specs.Plain.{is_before}
use Rattle.membership.specs.Rounds.{IsOpen}
use Rattle.node_maps.specs.Nodes.{node_of, own_of, IsDisk, KeepsNode}
use Rattle.node_maps.specs.declared.answer.Answer.{Answer}
use Rattle.node_maps.specs.declared.answer.Refusal.{Refusal}
use Rattle.node_maps.specs.declared.answer.Refusal.TheVariants.{Stale, Old, NotPromised, NotMember, Late}
use Rattle.node_maps.specs.declared.maps.NodeMaps.{NodeMaps}

-- the promise that a letter makes due: it is on the disk before the node speaks of it
abbrev pub promise_due : Node → Body → Option EpochId
promise_due node (Group epoch) = if is_before node.promise epoch then Some epoch else None
promise_due node body = None

abbrev pub disk_after : Option EpochId → Disk → Disk
disk_after None disk = disk
disk_after (Some epoch) disk = record disk { promise = epoch }

-- what is left of a node and of its disk, once that promise is on it, and the letters that it sends
abbrev pub left_by : NodeMaps → Option EpochId → Disk → List Letter → Reaction
left_by new promise disk letters = record { node = node_of new; disk = disk_after promise disk; out = letters }

-- The answer to a Group: a Join with the node's claims, or where the Group is below the promise, one that tells of the promise.
abbrev pub group_answer : NodeMaps → ℕ → EpochId → List Letter
group_answer node to epoch =
    if is_before epoch node.group.promise
    then letter_to (own_of node) (Join epoch node.group.promise node.group.boot no_epoch []) to ∷ []
    else letter_to (own_of node) (Join epoch epoch node.group.boot (epoch_of (node_of node)) (claims_in (own_of node) node.group.installed)) to ∷ []

-- A Group below the promise is old.
abbrev pub ThrowsGroup : Node → EpochId → Option Refusal → Type 0
ThrowsGroup node epoch None = IsAtMost node.promise epoch
ThrowsGroup node epoch (Some Old) = IsBefore epoch node.promise
ThrowsGroup node epoch (Some other) = ⊥

-- A Join of a group that is not open is late.
abbrev pub ThrowsJoin : Node → EpochId → Option Refusal → Type 0
ThrowsJoin node epoch None = IsOpen node.group epoch
ThrowsJoin node epoch (Some Late) = IsOpen node.group epoch → ⊥
ThrowsJoin node epoch (Some other) = ⊥

abbrev pub IsOver : Node → Membership → Type 0
IsOver node membership = IsBefore membership.epoch node.promise ⊎ IsAtMost membership.epoch (epoch_of node)

abbrev pub IsDue : Node → Membership → Type 0
IsDue node membership = (membership.epoch ≡ node.promise) × IsBefore (epoch_of node) membership.epoch

-- Of an Install the first that applies: its epoch is over, was not promised, or does not name the node in its boot.
abbrev pub ThrowsInstall : ℕ → Node → Membership → Option Refusal → Type 0
ThrowsInstall own node membership None = IsDue node membership × NamesNode membership own node.boot
ThrowsInstall own node membership (Some Old) = IsOver node membership
ThrowsInstall own node membership (Some NotPromised) = (IsOver node membership → ⊥) × IsBefore node.promise membership.epoch
ThrowsInstall own node membership (Some NotMember) = IsDue node membership × (NamesNode membership own node.boot → ⊥)
ThrowsInstall own node membership (Some other) = ⊥

-- A Report and its acknowledgement are stale in another epoch.
abbrev pub IsOfEpoch : Node → EpochId → Type 0
IsOfEpoch node epoch = (membership : Membership) × (node.installed ≡ Some membership) × (membership.epoch ≡ epoch)

abbrev pub ThrowsMaps : Node → EpochId → Option Refusal → Type 0
ThrowsMaps node epoch None = IsOfEpoch node epoch
ThrowsMaps node epoch (Some Stale) = IsOfEpoch node epoch → ⊥
ThrowsMaps node epoch (Some other) = ⊥

-- why a node throws a letter, if it does
abbrev pub Throws : ℕ → Node → Letter → Body → Option Refusal → Type 0
Throws own node letter (Group epoch) thrown = ThrowsGroup node epoch thrown
Throws own node letter (Join epoch promise boot was claims) thrown = ThrowsJoin node epoch thrown
Throws own node letter (Install membership) thrown = ThrowsInstall own node membership thrown
Throws own node letter (Report row) thrown = ThrowsMaps node letter.epoch thrown
Throws own node letter (ReportAck user version) thrown = ThrowsMaps node letter.epoch thrown
Throws own node letter body thrown = thrown ≡ None

-- a letter of that body was heard or thrown
pub record HearsBody (old : NodeMaps) (letter : Letter) (body : Body) (answer : Answer) (new : NodeMaps) : Type 0 where
  pub did : (disk : Disk) → IsDisk old disk → Hears (own_of old) (node_of old) disk letter body (left_by new (promise_due (node_of old) body) disk answer.letters)
  pub thrown : Throws (own_of old) (node_of old) letter body answer.thrown
  pub own : own_of new ≡ own_of old
  pub held : new.fragments ≡ old.fragments

-- Where memory ran out the node is as before. Of an Install nothing is said: the node has to go down.
abbrev pub StopsHearing : Body → NodeMaps → NodeMaps → Type 0
StopsHearing (Install membership) old new = Unit {0}
StopsHearing body old new = KeepsNode old new

abbrev pub HearsAs : {E : Type 0} → Letter → Body → Result Answer E → NodeMaps → NodeMaps → Type 0
HearsAs letter body (Ok answer) old new = HearsBody old letter body answer new
HearsAs letter body (Err refused) old new = StopsHearing body old new

-- a Report tells the row of its sender
abbrev pub TellsOwnRow : ℕ → Body → Type 0
TellsOwnRow from (Report row) = row.node ≡ from
TellsOwnRow from body = Unit {0}
