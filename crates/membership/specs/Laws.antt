-- What a group's calls are to the machine: each answer is a case of the rule of the node that keeps the group.
use Rattle.std.specs.Prelude.{◌≡◌, ℕ, ◌<◌, Bool, List, Option, Result, Ok, Err}
use Rattle.mail_model.specs.Identity.{EpochId}
use Rattle.object_model.specs.Letters.{Claim, Member, Membership, Row}
use Rattle.maps_model.specs.Cluster.{Node, Disk}
use Rattle.maps_model.specs.Rules as rules
use Rattle.membership.specs.Groups.{Group, node_of_group}
use Rattle.membership.specs.Rounds.{StartsGroup, HearsGroup, HearsJoin, Concludes, HearsInstall}
use Rattle.membership.specs.declared.fault.GroupFault.{GroupFault}
use Rattle.membership.specs.declared.fault.GroupFault.TheVariants.{OldEpoch, NotMember, NotPromised, NotAGroup}

-- what else a node keeps: versions, marks and rows
pub record Maps : Type 0 where
  pub version : List ℕ → ℕ
  pub marked : List ℕ → Bool
  pub rows : ℕ → ℕ → List ℕ → Option Row

abbrev pub with_maps : Group → Maps → Node
with_maps group maps = node_of_group group maps.version maps.marked maps.rows

-- the node that starts a group is left with what the call leaves
abbrev pub StartsAsRuled : Type 0
StartsAsRuled = (nodes : ℕ) (old new : Group) (epoch : EpochId) (maps : Maps) (disk : Disk) → StartsGroup (Ok epoch) old new
    → (rules.start_group old.own nodes (with_maps old maps) disk).node ≡ with_maps new maps

-- a reaction of a node whose group is then this, and whose maps stay
pub record Leaves (did : rules.Reaction) (new : Group) (maps : Maps) : Type 0 where
  pub is : did.node ≡ with_maps new maps

abbrev pub GroupAsRuled : Type 0
GroupAsRuled = (result : Result Bool GroupFault) (epoch : EpochId) (old new : Group) (maps : Maps) (disk : Disk) (from : ℕ) → HearsGroup result epoch old new
    → (did : rules.Reaction) × rules.HearsGroup old.own (with_maps old maps) disk from epoch did × Leaves did new maps

-- a Join that is heard, or late
abbrev pub JoinAsRuled : Type 0
JoinAsRuled = (epoch promise : EpochId) (member : Member) (claims : List Claim) (old new : Group) (maps : Maps) (disk : Disk)
    → HearsJoin (Ok tt) epoch promise (record { member = member; claims = claims }) old new
    → (did : rules.Reaction) × rules.HearsJoin (with_maps old maps) disk member.node epoch promise member.boot member.was claims did × Leaves did new maps

abbrev pub LateAsRuled : Type 0
LateAsRuled = (epoch promise : EpochId) (member : Member) (claims : List Claim) (old new : Group) (maps : Maps) (disk : Disk)
    → HearsJoin (Err NotAGroup) epoch promise (record { member = member; claims = claims }) old new
    → (did : rules.Reaction) × rules.HearsJoin (with_maps old maps) disk member.node epoch promise member.boot member.was claims did × Leaves did new maps

-- a membership that is concluded, or heard, is entered with whatever the node makes of its rows and marks
abbrev pub ConcludeAsRuled : Type 0
ConcludeAsRuled = (membership : Membership) (buckets : ℕ) (old new : Group) (before after : Maps) (disk : Disk) → 0 < buckets → Concludes (Ok membership) buckets old new
    → rules.Entering old.own (with_maps old before) disk membership after.marked after.rows → after.version ≡ before.version
    → (did : rules.Reaction) × rules.Concludes old.own buckets (with_maps old before) disk did × Leaves did new after

abbrev pub InstallAsRuled : Type 0
InstallAsRuled = (membership : Membership) (old new : Group) (before after : Maps) (disk : Disk) → HearsInstall (Ok tt) membership old new
    → rules.Entering old.own (with_maps old before) disk membership after.marked after.rows → after.version ≡ before.version
    → (did : rules.Reaction) × rules.HearsInstall old.own (with_maps old before) disk membership did × Leaves did new after

-- a membership that is refused changes nothing
abbrev pub IsGroupRefusal : GroupFault → Type 0
IsGroupRefusal OldEpoch = Unit {0}
IsGroupRefusal NotPromised = Unit {0}
IsGroupRefusal NotMember = Unit {0}
IsGroupRefusal other = ⊥

abbrev pub RefusalAsRuled : Type 0
RefusalAsRuled = (fault : GroupFault) (membership : Membership) (old new : Group) (maps : Maps) (disk : Disk) → IsGroupRefusal fault → HearsInstall (Err fault) membership old new
    → rules.HearsInstall old.own (with_maps old maps) disk membership (rules.idle (with_maps old maps) disk) × (new ≡ old)
