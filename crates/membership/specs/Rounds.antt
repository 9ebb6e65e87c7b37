-- What each call of a group answers, and what it leaves: the rules of the three rounds by cases on the answer.
use Rattle.std.specs.Prelude.{◌≡◌, ◌≢◌, ◌⊎◌, ℕ, max, Bool, true, false, Option, Some, None, Result, Ok, Err}
use Rattle.mail_model.specs.Identity.{EpochId}
use Rattle.object_model.specs.Letters.{Membership}
use Rattle.maps_model.specs.Epochs.{IsBefore, IsAtMost}
use Rattle.maps_model.specs.Assign.{IsAssigned}
use Rattle.maps_model.specs.Cluster.{Joined, OpenGroup, NamesNode, epoch_in}
use Rattle.maps_model.specs.Rules.{membership_of}
use Rattle.membership.specs.Groups.{Group, next_epoch, promised, started, all_claims, all_members, with_one_joined, has_joined}
use Rattle.object_model.specs.Sets.{has}
use Rattle.membership.specs.declared.fault.GroupFault.{GroupFault}
use Rattle.membership.specs.declared.fault.GroupFault.TheVariants.{OldEpoch, NotMember, NotPromised, NotAGroup, NoMemory}

-- A group opens: its epoch is promised, and its node joins it.
abbrev pub StartsGroup : Result EpochId GroupFault → Group → Group → Type 0
StartsGroup (Ok epoch) old new = (epoch ≡ next_epoch old) × (new ≡ started old)
StartsGroup (Err NoMemory) old new = new ≡ old
StartsGroup (Err other) old new = ⊥

-- A Group of a greater epoch is promised, one of the promised epoch is heard again, and a smaller one is old.
abbrev pub HearsGroup : Result Bool GroupFault → EpochId → Group → Group → Type 0
HearsGroup (Ok true) epoch old new = IsBefore old.promise epoch × (new ≡ promised old epoch)
HearsGroup (Ok false) epoch old new = (epoch ≡ old.promise) × (new ≡ old)
HearsGroup (Err OldEpoch) epoch old new = IsBefore epoch old.promise × (new ≡ old)
HearsGroup (Err other) epoch old new = ⊥

-- the open group is of that epoch
pub record IsOpen (opened : Option OpenGroup) (epoch : EpochId) : Type 0 where
  pub group : OpenGroup
  pub is : opened ≡ Some group
  pub same : group.epoch ≡ epoch

-- A Join with a greater promise only raises the count that was heard. Any other is added.
pub data AddsJoin (old : Group) (epoch promise : EpochId) (join : Joined) (new : Group) : Type 0 where
  Above : IsBefore epoch promise → new ≡ record old { heard = max old.heard promise.count } → AddsJoin old epoch promise join new
  Joins : (group : OpenGroup) → old.opened ≡ Some group → IsAtMost promise epoch → new ≡ record old { opened = Some (with_one_joined join group) } → AddsJoin old epoch promise join new

abbrev pub HearsJoin : Result (Unit {0}) GroupFault → EpochId → EpochId → Joined → Group → Group → Type 0
HearsJoin (Ok _) epoch promise join old new = IsOpen old.opened epoch × AddsJoin old epoch promise join new
HearsJoin (Err NotAGroup) epoch promise join old new = (IsOpen old.opened epoch → ⊥) × (new ≡ old)
HearsJoin (Err NoMemory) epoch promise join old new = IsOpen old.opened epoch × (new ≡ old)
HearsJoin (Err other) epoch promise join old new = ⊥

-- those who joined are the members, the map is assigned to their claims, and the group is closed
pub record IsConcluded (buckets : ℕ) (old : Group) (membership : Membership) (new : Group) : Type 0 where
  pub group : OpenGroup
  pub opened : old.opened ≡ Some group
  pub assigned : IsAssigned (all_claims group) (all_members group) buckets group.epoch membership.map
  pub is : membership ≡ membership_of group membership.map
  pub installs : new ≡ record old { installed = Some membership; opened = None }

abbrev pub Concludes : Result Membership GroupFault → ℕ → Group → Group → Type 0
Concludes (Ok membership) buckets old new = IsConcluded buckets old membership new
Concludes (Err NotAGroup) buckets old new = (old.opened ≡ None) × (new ≡ old)
Concludes (Err NoMemory) buckets old new = (old.opened ≢ None) × (new ≡ old)
Concludes (Err other) buckets old new = ⊥

-- its epoch is below the promise, or not above the one that is installed
abbrev pub IsOld : Membership → Group → Type 0
IsOld membership group = IsBefore membership.epoch group.promise ⊎ IsAtMost membership.epoch (epoch_in group.installed)

-- it is of the promised epoch, which is not installed yet
abbrev pub IsInstallDue : Membership → Group → Type 0
IsInstallDue membership group = (membership.epoch ≡ group.promise) × IsBefore (epoch_in group.installed) membership.epoch

-- An Install is heard where it is of the promised epoch, which is not installed yet, and names the node in its boot. The first refusal that applies is answered.
abbrev pub HearsInstall : Result (Unit {0}) GroupFault → Membership → Group → Group → Type 0
HearsInstall (Ok _) membership old new = IsInstallDue membership old × NamesNode membership old.own old.boot × (new ≡ record old { installed = Some membership })
HearsInstall (Err OldEpoch) membership old new = IsOld membership old × (new ≡ old)
HearsInstall (Err NotPromised) membership old new = (IsOld membership old → ⊥) × IsBefore old.promise membership.epoch × (new ≡ old)
HearsInstall (Err NotMember) membership old new = IsInstallDue membership old × (NamesNode membership old.own old.boot → ⊥) × (new ≡ old)
HearsInstall (Err NoMemory) membership old new = IsInstallDue membership old × NamesNode membership old.own old.boot × (new ≡ old)
HearsInstall (Err other) membership old new = ⊥

-- the nodes that have joined the open group
abbrev pub IsJoined : Option ℕ → Option OpenGroup → Type 0
IsJoined None opened = opened ≡ None
IsJoined (Some nodes) opened = (group : OpenGroup) × (opened ≡ Some group) × ((n : ℕ) → has nodes n ≡ has_joined n group)
