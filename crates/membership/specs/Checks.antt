-- Tests of a group that its calls make.
use Rattle.std.specs.Prelude.{◌≡◌, ◌≢◌, ℕ, Bool, false, nat_eq, nat_lt, Option, Some, None, Result, Ok, Err}
use Rattle.mail_model.specs.Identity.{EpochId}
use Rattle.object_model.specs.Keys.{is_same_epoch}
use Rattle.object_model.specs.Letters.{Member, Membership}
use Rattle.maps_model.specs.Assign.{IsAssigned}
use Rattle.maps_model.specs.Cluster.{Joined, OpenGroup}
use Rattle.maps_model.specs.Rules.{membership_of}
use Rattle.membership.specs.Groups.{all_claims, all_members}
use Rattle.membership.specs.declared.fault.GroupFault.{GroupFault}
use Rattle.membership.specs.declared.fault.GroupFault.TheVariants.{NotAGroup, NoMemory}

abbrev pub is_open : Option OpenGroup → EpochId → Bool
is_open None epoch = false
is_open (Some group) epoch = is_same_epoch group.epoch epoch

abbrev pub is_of_boot : Option Member → ℕ → Bool
is_of_boot None boot = false
is_of_boot (Some member) boot = nat_eq member.boot boot

-- the membership that an open group becomes
pub record IsFormed (buckets : ℕ) (opened : Option OpenGroup) (membership : Membership) : Type 0 where
  pub group : OpenGroup
  pub found : opened ≡ Some group
  pub assigned : IsAssigned (all_claims group) (all_members group) buckets group.epoch membership.map
  pub is : membership ≡ membership_of group membership.map

abbrev pub FormsMembership : Result Membership GroupFault → ℕ → Option OpenGroup → Type 0
FormsMembership (Ok membership) buckets opened = IsFormed buckets opened membership
FormsMembership (Err NotAGroup) buckets opened = opened ≡ None
FormsMembership (Err NoMemory) buckets opened = opened ≢ None
FormsMembership (Err other) buckets opened = ⊥

-- where a new join stands beside an old one
abbrev pub is_lower : Joined → Joined → Bool
is_lower new old = nat_lt old.member.node new.member.node

abbrev pub is_same_node : Joined → Option Joined → Bool
is_same_node new None = false
is_same_node new (Some old) = nat_eq old.member.node new.member.node

abbrev pub is_earlier : Joined → Option Joined → Bool
is_earlier new None = false
is_earlier new (Some old) = nat_lt old.member.boot new.member.boot
