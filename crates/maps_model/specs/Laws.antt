-- What holds of a cluster whatever moves are made.
use Rattle.std.specs.Prelude.{◌≡◌, ℕ, Bool, false, List, [], ◌∷◌, Option, Some, None, if◌then◌else◌}
use Rattle.object_model.specs.Letters.{Member, Membership}
use Rattle.object_model.specs.Lists.{Among}
use Rattle.maps_model.specs.Cluster.{Node, Disk, Slot, Cluster, slot_at, slot_up, manager_of, is_full}
use Rattle.maps_model.specs.Moves.{Move, after_moves, MayMoves}
use Rattle.maps_model.specs.Words.{Known}
use Rattle.maps_model.specs.Parts.{Sound}

-- whatever moves are made, a sound cluster stays sound
abbrev pub MovesKeepSound : Type 0
MovesKeepSound = (w : Cluster) (moves : List Move) → MayMoves moves w → Sound w → Sound (after_moves moves w)

-- all memberships of one epoch are equal
abbrev pub OneMembership : Type 0
OneMembership = (w : Cluster) → Sound w → (a b : Membership) → Known w.slots w.flying a → Known w.slots w.flying b → a.epoch ≡ b.epoch → a ≡ b

-- a member is up in its boot of the epoch, has installed it, and has no mark
pub record IsQuietMember (slots : List Slot) (membership : Membership) (member : Member) : Type 0 where
  pub node : Node
  pub disk : Disk
  pub here : slot_at slots member.node ≡ Some (slot_up node disk)
  pub boot : node.boot ≡ member.boot
  pub installed : node.installed ≡ Some membership
  pub unmarked : (user : List ℕ) → node.marked user ≡ false

abbrev pub IsEpochSettled : List Slot → Membership → Type 0
IsEpochSettled slots membership = (member : Member) → Among member membership.members → IsQuietMember slots membership member

-- the members of whom a manager has a row that says full
abbrev pub named : Node → List ℕ → List Member → List ℕ
named node user [] = []
named node user (member ∷ members) = if is_full (node.rows member.node member.boot user) then member.node ∷ named node user members else named node user members

-- the members that hold a message of the user
abbrev pub holds_at : Option Slot → List ℕ → Bool
holds_at None user = false
holds_at (Some slot) user = slot.disk.holds user

abbrev pub fragments : List Slot → List ℕ → List Member → List ℕ
fragments slots user [] = []
fragments slots user (member ∷ members) = if holds_at (slot_at slots member.node) user then member.node ∷ fragments slots user members else fragments slots user members

-- in a settled epoch the manager of a user is up, and names exactly the members that hold a message of the user
pub record NamesFragments (slots : List Slot) (membership : Membership) (user : List ℕ) (manager : ℕ) : Type 0 where
  pub node : Node
  pub disk : Disk
  pub here : slot_at slots manager ≡ Some (slot_up node disk)
  pub same : named node user membership.members ≡ fragments slots user membership.members

abbrev pub NamedAreFragments : Type 0
NamedAreFragments = (w : Cluster) → Sound w → (membership : Membership) → IsEpochSettled w.slots membership → (member : Member) → Among member membership.members
    → (user : List ℕ) (manager : ℕ) → manager_of membership user ≡ Some manager → NamesFragments w.slots membership user manager
