-- A node of the world that opens a group or concludes one.
use Rattle.std.specs.Prelude.{◌≡◌, ℕ, nat_le, Bool, true, false, ⊤, Option, Some, None, option_map, Result, Ok, Err}
use Rattle.membership.specs.Groups.{joins_in}
use Rattle.whole_world.specs.Steps.{greatest_epoch}
use Rattle.node_store.specs.Disks.{View}
use Rattle.node_maps.specs.Nodes.{node_of}
use Rattle.node_core.specs.Nodes.{IsAsBefore}
use Rattle.node_core.specs.Works.{LeavesUp}
use Rattle.node_core.specs.declared.fault.NodeFault.{NodeFault}
use Rattle.node_core.specs.declared.fault.NodeFault.TheVariants.{Worn, NoMemory}
use Rattle.node_core.specs.declared.node.Node.{Node}
use Rattle.node_maps.specs.declared.concluding.Concluded.{Concluded}
use Rattle.whole_node.specs.Grouping.{OpensGroup, ConcludesGroup}
use Rattle.whole_node.specs.declared.grouping.Grouped.{Grouped}
use Rattle.cluster_world.specs.Forming.{learns_nothing, HasFormed, StopsForming}
use Rattle.cluster_world.specs.Turning.{TurnsBy}
use Rattle.cluster_world.specs.declared.life.Life.{Life}
use Rattle.cluster_world.specs.declared.life.Life.TheVariants.{Up, Down, Lost}
use Rattle.cluster_world.specs.declared.nodes.Nodes.{Nodes}

-- whether the count of epochs of a node that is up is used up
abbrev pub has_used_up : Life → Bool
has_used_up (Up node) = nat_le greatest_epoch (node_of node.maps).heard
has_used_up Down = false
has_used_up Lost = false

-- how many nodes have joined the open group of a node that is up, if it has one
abbrev pub joins_at : Life → Option ℕ
joins_at (Up node) = option_map joins_in (node_of node.maps).group
joins_at Down = None
joins_at Lost = None

-- It opened a group and sends its letters, or its work stopped. Where the count of epochs is used up it is as it was.
abbrev pub GroupsSo : {D : Type 0} → View D → Result Grouped NodeFault → Node → D → Node → D → Type 0
GroupsSo on (Ok done) old before new after = HasFormed on learns_nothing old before new after done.letters
GroupsSo on (Err Worn) old before new after = IsAsBefore old new × (after ≡ before)
GroupsSo on (Err fault) old before new after = StopsForming on learns_nothing old before new after ⊤ fault

-- It concluded one and sends its letters, or has none open. Only memory may run out, and then it goes down. Its disk is not touched.
abbrev pub ConcludesOrNot : {D : Type 0} → View D → Option Concluded → Node → D → Node → D → Type 0
ConcludesOrNot on (Some done) old before new after = HasFormed on learns_nothing old before new after done.letters
ConcludesOrNot on None old before new after = IsAsBefore old new × (after ≡ before)

abbrev pub ConcludesGroupSo : {D : Type 0} → View D → Result (Option Concluded) NodeFault → Node → D → Node → D → Type 0
ConcludesGroupSo on (Ok done) old before new after = ConcludesOrNot on done old before new after
ConcludesGroupSo on (Err (NoMemory true)) old before new after = ⊤
ConcludesGroupSo on (Err other) old before new after = ⊥

-- So it is with a node of the world that is up, over a plan of so many nodes and buckets. Its maps are what the machine's rules make of them.
abbrev pub GroupsAt : {D : Type 0} → View D → (D → Type 0) → ℕ → Result Grouped NodeFault → Life → D → Life → D → Type 0
GroupsAt on is_settled nodes result life disk life' disk' =
    TurnsBy on.seen (λ result old before new after. GroupsSo on result old before new after) (λ result old before new after. OpensGroup on nodes old before new after result) result life disk life' disk'
    × (LeavesUp result → is_settled disk → is_settled disk')

abbrev pub ConcludesGroupAt : {D : Type 0} → View D → ℕ → Result (Option Concluded) NodeFault → Life → D → Life → D → Type 0
ConcludesGroupAt on buckets result life disk life' disk' =
    TurnsBy on.seen (λ result old before new after. ConcludesGroupSo on result old before new after) (λ result old before new after. ConcludesGroup buckets result old new) result life disk life' disk'
    × (disk' ≡ disk)
