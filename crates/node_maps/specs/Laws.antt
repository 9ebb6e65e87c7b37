-- What a group can be concluded to.
use Rattle.std.specs.Prelude.{◌≡◌, ◌<◌, ℕ, List, length, Some}
use Rattle.maps_model.specs.Cluster.{OpenGroup, Node, Disk}
use Rattle.maps_model.specs.Rules.{Reaction, Concludes}
use Rattle.maps_model.specs.Moves.{NodeInOrder}

-- whatever a group is concluded to, it is the same
abbrev pub OneConclusion : Type 0
OneConclusion = (own buckets : ℕ) (node : Node) (disk : Disk) (a b : Reaction) → Concludes own buckets node disk a → Concludes own buckets node disk b → a ≡ b

-- and a node in order whose group is open can conclude it
abbrev pub GroupsConclude : Type 0
GroupsConclude = (own buckets : ℕ) (node : Node) (disk : Disk) (group : OpenGroup) → 0 < buckets → node.group ≡ Some group → NodeInOrder own node disk
    → (did : Reaction) × Concludes own buckets node disk did
