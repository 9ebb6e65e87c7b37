-- One node is changed, with its disk, and all else stays.
use Rattle.std.specs.Prelude.{◌≡◌, ℕ, Some}
use Rattle.cluster_world.specs.Lives.{of_node, with_node_at}
use Rattle.cluster_world.specs.declared.life.Life.{Life}
use Rattle.cluster_world.specs.declared.nodes.Nodes.{Nodes}

-- node n and its disk were changed so
pub record ChangesNode {D : Type 0} (n : ℕ) (P : Life → D → Life → D → Type 0) (old new : Nodes D) : Type 0 where
  pub life : Life
  pub disk : D
  pub life' : Life
  pub disk' : D
  pub plan : new.plan ≡ old.plan
  pub was : of_node old.lives.items n ≡ Some life
  pub held : of_node old.disks.items n ≡ Some disk
  pub lives_are : new.lives.items ≡ with_node_at old.lives.items n life'
  pub disks_are : new.disks.items ≡ with_node_at old.disks.items n disk'
  pub does : P life disk life' disk'

-- the life is this one now, and the disk as before
abbrev pub IsTurnedTo : {D : Type 0} → Life → Life → D → Life → D → Type 0
IsTurnedTo now life disk life' disk' = (life' ≡ now) × (disk' ≡ disk)
