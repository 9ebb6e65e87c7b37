-- What became of the stores of the nodes.
use Rattle.std.specs.Prelude.{◌≡◌, ◌⊎◌, ◌+◌, ℕ, List, length, ◌++◌, Option, Some, codes}
use Rattle.std.specs.Fmt.{decimal}
use Rattle.io_edge.specs.Causes.{Rose}
use Rattle.mail_model.specs.Lines.{ended}
use Rattle.cluster_world.specs.Lives.{of_node}
use Rattle.yard_stores.specs.Taken.{with_all, numbered_stores, TellsAll, DiskFailed}

-- the line that names the node whose store is refused
abbrev pub store_line : ℕ → List ℕ
store_line node = ended (codes "! disk 0 " ++ decimal node)

-- these were handed out, in order of node, and these given back
pub record AreStores {D : Type 0} (handed0 handed1 returned0 returned1 : Option (List (ℕ × ℕ × D))) (taken given : List D) : Type 0 where
  pub out : handed1 ≡ with_all handed0 (numbered_stores 1 taken)
  pub back : TellsAll returned0 returned1 (numbered_stores 1 given)

-- the store of this node failed until it was given back, or was not empty
pub record NodeStoreFailed {D : Type 0} (seen : D → Option (List ℕ)) (faults : D → ℕ) (node : ℕ) (taken given : List D) : Type 0 where
  pub old : D
  pub new : D
  pub was : of_node taken node ≡ Some old
  pub is : of_node given node ≡ Some new
  pub failed : DiskFailed seen faults old new

-- The stores that were handed out were given back; and the yard failed at that of this node, the next one, or that of this node failed.
pub record StoreFailed {D : Type 0} (seen : D → Option (List ℕ)) (faults : D → ℕ) (handed0 handed1 returned0 returned1 : Option (List (ℕ × ℕ × D))) (before now node : ℕ) : Type 0 where
  pub taken : List D
  pub given : List D
  pub are : AreStores handed0 handed1 returned0 returned1 taken given
  pub cause : (Rose before now × (length taken + 1 ≡ node)) ⊎ NodeStoreFailed seen faults node taken given
