-- A node that is up, as what is known of its life says.
use Rattle.std.proofs.Common.{◌≡◌, ℕ, List, Option, sym, ◌∙◌, subst}
use Rattle.whole_node.specs.Nodes.{WholeWorks}
use Rattle.whole_node.specs.declared.node.WholeNode.{WholeNode}
use Rattle.cluster_world.specs.declared.life.Life.{Life}
use Rattle.cluster_world.specs.declared.life.Life.TheVariants.{Up}

pub up_same : (a b : WholeNode) → Up a ≡ Up b → a ≡ b
up_same a b e = cc

-- the node that is up can work
pub works_in : (life : Life) (node : WholeNode) (seen : Option (List ℕ)) → life ≡ Up node → (one : WholeNode) × (life ≡ Up one) × WholeWorks seen one → WholeWorks seen node
works_in life node seen is (one, same, works) = subst (WholeWorks seen) (up_same one node (sym same ∙ is)) works
