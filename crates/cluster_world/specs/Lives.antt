-- How the nodes of a cluster are, and what holds of each between two steps.
use Rattle.std.specs.Prelude.{◌≡◌, ℕ, zero, suc, ◌+◌, Bool, true, false, List, [], ◌∷◌, ◌++◌, Option, Some, None, slice_get, slice_set, if◌then◌else◌}
use Rattle.mail_model.specs.Plan.{Plan}
use Rattle.session_model.specs.Events.{NodeLife, NodeLife as life}
use Rattle.node_core.specs.Nodes.{IsNodeOf, node_seen}
use Rattle.whole_node.specs.Nodes.{WholeWorks}
use Rattle.whole_node.specs.declared.node.WholeNode.{WholeNode}
use Rattle.cluster_world.specs.declared.life.Life.{Life}
use Rattle.cluster_world.specs.declared.life.Life.TheVariants.{Up, Down, Lost}

-- how a node is
abbrev pub life_seen : Life → NodeLife
life_seen (Up node) = life.Up (node_seen node.mail).boot
life_seen Down = life.Down
life_seen Lost = life.Lost

abbrev pub is_up_life : NodeLife → Bool
is_up_life (life.Up boot) = true
is_up_life life.Down = false
is_up_life life.Lost = false

abbrev pub is_lost_life : NodeLife → Bool
is_lost_life (life.Up boot) = false
is_lost_life life.Down = false
is_lost_life life.Lost = true

-- of the nodes from 1 to n those that are up, in rising order
abbrev pub nodes_up : (ℕ → NodeLife) → ℕ → List ℕ
nodes_up lives zero = []
nodes_up lives (suc k) = nodes_up lives k ++ (if is_up_life (lives (suc k)) then suc k ∷ [] else [])

-- the boot of a node that is up
abbrev pub boot_in_life : NodeLife → Option ℕ
boot_in_life (life.Up boot) = Some boot
boot_in_life life.Down = None
boot_in_life life.Lost = None

-- what node n of these has, numbered from 1
abbrev pub of_node : {X : Type 0} → List X → ℕ → Option X
of_node xs zero = None
of_node xs (suc k) = slice_get xs k

-- the same where node n is this one now
abbrev pub with_node_at : {X : Type 0} → List X → ℕ → X → List X
with_node_at xs zero x = xs
with_node_at xs (suc k) x = slice_set xs k x

-- how many entries the book may need for the life of a node that goes on as it is: that it goes down, and that it is lost
abbrev pub falls_left : Life → ℕ
falls_left (Up node) = 2
falls_left Down = 1
falls_left Lost = 0

abbrev pub all_falls_left : List Life → ℕ
all_falls_left [] = 0
all_falls_left (life ∷ lives) = falls_left life + all_falls_left lives

-- A node that is up is that node of the plan, and can work with its disk; its maps know what the disk says is here.
pub record CanWorkOn {D : Type 0} (seen : D → Option (List ℕ)) (plan : Plan) (lives : List Life) (disks : List D) : Type 0 where
  pub each : (k : ℕ) (node : WholeNode) (disk : D) → slice_get lives k ≡ Some (Up node) → slice_get disks k ≡ Some disk → IsNodeOf plan (suc k) node.mail × WholeWorks (seen disk) node
