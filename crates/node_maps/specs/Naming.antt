-- Whom a node names as having mail of a user, and which rows it owes.
use Rattle.std.specs.Prelude.{◌≡◌, ℕ, true, List, [], ◌∷◌, Option, Some, None}
use Rattle.object_model.specs.Letters.{Membership}
use Rattle.object_model.specs.Sets.{with_node}
use Rattle.maps_model.specs.Cluster.{Node, manages_in}
use Rattle.maps_model.specs.Laws.{named}

-- a set of these nodes
abbrev pub nodes_as_set : List ℕ → ℕ
nodes_as_set [] = 0
nodes_as_set (n ∷ nodes) = with_node (nodes_as_set nodes) n

-- the members whom the node names, by its own rows and its own epoch; nobody where it has none
abbrev pub named_within : Node → List ℕ → Option Membership → List ℕ
named_within node user None = []
named_within node user (Some membership) = named node user membership.members

abbrev pub named_by : Node → List ℕ → List ℕ
named_by node user = named_within node user node.installed

-- a row is due whose user that node manages in the node's own epoch
pub record HasRowFor (to : ℕ) (node : Node) : Type 0 where
  pub user : List ℕ
  pub marked : node.marked user ≡ true
  pub managed : manages_in node.installed to user ≡ true
