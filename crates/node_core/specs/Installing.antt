-- A node that installs an epoch.
use Rattle.std.specs.Prelude.{◌≡◌, ℕ, List, Option}
use Rattle.mail_model.specs.Record.{Record}
use Rattle.object_model.specs.Letters.{Membership}
use Rattle.node_core.specs.Nodes.{node_seen, NodeKeeps, end_in, IsWhole, CanWork, IsSameNode}
use Rattle.node_core.specs.declared.node.Node.{Node}

-- it has installed this, or nothing, and all else is as it was
pub record HasInstalled (installed : Option Membership) (old new : Node) : Type 0 where
  pub seen : node_seen new ≡ record (node_seen old) { installed = installed }
  pub store : new.store ≡ old.store
  pub numbers : new.numbers ≡ old.numbers
  pub tickets : new.tickets ≡ old.tickets
  pub same : IsSameNode old new
  pub keeps : (records : List Record) → NodeKeeps records old → NodeKeeps records new
  pub works : (seen : Option (List ℕ)) → CanWork seen old → CanWork seen new
  pub whole : IsWhole old → IsWhole new
  pub end_is : end_in new ≡ end_in old
