-- What messages see of membership and maps: an epoch forms, and a node installs it.
use Rattle.std.specs.Prelude.{◌≡◌, List, [], ◌∷◌, ◌++◌, Option, Some, None}
use Rattle.mail_model.specs.Identity.{EpochId}
use Rattle.mail_model.specs.Record.{Record}
use Rattle.mail_model.specs.Record.Record.{Promise}
use Rattle.object_model.specs.Lists.{Among}
use Rattle.object_model.specs.Letters.{Membership, Body, Letter}
use Rattle.object_model.specs.Letters.Body.{Group, Join, Install, Report, ReportAck}
use Rattle.cluster_model.specs.Cluster.{Node}
use Rattle.cluster_model.specs.Rules.{Reaction}

-- letters that speak of membership and maps, and not of messages
abbrev pub IsMapsBody : Body → Type 0
IsMapsBody (Group epoch) = Unit {0}
IsMapsBody (Join epoch promise boot was claims) = Unit {0}
IsMapsBody (Install membership) = Unit {0}
IsMapsBody (Report row) = Unit {0}
IsMapsBody (ReportAck user version) = Unit {0}
IsMapsBody body = ⊥

-- what a rule of membership appends: the record of a promise, or nothing
abbrev pub promise_records : Option EpochId → List Record
promise_records None = []
promise_records (Some epoch) = Promise epoch ∷ []

-- such a letter, which has no ticket
pub record IsPlainMaps (letter : Letter) : Type 0 where
  pub body : IsMapsBody letter.body
  pub ticket : letter.ticket ≡ None

-- A node does something for membership or maps. It changes at most which membership is installed, appends at most a promise, and sends letters of membership and maps alone.
pub record FormsEpoch (node : Node) (disk : List Record) (did : Reaction) : Type 0 where
  pub installed : Option Membership
  pub promise : Option EpochId
  pub node_is : did.node ≡ record node { installed = installed }
  pub disk_is : did.disk ≡ disk ++ promise_records promise
  pub sends : (letter : Letter) → Among letter did.out → IsPlainMaps letter
