-- What a world tells of the calls that stand at its nodes.
use Rattle.std.specs.Prelude.{ℕ, true, Option, Some, None}
use Rattle.object_model.specs.Letters.{Number}
use Rattle.cluster_model.specs.Cluster as plain
use Rattle.cluster_model.specs.Cluster.{members_of}
use Rattle.login_model.specs.Readings.{Reading, ReadTicket}
use Rattle.login_model.specs.Readings.Reading.{LogsIn, Fetches}
use Rattle.login_model.specs.Rules.{read_at}
use Rattle.joint_model.specs.Joint.{read_node}
use Rattle.node_core.specs.Standing.{ticket_standing}
use Rattle.node_tickets.specs.Standing.{kind_of_ticket}
use Rattle.whole_node.specs.Nodes.{joint_seen}
use Rattle.cluster_world.specs.Lives.{of_node}
use Rattle.cluster_world.specs.Worlds.{lives_of}
use Rattle.cluster_world.specs.declared.life.Life.{Life}
use Rattle.cluster_world.specs.declared.life.Life.TheVariants.{Up}
use Rattle.cluster_world.specs.declared.world.World.{World}

-- what stands under the ticket at a node, if it is up
abbrev pub standing_on : Option Life → Number → Option plain.Ticket
standing_on (Some (Up node)) number = ticket_standing node.mail number
standing_on life number = None

-- what stands under the ticket
abbrev pub standing_in : {D : Type 0} → World D → Number → Option plain.Ticket
standing_in world number = standing_on (of_node (lives_of world) number.node) number

-- the ticket of a call that reads, if it stands there
abbrev pub reading_on : Option Life → Number → Option ReadTicket
reading_on (Some (Up node)) number = read_at number.node (read_node true (joint_seen node)) (Some number)
reading_on life number = None

abbrev pub reading_in : {D : Type 0} → World D → Number → Option ReadTicket
reading_in world number = reading_on (of_node (lives_of world) number.node) number

-- and its kind
abbrev pub kind_of_reading : Reading → plain.CallKind
kind_of_reading (LogsIn login) = plain.CallKind.LoggingIn
kind_of_reading (Fetches fetch) = plain.CallKind.Fetching

abbrev pub kind_read : Option ReadTicket → Option plain.CallKind
kind_read None = None
kind_read (Some ticket) = Some (kind_of_reading ticket.reading)

-- the first of two kinds, if there is one
abbrev pub first_kind : Option plain.CallKind → Option plain.CallKind → Option plain.CallKind
first_kind None other = other
first_kind (Some kind) other = Some kind

-- the kind of the call of a ticket: it is looked for among those of messages first, and then among those of calls that read
abbrev pub kind_on : Option Life → Number → Option plain.CallKind
kind_on life number = first_kind (kind_of_ticket (standing_on life number)) (kind_read (reading_on life number))

abbrev pub kind_standing : {D : Type 0} → World D → Number → Option plain.CallKind
kind_standing world number = kind_on (of_node (lives_of world) number.node) number

-- the members of the epoch of a node that is up
abbrev pub members_seen : Option plain.Node → ℕ
members_seen None = 0
members_seen (Some node) = members_of node
