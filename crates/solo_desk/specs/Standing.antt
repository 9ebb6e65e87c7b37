-- Whether what stands under a ticket is what its beginning found.
use Rattle.std.specs.Prelude.{Bool, true, false, ◌&&◌, nat_eq, Option, Some, None}
use Rattle.std.specs.Ordering.{eq_by_cmp}
use Rattle.std.specs.Cmp.Lexicographic.{pointwise}
use Rattle.mail_base.specs.Orders.{id_cmp}
use Rattle.mail_base.specs.declared.filing.Begun.{Begun}
use Rattle.mail_base.specs.declared.filing.Filing.{Filing}
use Rattle.mail_base.specs.declared.filing.CallKind.{CallKind}
use Rattle.mail_base.specs.declared.filing.CallKind.TheVariants.{Deliver, Login, Fetch, Strike}
use Rattle.call_tickets.specs.declared.answer.Answer.{Answer}
use Rattle.call_tickets.specs.declared.answer.Answer.TheVariants as answer
use Rattle.call_tickets.specs.declared.desk.DeskTicket.{DeskTicket}
use Rattle.cluster_model.specs.Cluster.{NodeFiling}
use Rattle.cluster_model.specs.Cluster as plain
use Rattle.node_tickets.specs.Standing.{filing_at}
use Rattle.cluster_world.specs.Telling.{standing_in, kind_standing}
use Rattle.cluster_world.specs.declared.world.World.{World}

-- the kind that stands there is this
abbrev pub is_kind : Option plain.CallKind → CallKind → Bool
is_kind (Some plain.CallKind.Delivering) Deliver = true
is_kind (Some plain.CallKind.LoggingIn) Login = true
is_kind (Some plain.CallKind.Fetching) Fetch = true
is_kind (Some plain.CallKind.Striking) Strike = true
is_kind found kind = false

-- both are one filing
abbrev pub same_filing : NodeFiling → Filing → Bool
same_filing found filing =
    eq_by_cmp id_cmp found.id filing.id && pointwise (pointwise nat_eq) found.users filing.users && nat_eq found.seconds filing.seconds && nat_eq found.size filing.length
    && pointwise nat_eq found.digest filing.digest

abbrev pub is_filed : Option NodeFiling → Option Filing → Bool
is_filed None None = true
is_filed (Some found) (Some filing) = same_filing found filing
is_filed found filing = false

-- a delivery alone files
abbrev pub may_file : CallKind → Option Filing → Bool
may_file Deliver filing = true
may_file kind None = true
may_file kind (Some filing) = false

-- what stands there, a call of this kind that filed this, is what was begun
abbrev pub is_as_begun : Option plain.CallKind → Option NodeFiling → Begun → Bool
is_as_begun kind filed begun = is_kind kind begun.kind && is_filed filed begun.filing && may_file begun.kind begun.filing

-- whether so it is of what stands under the ticket in a world
abbrev pub stands_as_begun : {D : Type 0} → World D → DeskTicket → Bool
stands_as_begun world ticket = is_as_begun (kind_standing world ticket.ticket) (filing_at (standing_in world ticket.ticket)) ticket.begun

-- the answer is one to a call of this kind; each may fail
abbrev pub fits_kind : CallKind → Answer → Bool
fits_kind kind (answer.Failed mishaps) = true
fits_kind Deliver (answer.Stored id confirmers) = true
fits_kind Login (answer.Listed login manager asked items) = true
fits_kind Login (answer.Wrong stamp) = true
fits_kind Login (answer.InUse by) = true
fits_kind Login (answer.NoProfile manager) = true
fits_kind Fetch (answer.Part octets whole) = true
fits_kind Fetch answer.GoneAlready = true
fits_kind Strike (answer.Dropped confirmers) = true
fits_kind kind given = false
