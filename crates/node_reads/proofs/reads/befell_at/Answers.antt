use Rattle.std.proofs.Common.{[], sym, ap, ◌∙◌, subst, refl}
use Rattle.std.specs.Option.{option_copied_mut, IsSome}
use Rattle.node_tickets.specs.Seen.{kind_of_mishap}
use Rattle.node_reads.specs.Readings.{listed}
use Rattle.node_reads.specs.Tickets.{ticket_befell}
use Rattle.node_reads.specs.Tables.{seen}
use Rattle.node_reads.proofs.Changes.{changed, unchanged}
use Rattle.node_reads.proofs.reads.befell_at.Goals as goal

pub returns-in-Some : goal.returns-in-Some
returns-in-Some c =
    let found = sym (ap option_copied_mut c.in-Some.is) ∙ c.get_mut.ensures.value in
    changed (ticket_befell c.args.u.now (kind_of_mishap c.args.kind) c.args.at) _ _ c.args.seq _ c.befell.new.self (listed c.befell.result) found c.befell.ensures ((c.get_mut.follows.holds c.befell.new.self).3 (subst IsSome found refl)).0

pub returns-in-None : goal.returns-in-None
returns-in-None c =
    unchanged (ticket_befell c.args.u.now (kind_of_mishap c.args.kind) c.args.at) _ c.args.seq (sym (ap option_copied_mut c.in-None.is) ∙ c.get_mut.ensures.value)
    ∙ ap (λ m. record { reads = seen m.entries; out = [] }) (sym c.get_mut.follows.holds-at-none)
