use Rattle.std.proofs.Common.{sym, ap, ◌∙◌}
use Rattle.node_store.specs.Disks.{view_of}
use Rattle.node_tickets.specs.Seen.{kind_of_mishap}
use Rattle.cluster_world.specs.Flights.{InFlight}
use Rattle.cluster_world.specs.Reading.{flying_of}
use Rattle.cluster_world.proofs.ReadPosting.{same_letter, is_lost}
use Rattle.cluster_world.proofs.steps.post_read.lose.Goals as goal

pub returns-clause-lost : goal.returns-clause-lost
returns-clause-lost g c = λ letter here.
    is_lost (view_of g.D.Disk.seen g.D.Disk.faults g.D.Disk.clock) c.args.number c.args.keep (kind_of_mishap c.args.kind) letter c.in-Some.letter.now c.befall_in-sent.result c.args.nodes.now c.befall_in-sent.new.nodes c.put_next.new.nodes _ _ _
    (same_letter _ _ _ (sym c.in-Some.ensures.is) here) c.befall_in-sent.ensures.befallen (c.leave.ensures.left ∙ ap (λ o. Rattle.cluster_world.specs.Flights.taken_out o (flying_of c.args.roomy.now)) c.out_of.ensures) c.put_next.ensures.puts
