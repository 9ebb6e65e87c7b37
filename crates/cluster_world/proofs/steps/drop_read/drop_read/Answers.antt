use Rattle.std.proofs.Common.{sym, ap, subst, ◌∙◌, ◌&&◌, nat_le, Some}
use Rattle.cluster_model.specs.Steps.{has_ticket, letters_end}
use Rattle.node_store.specs.Disks.{view_of}
use Rattle.node_reads.specs.Readings.{listed}
use Rattle.cluster_world.specs.Flights.{InFlight}
use Rattle.cluster_world.specs.Reading.{flying_of, PutsQueue}
use Rattle.cluster_world.proofs.Dropping.{no_letter_dropped, worn_dropped}
use Rattle.cluster_world.proofs.ReadDrops.{dropped_read}
use Rattle.cluster_world.proofs.steps.drop_read.drop_read.Goals as goal

pub returns-in_default-clause-did : goal.returns-in_default-clause-did
returns-in_default-clause-did g c = λ seconds book. no_letter_dropped (view_of g.D.Disk.seen g.D.Disk.faults g.D.Disk.clock) c.args.nodes.now c.args.flying.now seconds book c.args.number (sym c.in_default.ensures.is)

pub returns-then-leads_too_far-clause-did : goal.returns-then-leads_too_far-clause-did
returns-then-leads_too_far-clause-did g c = λ seconds book. worn_dropped (view_of g.D.Disk.seen g.D.Disk.faults g.D.Disk.clock) c.args.nodes.now c.args.flying.now seconds book c.args.number c.in-Some.letter.now
    (sym c.in-Some.ensures.is) (ap (λ n. has_ticket (Some c.in-Some.letter.now) && nat_le letters_end n) (sym c.sent.ensures) ∙ sym c.if-leads_too_far.ensures)

pub returns-clause-did : goal.returns-clause-did
returns-clause-did g c = λ seconds book. dropped_read (view_of g.D.Disk.seen g.D.Disk.faults g.D.Disk.clock) c.args.nodes.now c.befall_in-sent.new.nodes c.put_next.new.nodes c.args.flying.now _ _ seconds book c.args.number c.in-Some.letter.now c.befall_in-sent.result
    (sym c.in-Some.ensures.is) (c.requires.read c.in-Some.letter.now (sym c.in-Some.ensures.is)) (ap (λ n. has_ticket (Some c.in-Some.letter.now) && nat_le letters_end n) (sym c.sent.ensures) ∙ sym c.if-leads_too_far.ensures)
    c.befall_in-sent.ensures.befallen c.take_with_place-roomy.ensures.taken
    (subst (λ (f : InFlight). PutsQueue (view_of g.D.Disk.seen g.D.Disk.faults g.D.Disk.clock) (listed c.befall_in-sent.result) c.befall_in-sent.new.nodes (flying_of c.take_with_place-roomy.result) c.put_next.new.nodes f) (sym c.put_back.ensures) c.put_next.ensures.puts)
