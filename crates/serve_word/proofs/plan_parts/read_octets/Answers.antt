use Rattle.std.proofs.Common.{sym, subst}
use Rattle.cluster_world.specs.Opens.{CanBeOpened}
use Rattle.serve_word.proofs.Fitting.{fits, opens, octets_read}
use Rattle.serve_word.proofs.plan_parts.read_octets.Goals as goal

pub returns-in-Err-clause-reads : goal.returns-in-Err-clause-reads
returns-in-Err-clause-reads c = c.fault_of.ensures c.args.octets.now c.in-Err.ensures.answers

pub parts_of-requires-clause-smtp : goal.parts_of-requires-clause-smtp
parts_of-requires-clause-smtp c = (fits c.args.octets.now c.in-Ok.read c.in-Ok.ensures.answers).0

pub parts_of-requires-clause-pop : goal.parts_of-requires-clause-pop
parts_of-requires-clause-pop c = (fits c.args.octets.now c.in-Ok.read c.in-Ok.ensures.answers).1

pub returns-in-Ok-parts_of-clause-reads : goal.returns-in-Ok-parts_of-clause-reads
returns-in-Ok-parts_of-clause-reads c = octets_read c.args.octets.now c.in-Ok.read c.in-Ok-read_plan.again c.in-Ok-parts_of.parts c.in-Ok.ensures.answers c.in-Ok-read_plan.ensures.answers
    c.in-Ok-parts_of.ensures.plan c.in-Ok-parts_of.ensures.names c.in-Ok-parts_of.ensures.folder c.in-Ok-parts_of.ensures.ports

pub returns-in-Ok-parts_of-clause-fits : goal.returns-in-Ok-parts_of-clause-fits
returns-in-Ok-parts_of-clause-fits c = subst CanBeOpened (sym c.in-Ok-parts_of.ensures.plan) (opens c.args.octets.now c.in-Ok.read c.in-Ok.ensures.answers)
