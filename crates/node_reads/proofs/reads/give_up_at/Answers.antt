use Rattle.std.proofs.Common.{sym, ap, ◌∙◌}
use Rattle.node_reads.specs.Tickets.{letters_given_up}
use Rattle.node_reads.proofs.reads.give_up_at.Goals as goal

pub returns-in-Some-clause-out : goal.returns-in-Some-clause-out
returns-in-Some-clause-out c = c.give_up.ensures ∙ ap (letters_given_up c.args.u.now) (sym c.in-Some.is ∙ c.take_out.ensures.was)

pub returns-in-None-clause-out : goal.returns-in-None-clause-out
returns-in-None-clause-out c = ap (letters_given_up c.args.u.now) (sym c.in-None.is ∙ c.take_out.ensures.was)
