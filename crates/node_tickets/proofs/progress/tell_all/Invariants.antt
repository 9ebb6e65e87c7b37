use Rattle.std.proofs.Common.{◌≡◌, ◌++◌, take, drop, map}
use Rattle.mail_base.specs.Bodies.{body_seen}
use Rattle.cluster_model.specs.Rules.{told_want}
use Rattle.node_tickets.proofs.progress.tell_all.Given as goal

abbrev pub invariant-loop-want : goal.invariant-loop-want
invariant-loop-want l = l.want-items ≡ map (told_want (body_seen l.fn.body) l.fn.from) (take l.want-index l.initial.want-items) ++ drop l.want-index l.initial.want-items
