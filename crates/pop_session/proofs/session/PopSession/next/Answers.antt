use Rattle.pop_session.proofs.Moving.{of_plan}
use Rattle.pop_session.proofs.session.PopSession.next.Goals as goal

pub returns-in-Greets-clause-ok : goal.returns-in-Greets-clause-ok
returns-in-Greets-clause-ok c = of_plan c.args.plan.now c.args.self.now c.greet.new.self c.args.out.now.items c.greet.new.out.items _ c.greet.result c.greet.ensures.ok

pub returns-in-Replies-clause-ok : goal.returns-in-Replies-clause-ok
returns-in-Replies-clause-ok c = of_plan c.args.plan.now c.args.self.now c.reply.new.self c.args.out.now.items c.reply.new.out.items _ c.reply.result c.reply.ensures.ok
