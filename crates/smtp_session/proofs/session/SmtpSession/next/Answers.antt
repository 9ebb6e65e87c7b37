use Rattle.smtp_session.proofs.Moving.{of_plan}
use Rattle.smtp_session.proofs.session.SmtpSession.next.Goals as goal

pub returns-in-Greets-clause-ok : goal.returns-in-Greets-clause-ok
returns-in-Greets-clause-ok c = of_plan c.args.plan.now c.args.self.now c.say.new.self c.args.out.now.items c.say.new.out.items _ c.say.result c.say.ensures.ok

pub returns-in-Replies-clause-ok : goal.returns-in-Replies-clause-ok
returns-in-Replies-clause-ok c =
    of_plan c.args.plan.now c.args.self.now c.say-in-Replies.new.self c.args.out.now.items c.say-in-Replies.new.out.items _ c.say-in-Replies.result c.say-in-Replies.ensures.ok

pub returns-in-Hears-clause-ok : goal.returns-in-Hears-clause-ok
returns-in-Hears-clause-ok c =
    of_plan c.args.plan.now c.args.self.now c.hear_text.new.self c.args.out.now.items c.hear_text.new.out.items _ c.hear_text.result c.hear_text.ensures.ok
