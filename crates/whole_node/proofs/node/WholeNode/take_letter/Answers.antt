use Rattle.std.proofs.Common.{ap}
use Rattle.object_model.specs.Letters.{Letter}
use Rattle.mail_base.specs.Bodies.{body_seen}
use Rattle.whole_node.proofs.Epochs.{took_letter}
use Rattle.whole_node.proofs.node.WholeNode.take_letter.Goals as goal

pub returns-clause-takes : goal.returns-clause-takes
returns-clause-takes c =
    took_letter c.args.letter.now c.outbox_of.result c.args.self.now c.hear.new.self c.share_after.new.self c.learn.new.self c.in_ok-answer.answer (body_seen c.letter.inside.body) (ap (λ (l : Letter). l.body) c.letter.view_is)
    c.in_ok-answer.ensures c.share_after.ensures.maps c.in_ok-share_after.ensures.shares c.learn.ensures c.outbox_of.ensures.letters c.outbox_of.ensures.thrown
