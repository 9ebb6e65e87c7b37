use Rattle.std.proofs.Common.{List, [], ◌∷◌, ◌++◌, ap, ◌∙◌}
use Rattle.object_model.specs.Letters.{Letter}
use Rattle.mail_base.specs.Bodies.{part_seen}
use Rattle.node_store.specs.Disks.{view_of}
use Rattle.whole_node.proofs.HeardReads.{heard_part}
use Rattle.whole_node.proofs.node.WholeNode.hear_fetch_ask.Goals as goal

pub returns-clause-hears : goal.returns-clause-hears
returns-clause-hears g c plan =
    let on = view_of g.D.Disk.seen g.D.Disk.faults g.D.Disk.clock in
    let t = c.in_ok-part.ensures.tells in
    heard_part on plan c.args.letter.now c.args.self.now c.requires.works.maps c.args.disk.now c.told_part.new.disk c.args.user.now c.args.id c.args.from c.args.most (part_seen c.in_ok-part.part) c.answer_fetch.result c.push.new.self
    c.requires.body t.those c.answer_fetch.ensures (c.in_ok-push.ensures.ok ∙ ap (λ (l : List Letter). l ++ c.answer_fetch.result ∷ []) c.new-letters.ensures) t.read t.quiet
