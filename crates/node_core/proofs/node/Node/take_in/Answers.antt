use Rattle.std.proofs.Common.{ap}
use Rattle.std.proofs.lemmas.Result.{err_from_is_err_and}
use Rattle.object_model.specs.Letters.{Letter}
use Rattle.node_store.specs.Disks.{view_of}
use Rattle.node_core.proofs.Heard.{learned_did, learned_stopped}
use Rattle.node_core.proofs.node.Node.take_in.Goals as goal

pub returns-in_err-sent-clause-wrote : goal.returns-in_err-sent-clause-wrote
returns-in_err-sent-clause-wrote g c =
    let on = view_of g.D.Disk.seen g.D.Disk.faults g.D.Disk.clock in
    let p = err_from_is_err_and c.from_residual.result c.from_residual.ensures.1 in
    let w = c.in_err-sent.ensures.wrote in
    rw (p.1, p.2) (learned_stopped on c.args.letter.now c.args.self.now c.learn.new.self c.args.disk.now _ _ (ap (λ (l : Letter). l.body) c.letter.view_is) c.learn.ensures w.0, w.1)

pub returns-clause-wrote : goal.returns-clause-wrote
returns-clause-wrote g c =
    let on = view_of g.D.Disk.seen g.D.Disk.faults g.D.Disk.clock in
    learned_did on c.args.letter.now c.args.self.now c.learn.new.self c.args.disk.now _ _ (ap (λ (l : Letter). l.body) c.letter.view_is) c.learn.ensures _ _ c.in_ok-sent.ensures.wrote
