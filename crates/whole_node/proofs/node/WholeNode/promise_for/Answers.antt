use Rattle.std.proofs.Common.{◌∙◌, sym}
use Rattle.mail_base.specs.Bodies.{body_seen}
use Rattle.node_store.specs.Disks.{view_of}
use Rattle.whole_node.proofs.Looked.{no_promise}
use Rattle.whole_node.proofs.node.WholeNode.promise_for.Goals as goal

pub returns-in-None-clause-promises : goal.returns-in-None-clause-promises
returns-in-None-clause-promises g c =
    no_promise (view_of g.D.Disk.seen g.D.Disk.faults g.D.Disk.clock) (body_seen c.args.body.now) c.args.self.now c.args.disk.now c.requires.works (sym c.promise_due.ensures ∙ c.in-None.is)
