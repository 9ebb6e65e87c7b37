use Rattle.std.proofs.Common.{refl}
use Rattle.node_store.specs.Disks.{view_of}
use Rattle.whole_node.proofs.HeardReads.{heard_at_rest}
use Rattle.whole_node.proofs.node.WholeNode.hear_by_rule.Goals as goal

pub returns-in-FetchAsk-clause-hears : goal.returns-in-FetchAsk-clause-hears
returns-in-FetchAsk-clause-hears g c plan users = c.hear_fetch_ask.ensures.hears plan

pub returns-clause-hears : goal.returns-clause-hears
returns-clause-hears g c plan users =
    let on = view_of g.D.Disk.seen g.D.Disk.faults g.D.Disk.clock in
    heard_at_rest on plan c.args.letter.now c.args.self.now c.requires.works.maps c.args.disk.now c.hear_at_rest.new.self c.in_ok-letters.letters (c.in_ok-letters.ensures.ok plan users)
