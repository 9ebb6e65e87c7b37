use Rattle.std.proofs.Common.{refl}
use Rattle.whole_node.specs.declared.node.WholeNode.{WholeNode}
use Rattle.whole_node.proofs.ReadDids.{asks_result}
use Rattle.whole_node.proofs.node.WholeNode.ask_read.Goals as goal

pub returns-clause-asks : goal.returns-clause-asks
returns-clause-asks c =
    let old = c.args.self.now in
    let new : WholeNode = record old { reads = c.ask.new.self } in
    asks_result old new (record { mail = refl; maps = refl }) c.requires.reads.reads c.args.ticket c.ask.result refl c.ask.ensures.ok c.ask.ensures.done c.ask.ensures.err
