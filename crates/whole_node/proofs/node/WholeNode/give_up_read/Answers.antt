use Rattle.std.proofs.Common.{refl, subst}
use Rattle.mail_model.specs.Identity.{EpochId}
use Rattle.node_reads.specs.Readings.{listed}
use Rattle.node_reads.specs.Tables.{GivesUp}
use Rattle.whole_node.specs.declared.node.WholeNode.{WholeNode}
use Rattle.whole_node.proofs.ReadDids.{gives_up_so}
use Rattle.whole_node.proofs.node.WholeNode.give_up_read.Goals as goal

pub returns-clause-gives_up : goal.returns-clause-gives_up
returns-clause-gives_up c =
    let old = c.args.self.now in
    let new : WholeNode = record old { reads = c.give_up.new.self; locks = c.let_go_given_up.new.locks } in
    gives_up_so old new (record { mail = refl; maps = refl }) c.requires.reads.reads c.args.ticket c.give_up.result c.requires.reads.maps c.let_go_given_up.ensures
    (subst (λ (e : EpochId). GivesUp e c.args.ticket (listed c.give_up.result) old.reads new.reads) c.epoch-epoch.ensures c.give_up.ensures.did)
