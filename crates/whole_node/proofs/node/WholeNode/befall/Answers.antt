use Rattle.std.proofs.Common.{refl, subst}
use Rattle.mail_model.specs.Identity.{EpochId}
use Rattle.node_tickets.specs.Seen.{kind_of_mishap}
use Rattle.node_reads.specs.Readings.{listed}
use Rattle.node_reads.specs.Tables.{Befalls}
use Rattle.whole_node.specs.declared.node.WholeNode.{WholeNode}
use Rattle.whole_node.proofs.ReadDids.{befalls_so}
use Rattle.whole_node.proofs.node.WholeNode.befall.Goals as goal

pub returns-clause-befalls : goal.returns-clause-befalls
returns-clause-befalls c =
    let old = c.args.self.now in
    let new : WholeNode = record old { reads = c.mishap.new.self; locks = c.let_go_befallen.new.locks } in
    befalls_so old new (record { mail = refl; maps = refl }) c.requires.reads.reads (kind_of_mishap c.args.kind) c.args.at c.args.ticket c.mishap.result c.requires.reads.maps c.let_go_befallen.ensures
    (subst (λ (e : EpochId). Befalls e c.args.ticket (kind_of_mishap c.args.kind) c.args.at (listed c.mishap.result) old.reads new.reads) c.epoch-epoch.ensures c.mishap.ensures.did)
