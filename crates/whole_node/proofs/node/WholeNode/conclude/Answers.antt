use Rattle.std.proofs.Common.{◌≡◌, ◌∙◌, sym, ap, if◌then◌else◌}
use Rattle.mail_model.specs.Identity.{EpochId}
use Rattle.object_model.specs.Keys.{is_same_epoch}
use Rattle.object_model.specs.Locks.{no_locks}
use Rattle.cluster_model.specs.Cluster.{epoch_of}
use Rattle.node_core.specs.Nodes.{node_seen}
use Rattle.node_core.specs.declared.node.Node.{Node}
use Rattle.whole_node.proofs.Settled.{concluded_or_not, concluded_works, concluded_beside, both_kept}
use Rattle.whole_node.proofs.node.WholeNode.conclude.Goals as goal

pub returns-in-Ok-clause-concludes : goal.returns-in-Ok-clause-concludes
returns-in-Ok-clause-concludes c = λ seen w.
    let old = c.args.self.now in
    let new = c.keep_locks.new.self in
    let b = both_kept c.args.buckets c.in-Ok.done old c.conclude_both.new.self new c.keep_locks.ensures.mail c.keep_locks.ensures.maps c.in-Ok.ensures.concludes in
    concluded_or_not c.args.buckets c.in-Ok.done old new w.maps b.0 b.1

pub returns-in-Ok-clause-works : goal.returns-in-Ok-clause-works
returns-in-Ok-clause-works c = λ seen w up.
    let old = c.args.self.now in
    let new = c.keep_locks.new.self in
    let b = both_kept c.args.buckets c.in-Ok.done old c.conclude_both.new.self new c.keep_locks.ensures.mail c.keep_locks.ensures.maps c.in-Ok.ensures.concludes in
    concluded_works c.args.buckets c.in-Ok.done old new seen w b.0 b.1 (c.keep_locks.ensures.reads ∙ c.conclude_both.ensures.beside.reads)

pub returns-in-Ok-clause-beside : goal.returns-in-Ok-clause-beside
returns-in-Ok-clause-beside c = λ seen w up.
    let old = c.args.self.now in
    let mid = c.conclude_both.new.self in
    let new = c.keep_locks.new.self in
    let b = both_kept c.args.buckets c.in-Ok.done old mid new c.keep_locks.ensures.mail c.keep_locks.ensures.maps c.in-Ok.ensures.concludes in
    let locks : new.locks ≡ (if is_same_epoch (epoch_of (node_seen old.mail)) (epoch_of (node_seen new.mail)) then old.locks else no_locks) =
    c.keep_locks.ensures.locks
    ∙ (λ i. if is_same_epoch (c.epoch-epoch.ensures i) (epoch_of (node_seen (sym c.keep_locks.ensures.mail i))) then c.conclude_both.ensures.beside.locks i else no_locks) in
    concluded_beside c.args.buckets c.in-Ok.done old new w.maps b.0 b.1 (c.keep_locks.ensures.reads ∙ c.conclude_both.ensures.beside.reads) locks
