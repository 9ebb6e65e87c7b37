use Rattle.std.proofs.Common.{[], refl}
use Rattle.std.specs.FinMap as fin
use Rattle.std.proofs.lemmas.Result.{err_from_is_err_and}
use Rattle.object_model.specs.UpdateLog.{is_of}
use Rattle.mail_base.specs.Seen.{key_seen}
use Rattle.cluster_model.specs.Rules.{hear_retired}
use Rattle.replica_push.proofs.Follows.{retiring_follows}
use Rattle.node_store.specs.Disks.{view_of}
use Rattle.node_store.specs.Changes.{retired_in}
use Rattle.node_core.specs.Nodes.{node_seen}
use Rattle.node_core.proofs.Doing.{did_by, stopped_by}
use Rattle.node_core.proofs.Acking.{retired_fit, retired_out}
use Rattle.node_core.proofs.Sending.{none_fit}
use Rattle.node_core.proofs.node.Node.hear_retired.Goals as goal

pub returns-in_err-retired-clause-wrote : goal.returns-in_err-retired-clause-wrote
returns-in_err-retired-clause-wrote g c =
    let on = view_of g.D.Disk.seen g.D.Disk.faults g.D.Disk.clock in
    let p = err_from_is_err_and c.from_residual.result c.from_residual.ensures.1 in
    let key = key_seen c.args.key.now in
    let state = c.args.state.now in
    let w = c.in_err-retired.ensures.wrote in
    rw (p.1, p.2) (
      stopped_by on (λ node disk. hear_retired node disk key state) (retired_in key state) c.args.self.now c.args.disk.now _ w.0
          (λ records k. (retiring_follows (node_seen c.args.self.now) records key state).disk_is)
          (λ records k. retired_fit key state (is_of state (fin.get c.args.self.now.store.log key)) records c.requires.object k.fit),
      w.1,
    )

pub returns-clause-wrote : goal.returns-clause-wrote
returns-clause-wrote g c =
    let on = view_of g.D.Disk.seen g.D.Disk.faults g.D.Disk.clock in
    let key = key_seen c.args.key.now in
    let state = c.args.state.now in
    did_by on (λ node disk. hear_retired node disk key state) (retired_in key state) c.args.self.now c.args.disk.now _ _ [] c.in_ok-retired.ensures.wrote
    (λ records k. (retiring_follows (node_seen c.args.self.now) records key state).disk_is)
    (λ records k. (retiring_follows (node_seen c.args.self.now) records key state).node_is)
    (λ records k. retired_out (node_seen c.args.self.now) records key state (fin.get c.args.self.now.store.log key))
    (record { boot = refl; shape = refl; tickets = λ own boot confirm is. is }) c.requires.works.whole none_fit
