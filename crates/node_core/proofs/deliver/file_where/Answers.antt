use Rattle.std.proofs.Common.{◌≡◌, false, true, sym, ap, ◌∙◌}
use Rattle.std.proofs.lemmas.Result.{err_from_is_err_and}
use Rattle.object_model.specs.Sets.{has}
use Rattle.cluster_model.specs.Store.{Store}
use Rattle.node_store.specs.Disks.{view_of}
use Rattle.node_store.proofs.Works.{done_none, done_same, stopped_same}
use Rattle.node_core.specs.Filed.{with_filed}
use Rattle.node_core.specs.Delivering.{filed_where}
use Rattle.node_core.proofs.Delivery.{unfiled, filed}
use Rattle.node_core.proofs.deliver.file_where.Goals as goal

pub returns-else-has-clause-wrote : goal.returns-else-has-clause-wrote
returns-else-has-clause-wrote g c =
    let on = view_of g.D.Disk.seen g.D.Disk.faults g.D.Disk.clock in
    let own = c.args.store.now.own in
    let none : has c.args.targets own ≡ false = ap (has c.args.targets) (sym c.own.ensures) ∙ sym c.has.ensures ∙ c.if-has.false in
    done_same on (λ s. s) (filed_where own c.args.id c.args.stamp c.args.targets c.args.users.now c.args.octets.now) c.args.store.now c.args.disk.now c.args.store.now c.args.disk.now
    (unfiled own c.args.id c.args.stamp c.args.targets c.args.users.now c.args.octets.now none) (done_none on c.args.store.now c.args.disk.now c.requires.sound)

pub returns-in_err-file-clause-wrote : goal.returns-in_err-file-clause-wrote
returns-in_err-file-clause-wrote g c =
    let on = view_of g.D.Disk.seen g.D.Disk.faults g.D.Disk.clock in
    let own = c.args.store.now.own in
    let p = err_from_is_err_and c.from_residual.result c.from_residual.ensures.1 in
    let is : has c.args.targets own ≡ true = ap (has c.args.targets) (sym c.own.ensures) ∙ sym c.has.ensures ∙ c.if-has.true in
    let w = c.in_err-file.ensures.wrote in
    rw (p.1, p.2) (
      stopped_same on (with_filed own c.args.id c.args.stamp c.args.targets c.as_slice.result.now c.as_slice-then-has.result.now)
          (filed_where own c.args.id c.args.stamp c.args.targets c.args.users.now c.args.octets.now) c.args.store.now c.args.disk.now _
          (λ (s : Store). ap (λ u. with_filed own c.args.id c.args.stamp c.args.targets u c.as_slice-then-has.result.now s) c.as_slice.ensures
          ∙ ap (λ o. with_filed own c.args.id c.args.stamp c.args.targets c.args.users.now o s) c.as_slice-then-has.ensures
          ∙ filed own c.args.id c.args.stamp c.args.targets c.args.users.now c.args.octets.now is s) w.0,
      w.1,
    )
