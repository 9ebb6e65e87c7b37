use Rattle.std.proofs.Common.{ℕ, subst}
use Rattle.std.proofs.lemmas.Result.{err_from_is_err_and}
use Rattle.cluster_model.specs.Store.{take_all, here_updates}
use Rattle.node_store.specs.Disks.{view_of}
use Rattle.node_store.specs.Changes.{with_stored}
use Rattle.node_store.specs.Writes.{Done, WorkIsCutShort}
use Rattle.node_store.proofs.Journals.{fails_after}
use Rattle.node_store.proofs.Grown.{all_grow}
use Rattle.node_store.proofs.Works.{done_more, stopped_more, stopped_before}
use Rattle.node_core.proofs.filing.file.Goals as goal

pub returns-in_err-store_octets-clause-wrote : goal.returns-in_err-store_octets-clause-wrote
returns-in_err-store_octets-clause-wrote g c =
    let on = view_of g.D.Disk.seen g.D.Disk.faults g.D.Disk.clock in
    let p = err_from_is_err_and c.from_residual.result c.from_residual.ensures.1 in
    let w = c.in_err-store_octets.ensures.wrote in
    let updates = here_updates c.args.id c.args.stamp c.args.targets c.args.users.now in
    rw (p.1, p.2) (
      stopped_before on (with_stored c.args.id c.args.users.now c.args.octets.now) (take_all c.args.store.now.own updates) c.args.store.now c.args.disk.now _ (all_grow c.args.store.now.own updates) w.0,
      w.1,
    )

pub returns-in_err-take_here-clause-wrote : goal.returns-in_err-take_here-clause-wrote
returns-in_err-take_here-clause-wrote g c =
    let on = view_of g.D.Disk.seen g.D.Disk.faults g.D.Disk.clock in
    let p = err_from_is_err_and c.from_residual-in_err-take_here.result c.from_residual-in_err-take_here.ensures.1 in
    let w = c.in_err-take_here.ensures.wrote in
    let first = c.in_ok-store_octets.ensures.wrote in
    let updates = here_updates c.args.id c.args.stamp c.args.targets c.args.users.now in
    rw (p.1, p.2) (
      stopped_more on (with_stored c.args.id c.args.users.now c.args.octets.now) (take_all c.args.store.now.own updates) c.args.store.now c.args.disk.now c.store_octets.new.self c.store_octets.new.disk
          c.take_here.new.disk first
          (subst (λ (n : ℕ). WorkIsCutShort on (take_all n updates) c.store_octets.new.self c.store_octets.new.disk c.take_here.new.disk) first.own w.0),
      fails_after _ _ _ _ first.appends.quiet w.1,
    )

pub returns-clause-wrote : goal.returns-clause-wrote
returns-clause-wrote g c =
    let on = view_of g.D.Disk.seen g.D.Disk.faults g.D.Disk.clock in
    let first = c.in_ok-store_octets.ensures.wrote in
    let updates = here_updates c.args.id c.args.stamp c.args.targets c.args.users.now in
    done_more on (with_stored c.args.id c.args.users.now c.args.octets.now) (take_all c.args.store.now.own updates) c.args.store.now c.args.disk.now c.store_octets.new.self c.store_octets.new.disk
    c.take_here.new.self c.take_here.new.disk first
    (subst (λ (n : ℕ). Done on (take_all n updates) c.store_octets.new.self c.store_octets.new.disk c.take_here.new.self c.take_here.new.disk) first.own c.in_ok-take_here.ensures.wrote)
