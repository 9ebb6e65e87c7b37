use Rattle.std.proofs.Common.{◌+◌, refl, arith}
use Rattle.std.proofs.lemmas.Result.{err_from_is_err_and}
use Rattle.node_store.specs.Disks.{view_of}
use Rattle.node_core.specs.Starting.{WornOver}
use Rattle.node_core.proofs.Restarting.{reopen_failed, after_reading, worn_over, boot_failed, has_promised}
use Rattle.node_core.proofs.node.Node.start_with_promise.Goals as goal

pub returns-in_err-store-clause-starts : goal.returns-in_err-store-clause-starts
returns-in_err-store-clause-starts g c =
    let on = view_of g.D.Disk.seen g.D.Disk.faults g.D.Disk.clock in
    let p = err_from_is_err_and c.from_residual.result c.from_residual.ensures.1 in
    rw (p.1, p.2) (reopen_failed on c.args.plan.now c.args.number c.args.disk.now c.reopened.new.disk c.in_err-store.field-0.0 c.in_err-store.ensures.images c.in_err-store.ensures.reopens)

pub returns-then-last-clause-starts : goal.returns-then-last-clause-starts
returns-then-last-clause-starts g c =
    let on = view_of g.D.Disk.seen g.D.Disk.faults g.D.Disk.clock in
    let mid = c.reopened.new.disk in
    let made = c.in_ok-store.ensures in
    let store = c.in_ok-store.store in
    let found = c.in_ok-store.found in
    let r = made.reopens in
    after_reading on c.args.plan.now c.args.number c.args.disk.now mid store found r (g.met.D.Disk.settled_is_only mid made.settled) (WornOver on c.args.plan.now c.args.number c.args.disk.now mid)
    (λ records pending holds held seen was only.
    worn_over on c.args.plan.now c.args.number c.args.disk.now records pending holds mid held seen was made.images only store found r.reopened
    (omega (arith, c.if-last.true, c.boot-last.ensures, r.reopened.names.boot)))

pub returns-in_err-boot-clause-starts : goal.returns-in_err-boot-clause-starts
returns-in_err-boot-clause-starts g c =
    let on = view_of g.D.Disk.seen g.D.Disk.faults g.D.Disk.clock in
    let mid = c.reopened.new.disk in
    let made = c.in_ok-store.ensures in
    let w = c.in_err-boot.ensures.wrote in
    let p = err_from_is_err_and c.from_residual-in_err-boot.result c.from_residual-in_err-boot.ensures.1 in
    rw (p.1, p.2)
    (boot_failed on c.args.plan.now c.args.number c.args.disk.now mid c.in_ok-store.store c.in_ok-store.found made.reopens made.images (g.met.D.Disk.settled_is_only mid made.settled)
    (c.boot-last.result + 1) (c.boot-last.result) c.boot-last.ensures refl (omega (arith, c.if-last.false, c.boot-last.type_inv)) c.boot.new.disk c.in_err-boot.field-0.0 w.0 w.1)

pub returns-clause-starts : goal.returns-clause-starts
returns-clause-starts g c =
    let on = view_of g.D.Disk.seen g.D.Disk.faults g.D.Disk.clock in
    let mid = c.reopened.new.disk in
    let made = c.in_ok-store.ensures in
    let shape = c.shape_of-shape in
    has_promised on c.args.plan.now c.args.number c.args.disk.now mid c.in_ok-store.store c.in_ok-store.found made.reopens made.images (g.met.D.Disk.settled_is_only mid made.settled)
    (c.boot-last.result + 1) (c.boot-last.result) c.boot-last.ensures refl (omega (arith, c.if-last.false, c.boot-last.type_inv)) c.boot.new.disk c.boot.new.self shape.result c.new-tickets.result c.drawn.result c.count.result
    c.in_ok-boot.ensures.wrote shape.ensures.nodes shape.ensures.copies shape.ensures.confirm shape.ensures.installed c.new-tickets.ensures.whose c.new-tickets.ensures.none c.drawn.ensures c.count.ensures
    (omega (arith, c.well_formed)) c.requires.within c.requires.few c.requires.copies c.promise.result c.promise.ensures
