use Rattle.std.proofs.Common.{◌<◌, length, arith}
use Rattle.std.proofs.lemmas.Result.{err_from_is_err_and}
use Rattle.node_store.specs.Disks.{view_of}
use Rattle.cluster_world.proofs.FirstBoots.{one_more_opened, one_more_within, not_opened}
use Rattle.cluster_world.proofs.opening.open_all.Goals as goal

pub loop-alloc-preserved : goal.loop-alloc-preserved
loop-alloc-preserved g c =
    let on = view_of g.D.Disk.seen g.D.Disk.faults g.D.Disk.clock in
    let less : length c.loop-alloc.lives.items < length c.loop-alloc.disks.items = omega (arith, c.loop-alloc-test.true, c.len.ensures, c.len-in-loop-alloc.ensures) in
    record {
      opened = one_more_opened on g.D.Disk.settled c.args.plan.now c.loop-alloc.lives.items c.args.disks.now.items c.loop-alloc.disks.items c.loop-alloc.invariant.opened c.open_next.new.lives.items c.open_next.new.disks.items c.in_ok-open_next.ensures;
      within = one_more_within on g.D.Disk.settled c.args.plan.now c.loop-alloc.lives.items c.args.disks.now.items c.loop-alloc.disks.items c.loop-alloc.invariant.opened c.open_next.new.lives.items c.open_next.new.disks.items c.in_ok-open_next.ensures less;
    }

pub returns-in_err-open_next : goal.returns-in_err-open_next
returns-in_err-open_next g c =
    let on = view_of g.D.Disk.seen g.D.Disk.faults g.D.Disk.clock in
    let p = err_from_is_err_and c.from_residual.result c.from_residual.ensures.1 in
    rw (p.1, p.2) (not_opened on g.D.Disk.settled c.args.plan.now c.loop-alloc.lives.items c.args.disks.now.items c.loop-alloc.disks.items c.loop-alloc.invariant.opened c.open_next.new.lives.items c.open_next.new.disks.items
    c.in_err-open_next.field-0.0 c.in_err-open_next.ensures)
