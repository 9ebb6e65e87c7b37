use Rattle.std.proofs.Common.{◌∙◌, refl, sym, ap, subst}
use Rattle.node_store.specs.Disks.{view_of}
use Rattle.cluster_world.proofs.Grouping.{concludes_so, concludes_heard}
use Rattle.cluster_world.proofs.Turning.{works_in}
use Rattle.cluster_world.proofs.working.conclude_at.Goals as goal

pub returns-clause-turns : goal.returns-clause-turns
returns-clause-turns g c =
    let works = works_in c.args.life.now c.in-Up.node (g.D.Disk.seen c.args.disk.now) c.in-Up.is c.requires.up in
    let done = c.conclude-done.ensures.concludes (g.D.Disk.seen c.args.disk.now) works in
    record {
      old = c.in-Up.node;
      new = c.conclude-done.new.self;
      was = c.in-Up.is;
      did = concludes_so (view_of g.D.Disk.seen g.D.Disk.faults g.D.Disk.clock) c.args.buckets c.in-Up.node c.conclude-done.new.self c.args.disk.now c.conclude-done.result works.mail done;
      maps = done;
      beside = c.conclude-done.ensures.beside (g.D.Disk.seen c.args.disk.now) works;
      is = c.settle.ensures _ refl;
      works = c.conclude-done.ensures.works (g.D.Disk.seen c.args.disk.now) works;
    }

pub returns-clause-sent : goal.returns-clause-sent
returns-clause-sent g c =
    concludes_heard c.args.buckets c.in-Up.node c.conclude-done.new.self c.conclude-done.result
    (c.conclude-done.ensures.concludes (g.D.Disk.seen c.args.disk.now) (works_in c.args.life.now c.in-Up.node (g.D.Disk.seen c.args.disk.now) c.in-Up.is c.requires.up))
