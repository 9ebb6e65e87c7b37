use Rattle.std.proofs.Common.{◌∙◌, refl, sym, ap, subst}
use Rattle.node_store.specs.Disks.{view_of}
use Rattle.cluster_world.proofs.Grouping.{groups_so, groups_heard}
use Rattle.cluster_world.proofs.Turning.{works_in}
use Rattle.cluster_world.proofs.working.open_at.Goals as goal

pub open_group-done-requires-clause-works : goal.open_group-done-requires-clause-works
open_group-done-requires-clause-works g c = works_in c.args.life.now c.in-Up.node _ c.in-Up.is c.requires.up

pub returns-clause-sent : goal.returns-clause-sent
returns-clause-sent g c =
    groups_heard (view_of g.D.Disk.seen g.D.Disk.faults g.D.Disk.clock) c.args.nodes c.in-Up.node c.args.disk.now c.open_group-done.new.self c.open_group-done.new.disk c.open_group-done.result c.open_group-done.ensures.opens

pub returns-clause-turns : goal.returns-clause-turns
returns-clause-turns g c = record {
  old = c.in-Up.node;
  new = c.open_group-done.new.self;
  was = c.in-Up.is;
  did = groups_so (view_of g.D.Disk.seen g.D.Disk.faults g.D.Disk.clock) c.args.nodes c.in-Up.node c.args.disk.now c.open_group-done.new.self c.open_group-done.new.disk c.open_group-done.result c.open_group-done.ensures.opens;
  maps = c.open_group-done.ensures.opens;
  beside = c.open_group-done.ensures.beside;
  is = c.settle.ensures _ refl;
  works = c.open_group-done.ensures.works;
}
