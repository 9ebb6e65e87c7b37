use Rattle.std.proofs.Common.{◌∙◌, refl, sym, ap, subst}
use Rattle.node_store.specs.Disks.{view_of}
use Rattle.cluster_world.proofs.Hearing.{any_so}
use Rattle.cluster_world.proofs.Turning.{works_in}
use Rattle.cluster_world.proofs.working.hear_at.Goals as goal

pub hear-done-requires-clause-works : goal.hear-done-requires-clause-works
hear-done-requires-clause-works g c = works_in c.args.life.now c.in-Up.node _ c.in-Up.is c.requires.up

pub hear-done-requires-clause-spelt : goal.hear-done-requires-clause-spelt
hear-done-requires-clause-spelt g c = c.requires.fits.taken

pub hear-done-requires-clause-fits : goal.hear-done-requires-clause-fits
hear-done-requires-clause-fits g c = c.requires.fits.fits

pub returns-clause-turns : goal.returns-clause-turns
returns-clause-turns g c = record {
  old = c.in-Up.node;
  new = c.hear-done.new.self;
  was = c.in-Up.is;
  did = λ plan own is. any_so (view_of g.D.Disk.seen g.D.Disk.faults g.D.Disk.clock) own plan.nodes c.args.letter.now c.in-Up.node c.args.disk.now c.hear-done.new.self c.hear-done.new.disk c.hear-done.result
      (λ mail. c.hear-done.ensures.hears mail plan own is) c.hear-done.ensures.maps;
  maps = λ plan own is. record { mail = λ of. c.hear-done.ensures.follows of plan own is; maps = c.hear-done.ensures.maps };
  beside = c.hear-done.ensures.beside;
  is = c.settle.ensures _ refl;
  works = c.hear-done.ensures.works;
}
