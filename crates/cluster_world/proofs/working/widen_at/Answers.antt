use Rattle.std.proofs.Common.{◌∙◌, refl, sym, ap, subst}
use Rattle.cluster_world.proofs.Turning.{works_in}
use Rattle.cluster_world.proofs.working.widen_at.Goals as goal

pub widen-done-requires : goal.widen-done-requires
widen-done-requires g c = record { works = works_in c.args.life.now c.in-Up.node _ c.in-Up.is c.requires.up }

pub returns-clause-turns : goal.returns-clause-turns
returns-clause-turns g c = record {
  old = c.in-Up.node;
  new = c.widen-done.new.self;
  was = c.in-Up.is;
  did = c.widen-done.ensures.widens;
  maps = c.widen-done.ensures.follows;
  beside = c.widen-done.ensures.beside;
  is = c.settle.ensures _ refl;
  works = c.widen-done.ensures.works;
}
