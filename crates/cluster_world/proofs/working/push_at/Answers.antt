use Rattle.std.proofs.Common.{◌∙◌, refl, sym, ap, subst}
use Rattle.cluster_world.proofs.Turning.{works_in}
use Rattle.cluster_world.proofs.working.push_at.Goals as goal

pub push-done-requires : goal.push-done-requires
push-done-requires g c = record { works = works_in c.args.life.now c.in-Up.node _ c.in-Up.is c.requires.up }

pub returns-clause-turns : goal.returns-clause-turns
returns-clause-turns g c = record {
  old = c.in-Up.node;
  new = c.push-done.new.self;
  was = c.in-Up.is;
  did = c.push-done.ensures.pushes;
  maps = λ plan own is. c.push-done.ensures.maps;
  beside = c.push-done.ensures.beside;
  is = c.settle.ensures _ refl;
  works = c.push-done.ensures.works;
}
