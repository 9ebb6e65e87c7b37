use Rattle.std.proofs.Common.{◌∙◌, refl, sym, ap, subst}
use Rattle.cluster_world.proofs.Turning.{works_in}
use Rattle.cluster_world.proofs.working.begin_at.Goals as goal

pub begin-done-requires-clause-works : goal.begin-done-requires-clause-works
begin-done-requires-clause-works g c = works_in c.args.life.now c.in-Up.node _ c.in-Up.is c.requires.up

pub returns-clause-turns : goal.returns-clause-turns
returns-clause-turns g c = record {
  old = c.in-Up.node;
  new = c.begin-done.new.self;
  was = c.in-Up.is;
  did = λ plan own is ended. c.begin-done.ensures.begins plan own is;
  maps = c.begin-done.ensures.follows;
  beside = c.begin-done.ensures.beside;
  is = c.settle.ensures _ refl;
  works = c.begin-done.ensures.works;
}

pub begin-done-requires-clause-mail : goal.begin-done-requires-clause-mail
begin-done-requires-clause-mail g c = c.requires.mail
