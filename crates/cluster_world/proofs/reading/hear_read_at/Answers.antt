use Rattle.std.proofs.Common.{refl}
use Rattle.cluster_world.proofs.Turning.{works_in}
use Rattle.cluster_world.proofs.reading.hear_read_at.Goals as goal

pub hear_read-done-requires-clause-works : goal.hear_read-done-requires-clause-works
hear_read-done-requires-clause-works g c = works_in c.args.life.now c.in-Up.node _ c.in-Up.is c.requires.up

pub returns-clause-turns : goal.returns-clause-turns
returns-clause-turns g c = record {
  old = c.in-Up.node;
  new = c.hear_read-done.new.self;
  was = c.in-Up.is;
  did = λ plan own is users. c.hear_read-done.ensures.hears plan own is users;
  is = c.settle.ensures _ refl;
  works = c.hear_read-done.ensures.works;
}
