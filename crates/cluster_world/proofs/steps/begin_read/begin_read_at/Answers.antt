use Rattle.std.proofs.Common.{refl}
use Rattle.cluster_world.proofs.Turning.{works_in}
use Rattle.cluster_world.proofs.steps.begin_read.begin_read_at.Goals as goal

pub begin_by-done-requires-clause-works : goal.begin_by-done-requires-clause-works
begin_by-done-requires-clause-works g c = works_in c.args.life.now c.in-Up.node _ c.in-Up.is c.requires.up

pub returns : goal.returns
returns g c = record {
  turns = λ plan users. record {
    old = c.in-Up.node;
    new = c.begin_by-done.new.node;
    was = c.in-Up.is;
    did = λ own seconds of. c.begin_by-done.ensures.begins plan own seconds of users;
    is = c.settle.ensures _ refl;
    works = c.begin_by-done.ensures.works;
    settled = c.begin_by-done.ensures.settled;
  };
}
