use Rattle.std.proofs.Common.{List, sym, subst}
use Rattle.object_model.specs.Letters.{Letter}
use Rattle.cluster_world.specs.Reading.{AreOfOne}
use Rattle.cluster_world.proofs.steps.post_read.end_heard.Goals as goal

pub send_read-requires-clause-one : goal.send_read-requires-clause-one
send_read-requires-clause-one g c = subst (λ (l : List Letter). AreOfOne l) (sym c.into_vec.ensures) c.requires.one
