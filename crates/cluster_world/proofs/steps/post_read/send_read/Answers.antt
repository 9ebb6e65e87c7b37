use Rattle.std.proofs.Common.{List, sym, subst}
use Rattle.object_model.specs.Letters.{Letter}
use Rattle.cluster_world.specs.Reading.{AreOfOne}
use Rattle.cluster_world.proofs.steps.post_read.send_read.Goals as goal

pub put_queue-requires-clause-one : goal.put_queue-requires-clause-one
put_queue-requires-clause-one g c = subst (λ (l : List Letter). AreOfOne l) (sym c.queue_all.ensures.items) c.requires.one
