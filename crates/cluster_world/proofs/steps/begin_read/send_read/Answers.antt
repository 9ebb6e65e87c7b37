use Rattle.std.proofs.Common.{List, [], ◌++◌, sym, ap, subst, ◌∙◌}
use Rattle.object_model.specs.Letters.{Letter}
use Rattle.cluster_world.specs.Reading.{AreOfOne}
use Rattle.cluster_world.proofs.steps.begin_read.send_read.Goals as goal

pub put_queue-requires-clause-one : goal.put_queue-requires-clause-one
put_queue-requires-clause-one g c = subst (λ (l : List Letter). AreOfOne l) (sym (c.fill.ensures.items ∙ ap (λ (l : List Letter). l ++ c.args.letters) c.requires.none)) c.requires.one
