use Rattle.map_rebuild.proofs.Listed.{due_given}
use Rattle.map_rebuild.proofs.laws.due_are_given.Goals as goal

pub returns : goal.returns
returns c = λ map node most reports due some. due_given map node most reports due some
