use Rattle.whole_world.proofs.Projecting.{all_seen}
use Rattle.whole_world.proofs.laws.messages_see_steps.Goals as goal

pub returns : goal.returns
returns c = λ plan tells old new steps made. all_seen plan tells old new steps made
