use Rattle.whole_model.proofs.Kept.{all_kept}
use Rattle.whole_model.proofs.laws.moves_keep_sound.Goals as goal

pub returns : goal.returns
returns c = λ confirm w moves may sound. all_kept confirm w moves may sound
