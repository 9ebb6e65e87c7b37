use Rattle.std.proofs.Common.{refl}
use Rattle.board_desk.proofs.Sound.{same_world_adds}
use Rattle.board_desk.proofs.deeds.AskingDeed.short.Goals as goal

pub returns : goal.returns
returns g c = λ world. record { made = tt; kind = tt; adds = λ sound. same_world_adds world world refl }
