use Rattle.worked_settles.proofs.MapsEnd.{maps_tape_is_met}
use Rattle.worked_settles.proofs.laws.maps_tape_is_met.Goals as goal

pub returns : goal.returns
returns c = maps_tape_is_met
