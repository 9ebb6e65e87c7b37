use Rattle.maps_model.proofs.OneMap.{one_map}
use Rattle.maps_model.proofs.laws.one_map.Goals as goal

pub returns : goal.returns
returns c = λ claims members buckets epoch a b x y. one_map claims members buckets epoch a b x y
