-- Two lists of what stands have the same messages.
use Rattle.standing_model.specs.Laws.{StandingIsOneSet}

pub one_set : StandingIsOneSet
one_set disks members user ids others a b id = (λ h. (b.exact id).0 ((a.exact id).1 h), λ h. (a.exact id).0 ((b.exact id).1 h))
