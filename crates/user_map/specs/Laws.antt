-- What holds of every map that is assigned.
use Rattle.std.specs.Prelude.{ℕ, ◌<◌, List, length}
use Rattle.mail_model.specs.Identity.{EpochId}
use Rattle.object_model.specs.Letters.{Member, Claim}
use Rattle.maps_model.specs.Assign.{IsAssigned}
use Rattle.user_map.specs.Plain.{assigned}

-- Where there is a member, a map is assigned to any claims, and the plain program makes it.
abbrev pub SomeMap : Type 0
SomeMap = (claims : List Claim) (members : List Member) (buckets : ℕ) (epoch : EpochId) → 0 < length members
    → IsAssigned claims members buckets epoch (assigned claims members buckets epoch)
