-- What stands is one set of messages.
use Rattle.std.specs.Prelude.{◌↔◌, ℕ, List}
use Rattle.mail_model.specs.Identity.{Id}
use Rattle.mail_model.specs.Record.{Record}
use Rattle.object_model.specs.Lists.{Among}
use Rattle.standing_model.specs.Standing.{AreStanding}

-- Two lists of what stands have the same messages.
abbrev pub StandingIsOneSet : Type 0
StandingIsOneSet = (disks : List (List Record)) (members : List ℕ) (user : List ℕ) (ids others : List Id) → AreStanding disks members user ids → AreStanding disks members user others
    → (id : Id) → Among id ids ↔ Among id others
