-- That the parts on deletions and on octets hold of every world that steps lead to.
use Rattle.std.specs.Prelude.{◌≡◌, ◌≤◌, ℕ, Bool, List, Some}
use Rattle.mail_model.specs.Identity.{Id, State}
use Rattle.mail_model.specs.Identity.Key.{Message}
use Rattle.mail_model.specs.Identity.Value.{Here}
use Rattle.mail_model.specs.Listing.{octets_in}
use Rattle.mail_model.specs.Plan.{Plan}
use Rattle.object_model.specs.Said.{said}
use Rattle.object_model.specs.Letters.{MapRow}
use Rattle.cluster_model.specs.Parts as mail_parts
use Rattle.cluster_model.specs.World as mail
use Rattle.cluster_model.specs.Makes as mail_makes
use Rattle.cluster_model.specs.WorldLaws.{InPlan, opening_world}
use Rattle.gone_model.specs.Gone.{GoneForAll}
use Rattle.here_model.specs.Here.{HereHasOctets}
use Rattle.whole_model.specs.Whole.{Slot, slot_at}
use Rattle.whole_world.specs.World.{World, mail_world_of}
use Rattle.whole_world.specs.Makes.{MadeStep, MakesAll}
use Rattle.whole_world.specs.Laws.{Stands}
use Rattle.whole_world.specs.Settled.{unopened_world}

-- both parts hold of a world of messages
pub record PartsHold (plan : Plan) (w : mail.World) : Type 0 where
  pub gone : GoneForAll plan.nodes (mail.cluster_of w)
  pub here : HereHasOctets (mail.cluster_of w)

-- Whatever steps are made of a world of messages and whatever comes of them, they stay,
abbrev pub MailStepsKeepParts : Type 0
MailStepsKeepParts = (plan : Plan) (tells : Bool) (old new : mail.World) (steps : List mail_makes.MadeStep) → plan.nodes ≤ 64 → mail_makes.MakesAll plan tells old steps new
    → InPlan plan.nodes old.slots → mail_parts.Sound plan.confirm (mail.cluster_of old) → PartsHold plan old → PartsHold plan new

-- so they hold of every world that comes of an opening over empty disks;
abbrev pub MailWorldsHaveParts : Type 0
MailWorldsHaveParts = (plan : Plan) (tells : Bool) (map : List MapRow) (steps : List mail_makes.MadeStep) (w : mail.World) → plan.nodes ≤ 64 → mail_makes.MakesAll plan tells (opening_world plan.nodes map) steps w → PartsHold plan w

-- and so they stay whatever steps are made of a world of the whole.
abbrev pub StepsKeepParts : Type 0
StepsKeepParts = (plan : Plan) (tells : Bool) (old new : World) (steps : List MadeStep) → plan.nodes ≤ 64 → MakesAll plan tells old steps new → Stands plan old
    → PartsHold plan (mail_world_of old) → PartsHold plan (mail_world_of new)

-- So they hold of every such world that comes of an opening,
abbrev pub WorldsHaveParts : Type 0
WorldsHaveParts = (plan : Plan) (tells : Bool) (steps : List MadeStep) (w : World) → plan.nodes ≤ 64 → MakesAll plan tells (unopened_world plan.nodes) steps w → PartsHold plan (mail_world_of w)

-- and where a disk says that a copy is here, its octets can be read there.
abbrev pub HereIsStored : Type 0
HereIsStored = (plan : Plan) (tells : Bool) (steps : List MadeStep) (w : World) → plan.nodes ≤ 64 → MakesAll plan tells (unopened_world plan.nodes) steps w
    → (n : ℕ) (slot : Slot) → slot_at w.slots n ≡ Some slot → (user : List ℕ) (id : Id) (state : State) → said (Message user id) slot.disk ≡ Some state → state.value ≡ Here
    → (octets : List ℕ) × (octets_in id slot.disk ≡ Some octets)
