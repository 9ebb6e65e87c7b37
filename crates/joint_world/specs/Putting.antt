-- How letters of calls that read are put in flight, where a mishap sends letters.
use Rattle.std.specs.Prelude.{◌≡◌, ℕ, zero, suc, Bool, List, [], ◌∷◌, ◌++◌, Option, Some, None, if◌then◌else◌}
use Rattle.mail_model.specs.Record.{Record}
use Rattle.object_model.specs.Mishaps.{MishapKind}
use Rattle.object_model.specs.Mishaps.MishapKind.{Crowded}
use Rattle.object_model.specs.Letters.{Number, Letter}
use Rattle.cluster_model.specs.Room.{has_room}
use Rattle.login_model.specs.Facts.{far_end}
use Rattle.joint_model.specs.Joint.{Life, Slot, slot_at, with_slot, slot_up}
use Rattle.joint_model.specs.Joint.Life.{Up, Down, Lost}
use Rattle.joint_world.specs.World.{World, with_letter}
use Rattle.joint_world.specs.Rules.{befallen}

-- what a mishap of a letter leaves of the nodes, and the letters that are sent for it
pub record Missed : Type 0 where
  pub slots : List Slot
  pub out : List Letter

abbrev pub missed_by : Bool → MishapKind → List Slot → Letter → Number → List Record → Life → Missed
missed_by tells kind slots letter number disk (Up node) = record {
  slots = with_slot slots number.node (slot_up (befallen tells number.node kind (far_end letter number) node number).node disk);
  out = (befallen tells number.node kind (far_end letter number) node number).out;
}
missed_by tells kind slots letter number disk (Down pending) = record { slots = slots; out = [] }
missed_by tells kind slots letter number disk Lost = record { slots = slots; out = [] }

abbrev pub missed_at : Bool → MishapKind → List Slot → Letter → Number → Option Slot → Missed
missed_at tells kind slots letter number None = record { slots = slots; out = [] }
missed_at tells kind slots letter number (Some slot) = missed_by tells kind slots letter number slot.disk slot.life

abbrev pub missed_under : Bool → MishapKind → List Slot → Letter → Option Number → Missed
missed_under tells kind slots letter None = record { slots = slots; out = [] }
missed_under tells kind slots letter (Some number) = missed_at tells kind slots letter number (slot_at slots number.node)

-- The mishap is noted at the letter's ticket, if that stands.
abbrev pub missed : Bool → MishapKind → List Slot → Letter → Missed
missed tells kind slots letter = missed_under tells kind slots letter letter.ticket

-- Letters are put in flight one by one, from a queue. One that finds no room has a mishap and no number, and what is sent for that comes behind all others. So many are looked at.
abbrev pub put : Bool → ℕ → List Letter → World → Option World
put tells fuel [] w = Some w
put tells zero (letter ∷ queue) w = None
put tells (suc fuel) (letter ∷ queue) w =
    if has_room w.flying letter
    then put tells fuel queue (with_letter w letter)
    else put tells fuel (queue ++ (missed tells Crowded w.slots letter).out) (record w { slots = (missed tells Crowded w.slots letter).slots })

-- all of them are
abbrev pub Puts : Bool → List Letter → World → World → Type 0
Puts tells queue w new = (fuel : ℕ) × (put tells fuel queue w ≡ Some new)
