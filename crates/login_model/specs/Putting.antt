-- How letters are put in flight, where a letter that finds no room has a mishap whose letters follow.
use Rattle.std.specs.Prelude.{◌≡◌, ℕ, zero, suc, Bool, List, [], ◌∷◌, ◌++◌, Option, Some, None, if◌then◌else◌}
use Rattle.mail_model.specs.Record.{Record}
use Rattle.object_model.specs.Mishaps.MishapKind.{Crowded}
use Rattle.object_model.specs.Letters.{Number, Letter}
use Rattle.login_model.specs.Cluster.{Life, Slot, Cluster, slot_at, with_slot, slot_up}
use Rattle.login_model.specs.Cluster.Life.{Up, Down, Lost}
use Rattle.login_model.specs.Rules.{Reaction, mishap}
use Rattle.login_model.specs.Facts.{far_end}
use Rattle.login_model.specs.Moves.{Move, after_moves, MayMoves}
use Rattle.login_model.specs.Parts.{Sound}

-- the world once a node did this to its tickets
abbrev pub with_did : Cluster → ℕ → List Record → Reaction → Cluster
with_did w own disk did = record w { slots = with_slot w.slots own (slot_up did.node disk); story = with_slot w.slots own (slot_up did.node disk) ∷ w.story }

-- A letter found no room: its mishap is noted at the node of its ticket, if that is up, and what this sends comes after the other letters.
abbrev pub missed_life : (List Letter → Cluster → Option Cluster) → List Letter → Cluster → Letter → Number → List Record → Life → Option Cluster
missed_life go queue w letter number disk (Up node) =
    go (queue ++ (mishap number.node Crowded (far_end letter number) node number).out) (with_did w number.node disk (mishap number.node Crowded (far_end letter number) node number))
missed_life go queue w letter number disk Down = go queue w
missed_life go queue w letter number disk Lost = go queue w

abbrev pub missed_slot : (List Letter → Cluster → Option Cluster) → List Letter → Cluster → Letter → Number → Option Slot → Option Cluster
missed_slot go queue w letter number None = go queue w
missed_slot go queue w letter number (Some slot) = missed_life go queue w letter number slot.disk slot.life

abbrev pub missed : (List Letter → Cluster → Option Cluster) → List Letter → Cluster → Letter → Option Number → Option Cluster
missed go queue w letter None = go queue w
missed go queue w letter (Some number) = missed_slot go queue w letter number (slot_at w.slots number.node)

-- Letters are put in flight one by one. There are at most so many: each mishap fails a login, or leaves a fetch a holder less. Else there is no answer.
abbrev pub put : (List Letter → Letter → Bool) → ℕ → List Letter → Cluster → Option Cluster
put room fuel [] w = Some w
put room zero (letter ∷ queue) w = None
put room (suc fuel) (letter ∷ queue) w =
    if room w.flying letter then put room fuel queue (record w { flying = w.flying ++ letter ∷ [] }) else missed (put room fuel) queue w letter letter.ticket

-- where all letters of a step are in flight at first, as the machine has it
abbrev pub with_queue : Cluster → List Letter → Cluster
with_queue w queue = record w { flying = w.flying ++ queue }

-- This is some moves.
abbrev pub PutsMayMove : Type 0
PutsMayMove = (room : List Letter → Letter → Bool) (fuel : ℕ) (queue : List Letter) (w new : Cluster) → put room fuel queue w ≡ Some new → Sound (with_queue w queue)
    → (moves : List Move) × MayMoves moves (with_queue w queue) × (after_moves moves (with_queue w queue) ≡ new)
