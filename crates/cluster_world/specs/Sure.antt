-- Which steps take no memory, and why they are then refused.
use Rattle.std.specs.Prelude.{◌≡◌, ℕ, true, Bool, ◌&&◌, nat_le, ⊤, Option, Some, None, is_some, Result, Err, if◌then◌else◌}
use Rattle.object_model.specs.Letters.{Number, Letter}
use Rattle.cluster_model.specs.Steps.{letter_at, has_ticket, letters_end}
use Rattle.cluster_model.specs.Cluster as plain
use Rattle.login_model.specs.Readings.{ReadTicket}
use Rattle.node_tickets.specs.Standing.{done_at}
use Rattle.node_reads.specs.Asking.{done_at as reading_done}
use Rattle.cluster_world.specs.Flights.{InFlight}
use Rattle.cluster_world.specs.Lives.{of_node}
use Rattle.cluster_world.specs.Telling.{standing_on, reading_on}
use Rattle.cluster_world.specs.Worlds.{WorldState, life_in}
use Rattle.cluster_world.specs.Turns.{node_refusal}
use Rattle.cluster_world.specs.declared.step.Step.{Step}
use Rattle.cluster_world.specs.declared.step.Step.TheVariants.{Ask, GiveUp, Drop, Crash, Lose, Tick}
use Rattle.cluster_world.specs.declared.step.Said.{Said}
use Rattle.cluster_world.specs.declared.fault.StepFault.{StepFault}
use Rattle.cluster_world.specs.declared.fault.StepFault.TheVariants.{NoSuchLetter, Worn, NoMemory}

-- why a letter is not dropped: it is not in flight, or it has a ticket and no letters are sent any more
abbrev pub refusal_to_drop : ℕ → Option Letter → Option StepFault
refusal_to_drop sent None = Some NoSuchLetter
refusal_to_drop sent (Some letter) = if has_ticket (Some letter) && nat_le letters_end sent then Some Worn else None

abbrev pub drop_refusal : ℕ → InFlight → Option StepFault
drop_refusal number flying = refusal_to_drop flying.sent (letter_at number flying.flights)

-- whether the call of the ticket is done, so that an Ask ends it: of messages, or else of those that read
abbrev pub is_done_of : ℕ → Option plain.Ticket → Option ReadTicket → Bool
is_done_of confirm (Some ticket) reading = done_at confirm (Some ticket)
is_done_of confirm None reading = reading_done reading

abbrev pub is_done_in : {D : Type 0} → WorldState D → Number → Bool
is_done_in state number = is_done_of state.plan.confirm (standing_on (of_node state.lives number.node) number) (reading_on (of_node state.lives number.node) number)

-- whether a call that reads stands under the number
abbrev pub is_reading_in : {D : Type 0} → WorldState D → Number → Bool
is_reading_in state number = is_some (reading_on (of_node state.lives number.node) number)

-- The clock is always set. A node that is to stop, or to be lost, is refused only for the sake of a node, and a letter is dropped unless it is refused for its own: these steps need
-- no memory. A GiveUp needs it only for the letter of a call that reads, and an Ask only to end a call that is done.
abbrev pub IsSurelyDone : {D : Type 0} → WorldState D → Step → Result Said StepFault → Type 0
IsSurelyDone state (Crash node) (Err why) = node_refusal state.plan (life_in state) (Crash node) ≡ Some why
IsSurelyDone state (Lose node) (Err why) = node_refusal state.plan (life_in state) (Lose node) ≡ Some why
IsSurelyDone state (Tick seconds) (Err why) = ⊥
IsSurelyDone state (Drop letter) (Err why) = drop_refusal letter state.flying ≡ Some why
IsSurelyDone state (GiveUp ticket) (Err (NoMemory down)) = (down ≡ None) × (is_reading_in state ticket ≡ true)
IsSurelyDone state (Ask ticket) (Err (NoMemory down)) = (down ≡ None) × (is_done_in state ticket ≡ true)
IsSurelyDone state step result = ⊤
