-- Whose a ticket is, and why a step is refused. The steps, and what they say, are those of the whole machine.
use Rattle.std.specs.Prelude.{Bool, true, false, not, ◌&&◌, ◌||◌, [], ◌∷◌, Option, Some, None, is_some, if◌then◌else◌}
use Rattle.std.specs.Option.{option_map}
use Rattle.mail_model.specs.Plan.{Plan}
use Rattle.object_model.specs.Letters.{Number}
use Rattle.cluster_model.specs.Cluster as mail_cluster
use Rattle.cluster_model.specs.Steps as mail
use Rattle.cluster_model.specs.Steps.Step.{AskFor, GiveUp}
use Rattle.cluster_model.specs.Steps.StepFault.{NoSuchTicket}
use Rattle.whole_world.specs.Steps.{Step, StepFault, first_refusal, node_fault, actor_fault}
use Rattle.whole_world.specs.Steps as whole
use Rattle.whole_world.specs.Steps.Step.{OfMessages}
use Rattle.whole_world.specs.Steps.StepFault.{Fault}
use Rattle.login_model.specs.Rules.{read_at}
use Rattle.joint_model.specs.Joint.{Life, Slot, slot_at, read_node}
use Rattle.joint_model.specs.Joint.Life.{Up, Down, Lost}
use Rattle.joint_world.specs.World.{World, whole_world_of, mail_world_of}

-- whether a ticket of a call that reads stands under the number
abbrev pub stands_in : Number → Life → Bool
stands_in number (Up node) = is_some (read_at number.node (read_node true node) (Some number))
stands_in number (Down pending) = false
stands_in number Lost = false

abbrev pub stands_at : Number → Option Slot → Bool
stands_at number None = false
stands_at number (Some slot) = stands_in number slot.life

-- whether one of messages does
abbrev pub is_mail_ticket : World → Number → Bool
is_mail_ticket w number = mail.stands_at number (mail_cluster.slot_at (mail_world_of w).slots number.node)

-- A ticket is looked for among those of messages first.
abbrev pub is_read_ticket : World → Number → Bool
is_read_ticket w number = stands_at number (slot_at w.slots number.node) && not (is_mail_ticket w number)

-- no ticket stands under the number
abbrev pub ticket_fault : World → Number → Option StepFault
ticket_fault w number = if is_mail_ticket w number || stands_at number (slot_at w.slots number.node) then None else Some (Fault NoSuchTicket)

-- what is refused of a step for a ticket: the first that applies
abbrev pub asking_fault : Plan → mail.Step → Number → World → Option StepFault
asking_fault plan step number w = first_refusal (
    node_fault plan (number.node ∷ []) ∷ option_map Fault (actor_fault number.node (whole_world_of w)) ∷ ticket_fault w number ∷ whole.step_fault plan (OfMessages step) (whole_world_of w) ∷ []
    )

-- Why a step is refused, if it is. The whole machine does not see whether a ticket stands that messages do not have; for the rest it is as there.
abbrev pub step_fault : Plan → Step → World → Option StepFault
step_fault plan (OfMessages (AskFor number)) w = asking_fault plan (AskFor number) number w
step_fault plan (OfMessages (GiveUp number)) w = asking_fault plan (GiveUp number) number w
step_fault plan step w = whole.step_fault plan step (whole_world_of w)
