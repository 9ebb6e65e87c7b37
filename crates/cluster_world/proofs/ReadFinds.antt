-- How the machine finds the tickets of a node that is up, and what it refuses of a step for one.
use Rattle.std.proofs.Common.{◌≡◌, Bool, true, false, not, ◌&&◌, ◌||◌, List, [], ◌∷◌, Option, Some, None, is_some, refl, ap, ◌∙◌, if◌then◌else◌}
use Rattle.std.specs.List.{list_all}
use Rattle.std.specs.Option.{option_map}
use Rattle.mail_model.specs.Plan.{Plan}
use Rattle.mail_model.specs.Record.{Record}
use Rattle.object_model.specs.Letters.{Number}
use Rattle.cluster_model.specs.Steps as mail
use Rattle.cluster_model.specs.Steps.Step.{PushTo}
use Rattle.cluster_model.specs.Steps.StepFault.{NoSuchNode, NoSuchTicket}
use Rattle.cluster_model.specs.Rules.{ticket_at}
use Rattle.whole_world.specs.Steps as whole
use Rattle.whole_world.specs.Steps.{StepFault, first_refusal, node_fault, actor_fault}
use Rattle.whole_world.specs.Steps.Step.{OfMessages}
use Rattle.whole_world.specs.Steps.StepFault.{Fault}
use Rattle.login_model.specs.Rules.{read_at}
use Rattle.joint_model.specs.Joint as joint
use Rattle.joint_model.specs.Joint.{read_node}
use Rattle.joint_world.specs.World.{World, whole_world_of}
use Rattle.joint_world.specs.Steps.{stands_at, is_mail_ticket, is_read_ticket, ticket_fault, asking_fault}
use Rattle.cluster_world.proofs.ReadSlots.{mail_there}

-- what comes of four faults
none_of_four : (a b c d : Option StepFault) → a ≡ None → b ≡ None → c ≡ None → d ≡ None → first_refusal (a ∷ b ∷ c ∷ d ∷ []) ≡ None
none_of_four a b c d e f g h = λ i. first_refusal (e i ∷ f i ∷ g i ∷ h i ∷ [])

last_of_four : (a b c d : Option StepFault) (fault : StepFault) → a ≡ None → b ≡ None → c ≡ None → d ≡ Some fault → first_refusal (a ∷ b ∷ c ∷ d ∷ []) ≡ Some fault
last_of_four a b c d fault e f g h = λ i. first_refusal (e i ∷ f i ∷ g i ∷ h i ∷ [])

third_of_four : (a b c d : Option StepFault) (fault : StepFault) → a ≡ None → b ≡ None → c ≡ Some fault → first_refusal (a ∷ b ∷ c ∷ d ∷ []) ≡ Some fault
third_of_four a b c d fault e f g = λ i. first_refusal (e i ∷ f i ∷ g i ∷ d ∷ [])

module _ (plan : Plan) (v : World) (ticket : Number) (seen : joint.Node) (records : List Record) (here : joint.slot_at v.slots ticket.node ≡ Some (joint.slot_up seen records))
    (named : list_all (mail.is_node plan) (ticket.node ∷ []) ≡ true) where
  pub mail_found : is_mail_ticket v ticket ≡ is_some (ticket_at ticket.node seen.whole.mail (Some ticket))
  mail_found = ap (mail.stands_at ticket) (mail_there v.slots ticket.node (joint.slot_up seen records) here)

  pub reads_found : stands_at ticket (joint.slot_at v.slots ticket.node) ≡ is_some (read_at ticket.node (read_node true seen) (Some ticket))
  reads_found = ap (stands_at ticket) here

  pub is_of_reads : is_some (ticket_at ticket.node seen.whole.mail (Some ticket)) ≡ false → is_some (read_at ticket.node (read_node true seen) (Some ticket)) ≡ true → is_read_ticket v ticket ≡ true
  is_of_reads none some = λ i. (reads_found ∙ some) i && not ((mail_found ∙ none) i)

  node_goes : node_fault plan (ticket.node ∷ []) ≡ None
  node_goes = by (mail.is_node plan ticket.node) named
    where
      by : (b : Bool) → (b && true) ≡ true → (if b then node_fault plan [] else Some (Fault NoSuchNode)) ≡ None
      by true e = refl
      by false e = absurd (let never : false ≡ true = e in cc)

  actor_goes : actor_fault ticket.node (whole_world_of v) ≡ None
  actor_goes = ap (mail.slot_fault (PushTo ticket.node ticket.node)) (mail_there v.slots ticket.node (joint.slot_up seen records) here)

  ticket_goes : is_some (read_at ticket.node (read_node true seen) (Some ticket)) ≡ true → ticket_fault v ticket ≡ None
  ticket_goes some = by (is_mail_ticket v ticket) (stands_at ticket (joint.slot_at v.slots ticket.node)) (reads_found ∙ some)
    where
      by : (a b : Bool) → b ≡ true → (if a || b then None else Some (Fault NoSuchTicket)) ≡ None
      by true b e = refl
      by false b e = ap (λ (x : Bool). if x then None else Some (Fault NoSuchTicket)) e

  -- a step for a ticket of calls that read is refused as the whole machine refuses it
  pub reads_go : (step : mail.Step) → is_some (read_at ticket.node (read_node true seen) (Some ticket)) ≡ true → whole.step_fault plan (OfMessages step) (whole_world_of v) ≡ None → asking_fault plan step ticket v ≡ None
  reads_go step some goes = none_of_four (node_fault plan (ticket.node ∷ [])) (option_map Fault (actor_fault ticket.node (whole_world_of v))) (ticket_fault v ticket) (whole.step_fault plan (OfMessages step) (whole_world_of v))
      node_goes (ap (option_map Fault) actor_goes) (ticket_goes some) goes

  pub reads_refused : (step : mail.Step) (fault : StepFault) → is_some (read_at ticket.node (read_node true seen) (Some ticket)) ≡ true → whole.step_fault plan (OfMessages step) (whole_world_of v) ≡ Some fault
      → asking_fault plan step ticket v ≡ Some fault
  reads_refused step fault some e = last_of_four (node_fault plan (ticket.node ∷ [])) (option_map Fault (actor_fault ticket.node (whole_world_of v))) (ticket_fault v ticket) (whole.step_fault plan (OfMessages step) (whole_world_of v)) fault
      node_goes (ap (option_map Fault) actor_goes) (ticket_goes some) e

  -- and one for no ticket at all for that
  pub none_found : (step : mail.Step) → is_some (ticket_at ticket.node seen.whole.mail (Some ticket)) ≡ false → is_some (read_at ticket.node (read_node true seen) (Some ticket)) ≡ false
      → asking_fault plan step ticket v ≡ Some (Fault NoSuchTicket)
  none_found step no_mail no_read = third_of_four (node_fault plan (ticket.node ∷ [])) (option_map Fault (actor_fault ticket.node (whole_world_of v))) (ticket_fault v ticket) (whole.step_fault plan (OfMessages step) (whole_world_of v)) (Fault NoSuchTicket)
      node_goes (ap (option_map Fault) actor_goes) (λ i. if (mail_found ∙ no_mail) i || (reads_found ∙ no_read) i then None else Some (Fault NoSuchTicket))
