-- What the machine refuses, and what it does not.
use Rattle.std.proofs.Common.{◌≡◌, ℕ, Bool, true, false, ◌||◌, nat_le, List, [], ◌∷◌, Option, Some, None, refl, ap, ◌∙◌, if◌then◌else◌}
use Rattle.std.specs.List.{list_all}
use Rattle.mail_model.specs.Plan.{Plan}
use Rattle.mail_model.specs.Record.{Record}
use Rattle.object_model.specs.Letters.{Number}
use Rattle.cluster_model.specs.Cluster.{Node, Slot, slot_at}
use Rattle.cluster_model.specs.Cluster.Life.{Up, Down}
use Rattle.cluster_model.specs.World.{World}
use Rattle.cluster_model.specs.Steps.{StepFault, is_node, slot_fault, life_fault, letters_end, is_worn_at, first_fault, step_fault}
use Rattle.cluster_model.specs.Steps.Step.{AskFor, GiveUp, Form, Crash, Start, Lose}
use Rattle.cluster_model.specs.Steps.StepFault.{NoSuchNode, Worn}
use Rattle.cluster_world.specs.declared.fault.StepFault as code
use Rattle.cluster_world.specs.declared.fault.StepFault.TheVariants as fault

pub none_at_all : (a b c d e : Option StepFault) → a ≡ None → b ≡ None → c ≡ None → d ≡ None → e ≡ None → first_fault (a ∷ b ∷ c ∷ d ∷ e ∷ []) ≡ None
none_at_all a b c d e p q r s t = rw (p, q, r, s, t) refl

pub fourth_fault : (a b c d e : Option StepFault) (x : StepFault) → a ≡ None → b ≡ None → c ≡ None → d ≡ Some x → first_fault (a ∷ b ∷ c ∷ d ∷ e ∷ []) ≡ Some x
fourth_fault a b c d e x p q r s = rw (p, q, r, s) refl

-- no node is missed where no step is refused for that
pub fit_of : (b : Bool) (o : Option code.StepFault) → (if b then o else Some fault.NoSuchNode) ≡ None → (b ≡ true) × (o ≡ None)
fit_of true o e = (refl, e)
fit_of false o e = absurd (let never : Some fault.NoSuchNode ≡ None = e in cc)

module _ (plan : Plan) (w : World) (n : ℕ) (slot : Slot) (named : list_all (is_node plan) (n ∷ []) ≡ true) (here : slot_at w.slots n ≡ Some slot) where
  pub named_well : (if list_all (is_node plan) (n ∷ []) then None else Some NoSuchNode) ≡ None
  named_well = ap (λ b. if b then None else Some NoSuchNode) named

  pub crash_goes : (node : Node) → slot.life ≡ Up node → step_fault plan (Crash n) w ≡ None
  crash_goes node up = none_at_all _ _ _ _ _
      named_well
      (ap (slot_fault (Crash n)) here ∙ ap (life_fault (Crash n)) up)
      refl
      (ap (λ o. if is_worn_at plan w.seconds (Crash n) o then Some Worn else None) here)
      refl

  pub lose_goes : life_fault (Lose n) slot.life ≡ None → step_fault plan (Lose n) w ≡ None
  lose_goes fits = none_at_all _ _ _ _ _
      named_well
      (ap (slot_fault (Lose n)) here ∙ fits)
      refl
      (ap (λ o. if is_worn_at plan w.seconds (Lose n) o then Some Worn else None) here)
      refl

  start_worn : (b : Bool) → nat_le letters_end w.sent ≡ b → (if nat_le letters_end w.sent || is_worn_at plan w.seconds (Start n) (slot_at w.slots n) then Some Worn else None) ≡ (if b then Some Worn else None)
  start_worn true e = ap (λ b. if b || is_worn_at plan w.seconds (Start n) (slot_at w.slots n) then Some Worn else None) e
  start_worn false e = ap (λ b. if b || is_worn_at plan w.seconds (Start n) (slot_at w.slots n) then Some Worn else None) e
      ∙ ap (λ o. if is_worn_at plan w.seconds (Start n) o then Some Worn else None) here

  pub start_goes : (pending : List Record) → slot.life ≡ Down pending → nat_le letters_end w.sent ≡ false → step_fault plan (Start n) w ≡ None
  start_goes pending down early = none_at_all _ _ _ _ _
      named_well
      (ap (slot_fault (Start n)) here ∙ ap (life_fault (Start n)) down)
      refl
      (start_worn false early)
      refl

  pub start_is_worn : (pending : List Record) → slot.life ≡ Down pending → nat_le letters_end w.sent ≡ true → step_fault plan (Start n) w ≡ Some Worn
  start_is_worn pending down late = fourth_fault _ _ _ _ _ Worn
      named_well
      (ap (slot_fault (Start n)) here ∙ ap (life_fault (Start n)) down)
      refl
      (start_worn true late)

  form_worn : (b : Bool) → nat_le letters_end w.sent ≡ b → (if nat_le letters_end w.sent || is_worn_at plan w.seconds (Form n) (slot_at w.slots n) then Some Worn else None) ≡ (if b then Some Worn else None)
  form_worn true e = ap (λ b. if b || is_worn_at plan w.seconds (Form n) (slot_at w.slots n) then Some Worn else None) e
  form_worn false e = ap (λ b. if b || is_worn_at plan w.seconds (Form n) (slot_at w.slots n) then Some Worn else None) e
      ∙ ap (λ o. if is_worn_at plan w.seconds (Form n) o then Some Worn else None) here

  pub form_goes : (node : Node) → slot.life ≡ Up node → nat_le letters_end w.sent ≡ false → step_fault plan (Form n) w ≡ None
  form_goes node up early = none_at_all _ _ _ _ _
      named_well
      (ap (slot_fault (Form n)) here ∙ ap (life_fault (Form n)) up)
      refl
      (form_worn false early)
      refl

-- Messages do not see whether a ticket stands that is none of theirs, and refuse no ask for that.
module _ (plan : Plan) (w : World) (ticket : Number) (slot : Slot) (node : Node) (named : list_all (is_node plan) (ticket.node ∷ []) ≡ true) (here : slot_at w.slots ticket.node ≡ Some slot) (up : slot.life ≡ Up node) where
  pub ask_goes : step_fault plan (AskFor ticket) w ≡ None
  ask_goes = none_at_all _ _ _ _ _
      (named_well plan w ticket.node slot named here)
      (ap (slot_fault (AskFor ticket)) here ∙ ap (life_fault (AskFor ticket)) up)
      refl
      (ap (λ o. if is_worn_at plan w.seconds (AskFor ticket) o then Some Worn else None) here)
      refl

  give_up_worn : (b : Bool) → nat_le letters_end w.sent ≡ b → (if nat_le letters_end w.sent || is_worn_at plan w.seconds (GiveUp ticket) (slot_at w.slots ticket.node) then Some Worn else None) ≡ (if b then Some Worn else None)
  give_up_worn true e = ap (λ b. if b || is_worn_at plan w.seconds (GiveUp ticket) (slot_at w.slots ticket.node) then Some Worn else None) e
  give_up_worn false e = ap (λ b. if b || is_worn_at plan w.seconds (GiveUp ticket) (slot_at w.slots ticket.node) then Some Worn else None) e
      ∙ ap (λ o. if is_worn_at plan w.seconds (GiveUp ticket) o then Some Worn else None) here

  pub give_up_goes : nat_le letters_end w.sent ≡ false → step_fault plan (GiveUp ticket) w ≡ None
  give_up_goes early = none_at_all _ _ _ _ _
      (named_well plan w ticket.node slot named here)
      (ap (slot_fault (GiveUp ticket)) here ∙ ap (life_fault (GiveUp ticket)) up)
      refl
      (give_up_worn false early)
      refl

  pub give_up_is_worn : nat_le letters_end w.sent ≡ true → step_fault plan (GiveUp ticket) w ≡ Some Worn
  give_up_is_worn late = fourth_fault _ _ _ _ _ Worn
      (named_well plan w ticket.node slot named here)
      (ap (slot_fault (GiveUp ticket)) here ∙ ap (life_fault (GiveUp ticket)) up)
      refl
      (give_up_worn true late)
