-- What is refused of a step the whole machine refuses.
use Rattle.std.proofs.Common.{◌≡◌, ◌⊎◌, inl, inr, ⊎_elim, ℕ, Bool, true, false, ◌&&◌, ◌||◌, List, [], ◌∷◌, Option, Some, None, refl, sym, ◌∙◌, subst, if◌then◌else◌}
use Rattle.std.specs.Option.{option_map}
use Rattle.mail_model.specs.Plan.{Plan}
use Rattle.object_model.specs.Letters.{Number}
use Rattle.cluster_model.specs.Cluster as mail_cluster
use Rattle.cluster_model.specs.Steps as mail
use Rattle.cluster_model.specs.Steps.Step.{AskFor, GiveUp, PushTo}
use Rattle.cluster_model.specs.Steps.StepFault.{NoSuchNode, NoSuchTicket}
use Rattle.whole_world.specs.Steps as whole
use Rattle.whole_world.specs.Steps.{Step, StepFault, first_refusal, actor_fault}
use Rattle.whole_world.specs.Steps.Step.{OfMessages, OpenGroup, ConcludeGroup, ReportTo}
use Rattle.whole_world.specs.Steps.StepFault.{Fault}
use Rattle.whole_world.specs.Makes as whole_makes
use Rattle.joint_model.specs.Joint.{slot_at}
use Rattle.joint_world.specs.World.{World, whole_world_of, mail_world_of}
use Rattle.joint_world.specs.Steps.{stands_at, is_mail_ticket, ticket_fault, step_fault}
use Rattle.joint_world.specs.Makes.{RefusedLate}

last_none : (a b c d : Option StepFault) → first_refusal (a ∷ b ∷ c ∷ d ∷ []) ≡ None → d ≡ None
last_none None None None None e = refl
last_none None None None (Some f) e = absurd (cc e)
last_none None None (Some f) d e = absurd (cc e)
last_none None (Some f) c d e = absurd (cc e)
last_none (Some f) b c d e = absurd (cc e)

last_is : (d : Option StepFault) → first_refusal (d ∷ []) ≡ d
last_is None = refl
last_is (Some f) = refl

-- the first of these that applies is one of messages, or no ticket is there
first_is : (name : Bool) (acts : Option mail.StepFault) (ticket : Option StepFault) (rest : List (Option mail.StepFault)) (fault : StepFault)
    → first_refusal ((if name then None else Some (Fault NoSuchNode)) ∷ option_map Fault acts ∷ ticket ∷ option_map Fault (mail.first_fault ((if name && true then None else Some NoSuchNode) ∷ acts ∷ rest)) ∷ []) ≡ Some fault
    → (option_map Fault (mail.first_fault ((if name && true then None else Some NoSuchNode) ∷ acts ∷ rest)) ≡ Some fault)
    ⊎ ((ticket ≡ Some fault) × (mail.first_fault ((if name && true then None else Some NoSuchNode) ∷ acts ∷ []) ≡ None))
first_is false acts ticket rest fault e = inl e
first_is true (Some f) ticket rest fault e = inl e
first_is true None (Some t) rest fault e = inr (e, refl)
first_is true None None rest fault e = inl (sym (last_is (option_map Fault (mail.first_fault rest))) ∙ e)

none_stands : (mine theirs : Bool) (fault : StepFault) → (if mine || theirs then None else Some (Fault NoSuchTicket)) ≡ Some fault → (fault ≡ Fault NoSuchTicket) × (mine ≡ false)
none_stands true theirs fault e = absurd (cc e)
none_stands false true fault e = absurd (cc e)
none_stands false false fault e = (inside (Fault NoSuchTicket) fault e, refl)
  where
    inside : (a b : StepFault) → Some a ≡ Some b → b ≡ a
    inside a b h = cc

module _ (plan : Plan) (w : World) where
  -- what the node that acts is refused for
  asks_life : (number : Number) (n : ℕ) (life : mail_cluster.Life) → mail.life_fault (PushTo n n) life ≡ mail.life_fault (AskFor number) life
  asks_life number n (mail_cluster.Life.Up node) = refl
  asks_life number n (mail_cluster.Life.Down pending) = refl
  asks_life number n mail_cluster.Life.Lost = refl

  gives_life : (number : Number) (n : ℕ) (life : mail_cluster.Life) → mail.life_fault (PushTo n n) life ≡ mail.life_fault (GiveUp number) life
  gives_life number n (mail_cluster.Life.Up node) = refl
  gives_life number n (mail_cluster.Life.Down pending) = refl
  gives_life number n mail_cluster.Life.Lost = refl

  by_slot : (step : mail.Step) (n : ℕ) → ((life : mail_cluster.Life) → mail.life_fault (PushTo n n) life ≡ mail.life_fault step life) → (o : Option mail_cluster.Slot) → mail.slot_fault (PushTo n n) o ≡ mail.slot_fault step o
  by_slot step n same None = refl
  by_slot step n same (Some slot) = same slot.life

  acts_asks : (number : Number) → actor_fault number.node (whole_world_of w) ≡ mail.actor_fault (AskFor number) (mail_world_of w).slots (Some number.node)
  acts_asks number = by_slot (AskFor number) number.node (asks_life number number.node) (mail_cluster.slot_at (mail_world_of w).slots number.node)

  acts_gives : (number : Number) → actor_fault number.node (whole_world_of w) ≡ mail.actor_fault (GiveUp number) (mail_world_of w).slots (Some number.node)
  acts_gives number = by_slot (GiveUp number) number.node (gives_life number number.node) (mail_cluster.slot_at (mail_world_of w).slots number.node)

  pub fits_whole : (step : Step) → step_fault plan step w ≡ None → whole.step_fault plan step (whole_world_of w) ≡ None
  fits_whole (OfMessages (AskFor number)) e =
      last_none (whole.node_fault plan (number.node ∷ [])) (option_map Fault (actor_fault number.node (whole_world_of w))) (ticket_fault w number) (whole.step_fault plan (OfMessages (AskFor number)) (whole_world_of w)) e
  fits_whole (OfMessages (GiveUp number)) e =
      last_none (whole.node_fault plan (number.node ∷ [])) (option_map Fault (actor_fault number.node (whole_world_of w))) (ticket_fault w number) (whole.step_fault plan (OfMessages (GiveUp number)) (whole_world_of w)) e
  fits_whole step e = e

  abbrev Refusal : Step → StepFault → Type 0
  Refusal step fault = (whole.step_fault plan step (whole_world_of w) ≡ Some fault) ⊎ ((whole.step_fault plan step (whole_world_of w) ≡ None) × (fault ≡ Fault mail.StepFault.Worn) × whole_makes.StartIsWorn (whole_world_of w) step)
      ⊎ ((whole.step_fault plan step (whole_world_of w) ≡ None) × (fault ≡ Fault mail.StepFault.NoRoom) × whole_makes.ReportHasNoRoom (whole_world_of w) step) ⊎ whole_makes.IsUnseen plan (whole_world_of w) step fault

  refusal_of : (step : Step) (fault : StepFault) → step_fault plan step w ≡ Some fault → Refusal step fault
  refusal_of (OfMessages (AskFor number)) fault e = ⊎_elim
      (λ has. inl (subst (λ (a : Option mail.StepFault). option_map Fault (mail.first_fault (mail.node_name_fault plan (AskFor number) ∷ a ∷ rest)) ≡ Some fault) (acts_asks number) has))
      (λ (none, named). let n = none_stands (is_mail_ticket w number) (stands_at number (slot_at w.slots number.node)) fault none in
      inr (inr (inr (n.0, (subst (λ (a : Option mail.StepFault). mail.first_fault (mail.node_name_fault plan (AskFor number) ∷ a ∷ []) ≡ None) (acts_asks number) named, n.1)))))
      (first_is (mail.is_node plan number.node) (actor_fault number.node (whole_world_of w)) (ticket_fault w number) rest fault
      (subst (λ (a : Option mail.StepFault). first_refusal (whole.node_fault plan (number.node ∷ []) ∷ option_map Fault (actor_fault number.node (whole_world_of w)) ∷ ticket_fault w number
      ∷ option_map Fault (mail.first_fault (mail.node_name_fault plan (AskFor number) ∷ a ∷ rest)) ∷ []) ≡ Some fault) (sym (acts_asks number)) e))
    where
      rest : List (Option mail.StepFault)
      rest = mail.letter_fault (AskFor number) (mail_world_of w).flying ∷ mail.worn_fault plan (AskFor number) (mail_world_of w) ∷ mail.room_fault (AskFor number) (mail_world_of w) ∷ []
  refusal_of (OfMessages (GiveUp number)) fault e = ⊎_elim
      (λ has. inl (subst (λ (a : Option mail.StepFault). option_map Fault (mail.first_fault (mail.node_name_fault plan (GiveUp number) ∷ a ∷ rest)) ≡ Some fault) (acts_gives number) has))
      (λ (none, named). let n = none_stands (is_mail_ticket w number) (stands_at number (slot_at w.slots number.node)) fault none in
      inr (inr (inr (n.0, (subst (λ (a : Option mail.StepFault). mail.first_fault (mail.node_name_fault plan (GiveUp number) ∷ a ∷ []) ≡ None) (acts_gives number) named, n.1)))))
      (first_is (mail.is_node plan number.node) (actor_fault number.node (whole_world_of w)) (ticket_fault w number) rest fault
      (subst (λ (a : Option mail.StepFault). first_refusal (whole.node_fault plan (number.node ∷ []) ∷ option_map Fault (actor_fault number.node (whole_world_of w)) ∷ ticket_fault w number
      ∷ option_map Fault (mail.first_fault (mail.node_name_fault plan (GiveUp number) ∷ a ∷ rest)) ∷ []) ≡ Some fault) (sym (acts_gives number)) e))
    where
      rest : List (Option mail.StepFault)
      rest = mail.letter_fault (GiveUp number) (mail_world_of w).flying ∷ mail.worn_fault plan (GiveUp number) (mail_world_of w) ∷ mail.room_fault (GiveUp number) (mail_world_of w) ∷ []
  refusal_of step fault e = inl e

  pub refused_whole : (step : Step) (fault : StepFault) → (step_fault plan step w ≡ Some fault) ⊎ ((step_fault plan step w ≡ None) × RefusedLate w step fault) → Refusal step fault
  refused_whole step fault why = ⊎_elim
      (λ has. refusal_of step fault has)
      (λ (none, late). ⊎_elim
      (λ (is, worn). inr (inl (fits_whole step none, is, worn)))
      (λ (is, full). inr (inr (inl (fits_whole step none, is, full))))
      late)
      why
