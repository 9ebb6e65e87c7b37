-- What is refused for the sake of a node is refused in the whole world, too.
use Rattle.std.proofs.Common.{◌≡◌, ℕ, Bool, true, false, ◌&&◌, ◌||◌, List, [], ◌∷◌, length, Option, Some, None, refl, sym, ap, ◌∙◌, if◌then◌else◌}
use Rattle.std.specs.Option.{option_map}
use Rattle.mail_model.specs.Plan.{Plan}
use Rattle.object_model.specs.Letters.{Number}
use Rattle.session_model.specs.Events.{NodeLife, NodeLife as life}
use Rattle.cluster_model.specs.Cluster as plain
use Rattle.cluster_model.specs.Steps as steps
use Rattle.cluster_model.specs.Steps.{nodes_named, is_node, slot_fault, life_fault}
use Rattle.cluster_model.specs.World as machine
use Rattle.whole_world.specs.Makes as whole_makes
use Rattle.whole_world.specs.Steps as whole_steps
use Rattle.joint_model.specs.Joint as joint
use Rattle.whole_world.specs.Steps.{first_refusal, node_fault, actor_fault}
use Rattle.whole_world.specs.World as whole_world
use Rattle.whole_world.specs.World.{mail_world_of}
use Rattle.joint_world.specs.Steps as joint_steps
use Rattle.joint_world.specs.World as joint_world
use Rattle.joint_world.specs.World.{whole_world_of}
use Rattle.node_store.specs.Disks.{View}
use Rattle.cluster_world.specs.Seen.{step_seen, fault_seen, whole_step}
use Rattle.cluster_world.specs.Turns.{life_refusal, nodes_of_step, node_refusal}
use Rattle.cluster_world.specs.Worlds.{WorldState, life_in, StateStandsFor}
use Rattle.cluster_world.specs.declared.fault.StepFault.{StepFault}
use Rattle.cluster_world.specs.declared.fault.StepFault.TheVariants as fault
use Rattle.cluster_world.specs.declared.step.Step.{Step}
use Rattle.cluster_world.specs.declared.step.Step.TheVariants.{Begin, Ask, GiveUp, Post, Drop, Push, Widen, Group, Conclude, Report, Crash, Start, Lose, Tick}
use Rattle.cluster_world.proofs.Still.{some_same}
use Rattle.cluster_world.proofs.Lifting.{IsNoAsk, no_ask_alike, IsRefusedAlike}
use Rattle.cluster_world.proofs.Refusals.{named_fault, named_none}

abbrev Fault : steps.StepFault → whole_steps.StepFault
Fault f = whole_steps.StepFault.Fault f

-- a node acts in a group as in anything else
life_alike : (n : ℕ) (l : plain.Life) → life_fault (steps.Step.PushTo n n) l ≡ life_fault (steps.Step.Form n) l
life_alike n (plain.Life.Up node) = refl
life_alike n (plain.Life.Down pending) = refl
life_alike n plain.Life.Lost = refl

slot_alike : (n : ℕ) (o : Option plain.Slot) → slot_fault (steps.Step.PushTo n n) o ≡ slot_fault (steps.Step.Form n) o
slot_alike n None = refl
slot_alike n (Some slot) = life_alike n slot.life

-- the first two of the faults, for messages and in the whole world
abbrev Firsts : Bool → Option steps.StepFault → List (Option steps.StepFault)
Firsts b o = (if b && true then None else Some steps.StepFault.NoSuchNode) ∷ o ∷ []

first_so : (b : Bool) (o : Option steps.StepFault) (rest : List (Option whole_steps.StepFault)) (g : steps.StepFault) → steps.first_fault (Firsts b o) ≡ Some g
    → first_refusal ((if b then None else Some (Fault steps.StepFault.NoSuchNode)) ∷ option_map Fault o ∷ rest) ≡ Some (Fault g)
first_so false o rest g e = ap (λ x. Some (Fault x)) (some_same steps.StepFault.NoSuchNode g e)
first_so true None rest g e = absurd (let never : None ≡ Some g = e in cc)
first_so true (Some f) rest g e = ap (λ x. Some (Fault x)) (some_same f g e)

none_so : (b : Bool) (o : Option steps.StepFault) (rest : List (Option whole_steps.StepFault)) → steps.first_fault (Firsts b o) ≡ None
    → first_refusal ((if b then None else Some (Fault steps.StepFault.NoSuchNode)) ∷ option_map Fault o ∷ rest) ≡ first_refusal rest
none_so false o rest e = absurd (let never : Some steps.StepFault.NoSuchNode ≡ None = e in cc)
none_so true None rest e = refl
none_so true (Some f) rest e = absurd (let never : Some f ≡ None = e in cc)

module _ {D : Type 0} (on : View D) (plan : Plan) (state : WorldState D) (even : length state.disks ≡ length state.lives) (within : length state.lives ≡ plan.nodes)
    (w : machine.World) (st : StateStandsFor on state w) (v : whole_world.World) (seen : mail_world_of v ≡ w) where
  -- the node that acts, as the whole world has it
  abbrev acts : ℕ → Option steps.StepFault
  acts n = slot_fault (steps.Step.Form n) (plain.slot_at w.slots n)

  actor_is : (n : ℕ) → actor_fault n v ≡ acts n
  actor_is n = ap (λ (x : machine.World). slot_fault (steps.Step.PushTo n n) (plain.slot_at x.slots n)) seen ∙ slot_alike n (plain.slot_at w.slots n)

  form_refused : (n : ℕ) (rest : List (Option whole_steps.StepFault)) (g : steps.StepFault) → steps.first_fault (Firsts (is_node plan n) (acts n)) ≡ Some g
      → first_refusal (node_fault plan (n ∷ []) ∷ option_map Fault (actor_fault n v) ∷ rest) ≡ Some (Fault g)
  form_refused n rest g e = ap (λ o. first_refusal (node_fault plan (n ∷ []) ∷ option_map Fault o ∷ rest)) (actor_is n) ∙ first_so (is_node plan n) (acts n) rest g e

  form_fits : (n : ℕ) (rest : List (Option whole_steps.StepFault)) → steps.first_fault (Firsts (is_node plan n) (acts n)) ≡ None
      → first_refusal (node_fault plan (n ∷ []) ∷ option_map Fault (actor_fault n v) ∷ rest) ≡ first_refusal rest
  form_fits n rest e = ap (λ o. first_refusal (node_fault plan (n ∷ []) ∷ option_map Fault o ∷ rest)) (actor_is n) ∙ none_so (is_node plan n) (acts n) rest e

  -- a group and a conclusion that no node stands against
  pub group_fits : (n : ℕ) (rest : List (Option whole_steps.StepFault)) → node_refusal plan (life_in state) (Group n) ≡ None
      → first_refusal (node_fault plan (n ∷ []) ∷ option_map Fault (actor_fault n v) ∷ rest) ≡ first_refusal rest
  group_fits n rest fit = form_fits n rest (named_none on plan state w even st within (Group n) [] refl fit)

  pub conclude_fits : (n : ℕ) (rest : List (Option whole_steps.StepFault)) → node_refusal plan (life_in state) (Conclude n) ≡ None
      → first_refusal (node_fault plan (n ∷ []) ∷ option_map Fault (actor_fault n v) ∷ rest) ≡ first_refusal rest
  conclude_fits n rest fit = form_fits n rest (named_none on plan state w even st within (Conclude n) [] refl fit)

  -- a report that no node stands against
  pub report_fits : (from to : ℕ) (rest : List (Option whole_steps.StepFault)) → node_refusal plan (life_in state) (Report from to) ≡ None
      → first_refusal (node_fault plan (from ∷ to ∷ []) ∷ option_map Fault (actor_fault from v) ∷ rest) ≡ first_refusal rest
  report_fits from to rest fit = by (is_node plan from) (is_node plan to) (life_refusal (Report from to) (life_in state from)) (option_map Fault (actor_fault from v)) fit
      (λ fits. group_fits from rest (as_group_fits (is_node plan from) (life_in state from) fits))
    where
      as_group_fits : (b : Bool) (one : NodeLife) → (if b && true then life_refusal (Report from to) one else Some fault.NoSuchNode) ≡ None → (if b && true then life_refusal (Group from) one else Some fault.NoSuchNode) ≡ None
      as_group_fits b (life.Up boot) e = e
      as_group_fits b life.Down e = e
      as_group_fits b life.Lost e = e

      by : (b c : Bool) (one : Option StepFault) (o : Option whole_steps.StepFault) → (if b && (c && true) then one else Some fault.NoSuchNode) ≡ None
          → ((if b && true then one else Some fault.NoSuchNode) ≡ None → first_refusal ((if b then None else Some (Fault steps.StepFault.NoSuchNode)) ∷ o ∷ rest) ≡ first_refusal rest)
          → first_refusal ((if b then (if c then None else Some (Fault steps.StepFault.NoSuchNode)) else Some (Fault steps.StepFault.NoSuchNode)) ∷ o ∷ rest) ≡ first_refusal rest
      by true true one o e so = so e
      by true false one o e so = absurd (let never : Some fault.NoSuchNode ≡ None = e in cc)
      by false c one o e so = absurd (let never : Some fault.NoSuchNode ≡ None = e in cc)

  -- the machine for messages refuses the step so, and the whole machine does
  pub record Refuses (step : Step) (f : StepFault) : Type 0 where
    pub g : steps.StepFault
    pub is : fault_seen f ≡ steps.StepOutcome.Refused g
    pub first : whole_steps.step_fault plan (whole_step step) v ≡ Some (Fault g)

  of_mail : (step : Step) (f : StepFault) → whole_step step ≡ whole_steps.Step.OfMessages (step_seen step) → nodes_of_step step ≡ nodes_named (step_seen step) → node_refusal plan (life_in state) step ≡ Some f → Refuses step f
  of_mail step f mail same e =
      let (g, is, first) = named_fault on plan state w even st within step _ f same e in
      let here : steps.step_fault plan (step_seen step) w ≡ Some g = first in
      record {
        g = g;
        is = is;
        first = ap (λ s. whole_steps.step_fault plan s v) mail ∙ ap (option_map Fault) (ap (steps.step_fault plan (step_seen step)) seen ∙ here);
      }

  -- a report is refused as a group of the same node is, or since there is no such manager
  abbrev RefusedSo : StepFault → Option whole_steps.StepFault → Type 0
  RefusedSo f o = (g : steps.StepFault) × (fault_seen f ≡ steps.StepOutcome.Refused g) × (o ≡ Some (Fault g))

  second_named : (f : StepFault) (b c : Bool) (one : Option StepFault) (o : Option whole_steps.StepFault) (rest : List (Option whole_steps.StepFault)) → (if b && (c && true) then one else Some fault.NoSuchNode) ≡ Some f
      → ((if b && true then one else Some fault.NoSuchNode) ≡ Some f → RefusedSo f (first_refusal ((if b then None else Some (Fault steps.StepFault.NoSuchNode)) ∷ o ∷ rest)))
      → RefusedSo f (first_refusal ((if b then (if c then None else Some (Fault steps.StepFault.NoSuchNode)) else Some (Fault steps.StepFault.NoSuchNode)) ∷ o ∷ rest))
  second_named f true true one o rest e so = so e
  second_named f true false one o rest e so = (steps.StepFault.NoSuchNode, ap fault_seen (sym (some_same fault.NoSuchNode f e)), refl)
  second_named f false c one o rest e so = (steps.StepFault.NoSuchNode, ap fault_seen (sym (some_same fault.NoSuchNode f e)), refl)

  as_group : (from to : ℕ) (f : StepFault) (b : Bool) (one : NodeLife) → (if b && true then life_refusal (Report from to) one else Some fault.NoSuchNode) ≡ Some f → (if b && true then life_refusal (Group from) one else Some fault.NoSuchNode) ≡ Some f
  as_group from to f b (life.Up boot) e = e
  as_group from to f b life.Down e = e
  as_group from to f b life.Lost e = e

  report_refused : (from to : ℕ) (f : StepFault) → node_refusal plan (life_in state) (Report from to) ≡ Some f → Refuses (Report from to) f
  report_refused from to f e =
      let (g, is, first) = second_named f (is_node plan from) (is_node plan to) (life_refusal (Report from to) (life_in state from)) (option_map Fault (actor_fault from v)) _ e
      (λ refused. let (g, is, first) = named_fault on plan state w even st within (Group from) [] f refl (as_group from to f (is_node plan from) (life_in state from) refused) in (g, is, form_refused from _ g first)) in
      record { g = g; is = is; first = first }

  -- one of a ticket is refused as a group of the ticket's node is
  as_ask : (ticket : Number) (n : ℕ) (f : StepFault) (b : Bool) (one : NodeLife) → (if b && true then life_refusal (Ask ticket) one else Some fault.NoSuchNode) ≡ Some f
      → (if b && true then life_refusal (Group n) one else Some fault.NoSuchNode) ≡ Some f
  as_ask ticket n f b (life.Up boot) e = e
  as_ask ticket n f b life.Down e = e
  as_ask ticket n f b life.Lost e = e

  as_give_up : (ticket : Number) (n : ℕ) (f : StepFault) (b : Bool) (one : NodeLife) → (if b && true then life_refusal (GiveUp ticket) one else Some fault.NoSuchNode) ≡ Some f
      → (if b && true then life_refusal (Group n) one else Some fault.NoSuchNode) ≡ Some f
  as_give_up ticket n f b (life.Up boot) e = e
  as_give_up ticket n f b life.Down e = e
  as_give_up ticket n f b life.Lost e = e

  group_refused : (n : ℕ) (f : StepFault) (rest : List (Option whole_steps.StepFault)) → node_refusal plan (life_in state) (Group n) ≡ Some f
      → RefusedSo f (first_refusal (node_fault plan (n ∷ []) ∷ option_map Fault (actor_fault n v) ∷ rest))
  group_refused n f rest e = let (g, is, first) = named_fault on plan state w even st within (Group n) [] f refl e in (g, is, form_refused n rest g first)

  pub ask_refused : (ticket : Number) (f : StepFault) (rest : List (Option whole_steps.StepFault)) → node_refusal plan (life_in state) (Ask ticket) ≡ Some f
      → RefusedSo f (first_refusal (node_fault plan (ticket.node ∷ []) ∷ option_map Fault (actor_fault ticket.node v) ∷ rest))
  ask_refused ticket f rest e = group_refused ticket.node f rest (as_ask ticket ticket.node f (is_node plan ticket.node) (life_in state ticket.node) e)

  pub give_up_refused : (ticket : Number) (f : StepFault) (rest : List (Option whole_steps.StepFault)) → node_refusal plan (life_in state) (GiveUp ticket) ≡ Some f
      → RefusedSo f (first_refusal (node_fault plan (ticket.node ∷ []) ∷ option_map Fault (actor_fault ticket.node v) ∷ rest))
  give_up_refused ticket f rest e = group_refused ticket.node f rest (as_give_up ticket ticket.node f (is_node plan ticket.node) (life_in state ticket.node) e)

  -- one that no node stands against
  as_ask_fits : (ticket : Number) (n : ℕ) (b : Bool) (one : NodeLife) → (if b && true then life_refusal (Ask ticket) one else Some fault.NoSuchNode) ≡ None
      → (if b && true then life_refusal (Group n) one else Some fault.NoSuchNode) ≡ None
  as_ask_fits ticket n b (life.Up boot) e = e
  as_ask_fits ticket n b life.Down e = e
  as_ask_fits ticket n b life.Lost e = e

  as_give_up_fits : (ticket : Number) (n : ℕ) (b : Bool) (one : NodeLife) → (if b && true then life_refusal (GiveUp ticket) one else Some fault.NoSuchNode) ≡ None
      → (if b && true then life_refusal (Group n) one else Some fault.NoSuchNode) ≡ None
  as_give_up_fits ticket n b (life.Up boot) e = e
  as_give_up_fits ticket n b life.Down e = e
  as_give_up_fits ticket n b life.Lost e = e

  pub ask_fits : (ticket : Number) (rest : List (Option whole_steps.StepFault)) → node_refusal plan (life_in state) (Ask ticket) ≡ None
      → first_refusal (node_fault plan (ticket.node ∷ []) ∷ option_map Fault (actor_fault ticket.node v) ∷ rest) ≡ first_refusal rest
  ask_fits ticket rest fit = group_fits ticket.node rest (as_ask_fits ticket ticket.node (is_node plan ticket.node) (life_in state ticket.node) fit)

  pub give_up_fits : (ticket : Number) (rest : List (Option whole_steps.StepFault)) → node_refusal plan (life_in state) (GiveUp ticket) ≡ None
      → first_refusal (node_fault plan (ticket.node ∷ []) ∷ option_map Fault (actor_fault ticket.node v) ∷ rest) ≡ first_refusal rest
  give_up_fits ticket rest fit = group_fits ticket.node rest (as_give_up_fits ticket ticket.node (is_node plan ticket.node) (life_in state ticket.node) fit)

  pub whole_refuses : (step : Step) (f : StepFault) → node_refusal plan (life_in state) step ≡ Some f → Refuses step f
  whole_refuses (Begin node call) f e = of_mail (Begin node call) f refl refl e
  whole_refuses (Ask ticket) f e = of_mail (Ask ticket) f refl refl e
  whole_refuses (GiveUp ticket) f e = of_mail (GiveUp ticket) f refl refl e
  whole_refuses (Post letter keep) f e = of_mail (Post letter keep) f refl refl e
  whole_refuses (Drop letter) f e = of_mail (Drop letter) f refl refl e
  whole_refuses (Push from to) f e = of_mail (Push from to) f refl refl e
  whole_refuses (Widen at user id to) f e = of_mail (Widen at user id to) f refl refl e
  whole_refuses (Crash node) f e = of_mail (Crash node) f refl refl e
  whole_refuses (Start node) f e = of_mail (Start node) f refl refl e
  whole_refuses (Lose node) f e = of_mail (Lose node) f refl refl e
  whole_refuses (Tick seconds) f e = of_mail (Tick seconds) f refl refl e
  whole_refuses (Group n) f e =
      let (g, is, first) = named_fault on plan state w even st within (Group n) [] f refl e in
      record { g = g; is = is; first = form_refused n _ g first }
  whole_refuses (Conclude n) f e =
      let (g, is, first) = named_fault on plan state w even st within (Conclude n) [] f refl e in
      record { g = g; is = is; first = form_refused n _ g first }
  whole_refuses (Report from to) f e = report_refused from to f e

-- So it is in a world with all that nodes keep.
module _ {D : Type 0} (on : View D) (plan : Plan) (state : WorldState D) (even : length state.disks ≡ length state.lives) (within : length state.lives ≡ plan.nodes)
    (v : joint_world.World) (st : StateStandsFor on state (joint_world.mail_world_of v)) where
  pub record RefusesAll (step : Step) (f : StepFault) : Type 0 where
    pub g : steps.StepFault
    pub is : fault_seen f ≡ steps.StepOutcome.Refused g
    pub first : joint_steps.step_fault plan (whole_step step) v ≡ Some (Fault g)

  no_ask_refuses : (step : Step) → IsNoAsk step → (f : StepFault) → node_refusal plan (life_in state) step ≡ Some f → RefusesAll step f
  no_ask_refuses step none f e =
      let r = whole_refuses on plan state even within (joint_world.mail_world_of v) st (whole_world_of v) refl step f e in
      record { g = r.g; is = r.is; first = (no_ask_alike plan step v none).faults (Fault r.g) r.first }

  pub all_refuses : (step : Step) (f : StepFault) → node_refusal plan (life_in state) step ≡ Some f → RefusesAll step f
  all_refuses (Ask ticket) f e =
      let (g, is, first) = ask_refused on plan state even within (joint_world.mail_world_of v) st (whole_world_of v) refl ticket f _ e in
      record { g = g; is = is; first = first }
  all_refuses (GiveUp ticket) f e =
      let (g, is, first) = give_up_refused on plan state even within (joint_world.mail_world_of v) st (whole_world_of v) refl ticket f _ e in
      record { g = g; is = is; first = first }
  all_refuses (Begin node call) f e = no_ask_refuses (Begin node call) tt f e
  all_refuses (Post letter keep) f e = no_ask_refuses (Post letter keep) tt f e
  all_refuses (Drop letter) f e = no_ask_refuses (Drop letter) tt f e
  all_refuses (Push from to) f e = no_ask_refuses (Push from to) tt f e
  all_refuses (Widen at user id to) f e = no_ask_refuses (Widen at user id to) tt f e
  all_refuses (Group node) f e = no_ask_refuses (Group node) tt f e
  all_refuses (Conclude node) f e = no_ask_refuses (Conclude node) tt f e
  all_refuses (Report from to) f e = no_ask_refuses (Report from to) tt f e
  all_refuses (Crash node) f e = no_ask_refuses (Crash node) tt f e
  all_refuses (Start node) f e = no_ask_refuses (Start node) tt f e
  all_refuses (Lose node) f e = no_ask_refuses (Lose node) tt f e
  all_refuses (Tick seconds) f e = no_ask_refuses (Tick seconds) tt f e

  -- So it is of a ticket of messages that stands, where no node stands against it.
  rest_alike : (b : Bool) (o : Option whole_steps.StepFault) → b ≡ true → first_refusal ((if b then None else Some (Fault steps.StepFault.NoSuchTicket)) ∷ o ∷ []) ≡ o
  rest_alike true None e = refl
  rest_alike true (Some f) e = refl
  rest_alike false o e = absurd (let never : false ≡ true = e in cc)

  or_true : (b c : Bool) → b ≡ true → (b || c) ≡ true
  or_true true c e = refl
  or_true false c e = absurd (let never : false ≡ true = e in cc)

  alike_so : (one : whole_steps.Step) → joint_steps.step_fault plan one v ≡ whole_steps.step_fault plan one (whole_world_of v)
      → ((fault : whole_steps.StepFault) → whole_makes.IsUnseen plan (whole_world_of v) one fault → ⊥) → IsRefusedAlike plan one v
  alike_so one same none = record { goes = λ e. same ∙ e; faults = λ fault e. same ∙ e; unseen = λ fault unseen. absurd (none fault unseen) }

  none_stands : (ticket : Number) → joint_steps.is_mail_ticket v ticket ≡ true → joint_steps.is_mail_ticket v ticket ≡ false → ⊥
  none_stands ticket stands gone = let never : true ≡ false = sym stands ∙ gone in cc

  pub ask_alike : (ticket : Number) → node_refusal plan (life_in state) (Ask ticket) ≡ None → joint_steps.is_mail_ticket v ticket ≡ true → IsRefusedAlike plan (whole_step (Ask ticket)) v
  ask_alike ticket fit stands = alike_so (whole_step (Ask ticket))
      (ask_fits on plan state even within (joint_world.mail_world_of v) st (whole_world_of v) refl ticket _ fit
      ∙ rest_alike (joint_steps.is_mail_ticket v ticket || joint_steps.stands_at ticket (joint.slot_at v.slots ticket.node)) (whole_steps.step_fault plan (whole_step (Ask ticket)) (whole_world_of v)) (or_true _ _ stands))
      (λ fault unseen. none_stands ticket stands unseen.1.1)

  pub give_up_alike : (ticket : Number) → node_refusal plan (life_in state) (GiveUp ticket) ≡ None → joint_steps.is_mail_ticket v ticket ≡ true → IsRefusedAlike plan (whole_step (GiveUp ticket)) v
  give_up_alike ticket fit stands = alike_so (whole_step (GiveUp ticket))
      (give_up_fits on plan state even within (joint_world.mail_world_of v) st (whole_world_of v) refl ticket _ fit
      ∙ rest_alike (joint_steps.is_mail_ticket v ticket || joint_steps.stands_at ticket (joint.slot_at v.slots ticket.node)) (whole_steps.step_fault plan (whole_step (GiveUp ticket)) (whole_world_of v)) (or_true _ _ stands))
      (λ fault unseen. none_stands ticket stands unseen.1.1)
