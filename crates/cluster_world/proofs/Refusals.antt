-- A step that is refused for the sake of a node is refused by the machine, and no other is.
use Rattle.std.proofs.Common.{◌≡◌, ⊎_elim, ℕ, zero, suc, ◌≤◌, Bool, true, false, List, [], ◌∷◌, length, Option, Some, None, refl, sym, ap, ◌∙◌, subst, arith, if◌then◌else◌}
use Rattle.std.specs.List.{list_all}
use Rattle.std.proofs.lemmas.Bool.{and_parts, false≢true}
use Rattle.std.proofs.lemmas.Bool.Decides.{nat_tests}
use Rattle.std.proofs.lemmas.Option.{slice_get_cases}
use Rattle.session_model.specs.Events.{NodeLife, NodeLife as life}
use Rattle.mail_model.specs.Plan.{Plan}
use Rattle.mail_model.specs.Record.{Record}
use Rattle.cluster_model.specs.Cluster as plain
use Rattle.cluster_model.specs.World as machine
use Rattle.cluster_model.specs.Steps as steps
use Rattle.cluster_model.specs.Steps.{is_node, nodes_named, nodes_of_call, actor_of, life_fault, slot_fault, actor_fault, node_name_fault}
use Rattle.node_store.specs.Disks.{View}
use Rattle.node_core.specs.Beginning.{call_seen}
use Rattle.node_core.specs.Nodes.{node_seen}
use Rattle.cluster_world.specs.Lives.{life_seen, of_node}
use Rattle.cluster_world.specs.Stands.{SlotStands}
use Rattle.cluster_world.specs.Worlds.{WorldState, seen_life, life_in, StateStandsFor}
use Rattle.cluster_world.specs.Seen.{step_seen, fault_seen}
use Rattle.cluster_world.specs.Turns.{life_refusal, actor_refusal, nodes_of_step, node_refusal}
use Rattle.cluster_world.proofs.Still.{some_same, both_at}
use Rattle.cluster_world.specs.declared.life.Life.{Life}
use Rattle.cluster_world.specs.declared.life.Life.TheVariants.{Up, Down, Lost}
use Rattle.cluster_world.specs.declared.step.Step.{Step}
use Rattle.cluster_world.specs.declared.step.Step.TheVariants.{Begin, Ask, GiveUp, Post, Drop, Push, Widen, Group, Conclude, Report, Crash, Start, Lose, Tick}
use Rattle.cluster_world.specs.declared.fault.StepFault.{StepFault}
use Rattle.cluster_world.specs.declared.fault.StepFault.TheVariants as fault

-- both are no fault, or the same
abbrev pub AreAlike : Option StepFault → Option steps.StepFault → Type 0
AreAlike None None = Unit {0}
AreAlike (Some one) (Some other) = fault_seen one ≡ steps.StepOutcome.Refused other
AreAlike one other = ⊥

-- a life of the code and of the machine
abbrev pub IsLifeOf : NodeLife → plain.Life → Type 0
IsLifeOf (life.Up boot) (plain.Life.Up node) = boot ≡ node.boot
IsLifeOf life.Down (plain.Life.Down pending) = Unit {0}
IsLifeOf life.Lost plain.Life.Lost = Unit {0}
IsLifeOf one other = ⊥

up_alike : (step : Step) (boot : ℕ) (state : plain.Node) → AreAlike (life_refusal step (life.Up boot)) (life_fault (step_seen step) (plain.Life.Up state))
up_alike (Begin node call) boot state = tt
up_alike (Ask ticket) boot state = tt
up_alike (GiveUp ticket) boot state = tt
up_alike (Post letter keep) boot state = tt
up_alike (Drop letter) boot state = tt
up_alike (Push from to) boot state = tt
up_alike (Widen at user id to) boot state = tt
up_alike (Group node) boot state = tt
up_alike (Conclude node) boot state = tt
up_alike (Report from to) boot state = tt
up_alike (Crash node) boot state = tt
up_alike (Start node) boot state = refl
up_alike (Lose node) boot state = tt
up_alike (Tick seconds) boot state = tt

down_alike : (step : Step) (pending : List Record) → AreAlike (life_refusal step life.Down) (life_fault (step_seen step) (plain.Life.Down pending))
down_alike (Begin node call) pending = refl
down_alike (Ask ticket) pending = refl
down_alike (GiveUp ticket) pending = refl
down_alike (Post letter keep) pending = refl
down_alike (Drop letter) pending = refl
down_alike (Push from to) pending = refl
down_alike (Widen at user id to) pending = refl
down_alike (Group node) pending = refl
down_alike (Conclude node) pending = refl
down_alike (Report from to) pending = refl
down_alike (Crash node) pending = refl
down_alike (Start node) pending = tt
down_alike (Lose node) pending = tt
down_alike (Tick seconds) pending = refl

pub life_alike : (step : Step) (one : NodeLife) (other : plain.Life) → IsLifeOf one other → AreAlike (life_refusal step one) (life_fault (step_seen step) other)
life_alike step (life.Up boot) (plain.Life.Up state) h = up_alike step boot state
life_alike step (life.Up boot) (plain.Life.Down pending) h = absurd h
life_alike step (life.Up boot) plain.Life.Lost h = absurd h
life_alike step life.Down (plain.Life.Up state) h = absurd h
life_alike step life.Down (plain.Life.Down pending) h = down_alike step pending
life_alike step life.Down plain.Life.Lost h = absurd h
life_alike step life.Lost (plain.Life.Up state) h = absurd h
life_alike step life.Lost (plain.Life.Down pending) h = absurd h
life_alike step life.Lost plain.Life.Lost h = refl

module _ {D : Type 0} (on : View D) where
  pub slot_alike : (own : ℕ) (one : Life) (disk : D) (slot : plain.Slot) → SlotStands on own one disk slot → IsLifeOf (life_seen one) slot.life
  slot_alike own (Up node) disk slot (seen, is, st) = subst (λ l. IsLifeOf (life.Up (node_seen node.mail).boot) l) (sym is) (ap (λ n. n.boot) st.seen_is)
  slot_alike own Down disk slot (pending, is, fit, holds) = subst (λ l. IsLifeOf life.Down l) (sym is) tt
  slot_alike own Lost disk slot (is, fit, holds) = subst (λ l. IsLifeOf life.Lost l) (sym is) tt

  -- the slot of a node that there is
  pub record HasSlot (state : WorldState D) (w : machine.World) (n : ℕ) (one : Life) : Type 0 where
    pub disk : D
    pub slot : plain.Slot
    pub disk_here : of_node state.disks n ≡ Some disk
    pub slot_here : plain.slot_at w.slots n ≡ Some slot
    pub stands : SlotStands on n one disk slot

  pub has_slot : (state : WorldState D) (w : machine.World) → length state.disks ≡ length state.lives → StateStandsFor on state w → (n : ℕ) (one : Life) → of_node state.lives n ≡ Some one → HasSlot state w n one
  has_slot state w even s zero one e = absurd (let never : None ≡ Some one = e in cc)
  has_slot state w even s (suc k) one e =
      let (disk, d) = both_at state.disks state.lives k one (sym even) e in
      let (slot, p) = both_at w.slots state.lives k one (sym s.slots.count) e in
      record { disk = disk; slot = slot; disk_here = d; slot_here = p; stands = s.slots.each k one disk slot e d p }

  no_slot : (state : WorldState D) (w : machine.World) → StateStandsFor on state w → (n : ℕ) → of_node state.lives n ≡ None → plain.slot_at w.slots n ≡ None
  no_slot state w s zero e = refl
  no_slot state w s (suc k) e = ⊎_elim
      (λ (slot, within, here, read). let (one, f) = both_at state.lives w.slots k slot s.slots.count here in absurd (let never : None ≡ Some one = sym e ∙ f in cc))
      (λ (past, none). none)
      (slice_get_cases w.slots k).1

  module _ (plan : Plan) (state : WorldState D) (w : machine.World) (even : length state.disks ≡ length state.lives) (s : StateStandsFor on state w) where
    -- A node that a step names is one of the plan's, where it is one of the plan's at all
    actor_alike : (step : Step) (actor : Option ℕ) → ((n : ℕ) → actor ≡ Some n → (one : Life) × (of_node state.lives n ≡ Some one))
        → AreAlike (actor_refusal step (life_in state) actor) (actor_fault (step_seen step) w.slots actor)
    actor_alike step None there = tt
    actor_alike step (Some n) there =
        let (one, e) = there n refl in
        let has = has_slot state w even s n one e in
        subst (λ o. AreAlike (life_refusal step (seen_life o)) (slot_fault (step_seen step) (plain.slot_at w.slots n))) (sym e)
        (subst (λ o. AreAlike (life_refusal step (life_seen one)) (slot_fault (step_seen step) o)) (sym has.slot_here)
        (life_alike step (life_seen one) has.slot.life (slot_alike n one has.disk has.slot has.stands)))

    module _ (within : length state.lives ≡ plan.nodes) where
      node_there : (n : ℕ) → is_node plan n ≡ true → (one : Life) × (of_node state.lives n ≡ Some one)
      node_there zero e = absurd (let never : false ≡ true = e in cc)
      node_there (suc k) e = ⊎_elim
          (λ (one, inside, here, read). (one, here))
          (λ (past, none). absurd (false≢true (sym (past_nodes k (omega (arith, within, past))) ∙ e)))
          (slice_get_cases state.lives k).1
        where
          past_nodes : (k : ℕ) → plan.nodes ≤ k → is_node plan (suc k) ≡ false
          past_nodes k le = grind (arith, nat_tests)

      first_there : (n : ℕ) (more : List ℕ) → list_all (is_node plan) (n ∷ more) ≡ true → (m : ℕ) → Some n ≡ Some m → (one : Life) × (of_node state.lives m ≡ Some one)
      first_there n more e m same = node_there m (subst (λ k. is_node plan k ≡ true) (some_same n m same) (and_parts (is_node plan n) (list_all (is_node plan) more) e).0)

      none_there : {A : Type 0} (n : ℕ) → None ≡ Some n → A
      none_there n e = absurd (let never : None ≡ Some n = e in cc)

      -- the node that acts is one of the plan's, where all that the step names are
      actor_there : (step : Step) → list_all (is_node plan) (nodes_named (step_seen step)) ≡ true → (n : ℕ) → actor_of (step_seen step) ≡ Some n
          → (one : Life) × (of_node state.lives n ≡ Some one)
      actor_there (Begin node call) e n same = first_there node (nodes_of_call (call_seen call)) e n same
      actor_there (Ask ticket) e n same = first_there ticket.node [] e n same
      actor_there (GiveUp ticket) e n same = first_there ticket.node [] e n same
      actor_there (Post letter keep) e n same = none_there n same
      actor_there (Drop letter) e n same = none_there n same
      actor_there (Push from to) e n same = first_there from (to ∷ []) e n same
      actor_there (Widen at user id to) e n same = first_there at (to ∷ []) e n same
      actor_there (Group node) e n same = first_there node [] e n same
      actor_there (Conclude node) e n same = first_there node [] e n same
      actor_there (Report from to) e n same = first_there from [] e n same
      actor_there (Crash node) e n same = first_there node [] e n same
      actor_there (Start node) e n same = first_there node [] e n same
      actor_there (Lose node) e n same = first_there node [] e n same
      actor_there (Tick seconds) e n same = none_there n same

      alike_some : (one : Option StepFault) (other : Option steps.StepFault) (rest : List (Option steps.StepFault)) → AreAlike one other → (f : StepFault) → one ≡ Some f
          → (g : steps.StepFault) × (fault_seen f ≡ steps.StepOutcome.Refused g) × (steps.first_fault (None ∷ other ∷ rest) ≡ Some g)
      alike_some None other rest h f e = absurd (let never : None ≡ Some f = e in cc)
      alike_some (Some one) None rest h f e = absurd h
      alike_some (Some one) (Some other) rest h f e = (other, ap fault_seen (sym (some_same one f e)) ∙ h, refl)

      alike_none : (one : Option StepFault) (other : Option steps.StepFault) (rest : List (Option steps.StepFault)) → AreAlike one other → one ≡ None
          → steps.first_fault (None ∷ other ∷ rest) ≡ steps.first_fault rest
      alike_none None None rest h e = refl
      alike_none None (Some other) rest h e = absurd h
      alike_none (Some one) other rest h e = absurd (let never : Some one ≡ None = e in cc)

      -- a refusal for the sake of a node is the machine's, where messages see all the nodes that the step names
      pub named_fault : (step : Step) (rest : List (Option steps.StepFault)) (f : StepFault) → nodes_of_step step ≡ nodes_named (step_seen step) → node_refusal plan (life_in state) step ≡ Some f
          → (g : steps.StepFault) × (fault_seen f ≡ steps.StepOutcome.Refused g)
          × (steps.first_fault (node_name_fault plan (step_seen step) ∷ actor_fault (step_seen step) w.slots (actor_of (step_seen step)) ∷ rest) ≡ Some g)
      named_fault step rest f same e = by (list_all (is_node plan) (nodes_named (step_seen step))) (actor_there step)
          (subst (λ ns. (if list_all (is_node plan) ns then actor_refusal step (life_in state) (actor_of (step_seen step)) else Some fault.NoSuchNode) ≡ Some f) same e)
        where
          by : (b : Bool) → (b ≡ true → (n : ℕ) → actor_of (step_seen step) ≡ Some n → (one : Life) × (of_node state.lives n ≡ Some one))
              → (if b then actor_refusal step (life_in state) (actor_of (step_seen step)) else Some fault.NoSuchNode) ≡ Some f
              → (g : steps.StepFault) × (fault_seen f ≡ steps.StepOutcome.Refused g)
              × (steps.first_fault ((if b then None else Some steps.StepFault.NoSuchNode) ∷ actor_fault (step_seen step) w.slots (actor_of (step_seen step)) ∷ rest) ≡ Some g)
          by true there e = alike_some _ _ rest (actor_alike step (actor_of (step_seen step)) (there refl)) f e
          by false there e = (steps.StepFault.NoSuchNode, ap fault_seen (sym (some_same fault.NoSuchNode f e)), refl)

      -- and where there is none, the machine has none
      pub named_none : (step : Step) (rest : List (Option steps.StepFault)) → nodes_of_step step ≡ nodes_named (step_seen step) → node_refusal plan (life_in state) step ≡ None
          → steps.first_fault (node_name_fault plan (step_seen step) ∷ actor_fault (step_seen step) w.slots (actor_of (step_seen step)) ∷ rest) ≡ steps.first_fault rest
      named_none step rest same e = by (list_all (is_node plan) (nodes_named (step_seen step))) (actor_there step)
          (subst (λ ns. (if list_all (is_node plan) ns then actor_refusal step (life_in state) (actor_of (step_seen step)) else Some fault.NoSuchNode) ≡ None) same e)
        where
          by : (b : Bool) → (b ≡ true → (n : ℕ) → actor_of (step_seen step) ≡ Some n → (one : Life) × (of_node state.lives n ≡ Some one))
              → (if b then actor_refusal step (life_in state) (actor_of (step_seen step)) else Some fault.NoSuchNode) ≡ None
              → steps.first_fault ((if b then None else Some steps.StepFault.NoSuchNode) ∷ actor_fault (step_seen step) w.slots (actor_of (step_seen step)) ∷ rest) ≡ steps.first_fault rest
          by true there e = alike_none _ _ rest (actor_alike step (actor_of (step_seen step)) (there refl)) e
          by false there e = absurd (let never : Some fault.NoSuchNode ≡ None = e in cc)

-- Messages see all the nodes that a step names, but of a report.
pub data NamesSeen (step : Step) : Type 0 where
  AllNodes : nodes_of_step step ≡ nodes_named (step_seen step) → NamesSeen step
  OfReport : (from to : ℕ) → step ≡ Report from to → NamesSeen step

pub names_seen : (step : Step) → NamesSeen step
names_seen (Begin node call) = NamesSeen.AllNodes refl
names_seen (Ask ticket) = NamesSeen.AllNodes refl
names_seen (GiveUp ticket) = NamesSeen.AllNodes refl
names_seen (Post letter keep) = NamesSeen.AllNodes refl
names_seen (Drop letter) = NamesSeen.AllNodes refl
names_seen (Push from to) = NamesSeen.AllNodes refl
names_seen (Widen at user id to) = NamesSeen.AllNodes refl
names_seen (Group node) = NamesSeen.AllNodes refl
names_seen (Conclude node) = NamesSeen.AllNodes refl
names_seen (Report from to) = NamesSeen.OfReport from to refl
names_seen (Crash node) = NamesSeen.AllNodes refl
names_seen (Start node) = NamesSeen.AllNodes refl
names_seen (Lose node) = NamesSeen.AllNodes refl
names_seen (Tick seconds) = NamesSeen.AllNodes refl
