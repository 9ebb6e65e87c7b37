-- A step that is refused for the sake of a node changes nothing.
use Rattle.std.proofs.Common.{◌≡◌, inl, inr, ℕ, Bool, true, false, length, Option, Some, None, Err, refl, sym, ap, subst, if◌then◌else◌}
use Rattle.std.specs.Prelude.{⊤}
use Rattle.std.specs.List.{list_all}
use Rattle.session_model.specs.Events.{NodeLife, NodeLife as life}
use Rattle.cluster_model.specs.Steps as steps
use Rattle.cluster_model.specs.Steps.{actor_of, is_node}
use Rattle.whole_world.specs.Steps as whole_steps
use Rattle.joint_world.specs.World as joint_world
use Rattle.node_store.specs.Disks.{View}
use Rattle.cluster_world.specs.Maps.{StandsForAll}
use Rattle.cluster_world.specs.Seen.{step_seen, fault_seen, whole_fault}
use Rattle.cluster_world.specs.Turns.{life_refusal, actor_refusal, nodes_of_step, node_refusal}
use Rattle.cluster_world.specs.Worlds.{WorldState, life_in}
use Rattle.cluster_world.specs.Steps.{StepDid, LeadsTo}
use Rattle.cluster_world.specs.Sure.{IsSurelyDone}
use Rattle.cluster_world.specs.declared.step.Step.{Step}
use Rattle.cluster_world.specs.declared.step.Step.TheVariants.{Begin, Ask, GiveUp, Post, Drop, Push, Widen, Group, Conclude, Report, Crash, Start, Lose, Tick}
use Rattle.cluster_world.specs.declared.fault.StepFault.{StepFault}
use Rattle.cluster_world.specs.declared.fault.StepFault.TheVariants as fault
use Rattle.cluster_world.proofs.Clocks.{unticked}
use Rattle.cluster_world.proofs.Same.{led_refused, same_told, same_quiet, same_unchanged}
use Rattle.cluster_world.proofs.Longer.{same_book}
use Rattle.cluster_world.proofs.WholeFaults.{all_refuses}

-- it is a fault for the sake of a node
abbrev pub IsOfNode : StepFault → Type 0
IsOfNode fault.NoSuchNode = ⊤
IsOfNode fault.NodeLost = ⊤
IsOfNode fault.NodeDown = ⊤
IsOfNode fault.NodeUp = ⊤
IsOfNode other = ⊥

abbrev OfNode : Option StepFault → Type 0
OfNode None = ⊤
OfNode (Some f) = IsOfNode f

life_of_node : (step : Step) (one : NodeLife) → OfNode (life_refusal step one)
life_of_node step life.Lost = tt
life_of_node (Begin node call) (life.Up boot) = tt
life_of_node (Ask ticket) (life.Up boot) = tt
life_of_node (GiveUp ticket) (life.Up boot) = tt
life_of_node (Post letter keep) (life.Up boot) = tt
life_of_node (Drop letter) (life.Up boot) = tt
life_of_node (Push from to) (life.Up boot) = tt
life_of_node (Widen at user id to) (life.Up boot) = tt
life_of_node (Group node) (life.Up boot) = tt
life_of_node (Conclude node) (life.Up boot) = tt
life_of_node (Report from to) (life.Up boot) = tt
life_of_node (Crash node) (life.Up boot) = tt
life_of_node (Start node) (life.Up boot) = tt
life_of_node (Lose node) (life.Up boot) = tt
life_of_node (Tick seconds) (life.Up boot) = tt
life_of_node (Begin node call) life.Down = tt
life_of_node (Ask ticket) life.Down = tt
life_of_node (GiveUp ticket) life.Down = tt
life_of_node (Post letter keep) life.Down = tt
life_of_node (Drop letter) life.Down = tt
life_of_node (Push from to) life.Down = tt
life_of_node (Widen at user id to) life.Down = tt
life_of_node (Group node) life.Down = tt
life_of_node (Conclude node) life.Down = tt
life_of_node (Report from to) life.Down = tt
life_of_node (Crash node) life.Down = tt
life_of_node (Start node) life.Down = tt
life_of_node (Lose node) life.Down = tt
life_of_node (Tick seconds) life.Down = tt

actor_of_node : (step : Step) (lives : ℕ → NodeLife) (actor : Option ℕ) → OfNode (actor_refusal step lives actor)
actor_of_node step lives None = tt
actor_of_node step lives (Some n) = life_of_node step (lives n)

refusal_of_node : (plan : _) (lives : ℕ → NodeLife) (step : Step) → OfNode (node_refusal plan lives step)
refusal_of_node plan lives step = by (list_all (is_node plan) (nodes_of_step step))
  where
    by : (b : Bool) → OfNode (if b then actor_refusal step lives (actor_of (step_seen step)) else Some fault.NoSuchNode)
    by true = actor_of_node step lives (actor_of (step_seen step))
    by false = tt

same_fault : (f g : steps.StepFault) → steps.StepOutcome.Refused f ≡ steps.StepOutcome.Refused g → f ≡ g
same_fault f g e = cc

module _ {D : Type 0} (on : View D) (state : WorldState D) (even : length state.disks ≡ length state.lives) (within : length state.lives ≡ state.plan.nodes) (step : Step) where
  -- as the whole machine says it
  told_so : (f : StepFault) (g : steps.StepFault) → IsOfNode f → fault_seen f ≡ steps.StepOutcome.Refused g → whole_fault f ≡ whole_steps.StepOutcome.Refused (whole_steps.StepFault.Fault g)
  told_so fault.NoSuchNode g of e = ap (λ x. whole_steps.StepOutcome.Refused (whole_steps.StepFault.Fault x)) (same_fault steps.StepFault.NoSuchNode g e)
  told_so fault.NodeLost g of e = ap (λ x. whole_steps.StepOutcome.Refused (whole_steps.StepFault.Fault x)) (same_fault steps.StepFault.NodeLost g e)
  told_so fault.NodeDown g of e = ap (λ x. whole_steps.StepOutcome.Refused (whole_steps.StepFault.Fault x)) (same_fault steps.StepFault.NodeDown g e)
  told_so fault.NodeUp g of e = ap (λ x. whole_steps.StepOutcome.Refused (whole_steps.StepFault.Fault x)) (same_fault steps.StepFault.NodeIsUp g e)
  told_so fault.NoSuchLetter g of e = absurd of
  told_so fault.NoSuchTicket g of e = absurd of
  told_so fault.NotAGroup g of e = absurd of
  told_so fault.Worn g of e = absurd of
  told_so fault.NoRoom g of e = absurd of
  told_so (fault.NoMemory down) g of e = absurd of

  leads_same : (f : StepFault) → IsOfNode f → node_refusal state.plan (life_in state) step ≡ Some f → (v : joint_world.World) → StandsForAll on state v → LeadsTo on (Err f) step state state v
  leads_same f of e v st =
      let r = all_refuses on state.plan state even within v st.mail step f e in
      led_refused on state f (whole_steps.StepFault.Fault r.g) step v st (told_so f r.g of r.is) r.first

  did_so : (f : StepFault) → IsOfNode f → node_refusal state.plan (life_in state) step ≡ Some f → StepDid on (Err f) step state state
  did_so fault.NoSuchNode of e = record {
    plan = refl;
    handed = refl;
    clock = unticked step fault.NoSuchNode state.seconds;
    passed = tt;
    books = same_book state.book;
    kept = same_unchanged on state step;
    refused = sym e;
    kind = tt;
    falls = tt;
    lives = λ n. refl;
    told = same_told on state;
    quiet = same_quiet on state;
    leads = λ known ended story v st sound. leads_same fault.NoSuchNode tt e v st;
    cause = λ w s. tt;
  }
  did_so fault.NodeLost of e = record {
    plan = refl;
    handed = refl;
    clock = unticked step fault.NodeLost state.seconds;
    passed = tt;
    books = same_book state.book;
    kept = same_unchanged on state step;
    refused = sym e;
    kind = tt;
    falls = tt;
    lives = λ n. refl;
    told = same_told on state;
    quiet = same_quiet on state;
    leads = λ known ended story v st sound. leads_same fault.NodeLost tt e v st;
    cause = λ w s. tt;
  }
  did_so fault.NodeDown of e = record {
    plan = refl;
    handed = refl;
    clock = unticked step fault.NodeDown state.seconds;
    passed = tt;
    books = same_book state.book;
    kept = same_unchanged on state step;
    refused = sym e;
    kind = tt;
    falls = tt;
    lives = λ n. refl;
    told = same_told on state;
    quiet = same_quiet on state;
    leads = λ known ended story v st sound. leads_same fault.NodeDown tt e v st;
    cause = λ w s. tt;
  }
  did_so fault.NodeUp of e = record {
    plan = refl;
    handed = refl;
    clock = unticked step fault.NodeUp state.seconds;
    passed = tt;
    books = same_book state.book;
    kept = same_unchanged on state step;
    refused = sym e;
    kind = tt;
    falls = tt;
    lives = λ n. refl;
    told = same_told on state;
    quiet = same_quiet on state;
    leads = λ known ended story v st sound. leads_same fault.NodeUp tt e v st;
    cause = λ w s. tt;
  }
  did_so fault.NoSuchLetter of e = absurd of
  did_so fault.NoSuchTicket of e = absurd of
  did_so fault.NotAGroup of e = absurd of
  did_so fault.Worn of e = absurd of
  did_so fault.NoRoom of e = absurd of
  did_so (fault.NoMemory down) of e = absurd of

  pub refused_did : (f : StepFault) → node_refusal state.plan (life_in state) step ≡ Some f → StepDid on (Err f) step state state
  refused_did f e = did_so f (subst OfNode e (refusal_of_node state.plan (life_in state) step)) e

-- and it is refused for nothing else
module _ {D : Type 0} (state : WorldState D) where
  sure_by : (step : Step) (f : StepFault) → IsOfNode f → node_refusal state.plan (life_in state) step ≡ Some f → IsSurelyDone state step (Err f)
  sure_by (Crash node) f of e = e
  sure_by (Lose node) f of e = e
  sure_by (Tick seconds) f of e = absurd (let never : None ≡ Some f = e in cc)
  sure_by (Drop letter) f of e = let never : None ≡ Some f = e in cc
  sure_by (Ask ticket) f of e = ask_sure f of
    where
      ask_sure : (f : StepFault) → IsOfNode f → IsSurelyDone state (Ask ticket) (Err f)
      ask_sure fault.NoSuchNode of = tt
      ask_sure fault.NodeLost of = tt
      ask_sure fault.NodeDown of = tt
      ask_sure fault.NodeUp of = tt
      ask_sure fault.NoSuchLetter of = tt
      ask_sure fault.NoSuchTicket of = tt
      ask_sure fault.NotAGroup of = tt
      ask_sure fault.Worn of = tt
      ask_sure fault.NoRoom of = tt
      ask_sure (fault.NoMemory down) of = absurd of
  sure_by (GiveUp ticket) f of e = give_up_sure f of
    where
      give_up_sure : (f : StepFault) → IsOfNode f → IsSurelyDone state (GiveUp ticket) (Err f)
      give_up_sure fault.NoSuchNode of = tt
      give_up_sure fault.NodeLost of = tt
      give_up_sure fault.NodeDown of = tt
      give_up_sure fault.NodeUp of = tt
      give_up_sure fault.NoSuchLetter of = tt
      give_up_sure fault.NoSuchTicket of = tt
      give_up_sure fault.NotAGroup of = tt
      give_up_sure fault.Worn of = tt
      give_up_sure fault.NoRoom of = tt
      give_up_sure (fault.NoMemory down) of = absurd of
  sure_by (Begin node call) f of e = tt
  sure_by (Post letter keep) f of e = tt
  sure_by (Push from to) f of e = tt
  sure_by (Widen at user id to) f of e = tt
  sure_by (Group node) f of e = tt
  sure_by (Conclude node) f of e = tt
  sure_by (Report from to) f of e = tt
  sure_by (Start node) f of e = tt

  pub refused_sure : (step : Step) (f : StepFault) → node_refusal state.plan (life_in state) step ≡ Some f → IsSurelyDone state step (Err f)
  refused_sure step f e = sure_by step f (subst OfNode e (refusal_of_node state.plan (life_in state) step)) e
