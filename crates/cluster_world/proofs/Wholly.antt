-- A step for messages is one of the whole machine, once the maps follow it.
use Rattle.std.proofs.Common.{◌≡◌, ◌⊎◌, inl, inr, ⊎_elim, ℕ, Bool, List, length, Option, Some, None, Result, Ok, Err, refl, sym, ap, ◌∙◌, subst}
use Rattle.std.specs.Option.{option_map}
use Rattle.cluster_model.specs.Cluster as plain
use Rattle.cluster_model.specs.Makes as mail_makes
use Rattle.cluster_model.specs.Steps as mail_steps
use Rattle.cluster_model.specs.World as machine
use Rattle.whole_model.specs.Whole as whole
use Rattle.whole_model.specs.Whole.{mail_life, mail_slot}
use Rattle.whole_model.specs.Rules.{follows}
use Rattle.whole_world.specs.Laws.{Stands}
use Rattle.whole_world.specs.Makes as whole_makes
use Rattle.whole_world.specs.Makes.{IsForMessages}
use Rattle.whole_world.specs.Steps as whole_steps
use Rattle.whole_world.specs.World as whole_world
use Rattle.whole_world.specs.World.{mail_world_of, FollowsAlong}
use Rattle.whole_world.proofs.Along.{mail_here}
use Rattle.node_maps.specs.Nodes.{node_of}
use Rattle.node_store.specs.Disks.{View}
use Rattle.whole_node.specs.declared.node.WholeNode.{WholeNode}
use Rattle.cluster_world.specs.Lives.{of_node}
use Rattle.cluster_world.specs.Maps.{AreMaps}
use Rattle.cluster_world.specs.Seen.{step_seen, outcome_seen, whole_outcome}
use Rattle.cluster_world.specs.Steps.{EveryStopKeeps, LeadsMail, LeadsWhole}
use Rattle.cluster_world.specs.Worlds.{WorldState, tells_in, StateStandsFor}
use Rattle.cluster_world.specs.declared.fault.StepFault.{StepFault}
use Rattle.cluster_world.specs.declared.life.Life.TheVariants.{Up}
use Rattle.cluster_world.specs.declared.nodes.Nodes.{Nodes}
use Rattle.cluster_world.specs.declared.step.Said.{Said}
use Rattle.cluster_world.specs.declared.step.Step.{Step}
use Rattle.cluster_world.proofs.Follows.{MapsFollow, drop_all}
use Rattle.cluster_world.proofs.Told.{told, IsNoForm, IsOfMail, IsDone, refused_on}
use Rattle.cluster_world.proofs.Joined.{joined, joined_world, joined_seen, world_seen, joined_maps, node_up}

module _ {D : Type 0} (on : View D) (result : Result Said StepFault) (step : Step) (old new : WorldState D) (even : length old.disks ≡ length old.lives) (even' : length new.disks ≡ length new.lives)
    (w : machine.World) (st : StateStandsFor on old w) where
  -- the step of messages, and that maps follow it
  pub record Along : Type 0 where
    pub next : machine.World
    pub stands : StateStandsFor on new next
    pub made : mail_makes.MakesStep old.plan (tells_in on.seen old) w (step_seen step) (outcome_seen result) next
    pub stops : EveryStopKeeps on old new w.slots next.slots
    pub follow : MapsFollow old.lives new.lives w.slots next.slots

  module _ (l : Along) where
    abbrev now : whole_world.World
    now = joined_world new.lives l.next

    module _ (v : whole_world.World) (seen : mail_world_of v ≡ w) (maps : AreMaps old.lives v.slots) where
      -- a slot as messages see it
      seen_at : (n : ℕ) (slot : whole.Slot) → whole.slot_at v.slots n ≡ Some slot → plain.slot_at w.slots n ≡ Some (mail_slot slot)
      seen_at n slot here = ap (λ (x : machine.World). plain.slot_at x.slots n) (sym seen) ∙ mail_here v.slots n slot here

      old_maps : (n : ℕ) (slot : whole.Slot) (a : whole.Node) → whole.slot_at v.slots n ≡ Some slot → slot.life ≡ whole.Life.Up a
          → (node : WholeNode) × (of_node old.lives n ≡ Some (Up node)) × (a.maps ≡ node_of node.maps)
      old_maps n slot a here up =
          let (node, is) = node_up on old even w st n (mail_slot slot) a.mail (seen_at n slot here) (ap mail_life up) in
          (node, is, maps.each n node slot a is here up)

      follows_along : FollowsAlong v now
      follows_along = record {
        each = λ n before after here there a b up_a up_b.
            let (one, is, maps_are) = old_maps n before a here up_a in
            let there' : plain.slot_at l.next.slots n ≡ Some (mail_slot after) = ap (λ xs. plain.slot_at xs n) (sym (joined_seen new.lives l.next.slots)) ∙ mail_here (joined new.lives l.next.slots) n after there in
            let (other, is') = node_up on new even' l.next l.stands n (mail_slot after) b.mail there' (ap mail_life up_b) in
            (joined_maps new.lives l.next.slots).each n other after b is' there up_b
            ∙ l.follow.each n one other (mail_slot before) (mail_slot after) is is' (seen_at n before here) there'
            ∙ ap (λ m. follows n m before.disk (Rattle.std.proofs.Common.drop (length before.disk) after.disk)) (sym maps_are);
      }

      -- where nothing was done, it is the world that was
      maps_stay : l.next ≡ w → AreMaps new.lives v.slots
      maps_stay same = record {
        each = λ n node slot a is here up.
            let (one, was, maps_are) = old_maps n slot a here up in
            let there : plain.slot_at l.next.slots n ≡ Some (mail_slot slot) = ap (λ (x : machine.World). plain.slot_at x.slots n) same ∙ seen_at n slot here in
            maps_are ∙ sym (l.follow.each n one node (mail_slot slot) (mail_slot slot) was is (seen_at n slot here) there ∙ ap (follows n (node_of one.maps) slot.disk) (drop_all slot.disk));
      }

      abbrev Whole : whole_steps.Step → whole_steps.StepOutcome → Type 0
      Whole s o = (end : whole_world.World) × (mail_world_of end ≡ l.next) × AreMaps new.lives end.slots × whole_makes.MakesStep old.plan (tells_in on.seen old) v s o end

      made_on : (one : mail_steps.Step) (out : mail_steps.StepOutcome) → (IsDone out → IsForMessages v one) → IsNoForm one → mail_makes.MakesStep old.plan (tells_in on.seen old) (mail_world_of v) one out l.next
          → Whole (whole_steps.Step.OfMessages one) (told out)
      made_on one (mail_steps.StepOutcome.Says said) for sees (goes, does) = (
        now,
        world_seen new.lives l.next,
        joined_maps new.lives l.next.slots,
        (
          ap (option_map whole_steps.StepFault.Fault) goes,
          whole_makes.DoesStep.ForMessages one refl said refl (for tt)
              (subst (λ x. mail_makes.DoesStep old.plan (tells_in on.seen old) (mail_world_of v) one said x) (sym (world_seen new.lives l.next)) does) follows_along,
        ),
      )
      made_on one (mail_steps.StepOutcome.Refused fault) for sees (why, same) = (
        v,
        sym same,
        maps_stay (same ∙ seen),
        (refused_on old.plan v one fault sees why, refl),
      )
      made_on one (mail_steps.StepOutcome.NoMemory None) for sees same = (v, sym same, maps_stay (same ∙ seen), refl)
      made_on one (mail_steps.StepOutcome.NoMemory (Some n)) for sees short = (
        now,
        world_seen new.lives l.next,
        joined_maps new.lives l.next.slots,
        whole_makes.RunsShort.InMessages one refl (for tt)
            (subst (λ x. mail_makes.RunsShort old.plan (mail_world_of v) one n x) (sym (world_seen new.lives l.next)) short) follows_along,
      )

      pub led_whole : IsOfMail result step → (IsDone (outcome_seen result) → IsForMessages v (step_seen step)) → LeadsWhole old.plan (tells_in on.seen old) result step new.lives v l.next
      led_whole is for =
          let (end, seen_end, maps_end, makes) = made_on (step_seen step) (outcome_seen result) for is.sees
          (subst (λ x. mail_makes.MakesStep old.plan (tells_in on.seen old) x (step_seen step) (outcome_seen result) l.next) (sym seen) l.made) in
          record {
            now = end;
            seen = seen_end;
            maps = maps_end;
            made = subst (λ s. whole_makes.MakesStep old.plan (tells_in on.seen old) v s (whole_outcome result) end) (sym is.step_is)
                (subst (λ o. whole_makes.MakesStep old.plan (tells_in on.seen old) v (whole_steps.Step.OfMessages (step_seen step)) o end) (sym is.said_is) makes);
          }

  -- So the step leads on.
  pub led : IsOfMail result step → ((v : whole_world.World) → mail_world_of v ≡ w → Stands old.plan v → IsDone (outcome_seen result) → IsForMessages v (step_seen step)) → Along → LeadsMail on result step old new w
  led is for l = record {
    next = l.next;
    stands = l.stands;
    made = l.made;
    stops = l.stops;
    whole = λ v seen sound maps. led_whole l v seen maps is (λ done. for v seen sound done);
  }

-- nodes have a disk each
pub even_of : {D : Type 0} (nodes : Nodes D) → length nodes.disks.items ≡ length nodes.lives.items
even_of nodes = nodes.disk_each ∙ sym nodes.all
