-- A step that is none of calls that read, in a world with all that nodes keep.
use Rattle.std.proofs.Common.{◌≡◌, ◌⊎◌, inl, inr, ℕ, zero, suc, Bool, true, List, [], ◌∷◌, length, map, Some, None, Result, refl, sym, ap, ◌∙◌, subst, arith}
use Rattle.std.specs.Prelude.{slice_get, nat_eq, ◌&&◌, if◌then◌else◌}
use Rattle.std.specs.FinMap as fin
use Rattle.mail_model.specs.Identity.{EpochId}
use Rattle.mail_model.specs.Plan.{Plan}
use Rattle.object_model.specs.Keys.{is_same_epoch}
use Rattle.object_model.specs.Locks.{Held, no_locks}
use Rattle.cluster_model.specs.Cluster as plain
use Rattle.cluster_model.specs.Steps as mail_steps
use Rattle.cluster_model.specs.World as machine
use Rattle.maps_model.specs.Cluster as maps
use Rattle.maps_model.specs.Cluster.{epoch_of}
use Rattle.whole_model.specs.Whole as whole
use Rattle.whole_model.specs.Whole.{mail_life, mail_slot}
use Rattle.whole_world.specs.World as whole_world
use Rattle.whole_world.specs.Makes as whole_makes
use Rattle.whole_world.specs.Steps as whole_steps
use Rattle.whole_world.proofs.Along.{mail_here}
use Rattle.login_model.specs.Cluster as login
use Rattle.login_model.specs.Readings.{Reads}
use Rattle.joint_model.specs.Joint as joint
use Rattle.joint_model.specs.Joint.{whole_life, whole_slot}
use Rattle.joint_world.specs.World as joint_world
use Rattle.joint_world.specs.World.{whole_world_of, mail_world_of}
use Rattle.joint_world.specs.Laws.{Stands}
use Rattle.joint_world.specs.Makes as joint_makes
use Rattle.joint_world.specs.Makes.{RefusedLate}
use Rattle.joint_world.specs.Staying.{KeepsReads, ReadsStay, IsForWhole}
use Rattle.joint_world.specs.Steps as joint_steps
use Rattle.node_maps.specs.Nodes.{node_of}
use Rattle.node_store.specs.Disks.{View}
use Rattle.whole_node.specs.Nodes.{joint_seen}
use Rattle.whole_node.specs.declared.node.WholeNode.{WholeNode}
use Rattle.cluster_world.specs.Keeping.{joint_life, ReadsKept}
use Rattle.cluster_world.specs.Lives.{of_node}
use Rattle.cluster_world.specs.Maps.{AreMaps, HasReads, AreReads, StandsForAll}
use Rattle.cluster_world.specs.Seen.{whole_step, whole_outcome}
use Rattle.cluster_world.specs.Stands.{SlotStands}
use Rattle.cluster_world.specs.Steps.{EveryStopKeeps, LeadsMail, LeadsTo, LeadsWhole}
use Rattle.cluster_world.specs.Worlds.{WorldState, tells_in, StateStandsFor}
use Rattle.cluster_world.specs.declared.fault.StepFault.{StepFault}
use Rattle.cluster_world.specs.declared.life.Life.{Life}
use Rattle.cluster_world.specs.declared.life.Life.TheVariants.{Up, Down, Lost}
use Rattle.cluster_world.specs.declared.step.Said.{Said}
use Rattle.cluster_world.specs.declared.step.Step.{Step}
use Rattle.cluster_world.specs.declared.step.Step.TheVariants.{Begin, Ask, GiveUp, Post, Drop, Push, Widen, Group, Conclude, Report, Crash, Start, Lose, Tick}
use Rattle.cluster_world.proofs.Joined.{node_up}
use Rattle.cluster_world.proofs.Still.{some_same, both_at}

-- the tickets and the locks of a node that is up; else they do not matter
abbrev pub reads_with : Life → Reads
reads_with (Up node) = (joint_seen node).reads
reads_with Down = fin.empty
reads_with Lost = fin.empty

abbrev pub locks_with : Life → Held
locks_with (Up node) = (joint_seen node).locks
locks_with Down = no_locks
locks_with Lost = no_locks

abbrev pub life_over : Life → whole.Life → joint.Life
life_over life (whole.Life.Up node) = joint.Life.Up (record { whole = node; reads = reads_with life; locks = locks_with life })
life_over life (whole.Life.Down pending) = joint.Life.Down pending
life_over life whole.Life.Lost = joint.Life.Lost

abbrev pub slot_over : Life → whole.Slot → joint.Slot
slot_over life slot = record { life = life_over life slot.life; disk = slot.disk }

-- one for one, and whoever has no life has nothing of both
abbrev pub slots_over : List Life → List whole.Slot → List joint.Slot
slots_over lives [] = []
slots_over [] (slot ∷ slots) = slot_over Lost slot ∷ slots_over [] slots
slots_over (life ∷ lives) (slot ∷ slots) = slot_over life slot ∷ slots_over lives slots

abbrev pub world_over : List Life → whole_world.World → joint_world.World
world_over lives w = record { slots = slots_over lives w.slots; flying = w.flying; sent = w.sent; seconds = w.seconds; book = w.book }

life_back : (life : Life) (it : whole.Life) → whole_life (life_over life it) ≡ it
life_back life (whole.Life.Up node) = refl
life_back life (whole.Life.Down pending) = refl
life_back life whole.Life.Lost = refl

slot_back : (life : Life) (slot : whole.Slot) → whole_slot (slot_over life slot) ≡ slot
slot_back life slot = ap (λ (l : whole.Life). record slot { life = l }) (life_back life slot.life)

slots_back : (lives : List Life) (slots : List whole.Slot) → map whole_slot (slots_over lives slots) ≡ slots
slots_back lives [] = refl
slots_back [] (slot ∷ slots) = ap (λ (s : whole.Slot). s ∷ map whole_slot (slots_over [] slots)) (slot_back Lost slot) ∙ ap (λ (ss : List whole.Slot). slot ∷ ss) (slots_back [] slots)
slots_back (life ∷ lives) (slot ∷ slots) =
    ap (λ (s : whole.Slot). s ∷ map whole_slot (slots_over lives slots)) (slot_back life slot) ∙ ap (λ (ss : List whole.Slot). slot ∷ ss) (slots_back lives slots)

-- the whole machine sees the world that was
pub over_seen : (lives : List Life) (w : whole_world.World) → whole_world_of (world_over lives w) ≡ w
over_seen lives w = ap (λ (slots : List whole.Slot). record w { slots = slots }) (slots_back lives w.slots)

-- what stands at a place
record OverAt (lives : List Life) (slots : List whole.Slot) (k : ℕ) (z : joint.Slot) : Type 0 where
  slot : whole.Slot
  here : slice_get slots k ≡ Some slot
  is : (life : Life) → slice_get lives k ≡ Some life → z ≡ slot_over life slot

over_at : (lives : List Life) (slots : List whole.Slot) (k : ℕ) (z : joint.Slot) → slice_get (slots_over lives slots) k ≡ Some z → OverAt lives slots k z
over_at lives [] k z e = absurd (let never : None ≡ Some z = e in cc)
over_at [] (slot ∷ slots) zero z e = record { slot = slot; here = refl; is = λ life none. absurd (let never : None ≡ Some life = none in cc) }
over_at [] (slot ∷ slots) (suc k) z e =
    let j = over_at [] slots k z e in
    record { slot = j.slot; here = j.here; is = λ life none. absurd (let never : None ≡ Some life = none in cc) }
over_at (life ∷ lives) (slot ∷ slots) zero z e = record {
  slot = slot;
  here = refl;
  is = λ one same. some_same z (slot_over life slot) (sym e) ∙ ap (λ l. slot_over l slot) (some_same life one same);
}
over_at (life ∷ lives) (slot ∷ slots) (suc k) z e =
    let j = over_at lives slots k z e in
    record { slot = j.slot; here = j.here; is = j.is }

joint_up_is : (x y : joint.Node) → joint.Life.Up x ≡ joint.Life.Up y → x ≡ y
joint_up_is x y h = cc

reads_up : (node : WholeNode) (it : whole.Life) (seen : joint.Node) → life_over (Up node) it ≡ joint.Life.Up seen → HasReads node seen
reads_up node (whole.Life.Up x) seen e =
    let same = joint_up_is (record { whole = x; reads = (joint_seen node).reads; locks = (joint_seen node).locks }) seen e in
    record { reads = sym (ap (λ (y : joint.Node). y.reads) same); locks = sym (ap (λ (y : joint.Node). y.locks) same) }
reads_up node (whole.Life.Down pending) seen e = absurd (let never : joint.Life.Down pending ≡ joint.Life.Up seen = e in cc)
reads_up node whole.Life.Lost seen e = absurd (let never : joint.Life.Lost ≡ joint.Life.Up seen = e in cc)

-- nodes that are up have their tickets and locks there
pub over_reads : (lives : List Life) (slots : List whole.Slot) → AreReads lives (slots_over lives slots)
over_reads lives slots = record { each = at }
  where
    at : (n : ℕ) (node : WholeNode) (slot : joint.Slot) (seen : joint.Node) → of_node lives n ≡ Some (Up node) → joint.slot_at (slots_over lives slots) n ≡ Some slot → slot.life ≡ joint.Life.Up seen → HasReads node seen
    at zero node slot seen up here is = absurd (let never : None ≡ Some (Up node) = up in cc)
    at (suc k) node slot seen up here is =
        let j = over_at lives slots k slot here in
        reads_up node j.slot.life seen (sym (ap (λ (s : joint.Slot). s.life) (j.is (Up node) up)) ∙ is)

-- what the whole machine and messages see at a place
get_whole : (slots : List joint.Slot) (k : ℕ) (slot : joint.Slot) → slice_get slots k ≡ Some slot → slice_get (map whole_slot slots) k ≡ Some (whole_slot slot)
get_whole [] k slot e = absurd (let never : None ≡ Some slot = e in cc)
get_whole (s ∷ slots) zero slot e = ap (λ (x : joint.Slot). Some (whole_slot x)) (some_same s slot e)
get_whole (s ∷ slots) (suc k) slot e = get_whole slots k slot e

pub whole_here : (slots : List joint.Slot) (n : ℕ) (slot : joint.Slot) → joint.slot_at slots n ≡ Some slot → whole.slot_at (map whole_slot slots) n ≡ Some (whole_slot slot)
whole_here slots zero slot e = absurd (let never : None ≡ Some slot = e in cc)
whole_here slots (suc k) slot e = get_whole slots k slot e

-- A life whose slot is down is down, and one whose slot is lost is lost.
life_down : {D : Type 0} (on : View D) (own : ℕ) (life : Life) (disk : D) (slot : plain.Slot) → SlotStands on own life disk slot → (pending : List _) → slot.life ≡ plain.Life.Down pending → life ≡ Down
life_down on own (Up node) disk slot (seen, is, stands) pending down = absurd (let never : plain.Life.Up seen ≡ plain.Life.Down pending = sym is ∙ down in cc)
life_down on own Down disk slot stood pending down = refl
life_down on own Lost disk slot (is, fit, holds) pending down = absurd (let never : plain.Life.Lost ≡ plain.Life.Down pending = sym is ∙ down in cc)

life_lost : {D : Type 0} (on : View D) (own : ℕ) (life : Life) (disk : D) (slot : plain.Slot) → SlotStands on own life disk slot → slot.life ≡ plain.Life.Lost → life ≡ Lost
life_lost on own (Up node) disk slot (seen, is, stands) lost = absurd (let never : plain.Life.Up seen ≡ plain.Life.Lost = sym is ∙ lost in cc)
life_lost on own Down disk slot (pending, is, fit, holds) lost = absurd (let never : plain.Life.Down pending ≡ plain.Life.Lost = sym is ∙ lost in cc)
life_lost on own Lost disk slot stood lost = refl

-- the life of a slot, and that it stands for it
record LifeAt {D : Type 0} (on : View D) (state : WorldState D) (n : ℕ) (slot : plain.Slot) : Type 0 where
  life : Life
  here : of_node state.lives n ≡ Some life
  disk : D
  stands : SlotStands on n life disk slot

life_at : {D : Type 0} (on : View D) (state : WorldState D) → length state.disks ≡ length state.lives → (w : machine.World) → StateStandsFor on state w
    → (n : ℕ) (slot : plain.Slot) → plain.slot_at w.slots n ≡ Some slot → LifeAt on state n slot
life_at on state even w st zero slot here = absurd (let never : None ≡ Some slot = here in cc)
life_at on state even w st (suc k) slot here =
    let (life, l) = both_at state.lives w.slots k slot st.slots.count here in
    let (disk, d) = both_at state.disks state.lives k life (sym even) l in
    record { life = life; here = l; disk = disk; stands = st.slots.each k life disk slot l d here }

same_number : (n : ℕ) → nat_eq n n ≡ true
same_number n = grind arith

same_epoch : (e : EpochId) → is_same_epoch e e ≡ true
same_epoch e = ap (λ b. b && nat_eq e.node e.node) (same_number e.count) ∙ same_number e.node

pub locks_by : (a b : EpochId) (held : Held) → a ≡ b → (if is_same_epoch a b then held else no_locks) ≡ held
locks_by a b held e = ap (λ (t : Bool). if t then held else no_locks) (ap (is_same_epoch a) (sym e) ∙ same_epoch a)

module _ {D : Type 0} (on : View D) (old new : WorldState D) (even : length old.disks ≡ length old.lives) (even' : length new.disks ≡ length new.lives)
    (v : joint_world.World) (st : StandsForAll on old v) (kept : ReadsKept old.lives new.lives) where
  -- a slot as messages see it
  seen_at : (u : joint_world.World) (n : ℕ) (slot : joint.Slot) → joint.slot_at u.slots n ≡ Some slot → plain.slot_at (mail_world_of u).slots n ≡ Some (mail_slot (whole_slot slot))
  seen_at u n slot here = mail_here (whole_world_of u).slots n (whole_slot slot) (whole_here u.slots n slot here)

  -- a node that is up, in the machine and in the program
  record UpIn (state : WorldState D) (n : ℕ) (seen : joint.Node) : Type 0 where
    node : WholeNode
    up : of_node state.lives n ≡ Some (Up node)
    maps : seen.whole.maps ≡ node_of node.maps
    reads : HasReads node seen

  up_in : (state : WorldState D) → length state.disks ≡ length state.lives → (u : joint_world.World) → StandsForAll on state u
      → (n : ℕ) (slot : joint.Slot) (seen : joint.Node) → joint.slot_at u.slots n ≡ Some slot → slot.life ≡ joint.Life.Up seen → UpIn state n seen
  up_in state evens u stands n slot seen here up =
      let (node, is) = node_up on state evens (mail_world_of u) stands.mail n (mail_slot (whole_slot slot)) seen.whole.mail (seen_at u n slot here) (ap (λ l. mail_life (whole_life l)) up) in
      record {
        node = node;
        up = is;
        maps = stands.maps.each n node (whole_slot slot) seen.whole is (whole_here u.slots n slot here) (ap whole_life up);
        reads = stands.reads.each n node slot seen is here up;
      }

  -- Tickets and locks are kept in the machine as they were in the program.
  keeps_by : (n : ℕ) (slot : joint.Slot) (life : joint.Life) → slot.life ≡ life → joint.slot_at v.slots n ≡ Some slot → (b : WholeNode) (seen : joint.Node) → of_node new.lives n ≡ Some (Up b)
      → seen.whole.maps ≡ node_of b.maps → HasReads b seen → KeepsReads life seen
  keeps_by n slot (joint.Life.Up was) is here b seen up maps_is reads =
      let a = up_in old even v st n slot was here is in
      let k : KeepsReads (joint.Life.Up (joint_seen a.node)) (joint_seen b) = kept.each n (Up a.node) b a.up up in (
        reads.reads ∙ k.0 ∙ sym a.reads.reads,
        reads.locks ∙ k.1 ∙ ap (λ (m : maps.Node). if is_same_epoch (epoch_of m) (epoch_of (node_of b.maps)) then (joint_seen a.node).locks else no_locks) (sym a.maps)
            ∙ ap (λ (m : maps.Node). if is_same_epoch (epoch_of was.whole.maps) (epoch_of m) then (joint_seen a.node).locks else no_locks) (sym maps_is)
            ∙ ap (λ (h : Held). if is_same_epoch (epoch_of was.whole.maps) (epoch_of seen.whole.maps) then h else no_locks) (sym a.reads.locks),
      )
  keeps_by n slot (joint.Life.Down pending) is here b seen up maps_is reads =
      let l = life_at on old even (mail_world_of v) st.mail n (mail_slot (whole_slot slot)) (seen_at v n slot here) in
      let down : l.life ≡ Down = life_down on n l.life l.disk (mail_slot (whole_slot slot)) l.stands pending (ap (λ x. mail_life (whole_life x)) is) in
      let k : KeepsReads (joint.Life.Down []) (joint_seen b) = kept.each n Down b (l.here ∙ ap Some down) up in
      (reads.reads ∙ k.0, reads.locks ∙ k.1)
  keeps_by n slot joint.Life.Lost is here b seen up maps_is reads =
      let l = life_at on old even (mail_world_of v) st.mail n (mail_slot (whole_slot slot)) (seen_at v n slot here) in
      let lost : l.life ≡ Lost = life_lost on n l.life l.disk (mail_slot (whole_slot slot)) l.stands (ap (λ x. mail_life (whole_life x)) is) in
      let k : KeepsReads joint.Life.Lost (joint_seen b) = kept.each n Lost b (l.here ∙ ap Some lost) up in
      (reads.reads ∙ k.0, reads.locks ∙ k.1)

  -- So they stay from a world to the next.
  pub reads_stay : (next : joint_world.World) → StandsForAll on new next → ReadsStay v next
  reads_stay next stands = record {
    each = λ n before after here there node up.
        let b = up_in new even' next stands n after node there up in
        keeps_by n before before.life refl here b.node node b.up b.maps b.reads;
  }

  -- where nothing was done, the world has them as it was
  pub reads_still : AreMaps new.lives (whole_world_of v).slots → AreReads new.lives v.slots
  reads_still maps = record {
    each = λ n b slot seen up here is.
        let a = up_in old even v st n slot seen here is in
        let k : KeepsReads (joint.Life.Up (joint_seen a.node)) (joint_seen b) = kept.each n (Up a.node) b a.up up in
        let same : node_of a.node.maps ≡ node_of b.maps = sym a.maps ∙ maps.each n b (whole_slot slot) seen.whole up (whole_here v.slots n slot here) (ap whole_life is) in
        record {
          reads = a.reads.reads ∙ sym k.0;
          locks = a.reads.locks ∙ sym (k.1 ∙ locks_by (epoch_of (node_of a.node.maps)) (epoch_of (node_of b.maps)) (joint_seen a.node).locks (ap epoch_of same));
        };
  }

-- What is asked of the words in which a step is refused: they are those of the whole machine.
pub record IsRefusedAlike (plan : Plan) (step : whole_steps.Step) (v : joint_world.World) : Type 0 where
  pub goes : whole_steps.step_fault plan step (whole_world_of v) ≡ None → joint_steps.step_fault plan step v ≡ None
  pub faults : (fault : whole_steps.StepFault) → whole_steps.step_fault plan step (whole_world_of v) ≡ Some fault → joint_steps.step_fault plan step v ≡ Some fault
  pub unseen : (fault : whole_steps.StepFault) → whole_makes.IsUnseen plan (whole_world_of v) step fault → joint_steps.step_fault plan step v ≡ Some fault

-- what was done, as far as memory lasts
abbrev pub IsDoneWhole : whole_steps.StepOutcome → Type 0
IsDoneWhole (whole_steps.StepOutcome.Says said) = Unit {0}
IsDoneWhole (whole_steps.StepOutcome.Refused fault) = ⊥
IsDoneWhole (whole_steps.StepOutcome.NoMemory None) = ⊥
IsDoneWhole (whole_steps.StepOutcome.NoMemory (Some n)) = Unit {0}

module _ (plan : Plan) (tells : Bool) (v : joint_world.World) (step : whole_steps.Step) (alike : IsRefusedAlike plan step v) where
  -- a step of the whole machine in which tickets and locks stay
  done_over : (out : whole_steps.StepOutcome) → IsDoneWhole out → IsForWhole v step → (now : whole_world.World) (next : joint_world.World) → whole_world_of next ≡ now
      → whole_makes.MakesStep plan tells (whole_world_of v) step out now → ReadsStay v next → joint_makes.MakesStep plan tells v step out next
  done_over (whole_steps.StepOutcome.Says said) done for now next seen (goes, does) stay = (
    alike.goes goes,
    joint_makes.DoesStep.ForWhole for (subst (λ x. whole_makes.MakesStep plan tells (whole_world_of v) step (whole_steps.StepOutcome.Says said) x) (sym seen) (goes, does)) stay,
  )
  done_over (whole_steps.StepOutcome.Refused fault) done for now next seen made stay = absurd done
  done_over (whole_steps.StepOutcome.NoMemory None) done for now next seen made stay = absurd done
  done_over (whole_steps.StepOutcome.NoMemory (Some n)) done for now next seen runs stay = record {
    for_whole = for;
    runs = subst (λ x. whole_makes.MakesStep plan tells (whole_world_of v) step (whole_steps.StepOutcome.NoMemory (Some n)) x) (sym seen) runs;
    stay = stay;
  }

  refused_over : (fault : whole_steps.StepFault)
      → (whole_steps.step_fault plan step (whole_world_of v) ≡ Some fault)
      ⊎ ((whole_steps.step_fault plan step (whole_world_of v) ≡ None) × (fault ≡ whole_steps.StepFault.Fault mail_steps.StepFault.Worn) × whole_makes.StartIsWorn (whole_world_of v) step)
      ⊎ ((whole_steps.step_fault plan step (whole_world_of v) ≡ None) × (fault ≡ whole_steps.StepFault.Fault mail_steps.StepFault.NoRoom) × whole_makes.ReportHasNoRoom (whole_world_of v) step)
      ⊎ whole_makes.IsUnseen plan (whole_world_of v) step fault
      → (joint_steps.step_fault plan step v ≡ Some fault) ⊎ ((joint_steps.step_fault plan step v ≡ None) × RefusedLate v step fault)
  refused_over fault (inl why) = inl (alike.faults fault why)
  refused_over fault (inr (inl (goes, is, late))) = inr (alike.goes goes, inl (is, late))
  refused_over fault (inr (inr (inl (goes, is, late)))) = inr (alike.goes goes, inr (is, late))
  refused_over fault (inr (inr (inr unseen))) = inl (alike.unseen fault unseen)

  -- one in which nothing was done
  pub none_over : (out : whole_steps.StepOutcome) → (IsDoneWhole out → ⊥) → (now : whole_world.World) → whole_makes.MakesStep plan tells (whole_world_of v) step out now
      → (now ≡ whole_world_of v) × joint_makes.MakesStep plan tells v step out v
  none_over (whole_steps.StepOutcome.Says said) none now made = absurd (none tt)
  none_over (whole_steps.StepOutcome.Refused fault) none now (why, same) = (same, (refused_over fault why, refl))
  none_over (whole_steps.StepOutcome.NoMemory None) none now same = (same, refl)
  none_over (whole_steps.StepOutcome.NoMemory (Some n)) none now made = absurd (none tt)

done_or : (out : whole_steps.StepOutcome) → IsDoneWhole out ⊎ (IsDoneWhole out → ⊥)
done_or (whole_steps.StepOutcome.Says said) = inl tt
done_or (whole_steps.StepOutcome.Refused fault) = inr (λ never. never)
done_or (whole_steps.StepOutcome.NoMemory None) = inr (λ never. never)
done_or (whole_steps.StepOutcome.NoMemory (Some n)) = inl tt

-- So the step leads on.
module _ {D : Type 0} (on : View D) (result : Result Said StepFault) (step : Step) (old new : WorldState D) (even : length old.disks ≡ length old.lives) (even' : length new.disks ≡ length new.lives)
    (kept : ReadsKept old.lives new.lives) (story : List (List login.Slot)) (v : joint_world.World) (st : StandsForAll on old v) (sound : Stands old.plan (tells_in on.seen old) story v)
    (l : LeadsMail on result step old new (mail_world_of v)) (alike : IsRefusedAlike old.plan (whole_step step) v) (for : IsDoneWhole (whole_outcome result) → IsForWhole v (whole_step step)) where
  pub lifted : LeadsTo on result step old new v
  lifted = by (done_or (whole_outcome result))
    where
      w : LeadsWhole old.plan (tells_in on.seen old) result step new.lives (whole_world_of v) l.next
      w = l.whole (whole_world_of v) refl sound.whole st.maps

      stands_so : (next : joint_world.World) → whole_world_of next ≡ w.now → AreReads new.lives next.slots → StandsForAll on new next
      stands_so next is reads = record {
        mail = subst (StateStandsFor on new) (sym w.seen ∙ ap whole_world.mail_world_of (sym is)) l.stands;
        maps = subst (λ (x : whole_world.World). AreMaps new.lives x.slots) (sym is) w.maps;
        reads = reads;
      }

      leads : (next : joint_world.World) → whole_world_of next ≡ w.now → AreReads new.lives next.slots
          → joint_makes.MakesStep old.plan (tells_in on.seen old) v (whole_step step) (whole_outcome result) next → LeadsTo on result step old new v
      leads next is reads made = record {
        next = next;
        stands = stands_so next is reads;
        made = made;
        stops = subst (λ (x : machine.World). EveryStopKeeps on old new (mail_world_of v).slots x.slots) (sym w.seen ∙ ap whole_world.mail_world_of (sym is)) l.stops;
      }

      by : IsDoneWhole (whole_outcome result) ⊎ (IsDoneWhole (whole_outcome result) → ⊥) → LeadsTo on result step old new v
      by (inl done) =
          let next = world_over new.lives w.now in
          let reads = over_reads new.lives w.now.slots in
          let is = over_seen new.lives w.now in
          leads next is reads
          (done_over old.plan (tells_in on.seen old) v (whole_step step) alike (whole_outcome result) done (for done) w.now next is w.made
          (reads_stay on old new even even' v st kept next (stands_so next is reads)))
      by (inr none) =
          let (same, made) = none_over old.plan (tells_in on.seen old) v (whole_step step) alike (whole_outcome result) none w.now w.made in
          leads v (sym same) (reads_still on old new even even' v st kept (subst (λ (x : whole_world.World). AreMaps new.lives x.slots) same w.maps)) made

-- A node that is as it was has its tickets and locks.
pub reads_self : (node : WholeNode) → KeepsReads (joint.Life.Up (joint_seen node)) (joint_seen node)
reads_self node = (refl, sym (locks_by (epoch_of (node_of node.maps)) (epoch_of (node_of node.maps)) (joint_seen node).locks refl))

pub reads_same : (lives : List Life) → ReadsKept lives lives
reads_same lives = record {
  each = λ n life node was is. subst (λ l. KeepsReads (joint_life l) (joint_seen node)) (some_same (Up node) life (sym is ∙ was)) (reads_self node);
}

-- a step that asks for no ticket and gives none up
abbrev pub IsNoAsk : Step → Type 0
IsNoAsk (Ask ticket) = ⊥
IsNoAsk (GiveUp ticket) = ⊥
IsNoAsk step = Unit {0}

alike_by : (plan : Plan) (step : whole_steps.Step) (v : joint_world.World) → joint_steps.step_fault plan step v ≡ whole_steps.step_fault plan step (whole_world_of v)
    → ((fault : whole_steps.StepFault) → whole_makes.IsUnseen plan (whole_world_of v) step fault → ⊥) → IsRefusedAlike plan step v
alike_by plan step v same none = record { goes = λ e. same ∙ e; faults = λ fault e. same ∙ e; unseen = λ fault unseen. absurd (none fault unseen) }

-- It is refused as by the whole machine.
pub no_ask_alike : (plan : Plan) (step : Step) (v : joint_world.World) → IsNoAsk step → IsRefusedAlike plan (whole_step step) v
no_ask_alike plan (Ask ticket) v none = absurd none
no_ask_alike plan (GiveUp ticket) v none = absurd none
no_ask_alike plan (Begin node call) v none = alike_by plan (whole_step (Begin node call)) v refl (λ fault never. never)
no_ask_alike plan (Post letter keep) v none = alike_by plan (whole_step (Post letter keep)) v refl (λ fault never. never)
no_ask_alike plan (Drop letter) v none = alike_by plan (whole_step (Drop letter)) v refl (λ fault never. never)
no_ask_alike plan (Push from to) v none = alike_by plan (whole_step (Push from to)) v refl (λ fault never. never)
no_ask_alike plan (Widen at user id to) v none = alike_by plan (whole_step (Widen at user id to)) v refl (λ fault never. never)
no_ask_alike plan (Group node) v none = alike_by plan (whole_step (Group node)) v refl (λ fault never. never)
no_ask_alike plan (Conclude node) v none = alike_by plan (whole_step (Conclude node)) v refl (λ fault never. never)
no_ask_alike plan (Report from to) v none = alike_by plan (whole_step (Report from to)) v refl (λ fault never. never)
no_ask_alike plan (Crash node) v none = alike_by plan (whole_step (Crash node)) v refl (λ fault never. never)
no_ask_alike plan (Start node) v none = alike_by plan (whole_step (Start node)) v refl (λ fault never. never)
no_ask_alike plan (Lose node) v none = alike_by plan (whole_step (Lose node)) v refl (λ fault never. never)
no_ask_alike plan (Tick seconds) v none = alike_by plan (whole_step (Tick seconds)) v refl (λ fault never. never)

-- What is known of such a step leads on in the world with all that nodes keep.
pub lift : {D : Type 0} (on : View D) (result : Result Said StepFault) (step : Step) (old new : WorldState D) → length old.disks ≡ length old.lives → length new.disks ≡ length new.lives
    → IsNoAsk step → ((v : joint_world.World) → StandsForAll on old v → IsDoneWhole (whole_outcome result) → IsForWhole v (whole_step step)) → ReadsKept old.lives new.lives
    → ((w : machine.World) → StateStandsFor on old w → LeadsMail on result step old new w)
    → (story : List (List login.Slot)) (v : joint_world.World) → StandsForAll on old v → Stands old.plan (tells_in on.seen old) story v → LeadsTo on result step old new v
lift on result step old new even even' none for kept leads story v st sound =
    lifted on result step old new even even' kept story v st sound (leads (mail_world_of v) st.mail) (no_ask_alike old.plan step v none) (for v st)
