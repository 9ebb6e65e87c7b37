-- What a step of a call that reads does, where nodes go on and disks are read at most.
use Rattle.std.proofs.Common.{◌≡◌, ◌≢◌, inr, ℕ, zero, suc, ◌≤◌, Bool, true, false, List, [], ◌++◌, length, append-nil, map, Option, Some, None, Result, IfOk, refl, sym, ap, ◌∙◌, subst, arith}
use Rattle.std.specs.Prelude.{is_some}
use Rattle.object_model.specs.Letters.{Letter}
use Rattle.object_model.specs.Mishaps.{MishapKind}
use Rattle.cluster_model.specs.Cluster as plain
use Rattle.cluster_model.specs.Cluster.{slot_at, pending_of}
use Rattle.cluster_model.specs.Claims.{all_records}
use Rattle.cluster_model.specs.Plain.{without_letter}
use Rattle.cluster_model.specs.World as machine
use Rattle.joint_model.specs.Joint.{whole_slot}
use Rattle.joint_world.specs.World.{World, mail_world_of}
use Rattle.joint_world.specs.Laws as joint_laws
use Rattle.joint_world.specs.Makes.{Loses}
use Rattle.joint_world.specs.Putting.{missed, Puts}
use Rattle.joint_world.proofs.Single.{puts_keep}
use Rattle.login_model.specs.Cluster as login
use Rattle.node_store.specs.Disks.{View}
use Rattle.node_core.specs.Works.{IsOnlyRead}
use Rattle.node_reads.specs.Readings.{listed}
use Rattle.world_book.specs.declared.book.Book.{Book}
use Rattle.cluster_world.specs.Books.{booked_by, IsLongerBook}
use Rattle.cluster_world.specs.Ended.{IsEnded}
use Rattle.cluster_world.specs.Flights.{InFlight, taken_out}
use Rattle.cluster_world.specs.Lives.{of_node}
use Rattle.cluster_world.specs.Maps.{StandsForAll}
use Rattle.cluster_world.specs.Moments.{IsStopOf, StopsKeep}
use Rattle.cluster_world.specs.Posts.{out_of}
use Rattle.cluster_world.specs.Reading.{StandsFlying, StaysBeside, HasBefallen, PutsQueue}
use Rattle.cluster_world.specs.Stands.{SlotsStand}
use Rattle.cluster_world.specs.Steps.{AreToldAlike, IsQuiet, AreSettled, EveryStopKeeps, StepIsKnown, StepDid, LeadsTo, SaysSo, FallsSo, HasPassed, IsRefusedRight, ChangesNothing, FaultHasCause}
use Rattle.cluster_world.specs.Turns.{node_refusal, life_after_step, seconds_after_step}
use Rattle.cluster_world.specs.Worlds.{state_with, seen_life, life_among, tells_in}
use Rattle.cluster_world.specs.declared.nodes.Nodes.{Nodes}
use Rattle.cluster_world.specs.declared.step.Said.{Said}
use Rattle.cluster_world.specs.declared.step.Step.{Step}
use Rattle.cluster_world.specs.declared.fault.StepFault.{StepFault}
use Rattle.cluster_world.proofs.Kept.{kept_at}
use Rattle.cluster_world.proofs.Posted.{FliesSo}
use Rattle.cluster_world.proofs.Still.{some_same, if_some, images_stop, both_at, nothing_read}
use Rattle.cluster_world.proofs.Worked.{passed}

-- A world that a state stands for is one for its nodes and its letters,
pub flying_for : {D : Type 0} (on : View D) (nodes : Nodes D) (flying : InFlight) (seconds : ℕ) (book : Book) (v : World) → StandsForAll on (state_with nodes flying seconds book) v → StandsFlying on nodes flying v
flying_for on nodes flying seconds book v st = record { all = record { mail = st.mail.slots; maps = st.maps; reads = st.reads }; flies = st.mail.flying; sent = st.mail.sent }

-- and the other way round
pub stands_all : {D : Type 0} (on : View D) (nodes : Nodes D) (flying : InFlight) (seconds : ℕ) (book : Book) (v : World) → StandsFlying on nodes flying v → seconds ≡ v.seconds → booked_by book ≡ v.book
    → StandsForAll on (state_with nodes flying seconds book) v
stands_all on nodes flying seconds book v st s b = record {
  mail = record { slots = st.all.mail; flying = st.flies; sent = st.sent; seconds = s; book = b };
  maps = st.all.maps;
  reads = st.all.reads;
}

-- nodes go on, and disks were read at most
pub record GoesOnReading {D : Type 0} (on : View D) (old new : Nodes D) : Type 0 where
  pub plan : new.plan ≡ old.plan
  pub count : length new.disks.items ≡ length old.disks.items
  pub lives : (n : ℕ) → seen_life (of_node new.lives.items n) ≡ seen_life (of_node old.lives.items n)
  pub read : (n : ℕ) (disk disk' : D) → of_node old.disks.items n ≡ Some disk → of_node new.disks.items n ≡ Some disk' → IsOnlyRead on disk disk'
  pub quiet : (n : ℕ) (disk disk' : D) → of_node old.disks.items n ≡ Some disk → of_node new.disks.items n ≡ Some disk' → on.faults disk' ≡ on.faults disk

module _ {D : Type 0} (on : View D) where
  pub beside_goes : (old new : Nodes D) → StaysBeside on.seen old new → GoesOnReading on old new
  beside_goes old new b = record {
    plan = b.plan;
    count = ap length b.disks;
    lives = b.lives;
    read = λ n disk disk' e f. nothing_read on disk disk' (same n disk disk' e f);
    quiet = λ n disk disk' e f. ap on.faults (same n disk disk' e f);
  }
    where
      same : (n : ℕ) (disk disk' : D) → of_node old.disks.items n ≡ Some disk → of_node new.disks.items n ≡ Some disk' → disk' ≡ disk
      same n disk disk' e f = some_same disk' disk (sym f ∙ ap (λ ds. of_node ds n) b.disks ∙ e)

  -- then disks stay
  pub goes_beside : (old mid new : Nodes D) → GoesOnReading on old mid → StaysBeside on.seen mid new → GoesOnReading on old new
  goes_beside old mid new g b = record {
    plan = b.plan ∙ g.plan;
    count = ap length b.disks ∙ g.count;
    lives = λ n. b.lives n ∙ g.lives n;
    read = λ n disk disk' e f. g.read n disk disk' e (there n disk' f);
    quiet = λ n disk disk' e f. g.quiet n disk disk' e (there n disk' f);
  }
    where
      there : (n : ℕ) (disk' : D) → of_node new.disks.items n ≡ Some disk' → of_node mid.disks.items n ≡ Some disk'
      there n disk' f = ap (λ ds. of_node ds n) (sym b.disks) ∙ f

  module _ (old new : Nodes D) (goes : GoesOnReading on old new) (flying flying' : InFlight) (seconds : ℕ) (book book' : Book) where
    -- what a stop leaves of each disk, where slots have the records that they had
    pub read_stops : (before after : List plain.Slot) → SlotsStand on old.lives.items old.disks.items before → ((n : ℕ) → kept_at (slot_at after n) ≡ kept_at (slot_at before n))
        → EveryStopKeeps on (state_with old flying seconds book) (state_with new flying' seconds book') before after
    read_stops before after st kept = record { each = λ n disk disk' slot slot' e f a b here. one n disk disk' slot slot' e f a b here }
      where
        one : (n : ℕ) (disk disk' : D) (slot slot' : plain.Slot) → of_node old.disks.items n ≡ Some disk → of_node new.disks.items n ≡ Some disk' → slot_at before n ≡ Some slot → slot_at after n ≡ Some slot'
            → slot.life ≢ plain.Life.Lost → StopsKeep on n disk disk' slot slot'
        one zero disk disk' slot slot' e f a b here = absurd (let never : None ≡ Some disk = e in cc)
        one (suc k) disk disk' slot slot' e f a b here =
            let (life, l) = both_at old.lives.items before k slot st.count a in
            let stood = st.each k life disk slot l e a in
            let records : all_records slot' ≡ all_records slot = some_same (all_records slot') (all_records slot) (sym (ap kept_at b) ∙ kept (suc k) ∙ ap kept_at a) in
            record {
              kept = pending_of slot.life;
              pending_is = inr refl;
              added = [];
              grew = records ∙ sym (append-nil (slot.disk ++ pending_of slot.life));
              stops = if_some (on.seen disk) _ _ (λ _ images. passed on.clock disk disk' (on.clock.is_image disk) (IsStopOf (suc k) slot []) images (goes.read (suc k) disk disk' e f).images) (images_stop on (suc k) life disk slot [] here stood);
            }

    pub read_told : AreToldAlike on.seen (state_with old flying seconds book) (state_with new flying' seconds book')
    read_told = record { each = λ n disk disk' e f. ap (λ o. is_some o) (goes.read n disk disk' e f).seen }

    pub read_quiet : IsQuiet on.faults (state_with old flying seconds book) (state_with new flying' seconds book')
    read_quiet = record {
      later = λ n disk disk' e f. subst (λ k. on.faults disk ≤ k) (sym (goes.quiet n disk disk' e f)) (omega arith);
      same = λ n boot disk disk' b e f. goes.quiet n disk disk' e f;
    }

    -- All of what the step does, of what is said of it.
    pub read_did : (result : Result Said StepFault) (step : Step) → seconds ≡ seconds_after_step step result seconds → IsRefusedRight result (node_refusal old.plan (life_among old) step) → IfOk result (SaysSo step)
        → FallsSo result old.plan.nodes step (life_among old) → ((n : ℕ) → life_among old n ≡ life_after_step result step n (life_among old n))
        → HasPassed result step (state_with old flying seconds book) (state_with new flying' seconds book') → IsLongerBook (booked_by book) (booked_by book')
        → ChangesNothing on result step (state_with old flying seconds book) (state_with new flying' seconds book')
        → (StepIsKnown on.seen (state_with old flying seconds book) step → IsEnded step → (story : List (List login.Slot)) (v : World) → StandsForAll on (state_with old flying seconds book) v
        → joint_laws.Stands old.plan (tells_in on.seen (state_with old flying seconds book)) story v → LeadsTo on result step (state_with old flying seconds book) (state_with new flying' seconds book') v)
        → FaultHasCause on result step (state_with old flying seconds book) (state_with new flying' seconds book')
        → StepDid on result step (state_with old flying seconds book) (state_with new flying' seconds book')
    read_did result step clock refused kind falls lives passes books kept leads cause = record {
      plan = goes.plan;
      handed = goes.count;
      refused = refused;
      kind = kind;
      falls = falls;
      lives = λ n. goes.lives n ∙ lives n;
      clock = clock;
      told = read_told;
      quiet = read_quiet;
      passed = passes;
      books = books;
      kept = kept;
      leads = leads;
      cause = λ w s. cause;
    }

  -- each disk that was settled is
  pub beside_settled : (old new : Nodes D) → StaysBeside on.seen old new → (flying flying' : InFlight) (seconds : ℕ) (book book' : Book) (is_settled : D → Type 0)
      → AreSettled is_settled (state_with old flying seconds book) → AreSettled is_settled (state_with new flying' seconds book')
  beside_settled old new b flying flying' seconds book book' is_settled s = record { each = λ n boot disk a e. s.each n boot disk (sym (b.lives n) ∙ a) (ap (λ ds. of_node ds n) (sym b.disks) ∙ e) }

  -- A letter is lost: its mishap is noted, and what is sent for that is put in flight.
  pub loses_so : (kind : MishapKind) (number : ℕ) (keep : Bool) (letter : Letter) (out : Option Letter) (nodes mid new : Nodes D) (flying between flying' : InFlight) → HasBefallen on kind letter out nodes mid
      → between ≡ taken_out (out_of number keep) flying → PutsQueue on (listed out) mid between new flying' → (tells : Bool) (v : World) → StandsFlying on nodes flying v → (f : FliesSo (mail_world_of v) number letter)
      → (next : World) × StandsFlying on new flying' next × Loses tells kind v number f.flies keep next
  loses_so kind number keep letter out nodes mid new flying between flying' befell is puts tells v st f =
      let (all, out_is) = befell.each tells v.slots st.all in
      let w : World = record v { slots = (missed tells kind v.slots letter).slots; flying = machine.flies_on (mail_world_of v) number f.flies keep } in
      let (next, now, goes) = puts.each tells w (record { all = all; flies = ap (λ (x : InFlight). x.flights) is ∙ left keep; sent = ap (λ (x : InFlight). x.sent) is ∙ st.sent }) in (
        next,
        now,
        subst (λ (l : Letter). Puts tells (missed tells kind v.slots l).out (record v { slots = (missed tells kind v.slots l).slots; flying = machine.flies_on (mail_world_of v) number f.flies keep }) next) (sym f.letter_is)
            (subst (λ (q : List Letter). Puts tells q w next) out_is goes),
      )
    where
      left : (k : Bool) → (taken_out (out_of number k) flying).flights ≡ machine.flies_on (mail_world_of v) number f.flies k
      left true = st.flies
      left false = ap (without_letter number) st.flies ∙ f.left

  -- what the whole machine sees of nodes then
  pub puts_same : (tells : Bool) (queue : List Letter) (v next : World) → Puts tells queue v next → (map whole_slot next.slots ≡ map whole_slot v.slots) × (next.seconds ≡ v.seconds) × (next.book ≡ v.book)
  puts_same tells queue v next (fuel, e) = puts_keep tells fuel queue v next e
