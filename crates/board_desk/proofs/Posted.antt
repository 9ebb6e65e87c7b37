-- What posting a letter of a board adds to the book: nothing that is acknowledged or struck.
use Rattle.std.proofs.Common.{inl, inr, ℕ, Bool, false, true, [], ◌++◌, append-nil, append_assoc, Option, Some, None, refl, sym, ap, ◌∙◌, subst}
use Rattle.std.specs.Prelude.{Result, Ok, Err}
use Rattle.mail_model.specs.Plan.{Plan}
use Rattle.mail_model.specs.Book.{acked_in, struck_in}
use Rattle.cluster_model.specs.Parts.{Sound}
use Rattle.cluster_model.specs.World as machine
use Rattle.cluster_model.specs.World.{cluster_of}
use Rattle.cluster_model.specs.Steps as plain
use Rattle.cluster_model.specs.Makes.{MakesStep}
use Rattle.cluster_owes.specs.Outcomes.{IsIdleStep}
use Rattle.cluster_owes.proofs.Books.{acked_both, struck_both}
use Rattle.call_tickets.specs.declared.desk.Posted.{Posted}
use Rattle.call_tickets.specs.declared.desk.DeskFault.{DeskFault}
use Rattle.joint_world.specs.World.{mail_world_of}
use Rattle.node_store.specs.Disks.{View}
use Rattle.cluster_world.specs.Ended.{IsEnded}
use Rattle.cluster_world.specs.Flights.{first_number}
use Rattle.cluster_world.specs.Seen.{step_seen, outcome_seen}
use Rattle.cluster_world.specs.Steps.{StepIsKnown}
use Rattle.cluster_world.specs.Worlds.{state_of, plan_of, book_of, disks_tell}
use Rattle.cluster_world.specs.declared.world.World.{World}
use Rattle.cluster_world.specs.declared.step.Step.{Step}
use Rattle.cluster_world.specs.declared.step.Step.TheVariants as step
use Rattle.cluster_world.specs.declared.step.Said.{Said}
use Rattle.cluster_world.specs.declared.fault.StepFault.{StepFault}
use Rattle.cluster_world.specs.declared.fault.StepFault.TheVariants as fault
use Rattle.desk_model.specs.Added.{Adds, AreQuiet}
use Rattle.desk_model.specs.Tallies.{IsNeverDown}
use Rattle.desk_model.proofs.Begun.{idle_steps_are_quiet}
use Rattle.solo_desk.specs.Serving.{CanServe, AddsTo}
use Rattle.solo_desk.proofs.Stepping.{led, booked, idle_adds}
use Rattle.shard_board.specs.Deeds.{MakesOne}
use Rattle.shard_board.specs.Posts.{step_by, posted_of, FirstMet, PostsOne}
use Rattle.shard_board.specs.Worlds.{IsSoundWorld}
use Rattle.io_edge.specs.declared.fate.Luck.{Luck}
use Rattle.io_edge.specs.declared.fate.Luck.TheVariants as luck
use Rattle.shard_board.specs.declared.part.Part.{Part}
use Rattle.board_desk.proofs.Sound.{can_serve, same_world_adds}

-- the clock is set
tick_is_quiet : (plan : Plan) (tells : Bool) (old new : machine.World) (seconds : ℕ) (outcome : plain.StepOutcome) → MakesStep plan tells old (plain.Step.Tick seconds) outcome new → Sound plan.confirm (cluster_of old)
    → Adds AreQuiet old.book new.book
tick_is_quiet plan tells old new seconds (plain.StepOutcome.Says said) made sound =
    record { added = []; book = ap (λ (w : machine.World). w.book) made.1.1 ∙ sym (append-nil old.book); is = record { acked = refl; struck = refl } }
tick_is_quiet plan tells old new seconds (plain.StepOutcome.Refused why) made sound = idle_steps_are_quiet plan tells old new (plain.Step.Tick seconds) (plain.StepOutcome.Refused why) made sound tt
tick_is_quiet plan tells old new seconds (plain.StepOutcome.NoMemory None) made sound = idle_steps_are_quiet plan tells old new (plain.Step.Tick seconds) (plain.StepOutcome.NoMemory None) made sound tt
tick_is_quiet plan tells old new seconds (plain.StepOutcome.NoMemory (Some n)) made sound =
    idle_steps_are_quiet plan tells old new (plain.Step.Tick seconds) (plain.StepOutcome.NoMemory (Some n)) made sound tt

module _ {D : Type 0} (on : View D) where
  ticks_add : (result : Result Said StepFault) (seconds : ℕ) (old new : World D) → CanServe on old → MakesOne on result (step.Tick seconds) old new → AddsTo AreQuiet old new
  ticks_add result seconds old new serves (inl is) =
      let l = led on result (step.Tick seconds) old new is (inr tt) tt serves in
      booked on AreQuiet old new serves.whole l.whole
      (tick_is_quiet (plan_of old) (disks_tell on.seen old) (mail_world_of serves.whole.v) (mail_world_of l.whole.v) seconds (outcome_seen result) l.seen serves.whole.sound.whole.sound.mail)
  ticks_add result seconds old new serves (inr (short, same)) = same_world_adds old new same

  idle_one_adds : (result : Result Said StepFault) (one : Step) (old new : World D) → StepIsKnown on.seen (state_of old) one → IsEnded one → IsIdleStep (step_seen one) (outcome_seen result) → CanServe on old
      → MakesOne on result one old new → AddsTo AreQuiet old new
  idle_one_adds result one old new known ended idle serves (inl is) = idle_adds on result one old new is known ended serves idle
  idle_one_adds result one old new known ended idle serves (inr (short, same)) = same_world_adds old new same

  -- whatever becomes of a letter
  letters_add : (lucky : Luck) (letter : ℕ) (result : Result Said StepFault) (old new : World D) → CanServe on old → MakesOne on result (step_by lucky letter) old new → AddsTo AreQuiet old new
  letters_add luck.Carry letter result old new serves made = idle_one_adds result (step.Post letter false) old new (inr tt) tt tt serves made
  letters_add luck.Drop letter result old new serves made = idle_one_adds result (step.Drop letter) old new (inr tt) tt tt serves made
  letters_add luck.Twice letter result old new serves made = idle_one_adds result (step.Post letter true) old new (inr tt) tt tt serves made

  pub quiet_both : (a b c : World D) → AddsTo AreQuiet a b → AddsTo AreQuiet b c → AddsTo AreQuiet a c
  quiet_both a b c p q = record {
    added = p.added ++ q.added;
    book = q.book ∙ ap (λ l. l ++ q.added) p.book ∙ append_assoc (book_of a) p.added q.added;
    is = record {
      acked = acked_both p.added q.added ∙ ap (λ l. l ++ acked_in q.added) p.is.acked ∙ q.is.acked;
      struck = struck_both p.added q.added ∙ ap (λ l. l ++ struck_in q.added) p.is.struck ∙ q.is.struck;
    };
  }

-- no letter is refused for a node that is down
never_posted : (said : Result Said StepFault) → IsNeverDown (posted_of said)
never_posted (Ok said) = tt
never_posted (Err fault.NoSuchNode) = tt
never_posted (Err fault.NodeLost) = tt
never_posted (Err fault.NodeDown) = tt
never_posted (Err fault.NodeUp) = tt
never_posted (Err fault.NoSuchLetter) = tt
never_posted (Err fault.NoSuchTicket) = tt
never_posted (Err fault.NotAGroup) = tt
never_posted (Err fault.Worn) = tt
never_posted (Err fault.NoRoom) = tt
never_posted (Err (fault.NoMemory down)) = tt

module _ {D F C : Type 0} (on : View D) (decides : F → ℕ → Luck → F → Type 0) where
  first_adds : (first : Option ℕ) (old : Part D F C) (result : Result Posted DeskFault) (new : Part D F C) → IsSoundWorld on old.world → FirstMet on decides first old result new → AddsTo AreQuiet old.world new.world
  first_adds None old result new sound (quiet, same, fate) = same_world_adds old.world new.world same
  first_adds (Some letter) old result new sound met = letters_add on met.lucky letter met.said old.world new.world (can_serve on old.world sound) met.made

  first_never : (first : Option ℕ) (old : Part D F C) (result : Result Posted DeskFault) (new : Part D F C) → FirstMet on decides first old result new → IsNeverDown result
  first_never None old result new (quiet, same, fate) = subst (λ (r : Result Posted DeskFault). IsNeverDown r) (sym quiet) tt
  first_never (Some letter) old result new met = subst (λ (r : Result Posted DeskFault). IsNeverDown r) (sym met.answer) (never_posted met.said)

  pub posts_add : (old : Part D F C) (result : Result Posted DeskFault) (new : Part D F C) → IsSoundWorld on old.world → PostsOne on decides old result new → AddsTo AreQuiet old.world new.world
  posts_add old result new sound posts = quiet_both on old.world posts.mid.world new.world (ticks_add on posts.ticked posts.seconds old.world posts.mid.world (can_serve on old.world sound) posts.tick)
      (first_adds (first_number (state_of posts.mid.world).flying.flights) posts.mid result new (posts.sound sound) posts.first)

  pub posts_never : (old : Part D F C) (result : Result Posted DeskFault) (new : Part D F C) → PostsOne on decides old result new → IsNeverDown result
  posts_never old result new posts = first_never (first_number (state_of posts.mid.world).flying.flights) posts.mid result new posts.first
