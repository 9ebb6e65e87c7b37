-- What is ordered of a board adds nothing to its book that acknowledges or strikes, where each disk tells what it holds.
use Rattle.std.proofs.Common.{inl, inr, ℕ, List}
use Rattle.std.specs.Prelude.{Result, Ok, Err}
use Rattle.cluster_owes.specs.Outcomes.{IsIdleStep}
use Rattle.node_store.specs.Disks.{View}
use Rattle.cluster_world.specs.Ended.{IsEnded}
use Rattle.cluster_world.specs.Seen.{step_seen, outcome_seen}
use Rattle.cluster_world.specs.Worlds.{disks_of}
use Rattle.cluster_world.specs.declared.world.World.{World}
use Rattle.cluster_world.specs.declared.step.Step.{Step}
use Rattle.cluster_world.specs.declared.step.Step.TheVariants as step
use Rattle.cluster_world.specs.declared.step.Said.{Said}
use Rattle.cluster_world.specs.declared.fault.StepFault.{StepFault}
use Rattle.desk_model.specs.Added.{AreQuiet}
use Rattle.solo_desk.specs.Serving.{AddsTo}
use Rattle.solo_desk.proofs.Stepping.{idle_adds}
use Rattle.shard_board.specs.Deeds.{MakesOne}
use Rattle.shard_board.specs.Orders.{Ordered, ordered_by, Obeys}
use Rattle.shard_board.specs.Orders.Ordered.{OneStep, Regrouped, Settled, Mapped, Counted}
use Rattle.shard_board.specs.Worlds.{IsSoundWorld}
use Rattle.shard_board.specs.declared.part.Part.{Part}
use Rattle.shard_board.specs.declared.order.Order.{Order}
use Rattle.shard_board.specs.declared.order.Order.TheVariants as order
use Rattle.shard_board.specs.declared.order.Told.{Told}
use Rattle.shard_board.specs.declared.order.Told.TheVariants as told
use Rattle.shard_board.proofs.Keeping.{all_tell}
use Rattle.board_desk.proofs.Sound.{can_serve, same_world_adds}
use Rattle.board_service.specs.Disks.{EachTells}
use Rattle.board_service.proofs.Regrouped.{regroups_add}
use Rattle.board_service.proofs.Settled.{settles_add}

module _ {D : Type 0} (on : View D) (each : EachTells on.seen) where
  one_adds : (one : Step) (result : Result Said StepFault) (old new : World D) → IsEnded one → IsIdleStep (step_seen one) (outcome_seen result) → IsSoundWorld on old
      → MakesOne on result one old new → AddsTo AreQuiet old new
  one_adds one result old new ended idle sound (inl is) = idle_adds on result one old new is (inl (all_tell on.seen each (disks_of old))) ended (can_serve on old sound) idle
  one_adds one result old new ended idle sound (inr (short, same)) = same_world_adds old new same

  module _ {F C : Type 0} where
    -- a step in which no call begins, and none is answered
    step_adds : (one : Step) → IsEnded one → ((result : Result Said StepFault) → IsIdleStep (step_seen one) (outcome_seen result)) → (old : Part D F C) (came : Result Told StepFault) (new : Part D F C)
        → IsSoundWorld on old.world → Obeys on (OneStep one) old came new → AddsTo AreQuiet old.world new.world
    step_adds one ended idle old (Ok (told.Said said)) new sound made = one_adds one (Ok said) old.world new.world ended (idle (Ok said)) sound made
    step_adds one ended idle old (Ok other) new sound made = absurd made
    step_adds one ended idle old (Err why) new sound made = one_adds one (Err why) old.world new.world ended (idle (Err why)) sound made

    group_adds : (node : ℕ) (old : Part D F C) (came : Result Told StepFault) (new : Part D F C) → IsSoundWorld on old.world → Obeys on (Regrouped node) old came new → AddsTo AreQuiet old.world new.world
    group_adds node old (Ok (told.Regrouped came)) new sound made = regroups_add on node (Ok came) old.world new.world sound made
    group_adds node old (Ok other) new sound made = absurd made
    group_adds node old (Err why) new sound made = regroups_add on node (Err why) old.world new.world sound made

    settle_adds : (old : Part D F C) (came : Result Told StepFault) (new : Part D F C) → IsSoundWorld on old.world → Obeys on Settled old came new → AddsTo AreQuiet old.world new.world
    settle_adds old (Ok (told.Settled came)) new sound made = settles_add on (Ok came) old.world new.world (all_tell on.seen each (disks_of old.world)) sound made
    settle_adds old (Ok other) new sound made = absurd made
    settle_adds old (Err why) new sound made = settles_add on (Err why) old.world new.world (all_tell on.seen each (disks_of old.world)) sound made

    map_adds : (user : List ℕ) (old : Part D F C) (came : Result Told StepFault) (new : Part D F C) → Obeys on (Mapped user) old came new → AddsTo AreQuiet old.world new.world
    map_adds user old (Ok (told.Mapped map)) new made = same_world_adds old.world new.world made.1
    map_adds user old (Ok other) new made = absurd made
    map_adds user old (Err why) new made = absurd made

    count_adds : (old : Part D F C) (came : Result Told StepFault) (new : Part D F C) → Obeys on Counted old came new → AddsTo AreQuiet old.world new.world
    count_adds old (Ok (told.Sum sum)) new made = same_world_adds old.world new.world made.1
    count_adds old (Ok other) new made = absurd made
    count_adds old (Err why) new made = absurd made

    pub orders_add : (ordered : Order) (old : Part D F C) (came : Result Told StepFault) (new : Part D F C) → IsSoundWorld on old.world → Obeys on (ordered_by ordered) old came new
        → AddsTo AreQuiet old.world new.world
    orders_add (order.Crash node) old came new sound made = step_adds (step.Crash node) tt (λ result. tt) old came new sound made
    orders_add (order.Start node) old came new sound made = step_adds (step.Start node) tt (λ result. tt) old came new sound made
    orders_add (order.Lose node) old came new sound made = step_adds (step.Lose node) tt (λ result. tt) old came new sound made
    orders_add (order.Push from to) old came new sound made = step_adds (step.Push from to) tt (λ result. tt) old came new sound made
    orders_add (order.Widen at user id to) old came new sound made = step_adds (step.Widen at user id to) tt (λ result. tt) old came new sound made
    orders_add (order.Regroup node) old came new sound made = group_adds node old came new sound made
    orders_add (order.Report from to) old came new sound made = step_adds (step.Report from to) tt (λ result. tt) old came new sound made
    orders_add order.Settle old came new sound made = settle_adds old came new sound made
    orders_add (order.Maps user) old came new sound made = map_adds user old came new made
    orders_add order.Sum old came new sound made = count_adds old came new made
