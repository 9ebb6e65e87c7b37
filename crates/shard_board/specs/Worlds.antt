-- What stays of a world, whatever is done with it.
use Rattle.std.specs.Prelude.{◌≡◌, ◌⊎◌, ℕ, Bool, true, List, [], ◌∷◌, ⊤}
use Rattle.mail_model.specs.Plan.{Plan}
use Rattle.joint_world.specs.World.{mail_world_of}
use Rattle.desk_model.specs.Tickets.{TicketsAskOneThing}
use Rattle.node_store.specs.Disks.{View}
use Rattle.cluster_world.specs.Books.{IsLongerBook}
use Rattle.cluster_world.specs.Rests.{HasRightMaps}
use Rattle.cluster_world.specs.Settling.{IsAtRest}
use Rattle.cluster_world.specs.Sound.{IsWhole}
use Rattle.cluster_world.specs.Worlds.{state_of, plan_of, book_of, disks_tell, CanMakeSteps}
use Rattle.cluster_world.specs.Steps.{IsBlind}
use Rattle.cluster_world.specs.Ended.{IsEnded}
use Rattle.cluster_world.specs.Opens.{IsAtBeginning}
use Rattle.cluster_world.specs.Made.{StepMade, MakesSteps, PostsAll}
use Rattle.cluster_world.specs.declared.world.World.{World}

-- It can make steps, and stands for a sound world of the whole machine, in which each ticket of messages asks for one thing.
pub record IsSoundWorld {D : Type 0} (on : View D) (world : World D) : Type 0 where
  pub ready : CanMakeSteps on.seen world
  pub whole : IsWhole on (plan_of world) world
  pub tickets : TicketsAskOneThing (mail_world_of whole.v).slots

-- Its plan stays, and its book only grows. A sound world stays sound.
pub record KeepsWorld {D : Type 0} (on : View D) (old new : World D) : Type 0 where
  pub plan : plan_of new ≡ plan_of old
  pub longer : IsLongerBook (book_of old) (book_of new)
  pub sound : IsSoundWorld on old → IsSoundWorld on new

-- What the machine does in these steps is known, over worlds of so many nodes whose disks tell what they hold, or do not; and the message that each step hands in is whole.
abbrev pub AllKnown : Bool → ℕ → List StepMade → Type 0
AllKnown tells nodes [] = ⊤
AllKnown tells nodes (one ∷ more) = ((tells ≡ true) ⊎ IsBlind nodes one.step) × IsEnded one.step × AllKnown tells nodes more

-- So it is over steps of which the machine's are known, whatever comes of them.
abbrev pub StepsKeepWorld : {D : Type 0} → View D → Type 0
StepsKeepWorld {D} on = (steps : List StepMade) (old new : World D) → AllKnown (disks_tell on.seen old) (plan_of old).nodes steps → CanMakeSteps on.seen new
    → MakesSteps on steps old new → KeepsWorld on old new

-- And where all letters in flight are posted.
abbrev pub FlowsKeepWorld : {D : Type 0} → View D → Type 0
FlowsKeepWorld {D} on = (steps : List StepMade) (old new : World D) → CanMakeSteps on.seen new → PostsAll on steps old new → KeepsWorld on old new

-- A world that was opened is sound.
abbrev pub OpenedIsSound : {D : Type 0} → View D → Type 0
OpenedIsSound {D} on = (plan : Plan) (world : World D) → IsAtBeginning on plan world → IsSoundWorld on world

-- A sound world that is at rest has right maps.
abbrev pub SoundRestsRight : {D : Type 0} → View D → Type 0
SoundRestsRight {D} on = (world : World D) → IsSoundWorld on world → IsAtRest (state_of world) → HasRightMaps on (state_of world)
