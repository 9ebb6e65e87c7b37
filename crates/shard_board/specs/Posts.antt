-- What posting one letter does.
use Rattle.std.specs.Prelude.{◌≡◌, ℕ, true, false, Option, Some, None, Result, Ok, Err}
use Rattle.node_store.specs.Disks.{View}
use Rattle.cluster_world.specs.Worlds.{state_of}
use Rattle.cluster_world.specs.Flights.{first_number}
use Rattle.cluster_world.specs.declared.step.Step.{Step}
use Rattle.cluster_world.specs.declared.step.Step.TheVariants.{Post, Drop, Tick}
use Rattle.cluster_world.specs.declared.step.Said.{Said}
use Rattle.cluster_world.specs.declared.fault.StepFault.{StepFault}
use Rattle.cluster_world.specs.declared.fault.StepFault.TheVariants as fault
use Rattle.call_tickets.specs.declared.desk.Posted.{Posted}
use Rattle.call_tickets.specs.declared.desk.Posted.TheVariants.{Did, Quiet}
use Rattle.call_tickets.specs.declared.desk.DeskFault.{DeskFault}
use Rattle.call_tickets.specs.declared.desk.DeskFault.TheVariants as refused
use Rattle.io_edge.specs.declared.fate.Luck.{Luck}
use Rattle.io_edge.specs.declared.fate.Luck.TheVariants as luck
use Rattle.shard_board.specs.declared.part.Part.{Part}
use Rattle.shard_board.specs.Deeds.{MakesOne}
use Rattle.shard_board.specs.Parts.{AddsKnown}
use Rattle.shard_board.specs.Worlds.{IsSoundWorld}

-- the step that a letter's luck leads to
abbrev pub step_by : Luck → ℕ → Step
step_by luck.Carry letter = Post letter false
step_by luck.Drop letter = Drop letter
step_by luck.Twice letter = Post letter true

-- what is answered of a step with a letter
abbrev pub posted_of : Result Said StepFault → Result Posted DeskFault
posted_of (Ok said) = Ok Did
posted_of (Err fault.Worn) = Err refused.Worn
posted_of (Err why) = Err refused.NoMemory

module _ {D F C : Type 0} (on : View D) (decides : F → ℕ → Luck → F → Type 0) where
  -- What fate decided of the letter was done.
  pub record LetterMet (letter : ℕ) (old : Part D F C) (result : Result Posted DeskFault) (new : Part D F C) : Type 0 where
    pub lucky : Luck
    pub decided : decides old.fate letter lucky new.fate
    pub said : Result Said StepFault
    pub made : MakesOne on said (step_by lucky letter) old.world new.world
    pub answer : result ≡ posted_of said

  -- the letter of the lowest number, if one is in flight
  abbrev pub FirstMet : Option ℕ → Part D F C → Result Posted DeskFault → Part D F C → Type 0
  FirstMet None old result new = (result ≡ Ok Quiet) × (new.world ≡ old.world) × (new.fate ≡ old.fate)
  FirstMet (Some letter) old result new = LetterMet letter old result new

  -- The clock was set, which leaves a sound world sound, and then the letter of the lowest number was looked at. Both steps are blind.
  pub record PostsOne (old : Part D F C) (result : Result Posted DeskFault) (new : Part D F C) : Type 0 where
    pub seconds : ℕ
    pub mid : Part D F C
    pub ticked : Result Said StepFault
    pub tick : MakesOne on ticked (Tick seconds) old.world mid.world
    pub fate_is : mid.fate ≡ old.fate
    pub sound : IsSoundWorld on old.world → IsSoundWorld on mid.world
    pub first : FirstMet (first_number (state_of mid.world).flying.flights) mid result new
    pub known : AddsKnown on.seen old new
