-- What holds of worlds with calls that read, whatever steps are made.
use Rattle.std.specs.Prelude.{◌≡◌, ℕ, Bool, List, ◌++◌, Some}
use Rattle.mail_model.specs.Plan.{Plan}
use Rattle.mail_model.specs.Record.{Record}
use Rattle.object_model.specs.Lists.{Among}
use Rattle.object_model.specs.Letters.{Number, Letter}
use Rattle.cluster_model.specs.World.{letters_of}
use Rattle.whole_world.specs.Makes.{MadeStep}
use Rattle.whole_world.specs.Laws as whole
use Rattle.login_model.specs.Cluster as login
use Rattle.login_model.specs.Progress.{ask_read}
use Rattle.login_model.specs.Progress.ReadAsk.{Pending}
use Rattle.login_model.specs.Parts as login_parts
use Rattle.joint_model.specs.Joint.{Slot, slot_at}
use Rattle.joint_model.specs.Moves as joint
use Rattle.joint_world.specs.World.{World, cluster_of, whole_world_of, reads_of}
use Rattle.joint_world.specs.Makes.{MakesAll, HasTicket}

-- Every node that is up at a moment has a disk that tells its octets, or none has.
abbrev pub TellAlike : Bool → List (List login.Slot) → Type 0
TellAlike tells story = (moment : List login.Slot) → Among moment story → (n : ℕ) (node : login.Node) (disk : List Record) → login.slot_at moment n ≡ Some (login.slot_up node disk) → node.tells ≡ tells

-- what a disk had is a prefix of what it has
pub record IsFront (was now : List Record) : Type 0 where
  pub rest : List Record
  pub is : now ≡ was ++ rest

-- So it is of each disk of each moment: what a list or a part said of a disk is on that disk still.
abbrev pub HasFronts : List (List login.Slot) → List Slot → Type 0
HasFronts story slots = (moment : List login.Slot) → Among moment story → (n : ℕ) (slot : login.Slot) → login.slot_at moment n ≡ Some slot → (now : Slot) × (slot_at slots n ≡ Some now) × IsFront slot.disk now.disk

-- What every step keeps: what the whole machine keeps, and what is known of calls that read with a story of the slots of all moments so far.
pub record Stands (plan : Plan) (tells : Bool) (story : List (List login.Slot)) (w : World) : Type 0 where
  pub whole : whole.Stands plan (whole_world_of w)
  pub reads : login_parts.Sound (reads_of tells story w)
  pub alike : TellAlike tells story
  pub fronts : HasFronts story w.slots

-- a story has all moments of another
abbrev pub HasGrown : List (List login.Slot) → List (List login.Slot) → Type 0
HasGrown old new = (moment : List login.Slot) → Among moment old → Among moment new

-- Whatever steps are made and whatever comes of them, there is a longer story with which all stands.
abbrev pub StepsKeep : Type 0
StepsKeep = (plan : Plan) (tells : Bool) (old new : World) (steps : List MadeStep) (story : List (List login.Slot)) → MakesAll plan tells old steps new → Stands plan tells story old
    → (grown : List (List login.Slot)) × Stands plan tells grown new × HasGrown story grown

-- What stands is sound as a cluster of all three machines.
abbrev pub StandsIsSound : Type 0
StandsIsSound = (plan : Plan) (tells : Bool) (story : List (List login.Slot)) (w : World) → Stands plan tells story w → joint.Sound plan.confirm (cluster_of tells story w)

-- A ticket of a call that reads which is pending has a letter of its own in flight: a call of which no letter flies is done.
abbrev pub PendingHasLetter : Type 0
PendingHasLetter = (plan : Plan) (tells : Bool) (story : List (List login.Slot)) (w : World) → Stands plan tells story w → (number : Number) (one : HasTicket w number)
    → (got wanted : ℕ) → ask_read one.ticket one.ticket.reading ≡ Pending got wanted → (letter : Letter) × Among letter (letters_of w.flying) × (letter.ticket ≡ Some number)
