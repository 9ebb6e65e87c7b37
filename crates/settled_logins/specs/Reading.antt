-- Steps of readers: calls that read begin, their tickets are asked, and letters are posted, while nothing else is done with the cluster.
use Rattle.std.specs.Prelude.{◌≡◌, ◌≢◌, ℕ, Bool, List, ◌∷◌, ◌++◌, map, Some}
use Rattle.mail_model.specs.Identity.{Id}
use Rattle.mail_model.specs.Plan.{Proof}
use Rattle.mail_model.specs.Record.{Record}
use Rattle.object_model.specs.Lists.{Among}
use Rattle.object_model.specs.Letters.{Number}
use Rattle.cluster_model.specs.Progress.Ask.{Done}
use Rattle.cluster_model.specs.Progress.NodeAnswer.{Read}
use Rattle.cluster_model.specs.Reads.{ListedCopy}
use Rattle.cluster_model.specs.Reads.Found.{Listed}
use Rattle.cluster_model.specs.Steps.NodeCall.{Login, Fetch, Leave}
use Rattle.cluster_model.specs.Steps.Step.{Begin, AskFor, Post}
use Rattle.cluster_model.specs.Steps.Said.{Begun, Asked, Faulted}
use Rattle.whole_world.specs.Makes.{MadeStep}
use Rattle.whole_world.specs.Steps.{StepOutcome}
use Rattle.whole_world.specs.Steps.Step.{OfMessages}
use Rattle.whole_world.specs.Steps.Said.{Told}
use Rattle.whole_world.specs.Steps.StepOutcome.{Says, NoMemory}
use Rattle.joint_model.specs.Joint.{Slot}
use Rattle.joint_world.specs.World.{World}

-- the records of the disks of all nodes
abbrev pub disks_of : World → List (List Record)
disks_of w = map (λ (slot : Slot). slot.disk) w.slots

-- No disk failed in a step, and no node went down for want of memory. It may have been refused.
pub record GoesWell (outcome : StepOutcome) : Type 0 where
  pub disks : (n : ℕ) → outcome ≢ Says (Told (Faulted n))
  pub memory : (n : ℕ) → outcome ≢ NoMemory (Some n)

-- A step of a reader: a Login, a Fetch or a Leave begins, a ticket is asked, or a letter is posted, and it goes well. Whichever call the ticket is of, an ask changes that ticket and the book alone.
pub data IsReaderStep (made : MadeStep) : Type 0 where
  LogsIn : (n : ℕ) (user : List ℕ) (proof : Proof) → made.step ≡ OfMessages (Begin n (Login user proof)) → GoesWell made.outcome → IsReaderStep made
  Fetches : (n : ℕ) (user : List ℕ) (id : Id) (from most holders : ℕ) → made.step ≡ OfMessages (Begin n (Fetch user id from most holders)) → GoesWell made.outcome → IsReaderStep made
  Leaves : (n : ℕ) (user : List ℕ) (login : Number) (manager : ℕ) → made.step ≡ OfMessages (Begin n (Leave user login manager)) → GoesWell made.outcome → IsReaderStep made
  Asks : (number : Number) → made.step ≡ OfMessages (AskFor number) → GoesWell made.outcome → IsReaderStep made
  Posts : (letter : ℕ) (keep : Bool) → made.step ≡ OfMessages (Post letter keep) → GoesWell made.outcome → IsReaderStep made

-- a Login of a user begins at a node, under this number
abbrev pub login_begun : ℕ → List ℕ → Proof → Number → MadeStep
login_begun n user proof number = record { step = OfMessages (Begin n (Login user proof)); outcome = Says (Told (Begun number)) }

-- a ticket is asked, and answered with a listing
abbrev pub listing_told : Number → Number → ℕ → ℕ → List ListedCopy → MadeStep
listing_told number login manager asked items = record { step = OfMessages (AskFor number); outcome = Says (Told (Asked (Done (Read (Listed login manager asked items))))) }

-- Among these steps a Login of the user began at one of these nodes, and was later answered with a listing.
pub record IsListed (nodes : List ℕ) (user : List ℕ) (items : List ListedCopy) (steps : List MadeStep) : Type 0 where
  pub n : ℕ
  pub member : Among n nodes
  pub proof : Proof
  pub number : Number
  pub login : Number
  pub manager : ℕ
  pub asked : ℕ
  pub first : List MadeStep
  pub between : List MadeStep
  pub last : List MadeStep
  pub split : steps ≡ first ++ login_begun n user proof number ∷ between ++ listing_told number login manager asked items ∷ last
