-- What a ticket reads stays the subject that its call began with, so an answer shows what disks have of that subject.
use Rattle.std.specs.Prelude.{◌≡◌, ◌≢◌, ℕ, Bool, List, AllPairs, Option, Some, None, map}
use Rattle.mail_model.specs.Identity.{Id}
use Rattle.mail_model.specs.Plan.{Plan}
use Rattle.object_model.specs.Lists.{Among}
use Rattle.object_model.specs.Letters.{Number}
use Rattle.cluster_model.specs.Reads.{ListedCopy, Found}
use Rattle.cluster_model.specs.Reads.Found.{Listed, WrongSecret, InUse, NoProfile, PartOf, NotThere}
use Rattle.cluster_model.specs.Progress.Ask.{Done}
use Rattle.cluster_model.specs.Progress.NodeAnswer.{Read}
use Rattle.cluster_model.specs.Steps.{NodeCall}
use Rattle.cluster_model.specs.Steps.NodeCall.{Login, Fetch}
use Rattle.cluster_model.specs.Steps.Step.{Begin, AskFor}
use Rattle.cluster_model.specs.Steps.Said.{Begun, Asked}
use Rattle.whole_world.specs.Steps.{Step, StepOutcome}
use Rattle.whole_world.specs.Steps.Step.{OfMessages}
use Rattle.whole_world.specs.Steps.Said.{Told}
use Rattle.whole_world.specs.Steps.StepOutcome.{Says}
use Rattle.login_model.specs.Cluster as login
use Rattle.login_model.specs.Readings.{Subject, subject_of}
use Rattle.login_model.specs.Readings.Subject.{OfUser, OfPart}
use Rattle.login_model.specs.Facts.{IsDrawn}
use Rattle.joint_model.specs.Joint.{Slot, slot_at, read_slot}
use Rattle.joint_world.specs.World.{World}
use Rattle.joint_world.specs.Makes.{HasTicket, MakesStep}
use Rattle.joint_world.specs.Laws.{Stands}
use Rattle.joint_world.specs.Told.{HasCopy, IsPartOf}

-- what a call reads: the mailbox of its user, or a part of a message
abbrev pub subject_begun : NodeCall → Option Subject
subject_begun (Login user proof) = Some (OfUser user)
subject_begun (Fetch user id from most holders) = Some (OfPart user id from most)
subject_begun call = None

-- The number is drawn, and as long as a ticket of a call that reads stands under it, it reads this.
pub record IsAbout (tells : Bool) (w : World) (number : Number) (subject : Subject) : Type 0 where
  pub drawn : IsDrawn (map (read_slot tells) w.slots) number
  pub reads : (one : HasTicket w number) → subject_of one.ticket.reading ≡ subject

-- So it is once a call has begun,
abbrev pub SubjectBegins : Type 0
SubjectBegins = (plan : Plan) (tells : Bool) (story : List (List login.Slot)) (old new : World) (n : ℕ) (call : NodeCall) (number : Number) (subject : Subject)
    → MakesStep plan tells old (OfMessages (Begin n call)) (Says (Told (Begun number))) new → Stands plan tells story old → subject_begun call ≡ Some subject → IsAbout tells new number subject

-- and in each step.
abbrev pub SubjectStays : Type 0
SubjectStays = (plan : Plan) (tells : Bool) (story : List (List login.Slot)) (old new : World) (step : Step) (outcome : StepOutcome) (number : Number) (subject : Subject)
    → MakesStep plan tells old step outcome new → Stands plan tells story old → IsAbout tells old number subject → IsAbout tells new number subject

-- some disk has the copy
pub record IsCopySomewhere (w : World) (user : List ℕ) (copy : ListedCopy) : Type 0 where
  pub node : ℕ
  pub slot : Slot
  pub here : slot_at w.slots node ≡ Some slot
  pub has : HasCopy user copy.id copy.size slot.disk

-- some disk has the message of which this is a part
pub record IsPartSomewhere (tells : Bool) (w : World) (id : Id) (at most : ℕ) (octets : List ℕ) (whole : ℕ) : Type 0 where
  pub node : ℕ
  pub slot : Slot
  pub here : slot_at w.slots node ≡ Some slot
  pub part : IsPartOf tells id at most octets whole slot.disk

-- What is found of a subject: of a mailbox copies of that very user, each message once, or why nobody is let in; and of a part of a message its octets, or that it is not there.
abbrev pub ShowsFound : Bool → World → Number → Subject → Found → Type 0
ShowsFound tells w number (OfUser user) (Listed login manager asked items) =
    (login ≡ number) × ((copy : ListedCopy) → Among copy items → IsCopySomewhere w user copy) × AllPairs (λ (one other : Id). one ≢ other) (map (λ (copy : ListedCopy). copy.id) items)
ShowsFound tells w number (OfUser user) (WrongSecret stamp) = Unit {0}
ShowsFound tells w number (OfUser user) (InUse by) = Unit {0}
ShowsFound tells w number (OfUser user) (NoProfile manager) = Unit {0}
ShowsFound tells w number (OfPart user id at most) (PartOf octets whole) = IsPartSomewhere tells w id at most octets whole
ShowsFound tells w number (OfPart user id at most) NotThere = Unit {0}
ShowsFound tells w number subject found = ⊥

-- An ask that says what a call found shows what disks have of the call's subject.
abbrev pub SubjectIsShown : Type 0
SubjectIsShown = (plan : Plan) (tells : Bool) (story : List (List login.Slot)) (old new : World) (number : Number) (subject : Subject) (found : Found)
    → MakesStep plan tells old (OfMessages (AskFor number)) (Says (Told (Asked (Done (Read found))))) new → Stands plan tells story old → IsAbout tells old number subject
    → ShowsFound tells new number subject found
