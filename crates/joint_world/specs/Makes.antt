-- What each step makes of a world, by what it answers.
use Rattle.std.specs.Prelude.{◌≡◌, ◌⊎◌, ℕ, Bool, true, false, ◌&&◌, not, List, [], ◌∷◌, ◌++◌, Some, None, is_some}
use Rattle.mail_model.specs.Identity.{Id}
use Rattle.mail_model.specs.Plan.{Plan, Proof}
use Rattle.mail_model.specs.Record.{Record}
use Rattle.mail_model.specs.Book.BookEntry.{WentDown}
use Rattle.object_model.specs.Sets.{has}
use Rattle.object_model.specs.Mishaps.{MishapKind, no_mishaps, counted}
use Rattle.object_model.specs.Mishaps.MishapKind.{FewMembers, Dropped, Stale as StaleKind, Down as DownKind, Disk}
use Rattle.object_model.specs.Letters.{Number, Body, Letter, is_read_body}
use Rattle.cluster_model.specs.Cluster.{CallKind}
use Rattle.cluster_model.specs.Cluster.CallKind.{LoggingIn, Fetching}
use Rattle.cluster_model.specs.Progress.{NodeAnswer}
use Rattle.cluster_model.specs.Progress as mail_progress
use Rattle.cluster_model.specs.Rules.{refuse, new_number}
use Rattle.cluster_model.specs.Thrown.{is_stale, answers_ticket}
use Rattle.cluster_model.specs.Thrown.Why.{WhileDown, Stale, Late}
use Rattle.cluster_model.specs.World as mail
use Rattle.cluster_model.specs.Steps.{NodeCall, asked_of}
use Rattle.cluster_model.specs.Steps.NodeCall.{Login, Fetch, Leave}
use Rattle.cluster_model.specs.Steps.Step.{Begin, AskFor, GiveUp, Post, DropLetter}
use Rattle.cluster_model.specs.Steps.StepFault.{Worn, NoRoom}
use Rattle.cluster_model.specs.Steps.Said.{Begun, Noted, Asked, Heard, Thrown, Finished, Faulted}
use Rattle.cluster_model.specs.Makes.{IsFetchAsk}
use Rattle.whole_world.specs.Steps.{Step, Said, StepFault, StepOutcome}
use Rattle.whole_world.specs.Steps.Step.{OfMessages}
use Rattle.whole_world.specs.Steps.Said.{Told}
use Rattle.whole_world.specs.Steps.StepFault.{Fault}
use Rattle.whole_world.specs.Steps.StepOutcome.{Says, Refused, NoMemory}
use Rattle.whole_world.specs.Makes as whole
use Rattle.whole_world.specs.Makes.{MadeStep}
use Rattle.login_model.specs.Readings.{ReadTicket}
use Rattle.login_model.specs.Rules.{read_at}
use Rattle.login_model.specs.Progress.{ReadAnswer, ask_read}
use Rattle.login_model.specs.Progress.ReadAsk.{Pending, Done}
use Rattle.login_model.specs.NodeLaws.{HasHolder}
use Rattle.joint_model.specs.Joint.{Node, with_slot, slot_up, read_node}
use Rattle.joint_model.specs.Joint.Life.{Down}
use Rattle.joint_world.specs.World.{World, whole_world_of, mail_world_of, IsUp}
use Rattle.joint_world.specs.Rules.{Reaction, LogsIn, Fetches, Hears, ended, given_up, left}
use Rattle.joint_world.specs.Putting.{missed, Puts}
use Rattle.joint_world.specs.Asking.{AnswersAs}
use Rattle.joint_world.specs.Steps.{is_read_ticket, step_fault}
use Rattle.joint_world.specs.Staying.{ReadsStay, IsForWhole}

-- a node does something for a call that reads, and its letters are put in flight
abbrev pub Does : Bool → World → ℕ → List Record → Reaction → World → Type 0
Does tells old own disk did new = Puts tells did.out (record old { slots = with_slot old.slots own (slot_up did.node disk) }) new

-- a letter is lost: its mishap is noted, and it is taken out or kept
abbrev pub Loses : Bool → MishapKind → (w : World) (number : ℕ) → mail.Flies (mail_world_of w) number → Bool → World → Type 0
Loses tells kind old number flies keep new =
    Puts tells (missed tells kind old.slots flies.letter).out (record old { slots = (missed tells kind old.slots flies.letter).slots; flying = mail.flies_on (mail_world_of old) number flies keep }) new

-- a call that fails at once has a ticket among those of messages, which counts that too few nodes are members
abbrev pub refused : CallKind → Node → List Record → Node
refused kind node disk = record node { whole = record node.whole { mail = (refuse kind (counted FewMembers no_mishaps) 0 node.whole.mail disk).node } }

-- So does a Login at a node whose map has no manager of the user, and a Fetch of which no holder is a member.
abbrev pub FailsFor : Bool → Node → NodeCall → CallKind → Type 0
FailsFor tells node (Login user proof) kind = ((read_node tells node).manager user ≡ None) × (kind ≡ LoggingIn)
FailsFor tells node (Fetch user id at most holders) kind = (HasHolder (asked_of node.whole.mail holders) → ⊥) × (kind ≡ Fetching)
FailsFor tells node call kind = ⊥

-- the world once node n went down as its disk failed: the book has it
abbrev pub fallen : World → ℕ → List Record → World
fallen w n disk = record w { slots = with_slot w.slots n (record { life = Down []; disk = disk }); book = w.book ++ WentDown n ∷ [] }

-- a call that reads begins
pub data BeginsRead (plan : Plan) (tells : Bool) (old : World) (own : ℕ) (call : NodeCall) (said : Said) (new : World) : Type 0 where
  FailsAtOnce : (node : Node) (disk : List Record) (kind : CallKind) → IsUp old own node disk → FailsFor tells node call kind → said ≡ Told (Begun (new_number own node.whole.mail))
      → new ≡ record old { slots = with_slot old.slots own (slot_up (refused kind node disk) disk) }
      → BeginsRead plan tells old own call said new
  BeginsLogin : (node : Node) (disk : List Record) (user : List ℕ) (proof : Proof) → IsUp old own node disk → call ≡ Login user proof → (did : Reaction) → LogsIn plan tells own node disk user proof did
      → said ≡ Told (Begun (new_number own node.whole.mail)) → Does tells old own disk did new
      → BeginsRead plan tells old own call said new
  BeginsFetch : (node : Node) (disk : List Record) (user : List ℕ) (id : Id) (at most holders : ℕ) → IsUp old own node disk → call ≡ Fetch user id at most holders
      → (did : Reaction) → Fetches tells own node disk user id at most holders did → said ≡ Told (Begun (new_number own node.whole.mail)) → Does tells old own disk did new
      → BeginsRead plan tells old own call said new
  -- the own node is a holder, and its disk fails as it is read
  FailsReading : (node : Node) (disk : List Record) (user : List ℕ) (id : Id) (at most holders : ℕ) → IsUp old own node disk → call ≡ Fetch user id at most holders
      → has (asked_of node.whole.mail holders) own ≡ true → said ≡ Told (Faulted own) → new ≡ fallen old own disk
      → BeginsRead plan tells old own call said new
  Leaves : (node : Node) (disk : List Record) (user : List ℕ) (login : Number) (manager : ℕ) → IsUp old own node disk → call ≡ Leave user login manager
      → said ≡ Told Noted → Does tells old own disk (left tells own node user login manager) new
      → BeginsRead plan tells old own call said new

-- the ticket of a call that reads, at a node that is up
pub record HasTicket (old : World) (number : Number) : Type 0 where
  pub node : Node
  pub disk : List Record
  pub up : IsUp old number.node node disk
  pub ticket : ReadTicket
  pub here : read_at number.node (read_node true node) (Some number) ≡ Some ticket

-- Such a ticket is asked. While it is pending nothing changes. One that is done ends, and the book has nothing of it.
pub data AnswersRead (tells : Bool) (old : World) (number : Number) (said : Said) (new : World) : Type 0 where
  Waits : (one : HasTicket old number) (got wanted : ℕ) → ask_read one.ticket one.ticket.reading ≡ Pending got wanted → said ≡ Told (Asked (mail_progress.Ask.Pending got wanted)) → new ≡ old → AnswersRead tells old number said new
  Ends : (one : HasTicket old number) (answer : ReadAnswer) → ask_read one.ticket one.ticket.reading ≡ Done answer → (says : NodeAnswer) → AnswersAs number answer says
      → said ≡ Told (Asked (mail_progress.Ask.Done says))
      → Does tells old number.node one.disk (ended tells one.node number.seq) new → AnswersRead tells old number said new

-- Such a ticket is given up.
pub record GivesUpRead (tells : Bool) (old : World) (number : Number) (said : Said) (new : World) : Type 0 where
  pub one : HasTicket old number
  pub said_is : said ≡ Told Finished
  pub does : Does tells old number.node one.disk (given_up tells number.node one.node number one.ticket.reading) new

-- the node as it hears a letter: it learns the stamps of it first
abbrev pub learnt : Node → Body → Node
learnt node body = record node { whole = whole.learnt node.whole body }

-- whether a letter answers a ticket that stands no more
abbrev pub is_late_read : ℕ → Node → Letter → Bool
is_late_read own node letter = answers_ticket letter.body && not (is_some (read_at own (read_node true node) letter.ticket))

-- a number of letters of calls that read
abbrev pub IsOfReads : World → ℕ → Type 0
IsOfReads w number = (flies : mail.Flies (mail_world_of w) number) → is_read_body flies.letter.body ≡ true

-- A letter of a call that reads is handed to its receiver.
pub data PostsRead (plan : Plan) (tells : Bool) (old : World) (number : ℕ) (keep : Bool) (said : Said) (new : World) : Type 0 where
  NobodyUp : (flies : mail.Flies (mail_world_of old) number) → is_read_body flies.letter.body ≡ true → ((node : Node) (disk : List Record) → IsUp old flies.letter.to node disk → ⊥)
      → said ≡ Told (Thrown WhileDown) → Loses tells DownKind old number flies keep new
      → PostsRead plan tells old number keep said new
  OfOtherEpoch : (flies : mail.Flies (mail_world_of old) number) (node : Node) (disk : List Record) → is_read_body flies.letter.body ≡ true → IsUp old flies.letter.to node disk
      → is_stale flies.letter node.whole.mail.installed ≡ true → said ≡ Told (Thrown Stale) → Loses tells StaleKind old number flies keep new
      → PostsRead plan tells old number keep said new
  TooLate : (flies : mail.Flies (mail_world_of old) number) (node : Node) (disk : List Record) → is_read_body flies.letter.body ≡ true → IsUp old flies.letter.to node disk
      → is_stale flies.letter node.whole.mail.installed ≡ false → is_late_read flies.letter.to node flies.letter ≡ true → said ≡ Told (Thrown Late)
      → new ≡ record old { flying = mail.flies_on (mail_world_of old) number flies keep }
      → PostsRead plan tells old number keep said new
  IsHeard : (flies : mail.Flies (mail_world_of old) number) (node : Node) (disk : List Record) → is_read_body flies.letter.body ≡ true → IsUp old flies.letter.to node disk
      → is_stale flies.letter node.whole.mail.installed ≡ false → is_late_read flies.letter.to node flies.letter ≡ false → said ≡ Told Heard
      → (did : Reaction) → Hears plan tells flies.letter.to (learnt node flies.letter.body) disk flies.letter flies.letter.body did
      → Does tells (record old { flying = mail.flies_on (mail_world_of old) number flies keep }) flies.letter.to disk did new
      → PostsRead plan tells old number keep said new
  -- a holder's disk fails as it is read: the letter has a mishap
  FailsHearing : (flies : mail.Flies (mail_world_of old) number) (node : Node) (disk : List Record) → IsFetchAsk flies.letter.body → IsUp old flies.letter.to node disk
      → is_stale flies.letter node.whole.mail.installed ≡ false → said ≡ Told (Faulted flies.letter.to)
      → (down : World) → down ≡ record (fallen old flies.letter.to disk) { flying = mail.flies_on (mail_world_of old) number flies keep }
      → Puts tells (missed tells Disk down.slots flies.letter).out (record down { slots = (missed tells Disk down.slots flies.letter).slots }) new
      → PostsRead plan tells old number keep said new

-- Such a letter is dropped.
pub record DropsRead (tells : Bool) (old : World) (number : ℕ) (said : Said) (new : World) : Type 0 where
  pub flies : mail.Flies (mail_world_of old) number
  pub read : is_read_body flies.letter.body ≡ true
  pub said_is : said ≡ Told Finished
  pub loses : Loses tells Dropped old number flies false new

-- What each step does that is not refused, by what it says: it is one of the whole machine in which tickets of calls that read and locks stay, or one of a call that reads.
pub data DoesStep (plan : Plan) (tells : Bool) (old : World) (step : Step) (said : Said) (new : World) : Type 0 where
  ForWhole : IsForWhole old step → whole.MakesStep plan tells (whole_world_of old) step (Says said) (whole_world_of new) → ReadsStay old new → DoesStep plan tells old step said new
  Begins : (n : ℕ) (call : NodeCall) → step ≡ OfMessages (Begin n call) → BeginsRead plan tells old n call said new → DoesStep plan tells old step said new
  Asks : (number : Number) → step ≡ OfMessages (AskFor number) → is_read_ticket old number ≡ true → AnswersRead tells old number said new → DoesStep plan tells old step said new
  GivesUp : (number : Number) → step ≡ OfMessages (GiveUp number) → is_read_ticket old number ≡ true → GivesUpRead tells old number said new → DoesStep plan tells old step said new
  Posts : (number : ℕ) (keep : Bool) → step ≡ OfMessages (Post number keep) → IsOfReads old number → PostsRead plan tells old number keep said new → DoesStep plan tells old step said new
  Drops : (number : ℕ) → step ≡ OfMessages (DropLetter number) → DropsRead tells old number said new → DoesStep plan tells old step said new

-- Memory ran out in a step that had begun its work. No call that reads does so: it writes nothing.
pub record RunsShort (plan : Plan) (tells : Bool) (old : World) (step : Step) (n : ℕ) (new : World) : Type 0 where
  pub for_whole : IsForWhole old step
  pub runs : whole.MakesStep plan tells (whole_world_of old) step (NoMemory (Some n)) (whole_world_of new)
  pub stay : ReadsStay old new

-- A step is refused where it has a fault, or as the whole machine refuses it for the sake of boots or of room.
abbrev pub RefusedLate : World → Step → StepFault → Type 0
RefusedLate old step fault = ((fault ≡ Fault Worn) × whole.StartIsWorn (whole_world_of old) step) ⊎ ((fault ≡ Fault NoRoom) × whole.ReportHasNoRoom (whole_world_of old) step)

abbrev pub MakesStep : Plan → Bool → World → Step → StepOutcome → World → Type 0
MakesStep plan tells old step (Says said) new = (step_fault plan step old ≡ None) × DoesStep plan tells old step said new
MakesStep plan tells old step (Refused fault) new = ((step_fault plan step old ≡ Some fault) ⊎ ((step_fault plan step old ≡ None) × RefusedLate old step fault)) × (new ≡ old)
MakesStep plan tells old step (NoMemory None) new = new ≡ old
MakesStep plan tells old step (NoMemory (Some n)) new = RunsShort plan tells old step n new

-- steps and what came of them, one after another
abbrev pub MakesAll : Plan → Bool → World → List MadeStep → World → Type 0
MakesAll plan tells old [] new = new ≡ old
MakesAll plan tells old (made ∷ others) new = (mid : World) × MakesStep plan tells old made.step made.outcome mid × MakesAll plan tells mid others new
