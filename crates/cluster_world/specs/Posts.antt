-- What becomes of a letter that is posted, and of its receiver.
use Rattle.std.specs.Prelude.{◌≡◌, ◌≤◌, ℕ, ◌+◌, Bool, true, false, List, [], ◌∷◌, ◌++◌, length, Option, Some, None, Result, Ok, Err, MatchBool}
use Rattle.mail_model.specs.Plan.{Plan}
use Rattle.object_model.specs.Letters.{Body, Letter}
use Rattle.object_model.specs.Letters.Body.{Group, Join, Install, Report, ReportAck}
use Rattle.object_model.specs.Mishaps.{MishapKind, MishapKind as mishap}
use Rattle.cluster_model.specs.World.{missed}
use Rattle.node_store.specs.Disks.{View}
use Rattle.node_core.specs.Works.{LeavesUp}
use Rattle.node_core.specs.declared.fault.NodeFault.{NodeFault}
use Rattle.node_core.specs.declared.fault.NodeFault.TheVariants.{Disk, Worn, NoMemory}
use Rattle.node_core.specs.declared.outbox.Outbox.{Outbox}
use Rattle.node_core.specs.declared.outbox.Why.{Why}
use Rattle.node_core.specs.declared.outbox.Why.TheVariants.{Stale}
use Rattle.world_book.specs.Books.{entries_of, spare_of}
use Rattle.world_book.specs.declared.book.Book.{Book}
use Rattle.world_book.specs.declared.entry.Entry.TheVariants as entry
use Rattle.cluster_world.specs.Flights.{InFlight, taken_out}
use Rattle.cluster_world.specs.Hears.{HearsAny, HearsWhole}
use Rattle.cluster_world.specs.Turning.{TurnsBy}
use Rattle.cluster_world.specs.Changes.{ChangesNode, IsTurnedTo}
use Rattle.cluster_world.specs.Unfinished.{said_of_fault, takes_down}
use Rattle.cluster_world.specs.Missing.{Noticed, SentOff}
use Rattle.cluster_world.specs.declared.life.Life.{Life}
use Rattle.cluster_world.specs.declared.life.Life.TheVariants.{Down}
use Rattle.cluster_world.specs.declared.nodes.Nodes.{Nodes}
use Rattle.cluster_world.specs.declared.step.Said.{Said}
use Rattle.cluster_world.specs.declared.step.Said.TheVariants.{Heard, Thrown}
use Rattle.cluster_world.specs.declared.fault.StepFault.{StepFault}
use Rattle.cluster_world.specs.declared.fault.StepFault.TheVariants as fault

-- the letter leaves, unless it is kept
abbrev pub out_of : ℕ → Bool → Option ℕ
out_of number true = None
out_of number false = Some number

-- node n, which is up, heard the letter with its disk, or threw it, or its work stopped
abbrev pub HearsAtNode : {D : Type 0} → View D → (D → Type 0) → Plan → ℕ → Letter → Result Outbox NodeFault → Life → D → Life → D → Type 0
HearsAtNode on is_settled plan n letter result life disk life' disk' =
    TurnsBy on.seen (λ result old before new after. HearsAny on n plan.nodes letter old before new after result) (λ result old before new after. HearsWhole on n plan.nodes letter result old before new after)
    result life disk life' disk'
    × (LeavesUp result → is_settled disk → is_settled disk')

-- the mishap that the letter has by that, if it has one
abbrev pub mishap_of_thrown : Option Why → Option MishapKind
mishap_of_thrown None = None
mishap_of_thrown (Some Stale) = Some mishap.Stale
mishap_of_thrown (Some why) = None

-- With a disk fault it has one. A letter of membership or maps has no ticket.
abbrev pub mishap_of_fault : Body → Option MishapKind
mishap_of_fault (Group epoch) = None
mishap_of_fault (Join epoch promise boot was claims) = None
mishap_of_fault (Install membership) = None
mishap_of_fault (Report row) = None
mishap_of_fault (ReportAck user version) = None
mishap_of_fault body = Some mishap.Disk

abbrev pub mishap_of : Body → Result Outbox NodeFault → Option MishapKind
mishap_of body (Ok outbox) = mishap_of_thrown outbox.thrown
mishap_of body (Err Disk) = mishap_of_fault body
mishap_of body (Err why) = None

-- the book has that a node went down, and room for one entry less
pub record IsEntered (n : ℕ) (book book' : Book) : Type 0 where
  pub wrote : entries_of book' ≡ entries_of book ++ entry.Down n ∷ []
  pub spare : spare_of book' + 1 ≡ spare_of book

-- The mishap is noted at the letter's ticket. With no mishap nothing is changed.
abbrev pub IsNotedIf : {D : Type 0} → View D → Plan → Letter → Option MishapKind → Nodes D → Nodes D → Type 0
IsNotedIf on plan letter None old new = new ≡ old
IsNotedIf on plan letter (Some kind) old new = Noticed on plan (λ slots. missed kind slots letter) old new

-- with a disk fault alone the letter leaves, if it is to
abbrev pub LeavesIfFailed : Option ℕ → NodeFault → InFlight → InFlight → Type 0
LeavesIfFailed posted Disk flying flying' = flying' ≡ taken_out posted flying
LeavesIfFailed posted Worn flying flying' = flying' ≡ flying
LeavesIfFailed posted (NoMemory down) flying flying' = flying' ≡ flying

-- Where the work of receiver n stopped, the book has it.
abbrev pub EndsStopped : ℕ → Option ℕ → NodeFault → Result Said StepFault → InFlight → Book → InFlight → Book → Type 0
EndsStopped n posted why result flying book flying' book' =
    (result ≡ said_of_fault n why) × LeavesIfFailed posted why flying flying' × MatchBool (takes_down why) (IsEntered n book book') (book' ≡ book)

module _ {D : Type 0} (on : View D) (plan : Plan) (n : ℕ) (posted : Option ℕ) where
  -- What node n sends is in flight, and this is said; or memory ran out, and the node went down.
  abbrev pub AnswersSent : Said → List Letter → Result Said StepFault → Nodes D → InFlight → Book → Nodes D → InFlight → Book → Type 0
  AnswersSent says letters (Ok said) old flying book new flying' book' = (said ≡ says) × SentOff on plan letters posted flying flying' old new × (book' ≡ book)
  AnswersSent says letters (Err why) old flying book new flying' book' = (why ≡ fault.NoMemory (Some n)) × ChangesNode n (IsTurnedTo Down) old new × (flying' ≡ flying) × IsEntered n book book'

  -- a letter that was thrown leaves, if it is not kept; or it is answered all the same
  pub data EndsThrown (why : Why) (letters : List Letter) (result : Result Said StepFault) (old : Nodes D) (flying : InFlight) (book : Book) (new : Nodes D) (flying' : InFlight) (book' : Book) : Type 0 where
    Leaves : letters ≡ [] → result ≡ Ok (Thrown why) → new ≡ old → flying' ≡ taken_out posted flying → book' ≡ book → EndsThrown why letters result old flying book new flying' book'
    IsAnswered : 1 ≤ length letters → AnswersSent (Thrown why) letters result old flying book new flying' book' → EndsThrown why letters result old flying book new flying' book'

  -- so it is of a letter that was heard or thrown
  abbrev pub EndsHeard : Option Why → List Letter → Result Said StepFault → Nodes D → InFlight → Book → Nodes D → InFlight → Book → Type 0
  EndsHeard None letters result old flying book new flying' book' = AnswersSent Heard letters result old flying book new flying' book'
  EndsHeard (Some why) letters result old flying book new flying' book' = EndsThrown why letters result old flying book new flying' book'

  -- what is made of a letter that was handed to its receiver
  abbrev pub EndsPost : Result Outbox NodeFault → Result Said StepFault → Nodes D → InFlight → Book → Nodes D → InFlight → Book → Type 0
  EndsPost (Ok outbox) result old flying book new flying' book' = EndsHeard outbox.thrown outbox.letters result old flying book new flying' book'
  EndsPost (Err why) result old flying book new flying' book' = EndsStopped n posted why result flying book flying' book' × (new ≡ old)
