-- What a cluster owes of the calls that it began and that it answered. It speaks of these two lists and of no session.
use Rattle.std.specs.Prelude.{◌≡◌, ◌≢◌, ℕ, Bool, true, List, length, map, flat_map, AllPairs, Option, Some, slice_get}
use Rattle.mail_model.specs.Identity.{Id}
use Rattle.mail_model.specs.Grammar.{IsId}
use Rattle.mail_model.specs.Lines.{closed}
use Rattle.mail_model.specs.Plan.{Plan}
use Rattle.mail_model.specs.Transcript.{Entry}
use Rattle.mail_model.specs.PopReplies.{Item}
use Rattle.mail_model.specs.Record.{Record}
use Rattle.mail_model.specs.Stored.{Ack, HaveOtherIds}
use Rattle.mail_model.specs.Book.{BookEntry}
use Rattle.mail_model.specs.Maildrop.{Given}
use Rattle.session_model.specs.Calls.Call.{Login, Fetch, Strike}
use Rattle.session_model.specs.Calls.Answer.{Listed, Part, Dropped}
use Rattle.session_model.specs.Copies.{AreDisks, EachStands, AreGoneOn, DroppedAreGone, HasRecordOf, OneContent}
use Rattle.session_model.specs.Sessions.{Session}
use Rattle.session_model.specs.Facts.{IsIn, IsGoneIn, DroppedAreTrue, ListingsAreTrue, OwnAreTrue, PartsAreTrue}
use Rattle.session_model.specs.Acts.{Act}
use Rattle.session_model.specs.Logs.{Asked, Answered, asked_by, answered_by}
use Rattle.session_model.specs.Books.{Among, AmongAnswers, IsBookOf, AcknowledgedStand, AreAcksOf}
use Rattle.session_model.specs.Runs.{Shows}

-- what is gone was asked for, what was answered `Dropped` is gone, and a listing has each id once, and only ids that a journal can spell
pub record OwesDeletions (plan : Plan) (disks : List (List Record)) (begun : List Asked) (answered : List Answered) : Type 0 where
  pub asks : (n : ℕ) (user : List ℕ) (id : Id) → IsGoneIn disks n user id → (k : ℕ) × (ids : List Id) × Among (record { session = k; call = Strike user ids }) begun × IsIn id ids
  pub gone : (k : ℕ) (user : List ℕ) (ids : List Id) (id : Id) → AmongAnswers (record { session = k; call = Strike user ids; answer = Dropped }) answered → IsIn id ids
      → (nodes : List ℕ) × AreGoneOn plan disks user id nodes
  pub once : (k : ℕ) (user : List ℕ) (given : Given) (items : List Item) → AmongAnswers (record { session = k; call = Login user given; answer = Listed items }) answered
      → AllPairs (λ (a b : Id). a ≢ b) (map (λ (item : Item). item.id) items)
  pub named : (k : ℕ) (user : List ℕ) (given : Given) (items : List Item) → AmongAnswers (record { session = k; call = Login user given; answer = Listed items }) answered
      → (i : ℕ) (item : Item) → slice_get items i ≡ Some item → IsId item.id

-- each message that was answered `Stored` stands on the nodes that confirmed it, under an id of its own and of the node of its session
pub record OwesStored (plan : Plan) (lines : List (List ℕ)) (disks : List (List Record)) (answered : List Answered) (acks : List Ack) (confirmers : List (List ℕ)) : Type 0 where
  pub are : AreAcksOf answered acks
  pub stand : EachStands plan lines disks acks confirmers
  pub other_ids : HaveOtherIds acks

-- each message of a listing is one of which some node has a record as a copy of the user who was let in
abbrev pub OwesListings : List (List Record) → List Answered → Type 0
OwesListings disks answered = (k : ℕ) (user : List ℕ) (given : Given) (items : List Item) → AmongAnswers (record { session = k; call = Login user given; answer = Listed items }) answered
    → (i : ℕ) (item : Item) → slice_get items i ≡ Some item → HasRecordOf disks user item.id

-- listings and parts are as it is filed
pub record OwesParts (filed : Id → Option (List ℕ)) (answered : List Answered) : Type 0 where
  pub sizes : (k : ℕ) (user : List ℕ) (given : Given) (items : List Item) → AmongAnswers (record { session = k; call = Login user given; answer = Listed items }) answered
      → (i : ℕ) (item : Item) → slice_get items i ≡ Some item → (octets : List ℕ) × (filed item.id ≡ Some octets) × (item.size ≡ length octets)
  pub parts : (k : ℕ) (user : List ℕ) (id : Id) (part : List ℕ) → AmongAnswers (record { session = k; call = Fetch user id; answer = Part part }) answered
      → (filed id ≡ Some part) × (closed part ≡ part)

-- Its entries are those of the calls that were begun and that were answered, in their order, and no others; each copy that was acknowledged stands on the nodes that
-- confirmed it, which are enough, and each copy whose deletion was confirmed is gone.
pub record OwesBook (plan : Plan) (lines : List (List ℕ)) (disks : List (List Record)) (begun : List Asked) (answered : List Answered) (acks : List Ack) (confirmers : List (List ℕ)) (book : List BookEntry) : Type 0 where
  pub is_book : IsBookOf lines begun answered acks confirmers book
  pub stand : AcknowledgedStand plan disks book acks confirmers
  pub dropped : DroppedAreGone plan disks book

-- All that a cluster owes of the calls that it began and that it answered. The octets of a message are told by `filed` where the disks tell theirs.
pub record Owes (plan : Plan) (tells : Bool) (lines : List (List ℕ)) (stores : List (Option (List ℕ))) (disks : List (List Record)) (filed : Id → Option (List ℕ))
    (begun : List Asked) (answered : List Answered) (book : List BookEntry) : Type 0 where
  -- the stores hold the records of the nodes
  pub holds : AreDisks 1 stores disks
  pub one_content : OneContent filed disks
  -- the messages that were acknowledged, and the nodes that confirmed each, in the order of the answers
  pub acks : List Ack
  pub confirmers : List (List ℕ)
  pub stored : OwesStored plan lines disks answered acks confirmers
  pub deletions : OwesDeletions plan disks begun answered
  pub listings : OwesListings disks answered
  pub parts : tells ≡ true → OwesParts filed answered
  pub books : OwesBook plan lines disks begun answered acks confirmers book

-- what is owed of the calls is true in the sessions
abbrev pub OwedDeletionsAreTrue : Type 0
OwedDeletionsAreTrue = (plan : Plan) (lines : List (List ℕ)) (entries : List Entry) (disks : List (List Record)) (acts : List Act) (sessions : List Session)
    → Shows plan lines entries acts sessions → OwesDeletions plan disks (flat_map asked_by acts) (flat_map answered_by acts)
    → DroppedAreTrue plan disks sessions

abbrev pub OwedListingsAreTrue : Type 0
OwedListingsAreTrue = (plan : Plan) (lines : List (List ℕ)) (entries : List Entry) (disks : List (List Record)) (acts : List Act) (sessions : List Session)
    → Shows plan lines entries acts sessions → OwesDeletions plan disks (flat_map asked_by acts) (flat_map answered_by acts) → ListingsAreTrue sessions

abbrev pub OwedListingsAreOwn : Type 0
OwedListingsAreOwn = (plan : Plan) (lines : List (List ℕ)) (entries : List Entry) (disks : List (List Record)) (acts : List Act) (sessions : List Session)
    → Shows plan lines entries acts sessions → OwesListings disks (flat_map answered_by acts) → OwnAreTrue disks sessions

abbrev pub OwedPartsAreTrue : Type 0
OwedPartsAreTrue = (plan : Plan) (lines : List (List ℕ)) (entries : List Entry) (filed : Id → Option (List ℕ)) (acts : List Act) (sessions : List Session)
    → Shows plan lines entries acts sessions → OwesParts filed (flat_map answered_by acts) → PartsAreTrue filed sessions
