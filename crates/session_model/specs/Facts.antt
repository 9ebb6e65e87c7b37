-- What has to be true of the answers that nodes gave, by what their records say in the end: the one thing that promises ask of a cluster.
use Rattle.std.specs.Prelude.{◌≡◌, ◌⊎◌, ℕ, List, [], ◌∷◌, ◌++◌, length, Option, Some, slice_get}
use Rattle.mail_model.specs.Identity.{Id}
use Rattle.mail_model.specs.Identity.Key.{Message}
use Rattle.mail_model.specs.Lines.{closed}
use Rattle.mail_model.specs.Plan.{Plan}
use Rattle.mail_model.specs.PopReplies.{Item}
use Rattle.mail_model.specs.Record.{Record, SaysGone}
use Rattle.mail_model.specs.Stored.{Ack}
use Rattle.mail_model.specs.Maildrop.{Given}
use Rattle.session_model.specs.Calls.Call.{Login, Fetch, Strike}
use Rattle.session_model.specs.Calls.Answer.{Listed, Part, Dropped}
use Rattle.session_model.specs.Talk.{Exchange}
use Rattle.session_model.specs.Copies.{AreGoneOn, HasRecordOf}
use Rattle.session_model.specs.Mailing.{StoredMail}
use Rattle.session_model.specs.Reading.{ListsOnce, ListsNamed, Each}
use Rattle.session_model.specs.Sessions.{Session, session_at, exchanges_of}

-- the id is one of these
abbrev pub IsIn : Id → List Id → Type 0
IsIn id [] = ⊥
IsIn id (other ∷ ids) = (other ≡ id) ⊎ IsIn id ids

-- a message that was filed in session k, but for its seconds
abbrev pub ack_of : ℕ → StoredMail → Ack
ack_of k filing = record { session = k; mail = filing.mail; id = filing.id; seconds = 0 }

-- the session asked that the user's copies of these messages be deleted
abbrev pub AsksDeletion : Session → List ℕ → List Id → Exchange → Type 0
AsksDeletion session user ids one = (before : List Exchange) × (behind : List Exchange) × (exchanges_of session ≡ before ++ one ∷ behind) × (one.call ≡ Some (Strike user ids))

-- the records of node n + 1 say that the user's copy is gone
abbrev pub IsGoneIn : List (List Record) → ℕ → List ℕ → Id → Type 0
IsGoneIn disks n user id = (records : List Record) × (slice_get disks n ≡ Some records) × SaysGone (Message user id) records

-- what is gone was to be deleted, each `Dropped` is gone, and a listing has each id once
pub record DroppedAreTrue (plan : Plan) (disks : List (List Record)) (sessions : List Session) : Type 0 where
  pub asked : (n : ℕ) (user : List ℕ) (id : Id) → IsGoneIn disks n user id
      → (k : ℕ) × (session : Session) × (ids : List Id) × (one : Exchange) × (session_at sessions k ≡ Some session) × AsksDeletion session user ids one × IsIn id ids
  pub gone : (k : ℕ) (session : Session) (user : List ℕ) (ids : List Id) (one : Exchange) → session_at sessions k ≡ Some session → AsksDeletion session user ids one
      → one.answer ≡ Some Dropped → (id : Id) → IsIn id ids → (nodes : List ℕ) × AreGoneOn plan disks user id nodes
  pub once : (k : ℕ) (session : Session) → session_at sessions k ≡ Some session → Each ListsOnce (exchanges_of session)

-- each listing has each id once, and only ids that a journal can spell
pub record ListingsAreTrue (sessions : List Session) : Type 0 where
  pub once : (k : ℕ) (session : Session) → session_at sessions k ≡ Some session → Each ListsOnce (exchanges_of session)
  pub named : (k : ℕ) (session : Session) → session_at sessions k ≡ Some session → Each ListsNamed (exchanges_of session)

-- each message of a listing is one of which some node has a record as a copy of the user who was let in
abbrev pub ListsOwn : List (List Record) → Exchange → Type 0
ListsOwn disks one = (user : List ℕ) (given : Given) (items : List Item) → one.call ≡ Some (Login user given) → one.answer ≡ Some (Listed items) → (i : ℕ) (item : Item) → slice_get items i ≡ Some item
    → HasRecordOf disks user item.id

abbrev pub OwnAreTrue : List (List Record) → List Session → Type 0
OwnAreTrue disks sessions = (k : ℕ) (session : Session) → session_at sessions k ≡ Some session → Each (ListsOwn disks) (exchanges_of session)

-- the sizes of a listing that a login was answered with are those of what is filed
abbrev pub SizesFiled : (Id → Option (List ℕ)) → Exchange → Type 0
SizesFiled filed one = (user : List ℕ) (given : Given) (items : List Item) → one.call ≡ Some (Login user given) → one.answer ≡ Some (Listed items) → (i : ℕ) (item : Item) → slice_get items i ≡ Some item
    → (octets : List ℕ) × (filed item.id ≡ Some octets) × (item.size ≡ length octets)

-- a part is what is filed, which is closed
abbrev pub IsPartFiled : (Id → Option (List ℕ)) → Exchange → Type 0
IsPartFiled filed one = (user : List ℕ) (id : Id) (part : List ℕ) → one.call ≡ Some (Fetch user id) → one.answer ≡ Some (Part part)
    → (filed id ≡ Some part) × (closed part ≡ part)

-- each listing and each part is as it is filed, by the octets that each id has
pub record PartsAreTrue (filed : Id → Option (List ℕ)) (sessions : List Session) : Type 0 where
  pub sizes : (k : ℕ) (session : Session) → session_at sessions k ≡ Some session → Each (SizesFiled filed) (exchanges_of session)
  pub parts : (k : ℕ) (session : Session) → session_at sessions k ≡ Some session → Each (IsPartFiled filed) (exchanges_of session)
