-- The letters by which nodes speak: who sends what to whom, and what each kind carries.
use Rattle.std.specs.Prelude.{ℕ, Bool, true, false, List, Option}
use Rattle.mail_model.specs.Identity.{Id, Stamp, EpochId, Key, State}
use Rattle.mail_model.specs.Plan.{Proof}

-- the number of a ticket: its node, the boot of that node, and a number drawn in that boot
pub record Number : Type 0 where
  pub node : ℕ
  pub boot : ℕ
  pub seq : ℕ

-- What a manager tells a login: the nodes that hold messages of the user, the stamp of the profile that the proof does not match, the ticket that
-- holds the maildrop, or that it knows no profile of the user.
pub data LoginWord : Type 0 where
  Named : (nodes : ℕ) → LoginWord
  Wrong : (stamp : Stamp) → LoginWord
  InUse : (by : Number) → LoginWord
  NoProfile : LoginWord

-- a message that is here, with the number of its octets
pub record ToldItem : Type 0 where
  pub id : Id
  pub stamp : Stamp
  pub targets : ℕ
  pub size : ℕ

-- a part of a message with the number of all its octets, or the stamp of its deletion
pub data ToldPart : Type 0 where
  Octets : (octets : List ℕ) (whole : ℕ) → ToldPart
  Gone : (stamp : Stamp) → ToldPart

-- one deletion of a Strike
pub record DeletionMark : Type 0 where
  pub id : Id
  pub stamp : Stamp

-- a node says that it manages a bucket, and since which epoch
pub record Claim : Type 0 where
  pub node : ℕ
  pub bucket : ℕ
  pub since : EpochId

-- a node in a boot, with the epoch that it had installed as it joined
pub record Member : Type 0 where
  pub node : ℕ
  pub boot : ℕ
  pub was : EpochId

-- who manages a bucket, and since which epoch
pub record MapRow : Type 0 where
  pub manager : ℕ
  pub since : EpochId

-- an epoch with its members, and with the manager of each bucket
pub record Membership : Type 0 where
  pub epoch : EpochId
  pub members : List Member
  pub map : List MapRow

-- What a node in a boot says of a user: whether it holds a message of the user, and its profile of the user with the stamp.
pub record Row : Type 0 where
  pub user : List ℕ
  pub node : ℕ
  pub boot : ℕ
  pub version : ℕ
  pub full : Bool
  pub profile : Option (Stamp × List ℕ)

pub data Body : Type 0 where
  -- a message is to be stored for these users, and that it was
  File : (id : Id) (stamp : Stamp) (targets : ℕ) (users : List (List ℕ)) (octets : List ℕ) → Body
  Filed : (id : Id) → Body
  -- a manager is asked to let a user in
  LoginAsk : (user : List ℕ) (proof : Proof) → Body
  LoginTold : (word : LoginWord) → Body
  -- a node is asked for the user's messages
  ListAsk : (user : List ℕ) → Body
  ListTold : (items : List ToldItem) → Body
  -- and for a part of one
  FetchAsk : (user : List ℕ) (id : Id) (at most : ℕ) → Body
  FetchTold : (part : ToldPart) → Body
  -- copies are to be deleted, and that they were
  Strike : (user : List ℕ) (marks : List DeletionMark) → Body
  StrikeTold : (user : List ℕ) (ids : List Id) → Body
  -- a maildrop is free again
  Unlock : (user : List ℕ) (login : Number) → Body
  -- a state, with the octets of the message where the state is Here; that it was taken; and that all its targets have it
  Push : (key : Key) (state : State) (octets : Option (List ℕ)) → Body
  PushAck : (key : Key) (state : State) → Body
  Retire : (key : Key) (state : State) → Body
  -- the three rounds by which an epoch is formed
  Group : (epoch : EpochId) → Body
  Join : (epoch promise : EpochId) (boot : ℕ) (was : EpochId) (claims : List Claim) → Body
  Install : (membership : Membership) → Body
  -- what a node holds of a user, for the user's manager
  Report : (row : Row) → Body
  ReportAck : (user : List ℕ) (version : ℕ) → Body

-- a letter carries the epoch of its sender, and the ticket that it asks for or answers
pub record Letter : Type 0 where
  pub from : ℕ
  pub to : ℕ
  pub epoch : EpochId
  pub ticket : Option Number
  pub body : Body

-- letters of calls that read, and of locks
abbrev pub is_read_body : Body → Bool
is_read_body (Body.LoginAsk user proof) = true
is_read_body (Body.LoginTold word) = true
is_read_body (Body.ListAsk user) = true
is_read_body (Body.ListTold items) = true
is_read_body (Body.FetchAsk user id at most) = true
is_read_body (Body.FetchTold part) = true
is_read_body (Body.Unlock user login) = true
is_read_body body = false
