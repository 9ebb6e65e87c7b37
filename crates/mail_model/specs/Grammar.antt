-- Which ids, stamps, epochs, keys, states and records a journal can spell. Each number fits the octets that spell it, and each name and secret is valid.
-- A journal is read as a list of such records, and of no others.
use Rattle.std.specs.Prelude.{◌<◌, ◌≤◌, ◌^◌, ℕ, IsTrue, ⊤}
use Rattle.mail_model.specs.Names.{IsLowerName, is_secret}
use Rattle.mail_model.specs.Identity.{Id, EpochId, Stamp, Key, Value, State}
use Rattle.mail_model.specs.Identity.Key.{Profile, Message}
use Rattle.mail_model.specs.Identity.Value.{Here, Gone, Secret}
use Rattle.mail_model.specs.Record.{Record}
use Rattle.mail_model.specs.Record.Record.{Boot, Promise, Octets, Stated, Retired}

-- the number of a node
abbrev pub IsNodeNumber : ℕ → Type 0
IsNodeNumber node = (1 ≤ node) × (node ≤ 16)

-- a number above 0 that so many bits hold
abbrev pub IsCount : ℕ → ℕ → Type 0
IsCount bits number = (0 < number) × (number < 2 ^ bits)

-- an id: its boot and its number are above 0
pub record IsId (id : Id) : Type 0 where
  pub node : IsNodeNumber id.node
  pub boot : IsCount 32 id.boot
  pub seq : IsCount 64 id.seq

-- a stamp: one that no node made has node 0
pub record IsStamp (stamp : Stamp) : Type 0 where
  pub count : stamp.count < 2 ^ 64
  pub boot : stamp.boot < 2 ^ 32
  pub node : stamp.node ≤ 16

-- an epoch that a node formed
pub record IsEpoch (epoch : EpochId) : Type 0 where
  pub count : epoch.count < 2 ^ 64
  pub node : IsNodeNumber epoch.node

-- a key: the name of its user is in lower case
abbrev pub IsKey : Key → Type 0
IsKey (Profile user) = IsLowerName user
IsKey (Message user id) = IsLowerName user × IsId id

-- a value: a secret has 1 to 64 printable octets
abbrev pub IsValue : Value → Type 0
IsValue Here = ⊤
IsValue Gone = ⊤
IsValue (Secret octets) = IsTrue (is_secret octets)

-- a state: it has a target, and none above node 16
pub record IsState (state : State) : Type 0 where
  pub value : IsValue state.value
  pub stamp : IsStamp state.stamp
  pub targets : IsCount 16 state.targets

-- secrets are of profiles alone, and profiles have nothing else
abbrev pub IsOfKind : Key → Value → Type 0
IsOfKind (Profile user) Here = ⊥
IsOfKind (Profile user) Gone = ⊥
IsOfKind (Profile user) (Secret octets) = ⊤
IsOfKind (Message user id) Here = ⊤
IsOfKind (Message user id) Gone = ⊤
IsOfKind (Message user id) (Secret octets) = ⊥

-- an object and a state that it can have
pub record IsObject (key : Key) (state : State) : Type 0 where
  pub key_fits : IsKey key
  pub state_fits : IsState state
  pub kind : IsOfKind key state.value

-- a record that a journal can spell
abbrev pub IsRecord : Record → Type 0
IsRecord (Boot boot) = IsCount 32 boot
IsRecord (Promise epoch) = IsEpoch epoch
IsRecord (Octets id octets) = IsId id
IsRecord (Stated key state) = IsObject key state
IsRecord (Retired key state) = IsObject key state
