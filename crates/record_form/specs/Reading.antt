-- Reading a payload from the left. A part is read as its value and the octets after it; nothing is read where the octets begin with no such part.
use Rattle.std.specs.Prelude.{◌≡◌, ℕ, Bool, ◌&&◌, ◌||◌, not, false, true, nat_eq, nat_lt, nat_le, List, [], ◌∷◌, ◌++◌, length, take, drop, Option, Some, None, option_map, Result, Ok, Err, if◌then◌else◌}
use Rattle.std.specs.Int.{Width, w16, w32, w64, byte_len, from_be_bytes, to_be_bytes}
use Rattle.std.specs.Cmp.Lexicographic.{pointwise}
use Rattle.mail_model.specs.Names.{is_name, is_secret, lower}
use Rattle.mail_model.specs.Identity.{Id, EpochId, Stamp, Key, Value, State}
use Rattle.mail_model.specs.Identity.Key.{Profile, Message}
use Rattle.mail_model.specs.Identity.Value.{Here, Gone, Secret}
use Rattle.mail_model.specs.Record.{Record}
use Rattle.mail_model.specs.Record.Record.{Boot, Promise, Octets, Stated, Retired}

infixl 10 ◌>>=◌
abbrev pub ◌>>=◌ : {A B : Type 0} → Option A → (A → Option B) → Option B
None >>= f = None
(Some x) >>= f = f x

-- what a function found, seen by `view`, is what is read
abbrev pub FindsAsRead : {X Y : Type 0} → (X → Y) → Option X → Option Y → Type 0
FindsAsRead view None read = read ≡ None
FindsAsRead view (Some x) read = read ≡ Some (view x)

-- a function that needs memory found what is read, or memory ran out
abbrev pub ReadsPart : {X Y E : Type 0} → (X → Y) → Result (Option X) E → Option Y → Type 0
ReadsPart view (Err e) read = Unit {0}
ReadsPart view (Ok found) read = FindsAsRead view found read

-- the value itself where the test holds
abbrev pub provided : {X : Type 0} → Bool → X → Option X
provided b x = if b then Some x else None

abbrev pub octet_at : List ℕ → Option (ℕ × List ℕ)
octet_at [] = None
octet_at (x ∷ rest) = Some (x, rest)

abbrev pub number_at : Width → List ℕ → Option (ℕ × List ℕ)
number_at w octets = if nat_lt (length octets) (byte_len w) then None else Some (from_be_bytes w (take (byte_len w) octets), drop (byte_len w) octets)

-- an octet that counts, and so many octets
unfoldable pub text_at : List ℕ → Option (List ℕ × List ℕ)
text_at octets = do
  size ← octet_at octets
  if nat_lt (length size.1) size.0 then None else Some (take size.0 size.1, drop size.0 size.1)

abbrev pub node_of : ℕ → Option ℕ
node_of node = if nat_le 1 node && nat_le node 16 then Some node else None

abbrev pub sound_id : ℕ → ℕ → ℕ → Option Id
sound_id node boot seq = if nat_eq boot 0 || nat_eq seq 0 then None else Some (record { node = node; boot = boot; seq = seq })

unfoldable pub id_at : List ℕ → Option (Id × List ℕ)
id_at octets = do
  first ← octet_at octets
  node ← node_of first.0
  boot ← number_at w32 first.1
  seq ← number_at w64 boot.1
  id ← sound_id node boot.0 seq.0
  Some (id, seq.1)

unfoldable pub epoch_at : List ℕ → Option (EpochId × List ℕ)
epoch_at octets = do
  count ← number_at w64 octets
  last ← octet_at count.1
  node ← node_of last.0
  Some (record { count = count.0; node = node }, last.1)

-- a stamp in 13 octets
abbrev pub stamp_octets : Stamp → List ℕ
stamp_octets stamp = to_be_bytes w64 stamp.count ++ to_be_bytes w32 stamp.boot ++ stamp.node ∷ []

unfoldable pub stamp_at : List ℕ → Option (Stamp × List ℕ)
stamp_at octets = do
  count ← number_at w64 octets
  boot ← number_at w32 count.1
  node ← octet_at boot.1
  if nat_lt 16 node.0 then None else Some (record { count = count.0; boot = boot.0; node = node.0 }, node.1)

unfoldable pub targets_at : List ℕ → Option (ℕ × List ℕ)
targets_at octets = do
  mask ← number_at w16 octets
  if nat_eq mask.0 0 then None else Some (mask.0, mask.1)

-- the name that is in lower case as it stands
abbrev pub name_of : List ℕ → Option (List ℕ)
name_of text = if is_name text then (if pointwise nat_eq (lower text) text then Some (lower text) else None) else None

unfoldable pub name_at : List ℕ → Option (List ℕ × List ℕ)
name_at octets = do
  text ← text_at octets
  name ← name_of text.0
  Some (name, text.1)

abbrev pub secret_of : List ℕ → Option (List ℕ)
secret_of text = if is_secret text then Some text else None

unfoldable pub secret_at : List ℕ → Option (List ℕ × List ℕ)
secret_at octets = do
  text ← text_at octets
  secret ← secret_of text.0
  Some (secret, text.1)

-- the key of this kind, for the user
unfoldable pub key_for : ℕ → List ℕ → List ℕ → Option (Key × List ℕ)
key_for kind user octets =
    if nat_eq kind 1 then Some (Profile user, octets)
    else (if nat_eq kind 2 then (id_at octets >>= λ id. Some (Message user id.0, id.1)) else None)

unfoldable pub key_at : List ℕ → Option (Key × List ℕ)
key_at octets = do
  kind ← octet_at octets
  user ← name_at kind.1
  key_for kind.0 user.0 user.1

-- the value of this rank
unfoldable pub value_at : ℕ → List ℕ → Option (Value × List ℕ)
value_at rank octets =
    if nat_eq rank 1 then Some (Here, octets)
    else (if nat_eq rank 2 then Some (Gone, octets)
    else (if nat_eq rank 3 then (secret_at octets >>= λ secret. Some (Secret secret.0, secret.1)) else None))

unfoldable pub state_at : List ℕ → Option (State × List ℕ)
state_at octets = do
  rank ← octet_at octets
  stamp ← stamp_at rank.1
  targets ← targets_at stamp.1
  value ← value_at rank.0 targets.1
  Some (record { value = value.0; stamp = stamp.0; targets = targets.0 }, value.1)

abbrev pub is_ended : List ℕ → Bool
is_ended rest = nat_eq (length rest) 0

-- secrets are of profiles alone, and profiles have nothing else
abbrev pub is_of_kind : Key → Value → Bool
is_of_kind (Profile user) Here = false
is_of_kind (Profile user) Gone = false
is_of_kind (Profile user) (Secret octets) = true
is_of_kind (Message user id) Here = true
is_of_kind (Message user id) Gone = true
is_of_kind (Message user id) (Secret octets) = false

-- a key and a state of it, with nothing after them
unfoldable pub object_in : List ℕ → Option (Key × State)
object_in octets = do
  key ← key_at octets
  state ← state_at key.1
  if is_ended state.1 && is_of_kind key.0 state.0.value then Some (key.0, state.0) else None

unfoldable pub boot_in : List ℕ → Option ℕ
boot_in octets = do
  boot ← number_at w32 octets
  if is_ended boot.1 && not (nat_eq boot.0 0) then Some boot.0 else None

unfoldable pub promise_in : List ℕ → Option EpochId
promise_in octets = do
  epoch ← epoch_at octets
  if is_ended epoch.1 then Some epoch.0 else None

-- the record of this kind that the octets after the kind spell
unfoldable pub record_in : ℕ → List ℕ → Option Record
record_in kind octets =
    if nat_eq kind 1 then option_map Boot (boot_in octets)
    else (if nat_eq kind 2 then option_map Promise (promise_in octets)
    else (if nat_eq kind 3 then option_map (λ id. Octets id.0 id.1) (id_at octets)
    else (if nat_eq kind 4 then option_map (λ one. Stated one.0 one.1) (object_in octets)
    else (if nat_eq kind 5 then option_map (λ one. Retired one.0 one.1) (object_in octets)
    else None))))
