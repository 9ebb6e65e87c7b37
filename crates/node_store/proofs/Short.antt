-- The payload of a state is short.
use Rattle.std.proofs.Common.{ℕ, ◌≤◌, List, ◌∷◌, ◌++◌, length, not, nat_eq, arith}
use Rattle.std.specs.List.{list_all, list_any}
use Rattle.std.proofs.lemmas.Bool.{and_parts, leb-true}
use Rattle.std.proofs.lemmas.List.{length-append}
use Rattle.std.specs.Prelude.{nat_le, ◌&&◌, ◌||◌}
use Rattle.mail_model.specs.Names.{is_printable, is_no_name_octet, begins_with, IsLowerName}
use Rattle.mail_model.specs.Identity.{Key, Value, State}
use Rattle.mail_model.specs.Identity.Key.{Profile, Message}
use Rattle.mail_model.specs.Identity.Value.{Here, Gone, Secret}
use Rattle.mail_model.specs.Record.{key_octets, secret_octets, state_octets, payload_of, id_octets}
use Rattle.mail_model.specs.Record.Record.{Stated, Retired}
use Rattle.mail_model.specs.Grammar.{IsKey, IsValue, IsObject}

short_name : (user : List ℕ) → IsLowerName user → length user ≤ 64
short_name user n =
    let both = and_parts (not (nat_eq (length user) 0) && nat_le (length user) 64) (not (begins_with 64 user || list_any is_no_name_octet user)) n.name in
    leb-true (length user) 64 (and_parts (not (nat_eq (length user) 0)) (nat_le (length user) 64) both.0).1

short_secret : (value : Value) → IsValue value → length (secret_octets value) ≤ 65
short_secret Here v = omega arith
short_secret Gone v = omega arith
short_secret (Secret octets) v =
    let both = and_parts (not (nat_eq (length octets) 0) && nat_le (length octets) 64) (list_all is_printable octets) v in
    omega (arith, leb-true (length octets) 64 (and_parts (not (nat_eq (length octets) 0)) (nat_le (length octets) 64) both.0).1)

short_key : (key : Key) → IsKey key → length (key_octets key) ≤ 79
short_key (Profile user) k = omega (arith, short_name user k)
short_key (Message user id) k = omega (arith, short_name user k.0, length-append user (id_octets id))

short_parts : (kind : ℕ) (key : Key) (state : State) → IsObject key state → length (kind ∷ key_octets key ++ state_octets state) ≤ 256
short_parts kind key state o =
    omega (arith, short_key key o.key_fits, short_secret state.value o.state_fits.value, length-append (key_octets key) (state_octets state))

pub short_state : (key : Key) (state : State) → IsObject key state → length (payload_of (Stated key state)) ≤ 256
short_state key state o = short_parts 4 key state o

pub short_retired : (key : Key) (state : State) → IsObject key state → length (payload_of (Retired key state)) ≤ 256
short_retired key state o = short_parts 5 key state o
