-- How keys and states are told from one another.
use Rattle.std.specs.Prelude.{◌≡◌, ℕ, List, Option, Some, None, refl}
use Rattle.std.specs.Coded.{Coded, code_by, coded×, coded_ℕ, coded_list, coded_option}
use Rattle.mail_model.specs.Identity.{Id, Stamp, Key, Value, State}
use Rattle.mail_model.specs.Identity.Key.{Profile, Message}
use Rattle.mail_model.specs.Identity.Value.{Here, Gone, Secret}
use Rattle.mail_base.specs.Codes.{id_code}

-- a key is stored as a name, with an id or without
abbrev pub key_stored : Key → Option Id × List ℕ
key_stored (Profile user) = (None, user)
key_stored (Message user id) = (Some id, user)

abbrev pub key_read : Option Id → List ℕ → Key
key_read None user = Profile user
key_read (Some id) user = Message user id

pub key_again : (key : Key) → key_read (key_stored key).0 (key_stored key).1 ≡ key
key_again (Profile user) = refl
key_again (Message user id) = refl

abbrev pub key_code : Coded Key
key_code = code_by (Option Id × List ℕ) (coded× (coded_option id_code) (coded_list coded_ℕ)) key_stored (λ p. key_read p.0 p.1) key_again

-- a value is stored as nothing, as that there is something, or as a secret
abbrev pub value_stored : Value → Option (Option (List ℕ))
value_stored Here = None
value_stored Gone = Some None
value_stored (Secret octets) = Some (Some octets)

abbrev pub value_read : Option (Option (List ℕ)) → Value
value_read None = Here
value_read (Some None) = Gone
value_read (Some (Some octets)) = Secret octets

pub value_again : (value : Value) → value_read (value_stored value) ≡ value
value_again Here = refl
value_again Gone = refl
value_again (Secret octets) = refl

abbrev pub value_code : Coded Value
value_code = code_by (Option (Option (List ℕ))) (coded_option (coded_option (coded_list coded_ℕ))) value_stored value_read value_again

abbrev pub stamp_code : Coded Stamp
stamp_code = code_by (ℕ × (ℕ × ℕ)) (coded× coded_ℕ (coded× coded_ℕ coded_ℕ)) (λ s. (s.count, (s.boot, s.node))) (λ p. record { count = p.0; boot = p.1.0; node = p.1.1 }) (λ _. refl)

abbrev pub state_code : Coded State
state_code = code_by (Value × (Stamp × ℕ)) (coded× value_code (coded× stamp_code coded_ℕ)) (λ s. (s.value, (s.stamp, s.targets))) (λ p. record { value = p.0; stamp = p.1.0; targets = p.1.1 }) (λ _. refl)
