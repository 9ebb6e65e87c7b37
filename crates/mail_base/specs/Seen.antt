-- Values of the code's enums in the plain words of the definitions.
use Rattle.mail_model.specs.Identity as plain
use Rattle.mail_base.specs.declared.key.Key.{Key}
use Rattle.mail_base.specs.declared.key.Key.TheVariants.{Profile, Message}
use Rattle.mail_base.specs.declared.value.Value.{Value}
use Rattle.mail_base.specs.declared.value.Value.TheVariants.{Here, Gone, Secret}

abbrev pub key_seen : Key → plain.Key
key_seen (Profile user) = plain.Key.Profile user
key_seen (Message user id) = plain.Key.Message user id

abbrev pub value_seen : Value → plain.Value
value_seen Here = plain.Value.Here
value_seen Gone = plain.Value.Gone
value_seen (Secret octets) = plain.Value.Secret octets

-- what a copy of a message may be
abbrev pub IsOfMessage : plain.Value → Type 0
IsOfMessage plain.Value.Here = Unit {0}
IsOfMessage plain.Value.Gone = Unit {0}
IsOfMessage (plain.Value.Secret octets) = ⊥
