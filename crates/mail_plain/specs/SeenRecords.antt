-- What a contract sees of records, and how one record more is read.
use Rattle.std.specs.Prelude.{List, [], ◌∷◌, map, Option, Some, None}
use Rattle.mail_model.specs.Identity.Key.{Message, Profile}
use Rattle.mail_model.specs.Identity.Value.{Secret}
use Rattle.mail_model.specs.Record as spelt
use Rattle.mail_model.specs.Plain.{value_of}
use Rattle.mail_plain.specs.declared.record.Record.{Record}
use Rattle.mail_plain.specs.declared.record.Record.TheVariants.{Boot, Promise, Octets, Copy, Profile as ProfileOf, Retired}

-- the record whose octets are those that are borrowed
abbrev pub record_seen : Record → spelt.Record
record_seen (Boot boot) = spelt.Record.Boot boot
record_seen (Promise count node) = spelt.Record.Promise (record { count = count; node = node })
record_seen (Octets id octets) = spelt.Record.Octets id octets.now
record_seen (Copy user id fate stamp targets) =
    spelt.Record.Stated (Message user.now id) (record { value = value_of fate; stamp = stamp; targets = targets })
record_seen (ProfileOf user secret stamp targets) =
    spelt.Record.Stated (Profile user.now) (record { value = Secret secret.now; stamp = stamp; targets = targets })
record_seen (Retired user id fate stamp targets) =
    spelt.Record.Retired (Message user.now id) (record { value = value_of fate; stamp = stamp; targets = targets })

abbrev pub records_seen : List Record → List spelt.Record
records_seen records = map record_seen records

-- a list of what there is
abbrev pub listed : {X : Type 0} → Option X → List X
listed None = []
listed (Some x) = x ∷ []
