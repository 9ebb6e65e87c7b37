-- Where the octets of each message lie in the journal.
use Rattle.std.specs.Prelude.{◌≡◌, ℕ, ◌+◌, ◌-◌, ◌≤◌, List, length, take, drop, Option, Some, None}
use Rattle.std.specs.BTreeMap.{get}
use Rattle.mail_model.specs.Identity.{Id}
use Rattle.mail_model.specs.Record.{payload_of}
use Rattle.mail_model.specs.Record.Record.{Octets}
use Rattle.mail_base.specs.Orders.{id_cmp}
use Rattle.disk_journal.specs.declared.place.Place.{Place}
use Rattle.message_store.specs.declared.store.MessageStore.{MessageStore}

-- the place of the message's record, where one is noted
abbrev pub place_of : MessageStore → Id → Option Place
place_of store id = get id_cmp store.places id

-- how many octets a message has whose record lies there: the kind and the id come before them
abbrev pub count_at : Place → ℕ
count_at place = place.length - 14

-- the first record of an id is the one that counts
abbrev pub first_of : Option Place → Place → Option Place
first_of None place = Some place
first_of (Some first) place = Some first

-- both have the same places
abbrev pub HasSamePlaces : MessageStore → MessageStore → Type 0
HasSamePlaces old new = (other : Id) → place_of new other ≡ place_of old other

-- the octets of the message lie at the place: the payload there spells them
pub record IsMessageAt (held : List ℕ) (place : Place) (id : Id) (octets : List ℕ) : Type 0 where
  pub within : place.at + place.length ≤ length held
  pub whole : take place.length (drop place.at held) ≡ payload_of (Octets id octets)
