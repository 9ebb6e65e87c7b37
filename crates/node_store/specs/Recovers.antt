-- What a start finds beside the store, in the machine's words.
use Rattle.std.specs.Prelude.{◌≡◌, ℕ, ◌&&◌, nat_eq, List, [], ◌∷◌, ◌++◌, Option, Some, None, if◌then◌else◌}
use Rattle.std.specs.Ordering.{nat_cmp}
use Rattle.std.specs.BTreeMap as tree
use Rattle.mail_model.specs.Identity.{Id, EpochId, Key}
use Rattle.mail_model.specs.Identity.Key.{Profile, Message}
use Rattle.mail_model.specs.Record.{Record}
use Rattle.mail_model.specs.Record.Record.{Boot, Promise, Octets, Stated, Retired}
use Rattle.cluster_model.specs.Claims.{boot_of}
use Rattle.cluster_model.specs.Starts.{greatest_count_on, drawn_on, recovered}
use Rattle.whole_model.specs.Whole.{promise_of}
use Rattle.node_store.specs.declared.recovered.Recovered.{Recovered}

abbrev pub boot_found : Recovered → ℕ
boot_found found = found.boot

abbrev pub count_found : Recovered → ℕ
count_found found = found.count

-- the epoch of the last promise
abbrev pub promise_found : Recovered → EpochId
promise_found found = found.promise

abbrev pub or_zero : Option ℕ → ℕ
or_zero None = 0
or_zero (Some number) = number

-- the greatest number of a message of the own node and this boot
abbrev pub drawn_found : Recovered → ℕ → ℕ
drawn_found found boot = or_zero (tree.get nat_cmp found.numbers boot)

-- it has what these records name: the last boot, the last promise, the greatest count of a stamp, and for each boot the greatest number that a message of the own node has
pub record Recovers (own : ℕ) (records : List Record) (found : Recovered) : Type 0 where
  pub boot : boot_found found ≡ boot_of records
  pub promise : promise_found found ≡ promise_of records
  pub count : count_found found ≡ greatest_count_on 0 records
  pub drawn : (boot : ℕ) → drawn_found found boot ≡ drawn_on own boot 0 records

-- the id that the record names
abbrev pub id_of_key : Key → Option Id
id_of_key (Profile user) = None
id_of_key (Message user id) = Some id

abbrev pub id_named : Record → Option Id
id_named (Octets id octets) = Some id
id_named (Stated key state) = id_of_key key
id_named (Retired key state) = id_of_key key
id_named (Boot boot) = None
id_named (Promise epoch) = None

-- the number of the id, where it is of this node and boot
abbrev pub number_for : ℕ → ℕ → Option Id → ℕ
number_for own boot None = 0
number_for own boot (Some id) = if nat_eq id.node own && nat_eq id.boot boot then id.seq else 0

-- the record of a boot changes nothing of what a start finds, but that this is the last boot
abbrev pub BootsChangeNothing : Type 0
BootsChangeNothing = (own boot : ℕ) (records : List Record) → (recovered own (records ++ Boot boot ∷ []) ≡ recovered own records)
    × (boot_of (records ++ Boot boot ∷ []) ≡ boot)
    × (greatest_count_on 0 (records ++ Boot boot ∷ []) ≡ greatest_count_on 0 records)
    × ((other : ℕ) → drawn_on own other 0 (records ++ Boot boot ∷ []) ≡ drawn_on own other 0 records)
    × (promise_of (records ++ Boot boot ∷ []) ≡ promise_of records)

-- the record of a promise changes nothing of what a start finds, but that this is the last promise
abbrev pub PromisesChangeNothing : Type 0
PromisesChangeNothing = (own : ℕ) (epoch : EpochId) (records : List Record) → (recovered own (records ++ Promise epoch ∷ []) ≡ recovered own records)
    × (boot_of (records ++ Promise epoch ∷ []) ≡ boot_of records)
    × (promise_of (records ++ Promise epoch ∷ []) ≡ epoch)
    × (greatest_count_on 0 (records ++ Promise epoch ∷ []) ≡ greatest_count_on 0 records)
    × ((other : ℕ) → drawn_on own other 0 (records ++ Promise epoch ∷ []) ≡ drawn_on own other 0 records)
