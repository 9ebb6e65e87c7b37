-- Letters in flight have numbers, and there is room for so many of them.
use Rattle.std.specs.Prelude.{ℕ, ◌+◌, Bool, not, ◌&&◌, nat_eq, nat_lt, nat_le, List, [], ◌∷◌, length, map, Some, if◌then◌else◌}
use Rattle.std.specs.FinMap as fin
use Rattle.mail_model.specs.Identity.{Key}
use Rattle.mail_model.specs.Record.{Record}
use Rattle.object_model.specs.Sets.{has}
use Rattle.object_model.specs.Letters.{Body, Letter}
use Rattle.object_model.specs.Letters.ToldPart.{Octets}
use Rattle.object_model.specs.Letters.Body.{File, FetchTold, Push}
use Rattle.object_model.specs.UpdateLog.{due}
use Rattle.cluster_model.specs.Cluster.{Node, epoch_of, members_of}
use Rattle.cluster_model.specs.Rules.{push_of}

-- a letter in flight, with its number
pub record Flight : Type 0 where
  pub number : ℕ
  pub letter : Letter

-- the octets of a message, or of a part of one, that a letter carries
abbrev pub message_octets : Body → ℕ
message_octets (File id stamp targets users octets) = length octets
message_octets (FetchTold (Octets octets whole)) = length octets
message_octets (Push key state (Some octets)) = length octets
message_octets body = 0

-- what a letter counts for
abbrev pub octets_of : Letter → ℕ
octets_of letter = 64 + message_octets letter.body

abbrev pub octets_of_all : List Letter → ℕ
octets_of_all [] = 0
octets_of_all (letter ∷ letters) = octets_of letter + octets_of_all letters

abbrev pub octets_flying : List Flight → ℕ
octets_flying flying = octets_of_all (map (λ flight. flight.letter) flying)

abbrev pub most_letters : ℕ
most_letters = 65536

abbrev pub most_octets : ℕ
most_octets = 536870912

-- whether there is room for as many letters, with as many octets, and one of so many more
abbrev pub fits : ℕ → ℕ → ℕ → Bool
fits letters octets size = nat_lt letters most_letters && nat_le (octets + size) most_octets

-- whether a letter finds room beside those in flight
abbrev pub has_room : List Flight → Letter → Bool
has_room flying letter = fits (length flying) (octets_flying flying) (octets_of letter)

-- the first of these keys, as many as there is room for their letters
abbrev pub fitting : (Key → List Letter) → ℕ → ℕ → List Key → List Key
fitting letter_of letters octets [] = []
fitting letter_of letters octets (key ∷ keys) =
    if fits letters octets (octets_of_all (letter_of key)) then key ∷ fitting letter_of (letters + 1) (octets + octets_of_all (letter_of key)) keys else []

-- a Push sends at most so many letters
abbrev pub most_pushes : ℕ
most_pushes = 64

-- the first keys that are due to another member of the node's epoch
abbrev pub due_to : ℕ → ℕ → Node → List Key
due_to own to node = if has (members_of node) to && not (nat_eq to own) then due node.log to most_pushes else []

-- and of these as many as there is room for
abbrev pub keys_pushed : List Flight → ℕ → ℕ → Node → List Record → List Key
keys_pushed flying own to node disk =
    fitting (λ key. push_of own to (epoch_of node) disk key (fin.get node.log key)) (length flying) (octets_flying flying) (due_to own to node)
