-- The rules of a node in the words of a reader: what each of them promises.
use Rattle.std.specs.Prelude.{◌≡◌, ◌≢◌, ◌⊎◌, ◌<◌, ◌≤◌, ◌+◌, ℕ, true, List, [], ◌∷◌, map, Some, None, bit_or, ⊤}
use Rattle.std.specs.FinMap as fin
use Rattle.mail_model.specs.Identity.{Id, Stamp, Key, State}
use Rattle.mail_model.specs.Record.{Record}
use Rattle.mail_model.specs.Book.{Acked}
use Rattle.mail_model.specs.Book.BookEntry.{Acknowledged}
use Rattle.object_model.specs.Lists.{Among}
use Rattle.object_model.specs.Sets.{has, count_in}
use Rattle.object_model.specs.States.{join_after}
use Rattle.object_model.specs.Said.{said}
use Rattle.object_model.specs.Letters.{DeletionMark, Body, Letter}
use Rattle.object_model.specs.Letters.Body.{File, Filed, Strike, StrikeTold}
use Rattle.object_model.specs.UpdateLog.{Logged}
use Rattle.object_model.specs.Mishaps.{Mishaps}
use Rattle.cluster_model.specs.Cluster.{NodeFiling, AskedOfNodes, Want, Node, Cluster, slot_at, epoch_of}
use Rattle.cluster_model.specs.Cluster.AskedOfNodes.{Copies}
use Rattle.cluster_model.specs.Store.{Store, Update, take_all, updates_of}
use Rattle.cluster_model.specs.Claims.{SaysFact, ShowsGone}
use Rattle.cluster_model.specs.Claims.Fact.{HasCopies}
use Rattle.cluster_model.specs.Moves.{IsReady}
use Rattle.cluster_model.specs.Parts.{IsHeldSomewhere, Sound}
use Rattle.cluster_model.specs.Rules.{answer, told_want, failed_want, new_want, hear_ack, begin_deliver, begin_strike}
use Rattle.cluster_model.specs.Thrown.{thrown_by}
use Rattle.cluster_model.specs.Progress.{ask_of_wants}
use Rattle.cluster_model.specs.Progress.Ask.{Pending, Done}
use Rattle.cluster_model.specs.Progress.NodeAnswer.{Stored, Failed}
use Rattle.cluster_model.specs.Deeds.{slot_up, IsOfPlan, hear}

-- A confirmation comes after the records: once a node has answered a File, its disk has each user's copy with its octets, or says that it is gone.
abbrev pub ConfirmsAfterRecords : Type 0
ConfirmsAfterRecords = (own nodes : ℕ) (node : Node) (disk : List Record) (letter : Letter) (id : Id) (stamp : Stamp) (targets : ℕ) (users : List (List ℕ)) (octets : List ℕ)
    → letter.body ≡ File id stamp targets users octets
    → ((hear own nodes node disk letter).out ≡ answer letter (Filed id) ∷ []) × SaysFact (hear own nodes node disk letter).disk (HasCopies users id)

-- So with a deletion: once a node has answered a Strike, its disk says that each copy is gone.
abbrev pub ConfirmsAfterGone : Type 0
ConfirmsAfterGone = (own nodes : ℕ) (node : Node) (disk : List Record) (letter : Letter) (user : List ℕ) (marks : List DeletionMark)
    → IsOfPlan own nodes → IsReady own (slot_up node disk) (Some letter) → letter.body ≡ Strike user marks
    → ((hear own nodes node disk letter).out ≡ answer letter (StrikeTold user (map (λ mark. mark.id) marks)) ∷ [])
    × ((mark : DeletionMark) → Among mark marks → ShowsGone user mark.id (hear own nodes node disk letter).disk)

-- The disk says the merge: of each key the join of what it said and of all states that were taken, and of other keys what it said.
abbrev pub DiskSaysMerge : Type 0
DiskSaysMerge = (own : ℕ) (updates : List Update) (store : Store) (key : Key)
    → said key (take_all own updates store).disk ≡ join_after (said key store.disk) (updates_of key updates)

-- States that are taken again change nothing.
abbrev pub TakesNothingTwice : Type 0
TakesNothingTwice = (own : ℕ) (updates : List Update) (store : Store) → take_all own updates (take_all own updates store) ≡ take_all own updates store

-- A confirmation counts once, however often it is heard.
abbrev pub CountsOnce : Type 0
CountsOnce = (body : Body) (from : ℕ) (want : Want) → told_want body from (told_want body from want) ≡ told_want body from want

-- node m is one of those that are asked
abbrev pub IsNodeAsked : Want → ℕ → Type 0
IsNodeAsked want m = (has want.confirmed m ≡ true) ⊎ (has want.waiting m ≡ true) ⊎ (has want.failed m ≡ true)

-- Each target is confirmed, waiting or failed, and stays one of these, and no other node is. Who confirmed stays confirmed.
pub record TargetsStand (own : ℕ) (asked : AskedOfNodes) (targets : ℕ) (want : Want) (body : Body) (from at : ℕ) : Type 0 where
  pub begins : (m : ℕ) → has targets m ≡ true → IsNodeAsked (new_want own asked targets) m
  pub told : (m : ℕ) → IsNodeAsked want m → IsNodeAsked (told_want body from want) m
  pub failed : (m : ℕ) → IsNodeAsked want m → IsNodeAsked (failed_want at want) m
  -- and nobody else is asked, or confirmed
  pub only_begins : (m : ℕ) → IsNodeAsked (new_want own asked targets) m → has targets m ≡ true
  pub only_told : (m : ℕ) → IsNodeAsked (told_want body from want) m → IsNodeAsked want m
  pub only_failed : (m : ℕ) → IsNodeAsked (failed_want at want) m → IsNodeAsked want m
  pub stays_told : (m : ℕ) → has want.confirmed m ≡ true → has (told_want body from want).confirmed m ≡ true
  pub stays_failed : (m : ℕ) → has want.confirmed m ≡ true → has (failed_want at want).confirmed m ≡ true

abbrev pub TargetsStay : Type 0
TargetsStay = (own : ℕ) (asked : AskedOfNodes) (targets : ℕ) (want : Want) (body : Body) (from at : ℕ) → TargetsStand own asked targets want body from at

-- A delivery is stored exactly where F nodes have confirmed it, has failed exactly where no F nodes are left, and waits otherwise.
pub record StoredByCount (confirm : ℕ) (mishaps : Mishaps) (filing : NodeFiling) (want : Want) : Type 0 where
  pub stored : confirm ≤ count_in want.confirmed → ask_of_wants confirm mishaps (want ∷ []) ≡ Done (Stored filing.id want.confirmed)
  pub failed : count_in want.confirmed < confirm → count_in (bit_or want.confirmed want.waiting) < confirm → ask_of_wants confirm mishaps (want ∷ []) ≡ Done (Failed mishaps)
  pub waits : count_in want.confirmed < confirm → confirm ≤ count_in (bit_or want.confirmed want.waiting) → ask_of_wants confirm mishaps (want ∷ []) ≡ Pending (count_in want.confirmed) confirm

abbrev pub StoredAtF : Type 0
StoredAtF = (confirm : ℕ) (mishaps : Mishaps) (filing : NodeFiling) (want : Want) → want.asked ≡ Copies filing → StoredByCount confirm mishaps filing want

-- An acknowledgement takes an entry out of the log only if it is of that entry's very state, and of the last node that remains in it.
abbrev pub LeavesLogAtLast : Type 0
LeavesLogAtLast = (own nodes : ℕ) (node : Node) (disk : List Record) (key : Key) (state : State) (from : ℕ) (entry : Logged) → fin.get node.log key ≡ Some entry
    → fin.get (hear_ack own nodes node disk key state from).node.log key ≡ None
    → (entry.state ≡ state) × (has entry.remaining from ≡ true) × ((m : ℕ) → has entry.remaining m ≡ true → m ≡ from)

-- What a node sends as it hears a letter goes back to its sender under the same ticket, or has no ticket; and it carries the epoch of the node.
abbrev pub AnswersSender : Type 0
AnswersSender = (own nodes : ℕ) (node : Node) (disk : List Record) (letter : Letter) → letter.to ≡ own → thrown_by own node letter ≡ None
    → (one : Letter) → Among one (hear own nodes node disk letter).out
    → (one.from ≡ own) × (one.epoch ≡ epoch_of node) × (((one.to ≡ letter.from) × (one.ticket ≡ letter.ticket)) ⊎ (one.ticket ≡ None))

-- the letters go to nodes above this one, in rising order
abbrev pub IsRising : ℕ → List Letter → Type 0
IsRising low [] = ⊤
IsRising low (letter ∷ letters) = (low < letter.to) × IsRising letter.to letters

-- The letters of one step stand in order of receiver, each receiver once, and none goes to its sender.
abbrev pub SendsInOrder : Type 0
SendsInOrder = (own nodes seconds : ℕ) (node : Node) (disk : List Record)
    → ((users : List (List ℕ)) (octets : List ℕ) (targets : ℕ) → IsRising 0 (begin_deliver own nodes seconds node disk users octets targets).out
    × ((one : Letter) → Among one (begin_deliver own nodes seconds node disk users octets targets).out → one.to ≢ own))
    × ((user : List ℕ) (asked : List (Id × ℕ)) → IsRising 0 (begin_strike own nodes node disk user asked).out
    × ((one : Letter) → Among one (begin_strike own nodes node disk user asked).out → one.to ≢ own))

-- No disk, no letter and no entry of the book has the id that a node draws next.
abbrev pub IdsAreNew : Type 0
IdsAreNew = (confirm : ℕ) (w : Cluster) → Sound confirm w → (own : ℕ) (node : Node) (disk : List Record) → slot_at w.slots own ≡ Some (slot_up node disk)
    → (id : Id) → (record { node = own; boot = node.boot; seq = node.drawn + 1 }) ≡ id
    → ((octets : List ℕ) → IsHeldSomewhere w.slots w.flying id octets → ⊥) × ((copy : Acked) → Among (Acknowledged copy) w.book → copy.id ≢ id)

-- All octets of one id, on disks and in letters, are the same: whoever fetches a message gets what was filed.
abbrev pub FetchedAsFiled : Type 0
FetchedAsFiled = (confirm : ℕ) (w : Cluster) → Sound confirm w → (id : Id) (octets others : List ℕ) → IsHeldSomewhere w.slots w.flying id octets → IsHeldSomewhere w.slots w.flying id others → octets ≡ others
