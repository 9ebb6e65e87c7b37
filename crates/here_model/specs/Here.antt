-- That each copy that is here has its octets, whatever a cluster does.
use Rattle.std.specs.Prelude.{◌≡◌, ℕ, List, [], ◌∷◌, ◌++◌, Option, Some, None}
use Rattle.mail_model.specs.Identity.{Id, Key, State}
use Rattle.mail_model.specs.Identity.Key.{Message}
use Rattle.mail_model.specs.Identity.Value.{Here}
use Rattle.mail_model.specs.Record.{Record}
use Rattle.mail_model.specs.Record.Record.{Stated}
use Rattle.mail_model.specs.Listing.{octets_in}
use Rattle.object_model.specs.Lists.{Among}
use Rattle.object_model.specs.Said.{said}
use Rattle.object_model.specs.Letters.{Body, Letter}
use Rattle.object_model.specs.Letters.Body.{Push}
use Rattle.cluster_model.specs.Cluster.{Node, Slot, Cluster, slot_at}
use Rattle.cluster_model.specs.Claims.{all_records, StoresMessage}
use Rattle.cluster_model.specs.Moves.{Content, NodeAct, IsReady, Move, MayMove, after_move, after_moves}
use Rattle.cluster_model.specs.Moves.Move.{Acted, Taken, Entered}
use Rattle.cluster_model.specs.Parts.{Sound}
use Rattle.cluster_model.specs.Rules.{push, widen, begin_deliver, begin_strike}
use Rattle.cluster_model.specs.Deeds.{slot_up, act_of, hear}
use Rattle.cluster_model.specs.Thrown.{with_stamps}

-- In each prefix of the records, a copy that is said to be here has the octets of its message. So it is of every image that a stop may leave of a disk.
abbrev pub EachHereHasOctets : List Record → Type 0
EachHereHasOctets records = (prefix rest : List Record) → prefix ++ rest ≡ records
    → (user : List ℕ) (id : Id) (state : State) → Among (Stated (Message user id) state) prefix → state.value ≡ Here → StoresMessage id prefix

-- a Push of a copy that is here carries octets
abbrev pub IsBodyWithOctets : Body → Type 0
IsBodyWithOctets (Push (Message user id) state octets) = state.value ≡ Here → (held : List ℕ) × (octets ≡ Some held)
IsBodyWithOctets body = Unit {0}

-- all disks and all letters in flight have the octets of what they say to be here
pub record HereHasOctets (w : Cluster) : Type 0 where
  pub disks : (n : ℕ) (slot : Slot) → slot_at w.slots n ≡ Some slot → EachHereHasOctets (all_records slot)
  pub letters : (letter : Letter) → Among letter w.flying → IsBodyWithOctets letter.body

-- An act keeps it: where the node's records and the letter that it heard are so, its records and its letters are so after it.
pub record KeepsOctets (act : NodeAct) : Type 0 where
  pub disk : EachHereHasOctets (all_records act.before) → ((letter : Letter) → act.heard ≡ Some letter → IsBodyWithOctets letter.body) → EachHereHasOctets (all_records act.after)
  pub sent : EachHereHasOctets (all_records act.before) → ((letter : Letter) → act.heard ≡ Some letter → IsBodyWithOctets letter.body)
      → (letter : Letter) → Among letter act.out → IsBodyWithOctets letter.body

abbrev pub MoveKeepsOctets : Move → Type 0
MoveKeepsOctets (Acted act) = IsReady act.node act.before act.heard → KeepsOctets act
MoveKeepsOctets (Taken letter left) = Unit {0}
MoveKeepsOctets (Entered entry) = Unit {0}

abbrev pub MayMoves : ℕ → List Move → Cluster → Type 0
MayMoves confirm [] w = Unit {0}
MayMoves confirm (move ∷ moves) w = MayMove confirm move w × MoveKeepsOctets move × MayMoves confirm moves (after_move move w)

-- Whatever such moves are made, it stays so.
abbrev pub MovesKeepOctets : Type 0
MovesKeepOctets = (confirm : ℕ) (w : Cluster) (moves : List Move) → MayMoves confirm moves w → Sound confirm w → HereHasOctets w → HereHasOctets (after_moves moves w)

-- Where records say that a copy is here, its octets can be read.
abbrev pub HereIsRead : Type 0
HereIsRead = (records : List Record) (user : List ℕ) (id : Id) (state : State) → EachHereHasOctets records → said (Message user id) records ≡ Some state → state.value ≡ Here
    → (octets : List ℕ) × (octets_in id records ≡ Some octets)

-- The rules for messages keep it.
pub record RulesKeepOctets : Type 0 where
  pub hears : (own nodes : ℕ) (node : Node) (disk : List Record) (letter : Letter)
      → KeepsOctets (act_of own (with_stamps letter.body node) disk (hear own nodes node disk letter) (Some letter) None [])
  pub delivers : (own nodes seconds : ℕ) (node : Node) (disk : List Record) (users : List (List ℕ)) (octets : List ℕ) (targets : ℕ) (files : Option Content)
      → KeepsOctets (act_of own node disk (begin_deliver own nodes seconds node disk users octets targets) None files [])
  pub strikes : (own nodes : ℕ) (node : Node) (disk : List Record) (user : List ℕ) (asked : List (Id × ℕ)) (struck : List (List ℕ × Id))
      → KeepsOctets (act_of own node disk (begin_strike own nodes node disk user asked) None None struck)
  pub pushes : (own to : ℕ) (keys : List Key) (node : Node) (disk : List Record) → IsReady own (slot_up node disk) None → KeepsOctets (act_of own node disk (push own to keys node disk) None None [])
  pub widens : (own to : ℕ) (key : Key) (node : Node) (disk : List Record) → KeepsOctets (act_of own node disk (widen own to key node disk) None None [])

-- So does each act that leaves a prefix of the records, adds no state to it and sends no Push of what is here: a stop, a start, and all that a node does otherwise.
abbrev pub OthersKeepOctets : Type 0
OthersKeepOctets = (act : NodeAct) (kept lost added : List Record) → all_records act.before ≡ kept ++ lost → all_records act.after ≡ kept ++ added
    → ((key : Key) (state : State) → Among (Stated key state) added → ⊥) → ((letter : Letter) → Among letter act.out → IsBodyWithOctets letter.body) → KeepsOctets act

-- And so does what a fault cuts: a prefix of what the act would have left.
abbrev pub CutsKeepOctets : Type 0
CutsKeepOctets = (act cut : NodeAct) → KeepsOctets act → cut.before ≡ act.before → cut.heard ≡ act.heard → cut.out ≡ []
    → (missing : List Record) → all_records act.after ≡ all_records cut.after ++ missing → KeepsOctets cut

-- Where no disk has a state yet and no letter flies, it is so.
abbrev pub EmptyHasOctets : Type 0
EmptyHasOctets = (w : Cluster) → ((n : ℕ) (slot : Slot) → slot_at w.slots n ≡ Some slot → (key : Key) (state : State) → Among (Stated key state) (all_records slot) → ⊥)
    → w.flying ≡ [] → HereHasOctets w
