-- That each deletion has all nodes of the plan as targets, whatever a cluster does.
use Rattle.std.specs.Prelude.{◌≡◌, ◌≢◌, ◌≤◌, ℕ, true, List, [], ◌∷◌, Option, Some, None}
use Rattle.mail_model.specs.Identity.{Id, Key, State}
use Rattle.mail_model.specs.Identity.Value.{Gone}
use Rattle.mail_model.specs.Record.{Record}
use Rattle.mail_model.specs.Record.Record.{Stated}
use Rattle.object_model.specs.Sets.{has}
use Rattle.object_model.specs.Lists.{Among}
use Rattle.object_model.specs.Said.{said}
use Rattle.object_model.specs.Letters.{Body, Letter}
use Rattle.object_model.specs.Letters.Body.{Push}
use Rattle.cluster_model.specs.Cluster.{Node, Slot, Cluster, slot_at}
use Rattle.cluster_model.specs.Claims.{all_records}
use Rattle.cluster_model.specs.Moves.{Content, NodeAct, IsReady, Move, MayMove, after_move, after_moves}
use Rattle.cluster_model.specs.Moves.Move.{Acted, Taken, Entered}
use Rattle.cluster_model.specs.Parts.{Sound}
use Rattle.cluster_model.specs.Rules.{push, widen, begin_deliver, begin_strike}
use Rattle.cluster_model.specs.Deeds.{slot_up, act_of, hear}
use Rattle.cluster_model.specs.Thrown.{with_stamps}

-- a deletion is for all nodes of the plan
abbrev pub IsForAll : ℕ → State → Type 0
IsForAll nodes state = state.value ≡ Gone → (m : ℕ) → m ≢ 0 → m ≤ nodes → has state.targets m ≡ true

abbrev pub AreForAll : ℕ → List Record → Type 0
AreForAll nodes records = (key : Key) (state : State) → Among (Stated key state) records → IsForAll nodes state

abbrev pub IsBodyForAll : ℕ → Body → Type 0
IsBodyForAll nodes (Push key state octets) = IsForAll nodes state
IsBodyForAll nodes body = Unit {0}

-- all deletions on disks and in letters are
pub record GoneForAll (nodes : ℕ) (w : Cluster) : Type 0 where
  pub disks : (n : ℕ) (slot : Slot) → slot_at w.slots n ≡ Some slot → AreForAll nodes (all_records slot)
  pub letters : (letter : Letter) → Among letter w.flying → IsBodyForAll nodes letter.body

-- An act keeps it: where the node's records and the letter that it heard are so, its records and its letters are so after it.
pub record KeepsGone (nodes : ℕ) (act : NodeAct) : Type 0 where
  pub disk : AreForAll nodes (all_records act.before) → ((letter : Letter) → act.heard ≡ Some letter → IsBodyForAll nodes letter.body) → AreForAll nodes (all_records act.after)
  pub sent : AreForAll nodes (all_records act.before) → ((letter : Letter) → act.heard ≡ Some letter → IsBodyForAll nodes letter.body)
      → (letter : Letter) → Among letter act.out → IsBodyForAll nodes letter.body

abbrev pub MoveKeepsGone : ℕ → Move → Type 0
MoveKeepsGone nodes (Acted act) = IsReady act.node act.before act.heard → KeepsGone nodes act
MoveKeepsGone nodes (Taken letter left) = Unit {0}
MoveKeepsGone nodes (Entered entry) = Unit {0}

abbrev pub MayMoves : ℕ → ℕ → List Move → Cluster → Type 0
MayMoves confirm nodes [] w = Unit {0}
MayMoves confirm nodes (move ∷ moves) w = MayMove confirm move w × MoveKeepsGone nodes move × MayMoves confirm nodes moves (after_move move w)

-- Whatever such moves are made, it stays so.
abbrev pub MovesKeepGone : Type 0
MovesKeepGone = (confirm nodes : ℕ) (w : Cluster) (moves : List Move) → MayMoves confirm nodes moves w → Sound confirm w → GoneForAll nodes w → GoneForAll nodes (after_moves moves w)

-- What is said of a key is so too.
abbrev pub SaidForAll : Type 0
SaidForAll = (nodes : ℕ) (records : List Record) (key : Key) (state : State) → AreForAll nodes records → said key records ≡ Some state → IsForAll nodes state

-- The rules for messages keep it.
pub record RulesKeepGone : Type 0 where
  pub hears : (own nodes : ℕ) (node : Node) (disk : List Record) (letter : Letter) → nodes ≤ 64
      → KeepsGone nodes (act_of own (with_stamps letter.body node) disk (hear own nodes node disk letter) (Some letter) None [])
  pub delivers : (own nodes seconds : ℕ) (node : Node) (disk : List Record) (users : List (List ℕ)) (octets : List ℕ) (targets : ℕ) (files : Option Content)
      → KeepsGone nodes (act_of own node disk (begin_deliver own nodes seconds node disk users octets targets) None files [])
  pub strikes : (own nodes : ℕ) (node : Node) (disk : List Record) (user : List ℕ) (asked : List (Id × ℕ)) (struck : List (List ℕ × Id)) → nodes ≤ 64
      → KeepsGone nodes (act_of own node disk (begin_strike own nodes node disk user asked) None None struck)
  pub pushes : (own nodes to : ℕ) (keys : List Key) (node : Node) (disk : List Record) → IsReady own (slot_up node disk) None → KeepsGone nodes (act_of own node disk (push own to keys node disk) None None [])
  pub widens : (own nodes to : ℕ) (key : Key) (node : Node) (disk : List Record) → KeepsGone nodes (act_of own node disk (widen own to key node disk) None None [])

-- So does each act that adds no state and sends no Push, as all others do: each record that it leaves was there, or is of no state.
abbrev pub OthersKeepGone : Type 0
OthersKeepGone = (nodes : ℕ) (act : NodeAct) → ((key : Key) (state : State) → Among (Stated key state) (all_records act.after) → Among (Stated key state) (all_records act.before))
    → ((letter : Letter) → Among letter act.out → IsBodyForAll nodes letter.body) → KeepsGone nodes act

-- And so does what a fault cuts.
abbrev pub CutsKeepGone : Type 0
CutsKeepGone = (nodes : ℕ) (act cut : NodeAct) → KeepsGone nodes act → cut.before ≡ act.before → cut.heard ≡ act.heard → cut.out ≡ []
    → ((one : Record) → Among one (all_records cut.after) → Among one (all_records act.after)) → KeepsGone nodes cut

-- Where no disk has a state yet and no letter flies, it is so.
abbrev pub EmptyHasGone : Type 0
EmptyHasGone = (nodes : ℕ) (w : Cluster) → ((n : ℕ) (slot : Slot) → slot_at w.slots n ≡ Some slot → (key : Key) (state : State) → Among (Stated key state) (all_records slot) → ⊥)
    → w.flying ≡ [] → GoneForAll nodes w
