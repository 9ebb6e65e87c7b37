-- The moves of a whole cluster: each is a move for messages, and some moves for membership and maps.
use Rattle.std.specs.Prelude.{◌≡◌, ℕ, List, [], ◌∷◌, ◌++◌, Option, Some}
use Rattle.mail_model.specs.Identity.{Id}
use Rattle.mail_model.specs.Book.{BookEntry}
use Rattle.mail_model.specs.Book.BookEntry.{Struck}
use Rattle.object_model.specs.Lists.{Among}
use Rattle.object_model.specs.Letters.{Letter}
use Rattle.cluster_model.specs.Moves as mail
use Rattle.cluster_model.specs.Parts as mail_parts
use Rattle.maps_model.specs.Cluster as maps_cluster
use Rattle.maps_model.specs.Moves as maps
use Rattle.maps_model.specs.Parts as maps_parts
use Rattle.whole_model.specs.Whole.{Slot, Cluster, slot_at, with_slot, mail_slot, maps_slot, mail_part_of, maps_of}

-- what a node did, or what befell it
pub record NodeAct : Type 0 where
  pub node : ℕ
  pub before : Slot
  pub after : Slot
  pub heard : Option Letter
  pub out : List Letter
  pub files : Option mail.Content
  pub strikes : List (List ℕ × Id)

-- what messages see of it
abbrev pub mail_act : NodeAct → mail.NodeAct
mail_act act = record {
  node = act.node;
  before = mail_slot act.before;
  after = mail_slot act.after;
  heard = act.heard;
  out = act.out;
  files = act.files;
  strikes = act.strikes;
}

-- Some moves for membership and maps lead from a slot to another: the first hears the letter, and all together send these letters.
pub record IsSlotLed (own : ℕ) (before after : maps_cluster.Slot) (heard : Option Letter) (out : List Letter) (w : maps_cluster.Cluster) : Type 0 where
  pub moves : List maps.Move
  pub may : maps.MayMoves moves w
  pub is : maps.after_moves moves w ≡ record { slots = maps_cluster.with_slot w.slots own after; flying = w.flying ++ out }

abbrev pub LeadsMaps : ℕ → maps_cluster.Slot → maps_cluster.Slot → Option Letter → List Letter → Type 0
LeadsMaps own before after heard out = (w : maps_cluster.Cluster) → maps_cluster.slot_at w.slots own ≡ Some before
    → ((letter : Letter) → heard ≡ Some letter → Among letter w.flying × (letter.to ≡ own)) → IsSlotLed own before after heard out w

pub data Move : Type 0 where
  Acted : (act : NodeAct) → Move
  Taken : (letter : Letter) (left : List Letter) → Move
  Entered : (entry : BookEntry) → Move

abbrev pub after_move : Move → Cluster → Cluster
after_move (Acted act) w = record w { slots = with_slot w.slots act.node act.after; flying = w.flying ++ act.out }
after_move (Taken letter left) w = record w { flying = left }
after_move (Entered entry) w = record w { book = w.book ++ entry ∷ [] }

-- What a node may do: an act for messages, and moves for membership and maps.
pub record MayAct (act : NodeAct) (w : Cluster) : Type 0 where
  pub here : slot_at w.slots act.node ≡ Some act.before
  pub mail : mail.IsReady act.node (mail_slot act.before) act.heard → mail.IsAct (mail_act act)
  pub maps : LeadsMaps act.node (maps_slot act.before) (maps_slot act.after) act.heard act.out
  pub heard : (letter : Letter) → act.heard ≡ Some letter → Among letter w.flying × (letter.to ≡ act.node)
  pub struck : (user : List ℕ) (id : Id) → Among (user, id) act.strikes → Among (Struck user id) w.book

abbrev pub MayMove : ℕ → Move → Cluster → Type 0
MayMove confirm (Acted act) w = MayAct act w
MayMove confirm (Taken letter left) w = mail.MayMove confirm (mail.Move.Taken letter left) (mail_part_of w)
MayMove confirm (Entered entry) w = mail.MayMove confirm (mail.Move.Entered entry) (mail_part_of w)

abbrev pub after_moves : List Move → Cluster → Cluster
after_moves [] w = w
after_moves (move ∷ moves) w = after_moves moves (after_move move w)

abbrev pub MayMoves : ℕ → List Move → Cluster → Type 0
MayMoves confirm [] w = Unit {0}
MayMoves confirm (move ∷ moves) w = MayMove confirm move w × MayMoves confirm moves (after_move move w)

-- both invariants hold
pub record Sound (confirm : ℕ) (w : Cluster) : Type 0 where
  pub mail : mail_parts.Sound confirm (mail_part_of w)
  pub maps : maps_parts.Sound (maps_of w)
