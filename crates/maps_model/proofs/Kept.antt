-- Each move keeps each part, and so does a list of moves.
use Rattle.std.proofs.Common.{◌≡◌, inr, List, [], ◌∷◌, Some, sym, ◌∙◌, subst}
use Rattle.object_model.specs.Lists.{Among}
use Rattle.object_model.specs.Letters.{Letter}
use Rattle.maps_model.specs.Cluster.{Slot, Cluster, slot_at}
use Rattle.maps_model.specs.Cluster.Life.{Up}
use Rattle.maps_model.specs.Words.{OpensLater}
use Rattle.maps_model.specs.Moves.{NodeAct, Move, MayMove, MayMoves, IsReady, after_move, after_moves}
use Rattle.maps_model.specs.Moves.Move.{Acted, Taken}
use Rattle.maps_model.specs.Parts.{Sound}
use Rattle.maps_model.proofs.Lists.{same_some}
use Rattle.maps_model.proofs.Memberships.{order_acted, apart_acted, one_acted, joins_acted}
use Rattle.maps_model.proofs.Speaking.{spoken_acted}
use Rattle.maps_model.proofs.Telling.{reported_acted}
use Rattle.maps_model.proofs.Told.{told_acted}
use Rattle.maps_model.proofs.Taken.{apart_taken, one_taken, joins_taken, spoken_taken, reported_taken, told_taken}

-- what a node may count on holds in a sound cluster
pub is_ready : (w : Cluster) (act : NodeAct) → slot_at w.slots act.node ≡ Some act.before → ((letter : Letter) → act.heard ≡ Some letter → Among letter w.flying × (letter.to ≡ act.node)) → Sound w
    → IsReady act.node act.before act.heard
is_ready w act here flew s = record {
  order = s.order.each act.node act.before here;
  came = λ letter e. ((flew letter e).1, λ same. s.apart.each letter (flew letter e).0 (same ∙ sym (flew letter e).1));
  over = λ letter e g h mine node up group opened.
      let o = s.one.over g (inr (record { letter = letter; inside = (flew letter e).0; is = h })) in
      let at = same_some (slot_at w.slots act.node) o.slot act.before (subst (λ n. slot_at w.slots n ≡ Some o.slot) mine o.here) here in
      let closed : OpensLater (Up node) g.epoch = subst (λ l. OpensLater l g.epoch) up (subst (λ (x : Slot). OpensLater x.life g.epoch) at o.closed) in
      closed group opened;
}

pub kept : (move : Move) (w : Cluster) → MayMove move w → Sound w → Sound (after_move move w)
kept (Acted act) w (here, acts, flew) s =
    let is = acts (is_ready w act here flew s) in
    record {
      order = order_acted w.slots w.flying act here is flew s.order;
      apart = apart_acted w.slots w.flying act here is flew s.order s.apart;
      one = one_acted w.slots w.flying act here is flew s.order s.one;
      joins = joins_acted w.slots w.flying act here is flew s.order s.one s.joins;
      spoken = spoken_acted w.slots w.flying act here is flew s.order s.one s.joins s.spoken;
      reported = reported_acted w.slots w.flying act here is flew s.order s.one s.joins s.spoken s.reported;
      told = told_acted w.slots w.flying act here is flew s.order s.one s.joins s.spoken s.reported s.told;
    }
kept (Taken left) w fewer s = record {
  order = s.order;
  apart = apart_taken w.slots w.flying left fewer s.apart;
  one = one_taken w.slots w.flying left fewer s.one;
  joins = joins_taken w.slots w.flying left fewer s.joins;
  spoken = spoken_taken w.slots w.flying left fewer s.spoken;
  reported = reported_taken w.slots w.flying left fewer s.reported;
  told = told_taken w.slots w.flying left fewer s.told;
}

pub all_kept : (w : Cluster) (moves : List Move) → MayMoves moves w → Sound w → Sound (after_moves moves w)
all_kept w [] may s = s
all_kept w (move ∷ moves) (first, others) s = all_kept (after_move move w) moves others (kept move w first s)
