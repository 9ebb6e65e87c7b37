-- Through moves a number that was drawn stays drawn, and a ticket that stands under it stood before and reads what it read.
use Rattle.std.proofs.Common.{◌≡◌, ⊎_elim, ℕ, List, [], ◌∷◌, Some, refl, sym, ap, ◌∙◌, subst, ◌≤◌, ◌<◌, arith, inl, inr}
use Rattle.std.specs.FinMap as fin
use Rattle.object_model.specs.Letters.{Number}
use Rattle.object_model.proofs.Lists.{same_some}
use Rattle.cluster_model.specs.Claims.{boot_of}
use Rattle.login_model.specs.Readings.{Reading, Reads, subject_of}
use Rattle.login_model.specs.Cluster.{Node, Life, Slot, Cluster, slot_at, with_slot, LifeReads, NodesRead}
use Rattle.login_model.specs.Cluster.Life.{Up, Down, Lost}
use Rattle.login_model.specs.Facts.{DrawnIn, DrawnAt, IsDrawn}
use Rattle.login_model.specs.Moves.{NodeAct, Move, after_move, after_moves, MayMove, MayMoves, ReadFrom, IsAct}
use Rattle.login_model.specs.Moves.Move.{Acted, Taken}
use Rattle.login_model.specs.Moves.ReadFrom.{Moved, Begun}
use Rattle.login_model.specs.Beside.{TurnsBeside, IsBeside}
use Rattle.login_model.specs.Beside.TurnsBeside.{Works, IsOff, Starts}
use Rattle.login_model.specs.Parts.{Sound, AllInOrder}
use Rattle.login_model.proofs.Kept.{kept, is_ready}
use Rattle.login_model.proofs.Others.{no_reads}
use Rattle.login_model.proofs.Slots.{read_after, read_before}

-- a reading of this subject stood under the number
pub record StoodOf (slots : List Slot) (number : Number) (reading : Reading) : Type 0 where
  pub was : Reading
  pub stood : NodesRead slots number was
  pub same : subject_of was ≡ subject_of reading

pub record Keeps (was now : List Slot) : Type 0 where
  pub drawn : (number : Number) → IsDrawn was number → IsDrawn now number
  pub reads : (number : Number) → IsDrawn was number → (reading : Reading) → NodesRead now number reading → StoodOf was number reading

pub keeps_self : (slots : List Slot) → Keeps slots slots
keeps_self slots = record { drawn = λ number d. d; reads = λ number d reading r. record { was = reading; stood = r; same = refl } }

pub keeps_then : (a b c : List Slot) → Keeps a b → Keeps b c → Keeps a c
keeps_then a b c p q = record {
  drawn = λ number d. q.drawn number (p.drawn number d);
  reads = λ number d reading r.
      let mid = q.reads number (p.drawn number d) reading r in
      let old = p.reads number d mid.was mid.stood in
      record { was = old.was; stood = old.stood; same = old.same ∙ mid.same };
}

-- a node acts
module _ (slots : List Slot) (act : NodeAct) (here : slot_at slots act.node ≡ Some act.before) (is : IsAct act) where
  abbrev after : List Slot
  after = with_slot slots act.node act.after

  drawn_before : (number : Number) → number.node ≡ act.node → IsDrawn slots number → DrawnAt act.before number
  drawn_before number same d = subst (λ (s : Slot). DrawnAt s number) (same_some (slot_at slots act.node) d.slot act.before (subst (λ (n : ℕ). slot_at slots n ≡ Some d.slot) same d.here) here) d.drawn

  from : (number : Number) → number.node ≡ act.node → IsDrawn slots number → (reading : Reading) → ReadFrom act number reading → StoodOf slots number reading
  from number same d reading (Moved old reads subject claims) =
      record { was = old; stood = record { slot = act.before; here = subst (λ (n : ℕ). slot_at slots n ≡ Some act.before) (sym same) here; reads = reads }; same = subject }
  from number same d reading (Begun undrawn claims) = absurd (undrawn (drawn_before number same d))

  pub acted_keeps : Keeps slots after
  acted_keeps = record {
    drawn = λ number d. ⊎_elim
        (λ (same, e, at). record { slot = act.after; here = at; drawn = is.drawn number same (drawn_before number same d) })
        (λ old. record { slot = d.slot; here = old; drawn = d.drawn })
        (read_before slots act.node number.node act.before act.after d.slot here d.here);
    reads = λ number d reading r. ⊎_elim
        (λ (same, e). from number same d reading (is.reads number reading same (subst (λ (s : Slot). LifeReads s.life number reading) e r.reads)))
        (λ old. record { was = reading; stood = record { slot = r.slot; here = old; reads = r.reads }; same = refl })
        (read_after slots act.node number.node act.before act.after r.slot here r.here);
  }

-- a sound cluster, since these slots
pub record Going (base : List Slot) (w : Cluster) : Type 0 where
  pub sound : Sound w
  pub since : Keeps base w.slots

pub going_self : (w : Cluster) → Sound w → Going w.slots w
going_self w s = record { sound = s; since = keeps_self w.slots }

move_keeps : (move : Move) (w : Cluster) → MayMove move w → Sound w → Keeps w.slots (after_move move w).slots
move_keeps (Acted act) w (here, acts, flew) s = acted_keeps w.slots act here (acts (is_ready w act here flew s))
move_keeps (Taken letter left) w may s = keeps_self w.slots

pub going_on : (base : List Slot) (move : Move) (w : Cluster) → MayMove move w → Going base w → Going base (after_move move w)
going_on base move w may g = record { sound = kept move w may g.sound; since = keeps_then base w.slots (after_move move w).slots g.since (move_keeps move w may g.sound) }

pub all_going : (base : List Slot) (w : Cluster) (moves : List Move) → MayMoves moves w → Going base w → Going base (after_moves moves w)
all_going base w [] may g = g
all_going base w (move ∷ moves) (first, others) g = all_going base (after_move move w) moves others (going_on base move w first g)

-- a step in which these calls do nothing
same_node : (a b : Node) → ◌≡◌ {A = Life} (Up a) (Up b) → a ≡ b
same_node a b e = cc

module _ (old new : Cluster) (order : AllInOrder old.slots) (beside : IsBeside old new) where
  turned_drawn : (number : Number) (before now : Slot) → slot_at old.slots number.node ≡ Some before → TurnsBeside before now → DrawnAt before number → DrawnAt now number
  turned_drawn number before now at (Works a b ea eb boot calls reads disks) d =
      subst (λ (l : Life). DrawnIn l now.disk number) (sym eb) (⊎_elim
      (λ earlier. inl (subst (λ (k : ℕ). number.boot < k) (sym boot) earlier))
      (λ (same, seq). inr (same ∙ sym boot, omega (arith, seq, calls)))
      (subst (λ (l : Life). DrawnIn l before.disk number) ea d))
  turned_drawn number before now at (IsOff not rises) d = off now.life refl
    where
      drawn_by : (life : Life) → before.life ≡ life → DrawnIn life before.disk number → number.boot ≤ boot_of before.disk
      drawn_by (Up node) e k =
          let booted : node.boot ≡ boot_of before.disk = ((order.each number.node before at).each node e).booted in
          ⊎_elim (λ earlier. omega (arith, earlier, booted)) (λ (same, seq). omega (arith, same, booted)) k
      drawn_by Down e k = k
      drawn_by Lost e k = k

      below : number.boot ≤ boot_of now.disk
      below = let b = drawn_by before.life refl d in omega (arith, b, rises)

      off : (life : Life) → now.life ≡ life → DrawnIn now.life now.disk number
      off (Up node) e = absurd (not node e)
      off Down e = subst (λ (l : Life). DrawnIn l now.disk number) (sym e) below
      off Lost e = subst (λ (l : Life). DrawnIn l now.disk number) (sym e) below
  turned_drawn number before now at (Starts b was eb boot later none) d = subst (λ (l : Life). DrawnIn l now.disk number) (sym eb) (inl (by before.life refl d))
    where
      by : (life : Life) → before.life ≡ life → DrawnIn life before.disk number → number.boot < b.boot
      by (Up node) e k = absurd (was node e)
      by Down e k = omega (arith, k, later)
      by Lost e k = omega (arith, k, later)

  turned_reads : (number : Number) (before now : Slot) (reading : Reading) → TurnsBeside before now → LifeReads now.life number reading → LifeReads before.life number reading
  turned_reads number before now reading (Works a b ea eb boot calls reads disks) r =
      let same : r.node ≡ b = same_node r.node b (sym r.up ∙ eb) in
      record {
        node = a;
        up = ea;
        boot = r.boot ∙ ap (λ (n : Node). n.boot) same ∙ boot;
        ticket = r.ticket;
        here = subst (λ (m : Reads). fin.get m number.seq ≡ Some r.ticket) (ap (λ (n : Node). n.reads) same ∙ reads) r.here;
        is = r.is;
      }
  turned_reads number before now reading (IsOff not rises) r = absurd (not r.node r.up)
  turned_reads number before now reading (Starts b was eb boot later none) r =
      absurd (no_reads r.node (ap (λ (n : Node). n.reads) (same_node r.node b (sym r.up ∙ eb)) ∙ none) number.seq r.ticket r.here)

  pub beside_keeps : Keeps old.slots new.slots
  beside_keeps = record {
    drawn = λ number d.
        let there = beside.stays number.node d.slot d.here in
        let t = beside.turns number.node there.0 there.1 in
        let same : t.0 ≡ d.slot = same_some (slot_at old.slots number.node) t.0 d.slot t.1 d.here in
        record { slot = there.0; here = there.1; drawn = turned_drawn number t.0 there.0 t.1 t.2 (subst (λ (s : Slot). DrawnAt s number) (sym same) d.drawn) };
    reads = λ number d reading r.
        let t = beside.turns number.node r.slot r.here in
        record { was = reading; stood = record { slot = t.0; here = t.1; reads = turned_reads number t.0 r.slot reading t.2 r.reads }; same = refl };
  }
