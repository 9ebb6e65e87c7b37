-- Whatever steps are made, disks only grow, what was drawn is drawn, and who is lost stays so. And what was pending may turn out to stand.
use Rattle.std.proofs.Common.{◌≡◌, ⊎_elim, ℕ, Bool, List, [], ◌∷◌, ◌++◌, Some, refl, sym, ap, ◌∙◌, subst}
use Rattle.mail_model.specs.Identity.{Id}
use Rattle.mail_model.specs.Plan.{Plan}
use Rattle.mail_model.specs.Record.{Record}
use Rattle.cluster_model.specs.Cluster.{Slot, Cluster, slot_at, with_slot}
use Rattle.cluster_model.specs.Cluster.Life.{Lost}
use Rattle.cluster_model.specs.Claims.{IsIdDrawn}
use Rattle.cluster_model.specs.Moves.{Move, NodeAct, IsAct, MayMove, MayMoves, after_move, after_moves}
use Rattle.cluster_model.specs.Moves.Move.{Acted, Taken, Entered}
use Rattle.cluster_model.specs.Parts.{Sound}
use Rattle.cluster_model.specs.World.{World, cluster_of}
use Rattle.cluster_model.specs.Steps.{Step, StepOutcome}
use Rattle.cluster_model.specs.Makes.{MakesStep}
use Rattle.cluster_model.specs.WorldLaws.{InPlan}
use Rattle.cluster_model.proofs.Slots.{read_before}
use Rattle.cluster_model.proofs.Drawing.{drawn_more}
use Rattle.cluster_model.proofs.Kept.{kept}
use Rattle.cluster_model.proofs.Running.{leads}

-- a slot that grew
pub record Grew (old new : Slot) : Type 0 where
  pub added : List Record
  pub is : new.disk ≡ old.disk ++ added
  pub lost : old.life ≡ Lost → new.life ≡ Lost

nothing : (xs : List Record) → xs ≡ xs ++ []
nothing [] = refl
nothing (x ∷ xs) = ap (λ (l : List Record). x ∷ l) (nothing xs)

assoc : (xs ys zs : List Record) → (xs ++ ys) ++ zs ≡ xs ++ (ys ++ zs)
assoc [] ys zs = refl
assoc (x ∷ xs) ys zs = ap (λ (l : List Record). x ∷ l) (assoc xs ys zs)

-- all that was there is there, grown, and what was drawn is drawn
pub record ClusterGrew (old new : List Slot) : Type 0 where
  pub slots : (n : ℕ) (slot : Slot) → slot_at old n ≡ Some slot → (now : Slot) × (slot_at new n ≡ Some now) × Grew slot now
  pub drawn : (id : Id) → IsIdDrawn old id → IsIdDrawn new id

pub grew_not : (slots : List Slot) → ClusterGrew slots slots
grew_not slots = record {
  slots = λ n slot here. (slot, here, record { added = []; is = nothing slot.disk; lost = λ e. e });
  drawn = λ id d. d;
}

pub grew_on : (a b c : List Slot) → ClusterGrew a b → ClusterGrew b c → ClusterGrew a c
grew_on a b c p q = record {
  slots = λ n slot here. let mid = p.slots n slot here in let last = q.slots n mid.0 mid.1 in (
    last.0,
    last.1,
    record {
      added = mid.2.added ++ last.2.added;
      is = last.2.is ∙ ap (λ d. d ++ last.2.added) mid.2.is ∙ assoc slot.disk mid.2.added last.2.added;
      lost = λ e. last.2.lost (mid.2.lost e);
    },
  );
  drawn = λ id d. q.drawn id (p.drawn id d);
}

acted_grew : (slots : List Slot) (act : NodeAct) → slot_at slots act.node ≡ Some act.before → IsAct act → ClusterGrew slots (with_slot slots act.node act.after)
acted_grew slots act here is = record {
  slots = λ n slot at. ⊎_elim
      (λ (same, was, now). (
        act.after,
        now,
        record {
          added = is.grows.0;
          is = is.grows.1 ∙ ap (λ (s : Slot). s.disk ++ is.grows.0) (sym was);
          lost = λ e. absurd (is.was (ap (λ (s : Slot). s.life) (sym was) ∙ e));
        },
      ))
      (λ other. (slot, other, record { added = []; is = nothing slot.disk; lost = λ e. e }))
      (read_before slots act.node n act.before act.after slot here at);
  drawn = λ id d. drawn_more slots act here is id d;
}

move_grew : (confirm : ℕ) (move : Move) (c : Cluster) → MayMove confirm move c → Sound confirm c → ClusterGrew c.slots (after_move move c).slots
move_grew confirm (Acted act) c may sound = acted_grew c.slots act may.0 (may.1 (record {
  order = sound.order.each act.node act.before may.0;
  fits = sound.fit.slots_fit act.node act.before may.0;
  heard_fits = λ letter e. sound.fit.letters_fit letter (may.2 letter e);
}))
move_grew confirm (Taken letter left) c may sound = grew_not c.slots
move_grew confirm (Entered entry) c may sound = grew_not c.slots

moves_grew : (confirm : ℕ) (moves : List Move) (c : Cluster) → MayMoves confirm moves c → Sound confirm c → ClusterGrew c.slots (after_moves moves c).slots
moves_grew confirm [] c may sound = grew_not c.slots
moves_grew confirm (move ∷ moves) c may sound = grew_on c.slots (after_move move c).slots (after_moves moves (after_move move c)).slots
    (move_grew confirm move c may.0 sound)
    (moves_grew confirm moves (after_move move c) may.1 (kept confirm move c may.0 sound))

-- a step
pub step_grew : (plan : Plan) (tells : Bool) (old new : World) (step : Step) (outcome : StepOutcome) → MakesStep plan tells old step outcome new → InPlan plan.nodes old.slots → Sound plan.confirm (cluster_of old)
    → ClusterGrew old.slots new.slots
step_grew plan tells old new step outcome made p s =
    let l = leads plan tells old new p s step outcome made in
    subst (λ (c : Cluster). ClusterGrew old.slots c.slots) (sym l.is) (moves_grew plan.confirm l.moves (cluster_of old) l.may s)
