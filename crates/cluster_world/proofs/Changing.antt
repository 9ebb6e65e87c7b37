-- Nodes of which one was changed at its place in the list.
use Rattle.std.proofs.Common.{◌≡◌, ⊎_elim, ℕ, zero, suc, ◌+◌, ◌<◌, List, [], ◌∷◌, length, get_or, Option, Some, refl, sym, ap, ◌∙◌, subst, arith}
use Rattle.std.specs.Prelude.{slice_get, slice_set, IfSome}
use Rattle.std.proofs.lemmas.Option.{slice_get_cases, slice_get-get_or}
use Rattle.object_model.specs.Letters.{Number}
use Rattle.cluster_model.specs.Cluster.{Tickets}
use Rattle.node_core.specs.declared.node.Node.{Node}
use Rattle.call_tickets.specs.declared.answer.Ask as code
use Rattle.cluster_world.specs.Lives.{of_node}
use Rattle.cluster_world.specs.Asking.{IsUpWhole, AsksNode, IsAskedOn, IsRetold, IsRetoldOn}
use Rattle.cluster_world.specs.Changes.{ChangesNode, IsTurnedTo}
use Rattle.cluster_world.specs.declared.life.Life.{Life}
use Rattle.cluster_world.specs.declared.nodes.Nodes.{Nodes}
use Rattle.cluster_world.proofs.Still.{some_same}

pub there : {X : Type 0} (xs : List X) (k : ℕ) → k < length xs → (x : X) × (slice_get xs k ≡ Some x)
there xs k within = ⊎_elim (λ (x, _, here, _). (x, here)) (λ (past, _). absurd (omega (arith, past, within))) (slice_get_cases xs k).1

pub set_same : {X : Type 0} (xs : List X) (k : ℕ) (x : X) → slice_get xs k ≡ Some x → slice_set xs k x ≡ xs
set_same [] k x e = refl
set_same {X} (y ∷ xs) zero x e = ap (λ (z : X). z ∷ xs) (some_same x y (sym e))
set_same {X} (y ∷ xs) (suc k) x e = ap (λ (zs : List X). y ∷ zs) (set_same xs k x e)

module _ {D : Type 0} where
  pub changed_at : (n k : ℕ) (P : Life → D → Life → D → Type 0) (old new : Nodes D) (l l' : Life) (d d' : D) → k + 1 ≡ n
      → slice_get old.lives.items k ≡ Some l → slice_get old.disks.items k ≡ Some d → new.plan ≡ old.plan
      → new.lives.items ≡ slice_set old.lives.items k l' → new.disks.items ≡ slice_set old.disks.items k d' → P l d l' d' → ChangesNode n P old new
  changed_at zero k P old new l l' d d' at a b p e f does = absurd (omega (arith, at))
  changed_at (suc j) k P old new l l' d d' at a b p e f does =
      let same : k ≡ j = omega (arith, at) in
      record {
        life = l;
        disk = d;
        life' = l';
        disk' = d';
        plan = p;
        was = subst (λ i. slice_get old.lives.items i ≡ Some l) same a;
        held = subst (λ i. slice_get old.disks.items i ≡ Some d) same b;
        lives_are = subst (λ i. new.lives.items ≡ slice_set old.lives.items i l') same e;
        disks_are = subst (λ i. new.disks.items ≡ slice_set old.disks.items i d') same f;
        does = does;
      }

  -- where the life alone was
  pub turned_at : (n k : ℕ) (old new : Nodes D) (now : Life) → k + 1 ≡ n → k < length old.lives.items → k < length old.disks.items → new.plan ≡ old.plan
      → new.lives.items ≡ slice_set old.lives.items k now → new.disks.items ≡ old.disks.items → ChangesNode n (IsTurnedTo now) old new
  turned_at n k old new now at a b p e f =
      let (l, here) = there old.lives.items k a in
      let (d, held) = there old.disks.items k b in
      changed_at n k (IsTurnedTo now) old new l now d d at here held p e (subst (λ xs. new.disks.items ≡ xs) (sym (set_same old.disks.items k d held)) f) (refl, refl)

-- a node of the plan at its place
pub node_at : {X : Type 0} (xs : List X) (n k : ℕ) → k + 1 ≡ n → of_node xs n ≡ slice_get xs k
node_at xs zero k at = absurd (omega (arith, at))
node_at xs (suc j) k at = ap (slice_get xs) (omega (arith, at))

pub up_at : (lives : List Life) (n k : ℕ) (l d : Life) → k + 1 ≡ n → k < length lives → l ≡ get_or lives k d → IfSome (of_node lives n) (λ life. IsUpWhole life) → IsUpWhole l
up_at lives n k l d at within read up =
    let here : of_node lives n ≡ Some l = node_at lives n k at ∙ slice_get-get_or lives k d within ∙ ap Some (sym read) in
    subst (λ o. IfSome o (λ life. IsUpWhole life)) here up

pub asked_at : {D : Type 0} (ticket : Number) (result : Option code.Ask) (k : ℕ) (old new : Nodes D) (l l' d : Life) → k + 1 ≡ ticket.node → k < length old.lives.items → k < length old.disks.items
    → l ≡ get_or old.lives.items k d → new.plan ≡ old.plan → new.lives.items ≡ slice_set old.lives.items k l' → new.disks.items ≡ old.disks.items → AsksNode ticket result l l'
    → ChangesNode ticket.node (IsAskedOn ticket result) old new
asked_at ticket result k old new l l' d at a b read p e f asked =
    let (x, held) = there old.disks.items k b in
    changed_at ticket.node k (IsAskedOn ticket result) old new l l' x x at (slice_get-get_or old.lives.items k d a ∙ ap Some (sym read)) held p e
    (f ∙ sym (set_same old.disks.items k x held)) (asked, refl)

pub retold_at : {D : Type 0} (left_of : Node → Tickets) (n k : ℕ) (old new : Nodes D) (l l' d : Life) → k + 1 ≡ n → k < length old.lives.items → k < length old.disks.items
    → l ≡ get_or old.lives.items k d → new.plan ≡ old.plan → new.lives.items ≡ slice_set old.lives.items k l' → new.disks.items ≡ old.disks.items → IsRetold left_of l l'
    → ChangesNode n (IsRetoldOn left_of) old new
retold_at left_of n k old new l l' d at a b read p e f retold =
    let (x, held) = there old.disks.items k b in
    changed_at n k (IsRetoldOn left_of) old new l l' x x at (slice_get-get_or old.lives.items k d a ∙ ap Some (sym read)) held p e
    (f ∙ sym (set_same old.disks.items k x held)) (retold, refl)

-- what is asked of a node of the plan is known of the life at its place
pub life_up_at : (P : Life → Type 0) (lives : List Life) (n k : ℕ) (l d : Life) → k + 1 ≡ n → k < length lives → l ≡ get_or lives k d → IfSome (of_node lives n) P → P l
life_up_at P lives n k l d at within read up =
    let here : of_node lives n ≡ Some l = node_at lives n k at ∙ slice_get-get_or lives k d within ∙ ap Some (sym read) in
    subst (λ o. IfSome o P) here up

-- its life was changed so, and its disk not touched
pub life_changed_at : {D : Type 0} (P : Life → Life → Type 0) (n k : ℕ) (old new : Nodes D) (l l' d : Life) → k + 1 ≡ n → k < length old.lives.items → k < length old.disks.items
    → l ≡ get_or old.lives.items k d → new.plan ≡ old.plan → new.lives.items ≡ slice_set old.lives.items k l' → new.disks.items ≡ old.disks.items → P l l'
    → ChangesNode n (λ one disk other disk'. P one other × (disk' ≡ disk)) old new
life_changed_at P n k old new l l' d at a b read p e f did =
    let (x, held) = there old.disks.items k b in
    changed_at n k (λ one disk other disk'. P one other × (disk' ≡ disk)) old new l l' x x at (slice_get-get_or old.lives.items k d a ∙ ap Some (sym read)) held p e
    (f ∙ sym (set_same old.disks.items k x held)) (did, refl)
