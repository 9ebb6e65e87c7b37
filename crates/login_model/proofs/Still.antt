-- Behind moves that change at most tickets, each ticket that began since is fresh.
use Rattle.std.proofs.Common.{◌≡◌, inl, inr, ⊎_elim, ℕ, List, [], ◌∷◌, Some, refl, sym, ap, ◌∙◌, subst, All}
use Rattle.std.proofs.lemmas.List.Elements.{All-head, All-tail}
use Rattle.object_model.specs.Lists.{Among}
use Rattle.object_model.specs.Letters.{Number}
use Rattle.cluster_model.specs.Reads.{IsListedCopy}
use Rattle.login_model.specs.Cluster.{Node, Slot, Cluster, slot_at, with_slot}
use Rattle.login_model.specs.Facts.{IsDrawn}
use Rattle.login_model.specs.Moves.{Move, after_move, after_moves, MayMoves}
use Rattle.login_model.specs.Moves.Move.{Acted, Taken}
use Rattle.login_model.specs.Parts.{Sound}
use Rattle.login_model.specs.Listing.{SameFor, IsFreshLogin, IsStillSlot, AreStill, IsStillSince, IsStillMove}
use Rattle.login_model.proofs.Slots.{read_before}
use Rattle.login_model.proofs.Reacts.{same_up}

pub still_self : (slot : Slot) → IsStillSlot slot slot
still_self slot = record {
  disk = refl;
  maps = λ old new a b. let is = same_up old new (sym a ∙ b) in (ap (λ (n : Node). n.named) is, ap (λ (n : Node). n.manager) is);
  up = λ old a. (old, a);
}

still_on : (a b c : Slot) → IsStillSlot a b → IsStillSlot b c → IsStillSlot a c
still_on a b c p q = record {
  disk = p.disk ∙ q.disk;
  maps = λ old new x y.
      let mid = p.up old x in
      let first = p.maps old mid.0 x mid.1 in
      let second = q.maps mid.0 new mid.1 y in
      (first.0 ∙ second.0, first.1 ∙ second.1);
  up = λ old x. let mid = p.up old x in q.up mid.0 mid.1;
}

pub are_still : (slots : List Slot) → AreStill slots slots
are_still slots n slot at = (slot, at, still_self slot)

still_both : (a b c : List Slot) → AreStill a b → AreStill b c → AreStill a c
still_both a b c p q n slot at =
    let x = p n slot at in
    let y = q n x.0 x.1 in
    (y.0, y.1, still_on slot x.0 y.0 x.2 y.2)

-- one node acts so
pub act_still : (slots : List Slot) (node : ℕ) (before after : Slot) → slot_at slots node ≡ Some before → IsStillSlot before after → AreStill slots (with_slot slots node after)
act_still slots node before after here still n slot at = ⊎_elim
    (λ (same, is, there). (after, there, subst (λ (x : Slot). IsStillSlot x after) (sym is) still))
    (λ old. (slot, old, still_self slot))
    (read_before slots node n before after slot here at)

-- one more moment of a story
pub since_more : (old story : List (List Slot)) (slots new : List Slot) → IsStillSince old slots story → AreStill slots new → IsStillSince old new (new ∷ story)
since_more old story slots new since still moment m = ⊎_elim
    (λ is. inr (subst (λ (x : List Slot). AreStill x new) is (are_still new)))
    (λ more. ⊎_elim (λ was. inl was) (λ s. inr (still_both moment slots new s still)) (since moment more))
    m

since_moves : (old : List (List Slot)) (w : Cluster) (moves : List Move) → MayMoves moves w → All IsStillMove moves → IsStillSince old w.slots w.story → IsStillSince old (after_moves moves w).slots (after_moves moves w).story
since_moves old w [] may all since = since
since_moves old w (Acted act ∷ moves) may all since = since_moves old (after_move (Acted act) w) moves may.1 (All-tail IsStillMove (Acted act) moves all)
    (since_more old w.story w.slots (with_slot w.slots act.node act.after) since (act_still w.slots act.node act.before act.after may.0.0 (All-head IsStillMove (Acted act) moves all)))
since_moves old w (Taken letter left ∷ moves) may all since = since_moves old (after_move (Taken letter left) w) moves may.1 (All-tail IsStillMove (Taken letter left) moves all) since

-- nothing of a user changes so
same_for : (user : List ℕ) (a b : Slot) → IsStillSlot a b → SameFor user a b
same_for user a b s = record {
  lists = λ copy. (λ l. subst (λ d. IsListedCopy user d copy) s.disk l, λ l. subst (λ d. IsListedCopy user d copy) (sym s.disk) l);
  named = λ old new x y. let m = s.maps old new x y in (ap (λ (f : List ℕ → _). f user) m.0, ap (λ (f : List ℕ → _). f user) m.1);
}

-- so whatever began since is fresh
pub since_fresh : (old : List (List Slot)) (w : Cluster) (number : Number) → IsStillSince old w.slots w.story → ((moment : List Slot) → Among moment old → IsDrawn moment number → ⊥) → (user : List ℕ) → IsFreshLogin w number user
since_fresh old w number since undrawn user moment m drawn n slot at = ⊎_elim
    (λ was. absurd (undrawn moment was drawn))
    (λ still. let s = still n slot at in (s.0, s.1, same_for user slot s.0 s.2))
    (since moment m)

pub still_is_fresh : (w : Cluster) (moves : List Move) → Sound w → MayMoves moves w → All IsStillMove moves → (number : Number) → (IsDrawn w.slots number → ⊥) → (user : List ℕ)
    → IsFreshLogin (after_moves moves w) number user
still_is_fresh w moves s may all number undrawn user = since_fresh w.story (after_moves moves w) number
    (since_moves w.story w moves may all (λ moment m. inl m)) (λ moment m d. undrawn (s.knows.past moment m number d)) user
