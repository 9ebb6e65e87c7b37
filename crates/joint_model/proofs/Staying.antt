-- Behind moves that change at most tickets of calls that read, a settled epoch stays so, and what began since is fresh.
use Rattle.std.proofs.Common.{◌≡◌, ◌⊎◌, inl, inr, ⊎_elim, ◌≤◌, ℕ, zero, suc, List, [], ◌∷◌, map, Some, refl, sym, ap, ◌∙◌, subst, All}
use Rattle.std.specs.Prelude.{slice_get, slice_set}
use Rattle.std.specs.FinMap as fin
use Rattle.std.proofs.lemmas.List.Elements.{All-head, All-tail}
use Rattle.mail_model.specs.Identity.Key.{Message}
use Rattle.mail_model.specs.Record.{Record}
use Rattle.object_model.specs.Said.{said}
use Rattle.object_model.specs.Letters.{Number, Membership}
use Rattle.object_model.proofs.Lists.{get_after}
use Rattle.cluster_model.specs.Cluster.{set_of_members}
use Rattle.maps_model.specs.Cluster as maps
use Rattle.maps_model.specs.Laws.{IsEpochSettled}
use Rattle.whole_model.specs.Whole as whole
use Rattle.login_model.specs.Cluster as login
use Rattle.object_model.specs.Locks.{Held}
use Rattle.login_model.specs.Rules as login_rules
use Rattle.login_model.specs.Readings.{Login}
use Rattle.login_model.specs.Facts.{IsDrawn}
use Rattle.login_model.specs.Listing.{LoginItem, ListsItems, ListsStanding, IsStillSlot, AreStill, IsStillSince}
use Rattle.login_model.proofs.Reacts.{same_up}
use Rattle.login_model.proofs.Still.{act_still, since_more, since_fresh}
use Rattle.joint_model.specs.Joint.{Node, Slot, Cluster, slot_at, with_slot, slot_up, whole_slot, read_node, read_slot, reads_of}
use Rattle.joint_model.specs.Joint.Life.{Up}
use Rattle.joint_model.specs.Moves.{NodeAct, Move, after_move, after_moves, MayMoves, Sound}
use Rattle.joint_model.specs.Moves.Move.{Acted, Taken, Entered}
use Rattle.joint_model.specs.Laws.{with_reaction}
use Rattle.joint_model.specs.Fresh.{IsSettled, GoneIsForAll, AreOfPlan, IsReadingMove}
use Rattle.joint_model.proofs.Kept.{all_kept, read_here, read_set}
use Rattle.joint_model.proofs.Fresh.{lists}

-- what a read finds after a slot is written
read_after : (slots : List Slot) (n m : ℕ) (x y z : Slot) → slot_at slots n ≡ Some x → slot_at (with_slot slots n y) m ≡ Some z → ((m ≡ n) × (z ≡ y)) ⊎ (slot_at slots m ≡ Some z)
read_after slots zero m x y z h r = cc
read_after slots (suc n) zero x y z h r = cc
read_after slots (suc n) (suc m) x y z h r = ⊎_elim (λ p. inl (ap suc p.0, p.1)) (λ q. inr q) (get_after slots n m x y z h r)

some_same : {X : Type 0} (p q : X) → Some p ≡ Some q → p ≡ q
some_same p q e = cc

-- what a view has where one slot is written that looks the same
module _ {X Y Z : Type 0} (f : X → Y) (g : Y → Z) where
  same_view : (xs : List X) (k : ℕ) (a b : X) → slice_get xs k ≡ Some a → g (f b) ≡ g (f a) → map g (map f (slice_set xs k b)) ≡ map g (map f xs)
  same_view [] k a b here same = refl
  same_view (x ∷ xs) zero a b here same = ap (λ (z : Z). z ∷ map g (map f xs)) (same ∙ ap (λ (s : X). g (f s)) (sym (some_same x a here)))
  same_view (x ∷ xs) (suc k) a b here same = ap (λ (l : List Z). g (f x) ∷ l) (same_view xs k a b here same)

maps_view : (slots : List Slot) (n : ℕ) (a b : Slot) → slot_at slots n ≡ Some a → whole.maps_slot (whole_slot b) ≡ whole.maps_slot (whole_slot a)
    → map whole.maps_slot (map whole_slot (with_slot slots n b)) ≡ map whole.maps_slot (map whole_slot slots)
maps_view slots zero a b here same = refl
maps_view slots (suc k) a b here same = same_view whole_slot whole.maps_slot slots k a b here same

up_same : (a b : Node) (x y : List Record) → slot_up a x ≡ slot_up b y → a ≡ b
up_same a b x y e = life (ap (λ (s : Slot). s.life) e)
  where
    life : Up a ≡ Up b → a ≡ b
    life p = cc

-- one such act
module _ (w : Cluster) (act : NodeAct) (here : slot_at w.slots act.node ≡ Some act.before) (node : Node) (disk : List Record) (did : login_rules.Reaction) (locks : Held)
    (before : act.before ≡ slot_up node disk) (after : act.after ≡ slot_up (with_reaction node did locks) disk) where
  settled_acted : (g : Membership) → IsSettled w g → IsSettled (after_move (Acted act) w) g
  settled_acted g s = record {
    quiet = subst (λ slots. IsEpochSettled slots g) (sym (maps_view w.slots act.node act.before act.after here
        (ap (λ (x : Slot). whole.maps_slot (whole_slot x)) after ∙ sym (ap (λ (x : Slot). whole.maps_slot (whole_slot x)) before)))) s.quiet;
    logs = λ a b ha hb apart other its at key entry h. ⊎_elim
        (λ (same, is).
        let nodes : other ≡ with_reaction node did locks = up_same other (with_reaction node did locks) its disk (is ∙ after) in
        s.logs a b ha hb apart node disk (subst (λ k. slot_at w.slots k ≡ Some (slot_up node disk)) (sym same) (here ∙ ap Some before)) key entry
        (subst (λ (x : Node). fin.get x.whole.mail.log key ≡ Some entry) nodes h))
        (λ old. s.logs a b ha hb apart other its old key entry h)
        (read_after w.slots act.node a act.before act.after (slot_up other its) here at);
  }

  gone_acted : (nodes : ℕ) → GoneIsForAll nodes w.slots → GoneIsForAll nodes (with_slot w.slots act.node act.after)
  gone_acted nodes all n slot at user id state says gone m some le = ⊎_elim
      (λ (same, is).
      let disks : slot.disk ≡ act.before.disk = ap (λ (x : Slot). x.disk) (is ∙ after) ∙ sym (ap (λ (x : Slot). x.disk) before) in
      all act.node act.before here user id state (subst (λ d. said (Message user id) d ≡ Some state) disks says) gone m some le)
      (λ old. all n slot old user id state says gone m some le)
      (read_after w.slots act.node n act.before act.after slot here at)

  still_acted : AreStill (map (read_slot w.tells) w.slots) (map (read_slot w.tells) (with_slot w.slots act.node act.after))
  still_acted = subst (AreStill (map (read_slot w.tells) w.slots)) (sym (read_set w.tells w.slots act.node act.after))
      (act_still (map (read_slot w.tells) w.slots) act.node (read_slot w.tells act.before) (read_slot w.tells act.after) (read_here w.tells w.slots act.node act.before here) (subst (λ (x : Slot). IsStillSlot (read_slot w.tells x) (read_slot w.tells act.after)) (sym before)
      (subst (λ (x : Slot). IsStillSlot (read_slot w.tells (slot_up node disk)) (read_slot w.tells x)) (sym after) (record {
        disk = refl;
        maps = λ old new a b.
            let x = same_up (read_node w.tells node) old a in
            let y = same_up (read_node w.tells (with_reaction node did locks)) new b in
            (sym (ap (λ (k : login.Node). k.named) x) ∙ ap (λ (k : login.Node). k.named) y, sym (ap (λ (k : login.Node). k.manager) x) ∙ ap (λ (k : login.Node). k.manager) y);
        up = λ old a. (read_node w.tells (with_reaction node did locks), refl);
      }))))

module _ (confirm : ℕ) where
  pub settled_stays : (w : Cluster) (moves : List Move) (g : Membership) → MayMoves confirm moves w → All IsReadingMove moves → IsSettled w g → IsSettled (after_moves moves w) g
  settled_stays w [] g may all s = s
  settled_stays w (Acted act ∷ moves) g may all s =
      let r = All-head IsReadingMove (Acted act) moves all in
      settled_stays (after_move (Acted act) w) moves g may.1 (All-tail IsReadingMove (Acted act) moves all) (settled_acted w act may.0.here r.0 r.1 r.2 r.3 r.4 r.5 g s)
  settled_stays w (Taken letter left ∷ moves) g may all s =
      settled_stays (after_move (Taken letter left) w) moves g may.1 (All-tail IsReadingMove (Taken letter left) moves all) (record { quiet = s.quiet; logs = s.logs })
  settled_stays w (Entered entry ∷ moves) g may all s =
      settled_stays (after_move (Entered entry) w) moves g may.1 (All-tail IsReadingMove (Entered entry) moves all) (record { quiet = s.quiet; logs = s.logs })

  gone_stays_all : (nodes : ℕ) (w : Cluster) (moves : List Move) → MayMoves confirm moves w → All IsReadingMove moves → GoneIsForAll nodes w.slots → GoneIsForAll nodes (after_moves moves w).slots
  gone_stays_all nodes w [] may all s = s
  gone_stays_all nodes w (Acted act ∷ moves) may all s =
      let r = All-head IsReadingMove (Acted act) moves all in
      gone_stays_all nodes (after_move (Acted act) w) moves may.1 (All-tail IsReadingMove (Acted act) moves all) (gone_acted w act may.0.here r.0 r.1 r.2 r.3 r.4 r.5 nodes s)
  gone_stays_all nodes w (Taken letter left ∷ moves) may all s = gone_stays_all nodes (after_move (Taken letter left) w) moves may.1 (All-tail IsReadingMove (Taken letter left) moves all) s
  gone_stays_all nodes w (Entered entry ∷ moves) may all s = gone_stays_all nodes (after_move (Entered entry) w) moves may.1 (All-tail IsReadingMove (Entered entry) moves all) s

  since_all : (old : List (List login.Slot)) (w : Cluster) (moves : List Move) → MayMoves confirm moves w → All IsReadingMove moves → IsStillSince old (reads_of w).slots w.story
      → IsStillSince old (reads_of (after_moves moves w)).slots (after_moves moves w).story
  since_all old w [] may all s = s
  since_all old w (Acted act ∷ moves) may all s =
      let r = All-head IsReadingMove (Acted act) moves all in
      since_all old (after_move (Acted act) w) moves may.1 (All-tail IsReadingMove (Acted act) moves all)
      (since_more old w.story (map (read_slot w.tells) w.slots) (map (read_slot w.tells) (with_slot w.slots act.node act.after)) s (still_acted w act may.0.here r.0 r.1 r.2 r.3 r.4 r.5))
  since_all old w (Taken letter left ∷ moves) may all s = since_all old (after_move (Taken letter left) w) moves may.1 (All-tail IsReadingMove (Taken letter left) moves all) s
  since_all old w (Entered entry ∷ moves) may all s = since_all old (after_move (Entered entry) w) moves may.1 (All-tail IsReadingMove (Entered entry) moves all) s

  module _ (nodes : ℕ) (w : Cluster) (moves : List Move) (s : Sound confirm w) (may : MayMoves confirm moves w) (reading : All IsReadingMove moves) (few : nodes ≤ 64) (g : Membership) (settled : IsSettled w g)
      (plan : AreOfPlan nodes g) (all : GoneIsForAll nodes w.slots) (number : Number) (undrawn : IsDrawn (reads_of w).slots number → ⊥) where
    abbrev now : Cluster
    now = after_moves moves w

    pub settled_lists : (login_ : Login) (items : List LoginItem) → ListsItems (reads_of now) number login_ items
        → (proxy : Node) (disk : List Record) → slot_at now.slots number.node ≡ Some (slot_up proxy disk) → proxy.whole.maps.installed ≡ Some g
        → (manager : ℕ) → maps.manager_of g login_.user ≡ Some manager → ListsStanding (reads_of now).slots (set_of_members g.members) login_.user items
    settled_lists login_ items l proxy disk at installed manager managed = lists confirm nodes now (all_kept confirm w moves may s) few g (settled_stays w moves g may reading settled) plan
        (gone_stays_all nodes w moves may reading all) number login_ items l
        (since_fresh w.story (reads_of now) number (since_all w.story w moves may reading (λ moment m. inl m)) (λ moment m d. undrawn (s.reads.knows.past moment m number d)) login_.user)
        proxy disk at installed manager managed
