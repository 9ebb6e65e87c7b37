-- What a step leaves that changes one node and its disk: that node as it says, and all others as they were.
use Rattle.std.proofs.Common.{◌≡◌, ◌≢◌, ◌⊎◌, inl, inr, ⊎_elim, ℕ, zero, suc, ◌+◌, ◌*◌, ◌≤◌, Bool, true, false, List, [], ◌∷◌, ◌++◌, length, Option, Some, None, refl, sym, ap, ◌∙◌, subst, arith, nat_eq, if◌then◌else◌}
use Rattle.std.specs.Prelude.{slice_get, slice_set}
use Rattle.mail_model.specs.Plan.{Plan}
use Rattle.mail_model.proofs.Sessions.{get_set, get_set_other}
use Rattle.session_model.specs.Events.{NodeLife as life, turned}
use Rattle.cluster_model.specs.Cluster as plain
use Rattle.cluster_model.specs.Cluster.{Slot, slot_at, with_slot}
use Rattle.cluster_model.proofs.Slots.{at_same}
use Rattle.node_store.specs.Disks.{View}
use Rattle.node_core.specs.Nodes.{IsNodeOf}
use Rattle.whole_node.specs.Nodes.{WholeWorks}
use Rattle.whole_node.specs.declared.node.WholeNode.{WholeNode}
use Rattle.cluster_world.specs.Lives.{life_seen, of_node, with_node_at, falls_left, all_falls_left, CanWorkOn}
use Rattle.cluster_world.specs.Stands.{SlotStands, SlotsStand}
use Rattle.io_edge.specs.Octets.{IsToldAlike}
use Rattle.world_book.specs.declared.book.Book.{Book}
use Rattle.cluster_world.specs.Flights.{InFlight}
use Rattle.cluster_model.specs.World as machine
use Rattle.mail_model.specs.Book.{BookEntry}
use Rattle.cluster_world.specs.Books.{booked_by}
use Rattle.cluster_world.specs.Worlds.{seen_life, state_with, StateStandsFor}
use Rattle.cluster_world.specs.Steps.{AreToldAlike, IsQuiet, AreSettled}
use Rattle.cluster_world.specs.Changes.{ChangesNode}
use Rattle.cluster_world.specs.Moments.{StopsKeep}
use Rattle.cluster_world.specs.declared.life.Life.{Life}
use Rattle.cluster_world.specs.declared.life.Life.TheVariants.{Up, Down, Lost}
use Rattle.cluster_world.specs.declared.nodes.Nodes.{Nodes}
use Rattle.cluster_world.proofs.Still.{some_same, both_at, all_untouched}

pub same_or : (m n : ℕ) → (m ≡ n) ⊎ (m ≢ n)
same_or m n = by (nat_eq m n) refl
  where
    by : (b : Bool) → nat_eq m n ≡ b → (m ≡ n) ⊎ (m ≢ n)
    by true e = inl (grind arith)
    by false e = inr (λ same. grind arith)

pub read_here : {X : Type 0} (xs : List X) (n : ℕ) (x y : X) → of_node xs n ≡ Some x → of_node (with_node_at xs n y) n ≡ Some y
read_here xs zero x y e = absurd (let never : None ≡ Some x = e in cc)
read_here xs (suc k) x y e = get_set xs k x y e

pub read_other : {X : Type 0} (xs : List X) (n m : ℕ) (y : X) → m ≢ n → of_node (with_node_at xs n y) m ≡ of_node xs m
read_other xs zero m y h = refl
read_other xs (suc k) zero y h = refl
read_other xs (suc k) (suc j) y h = get_set_other xs k j y (λ e. h (ap suc e))

pub slot_other : (slots : List Slot) (n m : ℕ) (y : Slot) → m ≢ n → slot_at (with_slot slots n y) m ≡ slot_at slots m
slot_other slots zero m y h = refl
slot_other slots (suc k) zero y h = refl
slot_other slots (suc k) (suc j) y h = get_set_other slots k j y (λ e. h (ap suc e))

count_set : {X : Type 0} (xs : List X) (k : ℕ) (y : X) → length (slice_set xs k y) ≡ length xs
count_set [] k y = refl
count_set (x ∷ xs) zero y = refl
count_set (x ∷ xs) (suc k) y = ap suc (count_set xs k y)

pub count_with : {X : Type 0} (xs : List X) (n : ℕ) (y : X) → length (with_node_at xs n y) ≡ length xs
count_with xs zero y = refl
count_with xs (suc k) y = count_set xs k y

pub count_slots : (slots : List Slot) (n : ℕ) (y : Slot) → length (with_slot slots n y) ≡ length slots
count_slots slots zero y = refl
count_slots slots (suc k) y = count_set slots k y

falls_set : (xs : List Life) (k : ℕ) (x y : Life) → slice_get xs k ≡ Some x → all_falls_left (slice_set xs k y) + falls_left x ≡ all_falls_left xs + falls_left y
falls_set [] k x y e = absurd (let never : None ≡ Some x = e in cc)
falls_set (z ∷ xs) zero x y e = omega (arith, ap falls_left (some_same z x e))
falls_set (z ∷ xs) (suc k) x y e = omega (arith, falls_set xs k x y e)

falls_with : (xs : List Life) (n : ℕ) (x y : Life) → of_node xs n ≡ Some x → all_falls_left (with_node_at xs n y) + falls_left x ≡ all_falls_left xs + falls_left y
falls_with xs zero x y e = absurd (let never : None ≡ Some x = e in cc)
falls_with xs (suc k) x y e = falls_set xs k x y e

-- a slot stands for each node
pub slot_of : {D : Type 0} (on : View D) (lives : List Life) (disks : List D) (slots : List Slot) (n : ℕ) (life : Life) (disk : D) → SlotsStand on lives disks slots
    → of_node lives n ≡ Some life → of_node disks n ≡ Some disk → (slot : Slot) × (slot_at slots n ≡ Some slot) × SlotStands on n life disk slot
slot_of on lives disks slots zero life disk s a b = absurd (let never : None ≡ Some life = a in cc)
slot_of on lives disks slots (suc k) life disk s a b =
    let (slot, here) = both_at slots lives k life (sym s.count) a in
    (slot, here, s.each k life disk slot a b here)

module _ {D : Type 0} (n : ℕ) (P : Life → D → Life → D → Type 0) (old new : Nodes D) (ch : ChangesNode n P old new) where
  pub life_there : of_node new.lives.items n ≡ Some ch.life'
  life_there = subst (λ xs. of_node xs n ≡ Some ch.life') (sym ch.lives_are) (read_here old.lives.items n ch.life ch.life' ch.was)

  pub disk_there : of_node new.disks.items n ≡ Some ch.disk'
  disk_there = subst (λ xs. of_node xs n ≡ Some ch.disk') (sym ch.disks_are) (read_here old.disks.items n ch.disk ch.disk' ch.held)

  pub life_else : (m : ℕ) → m ≢ n → of_node new.lives.items m ≡ of_node old.lives.items m
  life_else m h = ap (λ xs. of_node xs m) ch.lives_are ∙ read_other old.lives.items n m ch.life' h

  pub disk_else : (m : ℕ) → m ≢ n → of_node new.disks.items m ≡ of_node old.disks.items m
  disk_else m h = ap (λ xs. of_node xs m) ch.disks_are ∙ read_other old.disks.items n m ch.disk' h

  pub as_many : length new.disks.items ≡ length old.disks.items
  as_many = ap length ch.disks_are ∙ count_with old.disks.items n ch.disk'

  -- how nodes are
  pub lives_turned : (m : ℕ) → seen_life (of_node new.lives.items m) ≡ turned n (life_seen ch.life') m (seen_life (of_node old.lives.items m))
  lives_turned m = by (nat_eq n m) refl
    where
      by : (b : Bool) → nat_eq n m ≡ b → seen_life (of_node new.lives.items m) ≡ turned n (life_seen ch.life') m (seen_life (of_node old.lives.items m))
      by true e =
          let same : n ≡ m = grind arith in
          subst (λ k. seen_life (of_node new.lives.items k) ≡ life_seen ch.life') same (ap seen_life life_there)
          ∙ sym (ap (λ b. if b then life_seen ch.life' else seen_life (of_node old.lives.items m)) e)
      by false e =
          ap seen_life (life_else m (λ same. grind arith))
          ∙ sym (ap (λ b. if b then life_seen ch.life' else seen_life (of_node old.lives.items m)) e)

  -- what holds of a disk as it stays, and of this one, holds of each
  pub each_disk : (R : D → D → Type 0) → ((d : D) → R d d) → R ch.disk ch.disk' → (m : ℕ) (d d' : D) → of_node old.disks.items m ≡ Some d → of_node new.disks.items m ≡ Some d' → R d d'
  each_disk R stays here m d d' e f = ⊎_elim
      (λ (same : m ≡ n).
      let was : ch.disk ≡ d = some_same ch.disk d (sym ch.held ∙ ap (of_node old.disks.items) (sym same) ∙ e) in
      let now : ch.disk' ≡ d' = some_same ch.disk' d' (sym disk_there ∙ ap (of_node new.disks.items) (sym same) ∙ f) in
      subst (λ x. R x d') was (subst (λ x. R ch.disk x) now here))
      (λ (other : m ≢ n). subst (λ x. R d x) (some_same d d' (sym e ∙ sym (disk_else m other) ∙ f)) (stays d))
      (same_or m n)

  -- each slot
  pub slots_stand : (on : View D) (slots : List Slot) (slot' : Slot) → SlotsStand on old.lives.items old.disks.items slots → SlotStands on n ch.life' ch.disk' slot'
      → SlotsStand on new.lives.items new.disks.items (with_slot slots n slot')
  slots_stand on slots slot' s here = record {
    count = count_slots slots n slot' ∙ s.count ∙ sym (ap length ch.lives_are ∙ count_with old.lives.items n ch.life');
    each = λ k l d t a b c. ⊎_elim
        (λ (same : suc k ≡ n).
        let (slot, there, stood) = slot_of on old.lives.items old.disks.items slots n ch.life ch.disk s ch.was ch.held in
        let la : ch.life' ≡ l = some_same ch.life' l (sym life_there ∙ ap (of_node new.lives.items) (sym same) ∙ a) in
        let da : ch.disk' ≡ d = some_same ch.disk' d (sym disk_there ∙ ap (of_node new.disks.items) (sym same) ∙ b) in
        let ta : slot' ≡ t = some_same slot' t (sym (at_same slots n slot slot' there) ∙ ap (slot_at (with_slot slots n slot')) (sym same) ∙ c) in
        subst (λ x. SlotStands on (suc k) l d x) ta (subst (λ x. SlotStands on (suc k) l x slot') da (subst (λ x. SlotStands on (suc k) x ch.disk' slot') la (subst (λ m. SlotStands on m ch.life' ch.disk' slot') (sym same) here))))
        (λ (other : suc k ≢ n). s.each k l d t (sym (life_else (suc k) other) ∙ a) (sym (disk_else (suc k) other) ∙ b) (sym (slot_other slots n (suc k) slot' other) ∙ c))
        (same_or (suc k) n);
  }

  -- what a stop leaves of each disk
  pub stops_kept : (on : View D) (slots : List Slot) (slot slot' : Slot) → SlotsStand on old.lives.items old.disks.items slots → slot_at slots n ≡ Some slot
      → (slot.life ≢ plain.Life.Lost → StopsKeep on n ch.disk ch.disk' slot slot')
      → (m : ℕ) (d d' : D) (s s' : Slot) → of_node old.disks.items m ≡ Some d → of_node new.disks.items m ≡ Some d' → slot_at slots m ≡ Some s → slot_at (with_slot slots n slot') m ≡ Some s'
      → s.life ≢ plain.Life.Lost → StopsKeep on m d d' s s'
  stops_kept on slots slot slot' st there keeps m d d' s s' e f a b here = ⊎_elim
      (λ (same : m ≡ n).
      let was : ch.disk ≡ d = some_same ch.disk d (sym ch.held ∙ ap (of_node old.disks.items) (sym same) ∙ e) in
      let now : ch.disk' ≡ d' = some_same ch.disk' d' (sym disk_there ∙ ap (of_node new.disks.items) (sym same) ∙ f) in
      let sa : slot ≡ s = some_same slot s (sym there ∙ ap (slot_at slots) (sym same) ∙ a) in
      let ta : slot' ≡ s' = some_same slot' s' (sym (at_same slots n slot slot' there) ∙ ap (slot_at (with_slot slots n slot')) (sym same) ∙ b) in
      let kept : StopsKeep on n ch.disk ch.disk' slot slot' = keeps (λ lost. here (ap (λ (x : Slot). x.life) (sym sa) ∙ lost)) in
      subst (λ x. StopsKeep on m d d' s x) ta (subst (λ x. StopsKeep on m d d' x slot') sa (subst (λ x. StopsKeep on m d x slot slot') now (subst (λ x. StopsKeep on m x ch.disk' slot slot') was
      (subst (λ k. StopsKeep on k ch.disk ch.disk' slot slot') (sym same) kept)))))
      (λ (other : m ≢ n).
      let now : d ≡ d' = some_same d d' (sym e ∙ sym (disk_else m other) ∙ f) in
      let sa : s ≡ s' = some_same s s' (sym a ∙ sym (slot_other slots n m slot' other) ∙ b) in
      subst (λ x. StopsKeep on m d d' s x) sa (subst (λ x. StopsKeep on m d x s s) now (all_untouched on old.lives.items old.disks.items slots st m d s e a here)))
      (same_or m n)

  -- each node that is up can work
  pub still_ready : (seen : D → Option (List ℕ)) (plan : Plan) → CanWorkOn seen plan old.lives.items old.disks.items
      → ((node : WholeNode) → ch.life' ≡ Up node → IsNodeOf plan n node.mail × WholeWorks (seen ch.disk') node) → CanWorkOn seen plan new.lives.items new.disks.items
  still_ready seen plan works here = record {
    each = λ k node d a b. ⊎_elim
        (λ (same : suc k ≡ n).
        let la : ch.life' ≡ Up node = some_same ch.life' (Up node) (sym life_there ∙ ap (of_node new.lives.items) (sym same) ∙ a) in
        let da : ch.disk' ≡ d = some_same ch.disk' d (sym disk_there ∙ ap (of_node new.disks.items) (sym same) ∙ b) in
        let h = here node la in
        (subst (λ m. IsNodeOf plan m node.mail) (sym same) h.0, subst (λ x. WholeWorks (seen x) node) da h.1))
        (λ (other : suc k ≢ n). works.each k node d (sym (life_else (suc k) other) ∙ a) (sym (disk_else (suc k) other) ∙ b))
        (same_or (suc k) n);
  }

  -- what the book may need
  pub falls_now : all_falls_left new.lives.items + falls_left ch.life ≡ all_falls_left old.lives.items + falls_left ch.life'
  falls_now = subst (λ xs. all_falls_left xs + falls_left ch.life ≡ all_falls_left old.lives.items + falls_left ch.life') (sym ch.lives_are) (falls_with old.lives.items n ch.life ch.life' ch.was)

  -- The same of states, whatever else they have.
  module _ (flying flying' : InFlight) (seconds seconds' : ℕ) (book book' : Book) where
    pub told_by : (seen : D → Option (List ℕ)) → IsToldAlike (seen ch.disk) (seen ch.disk') → AreToldAlike seen (state_with old flying seconds book) (state_with new flying' seconds' book')
    told_by seen here = record { each = each_disk (λ d d'. IsToldAlike (seen d) (seen d')) (λ d. refl) here }

    pub quiet_by : (faults : D → ℕ) → faults ch.disk ≤ faults ch.disk' → ((boot : ℕ) → life_seen ch.life' ≡ life.Up boot → faults ch.disk' ≡ faults ch.disk)
        → IsQuiet faults (state_with old flying seconds book) (state_with new flying' seconds' book')
    quiet_by faults later same = record {
      later = each_disk (λ d d'. faults d ≤ faults d') (λ d. omega arith) later;
      same = λ m boot d d' b e f. ⊎_elim
          (λ (here : m ≡ n).
          let now : life_seen ch.life' ≡ life.Up boot = sym (ap seen_life life_there) ∙ ap (λ k. seen_life (of_node new.lives.items k)) (sym here) ∙ b in
          let d_is : ch.disk ≡ d = some_same ch.disk d (sym ch.held ∙ ap (of_node old.disks.items) (sym here) ∙ e) in
          let d'_is : ch.disk' ≡ d' = some_same ch.disk' d' (sym disk_there ∙ ap (of_node new.disks.items) (sym here) ∙ f) in
          ap faults (sym d'_is) ∙ same boot now ∙ ap faults d_is)
          (λ (other : m ≢ n). ap faults (some_same d' d (sym f ∙ disk_else m other ∙ e)))
          (same_or m n);
    }

    pub settled_by : (is_settled : D → Type 0) → ((boot : ℕ) → life_seen ch.life' ≡ life.Up boot → (life_seen ch.life ≡ life.Up boot → is_settled ch.disk) → is_settled ch.disk')
        → AreSettled is_settled (state_with old flying seconds book) → AreSettled is_settled (state_with new flying' seconds' book')
    settled_by is_settled here s = record {
      each = λ m boot d a e. ⊎_elim
          (λ (same : m ≡ n).
          let now : life_seen ch.life' ≡ life.Up boot = sym (ap seen_life life_there) ∙ ap (λ k. seen_life (of_node new.lives.items k)) (sym same) ∙ a in
          let d_is : ch.disk' ≡ d = some_same ch.disk' d (sym disk_there ∙ ap (of_node new.disks.items) (sym same) ∙ e) in
          subst is_settled d_is (here boot now (λ was. s.each n boot ch.disk (ap seen_life ch.was ∙ was) ch.held)))
          (λ (other : m ≢ n). s.each m boot d (ap seen_life (sym (life_else m other)) ∙ a) (sym (disk_else m other) ∙ e))
          (same_or m n);
    }

  -- the world of the machine, once the slot was written and the book has these entries more
  pub stands_now : (on : View D) (flying : InFlight) (seconds : ℕ) (book book' : Book) (entries : List BookEntry) → booked_by book' ≡ booked_by book ++ entries
      → (w : machine.World) → StateStandsFor on (state_with old flying seconds book) w → (slot' : Slot) → SlotStands on n ch.life' ch.disk' slot'
      → StateStandsFor on (state_with new flying seconds book') (record w { slots = with_slot w.slots n slot'; book = w.book ++ entries })
  stands_now on flying seconds book book' entries wrote w st slot' stands = record {
    slots = slots_stand on w.slots slot' st.slots stands;
    flying = st.flying;
    sent = st.sent;
    seconds = st.seconds;
    book = wrote ∙ ap (λ b. b ++ entries) st.book;
  }

-- the falls of all nodes are two of each at most
pub most_falls : (lives : List Life) → all_falls_left lives ≤ 2 * length lives
most_falls [] = omega arith
most_falls (l ∷ lives) = omega (arith, most_falls lives, one_falls l)
  where
    one_falls : (l : Life) → falls_left l ≤ 2
    one_falls (Up node) = omega arith
    one_falls Down = omega arith
    one_falls Lost = omega arith
