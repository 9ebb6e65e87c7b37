-- Nodes that stand for slots with all that they keep, and what a step leaves that changes one of them.
use Rattle.std.proofs.Common.{◌≡◌, ◌≢◌, ◌⊎◌, inl, inr, ℕ, zero, suc, List, [], ◌∷◌, map, Some, None, refl, sym, ap, ◌∙◌, subst}
use Rattle.std.specs.Prelude.{slice_get, slice_set, IfSome}
use Rattle.mail_model.specs.Record.{Record, payloads_of}
use Rattle.disk_journal.specs.Journal.{EndsAt, TellsJournal}
use Rattle.cluster_model.specs.Cluster as plain
use Rattle.whole_model.specs.Whole as whole
use Rattle.whole_model.specs.Whole.{mail_slot}
use Rattle.joint_model.specs.Joint as joint
use Rattle.joint_model.specs.Joint.{whole_slot}
use Rattle.node_store.specs.Disks.{View}
use Rattle.node_maps.specs.Nodes.{node_of}
use Rattle.node_core.specs.Nodes.{node_seen}
use Rattle.whole_node.specs.Nodes.{joint_seen}
use Rattle.whole_node.specs.Reading.{KeepsMail}
use Rattle.whole_node.specs.declared.node.WholeNode.{WholeNode}
use Rattle.cluster_world.specs.Changes.{ChangesNode}
use Rattle.cluster_world.specs.Lives.{of_node}
use Rattle.cluster_world.specs.Maps.{HasReads}
use Rattle.cluster_world.specs.Reading.{AllStand}
use Rattle.cluster_world.specs.Stands.{StandsUp, SlotStands, SlotsStand}
use Rattle.cluster_world.specs.declared.life.Life.{Life}
use Rattle.cluster_world.specs.declared.life.Life.TheVariants.{Up}
use Rattle.cluster_world.specs.declared.nodes.Nodes.{Nodes}
use Rattle.cluster_world.proofs.Still.{some_same}
use Rattle.cluster_world.proofs.Turned.{same_or, life_there, life_else, slots_stand, slot_of}
use Rattle.cluster_world.proofs.Turning.{up_same}

-- what messages have of a slot
abbrev pub mail_of : joint.Slot → plain.Slot
mail_of slot = mail_slot (whole_slot slot)

abbrev pub mail_slots : List joint.Slot → List plain.Slot
mail_slots slots = map mail_slot (map whole_slot slots)

get_map : {X Y : Type 0} (f : X → Y) (xs : List X) (k : ℕ) (y : Y) → slice_get (map f xs) k ≡ Some y → (x : X) × (slice_get xs k ≡ Some x) × (f x ≡ y)
get_map f [] k y e = absurd (let never : None ≡ Some y = e in cc)
get_map f (x ∷ xs) zero y e = (x, refl, some_same (f x) y e)
get_map f (x ∷ xs) (suc k) y e = get_map f xs k y e

map_get : {X Y : Type 0} (f : X → Y) (xs : List X) (k : ℕ) (x : X) → slice_get xs k ≡ Some x → slice_get (map f xs) k ≡ Some (f x)
map_get f [] k x e = absurd (let never : None ≡ Some x = e in cc)
map_get f (y ∷ xs) zero x e = ap (λ z. Some (f z)) (some_same y x e)
map_get f (y ∷ xs) (suc k) x e = map_get f xs k x e

map_set : {X Y : Type 0} (f : X → Y) (xs : List X) (k : ℕ) (x : X) → map f (slice_set xs k x) ≡ slice_set (map f xs) k (f x)
map_set f [] k x = refl
map_set f (y ∷ xs) zero x = refl
map_set {X} {Y} f (y ∷ xs) (suc k) x = ap (λ (l : List Y). f y ∷ l) (map_set f xs k x)

-- the slot of a node, as messages and maps have it
pub mail_there : (slots : List joint.Slot) (n : ℕ) (slot : joint.Slot) → joint.slot_at slots n ≡ Some slot → plain.slot_at (mail_slots slots) n ≡ Some (mail_of slot)
mail_there slots zero slot e = absurd (let never : None ≡ Some slot = e in cc)
mail_there slots (suc k) slot e = map_get mail_slot (map whole_slot slots) k (whole_slot slot) (map_get whole_slot slots k slot e)

pub whole_there : (slots : List joint.Slot) (n : ℕ) (slot : joint.Slot) → joint.slot_at slots n ≡ Some slot → whole.slot_at (map whole_slot slots) n ≡ Some (whole_slot slot)
whole_there slots zero slot e = absurd (let never : None ≡ Some slot = e in cc)
whole_there slots (suc k) slot e = map_get whole_slot slots k slot e

pub mail_back : (slots : List joint.Slot) (n : ℕ) (slot : plain.Slot) → plain.slot_at (mail_slots slots) n ≡ Some slot → (one : joint.Slot) × (joint.slot_at slots n ≡ Some one) × (mail_of one ≡ slot)
mail_back slots zero slot e = absurd (let never : None ≡ Some slot = e in cc)
mail_back slots (suc k) slot e =
    let (between, at, is) = get_map mail_slot (map whole_slot slots) k slot e in
    let (one, here, same) = get_map whole_slot slots k between at in
    (one, here, ap mail_slot same ∙ is)

pub whole_back : (slots : List joint.Slot) (n : ℕ) (slot : whole.Slot) → whole.slot_at (map whole_slot slots) n ≡ Some slot → (one : joint.Slot) × (joint.slot_at slots n ≡ Some one) × (whole_slot one ≡ slot)
whole_back slots zero slot e = absurd (let never : None ≡ Some slot = e in cc)
whole_back slots (suc k) slot e = get_map whole_slot slots k slot e

pub mail_set : (slots : List joint.Slot) (n : ℕ) (slot : joint.Slot) → mail_slots (joint.with_slot slots n slot) ≡ plain.with_slot (mail_slots slots) n (mail_of slot)
mail_set slots zero slot = refl
mail_set slots (suc k) slot = ap (map mail_slot) (map_set whole_slot slots k slot) ∙ map_set mail_slot (map whole_slot slots) k (whole_slot slot)

slot_here : (slots : List joint.Slot) (n : ℕ) (old new : joint.Slot) → joint.slot_at slots n ≡ Some old → joint.slot_at (joint.with_slot slots n new) n ≡ Some new
slot_here slots zero old new e = absurd (let never : None ≡ Some old = e in cc)
slot_here slots (suc k) old new e = set_here slots k old new e
  where
    set_here : (xs : List joint.Slot) (j : ℕ) (x y : joint.Slot) → slice_get xs j ≡ Some x → slice_get (slice_set xs j y) j ≡ Some y
    set_here [] j x y f = absurd (let never : None ≡ Some x = f in cc)
    set_here (z ∷ xs) zero x y f = refl
    set_here (z ∷ xs) (suc j) x y f = set_here xs j x y f

slot_beside : (slots : List joint.Slot) (n m : ℕ) (new : joint.Slot) → m ≢ n → joint.slot_at (joint.with_slot slots n new) m ≡ joint.slot_at slots m
slot_beside slots zero m new h = refl
slot_beside slots (suc k) zero new h = refl
slot_beside slots (suc k) (suc j) new h = set_beside slots k j new (λ e. h (ap suc e))
  where
    set_beside : (xs : List joint.Slot) (i l : ℕ) (y : joint.Slot) → l ≢ i → slice_get (slice_set xs i y) l ≡ slice_get xs l
    set_beside [] i l y g = refl
    set_beside (z ∷ xs) zero zero y g = absurd (g refl)
    set_beside (z ∷ xs) zero (suc l) y g = refl
    set_beside (z ∷ xs) (suc i) zero y g = refl
    set_beside (z ∷ xs) (suc i) (suc l) y g = set_beside xs i l y (λ e. g (ap suc e))

life_up_same : (a b : joint.Node) → ◌≡◌ {A = joint.Life} (joint.Life.Up a) (joint.Life.Up b) → a ≡ b
life_up_same a b e = cc

plain_up_same : (a b : plain.Node) → ◌≡◌ {A = plain.Life} (plain.Life.Up a) (plain.Life.Up b) → a ≡ b
plain_up_same a b e = cc

-- a node that is up, as the slots that it stands for have it
pub record HasUp {D : Type 0} (on : View D) (n : ℕ) (node : WholeNode) (disk : D) (slots : List joint.Slot) : Type 0 where
  pub records : List Record
  pub here : joint.slot_at slots n ≡ Some (joint.slot_up (joint_seen node) records)
  pub stands : StandsUp on n node.mail disk (node_seen node.mail) records

module _ {D : Type 0} (on : View D) (lives : List Life) (disks : List D) (slots : List joint.Slot) (all : AllStand on lives disks slots) where
  pub slot_for : (n : ℕ) (life : Life) (disk : D) → of_node lives n ≡ Some life → of_node disks n ≡ Some disk → (slot : joint.Slot) × (joint.slot_at slots n ≡ Some slot) × SlotStands on n life disk (mail_of slot)
  slot_for n life disk a b =
      let (m, at, stands) = slot_of on lives disks (mail_slots slots) n life disk all.mail a b in
      let (slot, here, is) = mail_back slots n m at in
      (slot, here, subst (λ s. SlotStands on n life disk s) (sym is) stands)

  pub up_for : (n : ℕ) (node : WholeNode) (disk : D) → of_node lives n ≡ Some (Up node) → of_node disks n ≡ Some disk → HasUp on n node disk slots
  up_for n node disk a b =
      let (slot, here, stands) = slot_for n (Up node) disk a b in
      by slot here (slot.life) refl stands
    where
      seen_is : (slot : joint.Slot) → joint.slot_at slots n ≡ Some slot → (up : joint.Node) → slot.life ≡ joint.Life.Up up → up.whole.mail ≡ node_seen node.mail → up ≡ joint_seen node
      seen_is slot here up is mail =
          let maps : up.whole.maps ≡ node_of node.maps = all.maps.each n node (whole_slot slot) up.whole a (whole_there slots n slot here) (ap joint.whole_life is) in
          let kept : HasReads node up = all.reads.each n node slot up a here is in
          λ i. record { whole = record { mail = mail i; maps = maps i }; reads = kept.reads i; locks = kept.locks i }

      by : (slot : joint.Slot) → joint.slot_at slots n ≡ Some slot → (life : joint.Life) → slot.life ≡ life → SlotStands on n (Up node) disk (mail_of slot) → HasUp on n node disk slots
      by slot here (joint.Life.Up up) is (seen, same, stands) =
          let mail : up.whole.mail ≡ seen = plain_up_same up.whole.mail seen (sym (ap (λ l. whole.mail_life (joint.whole_life l)) is) ∙ same) in
          let up_is : up ≡ joint_seen node = seen_is slot here up is (mail ∙ sym stands.seen_is) in
          record {
            records = slot.disk;
            here = here ∙ ap (λ (l : joint.Life). Some (record { life = l; disk = slot.disk })) (is ∙ ap joint.Life.Up up_is);
            stands = subst (λ s. StandsUp on n node.mail disk s slot.disk) (sym stands.seen_is) stands;
          }
      by slot here (joint.Life.Down pending) is (seen, same, stands) = absurd (let never : plain.Life.Down pending ≡ plain.Life.Up seen = sym (ap (λ l. whole.mail_life (joint.whole_life l)) is) ∙ same in cc)
      by slot here joint.Life.Lost is (seen, same, stands) = absurd (let never : plain.Life.Lost ≡ plain.Life.Up seen = sym (ap (λ l. whole.mail_life (joint.whole_life l)) is) ∙ same in cc)

-- Its store is as it was: it stands for the same records.
pub stands_kept : {D : Type 0} (on : View D) (own : ℕ) (old new : WholeNode) (disk : D) (records : List Record) → KeepsMail old.mail new.mail → StandsUp on own old.mail disk (node_seen old.mail) records
    → StandsUp on own new.mail disk (node_seen new.mail) records
stands_kept on own old new disk records kept st = record {
  seen_is = refl;
  keeps = kept.keeps records st.keeps;
  tells = subst (λ n. TellsJournal (on.seen disk) own (payloads_of records) n) (sym kept.end_is) st.tells;
  images = subst (λ n. IfSome (on.seen disk) (λ _. (c : List ℕ) → on.clock.is_image disk c → EndsAt own c (payloads_of records) n)) (sym kept.end_is) st.images;
}

-- the new slot has the maps, the tickets of calls that read and the locks of the node, where that is up
abbrev pub FitsLife : Life → joint.Slot → Type 0
FitsLife life slot = (node : WholeNode) → life ≡ Up node → (seen : joint.Node) → slot.life ≡ joint.Life.Up seen → (seen.whole.maps ≡ node_of node.maps) × HasReads node seen

pub fits_seen : (node : WholeNode) (disk : List Record) → FitsLife (Up node) (joint.slot_up (joint_seen node) disk)
fits_seen node disk one is seen up =
    let same : node ≡ one = up_same node one is in
    let seen_is : joint_seen node ≡ seen = life_up_same (joint_seen node) seen up in
    subst (λ (x : WholeNode). (seen.whole.maps ≡ node_of x.maps) × HasReads x seen) same
    (sym (ap (λ (x : joint.Node). x.whole.maps) seen_is), record { reads = sym (ap (λ (x : joint.Node). x.reads) seen_is); locks = sym (ap (λ (x : joint.Node). x.locks) seen_is) })

module _ {D : Type 0} (n : ℕ) (P : Life → D → Life → D → Type 0) (old new : Nodes D) (ch : ChangesNode n P old new) (on : View D) where
  -- The other nodes stand for their slots, and this one for the new slot.
  pub all_changed : (slots : List joint.Slot) (was slot : joint.Slot) → AllStand on old.lives.items old.disks.items slots → joint.slot_at slots n ≡ Some was → SlotStands on n ch.life' ch.disk' (mail_of slot) → FitsLife ch.life' slot
      → AllStand on new.lives.items new.disks.items (joint.with_slot slots n slot)
  all_changed slots was slot all here stands fits = record {
    mail = subst (λ xs. SlotsStand on new.lives.items new.disks.items xs) (sym (mail_set slots n slot)) (slots_stand n P old new ch on (mail_slots slots) (mail_of slot) all.mail stands);
    maps = record {
      each = λ m node w seen a b up.
          let (one, at, is) = whole_back (joint.with_slot slots n slot) m w b in
          by_maps m node w seen a one at is up (same_or m n);
    };
    reads = record { each = λ m node one seen a at up. by_reads m node one seen a at up (same_or m n) };
  }
    where
      there : (m : ℕ) (node : WholeNode) → of_node new.lives.items m ≡ Some (Up node) → m ≡ n → ch.life' ≡ Up node
      there m node a same = some_same ch.life' (Up node) (sym (life_there n P old new ch) ∙ ap (of_node new.lives.items) (sym same) ∙ a)

      slot_there : (m : ℕ) (one : joint.Slot) → joint.slot_at (joint.with_slot slots n slot) m ≡ Some one → m ≡ n → slot ≡ one
      slot_there m one at same = some_same slot one (sym (slot_here slots n was slot here) ∙ ap (joint.slot_at (joint.with_slot slots n slot)) (sym same) ∙ at)

      up_in : (life : joint.Life) (seen : whole.Node) → joint.whole_life life ≡ whole.Life.Up seen → (node : joint.Node) × (life ≡ joint.Life.Up node) × (node.whole ≡ seen)
      up_in (joint.Life.Up node) seen e = (node, refl, whole_up node.whole seen e)
        where
          whole_up : (a b : whole.Node) → ◌≡◌ {A = whole.Life} (whole.Life.Up a) (whole.Life.Up b) → a ≡ b
          whole_up a b p = cc
      up_in (joint.Life.Down pending) seen e = absurd (let never : whole.Life.Down pending ≡ whole.Life.Up seen = e in cc)
      up_in joint.Life.Lost seen e = absurd (let never : whole.Life.Lost ≡ whole.Life.Up seen = e in cc)

      by_maps : (m : ℕ) (node : WholeNode) (w : whole.Slot) (seen : whole.Node) → of_node new.lives.items m ≡ Some (Up node) → (one : joint.Slot) → joint.slot_at (joint.with_slot slots n slot) m ≡ Some one → whole_slot one ≡ w
          → w.life ≡ whole.Life.Up seen → (m ≡ n) ⊎ (m ≢ n) → seen.maps ≡ node_of node.maps
      by_maps m node w seen a one at is up (inl same) =
          let (j, j_is, j_seen) = up_in slot.life seen (ap (λ (s : joint.Slot). joint.whole_life s.life) (slot_there m one at same) ∙ ap (λ (s : whole.Slot). s.life) is ∙ up) in
          ap (λ (x : whole.Node). x.maps) (sym j_seen) ∙ (fits node (there m node a same) j j_is).0
      by_maps m node w seen a one at is up (inr other) =
          all.maps.each m node w seen (sym (life_else n P old new ch m other) ∙ a) (whole_there slots m one (sym (slot_beside slots n m slot other) ∙ at) ∙ ap Some is) up

      by_reads : (m : ℕ) (node : WholeNode) (one : joint.Slot) (seen : joint.Node) → of_node new.lives.items m ≡ Some (Up node) → joint.slot_at (joint.with_slot slots n slot) m ≡ Some one → one.life ≡ joint.Life.Up seen
          → (m ≡ n) ⊎ (m ≢ n) → HasReads node seen
      by_reads m node one seen a at up (inl same) = (fits node (there m node a same) seen (ap (λ (s : joint.Slot). s.life) (slot_there m one at same) ∙ up)).1
      by_reads m node one seen a at up (inr other) = all.reads.each m node one seen (sym (life_else n P old new ch m other) ∙ a) (sym (slot_beside slots n m slot other) ∙ at) up

-- nothing was changed
pub all_same : {D : Type 0} (on : View D) (old new : Nodes D) (slots : List joint.Slot) → new.lives.items ≡ old.lives.items → new.disks.items ≡ old.disks.items → AllStand on old.lives.items old.disks.items slots
    → AllStand on new.lives.items new.disks.items slots
all_same on old new slots l d s = subst (λ xs. AllStand on xs new.disks.items slots) (sym l) (subst (λ xs. AllStand on old.lives.items xs slots) (sym d) s)
