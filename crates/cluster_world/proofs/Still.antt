-- What a step leaves that changes no node, no letter and no entry of the book.
use Rattle.std.proofs.Common.{◌≡◌, ◌≢◌, inl, inr, ⊎_elim, ℕ, zero, suc, List, [], ◌++◌, length, append-nil, Option, Some, None, refl, sym, ap, ◌∙◌, subst, arith}
use Rattle.std.specs.Prelude.{slice_get, IfSome}
use Rattle.std.proofs.lemmas.Option.{slice_get_within, slice_get_cases}
use Rattle.io_edge.specs.Moments.{Keeps as KeepsImages}
use Rattle.mail_model.specs.Record.{Record, IsJournal, payloads_of}
use Rattle.cluster_model.specs.Cluster as plain
use Rattle.node_store.specs.Disks.{View}
use Rattle.node_core.specs.Works.{IsOnlyRead}
use Rattle.cluster_world.specs.Lives.{of_node}
use Rattle.cluster_world.specs.Stands.{SlotStands, SlotsStand}
use Rattle.cluster_world.specs.Moments.{IsStopOf, StopsKeep}
use Rattle.cluster_world.specs.declared.life.Life.{Life}
use Rattle.cluster_world.specs.declared.life.Life.TheVariants.{Up, Down, Lost}

pub some_same : {A : Type 0} (a b : A) → Some a ≡ Some b → a ≡ b
some_same a b e = cc

-- where the octets are told or not
pub if_some : (o : Option (List ℕ)) (P Q : List ℕ → Type 0) → ((c : List ℕ) → P c → Q c) → IfSome o P → IfSome o Q
if_some None P Q f h = tt
if_some (Some c) P Q f h = f c h

-- nothing was read, and all the less written
pub nothing_read : {D : Type 0} (on : View D) (d d' : D) → d' ≡ d → IsOnlyRead on d d'
nothing_read on d d' e = record {
  seen = ap on.seen e;
  images = subst (λ x. KeepsImages on.clock d x) (sym e) (record { later = omega arith; since = λ t c le was. inl was; now = λ c image. image });
}

no_more : (xs : List Record) → (xs ++ []) ++ [] ≡ xs
no_more xs = append-nil (xs ++ []) ∙ append-nil xs

module _ {D : Type 0} (on : View D) (own : ℕ) where
  -- a stop leaves what stood
  stop_of_all : (slot : plain.Slot) (added : List Record) (c : List ℕ) → IsJournal own c (payloads_of slot.disk) → IsStopOf own slot added c
  stop_of_all slot added c is = record {
    kept = [];
    pending_is = inl refl;
    front = [];
    rest = added;
    split = refl;
    is = subst (λ xs. IsJournal own c (payloads_of xs)) (sym (no_more slot.disk)) is;
  }

  -- or that and what was pending
  stop_of_more : (slot : plain.Slot) (added pending : List Record) (c : List ℕ) → pending ≡ plain.pending_of slot.life → IsJournal own c (payloads_of (slot.disk ++ pending)) → IsStopOf own slot added c
  stop_of_more slot added pending c e is = record {
    kept = pending;
    pending_is = inr e;
    front = [];
    rest = added;
    split = refl;
    is = subst (λ xs. IsJournal own c (payloads_of xs)) (sym (append-nil (slot.disk ++ pending))) is;
  }

  -- each image of now is such a stop
  pub images_stop : (life : Life) (disk : D) (slot : plain.Slot) (added : List Record) → slot.life ≢ plain.Life.Lost → SlotStands on own life disk slot
      → IfSome (on.seen disk) (λ _. (c : List ℕ) → on.clock.is_image disk c → IsStopOf own slot added c)
  images_stop (Up node) disk slot added here (seen, is, stands) =
      if_some (on.seen disk) _ _ (λ _ h c image. stop_of_all slot added c (h c image).journal) stands.images
  images_stop Down disk slot added here (pending, is, fit, holds) =
      if_some (on.seen disk) _ _ (λ _ h c image. ⊎_elim (stop_of_all slot added c) (stop_of_more slot added pending c (sym (ap plain.pending_of is))) (h.images c image)) holds
  images_stop Lost disk slot added here (is, fit, holds) = absurd (here is)

  -- nothing was written
  pub untouched : (life : Life) (disk : D) (slot : plain.Slot) → slot.life ≢ plain.Life.Lost → SlotStands on own life disk slot → StopsKeep on own disk disk slot slot
  untouched life disk slot here stands = record {
    kept = plain.pending_of slot.life;
    pending_is = inr refl;
    added = [];
    grew = sym (append-nil (slot.disk ++ plain.pending_of slot.life));
    stops = if_some (on.seen disk) _ _ (λ _ images. record { later = omega arith; since = λ t c le was. inl was; now = images }) (images_stop life disk slot [] here stands);
  }

-- what both lists have at a place
pub both_at : {X Y : Type 0} (xs : List X) (ys : List Y) (k : ℕ) (y : Y) → length ys ≡ length xs → slice_get ys k ≡ Some y → (x : X) × (slice_get xs k ≡ Some x)
both_at {X} xs ys k y count e = ⊎_elim
    (λ (x, within, here, read). (x, here))
    (λ (past, none). absurd (omega (arith, count, past, slice_get_within ys k y e)))
    (slice_get_cases xs k).1

module _ {D : Type 0} (on : View D) where
  -- so it is of each node
  pub all_untouched : (lives : List Life) (disks : List D) (slots : List plain.Slot) → SlotsStand on lives disks slots
      → (n : ℕ) (disk : D) (slot : plain.Slot) → of_node disks n ≡ Some disk → plain.slot_at slots n ≡ Some slot → slot.life ≢ plain.Life.Lost → StopsKeep on n disk disk slot slot
  all_untouched lives disks slots stand zero disk slot e f here = absurd (let never : None ≡ Some disk = e in cc)
  all_untouched lives disks slots stand (suc k) disk slot e f here =
      let (life, l) = both_at lives slots k slot stand.count f in
      untouched on (suc k) life disk slot here (stand.each k life disk slot l e f)
