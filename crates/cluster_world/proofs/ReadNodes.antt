-- A node that did something for a call that reads goes on with its store as it was, and its disk read at most.
use Rattle.std.proofs.Common.{◌≡◌, ℕ, zero, suc, Bool, true, false, List, [], ◌∷◌, Option, Some, None, refl, sym, ap, ◌∙◌, subst, arith}
use Rattle.std.specs.Prelude.{is_some, slice_get, slice_set, ◌&&◌}
use Rattle.std.specs.List.{list_all}
use Rattle.mail_model.specs.Plan.{Plan}
use Rattle.mail_model.specs.Record.{Record, payloads_of}
use Rattle.disk_journal.specs.Journal.{TellsJournal, EndsAt}
use Rattle.session_model.specs.Events.{NodeLife}
use Rattle.joint_model.specs.Joint as joint
use Rattle.node_store.specs.Disks.{View}
use Rattle.node_maps.specs.Nodes.{node_of}
use Rattle.node_core.specs.Nodes.{node_seen, end_in, IsNodeOf}
use Rattle.node_core.specs.Works.{IsOnlyRead}
use Rattle.whole_node.specs.Nodes.{WholeWorks, joint_seen}
use Rattle.whole_node.specs.Reading.{KeepsMail, IsUnchanged}
use Rattle.whole_node.specs.declared.node.WholeNode.{WholeNode}
use Rattle.world_book.specs.declared.book.Book.{Book}
use Rattle.cluster_world.specs.Changes.{ChangesNode}
use Rattle.cluster_world.specs.Flights.{InFlight}
use Rattle.cluster_world.specs.Lives.{life_seen, of_node, falls_left, all_falls_left, CanWorkOn}
use Rattle.cluster_world.specs.Reading.{AllStand}
use Rattle.cluster_world.specs.Stands.{StandsUp, SlotStands}
use Rattle.cluster_world.specs.Steps.{AreSettled}
use Rattle.cluster_world.specs.Worlds.{state_with, seen_life}
use Rattle.cluster_world.specs.declared.life.Life.{Life}
use Rattle.cluster_world.specs.declared.life.Life.TheVariants.{Up}
use Rattle.cluster_world.specs.declared.nodes.Nodes.{Nodes}
use Rattle.cluster_world.proofs.Befallen.{turned_still}
use Rattle.cluster_world.proofs.ReadSlots.{HasUp, FitsLife, fits_seen, all_changed, mail_of}
use Rattle.cluster_world.proofs.ReadSteps.{GoesOnReading}
use Rattle.cluster_world.proofs.Still.{if_some, nothing_read}
use Rattle.cluster_world.proofs.Turned.{as_many, lives_turned, each_disk, still_ready, falls_now, settled_by}
use Rattle.cluster_world.proofs.Turning.{up_same}
use Rattle.cluster_world.proofs.Worked.{if_told}

module _ {D : Type 0} (on : View D) (n : ℕ) (P : Life → D → Life → D → Type 0) (old mid : Nodes D) (ch : ChangesNode n P old mid) (a b : WholeNode) (was : ch.life ≡ Up a) (is : ch.life' ≡ Up b)
    (read : IsOnlyRead on ch.disk ch.disk') (quiet : on.faults ch.disk' ≡ on.faults ch.disk) (kept : KeepsMail a.mail b.mail) (boot : (joint_seen b).whole.mail.boot ≡ (joint_seen a).whole.mail.boot) where
  life_same : life_seen ch.life' ≡ life_seen ch.life
  life_same = ap life_seen is ∙ ap (λ k. NodeLife.Up k) boot ∙ sym (ap life_seen was)

  pub node_goes : GoesOnReading on old mid
  node_goes = record {
    plan = ch.plan;
    count = as_many n P old mid ch;
    lives = λ m. lives_turned n P old mid ch m ∙ turned_still n m (λ k. seen_life (of_node old.lives.items k)) (life_seen ch.life') (life_same ∙ sym (ap seen_life ch.was));
    read = each_disk n P old mid ch (λ d d'. IsOnlyRead on d d') (λ d. nothing_read on d d refl) read;
    quiet = each_disk n P old mid ch (λ d d'. on.faults d' ≡ on.faults d) (λ d. refl) quiet;
  }

  pub node_falls : all_falls_left mid.lives.items ≡ all_falls_left old.lives.items
  node_falls = omega (arith, falls_now n P old mid ch, ap falls_left is ∙ sym (ap falls_left was))

  stands_read : (records : List Record) → StandsUp on n a.mail ch.disk (node_seen a.mail) records → StandsUp on n b.mail ch.disk' (node_seen b.mail) records
  stands_read records st = record {
    seen_is = refl;
    keeps = kept.keeps records st.keeps;
    tells = subst (λ (o : Option (List ℕ)). TellsJournal o n (payloads_of records) (end_in b.mail)) (sym read.seen)
        (subst (λ e. TellsJournal (on.seen ch.disk) n (payloads_of records) e) (sym kept.end_is) st.tells);
    images = if_told (on.seen ch.disk) (on.seen ch.disk') _ (ap (λ (o : Option (List ℕ)). is_some o) read.seen)
        (if_some (on.seen ch.disk) _ _ (λ _ images d image. subst (λ e. EndsAt n d (payloads_of records) e) (sym kept.end_is) (images d (read.images.now d image))) st.images);
  }

  -- it stands for the slot with what it is
  pub node_all : (slots : List joint.Slot) → AllStand on old.lives.items old.disks.items slots → (up : HasUp on n a ch.disk slots)
      → AllStand on mid.lives.items mid.disks.items (joint.with_slot slots n (joint.slot_up (joint_seen b) up.records))
  node_all slots all up = all_changed n P old mid ch on slots (joint.slot_up (joint_seen a) up.records) (joint.slot_up (joint_seen b) up.records) all up.here
      (subst (λ l. SlotStands on n l ch.disk' (mail_of (joint.slot_up (joint_seen b) up.records))) (sym is) (node_seen b.mail, refl, stands_read up.records up.stands))
      (subst (λ l. FitsLife l (joint.slot_up (joint_seen b) up.records)) (sym is) (fits_seen b up.records))

  -- where it is as it was, so are the slots
  pub node_all_same : joint_seen b ≡ joint_seen a → (slots : List joint.Slot) → AllStand on old.lives.items old.disks.items slots → HasUp on n a ch.disk slots → AllStand on mid.lives.items mid.disks.items slots
  node_all_same same slots all up = subst (λ (xs : List joint.Slot). AllStand on mid.lives.items mid.disks.items xs)
      (ap (λ x. joint.with_slot slots n (joint.slot_up x up.records)) same ∙ slot_same slots n (joint.slot_up (joint_seen a) up.records) up.here) (node_all slots all up)
    where
      set_same : (xs : List joint.Slot) (k : ℕ) (x : joint.Slot) → slice_get xs k ≡ Some x → slice_set xs k x ≡ xs
      set_same [] k x e = refl
      set_same (y ∷ xs) zero x e = ap (λ (z : joint.Slot). z ∷ xs) (one y x e)
        where
          one : (p q : joint.Slot) → Some p ≡ Some q → q ≡ p
          one p q h = cc
      set_same (y ∷ xs) (suc k) x e = ap (λ (l : List joint.Slot). y ∷ l) (set_same xs k x e)

      slot_same : (xs : List joint.Slot) (m : ℕ) (x : joint.Slot) → joint.slot_at xs m ≡ Some x → joint.with_slot xs m x ≡ xs
      slot_same xs zero x e = refl
      slot_same xs (suc k) x e = set_same xs k x e

  pub node_ready : (plan : Plan) → CanWorkOn on.seen plan old.lives.items old.disks.items → IsNodeOf plan n a.mail → WholeWorks (on.seen ch.disk') b → CanWorkOn on.seen plan mid.lives.items mid.disks.items
  node_ready plan works own mine = still_ready n P old mid ch on.seen plan works
      (λ node up. subst (λ (x : WholeNode). IsNodeOf plan n x.mail × WholeWorks (on.seen ch.disk') x) (up_same b node (sym is ∙ up)) (kept.same plan n own, mine))

  pub node_settled : (is_settled : D → Type 0) → (is_settled ch.disk → is_settled ch.disk') → (flying flying' : InFlight) (seconds : ℕ) (book book' : Book)
      → AreSettled is_settled (state_with old flying seconds book) → AreSettled is_settled (state_with mid flying' seconds book')
  node_settled is_settled still flying flying' seconds book book' = settled_by n P old mid ch flying flying' seconds seconds book book' is_settled
      (λ boot up before. still (before (sym life_same ∙ up)))

-- it keeps its store where nothing was changed, and is what it was
pub unchanged_keeps : (a b : WholeNode) → IsUnchanged a b → KeepsMail a.mail b.mail
unchanged_keeps a b u = record { same = u.mail.same; keeps = u.mail.keeps; works = u.mail.works; end_is = u.mail.end_is }

pub unchanged_seen : (a b : WholeNode) → IsUnchanged a b → joint_seen b ≡ joint_seen a
unchanged_seen a b u = λ i. record { whole = record { mail = u.mail.seen i; maps = ap node_of u.maps i }; reads = u.reads i; locks = u.locks i }

-- each disk tells where all are said to
pub all_tell : {D : Type 0} (seen : D → Option (List ℕ)) (disks : List D) (n : ℕ) (disk : D) → of_node disks n ≡ Some disk → list_all (λ d. is_some (seen d)) disks ≡ true → is_some (seen disk) ≡ true
all_tell seen disks zero disk e all = absurd (let never : None ≡ Some disk = e in cc)
all_tell {D} seen disks (suc k) disk e all = by disks k e all
  where
    front : (p q : Bool) → (p && q) ≡ true → p ≡ true
    front true q h = refl
    front false q h = h

    back : (p q : Bool) → (p && q) ≡ true → q ≡ true
    back true q h = h
    back false q h = absurd (let never : false ≡ true = h in cc)

    same : (x y : D) → Some x ≡ Some y → x ≡ y
    same x y h = cc

    by : (ds : List D) (j : ℕ) → slice_get ds j ≡ Some disk → list_all (λ d. is_some (seen d)) ds ≡ true → is_some (seen disk) ≡ true
    by [] j f h = absurd (let never : None ≡ Some disk = f in cc)
    by (d ∷ ds) zero f h = subst (λ x. is_some (seen x) ≡ true) (same d disk f) (front (is_some (seen d)) (list_all (λ x. is_some (seen x)) ds) h)
    by (d ∷ ds) (suc j) f h = by ds j f (back (is_some (seen d)) (list_all (λ x. is_some (seen x)) ds) h)
