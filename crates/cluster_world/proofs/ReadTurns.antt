-- A node that is up changes what it has in memory for calls that read, and nothing else.
use Rattle.std.proofs.Common.{◌≡◌, ℕ, ◌≤◌, zero, suc, List, length, Option, Some, refl, sym, ap, ◌∙◌, subst, arith}
use Rattle.std.specs.Prelude.{is_some}
use Rattle.mail_model.specs.Record.{Record}
use Rattle.cluster_model.specs.Cluster as plain
use Rattle.cluster_model.specs.Deeds.{slot_up}
use Rattle.joint_model.specs.Joint as joint
use Rattle.joint_model.specs.Joint.{whole_slot}
use Rattle.whole_model.specs.Whole as whole
use Rattle.session_model.specs.Events.{NodeLife as life, turned}
use Rattle.node_maps.specs.Nodes.{node_of}
use Rattle.node_store.specs.Disks.{View}
use Rattle.node_core.specs.Nodes.{node_seen, IsNodeOf}
use Rattle.whole_node.specs.Nodes.{joint_seen, WholeWorks}
use Rattle.whole_node.specs.Reading.{KeepsMail, IsUnchanged}
use Rattle.whole_node.specs.declared.node.WholeNode.{WholeNode}
use Rattle.world_book.specs.declared.book.Book.{Book}
use Rattle.cluster_world.specs.Changes.{ChangesNode}
use Rattle.cluster_world.specs.Flights.{InFlight}
use Rattle.cluster_world.specs.Lives.{life_seen, of_node, with_node_at, falls_left, CanWorkOn}
use Rattle.cluster_world.specs.Reading.{AllStand, StaysBeside}
use Rattle.cluster_world.specs.Stands.{SlotStands, SlotsStand}
use Rattle.cluster_world.specs.Steps.{AreToldAlike, IsQuiet, AreSettled, EveryStopKeeps}
use Rattle.cluster_world.specs.Worlds.{WorldState, seen_life, life_among, state_with, disk_in}
use Rattle.cluster_world.specs.Moments.{StopsKeep}
use Rattle.cluster_world.specs.declared.life.Life.{Life}
use Rattle.cluster_world.specs.declared.life.Life.TheVariants.{Up}
use Rattle.cluster_world.specs.declared.nodes.Nodes.{Nodes}
use Rattle.cluster_world.proofs.Asked.{turned_same, slot_same, ready_of}
use Rattle.cluster_world.proofs.Changing.{set_same}
use Rattle.cluster_world.proofs.ReadSlots.{mail_of, mail_slots, mail_there, mail_set, HasUp, all_changed, stands_kept, FitsLife, fits_seen}
use Rattle.cluster_world.proofs.Still.{some_same, all_untouched}
use Rattle.cluster_world.proofs.Turned.{lives_turned, still_ready, falls_now}
use Rattle.cluster_world.proofs.Turning.{up_same}

-- nothing is different in what it has in memory
pub unchanged_seen : (old new : WholeNode) → IsUnchanged old new → joint_seen new ≡ joint_seen old
unchanged_seen old new u = λ i. record { whole = record { mail = u.mail.seen i; maps = node_of (u.maps i) }; reads = u.reads i; locks = u.locks i }

pub unchanged_mail : (old new : WholeNode) → IsUnchanged old new → KeepsMail old.mail new.mail
unchanged_mail old new u = record { same = u.mail.same; keeps = u.mail.keeps; works = u.mail.works; end_is = u.mail.end_is }

-- only tickets of calls that read, and locks, are different
pub record Turns (old new : WholeNode) : Type 0 where
  pub mail : KeepsMail old.mail new.mail
  pub whole : (joint_seen new).whole ≡ (joint_seen old).whole
  pub works : (seen : Option (List ℕ)) → WholeWorks seen old → WholeWorks seen new

held_again : {X : Type 0} (xs : List X) (n : ℕ) (x : X) → of_node xs n ≡ Some x → with_node_at xs n x ≡ xs
held_again xs zero x e = refl
held_again xs (suc k) x e = set_same xs k x e

module _ {D : Type 0} (on : View D) (n : ℕ) (P : Life → D → Life → D → Type 0) (old new : Nodes D) (ch : ChangesNode n P old new) (a b : WholeNode) (was : ch.life ≡ Up a) (is : ch.life' ≡ Up b) (same : ch.disk' ≡ ch.disk)
    (turns : Turns a b) where
  as_before : life_seen ch.life' ≡ life_seen ch.life
  as_before = ap life_seen is ∙ ap (λ (w : whole.Node). life.Up w.mail.boot) turns.whole ∙ sym (ap life_seen was)

  pub turned_disks : new.disks.items ≡ old.disks.items
  turned_disks = ch.disks_are ∙ ap (with_node_at old.disks.items n) same ∙ held_again old.disks.items n ch.disk ch.held

  pub turned_beside : StaysBeside on.seen old new
  turned_beside = record {
    plan = ch.plan;
    disks = turned_disks;
    lives = λ m. lives_turned n P old new ch m ∙ ap (λ l. turned n l m (life_among old m)) (as_before ∙ sym (ap seen_life ch.was)) ∙ turned_same (life_among old) n m;
    falls = let now = falls_now n P old new ch in let before = ap falls_left was in let after = ap falls_left is in omega (arith, now, before, after);
    works = λ w. subst (λ q. CanWorkOn on.seen q new.lives.items new.disks.items) (sym ch.plan)
        (still_ready n P old new ch on.seen old.plan w (λ node up.
        let it : b ≡ node = up_same b node (sym is ∙ up) in
        let of = ready_of on.seen old.plan old.lives.items old.disks.items w n a ch.disk (ch.was ∙ ap Some was) ch.held in (
          subst (λ (m : WholeNode). IsNodeOf old.plan n m.mail) it (turns.mail.same old.plan n of.0),
          subst (λ d. WholeWorks (on.seen d) node) (sym same) (subst (λ m. WholeWorks (on.seen ch.disk) m) it (turns.works (on.seen ch.disk) of.1)),
        )));
  }

  pub turned_stand : (slots : List joint.Slot) → AllStand on old.lives.items old.disks.items slots → (up : HasUp on n a ch.disk slots)
      → AllStand on new.lives.items new.disks.items (joint.with_slot slots n (joint.slot_up (joint_seen b) up.records))
  turned_stand slots all up = all_changed n P old new ch on slots (joint.slot_up (joint_seen a) up.records) (joint.slot_up (joint_seen b) up.records) all up.here
      (subst (λ l. SlotStands on n l ch.disk' (mail_of (joint.slot_up (joint_seen b) up.records))) (sym is)
      (subst (λ d. SlotStands on n (Up b) d (mail_of (joint.slot_up (joint_seen b) up.records))) (sym same)
      (node_seen b.mail, refl, stands_kept on n a b ch.disk up.records turns.mail up.stands)))
      (subst (λ l. FitsLife l (joint.slot_up (joint_seen b) up.records)) (sym is) (fits_seen b up.records))

-- messages see no slot change
pub turned_seen : (slots : List joint.Slot) (n : ℕ) (a b : joint.Node) (records : List Record) → joint.slot_at slots n ≡ Some (joint.slot_up a records) → b.whole ≡ a.whole
    → mail_slots (joint.with_slot slots n (joint.slot_up b records)) ≡ mail_slots slots
turned_seen slots n a b records here same = mail_set slots n (joint.slot_up b records)
    ∙ ap (λ (w : whole.Node). plain.with_slot (mail_slots slots) n (slot_up w.mail records)) same
    ∙ slot_same (mail_slots slots) n (slot_up a.whole.mail records) (mail_there slots n (joint.slot_up a records) here)

-- What a step leaves that stays beside disks, as states say it.
module _ {D : Type 0} (on : View D) (old new : Nodes D) (stays : StaysBeside on.seen old new) (flying flying' : InFlight) (seconds : ℕ) (book book' : Book) where
  abbrev before : WorldState D
  before = state_with old flying seconds book

  abbrev behind : WorldState D
  behind = state_with new flying' seconds book'

  one_disk : (n : ℕ) (disk disk' : D) → disk_in before n ≡ Some disk → disk_in behind n ≡ Some disk' → disk' ≡ disk
  one_disk n disk disk' e f = some_same disk' disk (sym f ∙ ap (λ (ds : List D). of_node ds n) stays.disks ∙ e)

  pub beside_handed : length new.disks.items ≡ length old.disks.items
  beside_handed = ap length stays.disks

  pub beside_told : AreToldAlike on.seen before behind
  beside_told = record { each = λ n disk disk' e f. ap (λ d. is_some (on.seen d)) (one_disk n disk disk' e f) }

  pub beside_quiet : IsQuiet on.faults before behind
  beside_quiet = record {
    later = λ n disk disk' e f. subst (λ d. on.faults disk ≤ on.faults d) (sym (one_disk n disk disk' e f)) (omega arith);
    same = λ n boot disk disk' up e f. ap on.faults (one_disk n disk disk' e f);
  }

  pub beside_settled : (is_settled : D → Type 0) → AreSettled is_settled before → AreSettled is_settled behind
  beside_settled is_settled s = record { each = λ n boot disk up held. s.each n boot disk (sym (stays.lives n) ∙ up) (sym (ap (λ (ds : List D). of_node ds n) stays.disks) ∙ held) }

  -- a stop keeps each disk, where messages see the same slots
  pub beside_stops : (slots slots' : List plain.Slot) → slots' ≡ slots → SlotsStand on old.lives.items old.disks.items slots → EveryStopKeeps on before behind slots slots'
  beside_stops slots slots' is stand = record {
    each = λ n disk disk' slot slot' e f here there alive.
        let one = all_untouched on old.lives.items old.disks.items slots stand n disk slot e here alive in
        subst (λ d. StopsKeep on n disk d slot slot') (sym (one_disk n disk disk' e f))
        (subst (λ s. StopsKeep on n disk disk slot s) (some_same slot slot' (sym here ∙ ap (λ (xs : List plain.Slot). plain.slot_at xs n) (sym is) ∙ there)) one);
  }
