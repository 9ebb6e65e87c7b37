-- Calm steps, which do nothing to calls that read: each node that stays up keeps its boot, and letters of these calls stay.
use Rattle.std.proofs.Common.{◌≡◌, inl, inr, ⊎_elim, ℕ, ◌+◌, ◌≤◌, ◌<◌, Bool, true, false, not, List, [], ◌∷◌, ◌++◌, append-nil, Option, Some, None, refl, sym, ap, ◌∙◌, subst, nat_eq, le_refl, le_trans, if◌then◌else◌}
use Rattle.std.specs.FinMap as fin
use Rattle.mail_model.specs.Record.{Record}
use Rattle.object_model.specs.Lists.{Among}
use Rattle.object_model.specs.Letters.{Number, Letter}
use Rattle.object_model.specs.Mishaps.{MishapKind}
use Rattle.object_model.specs.Mishaps.MishapKind.{Crowded}
use Rattle.object_model.proofs.Lists.{among_front, among_behind, among_either, among_last}
use Rattle.cluster_model.specs.Cluster.{Ticket, Node, Life, Slot, slot_at, with_slot}
use Rattle.cluster_model.specs.Cluster.Life.{Up, Down, Lost}
use Rattle.cluster_model.specs.Claims.{boot_of}
use Rattle.cluster_model.specs.Rules.{Reaction, mishap, failed_at}
use Rattle.cluster_model.specs.Deeds.{slot_up}
use Rattle.cluster_model.specs.Room.{has_room}
use Rattle.cluster_model.specs.World.{World, letters_of, other_end, missed_by, missed_at, missed_under, missed, put, Flies, flies_on}
use Rattle.cluster_model.specs.Makes.{after}
use Rattle.cluster_model.proofs.Slots.{read_after, read_before}
use Rattle.cluster_model.proofs.Stepping.{letters_both, letters_around}
use Rattle.login_model.specs.Facts.{IsReadBody}

-- what becomes of a slot in such a step
-- Its disk may grow.
pub record Grows (before after : Slot) : Type 0 where
  pub rest : List Record
  pub is : after.disk ≡ before.disk ++ rest

pub data Turns (before after : Slot) : Type 0 where
  Rests : before ≡ after → Turns before after
  Works : (a b : Node) → before.life ≡ Up a → after.life ≡ Up b → b.boot ≡ a.boot → a.calls ≤ b.calls → boot_of after.disk ≡ boot_of before.disk → Grows before after → Turns before after
  IsOff : ((node : Node) → after.life ≡ Up node → ⊥) → boot_of before.disk ≤ boot_of after.disk → Grows before after → Turns before after
  Starts : (b : Node) → ((node : Node) → before.life ≡ Up node → ⊥) → after.life ≡ Up b → b.boot ≡ boot_of after.disk → boot_of before.disk < b.boot → Grows before after → Turns before after

-- a disk that stays as it is
pub stays_as : (before after : Slot) → after.disk ≡ before.disk → Grows before after
stays_as before after same = record { rest = []; is = same ∙ sym (append-nil before.disk) }

pub grows_same : (a b c : Slot) → Grows a b → c.disk ≡ b.disk → Grows a c
grows_same a b c g same = record { rest = g.rest; is = same ∙ g.is }

pub grows_in : (before after : Slot) → Turns before after → Grows before after
grows_in before after (Rests e) = stays_as before after (ap (λ (s : Slot). s.disk) (sym e))
grows_in before after (Works a b ea eb boot calls disks g) = g
grows_in before after (IsOff not rises g) = g
grows_in before after (Starts b was eb boot later g) = g

-- letters of calls that read fly there as they flew here
abbrev pub Carries : World → World → Type 0
Carries a b = (letter : Letter) → Among letter (letters_of a.flying) → IsReadBody letter.body → Among letter (letters_of b.flying)

pub record IsCalm (old new : World) : Type 0 where
  pub turns : (n : ℕ) (after : Slot) → slot_at new.slots n ≡ Some after → (before : Slot) × (slot_at old.slots n ≡ Some before) × Turns before after
  pub stays : (n : ℕ) (before : Slot) → slot_at old.slots n ≡ Some before → (after : Slot) × (slot_at new.slots n ≡ Some after)
  pub kept : Carries old new
  pub came : Carries new old

-- tickets of messages change at most
pub data IsSoft (before after : Slot) : Type 0 where
  Same : before ≡ after → IsSoft before after
  Inner : (a b : Node) → before.life ≡ Up a → after.life ≡ Up b → b.boot ≡ a.boot → a.calls ≤ b.calls → after.disk ≡ before.disk → IsSoft before after

pub up_up : (a b : Node) → ◌≡◌ {A = Life} (Up a) (Up b) → a ≡ b
up_up a b e = cc

pub then_soft : (a b c : Slot) → Turns a b → IsSoft b c → Turns a c
then_soft a b c t (Same e) = subst (Turns a) e t
then_soft a b c (Rests e) (Inner x y ex ey boot calls disk) =
    let same : c.disk ≡ a.disk = disk ∙ ap (λ (s : Slot). s.disk) (sym e) in
    Works x y (ap (λ (s : Slot). s.life) e ∙ ex) ey boot calls (ap boot_of same) (stays_as a c same)
then_soft a b c (Works p q ep eq boots more disks g) (Inner x y ex ey boot calls disk) =
    let same : x ≡ q = up_up x q (sym ex ∙ eq) in
    Works p y ep ey (boot ∙ ap (λ (n : Node). n.boot) same ∙ boots) (le_trans more (subst (λ (n : Node). n.calls ≤ y.calls) same calls)) (ap boot_of disk ∙ disks) (grows_same a b c g disk)
then_soft a b c (IsOff not rises g) (Inner x y ex ey boot calls disk) = absurd (not x ex)
then_soft a b c (Starts q was eq boots later g) (Inner x y ex ey boot calls disk) =
    let same : y.boot ≡ q.boot = boot ∙ ap (λ (n : Node). n.boot) (up_up x q (sym ex ∙ eq)) in
    Starts y was ey (same ∙ boots ∙ ap boot_of (sym disk)) (subst (λ k. boot_of a.disk < k) (sym same) later) (grows_same a b c g disk)

pub record AllSoft (slots others : List Slot) : Type 0 where
  pub each : (n : ℕ) (after : Slot) → slot_at others n ≡ Some after → (before : Slot) × (slot_at slots n ≡ Some before) × IsSoft before after
  pub stays : (n : ℕ) (before : Slot) → slot_at slots n ≡ Some before → (after : Slot) × (slot_at others n ≡ Some after)

pub all_same : (slots : List Slot) → AllSoft slots slots
all_same slots = record { each = λ n slot h. (slot, h, Same refl); stays = λ n slot h. (slot, h) }

-- whoever stood stands, once one is written
pub still_there : (slots : List Slot) (n m : ℕ) (x y z : Slot) → slot_at slots n ≡ Some x → slot_at slots m ≡ Some z → (now : Slot) × (slot_at (with_slot slots n y) m ≡ Some now)
still_there slots n m x y z h k = ⊎_elim (λ (same, is, there). (y, there)) (λ old. (z, old)) (read_before slots n m x y z h k)

pub soft_write : (slots : List Slot) (n : ℕ) (before now : Slot) → slot_at slots n ≡ Some before → IsSoft before now → AllSoft slots (with_slot slots n now)
soft_write slots n before now here soft = record {
  each = λ m z h. ⊎_elim
      (λ new. (before, subst (λ k. slot_at slots k ≡ Some before) (sym new.0) here, subst (IsSoft before) (sym new.1) soft))
      (λ old. (z, old, Same refl))
      (read_after slots n m before now z here h);
  stays = λ m z h. still_there slots n m before now z here h;
}

pub noted_is : (kind : MishapKind) (node : Node) (disk : List Record) (seq at : ℕ) (found : Option Ticket)
    → ((failed_at kind node disk seq at found).node.boot ≡ node.boot) × (node.calls ≤ (failed_at kind node disk seq at found).node.calls) × ((failed_at kind node disk seq at found).disk ≡ disk)
noted_is kind node disk seq at None = (refl, le_refl node.calls, refl)
noted_is kind node disk seq at (Some ticket) = (refl, le_refl node.calls, refl)

pub soft_missed : (kind : MishapKind) (slots : List Slot) (letter : Letter) → AllSoft slots (missed kind slots letter)
soft_missed kind slots letter = by letter.ticket
  where
    by_life : (number : Number) (at : ℕ) (slot : Slot) → slot_at slots number.node ≡ Some slot → (life : Life) → slot.life ≡ life → AllSoft slots (missed_by kind slots at number slot.disk life)
    by_life number at slot here (Down pending) is = all_same slots
    by_life number at slot here Lost is = all_same slots
    by_life number at slot here (Up node) is = boots (nat_eq number.boot node.boot)
      where
        did : Reaction
        did = mishap kind number.seq at node slot.disk

        told : (did.node.boot ≡ node.boot) × (node.calls ≤ did.node.calls) × (did.disk ≡ slot.disk)
        told = noted_is kind node slot.disk number.seq at (fin.get node.tickets number.seq)

        boots : (b : Bool) → AllSoft slots (if b then with_slot slots number.node (slot_up (mishap kind number.seq at node slot.disk).node (mishap kind number.seq at node slot.disk).disk) else slots)
        boots true = soft_write slots number.node slot (slot_up did.node did.disk) here (Inner node did.node is refl told.0 told.1 told.2)
        boots false = all_same slots

    by_slot : (number : Number) (at : ℕ) (found : Option Slot) → slot_at slots number.node ≡ found → AllSoft slots (missed_at kind slots at number found)
    by_slot number at None e = all_same slots
    by_slot number at (Some slot) e = by_life number at slot e slot.life refl

    by : (ticket : Option Number) → AllSoft slots (missed_under kind slots letter ticket)
    by None = all_same slots
    by (Some number) = by_slot number (other_end letter number) (slot_at slots number.node) refl

pub calm_same : (old new : World) → new.slots ≡ old.slots → Carries old new → Carries new old → IsCalm old new
calm_same old new is kept came = record {
  turns = λ n slot h. (slot, subst (λ s. slot_at s n ≡ Some slot) is h, Rests refl);
  stays = λ n slot h. (slot, subst (λ s. slot_at s n ≡ Some slot) (sym is) h);
  kept = kept;
  came = came;
}

pub calm_write : (old new : World) (n : ℕ) (before now : Slot) → slot_at old.slots n ≡ Some before → Turns before now → new.slots ≡ with_slot old.slots n now → Carries old new → Carries new old → IsCalm old new
calm_write old new n before now here turns is kept came = record {
  turns = λ m z h. ⊎_elim
      (λ one. (before, subst (λ k. slot_at old.slots k ≡ Some before) (sym one.0) here, subst (Turns before) (sym one.1) turns))
      (λ stood. (z, stood, Rests refl))
      (read_after old.slots n m before now z here (subst (λ s. slot_at s m ≡ Some z) is h));
  stays = λ m z h. let there = still_there old.slots n m before now z here h in (there.0, subst (λ s. slot_at s m ≡ Some there.0) (sym is) there.1);
  kept = kept;
  came = came;
}

-- then some mishaps are noted
pub calm_soft : (old mid new : World) → IsCalm old mid → AllSoft mid.slots new.slots → Carries mid new → Carries new mid → IsCalm old new
calm_soft old mid new p soft kept came = record {
  turns = λ n slot h. let s = soft.each n slot h in let t = p.turns n s.0 s.1 in (t.0, t.1, then_soft t.0 s.0 slot t.2 s.2);
  stays = λ n slot h. let t = p.stays n slot h in soft.stays n t.0 t.1;
  kept = λ letter m of. kept letter (p.kept letter m of) of;
  came = λ letter m of. p.came letter (came letter m of) of;
}

-- and other letters are put in flight
pub calm_put : (old : World) (letters : List Letter) → ((letter : Letter) → Among letter letters → IsReadBody letter.body → ⊥) → (mid : World) → IsCalm old mid → IsCalm old (put has_room letters mid)
calm_put old [] quiet mid p = p
calm_put old (letter ∷ letters) quiet mid p = by (λ v q. calm_put old letters (λ one m. quiet one (inr m)) v q) (has_room mid.flying letter)
  where
    flown : World
    flown = record mid { flying = mid.flying ++ record { number = mid.sent + 1; letter = letter } ∷ []; sent = mid.sent + 1 }

    is : letters_of flown.flying ≡ letters_of mid.flying ++ letter ∷ []
    is = letters_both mid.flying (record { number = mid.sent + 1; letter = letter } ∷ [])

    flies : IsCalm old flown
    flies = record {
      turns = p.turns;
      stays = p.stays;
      kept = λ one m of. subst (Among one) (sym is) (among_front one (letters_of mid.flying) (letter ∷ []) (p.kept one m of));
      came = λ one m of. ⊎_elim
          (λ before. p.came one before of)
          (λ same. absurd (quiet letter (inl refl) (subst (λ (l : Letter). IsReadBody l.body) (sym same) of)))
          (among_last one (letters_of mid.flying) letter (subst (Among one) is m));
    }

    by : ((v : World) → IsCalm old v → IsCalm old (put has_room letters v)) → (b : Bool)
        → IsCalm old (if b then put has_room letters flown else put has_room letters (record mid { slots = missed Crowded mid.slots letter }))
    by rest true = rest flown flies
    by rest false = rest (record mid { slots = missed Crowded mid.slots letter })
        (calm_soft old mid (record mid { slots = missed Crowded mid.slots letter }) p (soft_missed Crowded mid.slots letter) (λ one m of. m) (λ one m of. m))

-- a letter that is none of a call that reads is taken out
pub on_kept : (w : World) (number : ℕ) (f : Flies w number) (keep : Bool) → (IsReadBody f.letter.body → ⊥) → (letter : Letter) → Among letter (letters_of w.flying) → IsReadBody letter.body
    → Among letter (letters_of (flies_on w number f keep))
on_kept w number f true other letter m of = m
on_kept w number f false other letter m of = subst (Among letter) (sym (letters_both f.front f.back)) (⊎_elim
    (λ front. among_front letter (letters_of f.front) (letters_of f.back) front)
    (λ back. ⊎_elim
    (λ is. absurd (other (subst (λ (l : Letter). IsReadBody l.body) (sym is) of)))
    (λ more. among_behind letter (letters_of f.front) (letters_of f.back) more) back)
    (among_either letter (letters_of f.front) (f.letter ∷ letters_of f.back) (subst (Among letter) (letters_around w number f) m)))
