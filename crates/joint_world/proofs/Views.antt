-- What each machine sees of the slots of a world.
use Rattle.std.proofs.Common.{◌≡◌, ◌⊎◌, inl, inr, ⊎_elim, ℕ, zero, suc, Bool, List, [], ◌∷◌, map, Option, Some, None, refl, sym, ap, ◌∙◌, subst}
use Rattle.std.specs.Prelude.{slice_get, slice_set}
use Rattle.mail_model.specs.Record.{Record}
use Rattle.object_model.proofs.Lists.{get_same, get_after, get_before}
use Rattle.cluster_model.specs.Cluster as mail
use Rattle.whole_model.specs.Whole as whole
use Rattle.whole_model.proofs.Seen.{set_seen}
use Rattle.whole_world.proofs.Along.{mail_here, unseen_at}
use Rattle.login_model.specs.Cluster as login
use Rattle.joint_model.specs.Joint.{Node, Life, Slot, slot_at, with_slot, whole_slot, read_node, read_slot}
use Rattle.joint_model.specs.Joint.Life.{Up, Down, Lost}
use Rattle.joint_model.proofs.Kept.{whole_here}
use Rattle.joint_model.proofs.Settled.{read_back, whole_back}
use Rattle.joint_world.specs.World.{World, mail_world_of}
use Rattle.joint_world.specs.Laws.{TellAlike}

pub up_same : (a b : Node) → ◌≡◌ {A = Life} (Up a) (Up b) → a ≡ b
up_same a b e = cc

pub mail_at : (w : World) (n : ℕ) (slot : Slot) → slot_at w.slots n ≡ Some slot → mail.slot_at (mail_world_of w).slots n ≡ Some (whole.mail_slot (whole_slot slot))
mail_at w n slot at = mail_here (map whole_slot w.slots) n (whole_slot slot) (whole_here w.slots n slot at)

pub mail_back : (w : World) (n : ℕ) (m : mail.Slot) → mail.slot_at (mail_world_of w).slots n ≡ Some m → (slot : Slot) × (slot_at w.slots n ≡ Some slot) × (whole.mail_slot (whole_slot slot) ≡ m)
mail_back w n m at =
    let seen = unseen_at (map whole_slot w.slots) n m at in
    let one = whole_back w.slots n seen.0 seen.1 in
    (one.0, one.1, ap whole.mail_slot one.2 ∙ seen.2)

-- where no slot is none is seen
pub read_none : (tells : Bool) (slots : List Slot) (n : ℕ) → slot_at slots n ≡ None → login.slot_at (map (read_slot tells) slots) n ≡ None
read_none tells slots n none = by (login.slot_at (map (read_slot tells) slots) n) refl
  where
    clash : (x : Slot) → slot_at slots n ≡ Some x → ⊥
    clash x e = no_some (slot_at slots n) x none e
      where
        no_some : (o : Option Slot) (y : Slot) → o ≡ None → o ≡ Some y → ⊥
        no_some o y p q = cc

    by : (o : Option login.Slot) → login.slot_at (map (read_slot tells) slots) n ≡ o → login.slot_at (map (read_slot tells) slots) n ≡ None
    by None e = e
    by (Some slot) e = let r = read_back tells slots n slot e in absurd (clash r.0 r.1)

-- a slot that is written
pub set_same : {X : Type 0} (xs : List X) (k : ℕ) (a : X) → slice_get xs k ≡ Some a → slice_set xs k a ≡ xs
set_same [] k a e = refl
set_same {X} (x ∷ xs) zero a e = ap (λ (y : X). y ∷ xs) (some a x e)
  where
    some : (p q : X) → Some q ≡ Some p → p ≡ q
    some p q h = cc
set_same {X} (x ∷ xs) (suc k) a e = ap (λ (l : List X). x ∷ l) (set_same xs k a e)

set_again : {X : Type 0} (xs : List X) (k : ℕ) (a b : X) → slice_set (slice_set xs k a) k b ≡ slice_set xs k b
set_again [] k a b = refl
set_again (x ∷ xs) zero a b = refl
set_again {X} (x ∷ xs) (suc k) a b = ap (λ (l : List X). x ∷ l) (set_again xs k a b)

pub whole_same : (slots : List whole.Slot) (n : ℕ) (a : whole.Slot) → whole.slot_at slots n ≡ Some a → whole.with_slot slots n a ≡ slots
whole_same slots zero a e = refl
whole_same slots (suc k) a e = set_same slots k a e

pub login_same : (slots : List login.Slot) (n : ℕ) (a : login.Slot) → login.slot_at slots n ≡ Some a → login.with_slot slots n a ≡ slots
login_same slots zero a e = refl
login_same slots (suc k) a e = set_same slots k a e

pub whole_again : (slots : List whole.Slot) (n : ℕ) (a b : whole.Slot) → whole.with_slot (whole.with_slot slots n a) n b ≡ whole.with_slot slots n b
whole_again slots zero a b = refl
whole_again slots (suc k) a b = set_again slots k a b

pub whole_set : (slots : List Slot) (n : ℕ) (slot : Slot) → map whole_slot (with_slot slots n slot) ≡ whole.with_slot (map whole_slot slots) n (whole_slot slot)
whole_set slots zero slot = refl
whole_set slots (suc k) slot = set_seen whole_slot slots k slot

pub whole_there : (slots : List whole.Slot) (n : ℕ) (a b : whole.Slot) → whole.slot_at slots n ≡ Some a → whole.slot_at (whole.with_slot slots n b) n ≡ Some b
whole_there slots zero a b e = absurd (cc e)
whole_there slots (suc k) a b e = get_set slots k e
  where
    get_set : (xs : List whole.Slot) (j : ℕ) → slice_get xs j ≡ Some a → slice_get (slice_set xs j b) j ≡ Some b
    get_set [] j h = absurd (cc h)
    get_set (x ∷ xs) zero h = refl
    get_set (x ∷ xs) (suc j) h = get_set xs j h

pub whole_after : (slots : List whole.Slot) (n m : ℕ) (x y z : whole.Slot) → whole.slot_at slots n ≡ Some x → whole.slot_at (whole.with_slot slots n y) m ≡ Some z → ((m ≡ n) × (z ≡ y)) ⊎ (whole.slot_at slots m ≡ Some z)
whole_after slots zero m x y z h r = absurd (cc h)
whole_after slots (suc n) zero x y z h r = absurd (cc r)
whole_after slots (suc n) (suc m) x y z h r = ⊎_elim (λ p. inl (ap suc p.0, p.1)) (λ q. inr q) (get_after slots n m x y z h r)

pub slot_there : (slots : List Slot) (n : ℕ) (a b : Slot) → slot_at slots n ≡ Some a → slot_at (with_slot slots n b) n ≡ Some b
slot_there slots zero a b e = absurd (cc e)
slot_there slots (suc k) a b e = get_same slots k a b e

-- each moment of slots that calls that read see tells alike
pub moment_alike : (tells : Bool) (slots : List Slot) (n : ℕ) (node : login.Node) (disk : List Record) → login.slot_at (map (read_slot tells) slots) n ≡ Some (login.slot_up node disk) → node.tells ≡ tells
moment_alike tells slots n node disk at =
    let r = read_back tells slots n (login.slot_up node disk) at in
    by r.0 r.0.life refl (ap (λ (s : login.Slot). s.life) r.2)
  where
    same : (a b : login.Node) → login.Life.Up a ≡ login.Life.Up b → a ≡ b
    same a b e = cc

    by : (slot : Slot) (life : Life) → slot.life ≡ life → (read_slot tells slot).life ≡ login.Life.Up node → node.tells ≡ tells
    by slot (Up x) is e = sym (ap (λ (k : login.Node). k.tells) (same (read_node tells x) node (subst (λ l. (read_slot tells (record { life = l; disk = slot.disk })).life ≡ login.Life.Up node) is e)))
    by slot (Down pending) is e = absurd (clash (subst (λ l. (read_slot tells (record { life = l; disk = slot.disk })).life ≡ login.Life.Up node) is e))
      where
        clash : login.Life.Down ≡ login.Life.Up node → ⊥
        clash k = cc
    by slot Lost is e = absurd (clash (subst (λ l. (read_slot tells (record { life = l; disk = slot.disk })).life ≡ login.Life.Up node) is e))
      where
        clash : login.Life.Lost ≡ login.Life.Up node → ⊥
        clash k = cc

pub alike_more : (tells : Bool) (story : List (List login.Slot)) (slots : List Slot) → TellAlike tells story → TellAlike tells (map (read_slot tells) slots ∷ story)
alike_more tells story slots alike moment m n node disk at = ⊎_elim
    (λ is. moment_alike tells slots n node disk (subst (λ (s : List login.Slot). login.slot_at s n ≡ Some (login.slot_up node disk)) (sym is) at))
    (λ old. alike moment old n node disk at)
    m

-- slots with the disks of others
pub record SameDisks (old new : List Slot) : Type 0 where
  pub each : (n : ℕ) (slot : Slot) → slot_at new n ≡ Some slot → (was : Slot) × (slot_at old n ≡ Some was) × (slot.disk ≡ was.disk)
  pub stays : (n : ℕ) (was : Slot) → slot_at old n ≡ Some was → (slot : Slot) × (slot_at new n ≡ Some slot) × (slot.disk ≡ was.disk)

pub disks_self : (slots : List Slot) → SameDisks slots slots
disks_self slots = record { each = λ n slot at. (slot, at, refl); stays = λ n slot at. (slot, at, refl) }

pub disks_on : (a b c : List Slot) → SameDisks a b → SameDisks b c → SameDisks a c
disks_on a b c p q = record {
  each = λ n slot at. let y = q.each n slot at in let x = p.each n y.0 y.1 in (x.0, x.1, y.2 ∙ x.2);
  stays = λ n slot at. let x = p.stays n slot at in let y = q.stays n x.0 x.1 in (y.0, y.1, y.2 ∙ x.2);
}

-- a slot is written, over the same disk
slot_after : (slots : List Slot) (n m : ℕ) (x y z : Slot) → slot_at slots n ≡ Some x → slot_at (with_slot slots n y) m ≡ Some z → ((m ≡ n) × (z ≡ y)) ⊎ (slot_at slots m ≡ Some z)
slot_after slots zero m x y z h r = absurd (cc h)
slot_after slots (suc n) zero x y z h r = absurd (cc r)
slot_after slots (suc n) (suc m) x y z h r = ⊎_elim (λ p. inl (ap suc p.0, p.1)) (λ q. inr q) (get_after slots n m x y z h r)

slot_before : (slots : List Slot) (n m : ℕ) (x y z : Slot) → slot_at slots n ≡ Some x → slot_at slots m ≡ Some z
    → ((m ≡ n) × (z ≡ x) × (slot_at (with_slot slots n y) m ≡ Some y)) ⊎ (slot_at (with_slot slots n y) m ≡ Some z)
slot_before slots zero m x y z h r = absurd (cc h)
slot_before slots (suc n) zero x y z h r = absurd (cc r)
slot_before slots (suc n) (suc m) x y z h r = ⊎_elim (λ p. inl (ap suc p.0, p.1, p.2)) (λ q. inr q) (get_before slots n m x y z h r)

pub disks_write : (slots : List Slot) (n : ℕ) (x y : Slot) → slot_at slots n ≡ Some x → y.disk ≡ x.disk → SameDisks slots (with_slot slots n y)
disks_write slots n x y here same = record {
  each = λ m z at. ⊎_elim
      (λ (is, new). (x, subst (λ k. slot_at slots k ≡ Some x) (sym is) here, ap (λ (s : Slot). s.disk) new ∙ same))
      (λ old. (z, old, refl))
      (slot_after slots n m x y z here at);
  stays = λ m z at. ⊎_elim
      (λ (is, was, there). (y, there, same ∙ ap (λ (s : Slot). s.disk) (sym was)))
      (λ old. (z, old, refl))
      (slot_before slots n m x y z here at);
}

-- a moment has the disks of these slots
abbrev pub OfDisks : List Slot → List login.Slot → Type 0
OfDisks base moment = (n : ℕ) (slot : login.Slot) → login.slot_at moment n ≡ Some slot → (was : Slot) × (slot_at base n ≡ Some was) × (slot.disk ≡ was.disk)

pub of_disks : (tells : Bool) (base slots : List Slot) → SameDisks base slots → OfDisks base (map (read_slot tells) slots)
of_disks tells base slots same n slot at =
    let one = read_back tells slots n slot at in
    let was = same.each n one.0 one.1 in
    (was.0, was.1, ap (λ (s : login.Slot). s.disk) (sym one.2) ∙ was.2)

pub of_disks_on : (base slots : List Slot) (moment : List login.Slot) → SameDisks base slots → OfDisks slots moment → OfDisks base moment
of_disks_on base slots moment same of n slot at = let x = of n slot at in let was = same.each n x.0 x.1 in (was.0, was.1, x.2 ∙ was.2)
