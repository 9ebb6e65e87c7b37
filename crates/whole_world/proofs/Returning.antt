-- Who is up after a step was up before it.
use Rattle.std.proofs.Common.{◌≡◌, ◌⊎◌, inl, inr, ⊎_elim, ℕ, List, length, drop, map, Option, Some, refl, sym, ap, ◌∙◌}
use Rattle.mail_model.specs.Record.{Record}
use Rattle.cluster_model.specs.Cluster as mail_cluster
use Rattle.maps_model.proofs.Lists.{same_or_apart}
use Rattle.whole_model.specs.Whole.{Node, Life, Slot, slot_at, with_slot, mail_slot}
use Rattle.whole_model.specs.Whole.Life.{Up, Down, Lost}
use Rattle.whole_model.specs.Rules.{follows}
use Rattle.whole_world.specs.World.{World, mail_world_of, slot_up, IsUp, FollowsAlong}
use Rattle.whole_world.proofs.Plain.{Turns, IsPlain}
use Rattle.whole_world.proofs.Along.{mail_here, unseen_at}
use Rattle.whole_world.proofs.Viewing.{slot_here, slot_other}

-- after a step for messages
pub record WasUp (old : World) (n : ℕ) (node : Node) (disk : List Record) : Type 0 where
  pub before : Node
  pub its : List Record
  pub up : IsUp old n before its
  pub maps_are : node.maps ≡ follows n before.maps its (drop (length its) disk)

pub plain_back : (old new : World) → IsPlain (mail_world_of old) (mail_world_of new) → FollowsAlong old new → (n : ℕ) (node : Node) (disk : List Record) → IsUp new n node disk → WasUp old n node disk
plain_back old new plain follow n node disk up = by_life was.0.life refl
  where
    turn : (before : mail_cluster.Slot) × (mail_cluster.slot_at (map mail_slot old.slots) n ≡ Some before) × Turns before (mail_slot (slot_up node disk))
    turn = plain.turns n (mail_slot (slot_up node disk)) (mail_here new.slots n (slot_up node disk) up)

    was : (s : Slot) × (slot_at old.slots n ≡ Some s) × (mail_slot s ≡ turn.0)
    was = unseen_at old.slots n turn.0 turn.1

    up_before : Turns turn.0 (mail_slot (slot_up node disk)) → (a : mail_cluster.Node) × ((mail_slot was.0).life ≡ mail_cluster.Life.Up a)
    up_before (Turns.Rests e) = (node.mail, ap (λ (s : mail_cluster.Slot). s.life) (was.2 ∙ e))
    up_before (Turns.Works a b d added ea eb of installed) = (a, ap (λ (s : mail_cluster.Slot). s.life) (was.2 ∙ ea))
    up_before (Turns.Falls a d front pending ea eb fo po) = absurd (clash pending (ap (λ (s : mail_cluster.Slot). s.life) eb))
      where
        clash : (p : List Record) → mail_cluster.Life.Up node.mail ≡ mail_cluster.Life.Down p → ⊥
        clash p e = cc
    up_before (Turns.Stops d pending next new_ ea stops eb) = absurd (clash next (ap (λ (s : mail_cluster.Slot). s.life) eb))
      where
        clash : (p : List Record) → mail_cluster.Life.Up node.mail ≡ mail_cluster.Life.Down p → ⊥
        clash p e = cc
    up_before (Turns.IsLost w kept k eb) = absurd (clash (ap (λ (s : mail_cluster.Slot). s.life) eb))
      where
        clash : mail_cluster.Life.Up node.mail ≡ mail_cluster.Life.Lost → ⊥
        clash e = cc

    before : (a : mail_cluster.Node) × ((mail_slot was.0).life ≡ mail_cluster.Life.Up a)
    before = up_before turn.2

    by_life : (life : Life) → was.0.life ≡ life → WasUp old n node disk
    by_life (Up x) is = record {
      before = x;
      its = was.0.disk;
      up = was.1 ∙ ap (λ (l : Life). Some (record { life = l; disk = was.0.disk })) is;
      maps_are = follow.each n was.0 (slot_up node disk) was.1 up x node is refl;
    }
    by_life (Down p) is = absurd (clash p before.0 (sym (ap (λ (l : Life). (mail_slot (record { life = l; disk = was.0.disk })).life) is) ∙ before.1))
      where
        clash : (p : List Record) (a : mail_cluster.Node) → mail_cluster.Life.Down p ≡ mail_cluster.Life.Up a → ⊥
        clash p a e = cc
    by_life Lost is = absurd (clash before.0 (sym (ap (λ (l : Life). (mail_slot (record { life = l; disk = was.0.disk })).life) is) ∙ before.1))
      where
        clash : (a : mail_cluster.Node) → mail_cluster.Life.Lost ≡ mail_cluster.Life.Up a → ⊥
        clash a e = cc

-- after one slot was written
pub written_back : (old new : List Slot) (own : ℕ) (before now : Slot) → slot_at old own ≡ Some before → new ≡ with_slot old own now → (n : ℕ) (slot : Slot) → slot_at new n ≡ Some slot
    → ((n ≡ own) × (now ≡ slot)) ⊎ (slot_at old n ≡ Some slot)
written_back old new own before now here is n slot there = ⊎_elim
    (λ same. inl (same.1, one (slot_at new n) now slot (ap (λ (l : List Slot). slot_at l n) is ∙ ap (slot_at (with_slot old own now)) same.1 ∙ slot_here old own before now here) there))
    (λ other. inr (sym (ap (λ (l : List Slot). slot_at l n) is ∙ slot_other old own n now other.1) ∙ there))
    (same_or_apart n own)
  where
    one : (o : Option Slot) (a b : Slot) → o ≡ Some a → o ≡ Some b → a ≡ b
    one o a b p q = cc
