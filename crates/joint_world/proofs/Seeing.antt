-- What the whole machine sees of what a node does for a call that reads.
use Rattle.std.proofs.Common.{◌≡◌, ℕ, Bool, List, [], append-nil, map, Some, refl, sym, ap, ◌∙◌, subst}
use Rattle.mail_model.specs.Record.{Record}
use Rattle.object_model.specs.Lists.{Among}
use Rattle.object_model.specs.Letters.{Letter}
use Rattle.object_model.specs.Locks.{Held}
use Rattle.object_model.specs.Mishaps.{MishapKind}
use Rattle.cluster_model.specs.Cluster as mail_cluster
use Rattle.cluster_model.specs.Deeds as mail_deeds
use Rattle.cluster_model.specs.World as mail
use Rattle.cluster_model.specs.Makes as mail_makes
use Rattle.cluster_model.specs.Makes.{GoesOnReading}
use Rattle.cluster_model.proofs.Slots.{written_same}
use Rattle.whole_model.specs.Whole as whole_model
use Rattle.whole_world.specs.World as whole
use Rattle.whole_world.specs.World.{FollowsAlong}
use Rattle.whole_world.proofs.Seeing.{mail_set}
use Rattle.login_model.specs.Rules as login_rules
use Rattle.login_model.specs.Facts.{GoesOut}
use Rattle.joint_model.specs.Joint.{Node, Life, Slot, slot_at, with_slot, slot_up, whole_slot}
use Rattle.joint_model.specs.Joint.Life.{Up, Down, Lost}
use Rattle.joint_model.proofs.Kept.{whole_here}
use Rattle.joint_world.specs.World.{World, whole_world_of, mail_world_of, IsUp}
use Rattle.joint_world.specs.Rules.{reacted}
use Rattle.joint_world.specs.Putting.{missed, Puts}
use Rattle.joint_world.specs.Makes.{Does, Loses, fallen}
use Rattle.joint_world.proofs.Along.{whole_up, along_same, along_turn}
use Rattle.joint_world.proofs.Putting.{Sender, Sent, missed_seen, puts_go}
use Rattle.joint_world.proofs.Views.{mail_at, mail_back, whole_set, whole_there}

abbrev pub W : World → whole.World
W w = whole_world_of w

abbrev pub M : World → mail.World
M w = mail_world_of w

-- who is up for messages is up
up_of : (slot : Slot) (m : mail_cluster.Node) (disk : List Record) → whole_model.mail_slot (whole_slot slot) ≡ mail_deeds.slot_up m disk → (x : Node) × (slot ≡ slot_up x disk)
up_of slot m disk e = by slot.life refl
  where
    disks : slot.disk ≡ disk
    disks = ap (λ (s : mail_cluster.Slot). s.disk) e

    by : (life : Life) → slot.life ≡ life → (x : Node) × (slot ≡ slot_up x disk)
    by (Up x) is = (x, λ i. record { life = is i; disk = disks i })
    by (Down pending) is = absurd (clash (sym (ap (λ (l : Life). (whole_model.mail_slot (whole_slot (record { life = l; disk = slot.disk }))).life) is) ∙ ap (λ (s : mail_cluster.Slot). s.life) e))
      where
        clash : mail_cluster.Life.Down pending ≡ mail_cluster.Life.Up m → ⊥
        clash k = cc
    by Lost is = absurd (clash (sym (ap (λ (l : Life). (whole_model.mail_slot (whole_slot (record { life = l; disk = slot.disk }))).life) is) ∙ ap (λ (s : mail_cluster.Slot). s.life) e))
      where
        clash : mail_cluster.Life.Lost ≡ mail_cluster.Life.Up m → ⊥
        clash k = cc

pub nobody_seen : (w : World) (n : ℕ) → ((node : Node) (disk : List Record) → IsUp w n node disk → ⊥) → (node : mail_cluster.Node) (disk : List Record) → mail_makes.IsUp (M w) n node disk → ⊥
nobody_seen w n nobody node disk up =
    let back = mail_back w n (mail_deeds.slot_up node disk) up in
    let one = up_of back.0 node disk back.2 in
    nobody one.0 disk (back.1 ∙ ap Some one.1)

pub up_seen : (w : World) (n : ℕ) (node : Node) (disk : List Record) → IsUp w n node disk → mail_makes.IsUp (M w) n node.whole.mail disk
up_seen w n node disk up = mail_at w n (slot_up node disk) up

-- the slots that are written, as messages see them
set_seen : (slots : List Slot) (n : ℕ) (slot : Slot) → map whole_model.mail_slot (map whole_slot (with_slot slots n slot)) ≡ mail_cluster.with_slot (map whole_model.mail_slot (map whole_slot slots)) n (whole_model.mail_slot (whole_slot slot))
set_seen slots n slot = ap (map whole_model.mail_slot) (whole_set slots n slot) ∙ mail_set (map whole_slot slots) n (whole_slot slot)

pub written_seen : (w : World) (n : ℕ) (slot : Slot) → M (record w { slots = with_slot w.slots n slot }) ≡ record (M w) { slots = mail_cluster.with_slot (M w).slots n (whole_model.mail_slot (whole_slot slot)) }
written_seen w n slot = ap (λ (s : List mail_cluster.Slot). record (M w) { slots = s }) (set_seen w.slots n slot)

-- a node that is written as it was
pub unwritten : (w : mail.World) (n : ℕ) (node : mail_cluster.Node) (disk : List Record) → mail_makes.IsUp w n node disk → record w { slots = mail_cluster.with_slot w.slots n (mail_deeds.slot_up node disk) } ≡ w
unwritten w n node disk up = ap (λ (s : List mail_cluster.Slot). record w { slots = s }) (written_same w.slots n (mail_deeds.slot_up node disk) up)

-- what is done so goes on, and maps follow along
pub record Goes (old new : World) (mid : mail.World) : Type 0 where
  pub goes : GoesOnReading mid (M new)
  pub follows : FollowsAlong (W old) (W new)

module _ (tells : Bool) where
  -- A node does something, and its letters are sent. It may have learnt stamps before.
  pub does_goes : (old x : World) → x.slots ≡ old.slots → (own : ℕ) (before node : Node) (disk : List Record) → IsUp old own before disk → node.whole.maps ≡ before.whole.maps → (did : login_rules.Reaction) (locks : Held)
      → ((letter : Letter) → Among letter did.out → GoesOut own letter) → (new : World) → Does tells x own disk (reacted node did locks) new
      → Goes old new (record (M x) { slots = mail_cluster.with_slot (M x).slots own (mail_deeds.slot_up (record node.whole.mail { calls = did.node.calls }) disk) })
  does_goes old x same own before node disk up maps_same did locks goes new puts = record {
    goes = subst (λ (v : mail.World). GoesOnReading v (M new)) (written_seen x own now) sent.goes;
    follows = along_turn (W old) (W new) own before.whole disk (whole_here old.slots own (slot_up before disk) up) (whole_slot now)
        (sent.slots ∙ whole_set x.slots own now ∙ ap (λ (s : List Slot). whole_model.with_slot (map whole_slot s) own (whole_slot now)) same)
        (λ b e. (ap (λ (n : whole_model.Node). n.maps) (sym (whole_up (reacted node did locks).node.whole b e)) ∙ maps_same, refl));
  }
    where
      now : Slot
      now = slot_up (reacted node did locks).node disk

      turned : World
      turned = record x { slots = with_slot x.slots own now }

      here : slot_at x.slots own ≡ Some (slot_up before disk)
      here = subst (λ (s : List Slot). slot_at s own ≡ Some (slot_up before disk)) (sym same) up

      after : whole_model.slot_at (map whole_slot turned.slots) own ≡ Some (whole_slot now)
      after = subst (λ (s : List whole_model.Slot). whole_model.slot_at s own ≡ Some (whole_slot now)) (sym (whole_set x.slots own now))
          (whole_there (map whole_slot x.slots) own (whole_slot (slot_up before disk)) (whole_slot now) (whole_here x.slots own (slot_up before disk) here))

      sent : Sent turned new
      sent = puts_go tells did.out turned new puts (λ letter m. record { own = own; node = (reacted node did locks).node.whole; disk = disk; up = after; goes = goes letter m })

  -- The mishap of a letter is noted, over a world with these slots, and letters are sent for it.
  pub missed_goes : (kind : MishapKind) (slots : List Slot) (letter : Letter) (v new : World) → v.slots ≡ (missed tells kind slots letter).slots → Puts tells (missed tells kind slots letter).out v new
      → GoesOnReading (record (M v) { slots = map whole_model.mail_slot (map whole_slot slots) }) (M new) × ((W new).slots ≡ map whole_slot slots)
  missed_goes kind slots letter v new is puts =
      let m = missed_seen tells kind slots letter in
      let same : map whole_slot v.slots ≡ map whole_slot slots = ap (map whole_slot) is ∙ m.same in
      let sent = puts_go tells (missed tells kind slots letter).out v new puts (λ letter_ k. subst (λ (s : List whole_model.Slot). Sender tells s letter_) (sym same) (m.sends letter_ k)) in
      (subst (λ (s : List whole_model.Slot). GoesOnReading (record (M v) { slots = map whole_model.mail_slot s }) (M new)) same sent.goes, sent.slots ∙ same)

  pub loses_goes : (old : World) (kind : MishapKind) (number : ℕ) (flies : mail.Flies (M old) number) (keep : Bool) (new : World) → Loses tells kind old number flies keep new
      → Goes old new (record (M old) { flying = mail.flies_on (M old) number flies keep })
  loses_goes old kind number flies keep new puts =
      let g = missed_goes kind old.slots flies.letter (record old { slots = (missed tells kind old.slots flies.letter).slots; flying = mail.flies_on (M old) number flies keep }) new refl puts in
      record { goes = g.0; follows = along_same (W old) (W new) g.1 }

-- a node goes down as its disk fails
pub fallen_seen : (w : World) (own : ℕ) (disk : List Record) → M (fallen w own disk) ≡ mail_makes.cut_world (M w) own disk [] []
fallen_seen w own disk = ap (λ (s : List mail_cluster.Slot). record (M (fallen w own disk)) { slots = s })
    (set_seen w.slots own (record { life = Down []; disk = disk })
    ∙ ap (λ (d : List Record). mail_cluster.with_slot (M w).slots own (record { life = mail_cluster.Life.Down []; disk = d })) (sym (append-nil disk)))

pub fallen_follows : (old new : World) (own : ℕ) (node : Node) (disk : List Record) → IsUp old own node disk → (W new).slots ≡ (W (fallen old own disk)).slots → FollowsAlong (W old) (W new)
fallen_follows old new own node disk up is = along_turn (W old) (W new) own node.whole disk (whole_here old.slots own (slot_up node disk) up) (whole_slot off) (is ∙ whole_set old.slots own off) (λ b e. absurd (clash b e))
  where
    off : Slot
    off = record { life = Down []; disk = disk }

    clash : (b : whole_model.Node) → whole_model.Life.Down [] ≡ whole_model.Life.Up b → ⊥
    clash b e = cc
