-- In a step of a call that reads no node that stays up changes what it says in maps, and no disk changes: so maps follow along.
use Rattle.std.proofs.Common.{◌≡◌, ⊎_elim, ℕ, List, [], ◌∷◌, length, drop, Some, refl, sym, ap, ◌∙◌, subst}
use Rattle.mail_model.specs.Record.{Record}
use Rattle.object_model.proofs.Lists.{same_some}
use Rattle.whole_model.specs.Whole.{Node, Life, Slot, slot_at, with_slot}
use Rattle.whole_model.specs.Whole.Life.{Up}
use Rattle.whole_model.specs.Rules.{follows}
use Rattle.whole_world.specs.World.{World, slot_up, IsUp, FollowsAlong}
use Rattle.joint_world.proofs.Views.{whole_after}

pub whole_up : (a b : Node) → ◌≡◌ {A = Life} (Up a) (Up b) → a ≡ b
whole_up a b e = cc

nothing_more : (xs : List Record) → drop (length xs) xs ≡ []
nothing_more [] = refl
nothing_more (x ∷ xs) = nothing_more xs

-- a node that has its maps and its disk as before
follows_none : (n : ℕ) (a b : Node) (before after : Slot) → b.maps ≡ a.maps → after.disk ≡ before.disk → b.maps ≡ follows n a.maps before.disk (drop (length before.disk) after.disk)
follows_none n a b before after maps_same disk_same = maps_same
    ∙ sym (ap (λ (d : List Record). follows n a.maps before.disk (drop (length before.disk) d)) disk_same ∙ ap (follows n a.maps before.disk) (nothing_more before.disk))

resting : (n : ℕ) (a b : Node) (before after : Slot) → before ≡ after → before.life ≡ Up a → after.life ≡ Up b → b.maps ≡ follows n a.maps before.disk (drop (length before.disk) after.disk)
resting n a b before after same e f = follows_none n a b before after
    (ap (λ (x : Node). x.maps) (whole_up b a (sym f ∙ ap (λ (s : Slot). s.life) (sym same) ∙ e)))
    (ap (λ (s : Slot). s.disk) (sym same))

pub along_same : (old new : World) → new.slots ≡ old.slots → FollowsAlong old new
along_same old new is = record {
  each = λ n before after h k a b e f. resting n a b before after (same_some (slot_at old.slots n) before after h (subst (λ (s : List Slot). slot_at s n ≡ Some after) is k)) e f;
}

-- one node is turned to this
pub along_turn : (old new : World) (own : ℕ) (node : Node) (disk : List Record) → IsUp old own node disk → (now : Slot) → new.slots ≡ with_slot old.slots own now
    → ((b : Node) → now.life ≡ Up b → (b.maps ≡ node.maps) × (now.disk ≡ disk)) → FollowsAlong old new
along_turn old new own node disk up now is turns = record {
  each = λ n before after h k a b e f. ⊎_elim
      (λ (at, new_).
      let was : before ≡ slot_up node disk = same_some (slot_at old.slots own) before (slot_up node disk) (subst (λ (m : ℕ). slot_at old.slots m ≡ Some before) at h) up in
      let t = turns b (ap (λ (s : Slot). s.life) (sym new_) ∙ f) in
      follows_none n a b before after (t.0 ∙ ap (λ (x : Node). x.maps) (whole_up node a (sym (ap (λ (s : Slot). s.life) was) ∙ e)))
      (ap (λ (s : Slot). s.disk) new_ ∙ t.1 ∙ ap (λ (s : Slot). s.disk) (sym was)))
      (λ stood. resting n a b before after (same_some (slot_at old.slots n) before after h stood) e f)
      (whole_after old.slots own n (slot_up node disk) now after up (subst (λ (s : List Slot). slot_at s n ≡ Some after) is k));
}
