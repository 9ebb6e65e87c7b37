-- A cluster that opens in its first epoch owes nothing, and each bucket has a manager.
use Rattle.std.proofs.Common.{◌≡◌, ⊎_elim, ℕ, zero, suc, ◌≤◌, ◌<◌, false, List, length, Some, None, refl, sym, ap, ◌∙◌, subst, arith}
use Rattle.std.specs.FinMap.{get-empty}
use Rattle.std.specs.Prelude.{slice_get}
use Rattle.mail_model.specs.Plan.{Plan}
use Rattle.mail_model.specs.Record.{Record}
use Rattle.object_model.specs.Keys.{key_cmp}
use Rattle.object_model.specs.Lists.{Among}
use Rattle.object_model.specs.UpdateLog.{Logged}
use Rattle.object_model.specs.Letters.{Member, MapRow, Membership}
use Rattle.object_model.proofs.Lists.{among_last}
use Rattle.cluster_model.specs.Starts.{first_members, first_membership}
use Rattle.whole_model.specs.Whole.{Node, Slot, slot_at}
use Rattle.whole_model.specs.Whole.Life.{Up}
use Rattle.whole_world.specs.World.{slot_up}
use Rattle.whole_world.specs.First.{first_node, first_slot, first_slots, first_world}
use Rattle.whole_world.specs.Settled.{IsSettled}
use Rattle.whole_world.specs.Sweeps.{IsCharted}

-- each member is numbered, and in its first boot
member_within : (k : ℕ) (member : Member) → Among member (first_members k) → (1 ≤ member.node) × (member.node ≤ k) × (1 ≡ member.boot)
member_within zero member m = absurd m
member_within (suc k) member m = ⊎_elim
    (λ front. let r = member_within k member front in (r.0, omega (arith, r.1), r.2))
    (λ last. let n = ap (λ (x : Member). x.node) last in (omega (arith, n), omega (arith, n), ap (λ (x : Member). x.boot) last))
    (among_last member (first_members k) _ m)

module _ (all : ℕ) (rows : List MapRow) where
  there : (nodes k : ℕ) → suc k ≤ nodes → slice_get (first_slots all rows nodes) k ≡ Some (first_slot all rows)
  there zero k less = absurd (omega (arith, less))
  there (suc n) zero less = refl
  there (suc n) (suc k) less = there n k (omega (arith, less))

  slot_there : (n : ℕ) → 1 ≤ n → n ≤ all → slot_at (first_slots all rows all) n ≡ Some (first_slot all rows)
  slot_there zero some within = absurd (omega (arith, some))
  slot_there (suc k) some within = there all k within

  slot_is : (nodes k : ℕ) (slot : Slot) → slice_get (first_slots all rows nodes) k ≡ Some slot → first_slot all rows ≡ slot
  slot_is zero k slot e = absurd (cc e)
  slot_is (suc n) zero slot e = cc
  slot_is (suc n) (suc k) slot e = slot_is n k slot e

  node_is : (n : ℕ) (node : Node) (disk : List Record) → slot_at (first_slots all rows all) n ≡ Some (slot_up node disk) → first_node all rows ≡ node
  node_is zero node disk e = absurd (cc e)
  node_is (suc k) node disk e = same (first_node all rows) node (ap (λ (s : Slot). s.life) (slot_is all k (slot_up node disk) e))
    where
      same : (a b : Node) → Up a ≡ Up b → a ≡ b
      same a b h = cc

pub first_settled : (plan : Plan) (rows : List MapRow) → IsSettled (first_world plan.nodes rows) (first_membership plan.nodes rows)
first_settled plan rows member m =
    let r = member_within plan.nodes member m in record {
      live = record { node = first_node plan.nodes rows; disk = (first_slot plan.nodes rows).disk; up = slot_there plan.nodes rows member.node r.0 r.1; boot = r.2; installed = refl };
      owes = λ key entry h other k apart. absurd (clash entry (sym (get-empty key_cmp key) ∙ h));
      unmarked = λ user. refl;
    }
  where
    clash : (entry : Logged) → None ≡ Some entry → ⊥
    clash entry e = cc

pub first_charted : (plan : Plan) (rows : List MapRow) → length rows ≡ plan.buckets → 0 < plan.buckets → IsCharted plan (first_world plan.nodes rows)
first_charted plan rows size some = record {
  not_own = λ n node disk up user managed. subst (λ (k : Node). k.maps.marked user ≡ false) (node_is plan.nodes rows n node disk up) refl;
  mapped = λ g known. ⊎_elim
      (λ (n, node, disk, up, installed). (ap (λ (k : Membership). length k.map) (sym (same g (ap (λ (k : Node). k.maps.installed) (node_is plan.nodes rows n node disk up) ∙ installed))) ∙ size, some))
      (λ (letter, m, body). absurd m)
      known;
}
  where
    same : (g : Membership) → Some (first_membership plan.nodes rows) ≡ Some g → first_membership plan.nodes rows ≡ g
    same g e = cc
