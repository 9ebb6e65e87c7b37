-- All stands in a cluster that opens.
use Rattle.std.proofs.Common.{◌≡◌, ⊎_elim, ℕ, zero, suc, ◌≤◌, Bool, List, [], ◌∷◌, append-nil, map, Some, refl, sym, ap, ◌∙◌, subst}
use Rattle.std.specs.FinMap as fin
use Rattle.mail_model.specs.Plan.{Plan}
use Rattle.object_model.specs.Lists.{Among}
use Rattle.object_model.specs.Letters.{MapRow}
use Rattle.cluster_model.specs.Claims.{boot_of}
use Rattle.cluster_model.specs.Starts.{first_membership}
use Rattle.maps_model.specs.Words.{ManagersAreMembers}
use Rattle.whole_model.specs.Whole as whole_model
use Rattle.whole_world.specs.First as whole
use Rattle.whole_world.specs.Laws as whole_laws
use Rattle.whole_world.proofs.InFirst.{first_stands}
use Rattle.login_model.specs.Cluster as login
use Rattle.login_model.proofs.Others.{opens}
use Rattle.joint_model.specs.Joint.{whole_slot, read_node, read_slot}
use Rattle.joint_model.proofs.Settled.{read_back}
use Rattle.joint_world.specs.World.{whole_world_of}
use Rattle.joint_world.specs.Laws.{Stands}
use Rattle.joint_world.specs.First.{first_node, first_slot, first_slots, first_world}
use Rattle.joint_world.proofs.Views.{alike_more}

seen_first : (nodes : ℕ) (rows : List MapRow) (k : ℕ) → map whole_slot (first_slots nodes rows k) ≡ whole.first_slots nodes rows k
seen_first nodes rows zero = refl
seen_first nodes rows (suc k) = ap (λ (l : List whole_model.Slot). whole.first_slot nodes rows ∷ l) (seen_first nodes rows k)

node_same : (a b : login.Node) → login.Life.Up a ≡ login.Life.Up b → a ≡ b
node_same a b e = cc

fresh : (tells : Bool) (nodes : ℕ) (rows : List MapRow) (k : ℕ) (slot : login.Slot) → Among slot (map (read_slot tells) (first_slots nodes rows k)) → (node : login.Node) → slot.life ≡ login.Life.Up node
    → (node.boot ≡ boot_of slot.disk) × (node.reads ≡ fin.empty)
fresh tells nodes rows zero slot m node up = absurd m
fresh tells nodes rows (suc k) slot m node up = ⊎_elim
    (λ is. first (sym (ap (λ (s : login.Slot). s.disk) is)) (node_same (read_node tells (first_node nodes rows)) node (ap (λ (s : login.Slot). s.life) is ∙ up)))
    (λ more. fresh tells nodes rows k slot more node up)
    m
  where
    first : slot.disk ≡ (first_slot nodes rows).disk → read_node tells (first_node nodes rows) ≡ node → (node.boot ≡ boot_of slot.disk) × (node.reads ≡ fin.empty)
    first disk same = (sym (ap (λ (n : login.Node). n.boot) same) ∙ sym (ap boot_of disk), sym (ap (λ (n : login.Node). n.reads) same))

pub first_all_stand : (plan : Plan) (tells : Bool) (rows : List MapRow) → 1 ≤ plan.nodes → plan.nodes ≤ 64 → ManagersAreMembers (first_membership plan.nodes rows)
    → Stands plan tells (map (read_slot tells) (first_world plan.nodes rows).slots ∷ []) (first_world plan.nodes rows) × (whole_world_of (first_world plan.nodes rows) ≡ whole.first_world plan.nodes rows)
first_all_stand plan tells rows some few managed = (
  record {
    whole = subst (whole_laws.Stands plan) (sym seen) (first_stands plan rows some few managed).0;
    reads = opens (map (read_slot tells) (first_slots plan.nodes rows plan.nodes)) [] (λ slot m node up. fresh tells plan.nodes rows plan.nodes slot m node up) (λ letter m. absurd m);
    alike = alike_more tells [] (first_slots plan.nodes rows plan.nodes) (λ moment m. absurd m);
    fronts = λ moment m n slot at. ⊎_elim
        (λ e.
        let r = read_back tells (first_slots plan.nodes rows plan.nodes) n slot (subst (λ (s : List login.Slot). login.slot_at s n ≡ Some slot) (sym e) at) in
        (r.0, r.1, record { rest = []; is = ap (λ (x : login.Slot). x.disk) r.2 ∙ sym (append-nil slot.disk) }))
        (λ none. absurd none)
        m;
  },
  seen,
)
  where
    seen : whole_world_of (first_world plan.nodes rows) ≡ whole.first_world plan.nodes rows
    seen = ap (λ (s : List whole_model.Slot). record (whole.first_world plan.nodes rows) { slots = s }) (seen_first plan.nodes rows plan.nodes)
