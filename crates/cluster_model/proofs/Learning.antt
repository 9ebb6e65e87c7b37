-- A node that learns stamps, or hears a letter for which it has no rule, acts as the invariant asks.
use Rattle.std.proofs.Common.{◌≡◌, ⊎_elim, ℕ, List, [], Option, Some, None, refl, subst, le_refl}
use Rattle.std.specs.FinMap as fin
use Rattle.mail_model.specs.Record.{Record}
use Rattle.object_model.specs.Letters.{Letter}
use Rattle.cluster_model.specs.Cluster.{AskedOfNodes, Node, Life}
use Rattle.cluster_model.specs.Cluster.Life.{Up}
use Rattle.cluster_model.specs.Claims.{Asks, Tells, Covers, boot_of}
use Rattle.cluster_model.specs.Moves.{IsReady, IsCallDone}
use Rattle.cluster_model.specs.Rules.{idle}
use Rattle.cluster_model.specs.Deeds.{act_of, slot_up}
use Rattle.cluster_model.proofs.HearTold.{still_acts}
use Rattle.cluster_model.proofs.Quiet.{same_tickets}

-- the count of stamps is nothing that a node counts on
pub counted_ready : (own : ℕ) (node : Node) (disk : List Record) (count : ℕ) (heard : Option Letter) → IsReady own (slot_up node disk) heard
    → IsReady own (slot_up (record node { count = count }) disk) heard
counted_ready own node disk count heard r = record {
  order = record {
    booted = λ other up. subst (λ (x : Node). x.boot ≡ boot_of disk) (same (record node { count = count }) other up) (r.order.booted node refl);
    rises = r.order.rises;
    logged = λ other up key entry h. r.order.logged node refl key entry (subst (λ (x : Node). fin.get x.log key ≡ Some entry) (back (record node { count = count }) other up) h);
    owed = λ other up key entry h. r.order.owed node refl key entry (subst (λ (x : Node). fin.get x.log key ≡ Some entry) (back (record node { count = count }) other up) h);
  };
  fits = record { target = r.fits.target; kind = r.fits.kind };
  heard_fits = r.heard_fits;
}
  where
    same : (a b : Node) → ◌≡◌ {A = Life} (Up a) (Up b) → a ≡ b
    same a b e = cc

    back : (a b : Node) → ◌≡◌ {A = Life} (Up a) (Up b) → b ≡ a
    back a b e = cc

-- it learns stamps
pub learns : (own : ℕ) (node : Node) (disk : List Record) (count : ℕ) → IsReady own (slot_up node disk) None
    → IsCallDone (act_of own node disk (idle (record node { count = count }) disk) None None [])
learns own node disk count ready = still_acts own node disk None (record node { count = count }) refl refl (le_refl node.drawn) ready
    (same_tickets own node disk (idle (record node { count = count }) disk) None None [] refl refl (λ letter e. absurd (cc e)))

-- a letter that asks nothing and tells nothing
pub unknown_acts : (own : ℕ) (node : Node) (disk : List Record) (letter : Letter) → IsReady own (slot_up node disk) (Some letter)
    → ((asked : AskedOfNodes) → Asks letter.body asked → ⊥) → ((asked : AskedOfNodes) → Tells letter.body asked → ⊥)
    → IsCallDone (act_of own node disk (idle node disk) (Some letter) None [])
unknown_acts own node disk letter ready asks tells = still_acts own node disk (Some letter) node refl refl (le_refl node.drawn) ready
    (same_tickets own node disk (idle node disk) (Some letter) None [] refl refl (λ one is number m asked c.
    let d : Covers letter number m asked = subst (λ (l : Letter). Covers l number m asked) (back one is) c in
    absurd (⊎_elim (λ (from, to, a). asks asked a) (λ (to, from, t). tells asked t) d.1)))
  where
    back : (one : Letter) → Some letter ≡ Some one → one ≡ letter
    back one e = cc
