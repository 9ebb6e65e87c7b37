-- A letter of a call that reads that is posted.
use Rattle.std.proofs.Common.{◌≡◌, ℕ, ◌+◌, Bool, true, List, get_or, Option, Some, Result, refl, sym, ap, ◌∙◌, subst}
use Rattle.std.specs.Prelude.{slice_get, slice_set}
use Rattle.std.proofs.lemmas.Option.{slice_get-get_or}
use Rattle.mail_model.specs.Plan.{Plan}
use Rattle.object_model.specs.Letters.{Letter}
use Rattle.object_model.specs.Mishaps.{MishapKind}
use Rattle.node_store.specs.Disks.{View}
use Rattle.node_core.specs.Nodes.{IsNodeOf}
use Rattle.node_core.specs.Works.{LeavesUp}
use Rattle.node_core.specs.declared.fault.NodeFault.{NodeFault}
use Rattle.node_core.specs.declared.outbox.Outbox.{Outbox}
use Rattle.node_reads.specs.Readings.{listed}
use Rattle.whole_node.specs.Nodes.{WholeWorks}
use Rattle.whole_node.specs.Reading.{HearsRead}
use Rattle.whole_node.specs.declared.node.WholeNode.{WholeNode}
use Rattle.cluster_world.specs.Changes.{ChangesNode}
use Rattle.cluster_world.specs.Flights.{InFlight, taken_out}
use Rattle.cluster_world.specs.Lives.{is_up_life, CanWorkOn}
use Rattle.cluster_world.specs.Posts.{out_of}
use Rattle.cluster_world.specs.Reading.{HasBefallen, PutsQueue}
use Rattle.cluster_world.specs.ReadPosts.{ReadTurns, HearsReadAt, IsLost}
use Rattle.cluster_world.specs.Worlds.{life_among}
use Rattle.cluster_world.specs.declared.life.Life.{Life}
use Rattle.cluster_world.specs.declared.life.Life.TheVariants.{Up}
use Rattle.cluster_world.specs.declared.nodes.Nodes.{Nodes}
use Rattle.cluster_world.proofs.Changing.{node_at, changed_at}
use Rattle.cluster_world.proofs.Asked.{ready_of}
use Rattle.cluster_world.proofs.Handing.{place_within, disk_within, up_works}

pub same_letter : (o : Option Letter) (a b : Letter) → o ≡ Some a → o ≡ Some b → a ≡ b
same_letter o a b e f = cc

module _ {D : Type 0} (nodes : Nodes D) (n k : ℕ) (at : k + 1 ≡ n) (up : is_up_life (life_among nodes n) ≡ true) (l spare : Life) (d extra : D) (l_is : l ≡ get_or nodes.lives.items k spare) (d_is : d ≡ get_or nodes.disks.items k extra) where
  life_here : slice_get nodes.lives.items k ≡ Some l
  life_here = slice_get-get_or nodes.lives.items k spare (place_within nodes n k at up) ∙ ap Some (sym l_is)

  disk_here : slice_get nodes.disks.items k ≡ Some d
  disk_here = slice_get-get_or nodes.disks.items k extra (disk_within nodes n k at up) ∙ ap Some (sym d_is)

  pub heard_read_in : (on : View D) (is_settled : D → Type 0) (letter : Letter) (result : Result Outbox NodeFault) (new : Nodes D) (l' : Life) (d' : D) → CanWorkOn on.seen nodes.plan nodes.lives.items nodes.disks.items
      → new.plan ≡ nodes.plan → new.lives.items ≡ slice_set nodes.lives.items k l' → new.disks.items ≡ slice_set nodes.disks.items k d'
      → ReadTurns on.seen (λ result old before new after. (plan : Plan) (own : ℕ) → IsNodeOf plan own old.mail → nodes.plan.users ≡ plan.users → HearsRead on plan own old before new after letter result) result l d l' d'
      → (LeavesUp result → is_settled d → is_settled d') → ChangesNode n (HearsReadAt on is_settled nodes.plan n letter result) nodes new
  heard_read_in on is_settled letter result new l' d' works p e f t settled =
      changed_at n k (HearsReadAt on is_settled nodes.plan n letter result) nodes new l l' d d' at life_here disk_here p e f (
        record {
          old = t.old;
          new = t.new;
          was = t.was;
          did = t.did nodes.plan n (ready_of on.seen nodes.plan nodes.lives.items nodes.disks.items works n t.old d (node_at nodes.lives.items n k at ∙ life_here ∙ ap Some t.was) (node_at nodes.disks.items n k at ∙ disk_here)).0 refl;
          is = t.is;
          works = t.works;
        },
        settled,
      )

-- So of nodes that are lent, which are these.
pub heard_read_lent : {D : Type 0} (lent nodes : Nodes D) (same : lent ≡ nodes) (n k : ℕ) (at : k + 1 ≡ n) (up : is_up_life (life_among nodes n) ≡ true) (l spare : Life) (d extra : D) → l ≡ get_or lent.lives.items k spare → d ≡ get_or lent.disks.items k extra
    → (on : View D) (is_settled : D → Type 0) (letter : Letter) (result : Result Outbox NodeFault) (new : Nodes D) (l' : Life) (d' : D) → CanWorkOn on.seen nodes.plan nodes.lives.items nodes.disks.items
    → new.plan ≡ lent.plan → new.lives.items ≡ slice_set lent.lives.items k l' → new.disks.items ≡ slice_set lent.disks.items k d'
    → ReadTurns on.seen (λ result old before new after. (plan : Plan) (own : ℕ) → IsNodeOf plan own old.mail → lent.plan.users ≡ plan.users → HearsRead on plan own old before new after letter result) result l d l' d'
    → (LeavesUp result → is_settled d → is_settled d') → ChangesNode n (HearsReadAt on is_settled nodes.plan n letter result) nodes new
heard_read_lent {D} lent nodes same n k at up l spare d extra l_is d_is on is_settled letter result new l' d' works p e f t settled =
    subst (λ (x : Nodes D). ChangesNode n (HearsReadAt on is_settled x.plan n letter result) x new) same
    (heard_read_in lent n k at (subst (λ (x : Nodes D). is_up_life (life_among x n) ≡ true) (sym same) up) l spare d extra l_is d_is on is_settled letter result new l' d'
    (subst (λ (x : Nodes D). CanWorkOn on.seen x.plan x.lives.items x.disks.items) (sym same) works) p e f t settled)

pub up_works_lent : {D : Type 0} (lent nodes : Nodes D) (same : lent ≡ nodes) (n k : ℕ) (at : k + 1 ≡ n) (up : is_up_life (life_among nodes n) ≡ true) (l spare : Life) (d extra : D) → l ≡ get_or lent.lives.items k spare → d ≡ get_or lent.disks.items k extra
    → (seen : D → Option (List ℕ)) → CanWorkOn seen nodes.plan nodes.lives.items nodes.disks.items → (node : WholeNode) × (l ≡ Up node) × WholeWorks (seen d) node
up_works_lent {D} lent nodes same n k at up l spare d extra l_is d_is seen works =
    up_works lent n k at (subst (λ (x : Nodes D). is_up_life (life_among x n) ≡ true) (sym same) up) l spare d extra l_is d_is seen (subst (λ (x : Nodes D). CanWorkOn seen x.plan x.lives.items x.disks.items) (sym same) works)

-- the letter was lost
pub is_lost : {D : Type 0} (on : View D) (number : ℕ) (keep : Bool) (kind : MishapKind) (letter one : Letter) (out : Option Letter) (old mid new : Nodes D) (flying between flying' : InFlight) → one ≡ letter
    → HasBefallen on kind one out old mid → between ≡ taken_out (out_of number keep) flying → PutsQueue on (listed out) mid between new flying' → IsLost on number keep kind letter old flying new flying'
is_lost on number keep kind letter one out old mid new flying between flying' same befell left puts = record {
  mid = mid;
  out = out;
  befell = subst (λ (l : Letter). HasBefallen on kind l out old mid) same befell;
  puts = subst (λ (f : InFlight). PutsQueue on (listed out) mid f new flying') left puts;
}
