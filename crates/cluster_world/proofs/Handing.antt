-- A node that is up is handed a letter, at its place in the list of all.
use Rattle.std.proofs.Common.{◌≡◌, ℕ, ◌+◌, ◌<◌, true, false, List, length, get_or, Option, Some, None, Result, refl, sym, ap, ◌∙◌, subst, arith}
use Rattle.std.specs.Prelude.{slice_get, slice_set}
use Rattle.std.proofs.lemmas.Option.{slice_get_within, slice_get-get_or}
use Rattle.mail_model.specs.Plan.{Plan}
use Rattle.object_model.specs.Letters.{Letter}
use Rattle.node_store.specs.Disks.{View}
use Rattle.node_core.specs.Nodes.{IsNodeOf}
use Rattle.node_core.specs.Works.{LeavesUp}
use Rattle.node_core.specs.declared.fault.NodeFault.{NodeFault}
use Rattle.whole_node.specs.Nodes.{WholeWorks}
use Rattle.whole_node.specs.declared.node.WholeNode.{WholeNode}
use Rattle.node_core.specs.declared.outbox.Outbox.{Outbox}
use Rattle.cluster_world.specs.Lives.{life_seen, is_up_life, of_node, CanWorkOn}
use Rattle.cluster_world.specs.Worlds.{seen_life, life_among}
use Rattle.cluster_world.specs.Changes.{ChangesNode}
use Rattle.cluster_world.specs.Hears.{HearsAny, HearsWhole}
use Rattle.cluster_world.specs.Turning.{TurnsBy}
use Rattle.cluster_world.specs.Posts.{HearsAtNode}
use Rattle.cluster_world.specs.declared.life.Life.{Life}
use Rattle.cluster_world.specs.declared.life.Life.TheVariants.{Up, Down, Lost}
use Rattle.cluster_world.specs.declared.nodes.Nodes.{Nodes}
use Rattle.cluster_world.proofs.Asked.{ready_of}
use Rattle.cluster_world.proofs.Changing.{node_at, changed_at}

-- a life that is up is of a node
is_up : (l : Life) → is_up_life (life_seen l) ≡ true → (node : WholeNode) × (l ≡ Up node)
is_up (Up node) e = (node, refl)
is_up Down e = absurd (let never : false ≡ true = e in cc)
is_up Lost e = absurd (let never : false ≡ true = e in cc)

there_up : (o : Option Life) → is_up_life (seen_life o) ≡ true → (l : Life) × (o ≡ Some l)
there_up None e = absurd (let never : false ≡ true = e in cc)
there_up (Some l) e = (l, refl)

module _ {D : Type 0} (nodes : Nodes D) (n k : ℕ) (at : k + 1 ≡ n) (up : is_up_life (life_among nodes n) ≡ true) where
  pub place_within : k < length nodes.lives.items
  place_within = let (l, here) = there_up (of_node nodes.lives.items n) up in slice_get_within nodes.lives.items k l (sym (node_at nodes.lives.items n k at) ∙ here)

  pub disk_within : k < length nodes.disks.items
  disk_within = omega (arith, place_within, nodes.all, nodes.disk_each)

  module _ (l spare : Life) (d extra : D) (l_is : l ≡ get_or nodes.lives.items k spare) (d_is : d ≡ get_or nodes.disks.items k extra) where
    life_here : slice_get nodes.lives.items k ≡ Some l
    life_here = slice_get-get_or nodes.lives.items k spare place_within ∙ ap Some (sym l_is)

    disk_here : slice_get nodes.disks.items k ≡ Some d
    disk_here = slice_get-get_or nodes.disks.items k extra disk_within ∙ ap Some (sym d_is)

    of_both : (seen : D → Option (List ℕ)) → CanWorkOn seen nodes.plan nodes.lives.items nodes.disks.items → (node : WholeNode) → l ≡ Up node → IsNodeOf nodes.plan n node.mail × WholeWorks (seen d) node
    of_both seen works node is = ready_of seen nodes.plan nodes.lives.items nodes.disks.items works n node d
        (node_at nodes.lives.items n k at ∙ life_here ∙ ap Some is) (node_at nodes.disks.items n k at ∙ disk_here)

    -- what the node needs to work
    pub up_works : (seen : D → Option (List ℕ)) → CanWorkOn seen nodes.plan nodes.lives.items nodes.disks.items → (node : WholeNode) × (l ≡ Up node) × WholeWorks (seen d) node
    up_works seen works =
        let (node, is) = is_up l (subst (λ o. is_up_life (seen_life o) ≡ true) (node_at nodes.lives.items n k at ∙ life_here) up) in
        (node, is, (of_both seen works node is).1)

    -- it did
    pub heard_in : (on : View D) (is_settled : D → Type 0) (letter : Letter) (result : Result Outbox NodeFault) (new : Nodes D) (l' : Life) (d' : D) → CanWorkOn on.seen nodes.plan nodes.lives.items nodes.disks.items
        → new.plan ≡ nodes.plan → new.lives.items ≡ slice_set nodes.lives.items k l' → new.disks.items ≡ slice_set nodes.disks.items k d'
        → TurnsBy on.seen (λ result old before new after. (plan : Plan) (own : ℕ) → IsNodeOf plan own old → HearsAny on own plan.nodes letter old before new after result)
        (λ result old before new after. (plan : Plan) (own : ℕ) → IsNodeOf plan own old.mail → HearsWhole on own plan.nodes letter result old before new after) result l d l' d'
        → (LeavesUp result → is_settled d → is_settled d') → ChangesNode n (HearsAtNode on is_settled nodes.plan n letter result) nodes new
    heard_in on is_settled letter result new l' d' works p e f t settled =
        changed_at n k (HearsAtNode on is_settled nodes.plan n letter result) nodes new l l' d d' at life_here disk_here p e f (
          record {
            old = t.old;
            new = t.new;
            was = t.was;
            did = t.did nodes.plan n (of_both on.seen works t.old t.was).0;
            maps = t.maps nodes.plan n (of_both on.seen works t.old t.was).0;
            beside = t.beside;
            is = t.is;
            works = t.works;
          },
          settled,
        )
