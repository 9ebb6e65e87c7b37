use Rattle.std.proofs.Common.{refl, ap, subst}
use Rattle.node_store.specs.Disks.{view_of}
use Rattle.cluster_world.specs.Forms.{ConcludesGroupAt}
use Rattle.cluster_world.specs.declared.nodes.Nodes.{Nodes}
use Rattle.cluster_world.specs.declared.step.Step.TheVariants as step
use Rattle.cluster_world.proofs.Grouping.{form_place, form_changed_life}
use Rattle.cluster_world.proofs.steps.conclude.conclude_in.Goals as goal

pub conclude_at-requires-clause-up : goal.conclude_at-requires-clause-up
conclude_at-requires-clause-up g c =
    form_place (view_of g.D.Disk.seen g.D.Disk.faults g.D.Disk.clock) c.args.node (step.Conclude c.args.node) refl refl tt _ c.args.nodes.now c.nodes.view_is c.requires.fit c.requires.works c.place_of-place.result c.place_of-place.ensures
    _ _ _ _ c.index_mut.ensures.value c.index.ensures

pub returns-clause-does : goal.returns-clause-does
returns-clause-does g c =
    let on = view_of g.D.Disk.seen g.D.Disk.faults g.D.Disk.clock in
    form_changed_life on c.args.node (step.Conclude c.args.node) refl refl tt _ c.args.nodes.now c.nodes.view_is c.requires.fit c.requires.works c.place_of-place.result c.place_of-place.ensures
    c.index_mut.result.now _ c.index.result.now _ c.index_mut.ensures.value c.index.ensures
    (ConcludesGroupAt on c.args.nodes.now.plan.buckets c.conclude_at.result) c.conclude_at.new.life _ refl refl refl
    (subst (λ count. ConcludesGroupAt on count c.conclude_at.result c.index_mut.result.now c.index.result.now c.conclude_at.new.life c.index.result.now) (ap (λ (x : Nodes g.row.D.Denot). x.plan.buckets) c.nodes.view_is) (c.conclude_at.ensures.turns, refl))
