use Rattle.std.proofs.Common.{refl, ap, subst}
use Rattle.node_store.specs.Disks.{view_of}
use Rattle.cluster_world.specs.Forms.{GroupsAt}
use Rattle.cluster_world.specs.declared.nodes.Nodes.{Nodes}
use Rattle.cluster_world.specs.declared.step.Step.TheVariants as step
use Rattle.cluster_world.proofs.Grouping.{form_place, form_changed}
use Rattle.cluster_world.proofs.steps.group.open_in.Goals as goal

pub open_at-requires-clause-up : goal.open_at-requires-clause-up
open_at-requires-clause-up g c =
    form_place (view_of g.D.Disk.seen g.D.Disk.faults g.D.Disk.clock) c.args.node (step.Group c.args.node) refl refl tt _ c.args.nodes.now c.nodes.view_is c.requires.fit c.requires.works c.place_of-place.result c.place_of-place.ensures
    _ _ _ _ c.index_mut.ensures.value c.index_mut-2.ensures.value

pub returns-clause-does : goal.returns-clause-does
returns-clause-does g c =
    let on = view_of g.D.Disk.seen g.D.Disk.faults g.D.Disk.clock in
    form_changed on c.args.node (step.Group c.args.node) refl refl tt _ c.args.nodes.now c.nodes.view_is c.requires.fit c.requires.works c.place_of-place.result c.place_of-place.ensures
    c.index_mut.result.now _ c.index_mut-2.result.now _ c.index_mut.ensures.value c.index_mut-2.ensures.value
    (GroupsAt on g.D.Disk.settled c.args.nodes.now.plan.nodes c.open_at.result) c.open_at.new.life c.open_at.new.disk _ refl refl refl
    (subst (λ count. GroupsAt on g.D.Disk.settled count c.open_at.result c.index_mut.result.now c.index_mut-2.result.now c.open_at.new.life c.open_at.new.disk) (ap (λ (x : Nodes g.row.D.Denot). x.plan.nodes) c.nodes.view_is)
    (c.open_at.ensures.turns, c.open_at.ensures.settled))
