use Rattle.std.proofs.Common.{Bool, [], ◌∷◌, Result, refl}
use Rattle.std.specs.List.{list_all}
use Rattle.mail_model.specs.Identity.Key.{Message}
use Rattle.cluster_model.specs.Steps.{is_node}
use Rattle.node_store.specs.Disks.{view_of}
use Rattle.cluster_model.specs.Rules.{widen}
use Rattle.node_core.specs.Pushing.{WidensCopy}
use Rattle.whole_node.specs.Following.{FollowsRule}
use Rattle.node_core.specs.declared.fault.NodeFault.{NodeFault}
use Rattle.cluster_world.specs.Worlds.{life_among}
use Rattle.cluster_world.specs.Turns.{life_refusal}
use Rattle.cluster_world.specs.Widens.{WidensAt}
use Rattle.cluster_world.specs.declared.step.Step.TheVariants as step
use Rattle.cluster_world.proofs.Changing.{changed_at}
use Rattle.cluster_world.proofs.Refusing.{fit_of}
use Rattle.cluster_world.proofs.AfterWidening.{turns_at, life_at, disk_at, plan_node_at, up_there}
use Rattle.cluster_world.proofs.steps.widen.widen_in.Goals as goal

pub widen_at-requires : goal.widen_at-requires
widen_at-requires g c =
    let nodes = c.args.nodes.now in
    let s = step.Widen c.args.at c.args.user.now c.args.id c.args.to in
    let f = fit_of (list_all (is_node nodes.plan) (c.args.at ∷ c.args.to ∷ [])) (life_refusal s (life_among nodes c.args.at)) c.requires.fit in
    record { up = up_there g.D.Disk.seen s c.args.at c.args.to c.place_of-place.result nodes f.0 f.1 tt c.requires.works c.place_of-place.ensures _ _ _ _ c.index_mut.ensures.value c.index_mut-2.ensures.value }

pub returns : goal.returns
returns g c =
    let nodes = c.args.nodes.now in
    let on = view_of g.D.Disk.seen g.D.Disk.faults g.D.Disk.clock in
    let s = step.Widen c.args.at c.args.user.now c.args.id c.args.to in
    let f = fit_of (list_all (is_node nodes.plan) (c.args.at ∷ c.args.to ∷ [])) (life_refusal s (life_among nodes c.args.at)) c.requires.fit in
    let k = c.place_of-place.result in
    let was = c.index_mut.ensures.value in
    let held = c.index_mut-2.ensures.value in
    changed_at c.args.at k (WidensAt on g.D.Disk.settled c.args.at c.args.to (Message c.args.user.now c.args.id) c.widen_at.result) nodes _ c.index_mut.result.now c.widen_at.new.life c.index_mut-2.result.now c.widen_at.new.disk
    c.place_of-place.ensures
    (life_at g.D.Disk.seen s c.args.at c.args.to k nodes f.0 f.1 tt c.requires.works c.place_of-place.ensures _ _ _ _ was held)
    (disk_at g.D.Disk.seen s c.args.at c.args.to k nodes f.0 f.1 tt c.requires.works c.place_of-place.ensures _ _ _ _ was held)
    refl refl refl (
      turns_at on.seen (λ own (r : Result Bool NodeFault) old before new after. WidensCopy on own c.args.to (Message c.args.user.now c.args.id) old before new after r)
          (λ own (r : Result Bool NodeFault) old before new after. FollowsRule (λ node disk. widen own c.args.to (Message c.args.user.now c.args.id) node disk) r old new) nodes.plan c.args.at c.widen_at.result _ _ _ _
          (λ node up. (plan_node_at g.D.Disk.seen s c.args.at c.args.to k nodes f.0 f.1 tt c.requires.works c.place_of-place.ensures _ _ _ _ was held node up).0) c.widen_at.ensures.turns,
      c.widen_at.ensures.settled,
    )
