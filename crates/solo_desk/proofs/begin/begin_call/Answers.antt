use Rattle.std.proofs.Common.{inr, refl}
use Rattle.node_store.specs.Disks.{view_of}
use Rattle.cluster_world.specs.declared.step.Step.TheVariants.{Begin}
use Rattle.solo_desk.proofs.Stepping.{steps_serve}
use Rattle.solo_desk.proofs.Striking.{handed_adds, handed_longer, handed_in_kind, handed_by}
use Rattle.solo_desk.proofs.begin.begin_call.Goals as goal

pub returns-clause-serves : goal.returns-clause-serves
returns-clause-serves g c = λ serves.
    let on = view_of g.D.Disk.seen g.D.Disk.faults g.D.Disk.clock in
    c.hand_out.ensures.serves (steps_serve on c.step-said.result (Begin c.args.node c.args.call) c.args.world.now c.step-said.new.self c.step-said.ensures.is (inr tt) (c.if-not-text_is_ended.ensures refl) c.step-said.ensures.ready serves)

pub returns-clause-longer : goal.returns-clause-longer
returns-clause-longer g c =
    let on = view_of g.D.Disk.seen g.D.Disk.faults g.D.Disk.clock in
    handed_longer on c.args.node c.args.call c.in-Some.kind c.in-Some.ensures c.step-said.result c.args.world.now c.step-said.new.self c.hand_out.new.world c.step-said.ensures.is c.hand_out.result c.hand_out.ensures.hands

pub returns-clause-adds : goal.returns-clause-adds
returns-clause-adds g c asked seen serves =
    let on = view_of g.D.Disk.seen g.D.Disk.faults g.D.Disk.clock in
    let mid_serves = steps_serve on c.step-said.result (Begin c.args.node c.args.call) c.args.world.now c.step-said.new.self c.step-said.ensures.is (inr tt) (c.if-not-text_is_ended.ensures refl) c.step-said.ensures.ready serves in
    handed_adds on c.args.node c.args.call c.in-Some.kind c.in-Some.ensures (c.if-not-text_is_ended.ensures refl) c.step-said.result c.args.world.now c.step-said.new.self c.hand_out.new.world
    c.step-said.ensures.is serves mid_serves asked seen c.hand_out.result c.hand_out.ensures.hands

pub returns-clause-kind : goal.returns-clause-kind
returns-clause-kind g c asked seen =
    let on = view_of g.D.Disk.seen g.D.Disk.faults g.D.Disk.clock in
    handed_in_kind on c.args.node c.args.call c.in-Some.kind c.in-Some.ensures c.step-said.result c.args.world.now c.step-said.new.self c.hand_out.new.world c.step-said.ensures.is asked seen c.hand_out.result c.hand_out.ensures.hands

pub returns-clause-made : goal.returns-clause-made
returns-clause-made g c =
    let on = view_of g.D.Disk.seen g.D.Disk.faults g.D.Disk.clock in
    handed_by on c.args.node c.args.call c.in-Some.kind c.in-Some.ensures c.step-said.result c.args.world.now c.step-said.new.self c.hand_out.new.world c.step-said.ensures.is c.hand_out.result c.hand_out.ensures.hands
