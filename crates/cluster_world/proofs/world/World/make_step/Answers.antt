use Rattle.std.proofs.Common.{refl, sym, ◌∙◌}
use Rattle.node_store.specs.Disks.{view_of}
use Rattle.cluster_world.specs.Worlds.{state_of}
use Rattle.cluster_world.proofs.Refused.{refused_did, refused_sure}
use Rattle.cluster_world.proofs.Installs.{none_added}
use Rattle.cluster_world.proofs.world.World.make_step.Goals as goal

pub returns-in-Some-clause-did : goal.returns-in-Some-clause-did
returns-in-Some-clause-did g c =
    let w = c.args.self.now in
    refused_did (view_of g.D.Disk.seen g.D.Disk.faults g.D.Disk.clock) (state_of w) (w.nodes.disk_each ∙ sym w.nodes.all) w.nodes.all c.args.step c.in-Some.fault (sym c.in-Some.ensures)

pub returns-in-Some-clause-sure : goal.returns-in-Some-clause-sure
returns-in-Some-clause-sure g c = refused_sure (state_of c.args.self.now) c.args.step c.in-Some.fault (sym c.in-Some.ensures)

pub returns-in-Some-clause-installs : goal.returns-in-Some-clause-installs
returns-in-Some-clause-installs g c = none_added c.args.step c.args.self.now.flying.flights c.args.self.now.nodes.lives.items c.args.self.now.book c.args.self.now.book refl
