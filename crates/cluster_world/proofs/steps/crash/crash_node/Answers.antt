use Rattle.std.proofs.Common.{[], ◌∷◌, refl}
use Rattle.node_store.specs.Disks.{view_of}
use Rattle.world_book.specs.declared.entry.Entry.TheVariants as written
use Rattle.cluster_world.proofs.Fallen.{crash_did, crash_ready, crash_settled, crash_room, crash_spare}
use Rattle.cluster_world.proofs.Installs.{adds_none}
use Rattle.cluster_world.proofs.steps.crash.crash_node.Goals as goal

pub add-requires : goal.add-requires
add-requires g c = crash_spare c.args.node c.args.nodes.now c.turn.new.self c.args.book.now c.requires.fit c.turn.ensures c.requires.room

pub returns-clause-did : goal.returns-clause-did
returns-clause-did g c = λ flying seconds. crash_did (view_of g.D.Disk.seen g.D.Disk.faults g.D.Disk.clock) c.args.node c.args.nodes.now c.turn.new.self c.args.book.now c.add.new.self c.requires.fit c.turn.ensures flying seconds c.add.ensures.entries

pub returns-clause-ready : goal.returns-clause-ready
returns-clause-ready g c = crash_ready (view_of g.D.Disk.seen g.D.Disk.faults g.D.Disk.clock) c.args.node c.args.nodes.now c.turn.new.self c.args.book.now c.add.new.self c.requires.fit c.turn.ensures g.D.Disk.seen

pub returns-clause-settled : goal.returns-clause-settled
returns-clause-settled g c = λ flying seconds. crash_settled (view_of g.D.Disk.seen g.D.Disk.faults g.D.Disk.clock) c.args.node c.args.nodes.now c.turn.new.self c.args.book.now c.add.new.self c.requires.fit c.turn.ensures flying seconds g.D.Disk.settled

pub returns-clause-room : goal.returns-clause-room
returns-clause-room g c = crash_room (view_of g.D.Disk.seen g.D.Disk.faults g.D.Disk.clock) c.args.node c.args.nodes.now c.turn.new.self c.args.book.now c.add.new.self c.requires.fit c.turn.ensures c.add.ensures.spare c.requires.room

pub returns-clause-installs : goal.returns-clause-installs
returns-clause-installs g c = adds_none c.args.book.now c.add.new.self (written.Down c.args.node ∷ []) c.add.ensures.entries refl
