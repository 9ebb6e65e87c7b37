use Rattle.std.proofs.Common.{[], ◌∷◌, refl}
use Rattle.node_store.specs.Disks.{view_of}
use Rattle.world_book.specs.declared.entry.Entry.TheVariants as written
use Rattle.cluster_world.proofs.Losing.{lose_did}
use Rattle.cluster_world.proofs.Fallen.{lose_ready, lose_settled, lose_room, lose_spare}
use Rattle.cluster_world.proofs.Installs.{adds_none}
use Rattle.cluster_world.proofs.steps.lose.lose_node.Goals as goal

pub add-requires : goal.add-requires
add-requires g c = lose_spare c.args.node c.args.nodes.now c.turn.new.self c.args.book.now c.requires.fit c.turn.ensures c.requires.room

pub returns-clause-did : goal.returns-clause-did
returns-clause-did g c = λ flying seconds. lose_did (view_of g.D.Disk.seen g.D.Disk.faults g.D.Disk.clock) c.args.node c.args.nodes.now c.turn.new.self c.args.book.now c.add.new.self c.requires.fit c.turn.ensures g.met.D.Disk.seen_is_image flying seconds c.add.ensures.entries

pub returns-clause-ready : goal.returns-clause-ready
returns-clause-ready g c = lose_ready (view_of g.D.Disk.seen g.D.Disk.faults g.D.Disk.clock) c.args.node c.args.nodes.now c.turn.new.self c.args.book.now c.add.new.self c.requires.fit c.turn.ensures g.D.Disk.seen

pub returns-clause-settled : goal.returns-clause-settled
returns-clause-settled g c = λ flying seconds. lose_settled (view_of g.D.Disk.seen g.D.Disk.faults g.D.Disk.clock) c.args.node c.args.nodes.now c.turn.new.self c.args.book.now c.add.new.self c.requires.fit c.turn.ensures flying seconds g.D.Disk.settled

pub returns-clause-room : goal.returns-clause-room
returns-clause-room g c = lose_room (view_of g.D.Disk.seen g.D.Disk.faults g.D.Disk.clock) c.args.node c.args.nodes.now c.turn.new.self c.args.book.now c.add.new.self c.requires.fit c.turn.ensures c.add.ensures.spare c.requires.room

pub returns-clause-installs : goal.returns-clause-installs
returns-clause-installs g c = adds_none c.args.book.now c.add.new.self (written.Lost c.args.node ∷ []) c.add.ensures.entries refl
