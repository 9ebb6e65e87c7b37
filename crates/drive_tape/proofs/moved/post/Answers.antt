use Rattle.node_store.specs.Disks.{view_of}
use Rattle.drive_tape.proofs.Posting.{post_done}
use Rattle.drive_tape.proofs.moved.post.Goals as goal

pub returns-clause-moved : goal.returns-clause-moved
returns-clause-moved g c start outcomes awaited been fit =
    post_done (view_of g.D.Disk.seen g.D.Disk.faults g.D.Disk.clock) start c.args.world.now outcomes awaited been c.args.keep c.args.letter fit c.step-said.new.self c.step-said.result c.posted.result c.posted.ensures.posts c.step-said.ensures.is
