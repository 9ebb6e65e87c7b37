use Rattle.node_store.specs.Disks.{view_of}
use Rattle.drive_tape.proofs.Posting.{post_same}
use Rattle.drive_tape.proofs.moved.make.Goals as goal

pub returns-in-Post-clause-moved : goal.returns-in-Post-clause-moved
returns-in-Post-clause-moved g c start outcomes awaited been fit =
    post_same (view_of g.D.Disk.seen g.D.Disk.faults g.D.Disk.clock) start c.args.world.now outcomes awaited been c.args.admitted c.in-Post.letter c.in-Post.keep c.in-Post.is c.post.result c.post.new.world (λ fits. c.post.ensures.moved start outcomes awaited been fits) fit
