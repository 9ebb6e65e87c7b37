use Rattle.node_store.specs.Disks.{view_of}
use Rattle.board_desk.proofs.Turned.{still_desk, refuses_turned}
use Rattle.board_desk.proofs.Posted.{posts_add, posts_never}
use Rattle.board_desk.proofs.desk.BoardDeskDesk.post_one.Goals as goal

pub post_one-posted-requires : goal.post_one-posted-requires
post_one-posted-requires g c = record { pass = c.requires.belongs.belongs }

pub returns-clause-belongs : goal.returns-clause-belongs
returns-clause-belongs g c =
    still_desk (view_of g.D.Disk.seen g.D.Disk.faults g.D.Disk.clock) _ c.args.self.now.board.now c.args.pass.now c.post_one-posted.new.pass c.post_one-posted.result c.post_one-posted.ensures.turn c.count_if_refused.new.tally c.args.self.now.pattern.value c.post_one-posted.ensures.still c.requires.belongs c.post_one-posted.ensures.pass

pub returns-clause-quiet : goal.returns-clause-quiet
returns-clause-quiet g c =
    let turn = c.post_one-posted.ensures.turn in
    refuses_turned (view_of g.D.Disk.seen g.D.Disk.faults g.D.Disk.clock) _ c.args.self.now.board.now c.args.pass.now c.post_one-posted.new.pass c.post_one-posted.result c.post_one-posted.ensures.turn c.count_if_refused.new.tally c.post_one-posted.result
    (posts_never (view_of g.D.Disk.seen g.D.Disk.faults g.D.Disk.clock) g.F.Fate.decides turn.old c.post_one-posted.result turn.new turn.work) (λ sound. posts_add (view_of g.D.Disk.seen g.D.Disk.faults g.D.Disk.clock) g.F.Fate.decides turn.old c.post_one-posted.result turn.new sound turn.work)
    c.count_if_refused.ensures.fell c.count_if_refused.ensures.rose
