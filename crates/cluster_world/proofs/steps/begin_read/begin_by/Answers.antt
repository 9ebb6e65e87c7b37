use Rattle.std.proofs.Common.{sym, subst}
use Rattle.node_store.specs.Disks.{view_of}
use Rattle.node_core.specs.Beginning.{call_seen}
use Rattle.cluster_world.specs.BeginningReads.{BeginsReading}
use Rattle.cluster_world.proofs.BeginReads.{login_begins, fetch_begins, left_begins}
use Rattle.cluster_world.proofs.steps.begin_read.begin_by.Goals as goal

pub returns-in-Login-clause-begins : goal.returns-in-Login-clause-begins
returns-in-Login-clause-begins g c = λ plan own seconds of users.
    subst (λ x. BeginsReading (view_of g.D.Disk.seen g.D.Disk.faults g.D.Disk.clock) plan own seconds (call_seen x) c.args.node.now c.args.disk.now c.begin_login.new.self c.args.disk.now c.begin_login.result) (sym c.in-Login.is)
    (login_begins (view_of g.D.Disk.seen g.D.Disk.faults g.D.Disk.clock) plan own seconds c.args.node.now c.begin_login.new.self c.args.disk.now _ _ c.begin_login.result (c.begin_login.ensures.begins plan own seconds of users))

pub returns-in-Fetch-clause-begins : goal.returns-in-Fetch-clause-begins
returns-in-Fetch-clause-begins g c = λ plan own seconds of users.
    subst (λ x. BeginsReading (view_of g.D.Disk.seen g.D.Disk.faults g.D.Disk.clock) plan own seconds (call_seen x) c.args.node.now c.args.disk.now c.begin_fetch.new.self c.begin_fetch.new.disk c.begin_fetch.result) (sym c.in-Fetch.is)
    (fetch_begins (view_of g.D.Disk.seen g.D.Disk.faults g.D.Disk.clock) plan own seconds c.args.node.now c.begin_fetch.new.self c.args.disk.now c.begin_fetch.new.disk _ _ _ _ _ c.begin_fetch.result (c.begin_fetch.ensures.begins plan own seconds of))

pub returns-in-Leave-clause-begins : goal.returns-in-Leave-clause-begins
returns-in-Leave-clause-begins g c = λ plan own seconds of users.
    subst (λ x. BeginsReading (view_of g.D.Disk.seen g.D.Disk.faults g.D.Disk.clock) plan own seconds (call_seen x) c.args.node.now c.args.disk.now c.leave_at.new.node c.args.disk.now c.leave_at.result) (sym c.in-Leave.is)
    (left_begins (view_of g.D.Disk.seen g.D.Disk.faults g.D.Disk.clock) plan own seconds c.args.node.now c.leave_at.new.node c.args.disk.now _ _ _ c.leave_at.result of c.leave_at.ensures.leaves)
