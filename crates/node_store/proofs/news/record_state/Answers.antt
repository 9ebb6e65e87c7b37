use Rattle.std.proofs.Common.{nat_eq}
use Rattle.std.proofs.lemmas.Result.{err_from_is_err_and}
use Rattle.mail_model.specs.Record.Record.{Stated, Retired}
use Rattle.object_model.specs.Sets.{without_node}
use Rattle.mail_base.specs.Seen.{key_seen}
use Rattle.node_store.specs.Disks.{view_of}
use Rattle.node_store.proofs.Journals.{state_stops, retired_stops, retired_appended, fails_after}
use Rattle.node_store.proofs.news.record_state.Goals as goal

pub returns-in_err-record_stated-clause-written : goal.returns-in_err-record_stated-clause-written
returns-in_err-record_stated-clause-written g c =
    let p = err_from_is_err_and c.from_residual.result c.from_residual.ensures.1 in
    let w = c.in_err-record_stated.ensures.written in
    rw (p.1, p.2) (
      state_stops (view_of g.D.Disk.seen g.D.Disk.faults g.D.Disk.clock) _ _ _ (nat_eq (without_node c.args.state.now.targets c.args.own) 0)
          (Stated (key_seen c.args.key.now) c.args.state.now) (Retired (key_seen c.args.key.now) c.args.state.now) w.0,
      w.1,
    )

pub returns-in_err-record_retired-clause-written : goal.returns-in_err-record_retired-clause-written
returns-in_err-record_retired-clause-written g c =
    let p = err_from_is_err_and c.from_residual-in_err-record_retired.result c.from_residual-in_err-record_retired.ensures.1 in
    let first = c.in_ok-record_stated.ensures.written in
    let w = c.in_err-record_retired.ensures.written in
    rw (p.1, p.2) (
      retired_stops (view_of g.D.Disk.seen g.D.Disk.faults g.D.Disk.clock) _ _ _ _ _ (nat_eq (without_node c.args.state.now.targets c.args.own) 0)
          (Stated (key_seen c.args.key.now) c.args.state.now) (Retired (key_seen c.args.key.now) c.args.state.now) c.if-is_alone.ensures first w.0,
      fails_after _ _ _ _ first.quiet w.1,
    )

pub returns-in_ok-record_retired-clause-written : goal.returns-in_ok-record_retired-clause-written
returns-in_ok-record_retired-clause-written g c =
    retired_appended (view_of g.D.Disk.seen g.D.Disk.faults g.D.Disk.clock) _ _ _ _ _ _ (nat_eq (without_node c.args.state.now.targets c.args.own) 0)
    (Stated (key_seen c.args.key.now) c.args.state.now) (Retired (key_seen c.args.key.now) c.args.state.now) c.if-is_alone.ensures
    c.in_ok-record_stated.ensures.written c.in_ok-record_retired.ensures.written
