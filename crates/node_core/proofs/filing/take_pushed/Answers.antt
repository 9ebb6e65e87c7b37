use Rattle.std.proofs.Common.{ℕ, subst}
use Rattle.std.proofs.lemmas.Result.{err_from_is_err_and}
use Rattle.mail_base.specs.Seen.{key_seen}
use Rattle.cluster_model.specs.Store.{Update, take_one}
use Rattle.node_store.specs.Disks.{view_of}
use Rattle.node_store.specs.Writes.{Done, WorkIsCutShort}
use Rattle.node_store.proofs.Journals.{fails_after}
use Rattle.node_store.proofs.Grown.{one_grows}
use Rattle.node_store.proofs.Works.{done_more, stopped_more, stopped_before}
use Rattle.node_core.specs.Filed.{with_pushed_octets}
use Rattle.node_core.proofs.filing.take_pushed.Goals as goal

pub returns-in_err-store_pushed-clause-wrote : goal.returns-in_err-store_pushed-clause-wrote
returns-in_err-store_pushed-clause-wrote g c =
    let on = view_of g.D.Disk.seen g.D.Disk.faults g.D.Disk.clock in
    let p = err_from_is_err_and c.from_residual.result c.from_residual.ensures.1 in
    let w = c.in_err-store_pushed.ensures.wrote in
    let update : Update = record { key = key_seen c.args.key.now; state = c.args.state.now } in
    rw (p.1, p.2) (
      stopped_before on (with_pushed_octets (key_seen c.args.key.now) c.args.octets.now) (take_one c.args.store.now.own update) c.args.store.now c.args.disk.now _ (one_grows c.args.store.now.own update) w.0,
      w.1,
    )

pub returns-in_err-take-clause-wrote : goal.returns-in_err-take-clause-wrote
returns-in_err-take-clause-wrote g c =
    let on = view_of g.D.Disk.seen g.D.Disk.faults g.D.Disk.clock in
    let p = err_from_is_err_and c.from_residual-in_err-take.result c.from_residual-in_err-take.ensures.1 in
    let w = c.in_err-take.ensures.wrote in
    let first = c.in_ok-store_pushed.ensures.wrote in
    let update : Update = record { key = key_seen c.args.key.now; state = c.args.state.now } in
    rw (p.1, p.2) (
      stopped_more on (with_pushed_octets (key_seen c.args.key.now) c.args.octets.now) (take_one c.args.store.now.own update) c.args.store.now c.args.disk.now c.store_pushed.new.store c.store_pushed.new.disk
          c.take.new.disk first
          (subst (λ (n : ℕ). WorkIsCutShort on (take_one n update) c.store_pushed.new.store c.store_pushed.new.disk c.take.new.disk) first.own w.0),
      fails_after _ _ _ _ first.appends.quiet w.1,
    )

pub returns-clause-wrote : goal.returns-clause-wrote
returns-clause-wrote g c =
    let on = view_of g.D.Disk.seen g.D.Disk.faults g.D.Disk.clock in
    let first = c.in_ok-store_pushed.ensures.wrote in
    let update : Update = record { key = key_seen c.args.key.now; state = c.args.state.now } in
    done_more on (with_pushed_octets (key_seen c.args.key.now) c.args.octets.now) (take_one c.args.store.now.own update) c.args.store.now c.args.disk.now c.store_pushed.new.store c.store_pushed.new.disk
    c.take.new.self c.take.new.disk first
    (subst (λ (n : ℕ). Done on (take_one n update) c.store_pushed.new.store c.store_pushed.new.disk c.take.new.self c.take.new.disk) first.own c.in_ok-take.ensures.wrote)
