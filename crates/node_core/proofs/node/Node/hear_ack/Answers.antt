use Rattle.std.proofs.Common.{◌≡◌, ℕ, List, None, refl, sym, ap, subst, ◌∙◌, arith}
use Rattle.std.specs.FinMap as fin
use Rattle.std.proofs.lemmas.Result.{err_from_is_err_and}
use Rattle.object_model.specs.Letters.{Letter}
use Rattle.object_model.specs.Letters.Body.{Retire}
use Rattle.mail_base.specs.Seen.{key_seen}
use Rattle.update_log.specs.Answers.{answer_at}
use Rattle.update_log.specs.declared.logged.Acked.TheVariants.{Cleared, Emptied, Other}
use Rattle.replica_push.proofs.Follows.{acks_follow}
use Rattle.cluster_model.specs.Rules.{hear_ack, receivers, letters_to}
use Rattle.cluster_model.specs.Cluster.{epoch_of}
use Rattle.node_store.specs.Disks.{view_of}
use Rattle.node_store.specs.Changes.{acked_by}
use Rattle.node_core.specs.Nodes.{node_seen}
use Rattle.node_core.specs.Spelling.{AllCanBeTaken}
use Rattle.node_core.proofs.Doing.{did_by, stopped_by, all_stopped}
use Rattle.node_core.proofs.Acking.{out_of, ack_out, acked_fit}
use Rattle.node_core.proofs.Sending.{none_fit, letters_fit}
use Rattle.node_core.proofs.node.Node.hear_ack.Goals as goal

pub returns-in_err-acknowledged-clause-wrote : goal.returns-in_err-acknowledged-clause-wrote
returns-in_err-acknowledged-clause-wrote g c =
    let on = view_of g.D.Disk.seen g.D.Disk.faults g.D.Disk.clock in
    let p = err_from_is_err_and c.from_residual.result c.from_residual.ensures.1 in
    let old = c.args.self.now in
    let key = key_seen c.args.key.now in
    let state = c.args.state.now in
    let w = c.in_err-acknowledged.ensures.wrote in
    rw (p.1, p.2) (
      stopped_by on (λ node disk. hear_ack old.store.own old.shape.nodes node disk key state c.args.from) (acked_by key state c.args.from) old c.args.disk.now _ w.0
          (λ records k. (acks_follow old.store.own old.shape.nodes (node_seen old) records key state c.args.from).disk_is)
          (λ records k. acked_fit key state (answer_at state c.args.from (fin.get old.store.log key)) records c.requires.object k.fit),
      w.1,
    )

pub returns-in_err-retirement-in-Emptied-clause-wrote : goal.returns-in_err-retirement-in-Emptied-clause-wrote
returns-in_err-retirement-in-Emptied-clause-wrote g c =
    let on = view_of g.D.Disk.seen g.D.Disk.faults g.D.Disk.clock in
    let p = err_from_is_err_and c.from_residual-in_err-retirement-in-Emptied.result c.from_residual-in_err-retirement-in-Emptied.ensures.1 in
    let old = c.args.self.now in
    let key = key_seen c.args.key.now in
    let state = c.args.state.now in
    let d = c.in_ok-acknowledged.ensures.wrote in
    rw (p.1, p.2) (
      all_stopped on (λ node disk. hear_ack old.store.own old.shape.nodes node disk key state c.args.from) (acked_by key state c.args.from) old c.args.disk.now _ _ d
          (λ records k. (acks_follow old.store.own old.shape.nodes (node_seen old) records key state c.args.from).disk_is),
      omega (arith, d.appends.quiet),
    )

pub returns-in_ok-retirement-in-Emptied-clause-wrote : goal.returns-in_ok-retirement-in-Emptied-clause-wrote
returns-in_ok-retirement-in-Emptied-clause-wrote g c =
    let on = view_of g.D.Disk.seen g.D.Disk.faults g.D.Disk.clock in
    let old = c.args.self.now in
    let key = key_seen c.args.key.now in
    let state = c.args.state.now in
    let d = c.in_ok-acknowledged.ensures.wrote in
    let emptied : answer_at state c.args.from (fin.get old.store.log key) ≡ Emptied = sym c.in_ok-acknowledged.ensures.answer ∙ c.in-Emptied.is in
    let sent = subst (λ (n : ℕ). c.in_ok-retirement-in-Emptied.field-0 ≡ letters_to n (epoch_of (node_seen old)) None (receivers n state.targets old.shape.nodes) (Retire key state)) d.own c.in_ok-retirement-in-Emptied.ensures in
    did_by on (λ node disk. hear_ack old.store.own old.shape.nodes node disk key state c.args.from) (acked_by key state c.args.from) old c.args.disk.now _ _ _ d
    (λ records k. (acks_follow old.store.own old.shape.nodes (node_seen old) records key state c.args.from).disk_is)
    (λ records k. (acks_follow old.store.own old.shape.nodes (node_seen old) records key state c.args.from).node_is)
    (λ records k. ack_out old.store.own old.shape.nodes (node_seen old) records key state c.args.from (fin.get old.store.log key)
    ∙ ap (out_of old.store.own old.shape.nodes (node_seen old) key state) emptied ∙ sym sent)
    (record { boot = refl; shape = refl; tickets = λ own boot confirm is. is }) c.requires.works.whole
    (subst AllCanBeTaken (sym sent) (letters_fit old.store.own (epoch_of (node_seen old)) None (receivers old.store.own state.targets old.shape.nodes) (Retire key state) c.requires.object))

pub returns-in-Cleared-clause-wrote : goal.returns-in-Cleared-clause-wrote
returns-in-Cleared-clause-wrote g c =
    let on = view_of g.D.Disk.seen g.D.Disk.faults g.D.Disk.clock in
    let old = c.args.self.now in
    let key = key_seen c.args.key.now in
    let state = c.args.state.now in
    let none : answer_at state c.args.from (fin.get old.store.log key) ≡ Cleared = sym c.in_ok-acknowledged.ensures.answer ∙ c.in-Cleared.is in
    did_by on (λ node disk. hear_ack old.store.own old.shape.nodes node disk key state c.args.from) (acked_by key state c.args.from) old c.args.disk.now _ _ _ c.in_ok-acknowledged.ensures.wrote
    (λ records k. (acks_follow old.store.own old.shape.nodes (node_seen old) records key state c.args.from).disk_is)
    (λ records k. (acks_follow old.store.own old.shape.nodes (node_seen old) records key state c.args.from).node_is)
    (λ records k. ack_out old.store.own old.shape.nodes (node_seen old) records key state c.args.from (fin.get old.store.log key)
    ∙ ap (out_of old.store.own old.shape.nodes (node_seen old) key state) none ∙ sym c.no_letters.ensures)
    (record { boot = refl; shape = refl; tickets = λ own boot confirm is. is }) c.requires.works.whole (subst AllCanBeTaken (sym c.no_letters.ensures) none_fit)

pub returns-in-Other-clause-wrote : goal.returns-in-Other-clause-wrote
returns-in-Other-clause-wrote g c =
    let on = view_of g.D.Disk.seen g.D.Disk.faults g.D.Disk.clock in
    let old = c.args.self.now in
    let key = key_seen c.args.key.now in
    let state = c.args.state.now in
    let none : answer_at state c.args.from (fin.get old.store.log key) ≡ Other = sym c.in_ok-acknowledged.ensures.answer ∙ c.in-Other.is in
    did_by on (λ node disk. hear_ack old.store.own old.shape.nodes node disk key state c.args.from) (acked_by key state c.args.from) old c.args.disk.now _ _ _ c.in_ok-acknowledged.ensures.wrote
    (λ records k. (acks_follow old.store.own old.shape.nodes (node_seen old) records key state c.args.from).disk_is)
    (λ records k. (acks_follow old.store.own old.shape.nodes (node_seen old) records key state c.args.from).node_is)
    (λ records k. ack_out old.store.own old.shape.nodes (node_seen old) records key state c.args.from (fin.get old.store.log key)
    ∙ ap (out_of old.store.own old.shape.nodes (node_seen old) key state) none ∙ sym c.no_letters-in-Other.ensures)
    (record { boot = refl; shape = refl; tickets = λ own boot confirm is. is }) c.requires.works.whole (subst AllCanBeTaken (sym c.no_letters-in-Other.ensures) none_fit)
