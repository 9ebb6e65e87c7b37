use Rattle.std.proofs.Common.{◌∙◌, ap, refl}
use Rattle.std.proofs.lemmas.Result.{err_from_is_err_and}
use Rattle.node_store.specs.Disks.{view_of}
use Rattle.cluster_world.specs.Books.{entries_seen}
use Rattle.cluster_world.specs.Installs.{installs_in}
use Rattle.cluster_world.specs.Worlds.{state_with}
use Rattle.cluster_world.specs.declared.step.Step.TheVariants as step
use Rattle.cluster_world.proofs.Same.{none_done}
use Rattle.cluster_world.proofs.Asked.{same_book}
use Rattle.cluster_world.proofs.Installs.{none_added, entry_added, did_alike, settled_alike}
use Rattle.cluster_world.proofs.steps.conclude.conclude_node.Goals as goal

pub returns-in_err-reserve-clause-did : goal.returns-in_err-reserve-clause-did
returns-in_err-reserve-clause-did g c = λ seconds.
    let on = (view_of g.D.Disk.seen g.D.Disk.faults g.D.Disk.clock) in
    let s = state_with c.args.nodes.now c.args.flying.now seconds c.args.book.now in
    let p = err_from_is_err_and c.from_residual.result c.from_residual.ensures.1 in
    rw (p.1, p.2) (same_book on _ (step.Conclude c.args.node) c.args.nodes.now c.args.nodes.now c.args.flying.now seconds c.args.book.now c.reserve.new.self c.reserve.ensures.entries (none_done on s (step.Conclude c.args.node)))

pub returns-in_err-reserve-clause-installs : goal.returns-in_err-reserve-clause-installs
returns-in_err-reserve-clause-installs g c = none_added (step.Conclude c.args.node) c.args.flying.now.flights c.args.nodes.now.lives.items c.args.book.now c.reserve.new.self (ap installs_in c.reserve.ensures.entries)

pub returns-clause-did : goal.returns-clause-did
returns-clause-did g c = λ seconds.
    did_alike c.args.nodes.now c.conclude_group-said.new.nodes c.args.flying.now c.conclude_group-said.new.flying seconds c.args.book.now c.reserve.new.self c.conclude_group-said.new.book c.enter_install.new.book
    (ap entries_seen c.reserve.ensures.entries) c.enter_install.ensures.seen (view_of g.D.Disk.seen g.D.Disk.faults g.D.Disk.clock) c.conclude_group-said.result (step.Conclude c.args.node) (c.conclude_group-said.ensures.did seconds)

pub returns-clause-settled : goal.returns-clause-settled
returns-clause-settled g c = λ seconds.
    settled_alike c.args.nodes.now c.conclude_group-said.new.nodes c.args.flying.now c.conclude_group-said.new.flying seconds c.args.book.now c.reserve.new.self c.conclude_group-said.new.book c.enter_install.new.book
    (ap entries_seen c.reserve.ensures.entries) c.enter_install.ensures.seen g.D.Disk.settled (c.conclude_group-said.ensures.settled seconds)

pub returns-clause-installs : goal.returns-clause-installs
returns-clause-installs g c =
    entry_added (step.Conclude c.args.node) c.args.flying.now.flights c.args.nodes.now.lives.items c.conclude_group-said.new.nodes.lives.items c.args.node c.epoch_at-was.result c.args.book.now c.conclude_group-said.new.book c.enter_install.new.book
    refl c.epoch_at-was.ensures (c.conclude_group-said.ensures.installs ∙ ap installs_in c.reserve.ensures.entries) c.enter_install.ensures.installs
