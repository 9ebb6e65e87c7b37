use Rattle.std.proofs.Common.{◌∙◌, ap, arith, sym}
use Rattle.std.proofs.lemmas.Result.{err_from_is_err_and}
use Rattle.node_store.specs.Disks.{view_of}
use Rattle.cluster_world.specs.Books.{entries_seen}
use Rattle.cluster_world.specs.Installs.{installs_in}
use Rattle.cluster_world.specs.Worlds.{state_with}
use Rattle.cluster_world.specs.declared.step.Step.TheVariants as step
use Rattle.cluster_world.proofs.Same.{none_done}
use Rattle.cluster_world.proofs.Asked.{same_book}
use Rattle.cluster_world.proofs.Installs.{none_added, nobody_added, entry_added, did_alike, settled_alike}
use Rattle.cluster_world.proofs.steps.post.post_letter.Goals as goal

pub returns-in_default-clause-room : goal.returns-in_default-clause-room
returns-in_default-clause-room g c = omega (arith, c.requires.room, c.hand_letter.ensures.spare)

pub returns-in_default-clause-installs : goal.returns-in_default-clause-installs
returns-in_default-clause-installs g c =
    nobody_added (step.Post c.args.number c.args.keep) c.args.flying.now.flights c.args.nodes.now.lives.items c.hand_letter.new.nodes.lives.items c.args.book.now c.hand_letter.new.book
    (sym c.hearer_of_install.ensures ∙ c.in_default.is) c.hand_letter.ensures.installs

pub returns-in_err-reserve-clause-did : goal.returns-in_err-reserve-clause-did
returns-in_err-reserve-clause-did g c = λ seconds.
    let on = (view_of g.D.Disk.seen g.D.Disk.faults g.D.Disk.clock) in
    let s = state_with c.args.nodes.now c.args.flying.now seconds c.args.book.now in
    let p = err_from_is_err_and c.from_residual.result c.from_residual.ensures.1 in
    rw (p.1, p.2) (same_book on _ (step.Post c.args.number c.args.keep) c.args.nodes.now c.args.nodes.now c.args.flying.now seconds c.args.book.now c.reserve.new.self c.reserve.ensures.entries (none_done on s (step.Post c.args.number c.args.keep)))

pub returns-in_err-reserve-clause-installs : goal.returns-in_err-reserve-clause-installs
returns-in_err-reserve-clause-installs g c = none_added (step.Post c.args.number c.args.keep) c.args.flying.now.flights c.args.nodes.now.lives.items c.args.book.now c.reserve.new.self (ap installs_in c.reserve.ensures.entries)

pub returns-clause-did : goal.returns-clause-did
returns-clause-did g c = λ seconds.
    did_alike c.args.nodes.now c.hand_letter-said.new.nodes c.args.flying.now c.hand_letter-said.new.flying seconds c.args.book.now c.reserve.new.self c.hand_letter-said.new.book c.enter_install.new.book
    (ap entries_seen c.reserve.ensures.entries) c.enter_install.ensures.seen (view_of g.D.Disk.seen g.D.Disk.faults g.D.Disk.clock) c.hand_letter-said.result (step.Post c.args.number c.args.keep) (c.hand_letter-said.ensures.did seconds)

pub returns-clause-settled : goal.returns-clause-settled
returns-clause-settled g c = λ seconds.
    settled_alike c.args.nodes.now c.hand_letter-said.new.nodes c.args.flying.now c.hand_letter-said.new.flying seconds c.args.book.now c.reserve.new.self c.hand_letter-said.new.book c.enter_install.new.book
    (ap entries_seen c.reserve.ensures.entries) c.enter_install.ensures.seen g.D.Disk.settled (c.hand_letter-said.ensures.settled seconds)

pub returns-clause-installs : goal.returns-clause-installs
returns-clause-installs g c =
    entry_added (step.Post c.args.number c.args.keep) c.args.flying.now.flights c.args.nodes.now.lives.items c.hand_letter-said.new.nodes.lives.items c.in-Some.node c.epoch_at-was.result c.args.book.now c.hand_letter-said.new.book c.enter_install.new.book
    (sym c.hearer_of_install.ensures ∙ c.in-Some.is) c.epoch_at-was.ensures (c.hand_letter-said.ensures.installs ∙ ap installs_in c.reserve.ensures.entries) c.enter_install.ensures.installs
