use Rattle.std.proofs.Common.{rules, ◌≡◌, ℕ, ◌<◌, ◌^◌, List, ◌++◌, length, Option, sym, subst, ◌∙◌, arith, length-append}
use Rattle.std.proofs.lemmas.Result.{err_from_is_err_and}
use Rattle.io_edge.proofs.Passing.{keeps_none}
use Rattle.disk_journal.specs.Journal.{TellsJournal, end_of}
use Rattle.disk_journal.proofs.Images.{keeps_adds, if_told, told_after, told_all_after}
use Rattle.disk_journal.proofs.journal.Journal.append.Goals as goal

pub returns-in_err-octets-clause-images : goal.returns-in_err-octets-clause-images
returns-in_err-octets-clause-images g c =
    if_told (g.D.Disk.seen c.args.disk.now) (keeps_adds g.D.Disk.clock _ _ _ _ (keeps_none g.D.Disk.clock c.args.disk.now))

pub returns-in_default-clause-images : goal.returns-in_default-clause-images
returns-in_default-clause-images g c =
    if_told (g.D.Disk.seen c.args.disk.now) (keeps_adds g.D.Disk.clock _ _ _ _ (keeps_none g.D.Disk.clock c.args.disk.now))

pub returns-in_err-reserve-clause-images : goal.returns-in_err-reserve-clause-images
returns-in_err-reserve-clause-images g c =
    if_told (g.D.Disk.seen c.args.disk.now) (keeps_adds g.D.Disk.clock _ _ _ _ c.reserve.ensures.images)

pub returns-in_err-write_behind_gate-clause-appended : goal.returns-in_err-write_behind_gate-clause-appended
returns-in_err-write_behind_gate-clause-appended g c = λ node payloads stands.
    let payload = c.args.head.now ++ c.args.body.now in
    let small : length payload < 2 ^ 32 = omega (arith, length-append c.args.head.now c.args.body.now, c.if-head-body-gt-LARGEST.false) in
    let p = err_from_is_err_and c.from_residual-in_err-write_behind_gate.result c.from_residual-in_err-write_behind_gate.ensures.1 in
    rw (p.1, p.2) (c.in_err-write_behind_gate.ensures.gated node payloads payload (c.deref.ensures.value ∙ c.in_ok-octets.ensures.octets) small
    (subst (λ (o : Option (List ℕ)). TellsJournal o node payloads (end_of c.args.self.now)) (sym c.reserve.ensures.seen) stands))

pub returns-in_err-write_behind_gate-clause-images : goal.returns-in_err-write_behind_gate-clause-images
returns-in_err-write_behind_gate-clause-images g c =
    let payload = c.args.head.now ++ c.args.body.now in
    let small : length payload < 2 ^ 32 = omega (arith, length-append c.args.head.now c.args.body.now, c.if-head-body-gt-LARGEST.false) in
    told_after g.D.Disk.clock _ _ _ _ _ _ _ c.reserve.ensures.seen c.reserve.ensures.images
    (c.write_behind_gate.ensures.images payload (c.deref.ensures.value ∙ c.in_ok-octets.ensures.octets) small)

pub returns-clause-images : goal.returns-clause-images
returns-clause-images g c =
    let payload = c.args.head.now ++ c.args.body.now in
    let small : length payload < 2 ^ 32 = omega (arith, length-append c.args.head.now c.args.body.now, c.if-head-body-gt-LARGEST.false) in
    told_after g.D.Disk.clock _ _ _ _ _ _ _ c.reserve.ensures.seen c.reserve.ensures.images
    (c.write_behind_gate.ensures.images payload (c.deref.ensures.value ∙ c.in_ok-octets.ensures.octets) small)

pub returns-clause-all : goal.returns-clause-all
returns-clause-all g c =
    let payload = c.args.head.now ++ c.args.body.now in
    let small : length payload < 2 ^ 32 = omega (arith, length-append c.args.head.now c.args.body.now, c.if-head-body-gt-LARGEST.false) in
    let size : length c.deref.result.now ≡ c.len-size.result = search rules in
    let all = c.in_ok-write_behind_gate.ensures.all payload (c.deref.ensures.value ∙ c.in_ok-octets.ensures.octets) small in
    told_all_after g.D.Disk.clock _ _ _ _ _ _ _ _ c.reserve.ensures.seen c.reserve.ensures.images (rw size at all)
