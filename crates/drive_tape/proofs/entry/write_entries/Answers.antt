use Rattle.std.proofs.lemmas.Result.{err_from_is_err_and}
use Rattle.std.proofs.Common.{◌∙◌, ◌<◌, length, refl, arith}
use Rattle.std.proofs.lemmas.Option.{slice_get_read}
use Rattle.drive_tape.proofs.Writes.{stops_before, stops_within}
use Rattle.drive_tape.proofs.entry.write_entries.Goals as goal

pub returns-in_err-line-clause-written : goal.returns-in_err-line-clause-written
returns-in_err-line-clause-written g c =
    let p = err_from_is_err_and c.from_residual.result c.from_residual.ensures.1 in
    let within : c.loop-entry.entry-index < length c.args.entries.now = omega (arith, c.loop-entry-test.true) in
    rw p.1 (stops_before _ _ c.loop-entry.entry-index c.args.entries.now p.0 _ (slice_get_read _ _ _ _ refl within c.entry-item.is) c.loop-entry.invariant.written)

pub returns-in_err-write_all-clause-written : goal.returns-in_err-write_all-clause-written
returns-in_err-write_all-clause-written g c =
    let p = err_from_is_err_and c.from_residual-in_err-write_all.result c.from_residual-in_err-write_all.ensures.1 in
    let within : c.loop-entry.entry-index < length c.args.entries.now = omega (arith, c.loop-entry-test.true) in
    let did = c.in_err-write_all.ensures.octets in
    rw p.1 (stops_within _ _ _ c.loop-entry.entry-index c.args.entries.now p.0 _ _ did.0 did.1 (slice_get_read _ _ _ _ refl within c.entry-item.is) c.loop-entry.invariant.written (c.deref.ensures.value ∙ c.in_ok-line.ensures) did.2 did.3 did.4)
