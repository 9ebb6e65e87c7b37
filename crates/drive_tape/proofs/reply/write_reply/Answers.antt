use Rattle.std.proofs.Common.{[], ◌∷◌, Err, subst}
use Rattle.std.proofs.lemmas.Result.{err_from_is_err_and}
use Rattle.mail_model.specs.Transcript.{Entry}
use Rattle.drive_tape.specs.Entries.{WritesEntries}
use Rattle.drive_tape.specs.declared.entry.WriteStop.{WriteStop}
use Rattle.drive_tape.proofs.Replies.{writes_part, writes_behind}
use Rattle.drive_tape.proofs.reply.write_reply.Goals as goal

pub returns-in_err-write_lines-clause-written : goal.returns-in_err-write_lines-clause-written
returns-in_err-write_lines-clause-written g c lines all whole =
    let p = err_from_is_err_and c.from_residual.result c.from_residual.ensures.1 in
    rw p.1 (writes_part _ _ _ _ p.0 (c.in_err-write_lines.ensures.written lines all whole))

pub returns-in_err-write_entries-clause-written : goal.returns-in_err-write_entries-clause-written
returns-in_err-write_entries-clause-written g c lines all whole =
    let p = err_from_is_err_and c.from_residual-in_err-write_entries.result c.from_residual-in_err-write_entries.ensures.1 in
    rw (p.1, c.if-has_ended.true) (writes_behind _ _ _ _ _ (Err p.0) (c.in_ok-write_lines.ensures.written lines all whole)
    (subst (λ (e : Entry). WritesEntries {E = WriteStop} (g.K.Sink.contents c.write_lines.new.sink) (g.K.Sink.contents c.write_entries.new.sink) (Err p.0) (e ∷ [])) c.in_ok-closed.ensures
    c.in_err-write_entries.ensures.written))
