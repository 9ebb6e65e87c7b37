use Rattle.std.proofs.Common.{◌+◌, ◌∙◌, List, ℕ, arith, subst, sym}
use Rattle.std.proofs.lemmas.Result.{err_from_is_err_and}
use Rattle.drive_tape.proofs.Replies.{written_next, written_last, written_none, written_part, all_taken}
use Rattle.std.specs.Io.KnownBytes.{Appends}
use Rattle.drive_tape.specs.Replies.{HasWritten}
use Rattle.drive_tape.proofs.reply.write_lines.Goals as goal

pub returns-in_err-line-clause-written : goal.returns-in_err-line-clause-written
returns-in_err-line-clause-written g c lines all whole =
    let p = err_from_is_err_and c.from_residual.result c.from_residual.ensures.1 in
    rw p.1 (written_none _ _ _ _ _ p.0 c.in-Some.at (c.loop-at.invariant.so_far lines all whole) c.in-Some.ensures.found)

pub returns-in_err-write_all-clause-written : goal.returns-in_err-write_all-clause-written
returns-in_err-write_all-clause-written g c lines all whole =
    let p = err_from_is_err_and c.from_residual-in_err-write_all.result c.from_residual-in_err-write_all.ensures.1 in
    let did = c.in_err-write_all.ensures.octets in
    rw p.1 (written_part _ _ _ _ _ p.0 _ c.in-Some.at did.0 did.1 (c.loop-at.invariant.so_far lines all whole) c.in-Some.ensures.found did.2
    (sym (c.deref.ensures.value ∙ c.in_ok-line.ensures) ∙ did.3) did.4)

pub loop-at-preserved : goal.loop-at-preserved
loop-at-preserved g c = record {
  so_far = λ lines all whole.
      subst (λ (l : List ℕ). HasWritten (g.K.Sink.contents c.args.sink.now) (g.K.Sink.contents c.write_all.new.sink) c.args.session lines l)
      (sym (all_taken (c.in-Some.at + 2) c.loop-at.rest.now))
      (written_next _ _ _ _ _ _ c.in-Some.at (c.loop-at.invariant.so_far lines all whole) c.in-Some.ensures.found
      (subst (Appends (g.K.Sink.contents c.loop-at.sink) (g.K.Sink.contents c.write_all.new.sink)) (c.deref.ensures.value ∙ c.in_ok-line.ensures) c.in_ok-write_all.ensures.octets));
  later = omega (arith, c.loop-at.invariant.later, c.in_ok-write_all.ensures.cause.later);
}

pub returns-clause-written : goal.returns-clause-written
returns-clause-written g c lines all whole = written_last _ _ _ _ _ (c.loop-at.invariant.so_far lines all whole) c.in_default.ensures.found tt
