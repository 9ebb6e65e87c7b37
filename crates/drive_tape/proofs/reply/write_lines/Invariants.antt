use Rattle.std.proofs.Common.{◌≡◌, ◌≤◌, List, ℕ, All, flat_map, length}
use Rattle.mail_model.specs.Lines.{HasNoCrlf, sent_line}
use Rattle.drive_tape.specs.Replies.{HasWritten}
use Rattle.drive_tape.proofs.reply.write_lines.Given as goal

abbrev pub invariant-loop-at : goal.invariant-loop-at
invariant-loop-at g l = record {
  so_far : (lines : List (List ℕ)) → All HasNoCrlf lines → l.fn.reply ≡ flat_map sent_line lines
      → HasWritten (g.K.Sink.contents l.fn.sink) (g.K.Sink.contents l.sink) l.session lines l.rest;
  later : g.K.Sink.faults l.fn.sink ≤ g.K.Sink.faults l.sink;
}

abbrev pub decreases-loop-at : goal.decreases-loop-at
decreases-loop-at g l = length l.rest
