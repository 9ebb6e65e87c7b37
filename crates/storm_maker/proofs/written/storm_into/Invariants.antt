use Rattle.std.proofs.Common.{◌≤◌, ◌+◌, ◌-◌}
use Rattle.storm_maker.specs.Tape.{storm_tape, rounds_from}
use Rattle.storm_maker.proofs.Writing.{Follows}
use Rattle.storm_maker.proofs.written.storm_into.Given as goal

-- what is left of the tape are the rounds that are left, and its end
abbrev pub invariant-loop-round : goal.invariant-loop-round
invariant-loop-round g l = record {
  octets : Follows (g.K.Sink.contents l.fn.sink) (g.K.Sink.contents l.sink) (storm_tape l.number l.rounds) (rounds_from (l.rounds - l.round) l.down l.session l.draws);
  few : l.session ≤ l.round + 1;
  later : g.K.Sink.faults l.fn.sink ≤ g.K.Sink.faults l.sink;
}
