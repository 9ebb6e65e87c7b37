use Rattle.std.proofs.Common.{◌≡◌, ◌≤◌, [], length}
use Rattle.call_tickets.specs.Passes.{known_to}
use Rattle.session_gate.specs.Connections.{Connection, HasCome, Talks, Rests}
use Rattle.session_gate.proofs.Listens.{Listens}
use Rattle.session_gate.proofs.converse.converse.Given as goal

-- what was taken was fed, and what was said to it was written
abbrev pub invariant-loop-room : goal.invariant-loop-room
invariant-loop-room g l = record {
  belongs : g.E.Desk.belongs l.fn.desk l.pass;
  listens : (line : Connection) → line.plan ≡ l.fn.plan → HasCome line (Talks (g.T.Speaker.follows l.fn.talker)) [] [] l.fn.out.items (known_to (g.E.Desk.own l.fn.pass) (g.E.Desk.counts l.fn.pass))
      → (l.out.items ≡ []) × Listens line (Rests (g.T.Speaker.follows l.talker)) (g.S.Source.left l.fn.source) (g.S.Source.left l.source) (g.K.Sink.contents l.fn.sink) (g.K.Sink.contents l.sink)
      (known_to (g.E.Desk.own l.pass) (g.E.Desk.counts l.pass)) l.room;
  source_later : g.S.Source.faults l.fn.source ≤ g.S.Source.faults l.source;
  sink_later : g.K.Sink.faults l.fn.sink ≤ g.K.Sink.faults l.sink;
  size : length l.piece ≡ 4096;
}

abbrev pub decreases-loop-room : goal.decreases-loop-room
decreases-loop-room g l = l.room
