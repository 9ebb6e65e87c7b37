use Rattle.std.proofs.Common.{◌≡◌, ◌≤◌, ℕ, List}
use Rattle.call_tickets.specs.Passes.{known_to}
use Rattle.session_gate.specs.Connections.{Connection, HasCome, GoesOn, Talks}
use Rattle.session_gate.proofs.talk.hear.Given as goal

-- the session has moved, and may move on
abbrev pub invariant-loop-stop : goal.invariant-loop-stop
invariant-loop-stop g l = record {
  belongs : g.E.Desk.belongs l.fn.desk l.pass;
  heard : (line : Connection) (fed wrote : List ℕ) → line.plan ≡ l.fn.plan
      → HasCome line (Talks (g.T.Speaker.follows l.fn.talker)) fed wrote l.fn.out.items (known_to (g.E.Desk.own l.fn.pass) (g.E.Desk.counts l.fn.pass))
      → GoesOn line (Talks (g.T.Speaker.follows l.talker)) fed wrote (g.K.Sink.contents l.fn.sink) (g.K.Sink.contents l.sink) l.out.items (known_to (g.E.Desk.own l.pass) (g.E.Desk.counts l.pass));
  later : g.K.Sink.faults l.fn.sink ≤ g.K.Sink.faults l.sink;
}

-- it has less to do with each move
abbrev pub decreases-loop-stop : goal.decreases-loop-stop
decreases-loop-stop g l = g.T.Speaker.left l.talker
