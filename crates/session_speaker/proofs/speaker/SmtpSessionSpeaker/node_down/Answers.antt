use Rattle.std.proofs.lemmas.Result.{on_ok_weaker}
use Rattle.call_tickets.specs.Moves.Due.{Nothing}
use Rattle.session_speaker.proofs.speaker.SmtpSessionSpeaker.node_down.Goals as goal

pub returns : goal.returns
returns c = record {
  fell = on_ok_weaker c.node_down.result (λ fell. (fell.0, fell.1, λ plain follows on. fell.2 plain Nothing follows on)) c.node_down.ensures.ok;
}
