use Rattle.std.proofs.Common.{subst}
use Rattle.std.proofs.lemmas.Result.{on_ok_weaker}
use Rattle.call_tickets.specs.Moves.Due.{Nothing}
use Rattle.drive_tape.specs.declared.talker.Talker.{Talker}
use Rattle.drive_tape.specs.Speakers.{Matches}
use Rattle.drive_tape.proofs.talker.Talker.node_down.Goals as goal

pub returns-in-Smtp : goal.returns-in-Smtp
returns-in-Smtp c = record {
  fell = on_ok_weaker c.node_down.result (λ fell. (
    fell.0,
    fell.1,
    λ plain follows on.
        let At : Talker → Type 0 = λ t. Matches t plain Nothing in
        fell.2 plain Nothing (subst At c.in-Smtp.is follows) on,
  )) c.node_down.ensures.ok;
}
