use Rattle.std.proofs.Common.{subst}
use Rattle.std.specs.Prelude.{Ok}
use Rattle.smtp_wire.specs.Readers.{IsStep}
use Rattle.smtp_wire.specs.declared.reply_reader.Step.{Step}
use Rattle.smtp_wire.proofs.reply_state.ReplyReader.next.Goals as goal

pub returns-in-Waits : goal.returns-in-Waits
returns-in-Waits c octets h =
    subst (λ (s : Step). IsStep octets (Ok s) c.step.new.self) c.in-Waits.is (c.in_ok-step.ensures.is octets (c.loop-reply.invariant octets h))

pub returns-in-Given : goal.returns-in-Given
returns-in-Given c octets h =
    subst (λ (s : Step). IsStep octets (Ok s) c.step.new.self) c.in-Given.is (c.in_ok-step.ensures.is octets (c.loop-reply.invariant octets h))
