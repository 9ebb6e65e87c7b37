use Rattle.std.proofs.Common.{subst, ◌∙◌}
use Rattle.std.proofs.lemmas.Result.{err_from_is_err_and}
use Rattle.std.specs.Prelude.{Ok}
use Rattle.pop_wire.specs.Readers.{IsStep}
use Rattle.pop_wire.specs.declared.reply_reader.Step.{Step}
use Rattle.pop_wire.proofs.Taking.{fault_next}
use Rattle.pop_wire.proofs.reply_state.ReplyReader.next.Goals as goal

pub loop-reply-preserved : goal.loop-reply-preserved
loop-reply-preserved c = (
  λ several octets h.
      subst (λ (s : Step). IsStep several octets (Ok s) c.step.new.self) c.in-More.is (c.in_ok-step.ensures.is several octets (c.loop-reply.invariant.0 several octets h)),
  c.step.ensures.same ∙ c.loop-reply.invariant.1,
)

pub returns-in_err-step-clause-is : goal.returns-in_err-step-clause-is
returns-in_err-step-clause-is c several octets h =
    let p = err_from_is_err_and c.from_residual.result c.from_residual.ensures.1 in
    let fault = c.in_err-step.field-0.0 in
    rw (p.1, p.2) (fault_next several octets fault c.step.new.self (c.in_err-step.ensures.is several octets (c.loop-reply.invariant.0 several octets h)))

pub returns-in-Waits-clause-is : goal.returns-in-Waits-clause-is
returns-in-Waits-clause-is c several octets h =
    subst (λ (s : Step). IsStep several octets (Ok s) c.step.new.self) c.in-Waits.is (c.in_ok-step.ensures.is several octets (c.loop-reply.invariant.0 several octets h))

pub returns-in-Given-clause-is : goal.returns-in-Given-clause-is
returns-in-Given-clause-is c several octets h =
    subst (λ (s : Step). IsStep several octets (Ok s) c.step.new.self) c.in-Given.is (c.in_ok-step.ensures.is several octets (c.loop-reply.invariant.0 several octets h))
