use Rattle.std.proofs.Common.{◌≡◌, Ok, Err, sym, ap, ◌∙◌, subst}
use Rattle.node_store.specs.Disks.{view_of}
use Rattle.call_tickets.specs.declared.answer.Ask.TheVariants.{Done, Pending}
use Rattle.cluster_world.specs.Steps.{IsStep}
use Rattle.cluster_world.specs.declared.step.Step.TheVariants.{Ask}
use Rattle.cluster_world.specs.declared.step.Said.TheVariants.{Asked}
use Rattle.cluster_world.specs.declared.fault.StepFault.{StepFault}
use Rattle.drive_tape.proofs.Calling.{call_answered, call_waits, call_untold, not_its_own}
use Rattle.drive_tape.proofs.calls.ask.Goals as goal

pub returns-then-fits-clause-asked : goal.returns-then-fits-clause-asked
returns-then-fits-clause-asked g c start outcomes awaited k asked among kind at =
    let on = view_of g.D.Disk.seen g.D.Disk.faults g.D.Disk.clock in
    let result : c.step.result ≡ Ok (Asked (Done c.in-Ok-Asked-Done.answer)) = c.in-Ok-Asked-Done.is ∙ ap Ok (c.in-Ok-Asked-Done.field-0-is ∙ ap Asked c.in-Ok-Asked-Done.field-0-0-is) in
    let is = subst (λ r. IsStep on r (Ask c.args.open_call.now.ticket) c.args.world.now c.step.new.self) result c.step.ensures.is in
    call_answered on start c.args.world.now c.step.new.self outcomes awaited k at StepFault asked c.args.open_call.now c.in-Ok-Asked-Done.answer (sym c.fits.ensures ∙ c.if-fits.true) among is

pub returns-else-fits-clause-asked : goal.returns-else-fits-clause-asked
returns-else-fits-clause-asked g c start outcomes awaited k asked among kind at =
    let on = view_of g.D.Disk.seen g.D.Disk.faults g.D.Disk.clock in
    let result : c.step.result ≡ Ok (Asked (Done c.in-Ok-Asked-Done.answer)) = c.in-Ok-Asked-Done.is ∙ ap Ok (c.in-Ok-Asked-Done.field-0-is ∙ ap Asked c.in-Ok-Asked-Done.field-0-0-is) in
    let is = subst (λ r. IsStep on r (Ask c.args.open_call.now.ticket) c.args.world.now c.step.new.self) result c.step.ensures.is in
    call_untold on start c.args.world.now c.step.new.self outcomes awaited k at asked c.args.open_call.now (Ok (Asked (Done c.in-Ok-Asked-Done.answer)))
    (not_its_own on start c.args.world.now c.step.new.self outcomes awaited k at asked c.args.open_call.now c.in-Ok-Asked-Done.answer (sym c.fits.ensures ∙ c.if-fits.false) kind) among is

pub returns-in-Ok-Asked-Pending-clause-asked : goal.returns-in-Ok-Asked-Pending-clause-asked
returns-in-Ok-Asked-Pending-clause-asked g c start outcomes awaited k asked among kind at =
    let on = view_of g.D.Disk.seen g.D.Disk.faults g.D.Disk.clock in
    let result : c.step.result ≡ Ok (Asked (Pending c.in-Ok-Asked-Pending.field-0-0-0 c.in-Ok-Asked-Pending.field-0-0-1)) = c.in-Ok-Asked-Pending.is ∙ ap Ok (c.in-Ok-Asked-Pending.field-0-is ∙ ap Asked c.in-Ok-Asked-Pending.field-0-0-is) in
    let is = subst (λ r. IsStep on r (Ask c.args.open_call.now.ticket) c.args.world.now c.step.new.self) result c.step.ensures.is in
    call_waits on start c.args.world.now c.step.new.self outcomes awaited k at StepFault asked c.args.open_call.now c.in-Ok-Asked-Pending.field-0-0-0 c.in-Ok-Asked-Pending.field-0-0-1 among is

pub returns-in-Err-clause-asked : goal.returns-in-Err-clause-asked
returns-in-Err-clause-asked g c start outcomes awaited k asked among kind at =
    let on = view_of g.D.Disk.seen g.D.Disk.faults g.D.Disk.clock in
    let is = subst (λ r. IsStep on r (Ask c.args.open_call.now.ticket) c.args.world.now c.step.new.self) c.in-Err.is c.step.ensures.is in
    call_untold on start c.args.world.now c.step.new.self outcomes awaited k at asked c.args.open_call.now (Err c.in-Err.field-0) tt among is
