use Rattle.std.proofs.Common.{sym, ap, ◌∙◌, subst, refl}
use Rattle.std.specs.Option.{option_copied_mut, IsSome}
use Rattle.mail_base.proofs.KeyMaps.{key_found}
use Rattle.update_log.specs.Answers.{answer_at}
use Rattle.update_log.specs.contracts.log.UpdateLog.{the_view}
use Rattle.update_log.proofs.Writes.{acknowledged_is, acknowledged_none}
use Rattle.update_log.proofs.log.UpdateLog.acknowledged.Goals as goal
use Rattle.update_log.proofs.log.UpdateLog.acknowledged.Goals.{in-Some, in-None}

pub returns-clause-log : goal.returns-clause-log
returns-clause-log c = elim c.match-get_mut.branch [
  | in-Some w ↦ (let found = sym (ap option_copied_mut w.in-Some.is) ∙ c.get_mut.ensures.value in
      ap the_view w.self-inside-is
      ∙ acknowledged_is _ _ c.args.self.now c.args.key.now c.args.state.now c.args.by _ w.acknowledge.new.self c.self.view_is found w.acknowledge.ensures.entry
      ((c.get_mut.follows.holds w.acknowledge.new.self).3 (subst IsSome found refl)).0)
  | in-None w ↦ (let found = sym (ap option_copied_mut w.in-None.is) ∙ c.get_mut.ensures.value in
      ap the_view (w.self-inside-is ∙ ap (λ e. record { entries = e }) c.get_mut.follows.holds-at-none)
      ∙ acknowledged_none _ c.args.self.now c.args.key.now c.args.state.now c.args.by c.self.view_is found)
]

pub returns-clause-answer : goal.returns-clause-answer
returns-clause-answer c = elim c.match-get_mut.branch [
  | in-Some w ↦ (let found = sym (ap option_copied_mut w.in-Some.is) ∙ c.get_mut.ensures.value in
      w.result-is ∙ w.acknowledge.ensures.answer ∙ ap (answer_at c.args.state.now c.args.by) (key_found _ c.args.self.now c.args.key.now _ c.self.view_is found))
  | in-None w ↦ (let found = sym (ap option_copied_mut w.in-None.is) ∙ c.get_mut.ensures.value in
      w.result-is ∙ ap (answer_at c.args.state.now c.args.by) (key_found _ c.args.self.now c.args.key.now _ c.self.view_is found))
]
