use Rattle.std.proofs.Common.{List, ℕ, ap, ◌∙◌, ◌++◌}
use Rattle.mail_model.specs.Lines.{sent_line}
use Rattle.pop_session.proofs.Messages.{part_done}
use Rattle.pop_session.proofs.reply.message_into.Goals as goal

pub returns-else-is_err-clause-ok : goal.returns-else-is_err-clause-ok
returns-else-is_err-clause-ok c =
    part_done c.args.lines c.args.octets.now c.shown.result.now c.args.out.now.items c.line_into.new.out.items c.dot_into-done.new.out.items _ c.dot_into-done.result c.shown.ensures
    (c.in_ok-line_into.ensures.ok ∙ ap (λ (l : List ℕ). c.args.out.now.items ++ sent_line l) (c.deref.ensures.value ∙ c.in_ok-shown_line.ensures)) c.dot_into-done.ensures.ok
