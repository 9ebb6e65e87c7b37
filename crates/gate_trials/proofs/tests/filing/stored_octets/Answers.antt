use Rattle.std.proofs.Common.{ℕ, List, [], ◌++◌, ap, ◌∙◌}
use Rattle.mail_model.specs.Mail.{trace_lines}
use Rattle.mail_base.specs.Delivers.{mail_in}
use Rattle.gate_trials.proofs.Filed.{stored_is}
use Rattle.gate_trials.proofs.tests.filing.stored_octets.Goals as goal

pub returns : goal.returns
returns c =
    stored_is (mail_in c.args.deliver.now) c.args.id 1000000000 c.in-Ok.ensures.0 c.as_slice.result.now c.as_slice-2.result.now c.as_slice-3.result.now c.trace_into.new.out.items c.from_vec.result
    c.in-Ok.ensures.1 c.as_slice.ensures c.as_slice-2.ensures c.as_slice-3.ensures
    (c.in-Ok.ensures.2 ∙ ap (λ (l : List ℕ). l ++ trace_lines (record { sender = c.as_slice.result.now; helo = c.as_slice-2.result.now; extended = c.args.deliver.now.extended; mailboxes = []; text = [] }) c.args.id c.in-Ok.ensures.0)
    c.new-octets.ensures.items)
    (c.from_vec.ensures ∙ c.in_ok-extend_from_slice.ensures.items)
