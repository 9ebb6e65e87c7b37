use Rattle.std.proofs.Common.{sym, ap, ◌∙◌}
use Rattle.std.specs.Option.{option_copied}
use Rattle.std.specs.FinMap as fin
use Rattle.object_model.specs.Letters.{Number}
use Rattle.node_reads.specs.Tables.{seen}
use Rattle.node_reads.proofs.Asked.{waits}
use Rattle.node_reads.proofs.asking.ask_at.Goals as goal

pub returns-in-Some-pending-clause-ok : goal.returns-in-Some-pending-clause-ok
returns-in-Some-pending-clause-ok c =
    let old = seen c.args.entries.now.entries in
    waits c.args.ticket old (fin.get old c.args.ticket.seq) c.in-Some.progress.now
    (sym (ap option_copied c.in-Some.is) ∙ c.get_in.ensures ∙ ap (λ (n : Number). fin.get old n.seq) c.ticket.view_is)
    c.in-Some-pending.ask (sym c.in-Some-pending.is ∙ c.pending.ensures)
