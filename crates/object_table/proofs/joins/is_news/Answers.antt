use Rattle.std.proofs.Common.{sym, ap, ◌∙◌}
use Rattle.std.specs.Ordering.{is_lt}
use Rattle.object_table.proofs.News.{above_is_news}
use Rattle.object_table.proofs.joins.is_news.Goals as goal

pub returns-then-is_lt : goal.returns-then-is_lt
returns-then-is_lt c =
    let above = sym (ap is_lt c.compare.ensures) ∙ sym c.is_lt.ensures ∙ c.if-is_lt.true in
    c.if-is_lt.true ∙ sym (above_is_news c.args.held.now c.args.state.now above)
