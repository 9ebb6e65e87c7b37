use Rattle.std.proofs.Common.{◌≡◌, [], ◌∙◌, rules}
use Rattle.std.proofs.lemmas.Result.{IfOk-weaker}
use Rattle.pop_session.proofs.Marks.{deletes_none, deletes_some}
use Rattle.pop_session.proofs.stage.quit.Goals as goal

pub returns-then-is_empty-clause-outcome : goal.returns-then-is_empty-clause-outcome
returns-then-is_empty-clause-outcome c =
    let none : c.in_ok-items.items ≡ [] = search rules in
    IfOk-weaker c.farewell.result _ _ (λ heard is. is ∙ deletes_none c.args.listing.now c.in_ok-items.items c.in_ok-items.ensures none) c.farewell.ensures.outcome

pub returns-clause-outcome : goal.returns-clause-outcome
returns-clause-outcome c =
    let some : c.in_ok-items.items ≡ [] → ⊥ = search rules in
    deletes_some c.args.listing.now c.in_ok-items.items c.in_ok-items.ensures some
