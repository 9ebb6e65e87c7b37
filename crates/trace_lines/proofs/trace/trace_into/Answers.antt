use Rattle.std.proofs.Common.{◌∙◌, ap, refl, List, ℕ, ◌++◌}
use Rattle.trace_lines.proofs.trace.trace_into.Goals as goal

pub returns : goal.returns
returns c =
    let put = c.in_ok-extend_from_slice.ensures.items in
    let text = c.deref.ensures.value ∙ c.in_ok-text.ensures in
    (_, (c.in-Ok.date, c.in-Ok.ensures.value, refl), put ∙ ap (λ (l : List ℕ). c.args.out.now.items ++ l) text)
