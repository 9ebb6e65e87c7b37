use Rattle.std.proofs.Common.{◌+◌, ◌<◌, ℕ, List, ◌++◌, length, take, sym, ap, subst, ◌∙◌, get_or, append_assoc}
use Rattle.std.proofs.lemmas.List.{take_all}
use Rattle.std.proofs.lemmas.Result.{on_ok_weaker}
use Rattle.dot_text.specs.Dots.{dotted_octet, ending, IsSentAt}
use Rattle.dot_text.specs.declared.dotting.Tail.{Tail}
use Rattle.dot_text.proofs.Sending.{loop_on, sends_end}
use Rattle.dot_text.proofs.dotting.push_dotted.Goals as goal

pub loop-octet-preserved : goal.loop-octet-preserved
loop-octet-preserved c =
    let loop = c.loop-octet in
    let text = c.args.text.now in
    let i = loop.octet-index in
    let sends : List ℕ = dotted_octet loop.tail (get_or text i 0) in
    let within : i < length text = c.loop-octet-test.true in
    let At : Tail → Type 0 = λ t. IsSentAt t (take (i + 1) text) (loop.invariant.0 ++ sends) in (
      loop.invariant.0 ++ sends,
      c.in_ok-dot_octet.ensures.ok ∙ ap (λ (l : List ℕ). l ++ sends) loop.invariant.1 ∙ append_assoc c.args.out.now.items loop.invariant.0 sends,
      subst At (sym c.next_tail-tail.ensures) (loop_on loop.tail text loop.invariant.0 loop.out.items i within loop.invariant.2),
    )

pub returns-clause-ok : goal.returns-clause-ok
returns-clause-ok c =
    let loop = c.loop-octet in
    let start = c.args.out.now.items in
    let text = c.args.text.now in
    let At : List ℕ → Type 0 = λ l. IsSentAt loop.tail l loop.invariant.0 in
    let all = sends_end loop.tail text loop.invariant.0 (subst At (take_all loop.octet-index text c.loop-octet-test.false) loop.invariant.2) in
    on_ok_weaker c.end_text.result
    (λ wrote. (
      loop.invariant.0 ++ ending loop.tail,
      wrote ∙ ap (λ (l : List ℕ). l ++ ending loop.tail) loop.invariant.1 ∙ append_assoc start loop.invariant.0 (ending loop.tail),
      all,
    ))
    c.end_text.ensures.ok
