use Rattle.std.proofs.Common.{◌++◌, List, ℕ, take, ap, sym, ◌∙◌, append_assoc, arith}
use Rattle.std.proofs.lemmas.List.{take_rest, take-append-drop}
use Rattle.io_edge.proofs.Known.{appends_more}
use Rattle.io_edge.proofs.streams.write_all.Goals as goal

pub loop-rest-preserved : goal.loop-rest-preserved
loop-rest-preserved g c =
    let done = c.loop-rest.invariant.octets in
    let count = c.in_ok-count.count in
    let rest = c.loop-rest.rest.now in
    record {
      octets = (
        done.0 ++ take count rest,
        rw take_rest (rw append_assoc (done.1 ∙ ap (λ (l : List ℕ). done.0 ++ l) (sym (take-append-drop count rest)))),
        appends_more _ _ _ _ _ done.2 c.in_ok-count.ensures.octets,
      );
      later = omega arith;
    }
