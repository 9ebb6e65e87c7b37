use Rattle.std.proofs.Common.{◌+◌, [], refl, sym, ap, subst, take, ◌++◌, rules, ◌∙◌, append-nil, take-append-drop}
use Rattle.std.proofs.lemmas.List.{take_rest}
use Rattle.std.proofs.lemmas.Result.{err_from_is_err_and}
use Rattle.line_source.specs.Parts.{IsPart}
use Rattle.line_source.proofs.Cuts.{taken_cut}
use Rattle.line_source.proofs.readers.SliceSourceLineSource.take_part.Goals as goal

pub returns-in_err-extend_from_slice-clause-took : goal.returns-in_err-extend_from_slice-clause-took
returns-in_err-extend_from_slice-clause-took c =
    let p = err_from_is_err_and c.from_residual.result c.from_residual.ensures.1 in
    ([], [], refl, c.in_err-extend_from_slice.ensures.items ∙ sym (append-nil _), subst (IsPart c.args.most [] []) (sym p.1) (refl, refl))

pub returns-clause-took : goal.returns-clause-took
returns-clause-took c =
    let rest = c.args.self.now.rest.now in
    let n = c.cut-count.result.0 + c.lf.result in
    let part = taken_cut rest _ c.min.result c.args.most c.cut-count.result.0 c.lf.result c.cut-count.result.1 (search rules) refl c.cut-count.ensures c.lf.ensures in
    (take n rest, _, sym (take-append-drop n rest) ∙ ap (λ l. take n rest ++ l) (sym (take_rest rest n)), c.in_ok-extend_from_slice.ensures.items, part.1)
