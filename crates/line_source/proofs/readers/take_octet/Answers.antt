use Rattle.std.proofs.Common.{[], refl, sym, subst, ◌∙◌, append-nil}
use Rattle.std.proofs.lemmas.Result.{err_from_is_err_and}
use Rattle.io_edge.proofs.Known.{consumes_none, consumes_kept}
use Rattle.line_source.specs.Parts.{IsPart}
use Rattle.line_source.proofs.readers.take_octet.Goals as goal

pub returns-in_err-reserve-clause-took : goal.returns-in_err-reserve-clause-took
returns-in_err-reserve-clause-took g c =
    let p = err_from_is_err_and c.from_residual.result c.from_residual.ensures.1 in
    ([], [], consumes_none _, c.in_err-reserve.ensures.items ∙ sym (append-nil _), subst (IsPart 1 [] []) (sym p.1) (refl, refl))

pub returns-in_err-read-clause-took : goal.returns-in_err-read-clause-took
returns-in_err-read-clause-took g c =
    let p = err_from_is_err_and c.from_residual-in_err-read.result c.from_residual-in_err-read.ensures.1 in
    ([], [], consumes_kept _ _ c.in_err-read.ensures.octets, c.in_ok-reserve.ensures.items ∙ sym (append-nil _), subst (IsPart 1 [] []) (sym p.1) (refl, refl))
