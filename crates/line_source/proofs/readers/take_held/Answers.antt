use Rattle.std.proofs.Common.{◌+◌, [], refl, sym, subst, take, rules, ◌∙◌, append-nil}
use Rattle.std.proofs.lemmas.Result.{err_from_is_err_and}
use Rattle.std.specs.Io.BufRead.{FillKeeps}
use Rattle.std.proofs.BufReadLemmas.{Consumes_shown}
use Rattle.io_edge.proofs.Known.{consumes_kept}
use Rattle.line_source.specs.Parts.{IsPart}
use Rattle.line_source.proofs.Cuts.{taken_cut}
use Rattle.line_source.proofs.readers.take_held.Goals as goal

pub returns-in_err-extend_from_slice : goal.returns-in_err-extend_from_slice
returns-in_err-extend_from_slice g c =
    let p = err_from_is_err_and c.from_residual.result c.from_residual.ensures.1 in
    record { took = ([], [], consumes_kept _ _ c.fill_buf.follows.holds-at-none.0, c.in_err-extend_from_slice.ensures.items ∙ sym (append-nil _), subst (IsPart c.args.most [] []) (sym p.1) (refl, refl)) }

pub returns : goal.returns
returns g c =
    let n = c.cut-count.result.0 + c.lf.result in
    let part = taken_cut c.in-Ok.held.now _ c.min.result c.args.most c.cut-count.result.0 c.lf.result c.cut-count.result.1 (search rules) refl c.cut-count.ensures c.lf.ensures in
    let rested = c.fill_buf.follows.lender-at-none in
    let filled = subst (FillKeeps _ (g.B.Read.remaining rested) (g.B.BufRead.consumable_len rested)) c.in-Ok.is c.fill_buf.follows.holds-at-none in
    let moved = Consumes_shown _ _ _ _ c.in-Ok.held.now n part.0 c.in-Ok.ensures.front c.in-Ok.ensures.end filled.0 filled.1 c.consume.ensures.bytes in
    record { took = (take n c.in-Ok.held.now, _, moved.0, c.in_ok-extend_from_slice.ensures.items, part.1) }
