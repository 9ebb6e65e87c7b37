use Rattle.std.proofs.Common.{◌≡◌, ◌∙◌, take, sym, arith}
use Rattle.line_words.proofs.Fronts.{trimmed_back, trimmed_at, trimmed_all}
use Rattle.mail_model.specs.Smtp.{trimmed}
use Rattle.line_words.proofs.octets.trimmed.Goals.{then-loop-end-test+else-is_blank, else-loop-end-test}
use Rattle.line_words.proofs.octets.trimmed.Goals as goal

pub loop-end-preserved : goal.loop-end-preserved
loop-end-preserved c = record {
  within = omega arith;
  same = trimmed_back c.args.line.now c.loop-end.end (omega arith) c.loop-end.invariant.within (sym c.is_blank.ensures ∙ c.if-is_blank.true) ∙ c.loop-end.invariant.same;
}

pub returns : goal.returns
returns c =
    let line = c.args.line.now in
    let end = c.loop-end.end in
    let done : take end line ≡ trimmed (take end line) = elim c.loop-end-test.branch [
      | then-loop-end-test+else-is_blank w ↦ trimmed_at line end (omega arith) c.loop-end.invariant.within (sym w.is_blank.ensures ∙ w.if-is_blank.false)
      | else-loop-end-test w ↦ trimmed_all line end (omega arith)
    ] in
    done ∙ c.loop-end.invariant.same
