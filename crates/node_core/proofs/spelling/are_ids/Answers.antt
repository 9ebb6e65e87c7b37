use Rattle.std.proofs.Common.{arith}
use Rattle.mail_model.specs.Grammar.{IsId}
use Rattle.object_model.specs.Letters.{DeletionMark}
use Rattle.node_core.proofs.Lists.{one_more_all, all_of_taken}
use Rattle.node_core.proofs.spelling.are_ids.Goals as goal

pub loop-mark-preserved : goal.loop-mark-preserved
loop-mark-preserved c = one_more_all (λ (mark : DeletionMark). IsId mark.id) c.args.marks.now c.loop-mark.mark-index c.mark-item.result c.loop-mark-test.true c.mark-item.is c.loop-mark.invariant c.is_mark.ensures

pub returns : goal.returns
returns c = all_of_taken (λ (mark : DeletionMark). IsId mark.id) c.args.marks.now c.loop-mark.mark-index (omega (arith, c.loop-mark.auto.mark-index-end, c.loop-mark-test.false)) c.loop-mark.invariant
