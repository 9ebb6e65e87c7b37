use Rattle.std.proofs.Common.{take}
use Rattle.std.specs.Prelude.{All}
use Rattle.mail_model.specs.Grammar.{IsId}
use Rattle.node_core.proofs.spelling.are_ids.Given as goal

abbrev pub invariant-loop-mark : goal.invariant-loop-mark
invariant-loop-mark l = All (λ mark. IsId mark.id) (take l.mark-index l.marks)
