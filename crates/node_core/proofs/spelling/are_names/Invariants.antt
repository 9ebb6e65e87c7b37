use Rattle.std.proofs.Common.{take}
use Rattle.std.specs.Prelude.{All}
use Rattle.mail_model.specs.Names.{IsLowerName}
use Rattle.node_core.proofs.spelling.are_names.Given as goal

abbrev pub invariant-loop-name : goal.invariant-loop-name
invariant-loop-name l = All IsLowerName (take l.name-index l.names)
