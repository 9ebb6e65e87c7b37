use Rattle.std.proofs.Common.{rules}
use Rattle.line_source.proofs.Cuts.{cut_whole, cut_open}
use Rattle.line_source.proofs.readers.cut.Goals as goal

pub returns-in-Some : goal.returns-in-Some
returns-in-Some c = cut_whole c.args.held.now c.in-Some.at c.in-Some.ensures.0 c.in-Some.ensures.1

pub returns-in-None-2 : goal.returns-in-None-2
returns-in-None-2 c = cut_open c.args.held.now c.in-None.ensures (search rules)
