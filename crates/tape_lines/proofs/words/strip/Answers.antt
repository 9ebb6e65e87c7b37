use Rattle.tape_lines.proofs.Strips.{strips}
use Rattle.tape_lines.proofs.words.strip.Goals as goal

pub returns : goal.returns
returns c = strips c.strip_prefix.result c.args.word.now c.args.line.now c.strip_prefix.ensures.cases
