use Rattle.std.proofs.Common.{take, ap}
use Rattle.smtp_wire.proofs.Hearing.{whole_says}
use Rattle.smtp_wire.proofs.reply_reader.found_says.Goals as goal

pub returns-in-Whole : goal.returns-in-Whole
returns-in-Whole c = whole_says c.args.cutter.now c.args.found c.in-Whole.length _ _ c.in-Whole.is (ap (take c.in-Whole.length) c.rest.ensures) c.line_says.ensures
