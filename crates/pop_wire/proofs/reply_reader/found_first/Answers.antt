use Rattle.std.proofs.Common.{take, ap}
use Rattle.pop_wire.specs.Replies.{first_says}
use Rattle.pop_wire.specs.Readers.{first_seen}
use Rattle.pop_wire.proofs.Hearing.{whole_says}
use Rattle.pop_wire.proofs.reply_reader.found_first.Goals as goal

pub returns-in-Whole : goal.returns-in-Whole
returns-in-Whole c =
    whole_says first_seen first_says c.args.cutter.now c.args.found c.in-Whole.length _ _ c.in-Whole.is (ap (take c.in-Whole.length) c.rest.ensures) c.first_says.ensures
