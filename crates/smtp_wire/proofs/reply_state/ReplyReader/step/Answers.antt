use Rattle.smtp_wire.proofs.Hearing.{waits}
use Rattle.smtp_wire.proofs.reply_state.ReplyReader.step.Goals as goal

pub returns-in-None-clause-is : goal.returns-in-None-clause-is
returns-in-None-clause-is c octets h = waits c.args.self.now.cutter c.find.new.self c.args.self.now.code c.args.self.now.lines.items octets c.in-None.ensures h
