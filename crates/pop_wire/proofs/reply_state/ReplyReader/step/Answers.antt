use Rattle.std.proofs.Common.{Bool, subst}
use Rattle.pop_wire.specs.Replies.{HasNoReply}
use Rattle.pop_wire.proofs.Hearing.{waits}
use Rattle.pop_wire.proofs.reply_state.ReplyReader.step.Goals as goal

pub returns-in-None-clause-is : goal.returns-in-None-clause-is
returns-in-None-clause-is c several octets h =
    let w = waits c.args.self.now.cutter c.find.new.self c.args.self.now.begun c.args.self.now.several c.args.self.now.text c.args.self.now.lines.items octets c.in-None.ensures h.1 in
    (subst (λ (s : Bool). HasNoReply s octets) h.0 w.0, (h.0, w.1))
