use Rattle.std.proofs.Common.{ap}
use Rattle.dot_text.specs.Shown.{Shown}
use Rattle.pop_wire.proofs.Hearing.{fed}
use Rattle.pop_wire.proofs.reply_state.ReplyReader.feed.Goals as goal

pub returns-clause-ok : goal.returns-clause-ok
returns-clause-ok c octets h =
    fed c.args.self.now.cutter c.feed.new.self c.args.self.now.begun c.args.self.now.text c.args.self.now.lines.items octets c.args.piece.now
    (ap (λ (s : Shown). s.limit) c.in_ok-feed.ensures.ok) c.in_ok-feed.ensures.pends h
