use Rattle.std.proofs.Common.{Bool, sym, ap, subst, ◌∙◌}
use Rattle.std.specs.Option.{option_map}
use Rattle.pop_wire.specs.Readers.{IsStep, heard_seen}
use Rattle.pop_wire.proofs.Hearing.{breaks_further}
use Rattle.pop_wire.proofs.Taking.{awaits_more, heard_as, further_taken, further_less}
use Rattle.pop_wire.proofs.reply_state.ReplyReader.hear_further.Goals as goal

pub returns-in_default-clause-is : goal.returns-in_default-clause-is
returns-in_default-clause-is c several octets h = (
  breaks_further c.args.self.now.cutter c.args.found several c.args.self.now.text c.args.self.now.lines.items octets
      (sym h.0 ∙ awaits_more c.args.self.now c.requires.1) c.requires.0
      (λ line limit is. ap (option_map heard_seen) (sym c.in_default.is) ∙ c.in_ok-said.ensures line limit is) (heard_as c.args.self.now _ octets c.requires.1 h.1),
  h,
)

pub returns-clause-is : goal.returns-clause-is
returns-clause-is c several octets h =
    subst (λ (s : Bool). IsStep s octets c.take_further.result c.take_further.new.self) h.0
    (further_taken c.args.self.now c.take_further.new.self c.args.found c.in-Some.said c.take_further.result octets c.requires.0
    (λ line limit is. ap (option_map heard_seen) (sym c.in-Some.is) ∙ c.in_ok-said.ensures line limit is) c.requires.1 c.take_further.ensures.taken h.1)

pub returns-clause-less : goal.returns-clause-less
returns-clause-less c = further_less c.args.self.now c.take_further.new.self c.args.found c.in-Some.said c.take_further.result c.requires.0.within c.take_further.ensures.taken
