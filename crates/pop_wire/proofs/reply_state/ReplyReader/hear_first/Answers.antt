use Rattle.std.proofs.Common.{Bool, sym, ap, subst, ◌∙◌}
use Rattle.std.specs.Prelude.{Ok}
use Rattle.std.specs.Option.{option_map}
use Rattle.pop_wire.specs.Readers.{IsStep, first_seen}
use Rattle.pop_wire.proofs.Hearing.{breaks_first}
use Rattle.pop_wire.proofs.Taking.{heard_as, first_taken, first_less}
use Rattle.pop_wire.proofs.reply_state.ReplyReader.hear_first.Goals as goal

pub returns-in_default-clause-is : goal.returns-in_default-clause-is
returns-in_default-clause-is c several octets h = (
  breaks_first c.args.self.now.cutter c.args.found several c.args.self.now.text c.args.self.now.lines.items octets c.requires.0
      (λ line limit is. ap (option_map first_seen) (sym c.in_default.is) ∙ c.in_ok-first.ensures line limit is) (heard_as c.args.self.now _ octets c.requires.1 h.1),
  h,
)

pub returns-clause-is : goal.returns-clause-is
returns-clause-is c several octets h =
    subst (λ (s : Bool). IsStep s octets (Ok c.take_first.result) c.take_first.new.self) h.0
    (first_taken c.args.self.now c.take_first.new.self c.args.found c.in-Some.first c.take_first.result octets c.requires.0
    (λ line limit is. ap (option_map first_seen) (sym c.in-Some.is) ∙ c.in_ok-first.ensures line limit is) c.requires.1 c.take_first.ensures.taken h.1)

pub returns-clause-less : goal.returns-clause-less
returns-clause-less c = first_less c.args.self.now c.take_first.new.self c.args.found c.in-Some.first c.take_first.result c.requires.0.within c.take_first.ensures.taken
