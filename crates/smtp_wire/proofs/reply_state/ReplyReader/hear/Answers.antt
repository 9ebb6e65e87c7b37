use Rattle.std.proofs.Common.{◌≡◌, List, ℕ, true, false, Some, Option, sym, ap, ◌∙◌}
use Rattle.std.specs.Option.{option_map}
use Rattle.smtp_wire.specs.Replies.{may_follow}
use Rattle.smtp_wire.specs.Readers.{part_seen}
use Rattle.smtp_wire.specs.declared.reply_state.Part.{Part}
use Rattle.smtp_wire.proofs.Hearing.{breaks, taken, taken_less}
use Rattle.smtp_wire.proofs.reply_state.ReplyReader.hear.Goals as goal

pub returns-in_default-clause-is : goal.returns-in_default-clause-is
returns-in_default-clause-is c octets h = (
  breaks c.args.self.now.cutter c.args.found c.args.self.now.code c.args.self.now.lines.items octets (option_map part_seen c.in_ok-part.field-0) c.requires c.in_ok-part.ensures
      (ap (λ (o : Option Part). may_follow c.args.self.now.code c.args.self.now.lines.items (option_map part_seen o)) c.in_default.is) h,
  h,
)

pub returns-then-not-may_follow-clause-is : goal.returns-then-not-may_follow-clause-is
returns-then-not-may_follow-clause-is c octets h =
    let wrong : may_follow c.args.self.now.code c.args.self.now.lines.items (Some (part_seen c.in-Some.part)) ≡ false =
    ap (λ (l : List (List ℕ)). may_follow c.args.self.now.code l (Some (part_seen c.in-Some.part))) (sym c.deref.ensures.value) ∙ sym c.if-not-may_follow.ensures in (
      breaks c.args.self.now.cutter c.args.found c.args.self.now.code c.args.self.now.lines.items octets (Some (part_seen c.in-Some.part)) c.requires
          (λ line limit is. ap (option_map part_seen) (sym c.in-Some.is) ∙ c.in_ok-part.ensures line limit is) wrong h,
      h,
    )

pub returns-clause-is : goal.returns-clause-is
returns-clause-is c octets h =
    let may : may_follow c.args.self.now.code c.args.self.now.lines.items (Some (part_seen c.in-Some.part)) ≡ true =
    ap (λ (l : List (List ℕ)). may_follow c.args.self.now.code l (Some (part_seen c.in-Some.part))) (sym c.deref.ensures.value) ∙ sym c.if-not-may_follow.ensures in
    taken c.args.self.now c.take_part.new.self c.args.found c.in-Some.part c.take_part.result octets c.requires
    (λ line limit is. ap (option_map part_seen) (sym c.in-Some.is) ∙ c.in_ok-part.ensures line limit is) may c.take_part.ensures h

pub returns-clause-less : goal.returns-clause-less
returns-clause-less c = taken_less c.args.self.now c.take_part.new.self c.args.found c.in-Some.part c.take_part.result c.requires.within c.take_part.ensures
