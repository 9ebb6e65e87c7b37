use Rattle.std.proofs.Common.{sym, ap, ◌∙◌, subst, refl, is_some}
use Rattle.std.specs.Option.{option_copied_mut, IsSome}
use Rattle.mail_base.specs.Bodies.{body_seen}
use Rattle.node_tickets.specs.Standing.{seen}
use Rattle.node_tickets.proofs.Stands.{got, told_written, told_none}
use Rattle.node_tickets.proofs.tickets.told_at.Goals as goal

pub returns-in-Some-clause-tickets : goal.returns-in-Some-clause-tickets
returns-in-Some-clause-tickets c =
    let found = sym (ap option_copied_mut c.in-Some.is) ∙ c.get_mut.ensures.value in
    told_written _ _ c.args.seq (body_seen c.args.body.now) c.args.from _ c.told.new.self found c.told.ensures ((c.get_mut.follows.holds c.told.new.self).3 (subst IsSome found refl)).0

pub returns-in-Some-clause-stood : goal.returns-in-Some-clause-stood
returns-in-Some-clause-stood c = ap is_some (got _ c.args.seq _ (sym (ap option_copied_mut c.in-Some.is) ∙ c.get_mut.ensures.value))

pub returns-in-None-clause-tickets : goal.returns-in-None-clause-tickets
returns-in-None-clause-tickets c =
    ap (λ m. seen m.entries) c.get_mut.follows.holds-at-none ∙ told_none _ c.args.seq (body_seen c.args.body.now) c.args.from (sym (ap option_copied_mut c.in-None.is) ∙ c.get_mut.ensures.value)

pub returns-in-None-clause-stood : goal.returns-in-None-clause-stood
returns-in-None-clause-stood c = ap is_some (got _ c.args.seq _ (sym (ap option_copied_mut c.in-None.is) ∙ c.get_mut.ensures.value))
