use Rattle.std.proofs.Common.{sym, ap, ◌∙◌, subst, refl, is_some}
use Rattle.std.specs.Option.{option_copied_mut, IsSome}
use Rattle.node_tickets.specs.Seen.{kind_of_mishap}
use Rattle.node_tickets.specs.Standing.{seen}
use Rattle.node_tickets.proofs.Stands.{got, befell_written, befell_none}
use Rattle.node_tickets.proofs.tickets.befell_at.Goals as goal

pub returns-in-Some-clause-tickets : goal.returns-in-Some-clause-tickets
returns-in-Some-clause-tickets c =
    let found = sym (ap option_copied_mut c.in-Some.is) ∙ c.get_mut.ensures.value in
    befell_written _ _ c.args.seq (kind_of_mishap c.args.kind) c.args.at _ c.befell.new.self found c.befell.ensures ((c.get_mut.follows.holds c.befell.new.self).3 (subst IsSome found refl)).0

pub returns-in-Some-clause-stood : goal.returns-in-Some-clause-stood
returns-in-Some-clause-stood c = ap is_some (got _ c.args.seq _ (sym (ap option_copied_mut c.in-Some.is) ∙ c.get_mut.ensures.value))

pub returns-in-None-clause-tickets : goal.returns-in-None-clause-tickets
returns-in-None-clause-tickets c =
    ap (λ m. seen m.entries) c.get_mut.follows.holds-at-none ∙ befell_none _ c.args.seq (kind_of_mishap c.args.kind) c.args.at (sym (ap option_copied_mut c.in-None.is) ∙ c.get_mut.ensures.value)

pub returns-in-None-clause-stood : goal.returns-in-None-clause-stood
returns-in-None-clause-stood c = ap is_some (got _ c.args.seq _ (sym (ap option_copied_mut c.in-None.is) ∙ c.get_mut.ensures.value))
