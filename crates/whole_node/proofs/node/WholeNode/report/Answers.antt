use Rattle.std.proofs.Common.{ℕ, nat_eq, sym, ap, ◌∙◌, subst, true≢false}
use Rattle.std.proofs.lemmas.Bool.{eq-eqb}
use Rattle.node_maps.specs.Rounds.{ReportsAs}
use Rattle.whole_node.proofs.Reported.{reported_so}
use Rattle.whole_node.proofs.node.WholeNode.report.Goals as goal

pub returns : goal.returns
returns c = reported_so c.args.to c.args.room c.args.self.now c.report.result c.requires.maps
    (λ e. true≢false (sym (eq-eqb c.args.to c.args.self.now.mail.store.own e) ∙ ap (λ (o : ℕ). nat_eq c.args.to o) (sym c.own.ensures) ∙ sym c.eq.ensures ∙ c.if-eq.false))
    (subst (λ (n : ℕ). ReportsAs c.args.to n c.report.result c.args.self.now.maps) c.min.ensures c.report.ensures.reports)
    c.report.ensures.in_order
