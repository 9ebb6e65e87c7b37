use Rattle.std.proofs.Common.{ℕ, nat_eq, sym, ap, ◌∙◌, true≢false}
use Rattle.std.proofs.lemmas.Bool.{eq-eqb}
use Rattle.node_maps.specs.Nodes.{node_of}
use Rattle.whole_node.proofs.Reported.{rows_due}
use Rattle.whole_node.proofs.node.WholeNode.owes_rows.Goals as goal

pub returns : goal.returns
returns c = rows_due c.args.self.now.mail.store.own c.args.to (node_of c.args.self.now.maps) c.owes_rows.result
    (λ e. true≢false (sym (eq-eqb c.args.to c.args.self.now.mail.store.own e) ∙ ap (λ (o : ℕ). nat_eq c.args.to o) (sym c.own.ensures) ∙ sym c.eq.ensures ∙ c.if-eq.false))
    c.owes_rows.ensures
