use Rattle.std.proofs.Common.{◌↔◌, Bool, sym, subst}
use Rattle.std.specs.Prelude.{IsTrue}
use Rattle.whole_node.specs.Nodes.{whole_seen}
use Rattle.whole_node.specs.Settling.{OwesNobody}
use Rattle.whole_node.proofs.AtRest.{nobody_words}
use Rattle.whole_node.proofs.node.WholeNode.is_settled.Goals as goal

pub returns-clause-settled : goal.returns-clause-settled
returns-clause-settled c =
    let node = c.args.self.now in
    subst (λ (b : Bool). IsTrue b ↔ OwesNobody node.mail.store.own (whole_seen node)) (sym c.owes_nobody.ensures) (nobody_words node)
