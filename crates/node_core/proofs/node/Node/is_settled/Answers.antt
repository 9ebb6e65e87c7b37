use Rattle.std.proofs.Common.{◌↔◌, Bool, not, sym, subst}
use Rattle.std.specs.Prelude.{IsTrue}
use Rattle.node_core.specs.Nodes.{node_seen}
use Rattle.node_core.specs.Owing.{owes_another, OwesAnother}
use Rattle.node_core.proofs.Owing.{owes_words, none_owed}
use Rattle.node_core.proofs.node.Node.is_settled.Goals as goal

pub returns-clause-settled : goal.returns-clause-settled
returns-clause-settled c =
    let own = c.args.self.now.store.own in
    let seen = node_seen c.args.self.now in
    subst (λ (b : Bool). IsTrue (not b) ↔ (OwesAnother own seen → ⊥)) (sym c.owes_another.ensures) (none_owed (OwesAnother own seen) (owes_another own seen) (owes_words own seen))
