use Rattle.std.proofs.Common.{◌≡◌, ℕ, ◌-◌, ◌++◌, nat_eq, sym, ap, ◌∙◌, arith}
use Rattle.std.proofs.lemmas.Result.{IfOk-weaker}
use Rattle.cluster_model.specs.Cluster.{epoch_of}
use Rattle.cluster_model.specs.Rules.{marks_for, strike_to, strikes_to, new_number}
use Rattle.node_core.specs.Nodes.{node_seen}
use Rattle.node_core.specs.Striking.{next_dated}
use Rattle.node_core.proofs.Strikes.{strikes_last}
use Rattle.node_core.proofs.node.Node.+strikes_to.Goals as goal

pub returns-clause-letters : goal.returns-clause-letters
returns-clause-letters t c =
    let node = c.args.self.now in
    let own = node.store.own in
    let epoch = epoch_of (node_seen node) in
    let number = new_number own (node_seen node) in
    let items = next_dated node c.args.asks.now in
    let user = c.args.user.now in
    let to = c.node_of-to.result in
    IfOk-weaker c.with_strike.result (λ letters. letters ≡ c.in_ok-letters.letters ++ strike_to own epoch number user to (marks_for to items)) (λ letters. letters ≡ strikes_to own epoch number user items c.args.nodes)
    (λ letters e. strikes_last own epoch number user items c.args.nodes (c.args.nodes - 1) to c.in_ok-letters.letters letters (omega arith) c.node_of-to.ensures (ap (λ (o : ℕ). nat_eq to o) (sym c.own.ensures) ∙ sym c.eq.ensures ∙ c.if-eq.false) c.in_ok-letters.ensures.letters e)
    c.with_strike.ensures.letters
