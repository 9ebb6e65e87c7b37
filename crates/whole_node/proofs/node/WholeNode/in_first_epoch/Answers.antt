use Rattle.std.proofs.Common.{◌∙◌, sym, ap, subst}
use Rattle.node_core.specs.Nodes.{node_seen}
use Rattle.node_core.specs.declared.node.Node.{Node}
use Rattle.whole_node.specs.Starting.{HasPromisedFirst, HasEnteredFirst}
use Rattle.whole_node.proofs.FirstEpoch.{first_due, first_names, first_entered}
use Rattle.whole_node.proofs.node.WholeNode.in_first_epoch.Goals as goal

pub enter-requires-clause-due : goal.enter-requires-clause-due
enter-requires-clause-due c =
    let n = c.in_ok-node.ensures in
    first_due c.args.plan.now c.in_ok-node.node (subst (HasPromisedFirst c.args.plan.now) (sym n.mail) c.requires.first) n.has_maps
    (λ image boot promise. n.starts image (boot ∙ ap (λ (m : Node). (node_seen m).boot) n.mail) (promise ∙ sym c.first_epoch.ensures)) c.in_ok-install.install c.in_ok-install.ensures

pub enter-requires-clause-named : goal.enter-requires-clause-named
enter-requires-clause-named c =
    let n = c.in_ok-node.ensures in
    first_names c.args.plan.now c.in_ok-node.node (subst (HasPromisedFirst c.args.plan.now) (sym n.mail) c.requires.first) n.has_maps
    (λ image boot promise. n.starts image (boot ∙ ap (λ (m : Node). (node_seen m).boot) n.mail) (promise ∙ sym c.first_epoch.ensures)) c.in_ok-install.install c.in_ok-install.ensures

pub returns : goal.returns
returns c =
    let n = c.in_ok-node.ensures in
    subst (λ (m : Node). HasEnteredFirst c.args.plan.now m c.enter.new.self) n.mail
    (first_entered c.args.plan.now c.in_ok-node.node (subst (HasPromisedFirst c.args.plan.now) (sym n.mail) c.requires.first) n.has_maps
    (λ image boot promise. n.starts image (boot ∙ ap (λ (m : Node). (node_seen m).boot) n.mail) (promise ∙ sym c.first_epoch.ensures)) c.in_ok-install.install c.enter.new.self c.in_ok-install.ensures c.in_ok-enter.ensures n.reads n.blank)
