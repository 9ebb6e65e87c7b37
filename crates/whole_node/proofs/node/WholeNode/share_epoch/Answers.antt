use Rattle.std.proofs.Common.{Option, ap, ◌∙◌, subst}
use Rattle.object_model.specs.Letters.{Membership}
use Rattle.membership.specs.Groups.{Group}
use Rattle.node_core.specs.Installing.{HasInstalled}
use Rattle.whole_node.proofs.node.WholeNode.share_epoch.Goals as goal

pub returns-clause-shares : goal.returns-clause-shares
returns-clause-shares c =
    subst (λ (m : Option Membership). HasInstalled m c.args.self.now.mail c.install.new.self) (c.in_ok-copied.ensures ∙ ap (λ (g : Group). g.installed) c.group.ensures) c.install.ensures
