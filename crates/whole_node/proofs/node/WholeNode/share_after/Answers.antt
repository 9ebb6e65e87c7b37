use Rattle.std.proofs.Common.{sym, ◌∙◌}
use Rattle.mail_base.specs.Bodies.{body_seen}
use Rattle.node_maps.specs.Nodes.{node_of}
use Rattle.whole_node.proofs.Epochs.{shares_install, shares_other}
use Rattle.whole_node.proofs.node.WholeNode.share_after.Goals as goal

pub returns-then-is_install-clause-shares : goal.returns-then-is_install-clause-shares
returns-then-is_install-clause-shares c =
    shares_install (body_seen c.args.body.now) (node_of c.args.self.now.maps).installed c.args.self.now.mail c.share_epoch.new.self.mail (sym c.is_install.ensures ∙ c.if-is_install.true) c.in_ok-share_epoch.ensures.shares

pub returns-clause-shares : goal.returns-clause-shares
returns-clause-shares c =
    shares_other (body_seen c.args.body.now) (node_of c.args.self.now.maps).installed c.args.self.now.mail (sym c.is_install.ensures ∙ c.if-is_install.false)
