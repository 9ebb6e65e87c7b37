use Rattle.std.proofs.Common.{◌&&◌, Bool, ap, ◌∙◌}
use Rattle.object_model.specs.UpdateLog.{owes}
use Rattle.node_core.specs.Nodes.{node_seen}
use Rattle.node_core.proofs.Pushed.{is_due_is}
use Rattle.node_core.proofs.node.Node.is_due.Goals as goal

pub returns-then-is_other_member : goal.returns-then-is_other_member
returns-then-is_other_member c =
    c.owes.ensures
    ∙ ap (λ (b : Bool). b && owes c.args.self.now.store.log c.args.to) c.if-is_other_member.ensures
    ∙ is_due_is c.args.self.now.store.own c.args.to (node_seen c.args.self.now)
