use Rattle.std.proofs.Common.{ap}
use Rattle.mail_model.specs.Plan.{Plan}
use Rattle.whole_node.proofs.FirstEpoch.{membership_is}
use Rattle.whole_node.proofs.first.first_membership.Goals as goal

pub returns : goal.returns
returns c =
    membership_is c.args.plan.now c.plan.inside.nodes c.plan.inside.buckets c.first_epoch-epoch.result c.in_ok-members.members c.as_slice.result.now c.in_ok-map.map c.new.result
    (ap (λ (p : Plan). p.nodes) c.plan.view_is) (ap (λ (p : Plan). p.buckets) c.plan.view_is) c.requires.some c.in_ok-members.ensures c.as_slice.ensures c.first_epoch-epoch.ensures c.in_ok-map.ensures c.new.ensures
