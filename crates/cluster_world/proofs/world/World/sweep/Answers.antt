use Rattle.std.proofs.Common.{ℕ, ap, subst, ◌∙◌}
use Rattle.mail_model.specs.Plan.{Plan}
use Rattle.cluster_model.specs.Cluster.{members_in}
use Rattle.node_store.specs.Disks.{view_of}
use Rattle.cluster_world.specs.Settling.{latest_in, pairs_up_to, TellsOn}
use Rattle.cluster_world.proofs.world.World.sweep.Goals as goal

pub returns-clause-told : goal.returns-clause-told
returns-clause-told g c =
    subst (λ (n : ℕ). TellsOn (view_of g.D.Disk.seen g.D.Disk.faults g.D.Disk.clock) (pairs_up_to (members_in (latest_in c.args.self.now.nodes.lives.items)) n n) c.tell_all.result c.args.self.now c.tell_all.new.self)
    (ap (λ (p : Plan). p.nodes) (c.behind-self.view_is ∙ c.plan.ensures))
    (rw (c.latest_members-members.ensures, c.deref.ensures.value) at c.tell_all.ensures.told)
