use Rattle.std.proofs.Common.{sym, subst}
use Rattle.cluster_world.specs.Opens.{AreEmpty}
use Rattle.cluster_trials.specs.Disks.{octets_told}
use Rattle.cluster_trials.proofs.Empties.{empty_more}
use Rattle.cluster_trials.proofs.fresh.+fresh_disks.Goals as goal

pub returns-clause-empty : goal.returns-clause-empty
returns-clause-empty t c =
    subst (λ all. AreEmpty octets_told all) (sym c.in_ok-push.ensures.items) (empty_more octets_told c.in_ok-disks.disks.items c.in_ok-fresh_disk.field-0 c.in_ok-disks.ensures.empty c.in_ok-fresh_disk.ensures)
