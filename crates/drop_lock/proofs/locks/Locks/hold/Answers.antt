use Rattle.std.proofs.Common.{◌∙◌, ap}
use Rattle.std.specs.Ordering.{nat_cmp}
use Rattle.std.specs.Cmp.Lexicographic.{slice_cmp, nat_list_cmp_total}
use Rattle.std.specs.FinMap.{slice_cmp-IsAntisymmetric, nat_cmp-IsAntisymmetric}
use Rattle.std.specs.FinMap as map
use Rattle.mail_base.proofs.Maps.{one_set}
use Rattle.drop_lock.proofs.locks.Locks.hold.Goals as goal

pub returns-clause-ok : goal.returns-clause-ok
returns-clause-ok c =
    one_set (slice_cmp nat_cmp) nat_list_cmp_total (slice_cmp-IsAntisymmetric nat_cmp-IsAntisymmetric)
    c.self.inside.held.entries c.insert.new.self.entries c.in_ok-copy.field-0 c.args.ticket c.in_ok-insert.ensures.updates.0
    ∙ ap (λ m. map.insert m c.in_ok-copy.field-0 c.args.ticket) c.self.view_is
    ∙ ap (λ k. map.insert c.args.self.now k c.args.ticket) c.in_ok-copy.ensures
