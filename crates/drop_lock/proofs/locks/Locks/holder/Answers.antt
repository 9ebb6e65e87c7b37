use Rattle.std.proofs.Common.{◌∙◌, sym, ap}
use Rattle.std.specs.Ordering.{nat_cmp}
use Rattle.std.specs.Cmp.Lexicographic.{slice_cmp, nat_list_cmp_total}
use Rattle.std.specs.FinMap as map
use Rattle.mail_base.proofs.Maps.{get_by_lookup}
use Rattle.drop_lock.proofs.locks.Locks.holder.Goals as goal

pub returns : goal.returns
returns c = c.copied.ensures ∙ c.get.ensures.value
    ∙ sym (get_by_lookup (slice_cmp nat_cmp) nat_list_cmp_total c.self.inside.held.entries c.args.user.now)
    ∙ ap (λ m. map.get m c.args.user.now) c.self.view_is
