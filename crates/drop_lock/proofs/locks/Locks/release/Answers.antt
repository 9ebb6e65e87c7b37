use Rattle.std.proofs.Common.{◌≡◌, ◌∙◌, sym, ap, true, if◌then◌else◌}
use Rattle.std.specs.Ordering.{nat_cmp}
use Rattle.std.specs.Cmp.Lexicographic.{slice_cmp, nat_list_cmp_total}
use Rattle.std.specs.FinMap.{slice_cmp-IsAntisymmetric, nat_cmp-IsAntisymmetric}
use Rattle.std.specs.FinMap as map
use Rattle.mail_base.proofs.Maps.{one_unset}
use Rattle.object_model.specs.Locks.{is_held_by}
use Rattle.drop_lock.proofs.locks.Locks.release.Goals as goal

pub returns-then-eq : goal.returns-then-eq
returns-then-eq c =
    let held : is_held_by (map.get c.args.self.now c.args.user.now) c.args.ticket ≡ true =
    ap (λ o. is_held_by o c.args.ticket) (sym c.holder.ensures ∙ c.in-Some.is) ∙ sym c.eq.ensures ∙ c.if-eq.true in
    one_unset (slice_cmp nat_cmp) nat_list_cmp_total (slice_cmp-IsAntisymmetric nat_cmp-IsAntisymmetric)
    c.self.inside.held.entries c.remove.new.self.entries c.args.user.now c.remove.ensures.updates.0
    ∙ ap (λ m. map.remove m c.args.user.now) c.self.view_is
    ∙ sym (ap (λ t. if t then map.remove c.args.self.now c.args.user.now else c.args.self.now) held)
