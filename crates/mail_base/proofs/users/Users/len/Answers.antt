use Rattle.std.proofs.Common.{◌∙◌, sym, ap}
use Rattle.std.specs.Ordering.{nat_cmp}
use Rattle.std.specs.Cmp.Lexicographic.{slice_cmp, nat_list_cmp_total}
use Rattle.std.specs.FinMap as map
use Rattle.mail_base.proofs.Maps.{len-from_entries}
use Rattle.mail_base.proofs.users.Users.len.Goals as goal

pub returns : goal.returns
returns c = c.len.ensures.len
    ∙ sym (len-from_entries (slice_cmp nat_cmp) nat_list_cmp_total c.self.inside.secrets.entries c.len.ensures.ordered)
    ∙ ap (λ m. map.len m) c.self.view_is
