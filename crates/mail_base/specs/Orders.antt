-- How ids and stamps are ordered.
use Rattle.std.specs.declared.cmp.Ordering.{Ordering}
use Rattle.std.specs.Ordering.{nat_cmp, on, then_cmp}
use Rattle.std.specs.Cmp.{IsTotalOrder}
use Rattle.std.proofs.lemmas.Cmp.{then_total, on_total, nat_cmp_total}
use Rattle.mail_model.specs.Identity.{Id, Stamp}
use Rattle.object_model.specs.Keys.{epoch_cmp}

-- by node, boot and number
abbrev pub id_cmp : Id → Id → Ordering
id_cmp = then_cmp (on (λ i. i.node) nat_cmp) (then_cmp (on (λ i. i.boot) nat_cmp) (on (λ i. i.seq) nat_cmp))

-- by count, boot and node
abbrev pub stamp_cmp : Stamp → Stamp → Ordering
stamp_cmp = then_cmp (on (λ s. s.count) nat_cmp) (then_cmp (on (λ s. s.boot) nat_cmp) (on (λ s. s.node) nat_cmp))

pub id_total : IsTotalOrder id_cmp
id_total = then_total (on_total (λ i. i.node) nat_cmp_total) (then_total (on_total (λ i. i.boot) nat_cmp_total) (on_total (λ i. i.seq) nat_cmp_total))

pub stamp_total : IsTotalOrder stamp_cmp
stamp_total = then_total (on_total (λ s. s.count) nat_cmp_total) (then_total (on_total (λ s. s.boot) nat_cmp_total) (on_total (λ s. s.node) nat_cmp_total))

pub epoch_total : IsTotalOrder epoch_cmp
epoch_total = then_total (on_total (λ e. e.count) nat_cmp_total) (on_total (λ e. e.node) nat_cmp_total)
