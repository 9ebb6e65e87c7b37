-- Who tells a row: a node in a boot.
use Rattle.std.specs.Prelude.{ℕ}
use Rattle.std.specs.declared.cmp.Ordering.{Ordering}
use Rattle.std.specs.Ordering.{nat_cmp, on, then_cmp}
use Rattle.std.specs.Cmp.{IsTotalOrder}
use Rattle.std.proofs.lemmas.Cmp.{then_total, on_total, nat_cmp_total}

pub record Teller : Type 0 where
  pub node : ℕ
  pub boot : ℕ

abbrev pub teller_cmp : Teller → Teller → Ordering
teller_cmp = then_cmp (on (λ t. t.node) nat_cmp) (on (λ t. t.boot) nat_cmp)

pub teller_total : IsTotalOrder teller_cmp
teller_total = then_total (on_total (λ t. t.node) nat_cmp_total) (on_total (λ t. t.boot) nat_cmp_total)
