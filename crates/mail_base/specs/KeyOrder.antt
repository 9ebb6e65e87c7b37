-- How the code's keys are ordered.
use Rattle.std.specs.Ordering.{on}
use Rattle.std.specs.declared.cmp.Ordering.{Ordering}
use Rattle.std.specs.Cmp.{IsTotalOrder}
use Rattle.std.proofs.lemmas.Cmp.{on_total}
use Rattle.object_model.specs.Keys.{key_cmp}
use Rattle.object_model.proofs.MapLaws.{key_total}
use Rattle.mail_base.specs.declared.key.Key.{Key}
use Rattle.mail_base.specs.Seen.{key_seen}

-- as the keys that they stand for
abbrev pub seen_cmp : Key → Key → Ordering
seen_cmp = on key_seen key_cmp

pub seen_total : IsTotalOrder seen_cmp
seen_total = on_total key_seen key_total
