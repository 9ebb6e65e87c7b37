use Rattle.std.proofs.Common.{◌≡◌, ◌++◌}
use Rattle.std.specs.BTreeMap.Range.{entries_between}
use Rattle.std.specs.declared.ops.Bound.TheVariants.{Included}
use Rattle.mail_base.specs.KeyMaps.{entries_seen}
use Rattle.mail_base.specs.KeyOrder.{seen_cmp}
use Rattle.object_table.specs.Mailboxes.{ids_here}
use Rattle.object_table.proofs.mailbox.here_between.Given as goal

abbrev pub invariant-loop-key : goal.invariant-loop-key
invariant-loop-key l =
    l.ids ++ ids_here l.user (entries_seen l.key-iterator) ≡ ids_here l.user (entries_seen (entries_between seen_cmp (Included l.first) (Included l.last) l.held.entries))
