use Rattle.object_table.proofs.Takes.{holds_joins, holds_merges}
use Rattle.object_table.proofs.laws.tables_hold_merges.Goals as goal

pub returns : goal.returns
returns c = record { joins = holds_joins; merges = holds_merges }
