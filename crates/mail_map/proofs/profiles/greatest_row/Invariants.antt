use Rattle.std.proofs.Common.{◌≡◌, None, fold}
use Rattle.std.specs.Option.{option_copied}
use Rattle.std.specs.BTreeMap as tree
use Rattle.mail_map.specs.Profiles.{greater_of}
use Rattle.mail_map.proofs.profiles.greatest_row.Given as goal

abbrev pub invariant-loop-row : goal.invariant-loop-row
invariant-loop-row l = fold greater_of (option_copied l.found) l.row-iterator ≡ fold greater_of None (tree.values l.rows)
