use Rattle.std.proofs.Common.{◌≡◌, drop, slice_get}
use Rattle.std.specs.List.{filter}
use Rattle.shard_board.specs.Entries.{is_shown}
use Rattle.shard_board.proofs.entries.shown_at.Given as goal

-- what is sought is sought in what is left
abbrev pub invariant-loop-entry : goal.invariant-loop-entry
invariant-loop-entry l = slice_get (filter is_shown (drop l.entry-index l.entries)) l.left ≡ slice_get (filter is_shown l.entries) l.place
