use Rattle.std.proofs.Common.{◌≡◌}
use Rattle.shard_board.specs.Boards.{quota_of, IsPassOf}
use Rattle.board_trials.specs.Disks.{plainly}
use Rattle.board_bench.proofs.shared.works.Given as goal

-- the pass is one of the board, and has its quota
abbrev pub invariant-loop : goal.invariant-loop
invariant-loop g l = record {
  pass : IsPassOf plainly l.board l.pass;
  quota_is : quota_of l.pass ≡ quota_of l.fn.pass;
}
