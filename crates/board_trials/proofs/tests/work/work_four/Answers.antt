use mathlib.Core.List.{[], ◌∷◌}
use denote.Exit.{no}
use denote.Param.Send.{sendable, shr_send}
use Rattle.std.proofs.Common.{rules}
use Rattle.std.proofs.Crossing as std
use Rattle.board_threads.proofs.Closures.{closure_send}
use Rattle.board_trials.proofs.Threads.{plain_board_sync, plain_pass_send}
use Rattle.board_trials.proofs.tests.work.work_four.Goals as goal

-- it captures the runtime, the allocator and the board, by reference, then both passes
pub join-pass-requires : goal.join-pass-requires
join-pass-requires g c κs = (
  closure_send 1 _ no _ (_ ∷ _ ∷ _ ∷ _ ∷ _ ∷ []) (
    shr_send _ _ _ c.type_bounds.sync-R,
    (shr_send _ _ _ std.sync, (shr_send _ _ _ plain_board_sync, (plain_pass_send, (plain_pass_send, tt)))),
  ),
  (search (plain_pass_send, std.crosses, sendable) depth 30, (search rules, search rules)),
)
