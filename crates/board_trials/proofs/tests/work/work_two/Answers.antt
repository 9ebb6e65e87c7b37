use mathlib.Core.List.{[], ◌∷◌}
use denote.Exit.{no}
use denote.Param.Send.{sendable, shr_send, shr_slice_send}
use Rattle.std.proofs.Common.{rules}
use Rattle.std.proofs.Crossing as std
use Rattle.board_threads.proofs.Closures.{closure_send, octet_sync}
use Rattle.board_trials.proofs.Threads.{plain_board_sync, plain_pass_send}
use Rattle.board_trials.proofs.tests.work.work_two.Goals as goal

-- it captures the runtime, the allocator and the board, by reference, then the pass and the name of the user
pub join-pass-requires : goal.join-pass-requires
join-pass-requires g c κs = (
  closure_send 1 _ no _ (_ ∷ _ ∷ _ ∷ _ ∷ _ ∷ []) (
    shr_send _ _ _ c.type_bounds.sync-R,
    (shr_send _ _ _ std.sync, (shr_send _ _ _ plain_board_sync, (plain_pass_send, (shr_slice_send _ _ _ octet_sync, tt)))),
  ),
  (search (plain_pass_send, std.crosses, sendable) depth 30, (search rules, search rules)),
)
