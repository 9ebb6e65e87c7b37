use mathlib.Core.List.{[], ◌∷◌}
use denote.Exit.{no}
use denote.Param.Send.{sendable, shr_send}
use Rattle.std.proofs.Crossing as std
use Rattle.board_threads.proofs.Closures.{closure_send}
use Rattle.board_bench.proofs.Threads.{shared_sync, hand_send, count_sync, work_sync}
use Rattle.board_bench.proofs.shared.+halves.Goals as goal

-- it captures the runtime, the allocator and the board, by reference, then the pass, and then two counts and the work by reference
pub join-pass-requires-send-F : goal.join-pass-requires-send-F
join-pass-requires-send-F g t c κs lives = closure_send 1 _ no _ (_ ∷ _ ∷ _ ∷ _ ∷ _ ∷ _ ∷ _ ∷ []) (
  shr_send _ _ _ c.requires.sync,
  (shr_send _ _ _ std.sync, (shr_send _ _ _ shared_sync, (hand_send, (shr_send _ _ _ count_sync, (shr_send _ _ _ work_sync, (shr_send _ _ _ count_sync, tt)))))),
)

pub join-pass-requires-send-A : goal.join-pass-requires-send-A
join-pass-requires-send-A g t c κs lives = search (hand_send, sendable) depth 30
