use mathlib.Core.List.{[], ◌∷◌}
use denote.Exit.{no}
use denote.Param.Send.{shr_send}
use Rattle.std.proofs.Crossing as std
use Rattle.board_threads.proofs.Closures.{closure_send}
use Rattle.board_bench.proofs.Threads.{mutex_sync, count_sync, work_sync}
use Rattle.board_bench.proofs.guarded.+halves.Goals as goal

-- it captures by reference the runtime, the allocator, the Mutex, two counts, and between them the work
pub join-turns-requires-send-F : goal.join-turns-requires-send-F
join-turns-requires-send-F g t c κs lives = closure_send 1 _ no _ (_ ∷ _ ∷ _ ∷ _ ∷ _ ∷ _ ∷ []) (
  shr_send _ _ _ c.requires,
  (shr_send _ _ _ std.sync, (shr_send _ _ _ mutex_sync, (shr_send _ _ _ count_sync, (shr_send _ _ _ work_sync, (shr_send _ _ _ count_sync, tt))))),
)
