use mathlib.Core.List.{[], ◌∷◌}
use denote.Exit.{no}
use denote.Param.Send.{IsSync, sendable, shr_send}
use Rattle.std.proofs.Common.{rules}
use Rattle.std.proofs.Crossing as std
use Rattle.board_threads.proofs.Closures.{closure_send}
use Rattle.board_threads.proofs.Mail.{plan_sync}
use Rattle.board_trials.specs.contracts.tests.held.OneWaits as gate
use Rattle.board_trials.proofs.Threads.{memory_board_sync, memory_pass_send}
use Rattle.board_trials.proofs.tests.held.send_both.Goals as goal

gate_sync : IsSync gate.the_row
gate_sync = search (std.crosses, sendable) depth 20

-- it captures the runtime, the allocator, the gate and the board, by reference, then the pass, and the plan by reference
pub join-pass-requires : goal.join-pass-requires
join-pass-requires g c κs = (
  closure_send 1 _ no _ (_ ∷ _ ∷ _ ∷ _ ∷ _ ∷ _ ∷ []) (
    shr_send _ _ _ c.type_bounds.sync-R,
    (shr_send _ _ _ std.sync, (shr_send _ _ _ gate_sync, (shr_send _ _ _ memory_board_sync, (memory_pass_send, (shr_send _ _ _ plan_sync, tt))))),
  ),
  (search (memory_pass_send, std.crosses, sendable) depth 30, (search rules, search rules)),
)
