use Rattle.std.proofs.Common.{◌≡◌, ℕ, true, nat_eq, refl, sym, subst}
use Rattle.shard_board.proofs.board.Board.settle.Goals as goal

pub returns-clause-still : goal.returns-clause-still
returns-clause-still g c = λ alone. c.act.ensures.still (subst (λ (n : ℕ). nat_eq n 1 ≡ true) (sym alone) refl)
