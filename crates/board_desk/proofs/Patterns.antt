-- A pass as the pattern of a desk.
use Rattle.std.proofs.Common.{◌≡◌, sym, ap, subst}
use Rattle.node_store.specs.Disks.{View}
use Rattle.shard_board.specs.declared.board.Board.{Board}
use Rattle.shard_board.specs.declared.board.BoardPass.{BoardPass}
use Rattle.shard_board.specs.Boards.{quota_of, joined_entries, made_known, IsPassOf}
use Rattle.board_desk.specs.Desks.{IsDeskPass}

module _ {D F C : Type 0} (on : View D) (board : Board D F C) (pattern pass : BoardPass D F C) (same : pattern ≡ pass) where
  pub fits : IsPassOf on board pass → IsDeskPass on board pattern pass
  fits belongs = record { belongs = belongs; quota_is = ap quota_of (sym same); joined_is = ap joined_entries (sym same); made_is = ap (made_known on.seen) (sym same) }

  pub still_fits : (one : BoardPass D F C) → IsDeskPass on board pattern one → IsDeskPass on board pass one
  still_fits one belongs = subst (λ (p : BoardPass D F C). IsDeskPass on board p one) same belongs
