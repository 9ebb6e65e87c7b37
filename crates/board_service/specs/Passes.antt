-- Which passes a service over a board has, and how a pass goes on.
use Rattle.std.specs.Prelude.{◌≡◌, ℕ, ◌-◌, ◌^◌, min, Some, ◌∷◌}
use Rattle.mail_model.specs.Plan.{Plan}
use Rattle.node_store.specs.Disks.{View}
use Rattle.shard_board.specs.declared.board.Board.{Board}
use Rattle.shard_board.specs.declared.board.BoardPass.{BoardPass}
use Rattle.shard_board.specs.Boards.{IsPassOf, quota_of, own_entries, joined_entries}
use Rattle.board_service.specs.declared.pass.ServicePass.{ServicePass}
use Rattle.board_service.specs.Disks.{EachTells}
use Rattle.board_service.specs.Visits.{AllEarned, IsStill}

-- the greatest of the numbers by which connections are counted; a count stays there
abbrev pub most : ℕ
most = 2 ^ 64 - 1

-- It is a pass of the board. Its own entries, and those of each pass that it took in, came of as many connections as it has counted.
pub record IsServicePass {D F C : Type 0} (on : View D) (board : Board D F C) (plan : Plan) (pass : ServicePass D F C) : Type 0 where
  pub belongs : IsPassOf on board pass.board
  pub visits : ℕ
  pub served_is : pass.served ≡ min visits most
  pub earned : AllEarned on.seen plan (own_entries pass.board ∷ joined_entries pass.board) visits

-- It is a pass of the board still, with its quota and the entries of the passes that it took in.
pub record StaysPass {D F C : Type 0} (on : View D) (board : Board D F C) (old new : BoardPass D F C) : Type 0 where
  pub belongs : IsPassOf on board new
  pub quota_is : quota_of new ≡ quota_of old
  pub joined_is : joined_entries new ≡ joined_entries old

-- And where each disk tells what it holds, nothing was acknowledged or struck in its name.
pub record GoesStill {D F C : Type 0} (on : View D) (board : Board D F C) (old new : BoardPass D F C) : Type 0 where
  pub stays : StaysPass on board old new
  pub still : EachTells on.seen → IsStill (Some (own_entries old)) (Some (own_entries new))
