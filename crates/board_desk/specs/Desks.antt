-- Which passes a desk over a board has, and what is told of their own entries.
use Rattle.std.specs.Prelude.{◌≡◌, ℕ, cond, List, Option, Some, None}
use Rattle.mail_model.specs.Book.{BookEntry}
use Rattle.node_store.specs.Disks.{View}
use Rattle.shard_board.specs.declared.board.Board.{Board}
use Rattle.shard_board.specs.declared.board.BoardPass.{BoardPass}
use Rattle.shard_board.specs.Boards.{quota_of, own_entries, joined_entries, tells_still, made_known, IsPassOf}

module _ {D F C : Type 0} where
  -- the entries that its own turns added, as long as it tells
  abbrev pub told_entries : (D → Option (List ℕ)) → BoardPass D F C → Option (List BookEntry)
  told_entries seen pass = cond (tells_still seen pass) (Some (own_entries pass)) None

  -- It is a pass of the board, with the quota of the pattern, and the entries of the passes that the pattern took in. What it made is known where what the pattern made is.
  pub record IsDeskPass (on : View D) (board : Board D F C) (pattern pass : BoardPass D F C) : Type 0 where
    pub belongs : IsPassOf on board pass
    pub quota_is : quota_of pass ≡ quota_of pattern
    pub joined_is : joined_entries pass ≡ joined_entries pattern
    pub made_is : made_known on.seen pass ≡ made_known on.seen pattern
