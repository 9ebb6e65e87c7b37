-- How many entries of each kind a book has.
use Rattle.std.specs.Prelude.{ℕ, List, [], ◌∷◌, length}
use Rattle.mail_model.specs.Book.{BookEntry, acked_in, struck_in, dropped_in}
use Rattle.mail_model.specs.Book.BookEntry.{Acknowledged, Struck, Dropped, WentDown, CameUp, WasLost}

-- the nodes that were lost for good, in order
abbrev pub lost_in : List BookEntry → List ℕ
lost_in [] = []
lost_in (Acknowledged copy ∷ book) = lost_in book
lost_in (Struck user id ∷ book) = lost_in book
lost_in (Dropped user id confirmers ∷ book) = lost_in book
lost_in (WentDown node ∷ book) = lost_in book
lost_in (CameUp node boot ∷ book) = lost_in book
lost_in (WasLost node ∷ book) = node ∷ lost_in book

-- How many entries of four kinds there are.
pub record BookSum : Type 0 where
  pub acked : ℕ
  pub struck : ℕ
  pub dropped : ℕ
  pub lost : ℕ

-- those of this book
abbrev pub sum_of : List BookEntry → BookSum
sum_of book = record { acked = length (acked_in book); struck = length (struck_in book); dropped = length (dropped_in book); lost = length (lost_in book) }
