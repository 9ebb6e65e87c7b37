-- Books that do not say what clients were told, and stores that do not stand as a book says. Each promise on the book is false of one of them.
use Rattle.std.specs.Prelude.{◌≡◌, ℕ, List, [], ◌∷◌, ◌++◌, map, Option, codes}
use Rattle.mail_model.specs.Identity.{Id}
use Rattle.mail_model.specs.Book.{BookEntry, copies_acked}
use Rattle.mail_model.specs.Book.BookEntry.{Acknowledged, Struck, Dropped}
use Rattle.mail_model.specs.Site.{nth_id}
use Rattle.mail_model.specs.Stored.{Ack, opened, stored_sessions}
use Rattle.session_model.specs.Logs.{Asked, Answered}
use Rattle.session_model.specs.Facts.{ack_of}
use Rattle.session_model.specs.Run.Stop.{BehindLine}
use Rattle.session_model.specs.Sessions.{Session, AreSessions}
use Rattle.session_model.specs.Copies.{DroppedAreGone, OneContent}
use Rattle.session_model.specs.Books.{AcknowledgedAsTold, AcknowledgedStand, StruckAsMarked}
use Rattle.worked_sessions.specs.OneMessage.{small_plan, small_mail, small_octets, small_lines, small_entries, small_records, small_book}
use Rattle.worked_sessions.specs.WrongStores.{other_records}
use Rattle.worked_sessions.specs.WrongReaders.{gone_records}

-- this book does not have the messages that were answered `250 stored`, whoever chooses the sessions, the messages and the nodes that confirmed them
abbrev pub ToldNot : List BookEntry → Type 0
ToldNot book = (sessions : List Session) (acks unwritten : List Ack) (confirmers : List (List ℕ)) → AreSessions small_plan small_lines small_entries sessions
    → map (λ ack. ack.session) acks ≡ stored_sessions (opened small_lines) small_entries → AcknowledgedAsTold BehindLine small_lines sessions acks unwritten confirmers book → ⊥

-- one entry more, of another message
abbrev pub longer_book : List BookEntry
longer_book = small_book ++ map Acknowledged (copies_acked (nth_id 2) 0 small_octets 1 (codes "alice" ∷ []))

-- an entry of a deletion that nobody asked, and one of a deletion that nobody confirmed
abbrev pub struck_book : List BookEntry
struck_book = small_book ++ Struck (codes "alice") (nth_id 1) ∷ []

abbrev pub dropped_book : List BookEntry
dropped_book = small_book ++ Dropped (codes "alice") (nth_id 1) 1 ∷ []

pub record WrongBooks : Type 0 where
  pub lacks_the_entry : ToldNot []
  pub has_one_too_many : ToldNot longer_book
  -- the copy is gone, and the book has no deletion
  pub gone_unstruck : (id : Id) (confirmers : List (List ℕ)) → AcknowledgedStand small_plan (gone_records ∷ []) small_book (ack_of 1 (record { mail = small_mail; id = id }) ∷ []) confirmers → ⊥
  pub struck_unmarked : (sessions : List Session) (asked begun : List Asked) (answered : List Answered) → AreSessions small_plan small_lines small_entries sessions
      → StruckAsMarked BehindLine small_entries sessions asked begun answered struck_book → ⊥
  -- the book says that the copy is deleted, and it is here
  pub dropped_and_here : DroppedAreGone small_plan (small_records ∷ []) dropped_book → ⊥
  -- two nodes have two texts under one id
  pub two_contents : (filed : Id → Option (List ℕ)) → OneContent filed (small_records ∷ other_records ∷ []) → ⊥
