use Rattle.worked_sessions.proofs.WrongBooks.{wrong_books}
use Rattle.worked_sessions.proofs.laws.wrong_books.Goals as goal

pub returns : goal.returns
returns c = wrong_books
