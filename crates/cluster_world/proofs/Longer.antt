-- A book only gets longer.
use Rattle.std.proofs.Common.{◌≡◌, List, [], ◌++◌, append-nil, sym, ap, ◌∙◌}
use Rattle.mail_model.specs.Book.{BookEntry}
use Rattle.world_book.specs.Books.{entries_of}
use Rattle.world_book.specs.declared.book.Book.{Book}
use Rattle.world_book.specs.declared.entry.Entry.{Entry}
use Rattle.cluster_world.specs.Books.{entries_seen, booked_by, IsLongerBook}
use Rattle.cluster_world.proofs.Falling.{entries_more}

pub same_book : (old : List BookEntry) → IsLongerBook old old
same_book old = ([], sym (append-nil old))

pub as_long : (old new : List BookEntry) → new ≡ old → IsLongerBook old new
as_long old new same = ([], same ∙ sym (append-nil old))

pub longer_by : (book book' : Book) (items : List Entry) → entries_of book' ≡ entries_of book ++ items → IsLongerBook (booked_by book) (booked_by book')
longer_by book book' items wrote = (entries_seen items, ap entries_seen wrote ∙ entries_more (entries_of book) items)
