-- One entry of the book.
use Rattle.std.specs.Prelude.{Bool, true, false, Option, Some, None, slice_get}
use Rattle.mail_model.specs.Book.{BookEntry}
use Rattle.cluster_world.specs.Books.{entry_seen}
use Rattle.world_book.specs.declared.entry.Entry.{Entry}
use Rattle.world_book.specs.declared.entry.Entry.TheVariants.{Installed}

-- the definitions have such an entry
abbrev pub is_shown : Entry → Bool
is_shown (Installed node boot epoch) = false
is_shown entry = true

-- what an entry shows; nothing, where there is none
abbrev pub entry_shown : Option Entry → Option BookEntry
entry_shown None = None
entry_shown (Some entry) = slice_get (entry_seen entry) 0
