-- The list that a book is, and the room that it has.
use Rattle.std.specs.Prelude.{ℕ, ◌-◌, List, vec_len, vec_capacity}
use Rattle.world_book.specs.declared.book.Book.{Book}
use Rattle.world_book.specs.declared.entry.Entry.{Entry}

-- the entries, in the order in which they were added
abbrev pub entries_of : Book → List Entry
entries_of book = book.entries.items

-- how many entries more can be added without memory
abbrev pub spare_of : Book → ℕ
spare_of book = vec_capacity book.entries - vec_len book.entries
