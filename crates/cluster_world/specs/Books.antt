-- The entries of the program's book as those of the definitions.
use Rattle.std.specs.Prelude.{◌≡◌, ℕ, List, [], ◌∷◌, ◌++◌, flat_map}
use Rattle.mail_model.specs.Book.{BookEntry}
use Rattle.mail_model.specs.Book.{BookEntry as plain}
use Rattle.cluster_model.specs.Cluster.{NodeFiling}
use Rattle.world_book.specs.Books.{entries_of}
use Rattle.world_book.specs.declared.book.Book.{Book}
use Rattle.world_book.specs.declared.entry.Entry.{Entry}
use Rattle.world_book.specs.declared.entry.Entry.TheVariants.{Acked, Struck, Dropped, Installed, Down, Up, Lost}

-- an entry; that an epoch was installed is none of the definitions' entries
abbrev pub entry_seen : Entry → List BookEntry
entry_seen (Acked user id seconds length digest confirmers) =
    plain.Acknowledged (record { user = user; id = id; seconds = seconds; size = length; digest = digest; confirmers = confirmers }) ∷ []
entry_seen (Struck user id) = plain.Struck user id ∷ []
entry_seen (Dropped user id confirmers) = plain.Dropped user id confirmers ∷ []
entry_seen (Installed node boot epoch) = []
entry_seen (Down node) = plain.WentDown node ∷ []
entry_seen (Up node boot) = plain.CameUp node boot ∷ []
entry_seen (Lost node) = plain.WasLost node ∷ []

abbrev pub entries_seen : List Entry → List BookEntry
entries_seen entries = flat_map entry_seen entries

abbrev pub booked_by : Book → List BookEntry
booked_by book = entries_seen (entries_of book)

-- The book has what it had, and after that what was added.
abbrev pub IsLongerBook : List BookEntry → List BookEntry → Type 0
IsLongerBook old new = (added : List BookEntry) × (new ≡ old ++ added)

-- the entry of one user's copy of a message that is confirmed
abbrev pub acked_entry : NodeFiling → ℕ → List ℕ → BookEntry
acked_entry filing confirmers user =
    plain.Acknowledged (record { user = user; id = filing.id; seconds = filing.seconds; size = filing.size; digest = filing.digest; confirmers = confirmers })
