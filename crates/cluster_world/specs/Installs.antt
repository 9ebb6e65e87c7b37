-- What the book has of the epochs that nodes installed.
use Rattle.std.specs.Prelude.{◌≡◌, ℕ, List, [], ◌∷◌, ◌++◌, flat_map, Option, Some, None, if◌then◌else◌}
use Rattle.mail_model.specs.Identity.{EpochId, no_epoch}
use Rattle.object_model.specs.Keys.{is_same_epoch}
use Rattle.object_model.specs.Letters.{Letter}
use Rattle.cluster_model.specs.Cluster as plain
use Rattle.cluster_model.specs.Cluster.{epoch_of}
use Rattle.cluster_model.specs.Room.{Flight}
use Rattle.cluster_model.specs.Steps.{letter_at}
use Rattle.whole_node.specs.Hearing.{is_install}
use Rattle.world_book.specs.Books.{entries_of}
use Rattle.world_book.specs.declared.book.Book.{Book}
use Rattle.world_book.specs.declared.entry.Entry.{Entry}
use Rattle.world_book.specs.declared.entry.Entry.TheVariants.{Installed}
use Rattle.cluster_world.specs.Lives.{of_node}
use Rattle.cluster_world.specs.Worlds.{state_of, lives_of, node_of_life}
use Rattle.cluster_world.specs.declared.life.Life.{Life}
use Rattle.cluster_world.specs.declared.world.World.{World}
use Rattle.cluster_world.specs.declared.step.Step.{Step}
use Rattle.cluster_world.specs.declared.step.Step.TheVariants.{Post, Conclude}

-- the entry, where it says that a node installed an epoch
abbrev pub install_in : Entry → List Entry
install_in (Installed node boot epoch) = Installed node boot epoch ∷ []
install_in entry = []

-- those of the entries that say so
abbrev pub installs_in : List Entry → List Entry
installs_in entries = flat_map install_in entries

abbrev pub installs_booked : Book → List Entry
installs_booked book = installs_in (entries_of book)

-- what the book of a world has of that
abbrev pub installs_of : {D : Type 0} → World D → List Entry
installs_of world = installs_booked world.book

-- the epoch that a node has installed; that of no epoch where it has none, or is not up
abbrev pub epoch_on : Option plain.Node → EpochId
epoch_on None = no_epoch
epoch_on (Some node) = epoch_of node

abbrev pub epoch_at : List Life → ℕ → EpochId
epoch_at lives n = epoch_on (node_of_life (of_node lives n))

-- who hears an Install by this letter
abbrev pub hearer_of_install : Option Letter → Option ℕ
hearer_of_install None = None
hearer_of_install (Some letter) = if is_install letter.body then Some letter.to else None

-- who may install an epoch in a step: the node that concludes its group, and the receiver of an Install
abbrev pub installer : Step → List Flight → Option ℕ
installer (Conclude node) flights = Some node
installer (Post number keep) flights = hearer_of_install (letter_at number flights)
installer step flights = None

-- the entry of node n, which is up in this boot and has this epoch, where it had another one
abbrev pub entry_of_epoch : ℕ → ℕ → EpochId → EpochId → List Entry
entry_of_epoch n boot was epoch = if is_same_epoch epoch was then [] else Installed n boot epoch ∷ []

abbrev pub entry_of_install : ℕ → EpochId → Option plain.Node → List Entry
entry_of_install n was None = []
entry_of_install n was (Some node) = entry_of_epoch n node.boot was (epoch_of node)

abbrev pub entries_of_install : Option ℕ → List Life → List Life → List Entry
entries_of_install None old new = []
entries_of_install (Some n) old new = entry_of_install n (epoch_at old n) (node_of_life (of_node new n))

-- After a step the book has what it had of installed epochs. Where the node that may install one in that step has another epoch than before, its entry comes behind, in the boot in which it is up;
-- and nothing else does.
abbrev pub AddsInstalls : Step → List Flight → List Life → Book → List Life → Book → Type 0
AddsInstalls step flights old book new book' = installs_booked book' ≡ installs_booked book ++ entries_of_install (installer step flights) old new

abbrev pub BooksInstalls : {D : Type 0} → Step → World D → World D → Type 0
BooksInstalls step old new = AddsInstalls step (state_of old).flying.flights (lives_of old) old.book (lives_of new) new.book
