-- The entries that are shown, at their places.
use Rattle.std.proofs.Common.{◌≡◌, ℕ, zero, suc, List, [], ◌∷◌, refl}
use Rattle.std.specs.Prelude.{slice_get}
use Rattle.std.specs.List.{filter}
use Rattle.world_book.specs.declared.entry.Entry.{Entry}
use Rattle.world_book.specs.declared.entry.Entry.TheVariants.{Acked, Struck, Dropped, Installed, Down, Up, Lost}
use Rattle.cluster_world.specs.Books.{entries_seen}
use Rattle.shard_board.specs.Entries.{is_shown, entry_shown}

pub shown_there : (entries : List Entry) (k : ℕ) → entry_shown (slice_get (filter is_shown entries) k) ≡ slice_get (entries_seen entries) k
shown_there [] k = refl
shown_there (Acked user id seconds size digest confirmers ∷ more) zero = refl
shown_there (Acked user id seconds size digest confirmers ∷ more) (suc k) = shown_there more k
shown_there (Struck user id ∷ more) zero = refl
shown_there (Struck user id ∷ more) (suc k) = shown_there more k
shown_there (Dropped user id confirmers ∷ more) zero = refl
shown_there (Dropped user id confirmers ∷ more) (suc k) = shown_there more k
shown_there (Down node ∷ more) zero = refl
shown_there (Down node ∷ more) (suc k) = shown_there more k
shown_there (Up node boot ∷ more) zero = refl
shown_there (Up node boot ∷ more) (suc k) = shown_there more k
shown_there (Lost node ∷ more) zero = refl
shown_there (Lost node ∷ more) (suc k) = shown_there more k
shown_there (Installed node boot epoch ∷ more) k = shown_there more k
