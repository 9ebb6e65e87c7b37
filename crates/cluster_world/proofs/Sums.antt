-- The entries of a kind are as many as the definitions count.
use Rattle.std.proofs.Common.{◌≡◌, ◌++◌, ℕ, suc, Bool, true, false, List, [], ◌∷◌, length, refl, sym, ap, ◌∙◌}
use Rattle.mail_model.specs.Identity.{Id}
use Rattle.session_model.specs.Sums.{BookSum, sum_of, lost_in}
use Rattle.mail_model.specs.Book.{acked_in, struck_in, dropped_in}
use Rattle.world_book.specs.declared.entry.Entry.{Entry}
use Rattle.world_book.specs.declared.entry.Entry.TheVariants.{Acked, Struck, Dropped, Installed, Down, Up, Lost}
use Rattle.cluster_world.specs.Books.{entries_seen}
use Rattle.cluster_world.specs.Sums.{count_of, is_acked, is_struck, is_dropped, is_lost}

acked_count : (entries : List Entry) → count_of is_acked entries ≡ length (acked_in (entries_seen entries))
acked_count [] = refl
acked_count (Acked user id seconds size digest confirmers ∷ more) = ap suc (acked_count more)
acked_count (Struck user id ∷ more) = acked_count more
acked_count (Dropped user id confirmers ∷ more) = acked_count more
acked_count (Installed node boot epoch ∷ more) = acked_count more
acked_count (Down node ∷ more) = acked_count more
acked_count (Up node boot ∷ more) = acked_count more
acked_count (Lost node ∷ more) = acked_count more

struck_count : (entries : List Entry) → count_of is_struck entries ≡ length (struck_in (entries_seen entries))
struck_count [] = refl
struck_count (Acked user id seconds size digest confirmers ∷ more) = struck_count more
struck_count (Struck user id ∷ more) = ap suc (struck_count more)
struck_count (Dropped user id confirmers ∷ more) = struck_count more
struck_count (Installed node boot epoch ∷ more) = struck_count more
struck_count (Down node ∷ more) = struck_count more
struck_count (Up node boot ∷ more) = struck_count more
struck_count (Lost node ∷ more) = struck_count more

dropped_count : (entries : List Entry) → count_of is_dropped entries ≡ length (dropped_in (entries_seen entries))
dropped_count [] = refl
dropped_count (Acked user id seconds size digest confirmers ∷ more) = dropped_count more
dropped_count (Struck user id ∷ more) = dropped_count more
dropped_count (Dropped user id confirmers ∷ more) = ap suc (dropped_count more)
dropped_count (Installed node boot epoch ∷ more) = dropped_count more
dropped_count (Down node ∷ more) = dropped_count more
dropped_count (Up node boot ∷ more) = dropped_count more
dropped_count (Lost node ∷ more) = dropped_count more

lost_count : (entries : List Entry) → count_of is_lost entries ≡ length (lost_in (entries_seen entries))
lost_count [] = refl
lost_count (Acked user id seconds size digest confirmers ∷ more) = lost_count more
lost_count (Struck user id ∷ more) = lost_count more
lost_count (Dropped user id confirmers ∷ more) = lost_count more
lost_count (Installed node boot epoch ∷ more) = lost_count more
lost_count (Down node ∷ more) = lost_count more
lost_count (Up node boot ∷ more) = lost_count more
lost_count (Lost node ∷ more) = ap suc (lost_count more)

abbrev pub counts : List Entry → BookSum
counts entries = record { acked = count_of is_acked entries; struck = count_of is_struck entries; dropped = count_of is_dropped entries; lost = count_of is_lost entries }

pub counted : (entries : List Entry) → counts entries ≡ sum_of (entries_seen entries)
counted entries = rw (acked_count entries, struck_count entries, dropped_count entries, lost_count entries) refl
