-- How many entries of each kind a book has, as the definitions see it.
use Rattle.std.specs.Prelude.{ℕ, Bool, true, false, List, length}
use Rattle.std.specs.List.{filter}
use Rattle.session_model.specs.Sums as plain
use Rattle.world_book.specs.declared.entry.Entry.{Entry}
use Rattle.world_book.specs.declared.entry.Entry.TheVariants.{Acked, Struck, Dropped, Lost}
use Rattle.cluster_world.specs.declared.sum.BookSum.{BookSum}

abbrev pub sum_seen : BookSum → plain.BookSum
sum_seen sum = record { acked = sum.acked; struck = sum.struck; dropped = sum.dropped; lost = sum.lost }

-- how many of these there are
abbrev pub count_of : (Entry → Bool) → List Entry → ℕ
count_of is entries = length (filter is entries)

abbrev pub is_acked : Entry → Bool
is_acked (Acked user id seconds size digest confirmers) = true
is_acked entry = false

abbrev pub is_struck : Entry → Bool
is_struck (Struck user id) = true
is_struck entry = false

abbrev pub is_dropped : Entry → Bool
is_dropped (Dropped user id confirmers) = true
is_dropped entry = false

abbrev pub is_lost : Entry → Bool
is_lost (Lost node) = true
is_lost entry = false
