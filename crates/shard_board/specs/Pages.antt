-- What the turns of a board did, page by page: what each added to the book, and whether the machine's part in it is known.
use Rattle.std.specs.Prelude.{ℕ, Bool, ◌||◌, Option, List, length, drop, flat_map}
use Rattle.std.specs.List.{list_all}
use Rattle.mail_model.specs.Book.{BookEntry}
use Rattle.cluster_world.specs.Worlds.{book_of, disks_tell}
use Rattle.cluster_world.specs.declared.world.World.{World}
use Rattle.shard_board.specs.declared.page.Page.{Page}

module _ {D : Type 0} where
  -- what stands in the book behind the entries that the deed found
  abbrev pub entries_on : Page D → List BookEntry
  entries_on page = drop (length (book_of page.before.value)) (book_of page.after.value)

  -- all that these pages have, one after another
  abbrev pub all_on : List (Page D) → List BookEntry
  all_on pages = flat_map entries_on pages

  module _ (seen : D → Option (List ℕ)) where
    -- What the machine does in a deed over this world is known: the deed is blind, or the disks tell what they hold.
    abbrev pub is_known_over : Bool → World D → Bool
    is_known_over blind world = blind || disks_tell seen world

    -- and so it is of a page
    abbrev pub is_known : Page D → Bool
    is_known page = is_known_over page.blind.value page.before.value

    -- of each of these pages
    abbrev pub are_known : List (Page D) → Bool
    are_known pages = list_all (λ page. is_known page) pages
