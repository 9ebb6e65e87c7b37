-- What is told of a world that stays as it is.
use Rattle.std.specs.Prelude.{◌≡◌, ℕ, List, Option, Some, None, Result, IfOk, slice_get}
use Rattle.session_model.specs.Sums.{sum_of}
use Rattle.cluster_world.specs.Worlds.{state_of, life_of, book_of}
use Rattle.cluster_world.specs.Lives.{boot_in_life}
use Rattle.cluster_world.specs.Settling.{maps_in}
use Rattle.cluster_world.specs.Sums.{sum_seen}
use Rattle.cluster_world.specs.declared.sum.BookSum.{BookSum}
use Rattle.world_book.specs.declared.entry.Entry.{Entry}
use Rattle.call_tickets.specs.declared.desk.Life.{Life}
use Rattle.shard_board.specs.declared.part.Part.{Part}
use Rattle.shard_board.specs.Entries.{entry_shown}

-- the life of a node with this boot, by the clock of the world
abbrev pub life_told : ℕ → Option ℕ → Option Life
life_told seconds None = None
life_told seconds (Some boot) = Some (record { boot = boot; seconds = seconds })

module _ {D F C : Type 0} where
  -- the boot of the node if it is up, and the seconds of the clock
  pub record TellsLife (node : ℕ) (old : Part D F C) (life : Option Life) (new : Part D F C) : Type 0 where
    pub life_is : life ≡ life_told (state_of old.world).seconds (boot_in_life (life_of old.world node))
    pub same : new ≡ old

  -- the manager of the user in the latest epoch, and the set that it names
  pub record TellsMap (user : List ℕ) (old : Part D F C) (told : Option (ℕ × ℕ)) (new : Part D F C) : Type 0 where
    pub map_is : told ≡ maps_in (state_of old.world) user
    pub same : new ≡ old

  -- how many entries of each kind the book has
  pub record TellsSum (old : Part D F C) (sum : BookSum) (new : Part D F C) : Type 0 where
    pub sum_is : sum_seen sum ≡ sum_of (book_of old.world)
    pub same : new ≡ old

  -- the entry of the book at the place, if it has so many
  pub record TellsEntry {E : Type 0} (place : ℕ) (old : Part D F C) (entry : Result (Option Entry) E) (new : Part D F C) : Type 0 where
    pub entry_is : IfOk entry (λ found. entry_shown found ≡ slice_get (book_of old.world) place)
    pub same : new ≡ old
