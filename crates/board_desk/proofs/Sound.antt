-- A world that is sound behind a board can be served over, and one that stays as it is adds nothing to the book.
use Rattle.std.proofs.Common.{◌≡◌, ap}
use Rattle.node_store.specs.Disks.{View}
use Rattle.cluster_world.specs.Worlds.{book_of}
use Rattle.cluster_world.specs.declared.world.World.{World}
use Rattle.desk_model.specs.Added.{AreQuiet}
use Rattle.shard_board.specs.Worlds.{IsSoundWorld}
use Rattle.solo_desk.specs.Serving.{CanServe, AddsTo}
use Rattle.solo_desk.proofs.Stepping.{same_adds}

module _ {D : Type 0} (on : View D) (world : World D) where
  pub can_serve : IsSoundWorld on world → CanServe on world
  can_serve s = record { ready = s.ready; whole = s.whole; tickets = s.tickets }

  pub is_sound : CanServe on world → IsSoundWorld on world
  is_sound s = record { ready = s.ready; whole = s.whole; tickets = s.tickets }

pub same_world_adds : {D : Type 0} (old new : World D) → new ≡ old → AddsTo AreQuiet old new
same_world_adds old new same = same_adds old new (ap book_of same)
