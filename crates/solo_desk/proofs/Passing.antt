-- What a call leaves of the pass that it was lent.
use Rattle.std.proofs.Common.{◌≡◌, List, ◌++◌, Some}
use Rattle.mail_model.specs.Book.{BookEntry}
use Rattle.call_tickets.specs.Tells.{TellsMore}
use Rattle.call_tickets.specs.declared.tally.Tally.{Tally}
use Rattle.node_store.specs.Disks.{View}
use Rattle.cluster_world.specs.Books.{IsLongerBook}
use Rattle.cluster_world.specs.Worlds.{book_of}
use Rattle.cluster_world.specs.declared.world.World.{World}
use Rattle.desk_model.proofs.Knowing.{own_more, longer_more}
use Rattle.solo_desk.specs.declared.pass.SoloPass.{SoloPass}
use Rattle.solo_desk.specs.Passes.{start_of, own_entries, IsPass}
use Rattle.solo_desk.specs.Serving.{CanServe}

module _ {D : Type 0} (on : View D) (pass : SoloPass D) (belongs : IsPass on pass) (world : World D) (tally : Tally) where
  -- the pass, once its world and its counts are these
  abbrev pub then_pass : SoloPass D
  then_pass = record { world = world; tally = tally; start = pass.start }

  pub still_belongs : CanServe on world → IsLongerBook (book_of pass.world) (book_of world) → IsPass on then_pass
  still_belongs serves (added, grew) = record { serves = serves; longer = longer_more (book_of (start_of pass)) (book_of pass.world) (book_of world) added belongs.longer grew }

  pub own_grew : (added : List BookEntry) → book_of world ≡ book_of pass.world ++ added → TellsMore (Some (own_entries pass)) added (Some (own_entries then_pass))
  own_grew added grew = own_more (book_of (start_of pass)) (book_of pass.world) (book_of world) added belongs.longer grew
