-- What the pass of a desk of one thread holds.
use Rattle.std.specs.Prelude.{List, length, drop}
use Rattle.mail_model.specs.Book.{BookEntry}
use Rattle.node_store.specs.Disks.{View}
use Rattle.cluster_world.specs.Books.{IsLongerBook}
use Rattle.cluster_world.specs.Worlds.{book_of}
use Rattle.cluster_world.specs.declared.world.World.{World}
use Rattle.solo_desk.specs.declared.pass.SoloPass.{SoloPass}
use Rattle.solo_desk.specs.Serving.{CanServe}

-- the world as the pass was made
abbrev pub start_of : {D : Type 0} → SoloPass D → World D
start_of pass = pass.start.value

-- all that the book has behind the entries that stood then
abbrev pub own_entries : {D : Type 0} → SoloPass D → List BookEntry
own_entries pass = drop (length (book_of (start_of pass))) (book_of pass.world)

-- Its world can be served over, and its book begins with the entries that stood.
pub record IsPass {D : Type 0} (on : View D) (pass : SoloPass D) : Type 0 where
  pub serves : CanServe on pass.world
  pub longer : IsLongerBook (book_of (start_of pass)) (book_of pass.world)
