-- The world of the whole machine with calls that read: nodes with all that they keep, letters with their numbers, the seconds and the book.
use Rattle.std.specs.Prelude.{◌≡◌, ℕ, ◌+◌, Bool, List, [], ◌∷◌, ◌++◌, map, Some}
use Rattle.mail_model.specs.Record.{Record}
use Rattle.mail_model.specs.Book.{BookEntry}
use Rattle.object_model.specs.Letters.{Letter}
use Rattle.cluster_model.specs.Room.{Flight}
use Rattle.cluster_model.specs.World as mail
use Rattle.whole_world.specs.World as whole
use Rattle.login_model.specs.Cluster as login
use Rattle.joint_model.specs.Joint.{Node, Slot, Cluster, slot_at, slot_up, whole_slot, read_slot}

-- `sent` is the number of the last letter, and `seconds` are those of the last Tick.
pub record World : Type 0 where
  pub slots : List Slot
  pub flying : List Flight
  pub sent : ℕ
  pub seconds : ℕ
  pub book : List BookEntry

-- the cluster with a story of its slots, where disks tell their octets or do not
abbrev pub cluster_of : Bool → List (List login.Slot) → World → Cluster
cluster_of tells story w = record { tells = tells; slots = w.slots; flying = mail.letters_of w.flying; book = w.book; story = story }

-- the world as messages, membership and maps see it,
abbrev pub whole_world_of : World → whole.World
whole_world_of w = record { slots = map whole_slot w.slots; flying = w.flying; sent = w.sent; seconds = w.seconds; book = w.book }

-- as messages alone see it,
abbrev pub mail_world_of : World → mail.World
mail_world_of w = whole.mail_world_of (whole_world_of w)

-- and as calls that read see it
abbrev pub reads_of : Bool → List (List login.Slot) → World → login.Cluster
reads_of tells story w = record { slots = map (read_slot tells) w.slots; flying = mail.letters_of w.flying; story = story }

-- node `own` is up, with this soft state and this disk
abbrev pub IsUp : World → ℕ → Node → List Record → Type 0
IsUp w own node disk = slot_at w.slots own ≡ Some (slot_up node disk)

-- a letter is put in flight, under the next number
abbrev pub with_letter : World → Letter → World
with_letter w letter = record w { flying = w.flying ++ record { number = w.sent + 1; letter = letter } ∷ []; sent = w.sent + 1 }
