-- What calls that read were told is on disks still.
use Rattle.std.specs.Prelude.{◌≡◌, ℕ, Bool, true, List, length, take, drop, Some}
use Rattle.mail_model.specs.Identity.{Id, State}
use Rattle.mail_model.specs.Identity.Key.{Message}
use Rattle.mail_model.specs.Identity.Value.{Here}
use Rattle.mail_model.specs.Plan.{Plan}
use Rattle.mail_model.specs.Record.{Record}
use Rattle.mail_model.specs.Record.Record.{Octets as OctetsRecord, Stated}
use Rattle.object_model.specs.Lists.{Among}
use Rattle.object_model.specs.Letters.{Number, ToldItem}
use Rattle.object_model.specs.Letters.ToldPart.{Octets}
use Rattle.login_model.specs.Cluster as login
use Rattle.login_model.specs.Readings.{ToldList, Login, Fetch}
use Rattle.login_model.specs.Readings.LoginStage.{AsksNodes}
use Rattle.login_model.specs.Readings.FetchStage.{IsAnswered}
use Rattle.login_model.specs.Readings.Reading.{LogsIn, Fetches}
use Rattle.joint_model.specs.Joint.{Slot, slot_at}
use Rattle.joint_world.specs.World.{World, reads_of}
use Rattle.joint_world.specs.Laws.{Stands}

-- the disk has a record that says that the user's copy is here, and the octets of the message, which are so many
pub record HasCopy (user : List ℕ) (id : Id) (size : ℕ) (disk : List Record) : Type 0 where
  pub state : State
  pub says : Among (Stated (Message user id) state) disk
  pub here : state.value ≡ Here
  pub octets : List ℕ
  pub holds : Among (OctetsRecord id octets) disk
  pub count : size ≡ length octets

-- Each message that a login was told is on the disk of the node that told it.
abbrev pub ListedIsKept : Type 0
ListedIsKept = (plan : Plan) (tells : Bool) (story : List (List login.Slot)) (w : World) → Stands plan tells story w → (number : Number) (one : Login) → login.NodesRead (reads_of tells story w).slots number (LogsIn one)
    → (named waiting : ℕ) (told : List ToldList) → one.stage ≡ AsksNodes named waiting told → (list : ToldList) → Among list told → (item : ToldItem) → Among item list.items
    → (now : Slot) × (slot_at w.slots list.node ≡ Some now) × HasCopy one.user item.id item.size now.disk

-- these are octets of the message that the disk has, from one on, and at most so many; where disks do not tell, only is known how many the message has
pub record IsPartOf (tells : Bool) (id : Id) (at most : ℕ) (octets : List ℕ) (whole : ℕ) (disk : List Record) : Type 0 where
  pub all : List ℕ
  pub holds : Among (OctetsRecord id all) disk
  pub part : tells ≡ true → octets ≡ take most (drop at all)
  pub count : whole ≡ length all

-- So is the part that a fetch was told.
abbrev pub PartIsKept : Type 0
PartIsKept = (plan : Plan) (tells : Bool) (story : List (List login.Slot)) (w : World) → Stands plan tells story w → (number : Number) (one : Fetch) → login.NodesRead (reads_of tells story w).slots number (Fetches one)
    → (by : ℕ) (octets : List ℕ) (whole : ℕ) → one.stage ≡ IsAnswered by (Octets octets whole) → (now : Slot) × (slot_at w.slots by ≡ Some now) × IsPartOf tells one.id one.at one.most octets whole now.disk
