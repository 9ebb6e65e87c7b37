-- What stands while readers alone do something in a settled epoch, step by step.
use Rattle.std.specs.Prelude.{◌≡◌, ◌≤◌, ℕ, Bool, true, List, map}
use Rattle.mail_model.specs.Plan.{Plan, Proof}
use Rattle.mail_model.specs.Record.{Record}
use Rattle.object_model.specs.Lists.{Among}
use Rattle.object_model.specs.Letters.{Number, Letter, Member, Membership, is_read_body}
use Rattle.cluster_model.specs.Cluster.{set_of_members}
use Rattle.cluster_model.specs.Reads.{ListedCopy}
use Rattle.cluster_model.specs.World.{letters_of}
use Rattle.whole_world.specs.Makes.{MadeStep}
use Rattle.whole_world.specs.Settled.{IsSettled}
use Rattle.login_model.specs.Cluster as login
use Rattle.login_model.specs.Listing.{IsFreshLogin}
use Rattle.login_model.specs.Parts as login_parts
use Rattle.login_model.specs.Readings.Subject.{OfUser}
use Rattle.joint_model.specs.Joint.{Node}
use Rattle.joint_world.specs.World.{World, whole_world_of, mail_world_of, reads_of, IsUp}
use Rattle.joint_world.specs.Makes.{MakesStep}
use Rattle.joint_world.specs.Laws.{Stands}
use Rattle.joint_world.specs.Subjects.{IsAbout}
use Rattle.kept_parts.specs.Kept.{PartsHold}
use Rattle.standing_model.specs.Standing.{HasExactly, AreStanding}
use Rattle.settled_logins.specs.Reading.{disks_of, IsReaderStep, login_begun, listing_told}

-- The epoch is settled, and each letter in flight is one of a call that reads. So it is where none is.
pub record ReadersStand (w : World) (g : Membership) : Type 0 where
  pub settled : IsSettled (whole_world_of w) g
  pub letters : (letter : Letter) → Among letter (letters_of w.flying) → is_read_body letter.body ≡ true

-- A node has its maps and its log of updates as before.
pub record KeepsMapsAndLog (before now : Node) : Type 0 where
  pub maps : now.whole.maps ≡ before.whole.maps
  pub log : now.whole.mail.log ≡ before.whole.mail.log

-- No disk changed. Who was up is, with its maps and its log, and nobody else.
pub record IsStill (old new : World) : Type 0 where
  pub disks : disks_of new ≡ disks_of old
  pub up : (n : ℕ) (node : Node) (disk : List Record) → IsUp old n node disk → (now : Node) × IsUp new n now disk × KeepsMapsAndLog node now
  pub was : (n : ℕ) (now : Node) (disk : List Record) → IsUp new n now disk → (node : Node) × IsUp old n node disk × KeepsMapsAndLog node now

-- Steps of readers leave it so.
abbrev pub ReaderStepsStand : Type 0
ReaderStepsStand = (plan : Plan) (tells : Bool) (story : List (List login.Slot)) (old new : World) (made : MadeStep) → Stands plan tells story old → (g : Membership) → ReadersStand old g
    → MakesStep plan tells old made.step made.outcome new → IsReaderStep made → ReadersStand new g × IsStill old new

-- the node is one of the members
abbrev pub IsMember : Membership → ℕ → Type 0
IsMember g n = (member : Member) × Among member g.members × (member.node ≡ n)

-- A login of the user began under this number at a member, and nothing of the user changed since. If its ticket still stands, it reads the mailbox of the user.
-- The story is of its own: what is known of calls that read is known with it.
pub record BeganSettled (tells : Bool) (w : World) (g : Membership) (number : Number) (user : List ℕ) : Type 0 where
  pub member : IsMember g number.node
  pub about : IsAbout tells w number (OfUser user)
  pub story : List (List login.Slot)
  pub sound : login_parts.Sound (reads_of tells story w)
  pub fresh : IsFreshLogin (reads_of tells story w) number user

-- So it is where a login begins in such a world,
abbrev pub LoginsBeginSettled : Type 0
LoginsBeginSettled = (plan : Plan) (tells : Bool) (story : List (List login.Slot)) (old new : World) → Stands plan tells story old → (g : Membership) → ReadersStand old g
    → (n : ℕ) → IsMember g n → (user : List ℕ) (proof : Proof) (number : Number) → MakesStep plan tells old (login_begun n user proof number).step (login_begun n user proof number).outcome new
    → BeganSettled tells new g number user

-- and steps of readers leave it so.
abbrev pub BeganStaysSettled : Type 0
BeganStaysSettled = (plan : Plan) (tells : Bool) (story : List (List login.Slot)) (old new : World) (made : MadeStep) → Stands plan tells story old → (g : Membership) → ReadersStand old g
    → MakesStep plan tells old made.step made.outcome new → IsReaderStep made → (number : Number) (user : List ℕ) → BeganSettled tells old g number user → BeganSettled tells new g number user

-- Then the listing that it is answered with has exactly the messages of the user that stand on the members' disks, each once, in rising order of stamps.
abbrev pub BeganListsStanding : Type 0
BeganListsStanding = (plan : Plan) (tells : Bool) (story : List (List login.Slot)) (old new : World) → Stands plan tells story old → plan.nodes ≤ 64 → PartsHold plan (mail_world_of old)
    → (g : Membership) → ReadersStand old g → (number : Number) (user : List ℕ) → BeganSettled tells old g number user
    → (login : Number) (manager asked : ℕ) (items : List ListedCopy)
    → MakesStep plan tells old (listing_told number login manager asked items).step (listing_told number login manager asked items).outcome new
    → (nodes : List ℕ) → HasExactly (set_of_members g.members) nodes → AreStanding (disks_of old) nodes user (map (λ (item : ListedCopy). item.id) items)
