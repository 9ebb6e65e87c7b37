-- What a login lists behind a settled epoch, and what maps name in it, by the records of the members' disks.
use Rattle.std.specs.Prelude.{◌≡◌, ◌≤◌, ℕ, Bool, List, [], All, map, Some}
use Rattle.mail_model.specs.Plan.{Plan}
use Rattle.mail_model.specs.Record.{Record}
use Rattle.object_model.specs.Lists.{Among}
use Rattle.object_model.specs.Sets.{nodes_in}
use Rattle.object_model.specs.Letters.{MapRow, Member, Membership}
use Rattle.cluster_model.specs.Cluster.{set_of_members}
use Rattle.cluster_model.specs.Reads.{ListedCopy}
use Rattle.cluster_model.specs.Starts.{first_membership}
use Rattle.maps_model.specs.Cluster.{manager_of}
use Rattle.maps_model.specs.Words.{ManagersAreMembers}
use Rattle.whole_world.specs.Makes.{MadeStep}
use Rattle.whole_world.specs.Settled.{IsSettled}
use Rattle.login_model.specs.Cluster as login
use Rattle.joint_model.specs.Joint.{Node, user_named_in}
use Rattle.joint_world.specs.World.{World, whole_world_of, mail_world_of, IsUp}
use Rattle.joint_world.specs.Makes.{MakesAll}
use Rattle.joint_world.specs.Laws.{Stands}
use Rattle.joint_world.specs.First.{first_world}
use Rattle.kept_parts.specs.Kept.{PartsHold}
use Rattle.standing_model.specs.Standing.{HasExactly, AreStanding, NamesFragments, MembersAgree}
use Rattle.settled_logins.specs.Reading.{disks_of, IsReaderStep, IsListed}

-- An epoch is settled, no letter is in flight, and then steps of readers are made. Where a user logs in among them at a member, the listing has exactly the messages of the user that stand on the members' disks, each once, in rising order of stamps.
abbrev pub SettledLoginIsShown : Type 0
SettledLoginIsShown = (plan : Plan) (tells : Bool) (story : List (List login.Slot)) (old new : World) (steps : List MadeStep) → Stands plan tells story old → plan.nodes ≤ 64 → PartsHold plan (mail_world_of old)
    → old.flying ≡ [] → (g : Membership) → IsSettled (whole_world_of old) g → MakesAll plan tells old steps new → All IsReaderStep steps
    → (nodes : List ℕ) → HasExactly (set_of_members g.members) nodes → (user : List ℕ) (items : List ListedCopy) → IsListed nodes user items steps
    → AreStanding (disks_of new) nodes user (map (λ (item : ListedCopy). item.id) items)

-- The user's manager is a member that is up in the epoch, and names exactly the members that hold a fragment of the mailbox. So it is told, of as many nodes as the plan has, or of more.
pub record TellsFragments (plan : Plan) (w : World) (g : Membership) (nodes : List ℕ) (user : List ℕ) (manager : ℕ) : Type 0 where
  pub member : Member
  pub among : Among member g.members
  pub same : member.node ≡ manager
  pub node : Node
  pub disk : List Record
  pub up : IsUp w manager node disk
  pub installed : node.whole.maps.installed ≡ Some g
  pub names : (most : ℕ) → plan.nodes ≤ most → NamesFragments (disks_of w) nodes user (Some (manager, nodes_in (user_named_in node.whole.maps user (Some g)) most))

-- In a settled epoch that has a member it is so of each user, and members that are targets of a state say the same.
abbrev pub SettledNamesFragments : Type 0
SettledNamesFragments = (plan : Plan) (tells : Bool) (story : List (List login.Slot)) (w : World) → Stands plan tells story w → plan.nodes ≤ 64 → (g : Membership) → IsSettled (whole_world_of w) g
    → (nodes : List ℕ) → HasExactly (set_of_members g.members) nodes
    → ((member : Member) → Among member g.members → (user : List ℕ) (manager : ℕ) → manager_of g user ≡ Some manager → TellsFragments plan w g nodes user manager) × MembersAgree (disks_of w) nodes

-- The parts on deletions and on octets stay whatever steps are made,
abbrev pub JointStepsKeepParts : Type 0
JointStepsKeepParts = (plan : Plan) (tells : Bool) (story : List (List login.Slot)) (old new : World) (steps : List MadeStep) → plan.nodes ≤ 64 → MakesAll plan tells old steps new → Stands plan tells story old
    → PartsHold plan (mail_world_of old) → PartsHold plan (mail_world_of new)

-- so they hold of every world that comes of a cluster that opens in its first epoch.
abbrev pub JointWorldsHaveParts : Type 0
JointWorldsHaveParts = (plan : Plan) (tells : Bool) (rows : List MapRow) (steps : List MadeStep) (w : World) → 1 ≤ plan.nodes → plan.nodes ≤ 64 → ManagersAreMembers (first_membership plan.nodes rows)
    → MakesAll plan tells (first_world plan.nodes rows) steps w → PartsHold plan (mail_world_of w)
