-- What a settle comes to in a world that stands for a sound one of the whole machine, and that maps are right in a world at rest.
use Rattle.std.specs.Prelude.{◌≡◌, ◌⊎◌, ◌≤◌, ℕ, true, List, ⊤, Option, Some, None, Result, Ok, Err}
use Rattle.mail_model.specs.Identity.{Key, State}
use Rattle.mail_model.specs.Plan.{Plan}
use Rattle.object_model.specs.Lists.{Among}
use Rattle.object_model.specs.Said.{said as said_of}
use Rattle.object_model.specs.Sets.{has}
use Rattle.object_model.specs.Letters.{Member, Membership}
use Rattle.maps_model.specs.Cluster.{manager_of}
use Rattle.maps_model.specs.Laws.{named}
use Rattle.whole_model.specs.Whole as whole
use Rattle.whole_world.specs.World as whole_world
use Rattle.whole_world.specs.Settled.{fragments, SaysIt}
use Rattle.joint_world.specs.World as joint_world
use Rattle.joint_world.specs.World.{whole_world_of}
use Rattle.node_store.specs.Disks.{View}
use Rattle.node_maps.specs.Nodes.{node_of}
use Rattle.whole_node.specs.declared.node.WholeNode.{WholeNode}
use Rattle.cluster_world.specs.Lasting.{WasDriven}
use Rattle.cluster_world.specs.Lives.{of_node}
use Rattle.cluster_world.specs.Maps.{StandsForAll}
use Rattle.cluster_world.specs.Opens.{IsAtBeginning}
use Rattle.cluster_world.specs.Made.{StepMade}
use Rattle.cluster_world.specs.Outcomes.{Outcome, Awaited}
use Rattle.cluster_world.specs.Settling.{latest_in, rest_in, IsAtRest, IsRefusedBy, HasLaterInstall, MakesSettle}
use Rattle.cluster_world.specs.Sound.{IsWhole}
use Rattle.cluster_world.specs.Worlds.{WorldState, state_of, plan_of, disks_tell}
use Rattle.cluster_world.specs.declared.life.Life.TheVariants.{Up}
use Rattle.cluster_world.specs.declared.world.World.{World}
use Rattle.cluster_world.specs.declared.fault.StepFault.{StepFault}
use Rattle.cluster_world.specs.declared.settling.Rest.TheVariants.{Absent}
use Rattle.cluster_world.specs.declared.settling.Settle.{Settle}
use Rattle.cluster_world.specs.declared.settling.Settle.TheVariants.{Settled, NotAllUp, Fault}

module _ {D : Type 0} (on : View D) where
  -- Where a member is not live, it was not at first, or an Install of a later epoch was in flight. Where a settle was refused, a step was: no sweep was made in vain.
  abbrev pub SettlesWell : Result Settle StepFault → World D → World D → List StepMade → Type 0
  SettlesWell (Ok Settled) old new steps = ⊤
  SettlesWell (Ok (NotAllUp n)) old new steps = (rest_in (state_of old) ≡ Absent n) ⊎ HasLaterInstall (state_of old)
  SettlesWell (Ok (Fault n)) old new steps = ⊤
  SettlesWell (Err why) old new steps = IsRefusedBy why steps

  -- A settle. In a world that stands for a sound one of the whole machine, over disks that tell, more is known.
  pub record HasSettled (result : Result Settle StepFault) (old new : World D) : Type 0 where
    pub makes : MakesSettle on result old new
    pub well : IsWhole on (plan_of old) old → disks_tell on.seen old ≡ true → SettlesWell result old new makes.steps

  -- The user's manager is a member that is up, and names exactly the members whose disk says that some copy of the user is here.
  pub record IsManagedRight (state : WorldState D) (v : whole_world.World) (g : Membership) (user : List ℕ) : Type 0 where
    pub member : Member
    pub among : Among member g.members
    pub is : manager_of g user ≡ Some member.node
    pub node : WholeNode
    pub up : of_node state.lives member.node ≡ Some (Up node)
    pub installed : (node_of node.maps).installed ≡ Some g
    pub names : named (node_of node.maps) user g.members ≡ fragments v.slots user g.members

  -- Maps are right: so it is of each user, and members that are targets of a state say it alike.
  pub record HasRightMaps (state : WorldState D) : Type 0 where
    pub v : joint_world.World
    pub stands : StandsForAll on state v
    pub membership : Membership
    pub latest : latest_in state.lives ≡ Some membership
    pub users : (user : List ℕ) → IsManagedRight state (whole_world_of v) membership user
    pub agree : (a b : Member) → Among a membership.members → Among b membership.members → (slot : whole.Slot) → whole.slot_at (whole_world_of v).slots a.node ≡ Some slot
        → (key : Key) (said : State) → said_of key slot.disk ≡ Some said → has said.targets b.node ≡ true → SaysIt (whole_world_of v) b.node key said

-- A world that stands for a sound one and is at rest has right maps,
abbrev pub RestsRight : {D : Type 0} → View D → Type 0
RestsRight {D} on = (plan : Plan) (world : World D) → IsWhole on plan world → IsAtRest (state_of world) → HasRightMaps on (state_of world)

-- and so has one that was driven.
abbrev pub SettledMapsAreRight : {D : Type 0} → View D → Type 0
SettledMapsAreRight {D} on = (plan : Plan) (lines : List (List ℕ)) (outcomes : List Outcome) (left : List Awaited) (start last : World D)
    → WasDriven on plan lines outcomes left start last → IsAtRest (state_of last) → HasRightMaps on (state_of last)

-- Where a cluster opens, it is at rest.
abbrev pub OpeningIsAtRest : {D : Type 0} → View D → Type 0
OpeningIsAtRest {D} on = (plan : Plan) (world : World D) → 1 ≤ plan.nodes → plan.nodes ≤ 16 → IsAtBeginning on plan world → IsAtRest (state_of world)
