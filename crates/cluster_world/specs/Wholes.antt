-- A world of the program as one of the whole machine, and what then holds of its memberships.
use Rattle.std.specs.Prelude.{◌≡◌, ◌⊎◌, ℕ, List, Some}
use Rattle.mail_model.specs.Plan.{Plan}
use Rattle.object_model.specs.Lists.{Among}
use Rattle.object_model.specs.Letters.{Membership}
use Rattle.object_model.specs.Letters.Body.{Install}
use Rattle.cluster_model.specs.Room.{Flight}
use Rattle.node_store.specs.Disks.{View}
use Rattle.node_maps.specs.Nodes.{node_of}
use Rattle.whole_node.specs.declared.node.WholeNode.{WholeNode}
use Rattle.cluster_world.specs.Lives.{of_node}
use Rattle.cluster_world.specs.Lasting.{WasDriven}
use Rattle.cluster_world.specs.Outcomes.{Outcome, Awaited}
use Rattle.cluster_world.specs.Sound.{IsWhole}
use Rattle.cluster_world.specs.Worlds.{WorldState, state_of}
use Rattle.cluster_world.specs.declared.life.Life.TheVariants.{Up}
use Rattle.cluster_world.specs.declared.world.World.{World}

-- A world that was driven stands for a sound one.
abbrev pub WorldIsWhole : {D : Type 0} → View D → Type 0
WorldIsWhole {D} on = (plan : Plan) (lines : List (List ℕ)) (outcomes : List Outcome) (left : List Awaited) (start last : World D)
    → WasDriven on plan lines outcomes left start last → IsWhole on plan last

-- a node that is up has installed it, or an Install of it is in flight
abbrev pub IsKnownIn : {D : Type 0} → WorldState D → Membership → Type 0
IsKnownIn state g = ((n : ℕ) × (node : WholeNode) × (of_node state.lives n ≡ Some (Up node)) × ((node_of node.maps).installed ≡ Some g))
    ⊎ ((flight : Flight) × Among flight state.flying.flights × (flight.letter.body ≡ Install g))

-- all memberships of one epoch are equal
abbrev pub HasOneMap : {D : Type 0} → WorldState D → Type 0
HasOneMap state = (a b : Membership) → IsKnownIn state a → IsKnownIn state b → a.epoch ≡ b.epoch → a ≡ b

-- So it is in a world that was driven.
abbrev pub OneMapPerEpoch : {D : Type 0} → View D → Type 0
OneMapPerEpoch {D} on = (plan : Plan) (lines : List (List ℕ)) (outcomes : List Outcome) (left : List Awaited) (start last : World D)
    → WasDriven on plan lines outcomes left start last → HasOneMap (state_of last)
