-- A cluster that opens in its first epoch: each node is up in its first boot, and all nodes of the plan are members.
use Rattle.std.specs.Prelude.{◌≡◌, ℕ, ◌≤◌, ◌<◌, false, zero, suc, List, [], ◌∷◌, length, Some, None}
use Rattle.mail_model.specs.Plan.{Plan}
use Rattle.mail_model.specs.Record.Record.{Boot, Promise}
use Rattle.object_model.specs.Letters.{MapRow}
use Rattle.cluster_model.specs.Starts.{first_epoch, first_membership, fresh_node}
use Rattle.cluster_model.specs.WorldLaws.{opening_world}
use Rattle.maps_model.specs.Cluster as maps
use Rattle.maps_model.specs.Words.{ManagersAreMembers}
use Rattle.whole_model.specs.Whole.{Node, Slot}
use Rattle.whole_world.specs.World.{World, mail_world_of, slot_up}
use Rattle.whole_world.specs.Laws.{Stands}
use Rattle.whole_world.specs.Settled.{IsSettled}
use Rattle.whole_world.specs.Sweeps.{IsCharted}

-- What membership and maps have of such a node: it has promised the first epoch and installed it, and knows nothing of users.
abbrev pub first_maps : ℕ → List MapRow → maps.Node
first_maps nodes map = record {
  boot = 1;
  promise = first_epoch;
  heard = 1;
  group = None;
  installed = Some (first_membership nodes map);
  version = λ user. 0;
  marked = λ user. false;
  rows = λ m boot user. None;
}

abbrev pub first_node : ℕ → List MapRow → Node
first_node nodes map = record { mail = fresh_node nodes map; maps = first_maps nodes map }

-- its disk has the boot, and the promise of that epoch
abbrev pub first_slot : ℕ → List MapRow → Slot
first_slot nodes map = slot_up (first_node nodes map) (Boot 1 ∷ Promise first_epoch ∷ [])

abbrev pub first_slots : ℕ → List MapRow → ℕ → List Slot
first_slots nodes map zero = []
first_slots nodes map (suc k) = first_slot nodes map ∷ first_slots nodes map k

abbrev pub first_world : ℕ → List MapRow → World
first_world nodes map = record { slots = first_slots nodes map nodes; flying = []; sent = 0; seconds = 0; book = [] }

-- Both invariants hold in it, as long as members alone manage users; and messages see it as the opening of theirs.
abbrev pub FirstStands : Type 0
FirstStands = (plan : Plan) (map : List MapRow) → 1 ≤ plan.nodes → plan.nodes ≤ 64 → ManagersAreMembers (first_membership plan.nodes map)
    → Stands plan (first_world plan.nodes map) × (mail_world_of (first_world plan.nodes map) ≡ opening_world plan.nodes map)

-- Nothing is due in it, so it needs no settling. And with a map that has a row for each bucket of the plan it is one that settling counts on.
abbrev pub FirstIsSettled : Type 0
FirstIsSettled = (plan : Plan) (map : List MapRow) → IsSettled (first_world plan.nodes map) (first_membership plan.nodes map)

abbrev pub FirstIsCharted : Type 0
FirstIsCharted = (plan : Plan) (map : List MapRow) → length map ≡ plan.buckets → 0 < plan.buckets → IsCharted plan (first_world plan.nodes map)
