-- A cluster that opens in its first epoch: each node is up in its first boot, with no tickets and no locks.
use Rattle.std.specs.Prelude.{◌≡◌, ℕ, ◌≤◌, Bool, zero, suc, List, [], ◌∷◌, map}
use Rattle.std.specs.FinMap as fin
use Rattle.mail_model.specs.Plan.{Plan}
use Rattle.mail_model.specs.Record.Record.{Boot, Promise}
use Rattle.object_model.specs.Letters.{MapRow}
use Rattle.cluster_model.specs.Starts.{first_epoch, first_membership}
use Rattle.maps_model.specs.Words.{ManagersAreMembers}
use Rattle.whole_world.specs.First as whole
use Rattle.object_model.specs.Locks.{no_locks}
use Rattle.joint_model.specs.Joint.{Node, Slot, slot_up, read_slot}
use Rattle.joint_world.specs.World.{World, whole_world_of}
use Rattle.joint_world.specs.Laws.{Stands}

abbrev pub first_node : ℕ → List MapRow → Node
first_node nodes rows = record { whole = whole.first_node nodes rows; reads = fin.empty; locks = no_locks }

abbrev pub first_slot : ℕ → List MapRow → Slot
first_slot nodes rows = slot_up (first_node nodes rows) (Boot 1 ∷ Promise first_epoch ∷ [])

abbrev pub first_slots : ℕ → List MapRow → ℕ → List Slot
first_slots nodes rows zero = []
first_slots nodes rows (suc k) = first_slot nodes rows ∷ first_slots nodes rows k

abbrev pub first_world : ℕ → List MapRow → World
first_world nodes rows = record { slots = first_slots nodes rows nodes; flying = []; sent = 0; seconds = 0; book = [] }

-- All stands in it, as long as members alone manage users, with a story of that moment alone; and the whole machine sees it as the opening of its own.
abbrev pub FirstStands : Type 0
FirstStands = (plan : Plan) (tells : Bool) (rows : List MapRow) → 1 ≤ plan.nodes → plan.nodes ≤ 64 → ManagersAreMembers (first_membership plan.nodes rows)
    → Stands plan tells (map (read_slot tells) (first_world plan.nodes rows).slots ∷ []) (first_world plan.nodes rows) × (whole_world_of (first_world plan.nodes rows) ≡ whole.first_world plan.nodes rows)
