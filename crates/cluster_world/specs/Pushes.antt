-- A node of the world that pushes to another.
use Rattle.std.specs.Prelude.{◌≡◌, ℕ, ◌-◌, ◌&&◌, nat_lt, nat_le, nat_eq, Bool, List, length, Result, if◌then◌else◌}
use Rattle.mail_model.specs.Record.{Record}
use Rattle.cluster_model.specs.Room.{Flight, octets_flying, most_letters, most_octets, due_to}
use Rattle.node_store.specs.Disks.{View}
use Rattle.node_core.specs.Nodes.{node_seen, NodeKeeps}
use Rattle.node_core.specs.Pushing.{keys_within, PushesOut}
use Rattle.node_core.specs.declared.fault.NodeFault.{NodeFault}
use Rattle.node_core.specs.declared.outbox.Outbox.{Outbox}
use Rattle.whole_node.specs.declared.node.WholeNode.{WholeNode}
use Rattle.cluster_world.specs.Turning.{TurnsBy}
use Rattle.cluster_world.specs.declared.life.Life.{Life}
use Rattle.cluster_world.specs.declared.life.Life.TheVariants.{Up}

-- how many letters more find room beside so many of so many octets, where these have not passed what they may be
abbrev pub letters_left : ℕ → ℕ → ℕ
letters_left letters octets = if nat_le octets most_octets then most_letters - letters else 0

-- and how many octets more
abbrev pub octets_left : ℕ → ℕ
octets_left octets = most_octets - octets

abbrev pub letters_left_by : List Flight → ℕ
letters_left_by flights = letters_left (length flights) (octets_flying flights)

abbrev pub octets_left_by : List Flight → ℕ
octets_left_by flights = octets_left (octets_flying flights)

-- Something is due to a node, and not even the first letter finds room; whatever records the disk has.
pub record IsCrowdedAt (to most room : ℕ) (crowded : Bool) (life : Life) : Type 0 where
  pub node : WholeNode
  pub up : life ≡ Up node
  pub is : (records : List Record) → NodeKeeps records node.mail
      → crowded ≡ (nat_lt 0 (length (due_to node.mail.store.own to (node_seen node.mail))) && nat_eq (length (keys_within most room node.mail.store.own to (node_seen node.mail) records)) 0)

-- node n, which is up, pushed to another: its maps stay
abbrev pub PushesAt : {D : Type 0} → View D → (D → Type 0) → ℕ → ℕ → ℕ → ℕ → Result Outbox NodeFault → Life → D → Life → D → Type 0
PushesAt on is_settled n to most room result life disk life' disk' =
    TurnsBy on.seen (λ result old before new after. PushesOut on n to most room old before new after result) (λ result old before new after. new.maps ≡ old.maps) result life disk life' disk'
    × (is_settled disk → is_settled disk')
