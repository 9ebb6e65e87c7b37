-- A copy that gets a target more at a node of the world.
use Rattle.std.specs.Prelude.{ℕ, List, [], Bool, Result, Ok, Err}
use Rattle.mail_model.specs.Identity.{Key}
use Rattle.node_store.specs.Disks.{View}
use Rattle.node_core.specs.Pushing.{WidensCopy}
use Rattle.node_core.specs.Works.{LeavesUp}
use Rattle.node_core.specs.declared.fault.NodeFault.{NodeFault}
use Rattle.world_book.specs.declared.entry.Entry.{Entry}
use Rattle.cluster_model.specs.Rules.{widen}
use Rattle.whole_node.specs.Following.{FollowsRule}
use Rattle.cluster_world.specs.Turning.{TurnsBy}
use Rattle.cluster_world.specs.Unfinished.{said_of_fault, entries_of_fault}
use Rattle.cluster_world.specs.declared.life.Life.{Life}
use Rattle.cluster_world.specs.declared.step.Said.{Said}
use Rattle.cluster_world.specs.declared.step.Said.TheVariants.{Widened}
use Rattle.cluster_world.specs.declared.fault.StepFault.{StepFault}

abbrev pub said_of_widening : ℕ → Result Bool NodeFault → Result Said StepFault
said_of_widening n (Ok did) = Ok (Widened did)
said_of_widening n (Err why) = said_of_fault n why

abbrev pub entries_of_widening : ℕ → Result Bool NodeFault → List Entry
entries_of_widening n (Ok did) = []
entries_of_widening n (Err why) = entries_of_fault n why

-- node n, which is up, gave the copy the target
abbrev pub WidensAt : {D : Type 0} → View D → (D → Type 0) → ℕ → ℕ → Key → Result Bool NodeFault → Life → D → Life → D → Type 0
WidensAt on is_settled n to key result life disk life' disk' =
    TurnsBy on.seen (λ result old before new after. WidensCopy on n to key old before new after result) (λ result old before new after. FollowsRule (λ node disk. widen n to key node disk) result old new)
    result life disk life' disk'
    × (LeavesUp result → is_settled disk → is_settled disk')
