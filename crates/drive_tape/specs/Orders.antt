-- Whether a run line that moves the cluster may do so.
use Rattle.std.specs.Prelude.{◌≡◌, ℕ, true, false, Option, Some, None, Result, Ok, Err}
use Rattle.mail_model.specs.Plan.{Plan}
use Rattle.mail_model.specs.Site as site
use Rattle.mail_model.specs.Tape as tape
use Rattle.session_model.specs.Events.{NodeLife}
use Rattle.session_model.specs.Run.{is_no_node, fault_if, cluster_refusal}
use Rattle.cluster_world.specs.Worlds.{plan_of, life_of}
use Rattle.cluster_world.specs.declared.world.World.{World}
use Rattle.drive_tape.specs.declared.drove.TapeFault.{TapeFault}
use Rattle.drive_tape.specs.declared.drove.TapeFault.TheVariants.{NoSuchNode}
use Rattle.drive_tape.specs.declared.orders.Admitted.{Admitted}
use Rattle.drive_tape.specs.declared.orders.Admitted.TheVariants.{Crash, Start, Lose, Post, Drop, Flow, Push, Widen, Group, Conclude, Regroup, Report, Settle, Maps, Tick, Sum}
use Rattle.drive_tape.specs.Faults.{tape_fault_seen}

-- the plan has the node, or it has not
abbrev pub AdmitsNode : Plan → ℕ → Result ℕ TapeFault → Type 0
AdmitsNode plan number (Ok node) = (node ≡ number) × (is_no_node plan number ≡ false)
AdmitsNode plan number (Err fault) = (fault ≡ NoSuchNode) × (is_no_node plan number ≡ true)

-- nothing is wrong with how the node is, or this is
abbrev pub AdmitsBy : {T : Type 0} → (NodeLife → Option site.TapeFault) → NodeLife → Result T TapeFault → Type 0
AdmitsBy fault_of life (Ok _) = fault_of life ≡ None
AdmitsBy fault_of life (Err fault) = fault_of life ≡ Some (tape_fault_seen fault)

-- the node is of the plan, and nothing is wrong with how it is; or the first of both that is wrong
abbrev pub AdmitsWorker : {D : Type 0} → (NodeLife → Option site.TapeFault) → World D → ℕ → Result ℕ TapeFault → Type 0
AdmitsWorker fault_of world number (Ok node) =
    (node ≡ number) × (is_no_node (plan_of world) number ≡ false) × (fault_of (life_of world number) ≡ None)
AdmitsWorker fault_of world number (Err fault) =
    tape.or_else (fault_if (is_no_node (plan_of world) number) site.TapeFault.NoSuchNode) (fault_of (life_of world number)) ≡ Some (tape_fault_seen fault)

-- the order, as the definitions have it
abbrev pub admitted_seen : Admitted → tape.ClusterOrder
admitted_seen (Crash node) = tape.ClusterOrder.Crash node
admitted_seen (Start node) = tape.ClusterOrder.Start node
admitted_seen (Lose node) = tape.ClusterOrder.Lose node
admitted_seen (Post letter true) = tape.ClusterOrder.Again letter
admitted_seen (Post letter false) = tape.ClusterOrder.Post letter
admitted_seen (Drop letter) = tape.ClusterOrder.Drop letter
admitted_seen Flow = tape.ClusterOrder.Flow
admitted_seen (Push node) = tape.ClusterOrder.Push node
admitted_seen (Widen at user id to) = tape.ClusterOrder.Widen at user id to
admitted_seen (Group node) = tape.ClusterOrder.Group node
admitted_seen (Conclude node) = tape.ClusterOrder.Conclude node
admitted_seen (Regroup node) = tape.ClusterOrder.Regroup node
admitted_seen (Report node) = tape.ClusterOrder.Report node
admitted_seen Settle = tape.ClusterOrder.Settle
admitted_seen (Maps user) = tape.ClusterOrder.Maps user
admitted_seen (Tick seconds) = tape.ClusterOrder.Tick seconds
admitted_seen Sum = tape.ClusterOrder.Sum

-- the order is not refused, or this is its fault
abbrev pub Admits : {D : Type 0} → World D → tape.ClusterOrder → Result Admitted TapeFault → Type 0
Admits world order (Ok admitted) = (admitted_seen admitted ≡ order) × (cluster_refusal (plan_of world) (life_of world) order ≡ None)
Admits world order (Err fault) = cluster_refusal (plan_of world) (life_of world) order ≡ Some (tape_fault_seen fault)
