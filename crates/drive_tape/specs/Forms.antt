-- What is said of a group that was to be opened or concluded, of a regroup, and of a settle.
use Rattle.std.specs.Prelude.{◌≡◌, ⊤, Result, Ok, Err}
use Rattle.cluster_world.specs.declared.step.Said.{Said}
use Rattle.cluster_world.specs.declared.step.Said.TheVariants as said
use Rattle.cluster_world.specs.declared.fault.StepFault.{StepFault}
use Rattle.cluster_world.specs.declared.regrouping.Regroup.{Regroup}
use Rattle.cluster_world.specs.declared.regrouping.Regroup.TheVariants.{Formed, Fault}
use Rattle.cluster_world.specs.declared.settling.Settle.{Settle}
use Rattle.cluster_world.specs.declared.settling.Settle.TheVariants as settle
use Rattle.cluster_world.specs.declared.settling.Settle.TheVariants.{Settled, NotAllUp}
use Rattle.drive_tape.specs.declared.drove.Stop.{Stop}
use Rattle.drive_tape.specs.declared.event.ClusterEvent.{ClusterEvent}
use Rattle.drive_tape.specs.declared.event.ClusterEvent.TheVariants as event
use Rattle.drive_tape.specs.Denials.{stop_by}

-- a group is open, or was concluded, or its node failed, or the step was refused
abbrev pub IsSaidOfForming : Result Said StepFault → Type 0
IsSaidOfForming (Ok (said.Grouped epoch)) = ⊤
IsSaidOfForming (Ok (said.Concluded epoch members)) = ⊤
IsSaidOfForming (Ok (said.Faulted node)) = ⊤
IsSaidOfForming (Ok what) = ⊥
IsSaidOfForming (Err why) = ⊤

-- what is told of it
abbrev pub FormsTo : Result Said StepFault → Result ClusterEvent Stop → Type 0
FormsTo (Ok (said.Grouped epoch)) (Ok happened) = happened ≡ event.HasGrouped epoch
FormsTo (Ok (said.Grouped epoch)) (Err stop) = ⊥
FormsTo (Ok (said.Concluded epoch members)) (Ok happened) = happened ≡ event.HasFormed epoch members
FormsTo (Ok (said.Concluded epoch members)) (Err stop) = ⊥
FormsTo (Ok (said.Faulted node)) (Ok happened) = happened ≡ event.HasFaulted node
FormsTo (Ok (said.Faulted node)) (Err stop) = ⊥
FormsTo (Ok what) (Ok happened) = ⊥
FormsTo (Ok what) (Err stop) = ⊤
FormsTo (Err why) (Ok happened) = ⊥
FormsTo (Err why) (Err stop) = stop ≡ stop_by why

-- of a settle
abbrev pub SettlesTo : Result Settle StepFault → Result ClusterEvent Stop → Type 0
SettlesTo (Ok Settled) (Ok happened) = happened ≡ event.HasSettled
SettlesTo (Ok Settled) (Err stop) = ⊥
SettlesTo (Ok (NotAllUp member)) (Ok happened) = happened ≡ event.WasAbsent member
SettlesTo (Ok (NotAllUp member)) (Err stop) = ⊥
SettlesTo (Ok (settle.Fault failed)) (Ok happened) = happened ≡ event.HasFaulted failed
SettlesTo (Ok (settle.Fault failed)) (Err stop) = ⊥
SettlesTo (Err why) (Ok happened) = ⊥
SettlesTo (Err why) (Err stop) = stop ≡ stop_by why

-- and of a regroup
abbrev pub RegroupsTo : Result Regroup StepFault → Result ClusterEvent Stop → Type 0
RegroupsTo (Ok (Formed epoch members)) (Ok happened) = happened ≡ event.HasFormed epoch members
RegroupsTo (Ok (Formed epoch members)) (Err stop) = ⊥
RegroupsTo (Ok (Fault failed)) (Ok happened) = happened ≡ event.HasFaulted failed
RegroupsTo (Ok (Fault failed)) (Err stop) = ⊥
RegroupsTo (Err why) (Ok happened) = ⊥
RegroupsTo (Err why) (Err stop) = stop ≡ stop_by why
