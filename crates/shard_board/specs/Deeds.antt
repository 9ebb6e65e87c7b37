-- What a turn does to a world.
use Rattle.std.specs.Prelude.{◌≡◌, ◌⊎◌, ℕ, Bool, true, false, nat_eq, None, Result, Err}
use Rattle.node_store.specs.Disks.{View}
use Rattle.cluster_world.specs.Steps.{IsStep}
use Rattle.cluster_world.specs.Regroups.{HasRegrouped}
use Rattle.cluster_world.specs.Rests.{HasSettled}
use Rattle.cluster_world.specs.declared.world.World.{World}
use Rattle.cluster_world.specs.declared.step.Step.{Step}
use Rattle.cluster_world.specs.declared.step.Step.TheVariants.{Push, Start}
use Rattle.cluster_world.specs.declared.step.Said.{Said}
use Rattle.cluster_world.specs.declared.regrouping.Regroup.{Regroup}
use Rattle.cluster_world.specs.declared.settling.Settle.{Settle}
use Rattle.cluster_world.specs.declared.fault.StepFault.{StepFault}
use Rattle.cluster_world.specs.declared.fault.StepFault.TheVariants.{NoMemory}

-- The world made this one step; or memory ran out before it, and nothing was done.
abbrev pub MakesOne : {D : Type 0} → View D → Result Said StepFault → Step → World D → World D → Type 0
MakesOne on result step old new = IsStep on result step old new ⊎ ((result ≡ Err (NoMemory None)) × (new ≡ old))

-- The world made a whole regroup by this node; or memory ran out before it, and nothing was done.
abbrev pub Regroups : {D : Type 0} → View D → ℕ → Result Regroup StepFault → World D → World D → Type 0
Regroups on node result old new = HasRegrouped on node result old new ⊎ ((result ≡ Err (NoMemory None)) × (new ≡ old))

-- The world was brought to rest, as far as it went; or memory ran out before it, and nothing was done.
abbrev pub Settles : {D : Type 0} → View D → Result Settle StepFault → World D → World D → Type 0
Settles on result old new = HasSettled on result old new ⊎ ((result ≡ Err (NoMemory None)) × (new ≡ old))

-- Over so many nodes the step reads from no disk what the machine has to know: all but a start, and a push among several nodes.
abbrev pub is_blind : ℕ → Step → Bool
is_blind nodes (Push from to) = nat_eq nodes 1
is_blind nodes (Start node) = false
is_blind nodes step = true
