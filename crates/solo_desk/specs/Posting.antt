-- What comes of posting a letter that is in flight.
use Rattle.std.specs.Prelude.{◌≡◌, Result, Ok, Err}
use Rattle.call_tickets.specs.declared.desk.DeskFault.{DeskFault}
use Rattle.call_tickets.specs.declared.desk.DeskFault.TheVariants as desk
use Rattle.call_tickets.specs.declared.desk.Posted.{Posted}
use Rattle.call_tickets.specs.declared.desk.Posted.TheVariants.{Did}
use Rattle.cluster_world.specs.declared.step.Said.{Said}
use Rattle.cluster_world.specs.declared.fault.StepFault.{StepFault}
use Rattle.cluster_world.specs.declared.fault.StepFault.TheVariants.{Worn}

-- it was posted, or why not
abbrev pub IsPosted : Result Said StepFault → Result Posted DeskFault → Type 0
IsPosted (Ok what) result = result ≡ Ok Did
IsPosted (Err Worn) result = result ≡ Err desk.Worn
IsPosted (Err why) result = result ≡ Err desk.NoMemory
