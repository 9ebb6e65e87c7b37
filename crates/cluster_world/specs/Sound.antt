-- A world of the program that stands for a sound one with all that nodes keep.
use Rattle.std.specs.Prelude.{List}
use Rattle.mail_model.specs.Plan.{Plan}
use Rattle.whole_world.specs.Sweeps.{IsCharted}
use Rattle.login_model.specs.Cluster as login
use Rattle.joint_world.specs.World as joint_world
use Rattle.joint_world.specs.Laws.{Stands}
use Rattle.node_store.specs.Disks.{View}
use Rattle.cluster_world.specs.Maps.{StandsForAll}
use Rattle.cluster_world.specs.Worlds.{state_of, disks_tell}
use Rattle.cluster_world.specs.declared.world.World.{World}

-- it stands for a sound one, with a story of all moments so far, and settling can count on it
pub record IsWhole {D : Type 0} (on : View D) (plan : Plan) (world : World D) : Type 0 where
  pub v : joint_world.World
  pub story : List (List login.Slot)
  pub sound : Stands plan (disks_tell on.seen world) story v
  pub charted : IsCharted plan (joint_world.whole_world_of v)
  pub stands : StandsForAll on (state_of world) v
