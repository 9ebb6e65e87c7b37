-- When a desk can be over a world.
use Rattle.std.specs.Prelude.{List}
use Rattle.mail_model.specs.Book.{BookEntry}
use Rattle.joint_world.specs.World.{mail_world_of}
use Rattle.node_store.specs.Disks.{View}
use Rattle.cluster_world.specs.Sound.{IsWhole}
use Rattle.cluster_world.specs.Worlds.{plan_of, book_of, CanMakeSteps}
use Rattle.cluster_world.specs.declared.world.World.{World}
use Rattle.desk_model.specs.Added.{Adds}
use Rattle.desk_model.specs.Tickets.{TicketsAskOneThing}

-- It can make steps, and stands for a sound world of the whole machine, in which each ticket of messages asks for one thing.
pub record CanServe {D : Type 0} (on : View D) (world : World D) : Type 0 where
  pub ready : CanMakeSteps on.seen world
  pub whole : IsWhole on (plan_of world) world
  pub tickets : TicketsAskOneThing (mail_world_of whole.v).slots

-- the book of the world has these entries more
abbrev pub AddsTo : {D : Type 0} → (List BookEntry → Type 0) → World D → World D → Type 0
AddsTo P old new = Adds P (book_of old) (book_of new)
