-- What an order of an operator does.
use Rattle.std.specs.Prelude.{◌≡◌, ℕ, Bool, true, nat_eq, List, Result, Ok, Err}
use Rattle.session_model.specs.Sums.{sum_of}
use Rattle.node_store.specs.Disks.{View}
use Rattle.cluster_world.specs.Settling.{maps_in}
use Rattle.cluster_world.specs.Worlds.{state_of, book_of}
use Rattle.cluster_world.specs.Sums.{sum_seen}
use Rattle.cluster_world.specs.declared.step.Step.{Step}
use Rattle.cluster_world.specs.declared.step.Step.TheVariants as step
use Rattle.cluster_world.specs.declared.step.Said.{Said}
use Rattle.cluster_world.specs.declared.fault.StepFault.{StepFault}
use Rattle.cluster_world.specs.declared.regrouping.Regroup.{Regroup}
use Rattle.cluster_world.specs.declared.settling.Settle.{Settle}
use Rattle.shard_board.specs.declared.order.Order.{Order}
use Rattle.shard_board.specs.declared.order.Order.TheVariants as order
use Rattle.shard_board.specs.declared.order.Told.{Told}
use Rattle.shard_board.specs.declared.order.Told.TheVariants as told
use Rattle.shard_board.specs.declared.part.Part.{Part}
use Rattle.shard_board.specs.Deeds.{MakesOne, Regroups, Settles, is_blind}

-- what is ordered of a world: one step, a whole regroup by a node, to settle, to tell a user's map, or to count the entries of its book
pub data Ordered : Type 0 where
  OneStep : (one : Step) → Ordered
  Regrouped : (node : ℕ) → Ordered
  Settled : Ordered
  Mapped : (user : List ℕ) → Ordered
  Counted : Ordered

abbrev pub ordered_by : Order → Ordered
ordered_by (order.Crash node) = OneStep (step.Crash node)
ordered_by (order.Start node) = OneStep (step.Start node)
ordered_by (order.Lose node) = OneStep (step.Lose node)
ordered_by (order.Push from to) = OneStep (step.Push from to)
ordered_by (order.Widen at user id to) = OneStep (step.Widen at user id to)
ordered_by (order.Regroup node) = Regrouped node
ordered_by (order.Report from to) = OneStep (step.Report from to)
ordered_by order.Settle = Settled
ordered_by (order.Maps user) = Mapped user
ordered_by order.Sum = Counted

-- over so many nodes what is ordered is blind; a regroup, a map and a count read nothing from a disk, and a settle pushes among several nodes
abbrev pub is_blind_order : ℕ → Ordered → Bool
is_blind_order nodes (OneStep one) = is_blind nodes one
is_blind_order nodes (Regrouped node) = true
is_blind_order nodes Settled = nat_eq nodes 1
is_blind_order nodes (Mapped user) = true
is_blind_order nodes Counted = true

module _ {D F C : Type 0} (on : View D) where
  -- The world makes the step that is ordered, and no other; or the steps of a regroup or a settle, and no others. A map and a count change nothing: the manager tells whom it names, and how many
  -- entries of each kind the book has is told.
  abbrev pub Obeys : Ordered → Part D F C → Result Told StepFault → Part D F C → Type 0
  Obeys (OneStep one) old (Ok (told.Said said)) new = MakesOne on (Ok said) one old.world new.world
  Obeys (OneStep one) old (Ok other) new = ⊥
  Obeys (OneStep one) old (Err why) new = MakesOne on (Err why) one old.world new.world
  Obeys (Regrouped node) old (Ok (told.Regrouped came)) new = Regroups on node (Ok came) old.world new.world
  Obeys (Regrouped node) old (Ok other) new = ⊥
  Obeys (Regrouped node) old (Err why) new = Regroups on node (Err why) old.world new.world
  Obeys Settled old (Ok (told.Settled came)) new = Settles on (Ok came) old.world new.world
  Obeys Settled old (Ok other) new = ⊥
  Obeys Settled old (Err why) new = Settles on (Err why) old.world new.world
  Obeys (Mapped user) old (Ok (told.Mapped map)) new = (map ≡ maps_in (state_of old.world) user) × (new.world ≡ old.world)
  Obeys (Mapped user) old (Ok other) new = ⊥
  Obeys (Mapped user) old (Err why) new = ⊥
  Obeys Counted old (Ok (told.Sum sum)) new = (sum_seen sum ≡ sum_of (book_of old.world)) × (new.world ≡ old.world)
  Obeys Counted old (Ok other) new = ⊥
  Obeys Counted old (Err why) new = ⊥

-- what the step said is told
abbrev pub TellsOf : Result Said StepFault → Result Told StepFault → Type 0
TellsOf (Ok said) result = result ≡ Ok (told.Said said)
TellsOf (Err why) result = result ≡ Err why

-- what came of a regroup is told
abbrev pub TellsOfRegroup : Result Regroup StepFault → Result Told StepFault → Type 0
TellsOfRegroup (Ok came) result = result ≡ Ok (told.Regrouped came)
TellsOfRegroup (Err why) result = result ≡ Err why

-- what came of a settle is told
abbrev pub TellsOfSettle : Result Settle StepFault → Result Told StepFault → Type 0
TellsOfSettle (Ok came) result = result ≡ Ok (told.Settled came)
TellsOfSettle (Err why) result = result ≡ Err why
