use Rattle.std.proofs.Common.{◌≡◌, ◌≤◌, ◌+◌, ◌-◌, length}
use Rattle.std.specs.Prelude.{vec_capacity}
use Rattle.yard_stores.specs.Taken.{HasTaken}
use Rattle.yard_stores.proofs.stores.take_stores.Given as goal

-- the stores before this node were taken
abbrev pub invariant-loop-node : goal.invariant-loop-node
invariant-loop-node g l = record {
  taken : HasTaken g.Y.Store.Disk.seen g.Y.Store.Disk.faults (g.Y.Yard.handed l.fn.yard) (g.Y.Yard.handed l.yard) l.disks.items;
  returned : g.Y.Yard.returned l.yard ≡ g.Y.Yard.returned l.fn.yard;
  opened : g.Y.Yard.opened l.yard ≡ g.Y.Yard.opened l.fn.yard;
  closed : g.Y.Yard.closed l.yard ≡ g.Y.Yard.closed l.fn.yard;
  unread : g.Y.Yard.unread l.yard ≡ g.Y.Yard.unread l.fn.yard;
  unopened : g.Y.Yard.unopened l.yard ≡ g.Y.Yard.unopened l.fn.yard;
  later : g.Y.Yard.faults l.fn.yard ≤ g.Y.Yard.faults l.yard;
  capacity : vec_capacity l.disks ≡ vec_capacity l.fn.disks;
  count : length l.disks.items + 1 ≡ l.node;
  within : l.node ≤ l.nodes + 1;
}

abbrev pub decreases-loop-node : goal.decreases-loop-node
decreases-loop-node g l = l.nodes + 1 - l.node
