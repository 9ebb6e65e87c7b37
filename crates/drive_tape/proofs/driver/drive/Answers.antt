use Rattle.std.proofs.Common.{refl, sym, ap, ◌∙◌, length, arith, Err}
use Rattle.node_store.specs.Disks.{view_of}
use Rattle.cluster_world.specs.Worlds.{plan_of}
use Rattle.cluster_world.proofs.Owed.{world_owes}
use Rattle.drive_tape.proofs.Clusters.{at_plan}
use Rattle.drive_tape.proofs.Clocks.{on_time}
use Rattle.drive_tape.proofs.Drives.{progress_start, goes_on, stops}
use Rattle.settled_worlds.proofs.Owed.{world_owes_settled}
use Rattle.drive_tape.proofs.driver.drive.Goals as goal

pub loop-handled-init : goal.loop-handled-init
loop-handled-init g c = record {
  ready = record { few = c.requires.nodes; ready = c.requires.ready; settled = c.requires.settled };
  plan = refl;
  even = record { calls = ap length c.new.ensures.calls ∙ sym (ap length c.new.ensures.talkers); nodes = ap length c.new.ensures.nodes ∙ sym (ap length c.new.ensures.talkers); over = λ i before. absurd (let none = c.new.ensures.over in omega (arith, before, none)) };
  progress = λ begins. progress_start _ _ _ _ _ begins refl c.new.ensures.talkers c.new.ensures.nodes c.new.ensures.standing;
  unread = omega arith;
  read_later = omega arith;
  write_later = omega arith;
}

pub loop-handled-preserved : goal.loop-handled-preserved
loop-handled-preserved g c =
    let loop = c.loop-handled.invariant in
    let turn = c.in-Ok.ensures in
    record {
      ready = turn.ready;
      plan = turn.plan ∙ loop.plan;
      even = turn.even;
      progress = λ begins. let p = loop.progress begins in
          goes_on _ _ _ _ _ _ _ _ _ _ _ _ _ _ p (plan_of c.loop-handled.cluster.world) loop.plan
          (turn.turned c.args.world p.point (at_plan _ _ _ _ _ _ (sym loop.plan) p.shows) (on_time _ _ _ _ _ _ _ _ _ begins p) p.held_is);
      unread = omega (arith, loop.unread, turn.less);
      read_later = omega (arith, loop.read_later, turn.read_later);
      write_later = omega (arith, loop.write_later, turn.write_later);
    }

pub returns-in-Err-clause-drives : goal.returns-in-Err-clause-drives
returns-in-Err-clause-drives g c begins =
    let loop = c.loop-handled.invariant in
    let p = loop.progress begins in
    stops _ _ _ _ _ _ _ _ _ _ _ _ _ _ c.in-Err.stop c.at_line.result p (plan_of c.loop-handled.cluster.world) loop.plan
    (c.in-Err.ensures.turned c.args.world p.point (at_plan _ _ _ _ _ _ (sym loop.plan) p.shows) (on_time _ _ _ _ _ _ _ _ _ begins p) p.held_is)
    c.at_line.ensures.stop c.at_line.ensures.number begins (world_owes (view_of g.D.Disk.seen g.D.Disk.faults g.D.Disk.clock) g.met.D.Disk.seen_is_image)
    (world_owes_settled (view_of g.D.Disk.seen g.D.Disk.faults g.D.Disk.clock))

pub returns-in-Err-clause-read_fault : goal.returns-in-Err-clause-read_fault
returns-in-Err-clause-read_fault g c begins is =
    let loop = c.loop-handled.invariant in
    let p = loop.progress begins in
    omega (arith, c.in-Err.ensures.read_fault c.args.world p.point (at_plan _ _ _ _ _ _ (sym loop.plan) p.shows) (on_time _ _ _ _ _ _ _ _ _ begins p) p.held_is (ap Err (sym c.at_line.ensures.stop ∙ is)), loop.read_later)
