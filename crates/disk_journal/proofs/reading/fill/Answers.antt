use Rattle.std.proofs.Common.{rules, ◌∙◌}
use Rattle.io_edge.proofs.Passing.{then_kept}
use Rattle.disk_journal.proofs.Filled.{filled_more}
use Rattle.disk_journal.proofs.reading.fill.Goals as goal

pub loop-filled-preserved : goal.loop-filled-preserved
loop-filled-preserved g c =
    let so_far = c.loop-filled.invariant in
    let read = c.in_ok-count.ensures in
    record {
      octets = filled_more _ _ c.loop-filled.into c.read.new.into _ c.args.at c.loop-filled.filled c.in_ok-count.count so_far.within read.bound.0 so_far.seen so_far.octets read.octets;
      size = search rules;
      within = search rules;
      seen = read.seen ∙ so_far.seen;
      quiet = read.quiet ∙ so_far.quiet;
      images = then_kept g.D.Disk.clock _ _ _ _ so_far.images read.images;
      settled = λ before. read.settled (so_far.settled before);
    }
