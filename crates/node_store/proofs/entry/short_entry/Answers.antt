use Rattle.node_store.proofs.Lying.{short_lies}
use Rattle.node_store.proofs.entry.short_entry.Goals as goal

pub returns-clause-found : goal.returns-clause-found
returns-clause-found g c =
    let spelt = rw c.in-Some.is at c.in_ok-entry.ensures.reads in
    let front = c.in_ok-count.ensures.front in (
      short_lies (g.D.Disk.seen c.args.disk.now) c.args.place c.in-Some.entry c.read_front.new.into c.in_ok-count.count c.requires.short c.read_front.ensures.length front.0 front.1 spelt,
      front.2,
    )
