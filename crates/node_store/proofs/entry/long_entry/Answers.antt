use Rattle.node_store.proofs.Lying.{head_told, long_none, long_lies}
use Rattle.node_store.proofs.entry.long_entry.Goals as goal

pub returns-in_default-clause-found : goal.returns-in_default-clause-found
returns-in_default-clause-found g c =
    let front = c.in_ok-read_front.ensures.front in
    let told = head_told (g.D.Disk.seen c.args.disk.now) c.args.place c.read_front.new.into c.in_ok-read_front.field-0 c.requires.long c.read_front.ensures.length front.0 front.1 in
    let none = rw c.in_default.is at c.in_ok-entry.ensures.reads in (
      long_none (g.D.Disk.seen c.args.disk.now) c.args.place c.read_front.new.into c.requires.long told none,
      front.2,
    )

pub returns-clause-found : goal.returns-clause-found
returns-clause-found g c =
    let front = c.in_ok-read_front.ensures.front in
    let told = head_told (g.D.Disk.seen c.args.disk.now) c.args.place c.read_front.new.into c.in_ok-read_front.field-0 c.requires.long c.read_front.ensures.length front.0 front.1 in
    let spelt = rw c.in-Some.is at c.in_ok-entry.ensures.reads in (
      long_lies (g.D.Disk.seen c.args.disk.now) c.args.place c.read_front.new.into c.in-Some.entry c.in-Some-id_filed.id c.requires.long c.read_front.ensures.length told spelt c.in-Some-id_filed.ensures,
      front.2,
    )
