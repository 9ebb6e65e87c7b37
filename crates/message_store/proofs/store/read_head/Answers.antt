use Rattle.message_store.proofs.Messages.{other_head}
use Rattle.message_store.proofs.store.read_head.Goals as goal

pub returns-then-ne-clause-head : goal.returns-then-ne-clause-head
returns-then-ne-clause-head g c =
    let read = c.in_ok-read.ensures.read in (
      other_head (g.D.Disk.seen c.args.disk.now) c.args.place c.args.id c.in_ok-read.field-0 c.read.new.into c.octets_head.result
          c.requires c.read.ensures.length read.0 read.1 c.octets_head.ensures c.if-ne.ensures,
      read.2,
    )
