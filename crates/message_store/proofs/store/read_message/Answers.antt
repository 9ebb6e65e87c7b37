use Rattle.std.proofs.Common.{◌∙◌}
use Rattle.message_store.proofs.Messages.{gives_where_told}
use Rattle.message_store.proofs.store.read_message.Goals as goal

pub returns-clause-fetched : goal.returns-clause-fetched
returns-clause-fetched g c =
    let read = c.in_ok-read.ensures.read in
    let head = c.in_ok-read_head.ensures.head in (
      gives_where_told (g.D.Disk.seen c.args.disk.now) (g.D.Disk.seen c.read_head.new.disk) c.args.place c.behind.result c.args.id c.args.from c.in_ok-read.field-0 c.read.new.into
          c.read_head.ensures.seen c.behind.ensures.at c.behind.ensures.length head.0 read.0 read.1,
      read.2 ∙ head.1,
    )
