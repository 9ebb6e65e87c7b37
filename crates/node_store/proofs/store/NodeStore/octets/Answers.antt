use Rattle.node_store.proofs.Fetched.{whole_read}
use Rattle.node_store.proofs.store.NodeStore.octets.Goals as goal

pub returns-clause-read : goal.returns-clause-read
returns-clause-read g c = whole_read c.args.self.now c.args.id c.octets_part.result (g.D.Disk.seen c.args.disk.now) _ _ c.octets_part.ensures.read
