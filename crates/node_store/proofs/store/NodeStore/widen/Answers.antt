use Rattle.mail_base.specs.Seen.{key_seen}
use Rattle.node_store.specs.Disks.{view_of}
use Rattle.node_store.proofs.Widened.{wider_object, none_wider}
use Rattle.node_store.proofs.store.NodeStore.widen.Goals as goal

pub take-requires-clause-object : goal.take-requires-clause-object
take-requires-clause-object g c =
    wider_object (key_seen c.args.key.now) c.in-Some.next c.args.to c.args.self.now.objects c.requires.sound.objects c.in-Some.ensures.value c.in-Some.ensures.bound

pub returns-in-None-clause-wrote : goal.returns-in-None-clause-wrote
returns-in-None-clause-wrote g c =
    none_wider (view_of g.D.Disk.seen g.D.Disk.faults g.D.Disk.clock) (key_seen c.args.key.now) c.args.to c.args.self.now c.args.disk.now c.args.disk.now c.requires.sound c.in-None.ensures.value
