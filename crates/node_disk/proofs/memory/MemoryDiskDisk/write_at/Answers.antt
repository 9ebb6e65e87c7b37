use Rattle.std.proofs.Common.{refl}
use Rattle.node_disk.proofs.Passed.{passed_call, written_images, unwritten_images}
use Rattle.node_disk.proofs.memory.MemoryDiskDisk.write_at.Goals as goal

pub returns-in_default-clause-images : goal.returns-in_default-clause-images
returns-in_default-clause-images c =
    let left = rw c.in_ok-fails.ensures.held at c.in_default.ensures in
    passed_call c.args.self.now c.begin.new.self c.fault.new.self _ c.in_ok-fails.ensures.noted c.fault.ensures.calls
    (rw c.fault.ensures.held (unwritten_images c.args.self.now c.write.new.self c.args.at _ left.refused.0 left.synced left.refused.1))

pub returns-then-fails-clause-images : goal.returns-then-fails-clause-images
returns-then-fails-clause-images c =
    let left = rw c.in_ok-fails.ensures.held at c.in-Ok.ensures in
    passed_call c.args.self.now c.begin.new.self c.fault-then-fails.new.self _ c.in_ok-fails.ensures.noted c.fault-then-fails.ensures.calls
    (rw c.fault-then-fails.ensures.held (written_images c.args.self.now c.write.new.self c.args.at c.args.octets.now c.requires.0 left.written left.synced left.noted))

pub returns-clause-images : goal.returns-clause-images
returns-clause-images c =
    let left = rw c.in_ok-fails.ensures.held at c.in-Ok.ensures in
    passed_call c.args.self.now c.begin.new.self _ _ c.in_ok-fails.ensures.noted refl
    (written_images c.args.self.now c.write.new.self c.args.at c.args.octets.now c.requires.0 left.written left.synced left.noted)
