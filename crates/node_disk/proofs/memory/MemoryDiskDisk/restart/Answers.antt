use Rattle.std.proofs.Common.{refl, ◌∙◌}
use Rattle.node_disk.proofs.Passed.{passed_call, same_images, synced_images}
use Rattle.node_disk.proofs.memory.MemoryDiskDisk.restart.Goals as goal

pub returns-in_default-clause-images : goal.returns-in_default-clause-images
returns-in_default-clause-images c =
    passed_call c.args.self.now c.call.new.self c.fault.new.self _ c.in_ok-call.ensures.noted c.fault.ensures.calls
    (same_images c.fault.new.self.held c.args.self.now (c.fault.ensures.held ∙ c.in_default.ensures.refused ∙ c.in_ok-call.ensures.held))

pub returns-clause-images : goal.returns-clause-images
returns-clause-images c =
    let image = rw c.in_ok-call.ensures.held at c.in-Ok.ensures.image in
    passed_call c.args.self.now c.call.new.self _ _ c.in_ok-call.ensures.noted refl
    (synced_images c.restart.new.self c.args.self.now c.in-Ok.ensures.synced image)
