use Rattle.std.proofs.Common.{◌∙◌}
use Rattle.node_disk.proofs.Passed.{passed_call, same_images}
use Rattle.node_disk.proofs.memory.MemoryDisk.call.Goals as goal

pub returns-then-branch-clause-images : goal.returns-then-branch-clause-images
returns-then-branch-clause-images c =
    passed_call c.args.self.now c.begin.new.self c.fault.new.self _ c.in_ok-begin.ensures.noted c.fault.ensures.calls
    (same_images c.fault.new.self.held c.args.self.now (c.fault.ensures.held ∙ c.in_ok-begin.ensures.held))
