use Rattle.std.proofs.Common.{refl, ap, ◌∙◌}
use Rattle.node_disk.proofs.Passed.{passed_call, passed_none}
use Rattle.node_disk.proofs.memory.MemoryDisk.begin.Goals as goal

pub returns-in_default-clause-images : goal.returns-in_default-clause-images
returns-in_default-clause-images c =
    passed_none c.args.self.now c.fault.new.self _ (ap (λ v. v.items) c.fault.ensures.calls ∙ c.in_default.ensures.items) c.fault.ensures.held (λ d image. image)

pub returns-clause-noted : goal.returns-clause-noted
returns-clause-noted c = record { call = _; calls = c.in-Ok.ensures.items; before = c.of-before.ensures }

pub returns-clause-images : goal.returns-clause-images
returns-clause-images c = passed_call c.args.self.now _ _ _ (returns-clause-noted c) refl (λ d image. image)
