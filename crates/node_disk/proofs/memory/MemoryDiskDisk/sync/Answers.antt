use Rattle.std.proofs.Common.{refl, inl, ap, ◌∙◌}
use Rattle.node_disk.proofs.Passed.{passed_call, same_images, synced_images}
use Rattle.node_disk.proofs.memory.MemoryDiskDisk.sync.Goals as goal

pub returns-in_default-clause-images : goal.returns-in_default-clause-images
returns-in_default-clause-images c =
    passed_call c.args.self.now c.call.new.self c.fault.new.self _ c.in_ok-call.ensures.noted c.fault.ensures.calls
    (same_images c.fault.new.self.held c.args.self.now (c.fault.ensures.held ∙ c.in_default.ensures.refused ∙ c.in_ok-call.ensures.held))

pub returns-clause-images : goal.returns-clause-images
returns-clause-images c =
    passed_call c.args.self.now c.call.new.self _ _ c.in_ok-call.ensures.noted refl
    (synced_images c.sync.new.self c.args.self.now c.in-Ok.ensures.synced
    (inl (ap (λ v. v.items) c.in-Ok.ensures.octets ∙ ap (λ h. h.octets.items) c.in_ok-call.ensures.held)))
