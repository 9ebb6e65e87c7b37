use Rattle.std.proofs.Common.{arith}
use Rattle.node_store.specs.Disks.{view_of}
use Rattle.node_store.proofs.Journals.{one_stops, either_still}
use Rattle.node_store.proofs.append.append_record.Goals as goal

pub returns-in-Err-DiskFault-clause-written : goal.returns-in-Err-DiskFault-clause-written
returns-in-Err-DiskFault-clause-written g c = λ entry spelt.
    let failed = rw c.in-Err-DiskFault.field-0-is at c.in-Err-DiskFault.ensures.appended in
    let refused = rw c.in-Err-DiskFault.field-0-is at c.in-Err-DiskFault.ensures.refuses in
    (one_stops (view_of g.D.Disk.seen g.D.Disk.faults g.D.Disk.clock) _ _ _ entry _ spelt failed c.in-Err-DiskFault.ensures.told c.in-Err-DiskFault.ensures.images, (refused.1, refused.2))

pub returns-in-Err-NoMemory-clause-written : goal.returns-in-Err-NoMemory-clause-written
returns-in-Err-NoMemory-clause-written g c = λ entry spelt.
    let stands = rw c.in-Err-NoMemory.field-0-is at c.in-Err-NoMemory.ensures.appended in
    let refused = rw c.in-Err-NoMemory.field-0-is at c.in-Err-NoMemory.ensures.refuses in (
      one_stops (view_of g.D.Disk.seen g.D.Disk.faults g.D.Disk.clock) _ _ _ entry _ spelt (λ own payloads before. either_still _ own payloads _ _ (stands own payloads before))
          c.in-Err-NoMemory.ensures.told c.in-Err-NoMemory.ensures.images,
      omega (arith, refused.3),
    )
