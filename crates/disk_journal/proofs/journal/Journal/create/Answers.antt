use Rattle.std.proofs.Common.{refl, ◌≡◌, ℕ, List, [], length, Option, IfSome, ap, subst, sym, ◌∙◌}
use Rattle.io_edge.specs.Moments.{Tears}
use Rattle.disk_journal.proofs.Gates.{created}
use Rattle.disk_journal.proofs.Images.{tears_behind}
use Rattle.disk_journal.proofs.journal.Journal.create.Goals as goal

pub returns-in_err-write_sure-clause-images : goal.returns-in_err-write_sure-clause-images
returns-in_err-write_sure-clause-images g c =
    let size : length c.deref.result.now ≡ 17 = ap length (c.deref.ensures.value ∙ c.in_ok-octets.ensures.octets) in
    tears_behind g.D.Disk.clock _ _ _ 0 17 c.reserve.ensures.images (subst (λ (n : ℕ). Tears g.D.Disk.clock c.reserve.new.self c.write_sure.new.disk 0 n) size c.write_sure.ensures.images)

pub returns-clause-created : goal.returns-clause-created
returns-clause-created g c =
    let empty = subst (λ (o : Option (List ℕ)). IfSome o (λ held. held ≡ [])) (sym c.in_ok-reserve.ensures.seen) c.requires.empty in
    let stands = created _ _ c.args.node _ empty (c.deref.ensures.value ∙ c.in_ok-octets.ensures.octets) c.in_ok-write_sure.ensures.written in
    (stands.0, stands.1, c.in_ok-write_sure.ensures.quiet ∙ c.in_ok-reserve.ensures.faults, refl)

pub returns-clause-images : goal.returns-clause-images
returns-clause-images g c =
    let size : length c.deref.result.now ≡ 17 = ap length (c.deref.ensures.value ∙ c.in_ok-octets.ensures.octets) in
    tears_behind g.D.Disk.clock _ _ _ 0 17 c.reserve.ensures.images (subst (λ (n : ℕ). Tears g.D.Disk.clock c.reserve.new.self c.write_sure.new.disk 0 n) size c.write_sure.ensures.images)
