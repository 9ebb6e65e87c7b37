use Rattle.std.proofs.Common.{ℕ, List, Option, Some, sym, subst, ◌∙◌}
use Rattle.std.specs.Prelude.{Vec, Err}
use Rattle.std.specs.declared.alloc.Global.{Global}
use Rattle.node_store.specs.Disks.{view_of}
use Rattle.node_store.specs.Reads.{part_in, given_octets, GivesWanted, ReadsWanted}
use Rattle.node_store.specs.declared.fault.ReadFault.{ReadFault}
use Rattle.node_core.proofs.Parts.{some_told, read_other}
use Rattle.node_core.proofs.node.Node.told_part.Goals as goal

pub returns-in-Ok-Some-clause-tells : goal.returns-in-Ok-Some-clause-tells
returns-in-Ok-Some-clause-tells g c =
    let on = view_of g.D.Disk.seen g.D.Disk.faults g.D.Disk.clock in
    let node = c.args.self.now in
    let before = c.args.disk.now in
    let wanted = part_in c.args.id c.args.from c.args.most in
    let given = subst (λ (octets : List ℕ). GivesWanted (on.seen before) node.store wanted (Some octets)) (sym c.from_vec.ensures)
    (subst (λ (o : Option (Vec ℕ Global)). GivesWanted (on.seen before) node.store wanted (given_octets o)) c.in-Ok-Some.field-0-is c.in-Ok-Some.ensures.read.0) in
    some_told on c.args.user.now c.args.id c.args.from c.args.most node before c.octets_part.new.disk (record { seen = c.octets_part.ensures.seen; images = c.octets_part.ensures.images })
    c.in-Ok-Some.ensures.read.1 c.from_vec.result c.in-Some.whole (λ records k. sym c.in-Some.is ∙ (c.in_ok-size.ensures records k).0) given

pub returns-in-Err-NotAJournal-clause-tells : goal.returns-in-Err-NotAJournal-clause-tells
returns-in-Err-NotAJournal-clause-tells g c =
    let on = view_of g.D.Disk.seen g.D.Disk.faults g.D.Disk.clock in
    let node = c.args.self.now in
    let before = c.args.disk.now in
    let after = c.octets_part.new.disk in
    let failed = subst (λ (f : ReadFault). ReadsWanted (Err f) node.store (part_in c.args.id c.args.from c.args.most) (on.seen before) (on.faults before) (on.faults after)) c.in-Err-NotAJournal.field-0-is
    c.in-Err-NotAJournal.ensures.read in
    read_other on c.args.user.now c.args.id c.args.from c.args.most node before after (record { seen = c.octets_part.ensures.seen; images = c.octets_part.ensures.images }) failed.1 failed.0
