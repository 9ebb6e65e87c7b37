use Rattle.std.proofs.Common.{◌∙◌, refl, sym, ap, subst}
use Rattle.std.specs.Prelude.{Ok, Err}
use Rattle.std.proofs.lemmas.Result.{err_from_is_err_and}
use Rattle.node_store.specs.Disks.{view_of}
use Rattle.node_core.specs.Beginning.{call_seen}
use Rattle.node_core.proofs.Going.{beginning_goes_on}
use Rattle.node_maps.specs.declared.maps.NodeMaps.{NodeMaps}
use Rattle.whole_node.specs.Noting.{NotesBegun}
use Rattle.whole_node.specs.declared.node.WholeNode.{WholeNode}
use Rattle.whole_node.proofs.Beside.{idle_beside}
use Rattle.whole_node.proofs.Called.{on_ok, on_err}
use Rattle.whole_node.proofs.Begun.{begun_follows, begun_has, begun_stops, failed_follows, failed_works, begun_works, begun_beside, begun_all_fit}
use Rattle.whole_node.proofs.node.WholeNode.begin.Goals as goal

pub returns-in_err-begun-clause-begins : goal.returns-in_err-begun-clause-begins
returns-in_err-begun-clause-begins g c =
    let p = err_from_is_err_and c.from_residual.result c.from_residual.ensures.1 in
    λ plan own is. rw (p.1, p.2) (c.in_err-begun.ensures.begins plan own is)

pub returns-in_err-begun-clause-follows : goal.returns-in_err-begun-clause-follows
returns-in_err-begun-clause-follows g c =
    let on = view_of g.D.Disk.seen g.D.Disk.faults g.D.Disk.clock in
    let p = err_from_is_err_and c.from_residual.result c.from_residual.ensures.1 in
    let old = c.args.self.now in
    let new = c.begin_mail.new.self in
    let w = c.requires.works in
    λ plan own is. rw (p.1, p.2) (failed_follows on plan own c.args.seconds old c.args.disk.now new c.begin_mail.new.disk is w.maps w.mail.whole (call_seen c.args.call) c.in_err-begun.field-0.0 c.begin_mail.ensures.maps)

pub returns-in_err-begun-clause-beside : goal.returns-in_err-begun-clause-beside
returns-in_err-begun-clause-beside g c = λ up. idle_beside c.args.self.now c.begin_mail.new.self (ap (λ (m : NodeMaps). m.group.installed) c.begin_mail.ensures.maps) c.begin_mail.ensures.beside

pub returns-in_err-begun-clause-works : goal.returns-in_err-begun-clause-works
returns-in_err-begun-clause-works g c =
    let on = view_of g.D.Disk.seen g.D.Disk.faults g.D.Disk.clock in
    let p = err_from_is_err_and c.from_residual.result c.from_residual.ensures.1 in
    rw (p.1, p.2) (λ up. failed_works on c.args.seconds c.args.self.now c.args.disk.now c.begin_mail.new.self c.begin_mail.new.disk c.requires.works c.begin_mail.ensures.beside (call_seen c.args.call) c.requires.ended
    c.in_err-begun.field-0.0 c.in_err-begun.ensures.begins c.begin_mail.ensures.maps up)

pub returns-then-is_err-clause-begins : goal.returns-then-is_err-clause-begins
returns-then-is_err-clause-begins g c =
    let on = view_of g.D.Disk.seen g.D.Disk.faults g.D.Disk.clock in
    let old = c.args.self.now in
    let new : WholeNode = record c.begin_mail.new.self { maps = c.note_begun.new.maps } in
    let begun = c.in_ok-begun.begun in
    let w = c.requires.works in
    λ plan own is. begun_stops on plan own c.args.seconds old c.args.disk.now new c.begin_mail.new.disk is w.maps w.mail.whole (call_seen c.args.call) begun.0 begun.1
    (c.in_ok-begun.ensures.begins plan own is) (on_err c.note_begun.result c.note_begun.ensures.some (sym c.is_err.ensures.value ∙ c.if-is_err.true))

pub returns-clause-begins : goal.returns-clause-begins
returns-clause-begins g c = c.in_ok-begun.ensures.begins

pub returns-clause-follows : goal.returns-clause-follows
returns-clause-follows g c =
    let on = view_of g.D.Disk.seen g.D.Disk.faults g.D.Disk.clock in
    let old = c.args.self.now in
    let new : WholeNode = record c.begin_mail.new.self { maps = c.note_begun.new.maps } in
    let begun = c.in_ok-begun.begun in
    let w = c.requires.works in
    λ plan own is. begun_follows on plan own c.args.seconds old c.args.disk.now new c.begin_mail.new.disk is w.maps w.mail.whole (call_seen c.args.call) begun.0 begun.1
    (c.in_ok-begun.ensures.begins plan own is)
    (subst (λ (m : NodeMaps). NotesBegun begun.0 c.begin_mail.new.self.mail m c.note_begun.new.maps) c.begin_mail.ensures.maps (on_ok c.note_begun.result c.note_begun.ensures.noted (sym c.is_err.ensures.value ∙ c.if-is_err.false)))

pub returns-clause-beside : goal.returns-clause-beside
returns-clause-beside g c =
    let on = view_of g.D.Disk.seen g.D.Disk.faults g.D.Disk.clock in
    let old = c.args.self.now in
    let new : WholeNode = record c.begin_mail.new.self { maps = c.note_begun.new.maps } in
    let begun = c.in_ok-begun.begun in
    λ up. begun_beside on c.args.seconds old c.args.disk.now new c.begin_mail.new.disk c.requires.works
    (record { reads = c.begin_mail.ensures.beside.reads; locks = c.begin_mail.ensures.beside.locks }) (call_seen c.args.call) c.requires.ended begun.0 begun.1 c.in_ok-begun.ensures.begins
    (subst (λ (m : NodeMaps). NotesBegun begun.0 c.begin_mail.new.self.mail m c.note_begun.new.maps) c.begin_mail.ensures.maps (on_ok c.note_begun.result c.note_begun.ensures.noted (sym c.is_err.ensures.value ∙ c.if-is_err.false)))

pub returns-clause-works : goal.returns-clause-works
returns-clause-works g c =
    let on = view_of g.D.Disk.seen g.D.Disk.faults g.D.Disk.clock in
    let old = c.args.self.now in
    let new : WholeNode = record c.begin_mail.new.self { maps = c.note_begun.new.maps } in
    let begun = c.in_ok-begun.begun in
    λ up. begun_works on c.args.seconds old c.args.disk.now new c.begin_mail.new.disk c.requires.works
    (record { reads = c.begin_mail.ensures.beside.reads; locks = c.begin_mail.ensures.beside.locks }) (call_seen c.args.call) c.requires.ended begun.0 begun.1 c.in_ok-begun.ensures.begins
    (subst (λ (m : NodeMaps). NotesBegun begun.0 c.begin_mail.new.self.mail m c.note_begun.new.maps) c.begin_mail.ensures.maps (on_ok c.note_begun.result c.note_begun.ensures.noted (sym c.is_err.ensures.value ∙ c.if-is_err.false)))

pub note_begun-requires : goal.note_begun-requires
note_begun-requires g c =
    let on = view_of g.D.Disk.seen g.D.Disk.faults g.D.Disk.clock in
    record {
      whole = (beginning_goes_on on c.args.self.now.mail c.args.disk.now c.begin_mail.new.self.mail c.begin_mail.new.disk c.requires.works.mail c.args.seconds (call_seen c.args.call) c.requires.ended (Ok c.in_ok-begun.begun)
          (λ plan own is e. c.in_ok-begun.ensures.begins plan own is) tt).whole;
    }

pub returns-clause-fits : goal.returns-clause-fits
returns-clause-fits g c =
    let on = view_of g.D.Disk.seen g.D.Disk.faults g.D.Disk.clock in
    let old = c.args.self.now in
    let new : WholeNode = record c.begin_mail.new.self { maps = c.note_begun.new.maps } in
    let begun = c.in_ok-begun.begun in
    begun_all_fit on c.args.seconds old c.args.disk.now new c.begin_mail.new.disk c.requires.works
    (record { reads = c.begin_mail.ensures.beside.reads; locks = c.begin_mail.ensures.beside.locks }) (call_seen c.args.call) c.requires.ended begun.0 begun.1 c.in_ok-begun.ensures.begins
