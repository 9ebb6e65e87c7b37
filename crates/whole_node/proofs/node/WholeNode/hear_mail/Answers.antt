use Rattle.std.proofs.Common.{◌∙◌, refl, sym, ap, subst}
use Rattle.object_model.specs.Letters.{Body, Letter}
use Rattle.std.specs.Prelude.{Ok, Err}
use Rattle.std.proofs.lemmas.Result.{err_from_is_err_and}
use Rattle.node_store.specs.Disks.{view_of}
use Rattle.node_core.proofs.Going.{hearing_goes_on}
use Rattle.whole_node.specs.Noting.{NotesCopies, copies_named}
use Rattle.whole_node.specs.declared.node.WholeNode.{WholeNode}
use Rattle.whole_node.proofs.Beside.{idle_beside, works_on, beside_on}
use Rattle.whole_node.proofs.Called.{on_ok, some_of, none_of}
use Rattle.whole_node.proofs.Heard.{heard_follows, heard_has, heard_fits, heard_stops, thrown_follows, thrown_has, thrown_fits, failed_follows, failed_has}
use Rattle.whole_node.proofs.node.WholeNode.hear_mail.Goals as goal

pub returns-in_err-outbox-clause-hears : goal.returns-in_err-outbox-clause-hears
returns-in_err-outbox-clause-hears g c =
    let p = err_from_is_err_and c.from_residual.result c.from_residual.ensures.1 in
    λ plan own is. rw (p.1, p.2) (c.in_err-outbox.ensures.hears plan own is)

pub returns-in_err-outbox-clause-follows : goal.returns-in_err-outbox-clause-follows
returns-in_err-outbox-clause-follows g c =
    let on = view_of g.D.Disk.seen g.D.Disk.faults g.D.Disk.clock in
    let p = err_from_is_err_and c.from_residual.result c.from_residual.ensures.1 in
    let old = c.args.self.now in
    let new : WholeNode = record old { mail = c.hear.new.self } in
    rw (p.1, p.2) (failed_follows on c.args.letter.now old c.args.disk.now new c.hear.new.disk c.requires.works.maps c.in_err-outbox.field-0.0 refl)

pub returns-in_err-outbox-clause-works : goal.returns-in_err-outbox-clause-works
returns-in_err-outbox-clause-works g c =
    let on = view_of g.D.Disk.seen g.D.Disk.faults g.D.Disk.clock in
    let p = err_from_is_err_and c.from_residual.result c.from_residual.ensures.1 in
    let old = c.args.self.now in
    let new : WholeNode = record old { mail = c.hear.new.self } in
    rw (p.1, p.2) (λ up. works_on old new (on.seen c.hear.new.disk)
    (failed_has on c.args.letter.now old c.args.disk.now new c.hear.new.disk c.requires.works.maps c.in_err-outbox.field-0.0 c.in_err-outbox.ensures.hears refl up)
    c.requires.works.reads (record { reads = refl; locks = refl })
    (hearing_goes_on on old.mail c.args.disk.now c.hear.new.self c.hear.new.disk c.requires.works.mail c.args.letter.now (Err c.in_err-outbox.field-0.0) c.in_err-outbox.ensures.hears up))

pub returns-in_err-outbox-clause-beside : goal.returns-in_err-outbox-clause-beside
returns-in_err-outbox-clause-beside g c =
    let old = c.args.self.now in
    λ up. idle_beside old (record old { mail = c.hear.new.self }) refl (record { reads = refl; locks = refl })

pub returns-then-is_some-clause-follows : goal.returns-then-is_some-clause-follows
returns-then-is_some-clause-follows g c =
    let on = view_of g.D.Disk.seen g.D.Disk.faults g.D.Disk.clock in
    let old = c.args.self.now in
    let new : WholeNode = record old { mail = c.hear.new.self } in
    let outbox = c.in_ok-outbox.outbox in
    let why = some_of outbox.thrown (sym c.is_some.ensures ∙ c.if-is_some.true) in
    thrown_follows on c.args.letter.now old c.args.disk.now new c.hear.new.disk c.requires.works.maps outbox why.0 why.1 refl

pub returns-then-is_some-clause-works : goal.returns-then-is_some-clause-works
returns-then-is_some-clause-works g c =
    let on = view_of g.D.Disk.seen g.D.Disk.faults g.D.Disk.clock in
    let old = c.args.self.now in
    let new : WholeNode = record old { mail = c.hear.new.self } in
    let outbox = c.in_ok-outbox.outbox in
    let why = some_of outbox.thrown (sym c.is_some.ensures ∙ c.if-is_some.true) in
    λ up. works_on old new (on.seen c.hear.new.disk) (thrown_has on c.args.letter.now old c.args.disk.now new c.hear.new.disk c.requires.works.maps outbox why.0 why.1 c.in_ok-outbox.ensures.hears refl)
    c.requires.works.reads (record { reads = refl; locks = refl })
    (hearing_goes_on on old.mail c.args.disk.now c.hear.new.self c.hear.new.disk c.requires.works.mail c.args.letter.now (Ok outbox) c.in_ok-outbox.ensures.hears tt)

pub returns-then-is_some-clause-beside : goal.returns-then-is_some-clause-beside
returns-then-is_some-clause-beside g c =
    let old = c.args.self.now in
    λ up. idle_beside old (record old { mail = c.hear.new.self }) refl (record { reads = refl; locks = refl })

pub returns-then-is_err-clause-hears : goal.returns-then-is_err-clause-hears
returns-then-is_err-clause-hears g c =
    let on = view_of g.D.Disk.seen g.D.Disk.faults g.D.Disk.clock in
    let old = c.args.self.now in
    let new : WholeNode = record old { mail = c.hear.new.self; maps = c.note_letter.new.maps } in
    let outbox = c.in_ok-outbox.outbox in
    heard_stops on c.args.letter.now old c.args.disk.now new c.hear.new.disk c.requires.works.maps outbox (none_of outbox.thrown (sym c.is_some.ensures ∙ c.if-is_some.false)) c.in_ok-outbox.ensures.hears

pub returns-clause-follows : goal.returns-clause-follows
returns-clause-follows g c =
    let on = view_of g.D.Disk.seen g.D.Disk.faults g.D.Disk.clock in
    let old = c.args.self.now in
    let new : WholeNode = record old { mail = c.hear.new.self; maps = c.note_letter.new.maps } in
    let outbox = c.in_ok-outbox.outbox in
    heard_follows on c.args.letter.now old c.args.disk.now new c.hear.new.disk c.requires.works.maps outbox (none_of outbox.thrown (sym c.is_some.ensures ∙ c.if-is_some.false)) c.in_ok-outbox.ensures.hears
    (λ records keeps. subst (λ (b : Body). NotesCopies records (copies_named b) old.maps c.note_letter.new.maps) (ap (λ (l : Letter). l.body) c.letter.view_is)
    (on_ok c.note_letter.result c.note_letter.ensures (sym c.is_err.ensures.value ∙ c.if-is_err.false) records keeps))

pub returns-clause-works : goal.returns-clause-works
returns-clause-works g c =
    let on = view_of g.D.Disk.seen g.D.Disk.faults g.D.Disk.clock in
    let old = c.args.self.now in
    let new : WholeNode = record old { mail = c.hear.new.self; maps = c.note_letter.new.maps } in
    let outbox = c.in_ok-outbox.outbox in
    let has = heard_has on c.args.letter.now old c.args.disk.now new c.hear.new.disk c.requires.works.maps outbox (none_of outbox.thrown (sym c.is_some.ensures ∙ c.if-is_some.false)) c.in_ok-outbox.ensures.hears
    (λ records keeps. subst (λ (b : Body). NotesCopies records (copies_named b) old.maps c.note_letter.new.maps) (ap (λ (l : Letter). l.body) c.letter.view_is)
    (on_ok c.note_letter.result c.note_letter.ensures (sym c.is_err.ensures.value ∙ c.if-is_err.false) records keeps)) in
    λ up. works_on old new (on.seen c.hear.new.disk) has c.requires.works.reads (record { reads = refl; locks = refl })
    (hearing_goes_on on old.mail c.args.disk.now c.hear.new.self c.hear.new.disk c.requires.works.mail c.args.letter.now (Ok outbox) c.in_ok-outbox.ensures.hears tt)

pub returns-clause-beside : goal.returns-clause-beside
returns-clause-beside g c =
    let on = view_of g.D.Disk.seen g.D.Disk.faults g.D.Disk.clock in
    let old = c.args.self.now in
    let new : WholeNode = record old { mail = c.hear.new.self; maps = c.note_letter.new.maps } in
    let outbox = c.in_ok-outbox.outbox in
    let has = heard_has on c.args.letter.now old c.args.disk.now new c.hear.new.disk c.requires.works.maps outbox (none_of outbox.thrown (sym c.is_some.ensures ∙ c.if-is_some.false)) c.in_ok-outbox.ensures.hears
    (λ records keeps. subst (λ (b : Body). NotesCopies records (copies_named b) old.maps c.note_letter.new.maps) (ap (λ (l : Letter). l.body) c.letter.view_is)
    (on_ok c.note_letter.result c.note_letter.ensures (sym c.is_err.ensures.value ∙ c.if-is_err.false) records keeps)) in
    λ up. beside_on old new c.requires.works.maps has (record { reads = refl; locks = refl })

pub returns-then-is_some-clause-fits : goal.returns-then-is_some-clause-fits
returns-then-is_some-clause-fits g c =
    let on = view_of g.D.Disk.seen g.D.Disk.faults g.D.Disk.clock in
    let old = c.args.self.now in
    let new : WholeNode = record old { mail = c.hear.new.self } in
    let outbox = c.in_ok-outbox.outbox in
    let why = some_of outbox.thrown (sym c.is_some.ensures ∙ c.if-is_some.true) in
    thrown_fits on c.args.letter.now old c.args.disk.now new c.hear.new.disk c.requires.works.maps outbox why.0 why.1 c.in_ok-outbox.ensures.hears

pub returns-clause-fits : goal.returns-clause-fits
returns-clause-fits g c =
    let on = view_of g.D.Disk.seen g.D.Disk.faults g.D.Disk.clock in
    let old = c.args.self.now in
    let new : WholeNode = record old { mail = c.hear.new.self; maps = c.note_letter.new.maps } in
    let outbox = c.in_ok-outbox.outbox in
    heard_fits on c.args.letter.now old c.args.disk.now new c.hear.new.disk c.requires.works.maps outbox (none_of outbox.thrown (sym c.is_some.ensures ∙ c.if-is_some.false)) c.in_ok-outbox.ensures.hears
