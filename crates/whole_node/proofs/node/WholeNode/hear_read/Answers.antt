use Rattle.std.proofs.Common.{◌≡◌, List, Option, None, refl, sym, ap, ◌∙◌, subst}
use Rattle.std.proofs.lemmas.Result.{err_from_is_err_and}
use Rattle.object_model.specs.Letters.{Body, Letter}
use Rattle.mail_base.specs.Bodies.{body_seen}
use Rattle.node_store.specs.Disks.{view_of}
use Rattle.node_core.specs.Works.{HasLearned}
use Rattle.node_core.specs.declared.outbox.Why.{Why}
use Rattle.node_core.specs.declared.outbox.Outbox.{Outbox}
use Rattle.whole_node.specs.Reading.{ReadHeardOrThrown}
use Rattle.whole_node.specs.declared.node.WholeNode.{WholeNode}
use Rattle.whole_node.proofs.Called.{plan_for, has_users}
use Rattle.whole_node.proofs.HeardReads.{read_heard, heard_works, still_own, read_unheard, unheard_works}
use Rattle.whole_node.proofs.node.WholeNode.hear_read.Goals as goal

pub returns-in_err-letters-clause-hears : goal.returns-in_err-letters-clause-hears
returns-in_err-letters-clause-hears g c plan own is users =
    let on = view_of g.D.Disk.seen g.D.Disk.faults g.D.Disk.clock in
    let p = err_from_is_err_and c.from_residual.result c.from_residual.ensures.1 in
    let e = c.in_err-letters.ensures in
    rw (p.1, p.2) (read_unheard on plan c.args.letter.now c.args.self.now c.args.disk.now c.hear_by_rule.new.self c.hear_by_rule.new.disk e.halves own c.in_err-letters.field-0.0 (sym is.own_is)
    (sym c.is_stale.ensures ∙ c.if-is_stale.false) (e.hears plan users))

pub returns-in_err-letters-clause-works : goal.returns-in_err-letters-clause-works
returns-in_err-letters-clause-works g c =
    let on = view_of g.D.Disk.seen g.D.Disk.faults g.D.Disk.clock in
    let p = err_from_is_err_and c.from_residual.result c.from_residual.ensures.1 in
    let e = c.in_err-letters.ensures in
    let old = c.args.self.now in
    let users = c.args.users.now in
    let plan = plan_for users old.mail in
    rw (p.1, p.2) (λ up. unheard_works on plan c.args.letter.now old c.args.disk.now c.hear_by_rule.new.self c.hear_by_rule.new.disk e.halves Outbox c.in_err-letters.field-0.0 (e.hears plan (has_users users old.mail))
    c.requires.works (still_own old c.hear_by_rule.new.self e.halves c.requires.works.reads e.whose) up)

pub returns-clause-hears : goal.returns-clause-hears
returns-clause-hears g c plan own is users =
    let on = view_of g.D.Disk.seen g.D.Disk.faults g.D.Disk.clock in
    let old = c.args.self.now in
    let mid = c.hear_by_rule.new.self in
    let new : WholeNode = record mid { mail = c.learn.new.self } in
    let letter = c.args.letter.now in
    let e = c.in_ok-letters.ensures in
    let l : HasLearned letter.body mid.mail new.mail = subst (λ (b : Body). HasLearned b mid.mail new.mail) (ap (λ (x : Letter). x.body) c.letter.view_is) c.learn.ensures in
    subst (λ (t : Option Why). ReadHeardOrThrown on plan own old c.args.disk.now new c.hear_by_rule.new.disk letter t c.sent.result.letters) (sym c.sent.ensures.thrown)
    (subst (λ (s : List Letter). ReadHeardOrThrown on plan own old c.args.disk.now new c.hear_by_rule.new.disk letter None s) (sym c.sent.ensures.letters)
    (read_heard on old c.args.disk.now mid new c.hear_by_rule.new.disk letter e.halves l refl refl refl plan own c.in_ok-letters.letters (sym is.own_is)
    (sym c.is_stale.ensures ∙ c.if-is_stale.false) (sym c.is_late_read.ensures ∙ c.if-is_late_read.false) (e.hears plan users)))

pub returns-clause-works : goal.returns-clause-works
returns-clause-works g c up =
    let on = view_of g.D.Disk.seen g.D.Disk.faults g.D.Disk.clock in
    let old = c.args.self.now in
    let mid = c.hear_by_rule.new.self in
    let new : WholeNode = record mid { mail = c.learn.new.self } in
    let letter = c.args.letter.now in
    let e = c.in_ok-letters.ensures in
    let l : HasLearned letter.body mid.mail new.mail = subst (λ (b : Body). HasLearned b mid.mail new.mail) (ap (λ (x : Letter). x.body) c.letter.view_is) c.learn.ensures in
    let users = c.args.users.now in
    let plan = plan_for users old.mail in
    heard_works on old c.args.disk.now mid new c.hear_by_rule.new.disk letter e.halves l refl refl refl (e.hears plan (has_users users old.mail)).read c.requires.works
    (still_own old mid e.halves c.requires.works.reads e.whose)
