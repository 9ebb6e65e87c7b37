use Rattle.std.proofs.Common.{◌≡◌, ◌∙◌, ℕ, Option, true, false, max, is_some, refl, sym, ap, subst, arith}
use Rattle.std.proofs.lemmas.Result.{err_from_is_err_and}
use Rattle.mail_model.specs.Identity.{State}
use Rattle.object_model.specs.Said.{said}
use Rattle.mail_base.specs.Seen.{key_seen}
use Rattle.cluster_model.specs.Rules.{greatest_named}
use Rattle.replica_push.specs.Pushes.{wider}
use Rattle.node_store.specs.Disks.{view_of}
use Rattle.node_core.proofs.Widening.{can_widen_is, widen_stopped, widen_did}
use Rattle.node_core.proofs.node.Node.widen_key.Goals as goal

pub returns-in_err-did-clause-wrote : goal.returns-in_err-did-clause-wrote
returns-in_err-did-clause-wrote g c =
    let on = view_of g.D.Disk.seen g.D.Disk.faults g.D.Disk.clock in
    let p = err_from_is_err_and c.from_residual.result c.from_residual.ensures.1 in
    let w = c.in_err-did.ensures.wrote in
    rw (p.1, p.2) (widen_stopped on c.args.to (key_seen c.args.key.now) c.args.self.now c.args.disk.now c.widen.new.disk (omega (arith, c.well_formed)) (omega (arith, c.well_formed)) w.0, w.1)

pub returns-then-did-clause-wrote : goal.returns-then-did-clause-wrote
returns-then-did-clause-wrote g c =
    let on = view_of g.D.Disk.seen g.D.Disk.faults g.D.Disk.clock in
    let key = key_seen c.args.key.now in
    let old = c.args.self.now.numbers in
    let numbers = subst (λ (n : ℕ). c.know_key.new.self ≡ record old { drawn = max old.drawn (greatest_named n old.boot key) }) c.own-own.ensures c.know_key.ensures in
    widen_did on c.args.to key c.args.self.now c.args.disk.now c.widen.new.disk _ true
    (λ records k. sym c.if-did.true ∙ c.in_ok-did.ensures.answer ∙ ap (λ (s : Option State). is_some (wider s c.args.to)) (k.says key) ∙ can_widen_is c.args.to (said key records))
    c.in_ok-did.ensures.wrote numbers refl refl c.requires.works.whole

pub returns-clause-wrote : goal.returns-clause-wrote
returns-clause-wrote g c =
    let on = view_of g.D.Disk.seen g.D.Disk.faults g.D.Disk.clock in
    let key = key_seen c.args.key.now in
    widen_did on c.args.to key c.args.self.now c.args.disk.now c.widen.new.disk _ false
    (λ records k. sym c.if-did.false ∙ c.in_ok-did.ensures.answer ∙ ap (λ (s : Option State). is_some (wider s c.args.to)) (k.says key) ∙ can_widen_is c.args.to (said key records))
    c.in_ok-did.ensures.wrote refl refl refl c.requires.works.whole
