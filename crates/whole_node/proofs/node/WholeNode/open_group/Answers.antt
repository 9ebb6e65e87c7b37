use Rattle.std.proofs.Common.{◌≡◌, ℕ, [], Some, refl, sym, ap, ◌∙◌, subst, arith}
use Rattle.std.specs.Prelude.{⊤, nat_le}
use Rattle.whole_world.specs.Steps.{greatest_epoch}
use Rattle.std.proofs.lemmas.Result.{err_from_is_err_and}
use Rattle.mail_model.specs.Identity.{EpochId}
use Rattle.membership.specs.Groups.{Group}
use Rattle.node_store.specs.Disks.{view_of}
use Rattle.node_core.specs.Works.{NodeDid}
use Rattle.node_core.specs.Promising.{promising}
use Rattle.whole_node.specs.Hearing.{appends_promise}
use Rattle.whole_node.specs.declared.grouping.Grouped.{Grouped}
use Rattle.whole_node.specs.declared.node.WholeNode.{WholeNode}
use Rattle.whole_node.proofs.Beside.{idle_beside}
use Rattle.whole_node.proofs.Opened.{next_is, fresh_is, opening_stops, opened_so, opened_works, opened_beside}
use Rattle.whole_node.proofs.Outlasted.{failed_works}
use Rattle.whole_node.proofs.node.WholeNode.open_group.Goals as goal

pub returns-in_err-promise-clause-works : goal.returns-in_err-promise-clause-works
returns-in_err-promise-clause-works g c =
    let on = view_of g.D.Disk.seen g.D.Disk.faults g.D.Disk.clock in
    let p = err_from_is_err_and c.from_residual.result c.from_residual.ensures.1 in
    let old = c.args.self.now in
    rw (p.1, p.2) (λ up. failed_works on old c.args.disk.now c.requires.works Grouped (promising c.next_epoch-epoch.result) ⊤ (record old { mail = c.promise.new.self }) c.promise.new.disk
    c.in_err-promise.field-0.0 refl (record { reads = refl; locks = refl }) c.in_err-promise.ensures.promises up)

pub returns-in-Ok-clause-opens : goal.returns-in-Ok-clause-opens
returns-in-Ok-clause-opens g c =
    let on = view_of g.D.Disk.seen g.D.Disk.faults g.D.Disk.clock in
    let old = c.args.self.now in
    let new : WholeNode = record old { mail = c.promise.new.self; maps = c.start_group.new.self } in
    let epoch = c.next_epoch-epoch.ensures ∙ next_is on c.args.nodes old c.args.disk.now c.requires.works in
    let d = subst (λ (e : EpochId). NodeDid on (appends_promise (Some e) []) old.mail c.args.disk.now c.promise.new.self c.promise.new.disk []) epoch c.in_ok-promise.ensures.promises in
    opened_so on c.args.nodes old c.args.disk.now c.requires.works new c.promise.new.disk d c.in-Ok.letters c.in-Ok.ensures
    (record { epoch = c.next_epoch-epoch.result; letters = c.turned_round.result })
    (ap (λ (n : ℕ). nat_le greatest_epoch n) (sym (c.heard.ensures ∙ ap (λ (x : Group). x.heard) c.group.ensures)) ∙ fresh_is c.heard.result (omega (arith, c.if-heard.false, c.heard.type_inv))) epoch c.turned_round.ensures

pub returns-in-Ok-clause-works : goal.returns-in-Ok-clause-works
returns-in-Ok-clause-works g c =
    let on = view_of g.D.Disk.seen g.D.Disk.faults g.D.Disk.clock in
    let old = c.args.self.now in
    let new : WholeNode = record old { mail = c.promise.new.self; maps = c.start_group.new.self } in
    let epoch = c.next_epoch-epoch.ensures ∙ next_is on c.args.nodes old c.args.disk.now c.requires.works in
    let d = subst (λ (e : EpochId). NodeDid on (appends_promise (Some e) []) old.mail c.args.disk.now c.promise.new.self c.promise.new.disk []) epoch c.in_ok-promise.ensures.promises in
    λ up. opened_works on c.args.nodes old c.args.disk.now c.requires.works new c.promise.new.disk d c.in-Ok.letters c.in-Ok.ensures refl

pub returns-in-Ok-clause-beside : goal.returns-in-Ok-clause-beside
returns-in-Ok-clause-beside g c =
    let on = view_of g.D.Disk.seen g.D.Disk.faults g.D.Disk.clock in
    let old = c.args.self.now in
    let new : WholeNode = record old { mail = c.promise.new.self; maps = c.start_group.new.self } in
    let epoch = c.next_epoch-epoch.ensures ∙ next_is on c.args.nodes old c.args.disk.now c.requires.works in
    let d = subst (λ (e : EpochId). NodeDid on (appends_promise (Some e) []) old.mail c.args.disk.now c.promise.new.self c.promise.new.disk []) epoch c.in_ok-promise.ensures.promises in
    λ up. opened_beside on c.args.nodes old c.args.disk.now c.requires.works new c.promise.new.disk d c.in-Ok.letters c.in-Ok.ensures (record { reads = refl; locks = refl })

pub returns-in_err-promise-clause-beside : goal.returns-in_err-promise-clause-beside
returns-in_err-promise-clause-beside g c =
    let old = c.args.self.now in
    λ up. idle_beside old (record old { mail = c.promise.new.self }) refl (record { reads = refl; locks = refl })

pub returns-in-Err-clause-opens : goal.returns-in-Err-clause-opens
returns-in-Err-clause-opens g c =
    let on = view_of g.D.Disk.seen g.D.Disk.faults g.D.Disk.clock in
    let old = c.args.self.now in
    let new : WholeNode = record old { mail = c.promise.new.self; maps = c.start_group.new.self } in
    let epoch = c.next_epoch-epoch.ensures ∙ next_is on c.args.nodes old c.args.disk.now c.requires.works in
    let d = subst (λ (e : EpochId). NodeDid on (appends_promise (Some e) []) old.mail c.args.disk.now c.promise.new.self c.promise.new.disk []) epoch c.in_ok-promise.ensures.promises in
    opening_stops on c.args.nodes old c.args.disk.now c.requires.works new c.promise.new.disk d
    (ap (λ (n : ℕ). nat_le greatest_epoch n) (sym (c.heard.ensures ∙ ap (λ (x : Group). x.heard) c.group.ensures)) ∙ fresh_is c.heard.result (omega (arith, c.if-heard.false, c.heard.type_inv)))
