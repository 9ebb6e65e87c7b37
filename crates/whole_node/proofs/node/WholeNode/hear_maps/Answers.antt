use Rattle.std.proofs.Common.{◌≡◌, Bool, [], refl, sym, ap, ◌∙◌, subst, if◌then◌else◌}
use Rattle.std.specs.Prelude.{⊤, Result, Err}
use Rattle.std.proofs.lemmas.Result.{err_from_is_err_and}
use Rattle.object_model.specs.Letters.{Body, Letter}
use Rattle.mail_base.specs.Bodies.{body_seen}
use Rattle.whole_world.specs.Makes.{promise_by}
use Rattle.node_store.specs.Disks.{view_of}
use Rattle.node_maps.specs.Nodes.{node_of}
use Rattle.node_core.specs.Works.{NodeFailed, LeavesUp}
use Rattle.node_core.specs.declared.fault.NodeFault.{NodeFault}
use Rattle.node_core.specs.declared.outbox.Outbox.{Outbox}
use Rattle.object_model.specs.Keys.{is_same_epoch}
use Rattle.object_model.specs.Locks.{no_locks}
use Rattle.cluster_model.specs.Cluster.{epoch_of}
use Rattle.joint_model.specs.Joint.Life.{Up}
use Rattle.joint_world.specs.Staying.{KeepsReads}
use Rattle.node_core.specs.Nodes.{node_seen}
use Rattle.node_maps.specs.declared.maps.NodeMaps.{NodeMaps}
use Rattle.whole_node.specs.Nodes.{joint_seen, WholeWorks}
use Rattle.whole_node.specs.Hearing.{is_install, appends_promise, PromiseStands, HearsOfMaps}
use Rattle.whole_node.proofs.Beside.{idle_beside, cleared_beside}
use Rattle.whole_node.proofs.Looked.{failed_heard, short_heard, heard_so, heard_fits, heard_has, heard_works, took_kept}
use Rattle.whole_node.proofs.Outlasted.{failed_works, short_works, short_beside, or_first, or_second}
use Rattle.whole_node.proofs.node.WholeNode.hear_maps.Goals as goal

pub returns-in_err-promised-clause-hears : goal.returns-in_err-promised-clause-hears
returns-in_err-promised-clause-hears g c =
    let on = view_of g.D.Disk.seen g.D.Disk.faults g.D.Disk.clock in
    let p = err_from_is_err_and c.from_residual.result c.from_residual.ensures.1 in
    let old = c.args.self.now in
    let body = ap (λ (l : Letter). l.body) c.letter.view_is in
    let failed = subst (λ (b : Body). NodeFailed on (appends_promise (promise_by (node_of old.maps) b) []) ⊤ c.in_err-promised.field-0.0 old.mail c.args.disk.now c.promise_for.new.self.mail c.promise_for.new.disk) body c.in_err-promised.ensures.promises in
    rw (p.1, p.2) (failed_heard on c.args.letter.now old c.args.disk.now c.requires.works c.requires.kind c.promise_for.new.self c.promise_for.new.disk c.in_err-promised.field-0.0 (sym c.if-is_stale.ensures) c.promise_for.ensures.maps failed)

pub returns-in_err-promised-clause-works : goal.returns-in_err-promised-clause-works
returns-in_err-promised-clause-works g c =
    let on = view_of g.D.Disk.seen g.D.Disk.faults g.D.Disk.clock in
    let p = err_from_is_err_and c.from_residual.result c.from_residual.ensures.1 in
    let old = c.args.self.now in
    rw (p.1, p.2) (λ up. failed_works on old c.args.disk.now c.requires.works Outbox (appends_promise (promise_by (node_of old.maps) (body_seen c.letter.inside.body)) []) ⊤ c.promise_for.new.self c.promise_for.new.disk c.in_err-promised.field-0.0
    c.promise_for.ensures.maps c.promise_for.ensures.beside c.in_err-promised.ensures.promises up)

pub returns-in-Ok-clause-hears : goal.returns-in-Ok-clause-hears
returns-in-Ok-clause-hears g c =
    let on = view_of g.D.Disk.seen g.D.Disk.faults g.D.Disk.clock in
    let old = c.args.self.now in
    let mid = c.promise_for.new.self in
    let stands = subst (λ (b : Body). PromiseStands on (promise_by (node_of old.maps) b) c.in_ok-promised.promised old c.args.disk.now mid c.promise_for.new.disk) (ap (λ (l : Letter). l.body) c.letter.view_is) c.in_ok-promised.ensures.promises in
    heard_so on c.args.letter.now old c.args.disk.now c.requires.works c.requires.kind mid c.promise_for.new.disk c.keep_locks.new.self c.in_ok-promised.promised stands c.promise_for.ensures.maps c.in-Ok.outbox
    (took_kept c.args.letter.now c.in-Ok.outbox mid c.take_letter.new.self c.keep_locks.new.self c.keep_locks.ensures.mail c.keep_locks.ensures.maps c.in-Ok.ensures.takes) (sym c.if-is_stale.ensures)

pub returns-in-Ok-clause-works : goal.returns-in-Ok-clause-works
returns-in-Ok-clause-works g c =
    let on = view_of g.D.Disk.seen g.D.Disk.faults g.D.Disk.clock in
    let old = c.args.self.now in
    let mid = c.promise_for.new.self in
    let stands = subst (λ (b : Body). PromiseStands on (promise_by (node_of old.maps) b) c.in_ok-promised.promised old c.args.disk.now mid c.promise_for.new.disk) (ap (λ (l : Letter). l.body) c.letter.view_is) c.in_ok-promised.ensures.promises in
    λ up. heard_works on c.args.letter.now old c.args.disk.now c.requires.works c.requires.kind mid c.promise_for.new.disk c.keep_locks.new.self c.in_ok-promised.promised stands c.promise_for.ensures.maps c.in-Ok.outbox
    (took_kept c.args.letter.now c.in-Ok.outbox mid c.take_letter.new.self c.keep_locks.new.self c.keep_locks.ensures.mail c.keep_locks.ensures.maps c.in-Ok.ensures.takes) (c.keep_locks.ensures.reads ∙ c.take_letter.ensures.beside.reads ∙ c.promise_for.ensures.beside.reads)

pub returns-in-Ok-clause-fits : goal.returns-in-Ok-clause-fits
returns-in-Ok-clause-fits g c =
    let on = view_of g.D.Disk.seen g.D.Disk.faults g.D.Disk.clock in
    let old = c.args.self.now in
    let mid = c.promise_for.new.self in
    let stands = subst (λ (b : Body). PromiseStands on (promise_by (node_of old.maps) b) c.in_ok-promised.promised old c.args.disk.now mid c.promise_for.new.disk) (ap (λ (l : Letter). l.body) c.letter.view_is) c.in_ok-promised.ensures.promises in
    heard_fits on c.args.letter.now old c.args.disk.now c.requires.works c.requires.kind mid c.promise_for.new.disk c.keep_locks.new.self c.in_ok-promised.promised stands c.promise_for.ensures.maps c.in-Ok.outbox
    (took_kept c.args.letter.now c.in-Ok.outbox mid c.take_letter.new.self c.keep_locks.new.self c.keep_locks.ensures.mail c.keep_locks.ensures.maps c.in-Ok.ensures.takes)

pub returns-in-Err-clause-hears : goal.returns-in-Err-clause-hears
returns-in-Err-clause-hears g c =
    let on = view_of g.D.Disk.seen g.D.Disk.faults g.D.Disk.clock in
    let old = c.args.self.now in
    let mid = c.promise_for.new.self in
    let body = ap (λ (l : Letter). l.body) c.letter.view_is in
    let stands = subst (λ (b : Body). PromiseStands on (promise_by (node_of old.maps) b) c.in_ok-promised.promised old c.args.disk.now mid c.promise_for.new.disk) body c.in_ok-promised.ensures.promises in
    subst (λ (f : NodeFault). HearsOfMaps on c.args.letter.now old c.args.disk.now c.take_letter.new.self c.promise_for.new.disk (Err f)) (sym c.no_memory.ensures)
    (short_heard on c.args.letter.now old c.args.disk.now c.requires.works c.requires.kind mid c.promise_for.new.disk c.take_letter.new.self c.in_ok-promised.promised stands c.promise_for.ensures.maps c.goes_down.result (sym c.if-is_stale.ensures)
    (λ e. or_first c.in_ok-promised.promised (is_install (body_seen c.letter.inside.body)) (sym c.goes_down.ensures ∙ e))
    (λ e. ap is_install (sym body) ∙ or_second c.in_ok-promised.promised (is_install (body_seen c.letter.inside.body)) (sym c.goes_down.ensures ∙ e))
    c.in-Err.ensures.takes.0 c.in-Err.ensures.takes.1)

pub returns-in-Err-clause-works : goal.returns-in-Err-clause-works
returns-in-Err-clause-works g c =
    let on = view_of g.D.Disk.seen g.D.Disk.faults g.D.Disk.clock in
    let old = c.args.self.now in
    let mid = c.promise_for.new.self in
    let body = ap (λ (l : Letter). l.body) c.letter.view_is in
    let stands = subst (λ (b : Body). PromiseStands on (promise_by (node_of old.maps) b) c.in_ok-promised.promised old c.args.disk.now mid c.promise_for.new.disk) body c.in_ok-promised.ensures.promises in
    subst (λ (f : NodeFault). LeavesUp {T = Outbox} (Err f) → WholeWorks (on.seen c.promise_for.new.disk) c.take_letter.new.self) (sym c.no_memory.ensures)
    (short_works on old c.args.disk.now c.requires.works Outbox (promise_by (node_of old.maps) c.args.letter.now.body) c.args.letter.now.body mid c.promise_for.new.disk c.take_letter.new.self c.in_ok-promised.promised stands c.promise_for.ensures.maps c.goes_down.result
    (λ e. or_first c.in_ok-promised.promised (is_install (body_seen c.letter.inside.body)) (sym c.goes_down.ensures ∙ e))
    (λ e. ap is_install (sym body) ∙ or_second c.in_ok-promised.promised (is_install (body_seen c.letter.inside.body)) (sym c.goes_down.ensures ∙ e))
    c.in-Err.ensures.takes.0 c.in-Err.ensures.takes.1 (c.take_letter.ensures.beside.reads ∙ c.promise_for.ensures.beside.reads))

pub returns-then-is_stale-clause-beside : goal.returns-then-is_stale-clause-beside
returns-then-is_stale-clause-beside g c = λ up. idle_beside c.args.self.now c.args.self.now refl (record { reads = refl; locks = refl })

pub returns-in_err-promised-clause-beside : goal.returns-in_err-promised-clause-beside
returns-in_err-promised-clause-beside g c = λ up. idle_beside c.args.self.now c.promise_for.new.self (ap (λ (m : NodeMaps). m.group.installed) c.promise_for.ensures.maps) c.promise_for.ensures.beside

pub returns-in-Ok-clause-beside : goal.returns-in-Ok-clause-beside
returns-in-Ok-clause-beside g c =
    let on = view_of g.D.Disk.seen g.D.Disk.faults g.D.Disk.clock in
    let old = c.args.self.now in
    let mid = c.promise_for.new.self in
    let new = c.keep_locks.new.self in
    let stands = subst (λ (b : Body). PromiseStands on (promise_by (node_of old.maps) b) c.in_ok-promised.promised old c.args.disk.now mid c.promise_for.new.disk) (ap (λ (l : Letter). l.body) c.letter.view_is) c.in_ok-promised.ensures.promises in
    let has = heard_has on c.args.letter.now old c.args.disk.now c.requires.works c.requires.kind mid c.promise_for.new.disk new c.in_ok-promised.promised stands c.promise_for.ensures.maps c.in-Ok.outbox
    (took_kept c.args.letter.now c.in-Ok.outbox mid c.take_letter.new.self new c.keep_locks.ensures.mail c.keep_locks.ensures.maps c.in-Ok.ensures.takes) in
    let locks : new.locks ≡ (if is_same_epoch (epoch_of (node_seen old.mail)) (epoch_of (node_seen new.mail)) then old.locks else no_locks) =
    c.keep_locks.ensures.locks
    ∙ (λ i. if is_same_epoch (c.epoch-epoch.ensures i) (epoch_of (node_seen (sym c.keep_locks.ensures.mail i))) then (c.take_letter.ensures.beside.locks ∙ c.promise_for.ensures.beside.locks) i else no_locks) in
    λ up. cleared_beside old new c.requires.works.maps has (c.keep_locks.ensures.reads ∙ c.take_letter.ensures.beside.reads ∙ c.promise_for.ensures.beside.reads) locks

pub returns-in-Err-clause-beside : goal.returns-in-Err-clause-beside
returns-in-Err-clause-beside g c =
    let on = view_of g.D.Disk.seen g.D.Disk.faults g.D.Disk.clock in
    let old = c.args.self.now in
    let body = ap (λ (l : Letter). l.body) c.letter.view_is in
    let m = c.promise_for.ensures.beside in
    let t = c.take_letter.ensures.beside in
    subst (λ (f : NodeFault). LeavesUp {T = Outbox} (Err f) → KeepsReads (Up (joint_seen old)) (joint_seen c.take_letter.new.self)) (sym c.no_memory.ensures)
    (short_beside on old c.args.disk.now c.requires.works Outbox c.args.letter.now.body c.promise_for.new.self c.take_letter.new.self c.promise_for.ensures.maps c.goes_down.result
    (λ e. ap is_install (sym body) ∙ or_second c.in_ok-promised.promised (is_install (body_seen c.letter.inside.body)) (sym c.goes_down.ensures ∙ e))
    c.in-Err.ensures.takes.0 (record { reads = t.reads ∙ m.reads; locks = t.locks ∙ m.locks }))
