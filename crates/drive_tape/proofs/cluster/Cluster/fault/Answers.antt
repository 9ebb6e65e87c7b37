use Rattle.std.proofs.Common.{◌<◌, length, ◌∷◌, [], ℕ, Ok, Err, refl, sym, ◌∙◌, subst}
use Rattle.std.proofs.lemmas.Result.{err_from_is_err_and}
use Rattle.std.proofs.lemmas.Option.{slice_get_read}
use Rattle.node_store.specs.Disks.{view_of}
use Rattle.session_model.specs.Events.{fault_event}
use Rattle.drive_tape.specs.declared.entry.WriteStop.{WriteStop}
use Rattle.drive_tape.specs.Entries.{WritesEntries}
use Rattle.drive_tape.specs.Clusters.{IsFalling}
use Rattle.drive_tape.proofs.Clusters.{goes_more}
use Rattle.drive_tape.proofs.Places.{node_is}
use Rattle.drive_tape.proofs.Falling.{stops_faulting, faults_on, faulted_point, falling_first}
use Rattle.drive_tape.proofs.cluster.Cluster.fault.Goals as goal

pub returns-in_err-write_fault-clause-faulted : goal.returns-in_err-write_fault-clause-faulted
returns-in_err-write_fault-clause-faulted g c start plan p onward node f held =
    let e = err_from_is_err_and c.from_residual.result c.from_residual.ensures.1 in
    let inside : c.args.place < length c.args.self.now.sessions.nodes.items = rw c.requires.even.nodes c.requires.within in
    let own = node_is p.sessions c.args.self.now.sessions.nodes.items c.args.place _ f.plain f.fallen.nodes f.here (slice_get_read _ _ _ _ refl inside c.index-node.ensures) in
    let wrote = subst (λ (n : ℕ). WritesEntries {E = WriteStop} (g.K.Sink.contents c.args.sink.now) (g.K.Sink.contents c.write_fault.new.sink) (Err c.in_err-write_fault.field-0.0) (fault_event n ∷ [])) (c.number.ensures.number ∙ sym own ∙ f.own) c.in_err-write_fault.ensures.written in
    rw (e.1, e.2) (stops_faulting _ start plan p c.args.place onward node c.args.self.now f _ c.in_err-write_fault.field-0.0 (rw held wrote))

pub returns-clause-faulted : goal.returns-clause-faulted
returns-clause-faulted g c start plan p onward node f held =
    let on = view_of g.D.Disk.seen g.D.Disk.faults g.D.Disk.clock in
    let inside : c.args.place < length c.args.self.now.sessions.nodes.items = rw c.requires.even.nodes c.requires.within in
    let own = node_is p.sessions c.args.self.now.sessions.nodes.items c.args.place _ f.plain f.fallen.nodes f.here (slice_get_read _ _ _ _ refl inside c.index-node.ensures) in
    let own2 = node_is p.sessions c.args.self.now.sessions.nodes.items c.args.place _ f.plain f.fallen.nodes f.here (slice_get_read _ _ _ _ refl inside c.index-node-2.ensures) in
    let gave = subst (λ (n : ℕ). WritesEntries {E = WriteStop} (g.K.Sink.contents c.args.sink.now) (g.K.Sink.contents c.write_fault.new.sink) (Ok c.in_ok-write_fault.field-0) (fault_event n ∷ [])) (c.number.ensures.number ∙ sym own ∙ f.own) c.in_ok-write_fault.ensures.written in
    let q = faulted_point on start plan p c.args.place onward node c.args.self.now f (g.K.Sink.contents c.write_fault.new.sink) in
    goes_more on start plan p q _ c.fall.result _ c.fall.new.self (faults_on on start plan p c.args.place onward node c.args.self.now f _ (rw held gave))
    (c.fall.ensures.fell start plan q onward (subst (λ (n : ℕ). IsFalling on start plan q 0 n onward c.args.self.now) (sym f.own ∙ own2) (falling_first on start plan p c.args.place onward node c.args.self.now f (g.K.Sink.contents c.write_fault.new.sink))) refl)
