use Rattle.std.proofs.Common.{ℕ, List, Err, subst}
use Rattle.std.specs.Prelude.{⊤}
use Rattle.std.proofs.lemmas.Result.{err_from_is_err_and}
use Rattle.mail_model.specs.Identity.Key.{Message}
use Rattle.cluster_model.specs.Rules.{widen}
use Rattle.node_store.specs.Disks.{view_of}
use Rattle.node_core.specs.Works.{fault_of}
use Rattle.node_core.specs.Pushing.{WidensCopy}
use Rattle.node_core.proofs.Heard.{failed_of}
use Rattle.node_core.proofs.node.Node.widen.Goals as goal

pub returns-in_err-did-clause-widens : goal.returns-in_err-did-clause-widens
returns-in_err-did-clause-widens g c =
    let on = view_of g.D.Disk.seen g.D.Disk.faults g.D.Disk.clock in
    let q = err_from_is_err_and c.from_residual-in_err-did.result c.from_residual-in_err-did.ensures.1 in
    let w = c.in_err-did.ensures.wrote in
    let fault = c.in_err-did.field-0.0 in
    let old = c.args.self.now in
    let before = c.args.disk.now in
    let new = c.widen_key.new.self in
    let after = c.widen_key.new.disk in
    λ plan own p. rw (q.1, q.2)
    (subst (λ (o : ℕ). WidensCopy on o c.args.to (Message c.args.user.now c.args.id) old before new after (Err (fault_of fault))) p.own_is
    (subst (λ (u : List ℕ). WidensCopy on old.store.own c.args.to (Message u c.args.id) old before new after (Err (fault_of fault))) c.in_ok-copy.ensures
    (failed_of on (λ node disk. widen old.store.own c.args.to (Message c.in_ok-copy.field-0 c.args.id) node disk) ⊤ fault old before new after tt w.0 w.1)))
