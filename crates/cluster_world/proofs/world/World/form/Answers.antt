use Rattle.std.proofs.lemmas.Result.{err_from_is_err_and}
use Rattle.node_store.specs.Disks.{view_of}
use Rattle.cluster_world.proofs.Rounds.{again_halts, forms_on}
use Rattle.cluster_world.proofs.world.World.form.Goals as goal

pub returns-in_err-ask_again-clause-formed : goal.returns-in_err-ask_again-clause-formed
returns-in_err-ask_again-clause-formed g c =
    let p = err_from_is_err_and c.from_residual-in_err-ask_again.result c.from_residual-in_err-ask_again.ensures.1 in
    rw (p.1, p.2) (again_halts (view_of g.D.Disk.seen g.D.Disk.faults g.D.Disk.clock) _ _ _ _ _ _ c.in_ok-again.ensures.asked c.in_err-ask_again.ensures.asked)

pub returns-clause-formed : goal.returns-clause-formed
returns-clause-formed g c =
    forms_on (view_of g.D.Disk.seen g.D.Disk.faults g.D.Disk.clock) _ _ _ _ _ _ _ c.in_ok-again.ensures.asked c.in_ok-ask_again.ensures.asked c.conclude_all.ensures.concluded
