use Rattle.std.proofs.Common.{refl, sym, inl}
use Rattle.std.proofs.lemmas.Result.{err_from_is_err_and}
use Rattle.session_model.specs.Run.Stop.{BehindLine, OutOfMemory}
use Rattle.drive_tape.proofs.Drives.{not_handled, behind_not_sink, behind_not_denied, memory_not_sink, memory_not_denied}
use Rattle.drive_tape.proofs.driver.handle.Goals as goal

pub returns-in_err-order-clause-did : goal.returns-in_err-order-clause-did
returns-in_err-order-clause-did g c start p shows clock held =
    let e = err_from_is_err_and c.from_residual.result c.from_residual.ensures.1 in
    rw (e.1, e.2) (not_handled _ start _ p _ _ _ c.args.cluster.now OutOfMemory shows held memory_not_sink memory_not_denied refl)

pub returns-in_default-clause-did : goal.returns-in_default-clause-did
returns-in_default-clause-did g c start p shows clock held =
    not_handled _ start _ p _ _ _ c.args.cluster.now BehindLine shows held behind_not_sink behind_not_denied (inl (refl, refl, inl (refl, sym (rw c.in_default.is at c.in_ok-order.ensures))))

pub returns-in-End-clause-did : goal.returns-in-End-clause-did
returns-in-End-clause-did g c start p shows clock held =
    not_handled _ start _ p _ _ _ c.args.cluster.now BehindLine shows held behind_not_sink behind_not_denied (refl, refl, sym (rw (c.in-Some.is, c.in-End.is) at c.in_ok-order.ensures))
