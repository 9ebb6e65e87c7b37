use Rattle.std.proofs.Common.{◌+◌, ◌<◌, length, refl}
use Rattle.std.proofs.lemmas.Result.{err_from_is_err_and}
use Rattle.std.proofs.lemmas.Option.{slice_get_read}
use Rattle.drive_tape.proofs.Clusters.{stays_ended, has_left, stops_leaving}
use Rattle.drive_tape.proofs.Places.{node_is}
use Rattle.drive_tape.proofs.cluster.Cluster.leave.Goals as goal

pub returns-in_err-leave-in-Some-clause-left : goal.returns-in_err-leave-in-Some-clause-left
returns-in_err-leave-in-Some-clause-left g c start p onward shows ends =
    let e = err_from_is_err_and c.from_residual.result c.from_residual.ensures.1 in
    let inside : c.args.place < length c.args.self.now.sessions.nodes.items = rw c.requires.even.nodes c.requires.within in
    let own = node_is p.sessions c.args.self.now.sessions.nodes.items c.args.place _ ends.plain shows.nodes ends.here (slice_get_read _ _ _ _ refl inside c.index-node.ensures) in
    rw (e.1, e.2) (stops_leaving _ start _ p c.args.place onward _ c.args.self.now _ c.in-Some.call shows (rw c.in-Some.is at ends) own
    (λ user is. c.in_err-leave-in-Some.ensures.left start p.outcomes p.awaited (c.args.place + 1) user is shows.at))

pub returns-in_ok-leave-in-Some-clause-left : goal.returns-in_ok-leave-in-Some-clause-left
returns-in_ok-leave-in-Some-clause-left g c start p onward shows ends =
    let inside : c.args.place < length c.args.self.now.sessions.nodes.items = rw c.requires.even.nodes c.requires.within in
    let own = node_is p.sessions c.args.self.now.sessions.nodes.items c.args.place _ ends.plain shows.nodes ends.here (slice_get_read _ _ _ _ refl inside c.index-node.ensures) in
    has_left _ start _ p c.args.place onward _ c.args.self.now _ c.in-Some.call shows (rw c.in-Some.is at ends) own refl
    (λ user is. c.in_ok-leave-in-Some.ensures.left start p.outcomes p.awaited (c.args.place + 1) user is shows.at)

pub returns-in-None-clause-left : goal.returns-in-None-clause-left
returns-in-None-clause-left g c start p onward shows ends = stays_ended _ start _ p c.args.place onward 0 c.args.self.now c.args.self.now shows (rw c.in-None.is at ends)
