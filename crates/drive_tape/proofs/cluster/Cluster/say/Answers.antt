use Rattle.std.proofs.Common.{◌+◌, true, false}
use Rattle.std.proofs.lemmas.Result.{err_from_is_err_and}
use Rattle.drive_tape.specs.declared.sessions.After.TheVariants.{Stays, Ends}
use Rattle.drive_tape.proofs.Clusters.{said_on, said_ends, said_work, said_shows, stops_saying, went_on, stopped_on, held_point, as_wrote, as_gave}
use Rattle.drive_tape.proofs.FedTells.{stops_telling, told_on, told_ends, told_left, told_stopped, told_shows}
use Rattle.drive_tape.proofs.cluster.Cluster.say.Goals as goal

pub returns-in_err-write_reply-in-Stays-clause-said : goal.returns-in_err-write_reply-in-Stays-clause-said
returns-in_err-write_reply-in-Stays-clause-said g c start p q onward saying held =
    let e = err_from_is_err_and c.from_residual.result c.from_residual.ensures.1 in
    let s = rw c.in-Stays.is at saying in
    rw (e.1, e.2) (stops_saying _ start _ p q c.args.place onward Stays _ c.args.self.now s _ c.in_err-write_reply-in-Stays.field-0.0
    (as_wrote p.held _ _ _ (c.args.place + 1) s.said false c.in_err-write_reply-in-Stays.field-0.0 held c.number_of.ensures (c.in_err-write_reply-in-Stays.ensures.written s.said s.lines s.says)))

pub returns-in_err-write_reply-in-Ends-clause-said : goal.returns-in_err-write_reply-in-Ends-clause-said
returns-in_err-write_reply-in-Ends-clause-said g c start p q onward saying held =
    let e = err_from_is_err_and c.from_residual-in_err-write_reply-in-Ends.result c.from_residual-in_err-write_reply-in-Ends.ensures.1 in
    let s = rw c.in-Ends.is at saying in
    rw (e.1, e.2) (stops_saying _ start _ p q c.args.place onward (Ends c.in-Ends.call) _ c.args.self.now s _ c.in_err-write_reply-in-Ends.field-0.0
    (as_wrote p.held _ _ _ (c.args.place + 1) s.said true c.in_err-write_reply-in-Ends.field-0.0 held c.number_of-in-Ends.ensures (c.in_err-write_reply-in-Ends.ensures.written s.said s.lines s.says)))

pub returns-in_err-leave-in-Ends-clause-said : goal.returns-in_err-leave-in-Ends-clause-said
returns-in_err-leave-in-Ends-clause-said g c start p q onward saying held =
    let e = err_from_is_err_and c.from_residual-in_err-leave-in-Ends.result c.from_residual-in_err-leave-in-Ends.ensures.1 in
    let s = rw c.in-Ends.is at saying in
    let work = said_work _ start _ p q c.args.place onward (Ends c.in-Ends.call) _ c.args.self.now s _
    (as_gave p.held _ _ _ (c.args.place + 1) s.said true held c.number_of-in-Ends.ensures (c.in_ok-write_reply-in-Ends.ensures.written s.said s.lines s.says)) in
    rw (e.1, e.2) (stopped_on _ start _ p _ _ _ _ work
    (c.in_err-leave-in-Ends.ensures.left start (held_point q _) onward (said_shows _ start _ p q c.args.place onward (Ends c.in-Ends.call) _ c.args.self.now s _)
    (said_ends _ start _ p q c.args.place onward _ c.args.self.now _ c.in-Ends.call s)))

pub returns-in_ok-write_reply-in-Stays-clause-said : goal.returns-in_ok-write_reply-in-Stays-clause-said
returns-in_ok-write_reply-in-Stays-clause-said g c start p q onward saying held =
    let s = rw c.in-Stays.is at saying in
    said_on _ start _ p q c.args.place onward _ c.args.self.now _ s
    (as_gave p.held _ _ _ (c.args.place + 1) s.said false held c.number_of.ensures (c.in_ok-write_reply-in-Stays.ensures.written s.said s.lines s.says))

pub returns-in_ok-leave-in-Ends-clause-said : goal.returns-in_ok-leave-in-Ends-clause-said
returns-in_ok-leave-in-Ends-clause-said g c start p q onward saying held =
    let s = rw c.in-Ends.is at saying in
    let work = said_work _ start _ p q c.args.place onward (Ends c.in-Ends.call) _ c.args.self.now s _
    (as_gave p.held _ _ _ (c.args.place + 1) s.said true held c.number_of-in-Ends.ensures (c.in_ok-write_reply-in-Ends.ensures.written s.said s.lines s.says)) in
    went_on _ start _ p _ _ _ _ work
    (c.in_ok-leave-in-Ends.ensures.left start (held_point q _) onward (said_shows _ start _ p q c.args.place onward (Ends c.in-Ends.call) _ c.args.self.now s _)
    (said_ends _ start _ p q c.args.place onward _ c.args.self.now _ c.in-Ends.call s))

pub returns-in_err-write_reply-in-Stays-clause-told : goal.returns-in_err-write_reply-in-Stays-clause-told
returns-in_err-write_reply-in-Stays-clause-told g c start p q line telling held =
    let e = err_from_is_err_and c.from_residual.result c.from_residual.ensures.1 in
    let t = rw c.in-Stays.is at telling in
    rw (e.1, e.2) (stops_telling _ start _ p q line c.args.place Stays _ c.args.self.now t _ c.in_err-write_reply-in-Stays.field-0.0
    (as_wrote p.held _ _ _ (c.args.place + 1) t.said false c.in_err-write_reply-in-Stays.field-0.0 held c.number_of.ensures (c.in_err-write_reply-in-Stays.ensures.written t.said t.lines t.says)))

pub returns-in_err-write_reply-in-Ends-clause-told : goal.returns-in_err-write_reply-in-Ends-clause-told
returns-in_err-write_reply-in-Ends-clause-told g c start p q line telling held =
    let e = err_from_is_err_and c.from_residual-in_err-write_reply-in-Ends.result c.from_residual-in_err-write_reply-in-Ends.ensures.1 in
    let t = rw c.in-Ends.is at telling in
    rw (e.1, e.2) (stops_telling _ start _ p q line c.args.place (Ends c.in-Ends.call) _ c.args.self.now t _ c.in_err-write_reply-in-Ends.field-0.0
    (as_wrote p.held _ _ _ (c.args.place + 1) t.said true c.in_err-write_reply-in-Ends.field-0.0 held c.number_of-in-Ends.ensures (c.in_err-write_reply-in-Ends.ensures.written t.said t.lines t.says)))

pub returns-in_err-leave-in-Ends-clause-told : goal.returns-in_err-leave-in-Ends-clause-told
returns-in_err-leave-in-Ends-clause-told g c start p q line telling held =
    let e = err_from_is_err_and c.from_residual-in_err-leave-in-Ends.result c.from_residual-in_err-leave-in-Ends.ensures.1 in
    let t = rw c.in-Ends.is at telling in
    let gave = as_gave p.held _ _ _ (c.args.place + 1) t.said true held c.number_of-in-Ends.ensures (c.in_ok-write_reply-in-Ends.ensures.written t.said t.lines t.says) in
    rw (e.1, e.2) (told_stopped _ start _ p q line c.args.place _ c.args.self.now _ c.in-Ends.call t _ _ _ gave
    (c.in_err-leave-in-Ends.ensures.left start (held_point q _) 1 (told_shows _ start _ p q line c.args.place (Ends c.in-Ends.call) _ c.args.self.now t _)
    (told_ends _ start _ p q line c.args.place _ c.args.self.now _ c.in-Ends.call t)))

pub returns-in_ok-write_reply-in-Stays-clause-told : goal.returns-in_ok-write_reply-in-Stays-clause-told
returns-in_ok-write_reply-in-Stays-clause-told g c start p q line telling held =
    let t = rw c.in-Stays.is at telling in
    told_on _ start _ p q line c.args.place _ c.args.self.now _ t
    (as_gave p.held _ _ _ (c.args.place + 1) t.said false held c.number_of.ensures (c.in_ok-write_reply-in-Stays.ensures.written t.said t.lines t.says))

pub returns-in_ok-leave-in-Ends-clause-told : goal.returns-in_ok-leave-in-Ends-clause-told
returns-in_ok-leave-in-Ends-clause-told g c start p q line telling held =
    let t = rw c.in-Ends.is at telling in
    let gave = as_gave p.held _ _ _ (c.args.place + 1) t.said true held c.number_of-in-Ends.ensures (c.in_ok-write_reply-in-Ends.ensures.written t.said t.lines t.says) in
    told_left _ start _ p q line c.args.place _ c.args.self.now _ c.in-Ends.call t _ _ gave
    (c.in_ok-leave-in-Ends.ensures.left start (held_point q _) 1 (told_shows _ start _ p q line c.args.place (Ends c.in-Ends.call) _ c.args.self.now t _)
    (told_ends _ start _ p q line c.args.place _ c.args.self.now _ c.in-Ends.call t))
