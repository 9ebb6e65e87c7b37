use Rattle.std.proofs.Common.{inl, inr, ⊎_elim}
use Rattle.io_edge.specs.Causes.{Rose}
use Rattle.serve_word.specs.Causes.{DoorsFailed}
use Rattle.serve_word.specs.Stores.{StoreFailed}
use Rattle.serve_word.proofs.Served.{has_stopped, names_rule, ended_early, four_ended, names_store, eight_ended, one_of, completes, rose_on, rose_since}
use Rattle.serve_word.proofs.serve.serve_plan.Goals as goal

pub returns-clause-stopped : goal.returns-clause-stopped
returns-clause-stopped g c is = has_stopped _ _ _ _ _ _ _ _ _ _ c.serve_file-end.ensures.serves c.finish.ensures.finished is

pub returns-clause-early : goal.returns-clause-early
returns-clause-early g c is = ended_early _ _ _ _ _ _ _ _ _ _ c.serve_file-end.ensures.serves c.finish.ensures.finished is

pub returns-clause-store_fault : goal.returns-clause-store_fault
returns-clause-store_fault g c is = names_store _ _ _ _ _ _ _ _ _ _ c.serve_file-end.ensures.serves c.finish.ensures.finished _ c.serve_file-end.ensures.store_fault is

pub returns-clause-door_fault : goal.returns-clause-door_fault
returns-clause-door_fault g c is = c.serve_file-end.ensures.door_fault (eight_ended _ _ _ _ _ _ _ _ _ _ c.serve_file-end.ensures.serves c.finish.ensures.finished is)

pub returns-clause-complete : goal.returns-clause-complete
returns-clause-complete g c octets console told keeps left stop unread read write store doors =
    let works = c.serve_file-end.ensures.serves in
    let last = c.finish.ensures.finished in
    completes c.finish.result (g.Y.Yard.files c.args.yard.now c.args.file.now) (g.S.Source.left c.args.source.now) (g.S.Source.left c.serve_file-end.new.source) (g.K.Sink.contents c.args.sink.now) (g.K.Sink.contents c.finish.new.sink)
    octets console
    (λ node. StoreFailed g.Y.Store.Disk.seen g.Y.Store.Disk.faults (g.Y.Yard.handed c.args.yard.now) (g.Y.Yard.handed c.serve_file-end.new.yard) (g.Y.Yard.returned c.args.yard.now) (g.Y.Yard.returned c.serve_file-end.new.yard)
    (g.Y.Yard.faults c.args.yard.now) (g.Y.Yard.faults c.serve_file-end.new.yard) node)
    (Rose (g.Y.Yard.unread c.args.yard.now) (g.Y.Yard.unread c.serve_file-end.new.yard)) (Rose (g.S.Source.faults c.args.source.now) (g.S.Source.faults c.serve_file-end.new.source))
    (Rose (g.K.Sink.faults c.args.sink.now) (g.K.Sink.faults c.finish.new.sink))
    (DoorsFailed g.Y.Door.Door.left g.Y.Door.Door.quiets g.Y.Door.Door.faults (g.Y.Yard.unopened c.args.yard.now) (g.Y.Yard.unopened c.serve_file-end.new.yard)
    (g.Y.Yard.opened c.args.yard.now) (g.Y.Yard.opened c.serve_file-end.new.yard) (g.Y.Yard.closed c.args.yard.now) (g.Y.Yard.closed c.serve_file-end.new.yard))
    (one_of _ _ _ _ _ _ _ _ _ _ works last)
    (names_rule _ _ _ _ _ _ _ _ _ _ works last)
    (ended_early _ _ _ _ _ _ _ _ _ _ works last)
    (λ is. ⊎_elim (λ e. inl (c.serve_file-end.ensures.unread e)) (λ e. inr (c.serve_file-end.ensures.read_fault e)) (four_ended _ _ _ _ _ _ _ _ _ _ works last is))
    (λ is. ⊎_elim (λ e. rose_on _ _ _ (c.serve_file-end.ensures.write_fault e) c.finish.ensures.later) (λ rose. rose_since _ _ _ c.serve_file-end.ensures.write_later rose) (c.finish.ensures.failed is))
    (λ is. let named = names_store _ _ _ _ _ _ _ _ _ _ works last _ c.serve_file-end.ensures.store_fault is in (named.0, named.2))
    (λ is. c.serve_file-end.ensures.door_fault (eight_ended _ _ _ _ _ _ _ _ _ _ works last is))
    told keeps left stop unread read write store doors
