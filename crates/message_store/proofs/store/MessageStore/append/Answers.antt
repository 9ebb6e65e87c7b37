use Rattle.std.proofs.Common.{ℕ, List, [], ◌∷◌, ◌++◌, length, ap, subst, arith}
use Rattle.disk_journal.specs.Journal.{TellsJournal, end_of}
use Rattle.message_store.proofs.store.MessageStore.append.Goals as goal

pub returns-clause-put : goal.returns-clause-put
returns-clause-put g c =
    let placed = c.in_ok-place.ensures.placed in
    (c.in_ok-place.place, placed.0, omega (arith, placed.1, ap length c.octets_head.ensures), c.in-Ok.ensures.put)

pub returns-clause-appended : goal.returns-clause-appended
returns-clause-appended g c = λ node payloads stands.
    subst (λ (head : List ℕ). TellsJournal (g.D.Disk.seen c.append.new.disk) node (payloads ++ (head ++ c.args.octets.now) ∷ []) (end_of c.append.new.self)) c.octets_head.ensures
    (c.in_ok-place.ensures.appended node payloads stands)
