use Rattle.std.proofs.Common.{ℕ, List, Option, sym, subst, ◌∙◌, []}
use Rattle.std.proofs.lemmas.Result.{err_from_is_err_and}
use Rattle.disk_journal.specs.declared.place.Place.{Place}
use Rattle.node_store.specs.Rereads.{HasReread}
use Rattle.node_store.specs.declared.store.NodeStore.{NodeStore}
use Rattle.node_store.proofs.Again.{none_read, all_read, not_opened}
use Rattle.node_store.proofs.store.NodeStore.open.Goals as goal

pub returns-in_err-journal-clause-opened : goal.returns-in_err-journal-clause-opened
returns-in_err-journal-clause-opened g c =
    let p = err_from_is_err_and c.from_residual.result c.from_residual.ensures.1 in
    rw (p.1, p.2) (not_opened _ (g.D.Disk.seen c.args.disk.now) c.args.own _ _ c.in_err-journal.ensures.found)

pub reread-requires : goal.reread-requires
reread-requires g c =
    let store : NodeStore = record { own = c.args.own; journal = c.in_ok-journal.journal; messages = c.new.result; objects = c.new-2.result; log = c.new-3.result } in
    let begun = none_read (g.D.Disk.seen c.args.disk.now) store c.new-found.result c.in_ok-journal.places.items c.in_ok-journal.ensures.found.0 c.in_ok-journal.ensures.placed
    (λ id. c.new.ensures id) c.new-2.ensures c.new-3.ensures (c.new-found.ensures c.args.own) in
    record {
      begun = subst (λ (o : Option (List ℕ)). HasReread o store c.new-found.result c.deref.result.now) (sym c.journal_there.ensures.seen)
          (subst (λ (l : List Place). HasReread (g.D.Disk.seen c.args.disk.now) store c.new-found.result l) (sym c.deref.ensures.value) begun);
    }

pub returns-clause-opened : goal.returns-clause-opened
returns-clause-opened g c =
    let r = c.in_ok-reread.ensures.read in (
      all_read (g.D.Disk.seen c.args.disk.now) c.args.own c.reread.new.self c.reread.new.found r.1
          (subst (λ (o : Option (List ℕ)). HasReread o c.reread.new.self c.reread.new.found []) c.journal_there.ensures.seen r.0),
      r.2 ∙ c.in_ok-journal.ensures.found.1,
    )
