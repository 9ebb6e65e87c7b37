use Rattle.std.proofs.Common.{refl, sym, ap, subst, ◌∙◌, []}
use Rattle.mail_model.specs.Plan.{Plan}
use Rattle.yard_stores.proofs.Taking.{as_many}
use Rattle.serve_word.specs.Serving.{IsBeforeDoors}
use Rattle.serve_word.proofs.Ended.{before_untaken, store_untaken}
use Rattle.serve_word.proofs.Served.{not_stored, stored, carried}
use Rattle.serve_word.proofs.Storing.{none_taken, are_stores, are_empty, untaken_same, untaken_failed, served_failed}
use Rattle.serve_word.proofs.serve.serve_parts.Goals as goal

-- no store was taken
pub returns-in_default-clause-serves : goal.returns-in_default-clause-serves
returns-in_default-clause-serves g c told file reads parts =
    not_stored _ _ _ _ _ file _ told _ [] [] reads tt (record { opened = refl; closed = refl; left = refl; held = refl }) (none_taken _ _) refl

-- not all were there
pub returns-in-Err-clause-serves : goal.returns-in-Err-clause-serves
returns-in-Err-clause-serves g c told file reads parts = let t = c.in-Err.ensures.taken in
    not_stored _ _ _ _ _ file _ told _ t.0 c.take_stores.new.disks.items reads (subst IsBeforeDoors (sym c.untaken.ensures) (before_untaken c.in-Err.fault))
    (record { opened = c.give_back_all.ensures.opened ∙ c.in-Err.ensures.opened; closed = c.give_back_all.ensures.closed ∙ c.in-Err.ensures.closed; left = refl; held = refl })
    (are_stores _ _ _ _ _ _ t.0 _ t.1 c.give_back_all.ensures.handed c.in-Err.ensures.returned c.give_back_all.ensures.returned)
    (untaken_same _ g.Y.Store.Disk.faults c.plan.inside.nodes _ _ t.0 _ c.in-Err.fault t.2)

pub returns-in-Err-clause-store_fault : goal.returns-in-Err-clause-store_fault
returns-in-Err-clause-store_fault g c node is = let t = c.in-Err.ensures.taken in
    untaken_failed g.Y.Store.Disk.seen g.Y.Store.Disk.faults _ _ _ _ t.0 c.take_stores.new.disks.items
    (are_stores _ _ _ _ _ _ t.0 _ t.1 c.give_back_all.ensures.handed c.in-Err.ensures.returned c.give_back_all.ensures.returned)
    c.plan.inside.nodes _ _ _ node c.in-Err.fault c.give_back_all.ensures.faults t.2 (store_untaken c.in-Err.fault node (sym c.untaken.ensures ∙ is))

pub serve_stores-end-requires-clause-empty : goal.serve_stores-end-requires-clause-empty
serve_stores-end-requires-clause-empty g c κs lives = let t = c.in_default-take_stores.ensures.taken in are_empty _ g.Y.Store.Disk.faults t.0 _ t.2.0

-- they were served, and given back
pub returns-clause-serves : goal.returns-clause-serves
returns-clause-serves g c told file reads parts = let t = c.in_default-take_stores.ensures.taken in
    stored _ _ _ _ _ file _ told _ t.0 c.take_stores.new.disks.items c.serve_stores-end.result.1.items reads
    (as_many g.Y.Store.Disk.seen g.Y.Store.Disk.faults t.0 _ t.2.0 ∙ t.2.1 ∙ ap (λ (p : Plan). p.nodes) c.plan.view_is ∙ ap (λ (p : Plan). p.nodes) parts.plan_is)
    t.2.0
    (carried _ _ _ _ _ file _ _ _ _ _ _ _ _ _ _ _ _ _ _ _ _ _ _ _ _ _ _ _
    c.in_default-take_stores.ensures.opened (sym c.give_back_all-2.ensures.opened) c.in_default-take_stores.ensures.closed (sym c.give_back_all-2.ensures.closed)
    (c.serve_stores-end.ensures.serves file parts.plan_is parts.names_are (c.deref.ensures.value ∙ parts.ports_are)))
    (are_stores _ _ _ _ _ _ t.0 _ t.1 (c.give_back_all-2.ensures.handed ∙ c.serve_stores-end.ensures.handed) (c.serve_stores-end.ensures.returned ∙ c.in_default-take_stores.ensures.returned) c.give_back_all-2.ensures.returned)

pub returns-clause-store_fault : goal.returns-clause-store_fault
returns-clause-store_fault g c node is = let t = c.in_default-take_stores.ensures.taken in
    served_failed g.Y.Store.Disk.seen g.Y.Store.Disk.faults _ _ _ _ t.0 c.serve_stores-end.result.1.items
    (are_stores _ _ _ _ _ _ t.0 _ t.1 (c.give_back_all-2.ensures.handed ∙ c.serve_stores-end.ensures.handed) (c.serve_stores-end.ensures.returned ∙ c.in_default-take_stores.ensures.returned) c.give_back_all-2.ensures.returned)
    c.take_stores.new.disks.items _ _ node t.2.0 (c.serve_stores-end.ensures.store_fault node is)
