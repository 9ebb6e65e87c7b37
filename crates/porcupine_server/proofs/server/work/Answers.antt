use Rattle.std.proofs.Common.{refl, sym, ap, ◌∙◌, subst, inl, inr, []}
use Rattle.mail_model.specs.Plan.{Plan}
use Rattle.porcupine_server.specs.Works.{IsBeforeRun}
use Rattle.yard_stores.proofs.Taking.{as_many}
use Rattle.serve_word.proofs.Storing.{none_taken, are_stores, are_empty, untaken_same, untaken_failed, served_failed}
use Rattle.porcupine_server.proofs.Serving.{before_untaken, store_untaken}
use Rattle.porcupine_server.proofs.server.work.Goals as goal

pub returns-in_default-clause-works : goal.returns-in_default-clause-works
returns-in_default-clause-works g c = inr (inl (record {
  plan = c.in-Ok.head.0;
  count = c.in-Ok.head.1;
  reads = c.in-Ok.ensures.plan;
  is = tt;
  none = refl;
  taken = [];
  given = [];
  are = none_taken _ _;
  kept = refl;
}))

pub returns-in-Err-take_stores-clause-works : goal.returns-in-Err-take_stores-clause-works
returns-in-Err-take_stores-clause-works g c = let t = c.in-Err-take_stores.ensures.taken in inr (inl (record {
  plan = c.in-Ok.head.0;
  count = c.in-Ok.head.1;
  reads = c.in-Ok.ensures.plan;
  is = subst IsBeforeRun (sym c.untaken.ensures) (before_untaken c.in-Err-take_stores.fault);
  none = refl;
  taken = t.0;
  given = c.take_stores.new.disks.items;
  are = are_stores _ _ _ _ _ _ t.0 _ t.1 c.give_back_all.ensures.handed c.in-Err-take_stores.ensures.returned c.give_back_all.ensures.returned;
  kept = untaken_same _ g.Y.Store.Disk.faults c.plan.inside.nodes _ _ t.0 _ c.in-Err-take_stores.fault t.2;
}))

pub returns-in-Err-take_stores-clause-store_fault : goal.returns-in-Err-take_stores-clause-store_fault
returns-in-Err-take_stores-clause-store_fault g c node is = let t = c.in-Err-take_stores.ensures.taken in
    untaken_failed g.Y.Store.Disk.seen g.Y.Store.Disk.faults _ _ _ _ t.0 c.take_stores.new.disks.items
    (are_stores _ _ _ _ _ _ t.0 _ t.1 c.give_back_all.ensures.handed c.in-Err-take_stores.ensures.returned c.give_back_all.ensures.returned)
    c.plan.inside.nodes _ _ _ node c.in-Err-take_stores.fault c.give_back_all.ensures.faults t.2 (store_untaken c.in-Err-take_stores.fault node (sym c.untaken.ensures ∙ is))

pub serve-ending-requires-clause-empty : goal.serve-ending-requires-clause-empty
serve-ending-requires-clause-empty g c = let t = c.in_default-take_stores.ensures.taken in are_empty _ g.Y.Store.Disk.faults t.0 _ t.2.0

pub returns-clause-works : goal.returns-clause-works
returns-clause-works g c = let t = c.in_default-take_stores.ensures.taken in inr (inr (record {
  plan = c.in-Ok.head.0;
  count = c.in-Ok.head.1;
  between = g.S.Source.left c.read_drive_head.new.source;
  reads = c.in-Ok.ensures.plan;
  fits = c.in-Ok.ensures.fits;
  taken = t.0;
  disks = c.take_stores.new.disks.items;
  given = c.serve-ending.result.1.items;
  one_each = as_many g.Y.Store.Disk.seen g.Y.Store.Disk.faults t.0 _ t.2.0 ∙ t.2.1 ∙ ap (λ (p : Plan). p.nodes) c.plan.view_is;
  looked = t.2.0;
  serves = c.serve-ending.ensures.serves;
  are = are_stores _ _ _ _ _ _ t.0 _ t.1 c.give_back_all-2.ensures.handed c.in_default-take_stores.ensures.returned c.give_back_all-2.ensures.returned;
}))

pub returns-clause-store_fault : goal.returns-clause-store_fault
returns-clause-store_fault g c node is = let t = c.in_default-take_stores.ensures.taken in
    served_failed g.Y.Store.Disk.seen g.Y.Store.Disk.faults _ _ _ _ t.0 c.serve-ending.result.1.items
    (are_stores _ _ _ _ _ _ t.0 _ t.1 c.give_back_all-2.ensures.handed c.in_default-take_stores.ensures.returned c.give_back_all-2.ensures.returned)
    c.take_stores.new.disks.items _ _ node t.2.0 (c.serve-ending.ensures.store_fault node is)
