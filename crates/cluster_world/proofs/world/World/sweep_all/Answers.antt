use Rattle.std.proofs.Common.{sym, subst, ◌∙◌, Result, Ok}
use Rattle.std.proofs.lemmas.Result.{err_from_is_err_and}
use Rattle.node_store.specs.Disks.{view_of}
use Rattle.cluster_world.specs.Settling.{SweepsAll}
use Rattle.cluster_world.specs.declared.settling.Settle.{Settle}
use Rattle.cluster_world.proofs.Settles.{none_swept, once_more, swept_out, swept_to, due_now, calm_now}
use Rattle.cluster_world.proofs.world.World.sweep_all.Goals as goal

pub loop-alloc-init : goal.loop-alloc-init
loop-alloc-init g c = record {
  ready = c.requires.ready;
  swept = none_swept (view_of g.D.Disk.seen g.D.Disk.faults g.D.Disk.clock) _;
  left = c.numbers_left-left.ensures;
  settled = λ s. s;
}

pub sweep_once-requires-clause-due : goal.sweep_once-requires-clause-due
sweep_once-requires-clause-due g c = due_now _ (sym c.is_owing.ensures ∙ c.loop-alloc-test.true)

pub returns-in_err-left-clause-swept : goal.returns-in_err-left-clause-swept
returns-in_err-left-clause-swept g c =
    let p = err_from_is_err_and c.from_residual.result c.from_residual.ensures.1 in
    rw (p.1, p.2) (swept_out (view_of g.D.Disk.seen g.D.Disk.faults g.D.Disk.clock) c.loop-alloc.left _ _ _ _ c.loop-alloc.invariant.swept c.in_err-left.ensures.swept)

pub loop-alloc-preserved : goal.loop-alloc-preserved
loop-alloc-preserved g c = record {
  ready = c.in_ok-left.ensures.ready;
  swept = once_more (view_of g.D.Disk.seen g.D.Disk.faults g.D.Disk.clock) c.loop-alloc.left _ _ _ _ c.loop-alloc.invariant.swept c.in_ok-left.ensures.swept;
  left = c.in_ok-left.ensures.swept.2;
  settled = λ s. c.in_ok-left.ensures.settled (c.loop-alloc.invariant.settled s);
}

pub returns-clause-swept : goal.returns-clause-swept
returns-clause-swept g c =
    subst (λ (s : Settle). SweepsAll (view_of g.D.Disk.seen g.D.Disk.faults g.D.Disk.clock) (Ok s) c.args.self.now c.loop-alloc.self) (sym c.settle_of.ensures)
    (swept_to (view_of g.D.Disk.seen g.D.Disk.faults g.D.Disk.clock) _ _ c.rest.result c.loop-alloc.invariant.swept c.requires.clear c.rest.ensures (calm_now _ _ c.rest.ensures (sym c.is_owing.ensures ∙ c.loop-alloc-test.false)))
