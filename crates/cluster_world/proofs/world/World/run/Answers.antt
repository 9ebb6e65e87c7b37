use Rattle.std.proofs.Common.{◌≡◌, ◌++◌, ◌∷◌, List, [], arith, sym, subst}
use Rattle.std.specs.Vec.Iter.{into_iter_items}
use Rattle.std.proofs.lemmas.Grind.{common_steps}
use Rattle.std.proofs.lemmas.Result.{err_from_is_err_and}
use Rattle.node_store.specs.Disks.{view_of}
use Rattle.cluster_world.specs.Runs.{MadeThese}
use Rattle.cluster_world.specs.declared.step.Said.{Said}
use Rattle.cluster_world.proofs.InTurn.{one_more_made, stopped_at}
use Rattle.cluster_world.proofs.world.World.run.Goals as goal

pub returns-in_err-step-clause-stops : goal.returns-in_err-step-clause-stops
returns-in_err-step-clause-stops g c =
    let p = err_from_is_err_and c.from_residual-in_err-step.result c.from_residual-in_err-step.ensures.1 in
    let steps = c.in-Some.ensures.steps in
    let split : c.loop-step.yielded ++ c.in-Some.step ∷ into_iter_items c.next.new.self ≡ c.args.steps.items =
    grind (arith, common_steps) in
    rw (p.1, p.2) (stopped_at (view_of g.D.Disk.seen g.D.Disk.faults g.D.Disk.clock) c.args.steps.items c.loop-step.yielded (into_iter_items c.next.new.self) c.loop-step.said.items c.in-Some.step _
    c.args.self.now c.loop-step.self c.step.new.self split c.loop-step.invariant.made c.in_err-step.ensures.is)

pub loop-step-preserved : goal.loop-step-preserved
loop-step-preserved g c =
    let steps = c.in-Some.ensures.steps in
    let on = view_of g.D.Disk.seen g.D.Disk.faults g.D.Disk.clock in
    record {
      all = grind (arith, common_steps);
      rest = grind (arith, common_steps);
      spare = grind (arith, common_steps);
      ready = c.step.ensures.ready;
      made = subst (λ (xs : List Said). MadeThese on (c.loop-step.yielded ++ c.in-Some.step ∷ []) xs c.args.self.now c.step.new.self) (sym c.push_reserved.ensures.items)
          (one_more_made on c.loop-step.yielded c.loop-step.said.items c.in-Some.step c.in_ok-step.field-0 c.args.self.now c.loop-step.self c.step.new.self c.loop-step.invariant.made c.in_ok-step.ensures.is);
      settled = λ s. c.step.ensures.settled (c.loop-step.invariant.settled s);
    }
