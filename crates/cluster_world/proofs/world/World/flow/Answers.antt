use Rattle.std.proofs.Common.{◌<◌, ℕ, Option, arith, sym, ◌∙◌, subst}
use Rattle.std.proofs.lemmas.Result.{err_from_is_err_and}
use Rattle.cluster_world.proofs.Flowing.{one_more_posted, all_posted, posted_until, posted_then, delivered, none_first}
use Rattle.cluster_world.specs.Flights.{first_number}
use Rattle.cluster_world.proofs.Passing.{distance_of, nearer}
use Rattle.cluster_world.proofs.world.World.flow.Goals as goal

pub returns-in_err-node-clause-flowed : goal.returns-in_err-node-clause-flowed
returns-in_err-node-clause-flowed g c =
    let p = err_from_is_err_and c.from_residual.result c.from_residual.ensures.1 in
    rw (p.1, p.2) (posted_then _ _ _ _ _ _ c.loop-letter.invariant.posted (sym c.first.ensures.first ∙ c.in-Some.is, c.first.ensures.order, c.in_err-node.ensures.is))

pub returns-in-Faulted-clause-flowed : goal.returns-in-Faulted-clause-flowed
returns-in-Faulted-clause-flowed g c =
    posted_until _ _ _ _ _ _ c.loop-letter.invariant.posted (sym c.first.ensures.first ∙ c.in-Some.is, c.first.ensures.order, rw c.in-Faulted.is at c.in_ok-node.ensures.is)

pub loop-letter-preserved : goal.loop-letter-preserved
loop-letter-preserved g c = record {
  ready = c.step.ensures.ready;
  posted = one_more_posted _ _ _ _ _ _ c.loop-letter.invariant.posted (sym c.first.ensures.first ∙ c.in-Some.is, c.first.ensures.order, c.in_ok-node.ensures.is) (delivered c.in-Some.letter _ c.in_ok-node.ensures.is.did.kind c.in_default-2.not-Faulted);
  settled = λ s. c.step.ensures.settled (c.loop-letter.invariant.settled s);
}

pub returns-clause-flowed : goal.returns-clause-flowed
returns-clause-flowed g c = all_posted _ _ _ c.loop-letter.invariant.posted (none_first _ (sym c.first.ensures.first ∙ c.in_default.is))

pub loop-letter-smaller : goal.loop-letter-smaller
loop-letter-smaller g c =
    let first = sym c.first.ensures.first ∙ c.in-Some.is in
    subst (λ (o : Option ℕ). distance_of (first_number c.step.new.self.flying.flights) < distance_of o) (sym first)
    (nearer c.in-Some.letter c.step.new.self.flying.flights (omega (arith, rw c.in-Some.is at c.first.type_inv)) (c.in_ok-node.ensures.is.did.passed first))
