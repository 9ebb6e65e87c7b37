use Rattle.std.proofs.Common.{◌+◌, ap, arith}
use Rattle.serve_word.proofs.Ported.{ports_step}
use Rattle.serve_word.proofs.plan_parts.ports_of.Goals as goal

pub loop-place-preserved : goal.loop-place-preserved
loop-place-preserved c = record {
  made = ports_step c.args.nodes c.loop-place.place c.args.smtp c.args.pop _ _ _ _ _ (omega arith) (ap (λ n. c.args.smtp + n) c.from.ensures) (ap (λ n. c.args.pop + n) c.from-in-loop-place.ensures)
      c.in_ok-push.ensures.items c.in_ok-push-2.ensures.items c.loop-place.invariant.made;
  within = omega arith;
}
