use Rattle.std.proofs.Common.{arith, sym, ◌∙◌, ap}
use Rattle.std.proofs.lemmas.Grind.{common_steps}
use Rattle.cluster_world.proofs.FlightLaws.{put_more, all_rest}
use Rattle.cluster_world.specs.Flights.{put_one}
use Rattle.cluster_world.proofs.flying.put_all.Goals as goal

pub loop-letter-preserved : goal.loop-letter-preserved
loop-letter-preserved c = let steps = c.in-Some.ensures.steps in record {
  all = grind (arith, common_steps);
  rest = grind (arith, common_steps);
  counted = c.put_one.ensures.counted;
  numbers = grind (arith, common_steps);
  room = grind (arith, common_steps);
  spare = grind (arith, common_steps);
  heard = all_rest _ _ _ steps.0 c.loop-letter.invariant.heard;
  put = c.put_one.ensures.put ∙ ap (put_one c.in-Some.letter) c.loop-letter.invariant.put ∙ sym (put_more c.loop-letter.yielded _ _);
}
