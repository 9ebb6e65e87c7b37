use Rattle.cluster_world.proofs.Pushing.{crowded_at}
use Rattle.cluster_world.proofs.steps.push.is_crowded_at.Goals as goal

pub returns : goal.returns
returns c = crowded_at c.args.to c.args.most c.args.room c.args.life.now c.in-Up.node c.in-Up.is c.mail.result.now c.mail.ensures c.is_crowded.result c.is_crowded.ensures
