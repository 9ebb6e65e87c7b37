use Rattle.std.proofs.Common.{ap, ◌∙◌}
use Rattle.cluster_world.specs.Worlds.{plan_of}
use Rattle.shard_board.specs.Deeds.{is_blind}
use Rattle.shard_board.proofs.Turning.{luck_blind}
use Rattle.shard_board.proofs.works.meet.Goals as goal

pub returns-clause-known : goal.returns-clause-known
returns-clause-known g c =
    let nodes = (plan_of c.args.part.now.world).nodes in
    c.make-said.ensures.known (ap (is_blind nodes) c.step_by-step.ensures ∙ luck_blind nodes c.decide-luck.result c.args.letter)
