use Rattle.std.proofs.Common.{inl}
use Rattle.cluster_world.specs.Worlds.{disks_of}
use Rattle.desk_trials.proofs.Telling.{all_told}
use Rattle.desk_trials.proofs.tests.calls.opens_group.Goals as goal

pub step-said-requires-clause-known : goal.step-said-requires-clause-known
step-said-requires-clause-known c = inl (all_told (disks_of c.args.pass.now.world))
