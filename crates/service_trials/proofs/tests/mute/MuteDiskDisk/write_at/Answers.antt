use Rattle.service_trials.proofs.Untold.{untold_tears}
use Rattle.service_trials.proofs.tests.mute.MuteDiskDisk.write_at.Goals as goal

pub returns-then-put-clause-images : goal.returns-then-put-clause-images
returns-then-put-clause-images c = untold_tears _ _ _ _

pub returns-clause-images : goal.returns-clause-images
returns-clause-images c = untold_tears _ _ _ _
