use Rattle.node_disk.proofs.Passed.{untold_tears}
use Rattle.node_disk.proofs.file.FileDiskDisk.write_at.Goals as goal

pub returns-in_default-clause-images : goal.returns-in_default-clause-images
returns-in_default-clause-images c = untold_tears _ _ _ _

pub returns-in-Ok-clause-images : goal.returns-in-Ok-clause-images
returns-in-Ok-clause-images c = untold_tears _ _ _ _

pub returns-in-Err-clause-images : goal.returns-in-Err-clause-images
returns-in-Err-clause-images c = untold_tears _ _ _ _
