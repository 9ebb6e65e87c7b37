use Rattle.cluster_model.proofs.Merged.{says_merge}
use Rattle.cluster_model.proofs.laws.disk_says_merge.Goals as goal

pub returns : goal.returns
returns c = λ own updates store key. says_merge own updates store key
