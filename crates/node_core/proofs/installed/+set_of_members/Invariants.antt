use Rattle.std.proofs.Common.{length}
use Rattle.node_core.proofs.installed.+set_of_members.Given as goal

abbrev pub decreases-set_of_members : goal.decreases-set_of_members
decreases-set_of_members l = length l.members.now
