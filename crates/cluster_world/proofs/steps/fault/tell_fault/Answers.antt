use Rattle.cluster_world.specs.Unfinished.{takes_down}
use Rattle.cluster_world.proofs.Installs.{stopped_adds_none}
use Rattle.cluster_world.proofs.steps.fault.tell_fault.Goals as goal

pub returns-clause-installs : goal.returns-clause-installs
returns-clause-installs c = stopped_adds_none c.args.node (takes_down c.args.fault) c.args.book.now c.note_fall.new.book c.note_fall.ensures
