use Rattle.whole_world.proofs.Reporting.{comes}
use Rattle.whole_world.proofs.laws.reports_go.Goals as goal

pub returns : goal.returns
returns c = λ plan tells w from to listed. comes plan tells w from to listed
