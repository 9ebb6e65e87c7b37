use Rattle.membership.proofs.Ruled.{hears_install}
use Rattle.membership.proofs.laws.install_as_ruled.Goals as goal

pub returns : goal.returns
returns c = hears_install
