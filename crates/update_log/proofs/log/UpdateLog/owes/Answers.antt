use Rattle.std.proofs.Common.{◌∙◌}
use Rattle.update_log.proofs.Finds.{owes_is}
use Rattle.update_log.proofs.log.UpdateLog.owes.Goals as goal

pub returns : goal.returns
returns c = c.any_owes.ensures.any ∙ owes_is _ c.args.self.now c.args.to c.self.view_is c.any_owes.ensures.ordered
