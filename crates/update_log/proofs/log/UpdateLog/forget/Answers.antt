use Rattle.mail_base.proofs.KeyMaps.{key_removed}
use Rattle.update_log.proofs.log.UpdateLog.forget.Goals as goal

pub returns : goal.returns
returns c = key_removed _ _ c.args.self.now c.args.key.now c.self.view_is c.take_out.ensures
