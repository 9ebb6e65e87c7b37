use Rattle.mail_base.proofs.KeyMaps.{key_found}
use Rattle.object_table.proofs.states.States.get.Goals as goal

pub returns : goal.returns
returns c = key_found _ _ c.args.key.now _ c.self.view_is c.get.ensures.value
