use Rattle.std.proofs.Common.{◌≡◌, ◌∙◌, map, take}
use Rattle.std.proofs.lemmas.Result.{IfOk-weaker}
use Rattle.object_model.specs.UpdateLog.{due}
use Rattle.mail_base.specs.Seen.{key_seen}
use Rattle.update_log.specs.Dues.{due_of}
use Rattle.update_log.proofs.Finds.{due_is}
use Rattle.update_log.proofs.log.UpdateLog.due.Goals as goal

pub returns : goal.returns
returns c = IfOk-weaker c.due_in.result (λ keys. map key_seen keys.items ≡ take c.args.most (due_of c.args.to c.self.inside.entries.entries)) (λ keys. map key_seen keys.items ≡ due c.args.self.now c.args.to c.args.most)
    (λ keys are. are ∙ due_is c.self.inside.entries.entries c.args.self.now c.args.to c.args.most c.self.view_is c.due_in.ensures.ordered) c.due_in.ensures.keys
