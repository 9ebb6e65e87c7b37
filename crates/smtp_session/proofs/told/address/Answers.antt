use Rattle.std.proofs.Common.{◌≡◌, Some, rules}
use Rattle.mail_model.specs.Plan.{mailbox_of}
use Rattle.smtp_session.proofs.Choices.{cond_under}
use Rattle.smtp_session.proofs.told.address.Goals as goal

pub returns-in_ok-accept-in-Some-2-clause-ok : goal.returns-in_ok-accept-in-Some-2-clause-ok
returns-in_ok-accept-in-Some-2-clause-ok c n =
    let found : mailbox_of c.args.plan.now c.args.path.now ≡ Some c.in-Some-2.mailbox = search rules in
    let is : c.args.envelope.now ≡ Some c.in-Some.envelope = search rules in
    let did = c.in_ok-accept-in-Some-2.ensures.ok n in
    rw (is, found) (did.0, cond_under Some _ _ _ _ did.1)
