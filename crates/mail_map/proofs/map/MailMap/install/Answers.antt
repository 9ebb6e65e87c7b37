use Rattle.std.proofs.Common.{rules}
use Rattle.std.specs.Option.{option_copied}
use Rattle.mail_map.specs.Installs.{stays}
use Rattle.mail_map.proofs.Retained.{retained}
use Rattle.mail_map.proofs.map.MailMap.install.Goals as goal

pub returns : goal.returns
returns c = λ n boot user.
    retained _ (λ m k u. stays c.args.own (option_copied c.args.old) c.args.new.now c.args.was c.args.members.now m k u) _ (λ k v b w f' t. search rules)
    c.args.self.now.users.entries c.retain.new.self.entries c.retain.ensures.was_ordered c.retain.ensures.filtered user n boot
