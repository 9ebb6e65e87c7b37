use Rattle.std.proofs.Common.{sym, ap, ◌∙◌}
use Rattle.std.specs.Option.{option_copied}
use Rattle.std.specs.Ordering.{nat_cmp}
use Rattle.std.specs.Cmp.Lexicographic.{slice_cmp}
use Rattle.std.specs.BTreeMap as tree
use Rattle.mail_map.proofs.OneUser.{names_none}
use Rattle.mail_map.proofs.map.MailMap.named.Goals as goal

pub returns-in-None : goal.returns-in-None
returns-in-None c = λ n. c.empty.ensures.none n
    ∙ sym (names_none (tree.get (slice_cmp nat_cmp) c.args.self.now.users c.args.user.now) (sym (ap option_copied c.in-None.is) ∙ c.get.ensures.value) c.args.members.now n)
