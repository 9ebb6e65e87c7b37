use Rattle.std.proofs.Common.{◌∙◌, sym}
use Rattle.whole_node.proofs.Locking.{given_back}
use Rattle.whole_node.proofs.managing.give_back.Goals as goal

pub returns-then-was_free : goal.returns-then-was_free
returns-then-was_free c plan node proof before free is = c.release.ensures ∙ given_back plan node c.args.user.now proof c.args.ticket before c.args.locks.now (sym c.if-was_free.true ∙ free) is
