use Rattle.std.proofs.Common.{List, sym, ap, ◌∙◌}
use Rattle.mail_model.specs.Identity.{EpochId}
use Rattle.object_model.specs.Letters.{Letter}
use Rattle.login_model.specs.Rules.{unlock}
use Rattle.node_reads.proofs.answering.leave.Goals as goal

pub returns : goal.returns
returns c = λ node e.
    ap (λ (x : EpochId). record { node = node; out = unlock (record { own = c.args.own; epoch = x; number = c.args.login }) c.args.user c.args.login c.args.manager }) e
    ∙ ap (λ (l : List Letter). record { node = node; out = l }) (sym c.unlock.ensures)
