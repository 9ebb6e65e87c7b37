use Rattle.std.proofs.Common.{◌∙◌, sym}
use Rattle.mail_base.specs.Bodies.{proof_seen}
use Rattle.whole_node.proofs.LoggedIn.{login_refused}
use Rattle.whole_node.proofs.node.WholeNode.begin_login.Goals as goal

pub returns-in-None-clause-begins : goal.returns-in-None-clause-begins
returns-in-None-clause-begins c plan own seconds is users =
    login_refused plan own seconds c.args.user (proof_seen c.args.proof) c.refuse_read.result c.args.self.now c.refuse_read.new.self (sym is.own_is) (sym c.manager.ensures ∙ c.in-None.is) c.refuse_read.ensures.refuses
