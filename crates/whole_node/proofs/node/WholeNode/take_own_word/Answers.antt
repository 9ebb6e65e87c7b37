use Rattle.std.proofs.Common.{ℕ, List, ap, subst}
use Rattle.std.specs.Prelude.{IfOk}
use Rattle.mail_model.specs.Identity.{EpochId}
use Rattle.mail_model.specs.Plan.{Proof}
use Rattle.mail_base.specs.Bodies.{word_seen}
use Rattle.login_model.specs.Rules.{begin_login}
use Rattle.node_reads.specs.Tables.{Begins}
use Rattle.whole_node.specs.declared.node.WholeNode.{WholeNode}
use Rattle.whole_node.proofs.LoggedIn.{takes_own}
use Rattle.whole_node.proofs.node.WholeNode.take_own_word.Goals as goal

pub returns-clause-ok : goal.returns-clause-ok
returns-clause-ok c =
    let old = c.args.self.now in
    let new : WholeNode = record old { reads = c.begin_own_login.new.self } in
    let word = word_seen c.args.word in
    let mine = c.in_ok-mine.mine in
    takes_own old new c.args.user c.args.ticket word mine c.begin_own_login.result c.in_ok-mine.ensures
    (subst (λ (e : EpochId). IfOk c.begin_own_login.result (λ letters. (proof : Proof) → Begins e c.args.ticket.seq (λ u. begin_login u c.args.user proof old.reads.own word mine) letters old.reads new.reads)) c.epoch-epoch.ensures
    (subst (λ (q : ℕ). IfOk c.begin_own_login.result (λ letters. (proof : Proof) → Begins c.epoch-epoch.result q (λ u. begin_login u c.args.user proof old.reads.own word mine) letters old.reads new.reads)) (ap (λ n. n.seq) c.ticket.view_is)
    c.begin_own_login.ensures.ok))
