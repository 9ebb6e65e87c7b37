use Rattle.std.proofs.Common.{◌≡◌, List, Option, Some, refl, sym, ap, ◌∙◌, subst}
use Rattle.std.specs.Prelude.{IfOk}
use Rattle.mail_model.specs.Identity.{EpochId}
use Rattle.object_model.specs.Letters.{LoginWord, Letter}
use Rattle.object_model.specs.Letters.Body.{LoginTold}
use Rattle.mail_base.specs.Bodies.{word_seen}
use Rattle.cluster_model.specs.Cluster.{epoch_of}
use Rattle.node_core.specs.Nodes.{node_seen}
use Rattle.node_reads.specs.Tables.{Hears}
use Rattle.whole_node.specs.declared.node.WholeNode.{WholeNode}
use Rattle.whole_node.proofs.HeardReads.{word_heard}
use Rattle.whole_node.proofs.node.WholeNode.hear_login_told.Goals as goal

pub returns-clause-ok : goal.returns-clause-ok
returns-clause-ok c =
    let old = c.args.self.now in
    let new : WholeNode = record old { reads = c.hear_word.new.self } in
    let letter = c.args.letter.now in
    let ticket = c.in-Some.ticket in
    let mine = c.in_ok-mine.mine in
    word_heard old new (record { mail = refl; maps = refl }) c.requires.reads.maps c.requires.reads.reads refl letter (word_seen c.args.word.now) ticket c.letter.inside.from mine c.hear_word.result
    (sym c.ticket_of.ensures ∙ c.in-Some.is) (sym (ap (λ (l : Letter). l.from) c.letter.view_is)) c.requires.body c.in_ok-mine.ensures
    (subst (λ (w : LoginWord). IfOk c.hear_word.result (λ letters. Hears (epoch_of (node_seen old.mail)) ticket c.letter.inside.from (LoginTold w) mine letters old.reads new.reads)) (ap word_seen c.copy.ensures)
    (subst (λ (e : EpochId). IfOk c.hear_word.result (λ letters. Hears e ticket c.letter.inside.from (LoginTold (word_seen c.copy.result)) mine letters old.reads new.reads)) c.epoch-epoch.ensures c.hear_word.ensures.ok))
