use Rattle.std.proofs.Common.{◌≡◌, ℕ, List, [], ◌∷◌, ◌++◌, refl, sym, ap, ◌∙◌, subst}
use Rattle.mail_model.specs.Identity.{EpochId}
use Rattle.object_model.specs.Letters.{Letter}
use Rattle.mail_base.specs.Bodies.{proof_seen}
use Rattle.login_model.specs.Rules.{begin_login}
use Rattle.cluster_model.specs.Cluster.{epoch_of}
use Rattle.node_core.specs.Nodes.{node_seen}
use Rattle.node_reads.specs.Tables.{Begins}
use Rattle.whole_node.specs.declared.node.WholeNode.{WholeNode}
use Rattle.whole_node.proofs.LoggedIn.{logs_elsewhere, apart_eq}
use Rattle.whole_node.proofs.node.WholeNode.ask_manager.Goals as goal

pub returns-clause-ok : goal.returns-clause-ok
returns-clause-ok c plan =
    let old = c.args.self.now in
    let new : WholeNode = record old { reads = c.begin_login.new.self } in
    let proof = proof_seen c.args.proof in
    logs_elsewhere old new (record { mail = refl; maps = refl }) c.requires.reads.maps c.requires.reads.reads plan c.args.user proof c.args.manager c.from_vec.result c.args.ticket
    c.requires.managed c.requires.other c.requires.number refl (apart_eq c.args.manager old.mail.store.own c.requires.other)
    (λ word mine. subst (λ (l : List Letter). Begins (epoch_of (node_seen old.mail)) c.args.ticket.seq (λ u. begin_login u c.args.user proof c.args.manager word mine) l old.reads new.reads)
    (sym (c.from_vec.ensures ∙ c.push_reserved.ensures.items ∙ ap (λ (l : List Letter). l ++ c.in_ok-letter.letter ∷ []) (c.in_ok-reserve.ensures.items ∙ c.new-letters.ensures.items)))
    (subst (λ (e : EpochId). Begins e c.args.ticket.seq (λ u. begin_login u c.args.user proof c.args.manager word mine) (c.in_ok-letter.letter ∷ []) old.reads new.reads) c.epoch-epoch.ensures
    (subst (λ (q : ℕ). Begins c.epoch-epoch.result q (λ u. begin_login u c.args.user proof c.args.manager word mine) (c.in_ok-letter.letter ∷ []) old.reads new.reads) (ap (λ n. n.seq) c.ticket.view_is)
    (c.in_ok-letter.ensures.ok word mine))))
