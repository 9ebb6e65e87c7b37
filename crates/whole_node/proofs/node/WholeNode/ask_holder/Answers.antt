use Rattle.std.proofs.Common.{◌≡◌, ℕ, List, [], ◌∷◌, ◌++◌, Option, Some, None, refl, sym, ap, ◌∙◌, subst}
use Rattle.mail_model.specs.Identity.{EpochId}
use Rattle.object_model.specs.Letters.{Letter}
use Rattle.login_model.specs.Rules.{begin_fetch}
use Rattle.cluster_model.specs.Cluster.{epoch_of}
use Rattle.node_core.specs.Nodes.{node_seen}
use Rattle.node_reads.specs.Readings.{listed}
use Rattle.node_reads.specs.Tables.{Begins}
use Rattle.whole_node.specs.declared.node.WholeNode.{WholeNode}
use Rattle.whole_node.proofs.node.WholeNode.ask_holder.Goals.{in-Some, in_default}
use Rattle.whole_node.proofs.node.WholeNode.ask_holder.Goals as goal

pub returns-clause-ok : goal.returns-clause-ok
returns-clause-ok c part =
    let old = c.args.self.now in
    let new : WholeNode = record old { reads = c.begin_fetch.new.self } in
    let none = c.in_ok-reserve.ensures.items ∙ c.new-letters.ensures.items in
    let is : c.from_vec.result ≡ listed c.in_ok-letter.letter = elim c.match-letter.branch [
      | in-Some w ↦ c.from_vec.ensures ∙ ap (λ v. v.items) w.letters-is ∙ w.push_reserved.ensures.items ∙ ap (λ (l : List Letter). l ++ w.in-Some.letter ∷ []) none ∙ ap listed (sym w.in-Some.is)
      | in_default w ↦ c.from_vec.ensures ∙ ap (λ v. v.items) w.letters-is ∙ none ∙ ap listed (sym w.in_default.is)
    ] in
    subst (λ (l : List Letter). Begins (epoch_of (node_seen old.mail)) c.args.ticket.seq (λ u. begin_fetch u c.args.user c.args.id c.args.from c.args.most c.args.asked part) l old.reads new.reads) (sym is)
    (subst (λ (e : EpochId). Begins e c.args.ticket.seq (λ u. begin_fetch u c.args.user c.args.id c.args.from c.args.most c.args.asked part) (listed c.in_ok-letter.letter) old.reads new.reads) c.epoch-epoch.ensures
    (subst (λ (q : ℕ). Begins c.epoch-epoch.result q (λ u. begin_fetch u c.args.user c.args.id c.args.from c.args.most c.args.asked part) (listed c.in_ok-letter.letter) old.reads new.reads) (ap (λ n. n.seq) c.ticket.view_is)
    (c.in_ok-letter.ensures.ok part)))
