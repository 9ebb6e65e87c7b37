use Rattle.std.proofs.Common.{◌≡◌, List, [], ◌∷◌, ◌++◌, Option, refl, sym, ap, ◌∙◌}
use Rattle.object_model.specs.Letters.{Number, Letter}
use Rattle.object_model.specs.Letters.Body.{LoginTold}
use Rattle.mail_base.specs.Bodies.{proof_seen, word_seen}
use Rattle.login_model.specs.Rules.{answering}
use Rattle.joint_world.specs.Rules.{Judged, judged_for, reacted}
use Rattle.whole_node.specs.Nodes.{joint_seen}
use Rattle.whole_node.specs.declared.node.WholeNode.{WholeNode}
use Rattle.whole_node.proofs.Reacting.{seen_by}
use Rattle.whole_node.proofs.HeardReads.{answers_so}
use Rattle.whole_node.proofs.node.WholeNode.hear_login_ask.Goals as goal

pub returns-clause-ok : goal.returns-clause-ok
returns-clause-ok c plan users tells records k =
    let old = c.args.self.now in
    let new : WholeNode = record old { locks = c.judge_letter.new.locks } in
    let letter = c.args.letter.now in
    let node = seen_by tells old in
    let word = word_seen c.in_ok-word.word in
    let j : judged_for plan node c.args.user.now (proof_seen c.args.proof.now) letter.ticket old.locks ≡ record { word = word; locks = new.locks } =
    ap (λ (t : Option Number). judged_for plan node c.args.user.now (proof_seen c.args.proof.now) t old.locks) (sym c.ticket_of.ensures) ∙ c.in_ok-word.ensures.ok plan node users (sym c.named-named.ensures.seen) in
    sym (ap (λ (d : Judged). reacted (joint_seen old) (answering node letter (LoginTold d.word)) d.locks) j
    ∙ answers_so tells old new (LoginTold word) letter c.answer_login.result c.from_vec.result new.locks (record { mail = refl; maps = refl }) refl refl (c.answer_login.ensures node)
    (c.from_vec.ensures ∙ c.push_reserved.ensures.items ∙ ap (λ (l : List Letter). l ++ c.answer_login.result ∷ []) (c.in_ok-reserve.ensures.items ∙ c.new-letters.ensures.items)))
