use Rattle.std.proofs.Common.{List, [], ◌∷◌, ◌++◌, refl, sym, ap, ◌∙◌}
use Rattle.object_model.specs.Letters.{Letter}
use Rattle.object_model.specs.Letters.Body.{ListTold}
use Rattle.whole_node.proofs.Reacting.{seen_by}
use Rattle.whole_node.proofs.HeardReads.{answers_so}
use Rattle.whole_node.proofs.node.WholeNode.hear_list_ask.Goals as goal

pub returns : goal.returns
returns c plan tells records k =
    let old = c.args.self.now in
    let mine = c.in_ok-mine.mine in (
      mine,
      c.in_ok-mine.ensures records k,
      sym (answers_so tells old old (ListTold mine) c.args.letter.now c.answer_list.result c.push.new.self old.locks (record { mail = refl; maps = refl }) refl refl
          (c.answer_list.ensures (seen_by tells old)) (c.in_ok-push.ensures.ok ∙ ap (λ (l : List Letter). l ++ c.answer_list.result ∷ []) c.new-letters.ensures)),
    )
