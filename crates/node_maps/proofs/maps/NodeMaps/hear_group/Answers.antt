use Rattle.std.proofs.Common.{◌∙◌, ap, sym, subst, Some}
use Rattle.object_model.specs.Letters.{Letter}
use Rattle.object_model.specs.Letters.Body.{Group}
use Rattle.node_maps.specs.declared.answer.Answer.{Answer}
use Rattle.node_maps.specs.declared.answer.Refusal.TheVariants.{Old}
use Rattle.node_maps.specs.Hearing.{group_answer, HearsBody}
use Rattle.node_maps.proofs.Rounds.{with_group, heard_group, old_group}
use Rattle.node_maps.proofs.maps.NodeMaps.hear_group.Goals as goal

pub returns-in-Ok : goal.returns-in-Ok
returns-in-Ok c =
    let old = c.args.self.now in
    let sent = c.in_ok-told.ensures ∙ ap (λ (l : Letter). group_answer old l.from c.args.epoch) c.letter.view_is in
    subst (λ (a : Answer). HearsBody old c.args.letter.now (Group c.args.epoch) a (with_group old c.hear_group.new.self)) (sym c.heard.ensures)
    (heard_group old c.args.letter.now _ c.hear_group.new.self c.args.epoch c.in_ok-told.told c.in-Ok.ensures sent)

pub returns-in-Err : goal.returns-in-Err
returns-in-Err c =
    let old = c.args.self.now in
    let sent = c.in_ok-told.ensures ∙ ap (λ (l : Letter). group_answer old l.from c.args.epoch) c.letter.view_is in
    subst (λ (a : Answer). HearsBody old c.args.letter.now (Group c.args.epoch) a (with_group old c.hear_group.new.self)) (sym c.thrown.ensures)
    (old_group old c.args.letter.now _ c.hear_group.new.self c.args.epoch c.in_ok-told.told c.in-Err.ensures sent)
