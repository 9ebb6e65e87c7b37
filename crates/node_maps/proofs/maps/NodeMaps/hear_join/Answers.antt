use Rattle.std.proofs.Common.{◌∙◌, ap, sym, subst}
use Rattle.object_model.specs.Letters.Body.{Join}
use Rattle.node_maps.specs.declared.answer.Answer.{Answer}
use Rattle.node_maps.specs.Hearing.{HearsBody}
use Rattle.node_maps.proofs.Rounds.{with_group, heard_with}
use Rattle.node_maps.proofs.Calls.{joined}
use Rattle.node_maps.proofs.maps.NodeMaps.hear_join.Goals as goal

pub returns-in-Ok : goal.returns-in-Ok
returns-in-Ok c =
    let old = c.args.self.now in
    subst (λ (a : Answer). HearsBody old c.args.letter.now (Join c.args.epoch c.args.promise c.args.boot c.args.was c.args.claims.now) a (with_group old c.hear_join.new.self)) (sym (c.heard.ensures ∙ ap heard_with c.no_letters.ensures))
    (joined old c.args.letter.now _ c.args.epoch c.args.promise c.args.boot c.args.was c.args.claims.now c.hear_join.new.self c.new-member.result c.letter.view_is c.new-member.ensures c.in-Ok.ensures)
