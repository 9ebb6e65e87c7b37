use Rattle.std.proofs.Common.{◌∙◌, ap, sym, subst}
use Rattle.object_model.specs.Letters.Body.{Install}
use Rattle.node_maps.specs.declared.answer.Answer.{Answer}
use Rattle.node_maps.specs.Hearing.{HearsBody}
use Rattle.node_maps.proofs.Rounds.{heard_with, heard_install}
use Rattle.node_maps.proofs.maps.NodeMaps.hear_install.Goals as goal

pub returns-in-Ok : goal.returns-in-Ok
returns-in-Ok c =
    let old = c.args.self.now in
    subst (λ (a : Answer). HearsBody old c.args.letter.now (Install c.args.install.now) a c.enter.new.self) (sym (c.heard.ensures ∙ ap heard_with c.no_letters.ensures))
    (heard_install old c.args.letter.now c.args.install.now c.hear_install.new.self c.in_ok-before.before c.enter.new.self c.in-Ok.ensures c.in_ok-before.ensures c.in_ok-enter-in-Ok.ensures)
