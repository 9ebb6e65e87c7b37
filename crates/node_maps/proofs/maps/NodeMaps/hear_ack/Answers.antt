use Rattle.std.proofs.Common.{◌∙◌, ap, sym, subst, true}
use Rattle.object_model.specs.Letters.Body.{ReportAck}
use Rattle.node_maps.specs.declared.answer.Answer.{Answer}
use Rattle.node_maps.specs.Hearing.{HearsBody}
use Rattle.node_maps.proofs.Rounds.{heard_with}
use Rattle.node_maps.proofs.Reported.{heard_ack}
use Rattle.node_maps.proofs.Calls.{within_is}
use Rattle.node_maps.proofs.maps.NodeMaps.hear_ack.Goals as goal

pub returns : goal.returns
returns c =
    let old = c.args.self.now in
    subst (λ (a : Answer). HearsBody old c.args.letter.now (ReportAck c.args.user.now c.args.version) a (record old { reports = c.report_acknowledged.new.self })) (sym (c.heard.ensures ∙ ap heard_with c.no_letters-2.ensures)) (
    heard_ack old c.args.letter.now c.args.user.now c.args.version c.report_acknowledged.result c.report_acknowledged.new.self
    (within_is true old c.args.letter.now _ _ c.installed.ensures c.letter.view_is c.if-not-is_within.ensures)
    c.report_acknowledged.ensures.answer c.report_acknowledged.ensures.marks c.report_acknowledged.ensures.versions
    )
