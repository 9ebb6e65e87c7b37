use Rattle.std.proofs.Common.{[], ◌∷◌, ◌∙◌, ap, refl, sym, subst, true}
use Rattle.std.proofs.lemmas.Result.{err_from_is_err_and}
use Rattle.object_model.specs.Letters.{Row}
use Rattle.object_model.specs.Letters.Body.{Report}
use Rattle.maps_model.specs.Rules.{ack_letter}
use Rattle.map_rebuild.specs.Rows.{version_of, is_marked}
use Rattle.mail_map.specs.Rows.{rows_of}
use Rattle.node_maps.specs.declared.answer.Answer.{Answer}
use Rattle.node_maps.specs.Nodes.{KeepsNode}
use Rattle.node_maps.specs.Hearing.{HearsBody}
use Rattle.node_maps.proofs.Nodes.{same_node}
use Rattle.node_maps.proofs.Reported.{heard_report}
use Rattle.node_maps.proofs.Calls.{within_is}
use Rattle.node_maps.proofs.maps.NodeMaps.hear_report.Goals as goal

pub returns-in_err-tell : goal.returns-in_err-tell
returns-in_err-tell c =
    let old = c.args.self.now in
    let keeps : KeepsNode old (record old { rows = c.tell.new.self }) = record {
      own = refl;
      node = same_node old.group (version_of old.reports) (version_of old.reports) (is_marked old.reports) (is_marked old.reports) (rows_of c.tell.new.self) (rows_of old.rows) (λ u. refl) (λ u. refl) c.in_err-tell.ensures.err;
      held = refl;
    } in
    let p = err_from_is_err_and c.from_residual-in_err-tell.result c.from_residual-in_err-tell.ensures.1 in
    rw (p.1) keeps

pub returns : goal.returns
returns c =
    let old = c.args.self.now in
    subst (λ (a : Answer). HearsBody old c.args.letter.now (Report c.args.row.now) a (record old { rows = c.tell.new.self })) (sym c.heard.ensures) (
    heard_report old c.args.letter.now c.args.row.now c.tell.new.self c.in_ok-letters.letters c.requires
    (within_is true old c.args.letter.now _ _ c.installed.ensures c.letter.view_is c.if-not-is_within.ensures)
    c.in_ok-tell.ensures.rows
    (c.in_ok-letters.ensures ∙ ap (λ (r : Row). ack_letter c.args.letter.now r.user r ∷ []) c.row.view_is)
    )
