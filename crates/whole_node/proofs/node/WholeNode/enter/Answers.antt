use Rattle.std.proofs.Common.{sym, ap, subst}
use Rattle.object_model.specs.Letters.{Body, Letter}
use Rattle.node_maps.specs.Hearing.{HearsBody}
use Rattle.node_maps.specs.declared.maps.NodeMaps.{NodeMaps}
use Rattle.whole_node.specs.Starting.{EntersEpoch}
use Rattle.whole_node.proofs.FirstEpoch.{enters}
use Rattle.whole_node.proofs.node.WholeNode.enter.Goals as goal

pub returns : goal.returns
returns c =
    let old = c.args.self.now in
    let letter = c.letter_of-letter.result in
    let new = c.share_epoch.new.self in
    let heard = subst (λ (b : Body). HearsBody old.maps letter b c.in_ok-hear.field-0 c.hear.new.self) (ap (λ (l : Letter). l.body) c.letter_of-letter.ensures) c.in_ok-hear.ensures in
    let kept = c.share_epoch.ensures.beside in
    subst (λ (m : NodeMaps). EntersEpoch c.args.install old (record new { maps = m })) (sym c.share_epoch.ensures.maps)
    (enters old.maps c.hear.new.self letter c.in_ok-hear.field-0 c.args.install c.requires.due c.requires.named heard old new c.in_ok-share_epoch.ensures.shares (record { reads = kept.reads; locks = kept.locks }))
