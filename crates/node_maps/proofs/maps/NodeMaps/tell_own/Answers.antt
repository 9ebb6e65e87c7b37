use Rattle.std.proofs.Common.{◌∙◌, ap}
use Rattle.node_maps.specs.Nodes.{row_of}
use Rattle.node_maps.proofs.Calls.{told_own}
use Rattle.node_maps.proofs.maps.NodeMaps.tell_own.Goals as goal

pub returns : goal.returns
returns c =
    let old = c.args.self.now in
    told_own old c.args.user.now c.set.result c.raise.new.self c.set.new.self c.in_ok-row.row
    (c.in_ok-row.ensures ∙ ap (λ own. row_of own c.boot-boot.result c.raise.new.self old.fragments c.args.user.now) c.own-own.ensures ∙ ap (λ boot. row_of old.group.own boot c.raise.new.self old.fragments c.args.user.now) c.boot-boot.ensures)
    c.in_ok-raise.ensures.versions c.in_ok-raise.ensures.marks c.set.ensures.ok
