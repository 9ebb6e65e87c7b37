use Rattle.std.proofs.Common.{ap, ◌∙◌}
use Rattle.object_model.specs.Letters.{Member}
use Rattle.object_model.specs.Sets.{has}
use Rattle.mail_map.specs.Rows.{rows_of}
use Rattle.node_maps.proofs.Named.{names_one}
use Rattle.node_maps.proofs.maps.NodeMaps.names.Goals as goal

pub returns : goal.returns
returns c =
    c.has.ensures ∙ ap (λ (m : Member). has c.named.result m.node) c.member.view_is ∙ c.named.ensures c.args.member.node ∙ names_one (rows_of c.args.self.now.rows) c.args.user.now c.args.member
