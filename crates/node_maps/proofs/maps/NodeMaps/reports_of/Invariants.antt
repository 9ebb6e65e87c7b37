use Rattle.std.proofs.Common.{◌≡◌, ◌++◌, map, drop, None}
use Rattle.object_model.specs.Letters.Body.{Report}
use Rattle.node_maps.specs.Nodes.{own_of, row_of}
use Rattle.node_maps.proofs.maps.NodeMaps.reports_of.Given as goal

abbrev pub invariant-loop-user : goal.invariant-loop-user
invariant-loop-user l =
    l.letters ++ map (λ user. record { from = own_of l.self; to = l.to; epoch = l.epoch; ticket = None; body = Report (row_of (own_of l.self) l.self.group.boot l.self.reports l.self.fragments user) }) (drop l.user-index l.users)
    ≡ map (λ user. record { from = own_of l.self; to = l.to; epoch = l.epoch; ticket = None; body = Report (row_of (own_of l.self) l.self.group.boot l.self.reports l.self.fragments user) }) l.users
