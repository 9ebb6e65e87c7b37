use Rattle.std.proofs.Common.{◌≡◌, ◌∙◌, ap, sym, subst}
use Rattle.object_model.specs.Letters.{Membership}
use Rattle.membership.specs.Groups.{Group as Kept}
use Rattle.node_maps.specs.Nodes.{own_of, installs_to}
use Rattle.node_maps.specs.Rounds.{ConcludesGroup}
use Rattle.node_maps.proofs.Formed.{concludes}
use Rattle.node_maps.proofs.maps.NodeMaps.conclude.Goals as goal

pub returns : goal.returns
returns c =
    let old = c.args.self.now in
    let g = c.conclude.new.self in
    let membership = c.in-Ok.install in
    let letters = c.in_ok-letters.letters in
    let sent : letters ≡ installs_to (own_of old) membership membership.members =
    c.in_ok-letters.ensures
    ∙ ap (λ n. installs_to n membership membership.members) (c.own.ensures ∙ ap (λ (k : Kept). k.own) c.in-Ok.ensures.installs) in
    subst (λ e. ConcludesGroup c.args.buckets (record { epoch = e; letters = letters }) old c.enter.new.self) (sym (ap (λ (m : Membership). m.epoch) c.install.view_is)) (
    concludes old c.enter.new.self g c.args.buckets membership c.in_ok-before.before letters c.requires c.in-Ok.ensures c.in_ok-before.ensures
    c.in_ok-enter.ensures
    sent
    )
