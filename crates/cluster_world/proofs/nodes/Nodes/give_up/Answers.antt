use Rattle.std.proofs.Common.{◌∙◌, refl, arith}
use Rattle.cluster_world.specs.Asking.{tickets_without}
use Rattle.cluster_world.proofs.Changing.{up_at, retold_at}
use Rattle.cluster_world.proofs.nodes.Nodes.give_up.Goals as goal

pub give_up_at-requires : goal.give_up_at-requires
give_up_at-requires g c =
    let s = c.args.self.now in
    record { up = up_at s.lives.items c.args.ticket.now.node c.place_of.result _ _ (c.place_of.ensures ∙ c.node_of.ensures) (omega (arith, s.all)) c.index_mut.ensures.value c.requires.up }

pub returns : goal.returns
returns g c =
    let s = c.args.self.now in
    retold_at (tickets_without c.args.ticket.now) c.args.ticket.now.node c.place_of.result s _ c.index_mut.result.now c.give_up_at.new.life _ (c.place_of.ensures ∙ c.node_of.ensures) (omega (arith, s.all)) (omega (arith, s.disk_each))
    c.index_mut.ensures.value refl refl refl c.give_up_at.ensures
