use Rattle.std.proofs.Common.{◌∙◌, refl, arith}
use Rattle.cluster_world.proofs.Changing.{up_at, asked_at}
use Rattle.cluster_world.proofs.nodes.Nodes.ask.Goals as goal

pub ask_at-requires : goal.ask_at-requires
ask_at-requires g c =
    let s = c.args.self.now in
    record { up = up_at s.lives.items c.args.ticket.now.node c.place_of.result _ _ (c.place_of.ensures ∙ c.node_of.ensures) (omega (arith, s.all)) c.index_mut.ensures.value c.requires.up }

pub returns : goal.returns
returns g c =
    let s = c.args.self.now in
    asked_at c.args.ticket.now c.ask_at.result c.place_of.result s _ c.index_mut.result.now c.ask_at.new.life _ (c.place_of.ensures ∙ c.node_of.ensures) (omega (arith, s.all)) (omega (arith, s.disk_each))
    c.index_mut.ensures.value refl refl refl c.ask_at.ensures
