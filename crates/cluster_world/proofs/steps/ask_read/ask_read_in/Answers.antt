use Rattle.std.proofs.Common.{◌∙◌, refl, arith}
use Rattle.cluster_world.specs.AskingReads.{IsReader, AsksReading}
use Rattle.cluster_world.proofs.Changing.{life_up_at, life_changed_at}
use Rattle.cluster_world.proofs.steps.ask_read.ask_read_in.Goals as goal

pub ask_read_at-requires : goal.ask_read_at-requires
ask_read_at-requires g c =
    let s = c.args.nodes.now in
    record { up = life_up_at (IsReader c.args.ticket.now.node) s.lives.items c.args.ticket.now.node c.place_of.result _ _ (c.place_of.ensures ∙ c.node_of.ensures) (omega (arith, s.all)) c.index_mut.ensures.value c.requires.up }

pub returns : goal.returns
returns g c =
    let s = c.args.nodes.now in
    life_changed_at (AsksReading c.args.ticket.now c.ask_read_at.result) c.args.ticket.now.node c.place_of.result s _ c.index_mut.result.now c.ask_read_at.new.life _ (c.place_of.ensures ∙ c.node_of.ensures) (omega (arith, s.all)) (omega (arith, s.disk_each))
    c.index_mut.ensures.value refl refl refl c.ask_read_at.ensures
