use Rattle.std.proofs.Common.{◌∙◌, refl, arith}
use Rattle.cluster_world.specs.AskingReads.{IsReader, GivesReading}
use Rattle.cluster_world.proofs.Changing.{life_up_at, life_changed_at}
use Rattle.cluster_world.proofs.steps.give_up_read.give_up_read_in.Goals as goal

pub give_up_read_at-requires : goal.give_up_read_at-requires
give_up_read_at-requires g c =
    let s = c.args.nodes.now in
    record { up = life_up_at (IsReader c.args.ticket.now.node) s.lives.items c.args.ticket.now.node c.place_of.result _ _ (c.place_of.ensures ∙ c.node_of.ensures) (omega (arith, s.all)) c.index_mut.ensures.value c.requires.up }

pub returns-clause-given : goal.returns-clause-given
returns-clause-given g c =
    let s = c.args.nodes.now in
    life_changed_at (GivesReading c.args.ticket.now c.give_up_read_at.result) c.args.ticket.now.node c.place_of.result s _ c.index_mut.result.now c.give_up_read_at.new.life _ (c.place_of.ensures ∙ c.node_of.ensures) (omega (arith, s.all)) (omega (arith, s.disk_each))
    c.index_mut.ensures.value refl refl refl c.give_up_read_at.ensures
