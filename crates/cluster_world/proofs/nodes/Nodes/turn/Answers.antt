use Rattle.std.proofs.Common.{refl, ap, arith}
use Rattle.cluster_world.proofs.Changing.{turned_at}
use Rattle.cluster_world.proofs.nodes.Nodes.turn.Goals as goal

pub returns : goal.returns
returns g c =
    let s = c.args.self.now in
    turned_at c.args.node c.place_of.result s _ c.args.life c.place_of.ensures (omega (arith, s.all)) (omega (arith, s.disk_each)) refl
    (ap (λ l. Rattle.std.specs.Prelude.slice_set s.lives.items c.place_of.result l) c.put_life.ensures) refl
