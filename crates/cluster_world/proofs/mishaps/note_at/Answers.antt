use Rattle.std.proofs.Common.{sym, subst}
use Rattle.node_tickets.specs.Seen.{kind_of_mishap}
use Rattle.cluster_world.specs.Noting.{LifeNoted}
use Rattle.cluster_world.specs.declared.life.Life.TheVariants.{Up}
use Rattle.cluster_world.proofs.mishaps.note_at.Goals as goal

pub mishap-requires : goal.mishap-requires
mishap-requires c = record { whole = c.requires.whole c.in-Up.node c.in-Up.is }

pub returns-in-Up : goal.returns-in-Up
returns-in-Up c =
    subst (λ l. LifeNoted (kind_of_mishap c.args.kind) c.args.at c.args.ticket l (Up c.mishap.new.self)) (sym c.in-Up.is)
    (record { mail = c.mishap.ensures.tickets; maps = c.mishap.ensures.maps; beside = c.mishap.ensures.beside; works = c.mishap.ensures.works })
