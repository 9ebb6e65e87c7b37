use Rattle.std.proofs.Common.{◌∙◌, sym}
use Rattle.node_maps.proofs.Noted.{notes_flip}
use Rattle.node_maps.proofs.maps.NodeMaps.note.Goals as goal

pub returns-in_ok-turn : goal.returns-in_ok-turn
returns-in_ok-turn c =
    notes_flip c.args.self.now c.turn.new.self c.set.new.self c.args.user.now c.args.id c.args.here c.in_ok-set.ensures.here (sym c.if-branch.true ∙ c.in_ok-set.ensures.flipped) c.in_ok-turn.ensures
