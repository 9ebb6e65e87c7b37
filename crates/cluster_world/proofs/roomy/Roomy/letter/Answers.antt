use Rattle.std.proofs.Common.{sym, ap, ◌∙◌, Some}
use Rattle.cluster_world.proofs.FlightLaws.{heard_at, read_at}
use Rattle.cluster_world.proofs.roomy.Roomy.letter.Goals as goal

pub returns-clause-heard : goal.returns-clause-heard
returns-clause-heard c =
    let has = c.in_ok-place.ensures.place in
    heard_at c.args.self.now.flights.items c.args.number c.letter.result.now c.requires.heard
    (has.found ∙ ap Some (sym (c.letter.ensures ∙ read_at _ _ _ has _ c.in_ok-flight.ensures.lookup)))
