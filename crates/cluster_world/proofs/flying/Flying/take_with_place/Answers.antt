use Rattle.std.proofs.Common.{◌≡◌, arith, length, ap, subst, sym, true}
use Rattle.std.specs.Prelude.{is_some}
use Rattle.cluster_model.specs.Steps.{letter_at}
use Rattle.cluster_world.specs.Flights.{InFlight, FlightIsCounted}
use Rattle.cluster_world.proofs.FlightLaws.{counted_without}
use Rattle.cluster_world.proofs.Passing.{one_less}
use Rattle.cluster_world.proofs.flying.Flying.take_with_place.Goals as goal

pub returns-clause-counted : goal.returns-clause-counted
returns-clause-counted c =
    let counted : FlightIsCounted c.taken-roomy.result.octets c.taken-roomy.result.sent c.taken-roomy.result.flights.items = rw (c.taken-roomy.ensures.octets, c.taken-roomy.ensures.sent, c.taken-roomy.ensures.flights) c.self.invariant in
    rw c.take_out.ensures.items (counted_without _ _ _ c.args.number _ counted (rw c.take_out.ensures.items at c.take_out.ensures.octets))

pub returns-clause-room : goal.returns-clause-room
returns-clause-room c =
    let was : is_some (letter_at c.args.number c.self.inside.flights.items) ≡ true = subst (λ (f : InFlight). is_some (letter_at c.args.number f.flights) ≡ true) (sym c.self.view_is) c.requires in
    let here : is_some (letter_at c.args.number c.taken-roomy.result.flights.items) ≡ true = rw c.taken-roomy.ensures.flights was in
    let less = one_less c.args.number c.taken-roomy.result.flights.items here in
    omega (arith, c.take_out.new.flights.ok.0, ap length c.take_out.ensures.items, less, c.taken-roomy.result.flights.ok.0, c.taken-roomy.result.flights.small.1, c.take_out.ensures.capacity)
