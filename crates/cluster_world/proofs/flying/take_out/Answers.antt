use Rattle.std.proofs.Common.{sym, ap, ◌∙◌, arith}
use Rattle.cluster_model.specs.Room.{octets_of, octets_flying}
use Rattle.cluster_world.proofs.FlightLaws.{none_taken, removed, octets_without, read_at}
use Rattle.cluster_world.proofs.flying.take_out.Goals as goal

pub returns-in_default-clause-items : goal.returns-in_default-clause-items
returns-in_default-clause-items c = sym (none_taken _ _ (rw c.in_default.is at c.place_in.ensures.place))

pub returns-clause-items : goal.returns-clause-items
returns-clause-items c = c.in-Some-remove.ensures.items ∙ removed _ _ _ c.in-Some.ensures.place

pub returns-clause-octets : goal.returns-clause-octets
returns-clause-octets c =
    let has = c.in-Some.ensures.place in
    let items = c.in-Some-remove.ensures.items ∙ removed _ _ _ has in
    let one = c.letter.ensures ∙ read_at _ _ _ has _ c.in-Some-remove.ensures.value in
    omega (arith, ap octets_flying items, octets_without _ _ _ has, c.octets_of.ensures.is, ap octets_of one)
