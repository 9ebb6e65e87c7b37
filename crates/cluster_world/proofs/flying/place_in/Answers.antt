use Rattle.std.proofs.Common.{rules}
use Rattle.std.proofs.lemmas.List.Sorted.{answers_always}
use Rattle.cluster_model.specs.Room.{Flight as Seen}
use Rattle.cluster_world.proofs.FlightLaws.{searched}
use Rattle.cluster_world.proofs.flying.place_in.Goals as goal

pub returns : goal.returns
returns c =
    let facts = c.binary_search_by_key.ensures in
    let by_key = facts.position (λ (f : Seen). f.number) (answers_always _ _ _ (λ f a r g called. search rules)) in
    record { place = rw c.ok.ensures.value (searched _ _ c.requires.rising _ _ (search rules) facts.bound by_key) }
