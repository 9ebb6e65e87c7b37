-- What an ask of a ticket answers, by how far it has come.
use Rattle.std.proofs.Common.{◌≡◌, ◌||◌, ℕ, Bool, true, false, List, [], ◌∷◌, refl, if◌then◌else◌}
use Rattle.std.specs.List.{list_all}
use Rattle.object_model.specs.Mishaps.{Mishaps}
use Rattle.cluster_model.specs.Cluster.{Want, AskedOfNodes}
use Rattle.cluster_model.specs.Cluster.AskedOfNodes.{Copies, Deletion}
use Rattle.cluster_model.specs.Progress.{is_confirmed, has_failed, ask_of_wants, pending_of_call, answer_once_confirmed, NodeAnswer, Ask}
use Rattle.node_tickets.specs.Standing.{is_done}

pending_is : (confirm : ℕ) (wants : List Want) (want : Want) (asked : AskedOfNodes) → is_done (pending_of_call confirm wants want asked) ≡ false
pending_is confirm wants want (Copies filing) = refl
pending_is confirm wants want (Deletion user id) = refl

-- a call is done where all is confirmed, or it has failed
pub done_is : (confirm : ℕ) (mishaps : Mishaps) (wants : List Want) → is_done (ask_of_wants confirm mishaps wants) ≡ (list_all (is_confirmed confirm) wants || has_failed confirm wants)
done_is confirm mishaps [] = refl
done_is confirm mishaps (want ∷ wants) = by (list_all (is_confirmed confirm) (want ∷ wants)) (has_failed confirm (want ∷ wants))
  where
    by : (all failed : Bool) → is_done (if all then Ask.Done (answer_once_confirmed (want ∷ wants) want want.asked) else (if failed then Ask.Done (NodeAnswer.Failed mishaps) else pending_of_call confirm (want ∷ wants) want want.asked)) ≡ (all || failed)
    by true failed = refl
    by false true = refl
    by false false = pending_is confirm (want ∷ wants) want want.asked
