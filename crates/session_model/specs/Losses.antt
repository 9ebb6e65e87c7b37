-- Which nodes are lost for good, as tape and transcript tell it; and that these are those which the acts of a run lost.
use Rattle.std.specs.Prelude.{◌≡◌, ◌⊎◌, ℕ, List, [], ◌∷◌, ◌++◌, flat_map, Some}
use Rattle.mail_model.specs.Plan.{Plan}
use Rattle.mail_model.specs.Tape.{tape_order}
use Rattle.mail_model.specs.Tape.Order.{Moves}
use Rattle.mail_model.specs.Tape.ClusterOrder.{Lose}
use Rattle.mail_model.specs.Transcript.{Entry}
use Rattle.mail_model.specs.Stored.{IsLost}
use Rattle.session_model.specs.Events.NodeLife.{Lost}
use Rattle.session_model.specs.Sessions.{Session}
use Rattle.session_model.specs.Acts.{Act}
use Rattle.session_model.specs.Lives.{life_after}
use Rattle.session_model.specs.Run.{Stop, Made, IsDriven, IsCutShort}

-- the last of these lines loses the node
pub record EndsInLoss (lines : List (List ℕ)) (node : ℕ) : Type 0 where
  pub before : List (List ℕ)
  pub line : List ℕ
  pub last : lines ≡ before ++ line ∷ []
  pub loses : tape_order line ≡ Some (Moves (Lose node))

-- The transcript says that the node is lost; or the work was cut short in the line that loses it, of which the transcript may have nothing.
abbrev pub IsLostIn : Stop → List (List ℕ) → List Entry → ℕ → Type 0
IsLostIn stop lines entries node = IsLost entries node ⊎ (IsCutShort stop × EndsInLoss lines node)

-- However a tape is driven, a node that its acts lost is one of these.
abbrev pub LostIsShown : Type 0
LostIsShown = (plan : Plan) (stop : Stop) (handled left : List (List ℕ)) (acts others : List (List Act)) (made : List Made) (entries : List Entry) (last : List Session) (node : ℕ)
    → IsDriven plan stop handled left acts others made entries last → life_after (flat_map (λ a. a) (acts ++ others)) node ≡ Lost
    → IsLostIn stop (handled ++ left) entries node
