-- How the nodes of a cluster are after some acts: at first each is up in its first boot.
use Rattle.std.specs.Prelude.{ℕ, List, [], ◌∷◌, flat_map}
use Rattle.session_model.specs.Events.{NodeLife, life_by_event, turned, failed_by_event}
use Rattle.session_model.specs.Events.NodeLife.{Up, Down}
use Rattle.session_model.specs.Acts.{Act}
use Rattle.session_model.specs.Acts.Act.{Opens, Does, Faults, StillWaits, Leaves, Makes, Abandons}

-- what an act makes of the life of node n
abbrev pub life_by : Act → ℕ → NodeLife → NodeLife
life_by (Opens protocol node greeting) n life = life
life_by (Does k deed) n life = life
life_by (Faults node) n life = turned node Down n life
life_by (StillWaits k) n life = life
life_by (Leaves k user) n life = life
life_by (Makes order event) n life = life_by_event event n life
life_by (Abandons k) n life = life

-- the life of node n after acts, where it was this before
abbrev pub life_from : NodeLife → List Act → ℕ → NodeLife
life_from life [] n = life
life_from life (act ∷ acts) n = life_from (life_by act n life) acts n

-- and after all acts of a run
abbrev pub life_after : List Act → ℕ → NodeLife
life_after acts n = life_from (Up 1) acts n

-- the nodes whose disk failed in an act
abbrev pub failed_by : Act → List ℕ
failed_by (Faults node) = node ∷ []
failed_by (Makes order event) = failed_by_event event
failed_by act = []

abbrev pub failed_in : List Act → List ℕ
failed_in acts = flat_map failed_by acts
