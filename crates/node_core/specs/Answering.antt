-- What a node answers to a letter whatever it does.
use Rattle.std.specs.Prelude.{List, [], ◌∷◌, map}
use Rattle.object_model.specs.Letters.{Body, Letter}
use Rattle.object_model.specs.Letters.Body.{File, Filed, Strike, StrikeTold, Push, PushAck}
use Rattle.cluster_model.specs.Rules.{answer}

-- that it is filed, deleted or taken; the other letters have no such answer
abbrev pub answers_to : Letter → Body → List Letter
answers_to letter (File id stamp targets users octets) = answer letter (Filed id) ∷ []
answers_to letter (Strike user marks) = answer letter (StrikeTold user (map (λ mark. mark.id) marks)) ∷ []
answers_to letter (Push key state octets) = answer letter (PushAck key state) ∷ []
answers_to letter body = []
