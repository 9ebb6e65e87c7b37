-- What a pass tells after a call, by what it told before.
use Rattle.std.specs.Prelude.{◌≡◌, List, ◌++◌, ⊤, Option, Some, None}

-- a told list, with more after it
abbrev pub with_more : {X : Type 0} → Option (List X) → List X → Option (List X)
with_more None more = None
with_more (Some xs) more = Some (xs ++ more)

-- What is told afterwards is what was told before, with this more. A pass may cease to tell within a call: where nothing is told afterwards, nothing is asked. Where
-- something is, something was told before, too.
abbrev pub TellsMore : {X : Type 0} → Option (List X) → List X → Option (List X) → Type 0
TellsMore old more None = ⊤
TellsMore old more (Some told) = Some told ≡ with_more old more
