-- Whether the text of a message that a step hands in is whole.
use Rattle.std.specs.Prelude.{⊤}
use Rattle.node_core.specs.Beginning.{call_seen, IsTextEnded}
use Rattle.cluster_world.specs.declared.step.Step.{Step}
use Rattle.cluster_world.specs.declared.step.Step.TheVariants.{Begin}

-- the text of a message that is to be delivered is empty or ends in CRLF
abbrev pub IsEnded : Step → Type 0
IsEnded (Begin node call) = IsTextEnded (call_seen call)
IsEnded step = ⊤
