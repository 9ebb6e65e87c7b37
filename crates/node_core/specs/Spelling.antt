-- Which letters a node can take: what they say can be recorded.
use Rattle.std.specs.Prelude.{◌+◌, ◌≤◌, ℕ, List, All, length, ⊤, Some, None}
use Rattle.mail_model.specs.Grammar.{IsStamp, IsCount, IsObject}
use Rattle.object_model.specs.Letters.{Body, Letter}
use Rattle.object_model.specs.Letters.Body.{File, Strike, Push, PushAck, Retire}
use Rattle.disk_journal.specs.Journal.{largest}

-- a record has room for the octets of a message, after its kind and its id
abbrev pub IsShort : List ℕ → Type 0
IsShort octets = 14 + length octets ≤ largest

-- Stamps are of nodes that there are, each state is one that its object can have, and the octets of a message are not too many.
abbrev pub CanBeTaken : Body → Type 0
CanBeTaken (File id stamp targets users octets) = IsStamp stamp × IsCount 16 targets × IsShort octets
CanBeTaken (Strike user marks) = All (λ mark. IsStamp mark.stamp) marks
CanBeTaken (Push key state None) = IsObject key state
CanBeTaken (Push key state (Some octets)) = IsObject key state × IsShort octets
CanBeTaken (PushAck key state) = IsObject key state
CanBeTaken (Retire key state) = IsObject key state
CanBeTaken body = ⊤

-- each of these letters is one that its receiver can take
abbrev pub AllCanBeTaken : List Letter → Type 0
AllCanBeTaken letters = All (λ letter. CanBeTaken letter.body) letters
