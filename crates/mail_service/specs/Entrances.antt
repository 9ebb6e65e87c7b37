-- What becomes of doors while a service has them.
use Rattle.std.specs.Prelude.{◌≡◌, ◌⊎◌, ◌≤◌, ℕ, ◌+◌, List, [], ◌∷◌, length, sum_by, ⊤, Option, Some, None, IfSome}
use Rattle.std.specs.Option.{option_map}
use Rattle.io_edge.specs.Causes.{Rose}
use Rattle.io_edge.specs.declared.yard.Protocol.{Protocol}
use Rattle.mail_service.specs.declared.doors.Entrance.{Entrance}
use Rattle.mail_service.specs.declared.doors.DoorEnd.{DoorEnd}
use Rattle.mail_service.specs.declared.doors.DoorEnd.TheVariants.{Quiet, Failed, NoMemory}

-- both lists are as long, and each has it of the one at its place
abbrev pub AllMet : {X : Type 0} → (X → X → Type 0) → List X → List X → Type 0
AllMet P [] [] = ⊤
AllMet P (x ∷ xs) (y ∷ ys) = P x y × AllMet P xs ys
AllMet P xs ys = ⊥

-- one has it of the one at its place
abbrev pub OneMet : {X : Type 0} → (X → X → Type 0) → List X → List X → Type 0
OneMet P (x ∷ xs) (y ∷ ys) = P x y ⊎ OneMet P xs ys
OneMet P xs ys = ⊥

-- a door with its node and protocol
abbrev pub marked : {G : Type 0} → Entrance G → ℕ × Protocol × G
marked entrance = (entrance.node, entrance.protocol, entrance.door)

-- how many connections were handed on at all of them
abbrev pub taken_in : {G : Type 0} → List (Entrance G) → ℕ
taken_in entrances = sum_by (λ entrance. entrance.taken) entrances

-- how many connections a door has handed on, and has left, where that is told
abbrev pub come_at : {G X : Type 0} → (G → Option (List X)) → Entrance G → Option ℕ
come_at left entrance = option_map (λ conns. entrance.taken + length conns) (left entrance.door)

-- no connection is left where that is told
abbrev pub IsEmpty : {X : Type 0} → Option (List X) → Type 0
IsEmpty left = IfSome left (λ conns. conns ≡ [])

-- what is to be said where one ended so, and another so
abbrev pub worse : DoorEnd → DoorEnd → DoorEnd
worse Quiet other = other
worse Failed other = Failed
worse NoMemory Quiet = NoMemory
worse NoMemory Failed = Failed
worse NoMemory NoMemory = NoMemory

-- and of one door after one more call
abbrev pub noted : Option DoorEnd → Option DoorEnd → Option DoorEnd
noted None came = came
noted (Some end) None = Some end
noted (Some end) (Some other) = Some (worse end other)

-- the same door, later
pub record IsLater {G : Type 0} (quiets faults : G → ℕ) (old new : Entrance G) : Type 0 where
  pub node : new.node ≡ old.node
  pub protocol : new.protocol ≡ old.protocol
  pub quiets_later : quiets old.door ≤ quiets new.door
  pub faults_later : faults old.door ≤ faults new.door

module _ {G X : Type 0} (left : G → Option (List X)) (quiets faults : G → ℕ) where
  -- where it is told which connections are left, each that is left no more was handed on
  abbrev pub HandsOn : Entrance G → Entrance G → Type 0
  HandsOn old new = come_at left new ≡ come_at left old

  -- A call found nobody, and no connection is left where that is told. Each was handed on.
  abbrev pub WasQuiet : Entrance G → Entrance G → Type 0
  WasQuiet old new = Rose (quiets old.door) (quiets new.door) × IsEmpty (left new.door) × HandsOn old new

  -- a call failed
  abbrev pub HasFailed : Entrance G → Entrance G → Type 0
  HasFailed old new = Rose (faults old.door) (faults new.door)

  -- how one door ended
  abbrev pub EndsSo : DoorEnd → Entrance G → Entrance G → Type 0
  EndsSo Quiet old new = WasQuiet old new
  EndsSo Failed old new = HasFailed old new
  EndsSo NoMemory old new = ⊤

  -- a connection was handed on, or the door may end so
  abbrev pub Knocks : Option DoorEnd → Entrance G → Entrance G → Type 0
  Knocks None old new = HandsOn old new
  Knocks (Some end) old new = EndsSo end old new

  -- how all of them ended
  abbrev pub AllEndSo : DoorEnd → List (Entrance G) → List (Entrance G) → Type 0
  AllEndSo Quiet old new = AllMet WasQuiet old new
  AllEndSo Failed old new = OneMet HasFailed old new
  AllEndSo NoMemory old new = ⊤
