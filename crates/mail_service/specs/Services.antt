-- How a service ends, and what becomes of its doors.
use Rattle.std.specs.Prelude.{◌≡◌, ℕ, List, [], map, ⊤, Option, Some, None}
use Rattle.io_edge.specs.declared.yard.Protocol.{Protocol}
use Rattle.io_edge.specs.declared.yard.YardRefusal.{YardRefusal}
use Rattle.io_edge.specs.declared.yard.YardRefusal.TheVariants as refused
use Rattle.yard_stores.specs.Taken.{with_all, TellsAll}
use Rattle.mail_service.specs.Entrances.{AllMet, IsLater, AllEndSo, marked, taken_in}
use Rattle.mail_service.specs.declared.doors.Entrance.{Entrance}
use Rattle.mail_service.specs.declared.doors.DoorEnd.{DoorEnd}
use Rattle.mail_service.specs.declared.console.ConsoleEnd.{ConsoleEnd}
use Rattle.mail_service.specs.declared.yards.Port.{Port}
use Rattle.mail_service.specs.declared.service.ServiceEnd.{ServiceEnd}
use Rattle.mail_service.specs.declared.service.ServiceEnd.TheVariants.{Served, Unopened, NoMemory}

-- how the console ended, where it was listened to
abbrev pub console_end : ServiceEnd → Option ConsoleEnd
console_end (Served console doors) = Some console
console_end Unopened = None
console_end NoMemory = None

-- what a yard's refusal of a door comes to
abbrev pub unopened : YardRefusal → ServiceEnd
unopened refused.Failed = Unopened
unopened refused.NoMemory = NoMemory

-- at which node a door is, what is spoken there, and how many connections it has handed on
abbrev pub place_of : {G : Type 0} → Entrance G → ℕ × Protocol × ℕ
place_of entrance = (entrance.node, entrance.protocol, entrance.taken)

-- as it is opened; it has handed on none
abbrev pub place_at : Port → ℕ × Protocol × ℕ
place_at port = (port.node, port.protocol, 0)

-- There is a door at each port, and none was given back.
pub record HasOpened {G : Type 0} (ports : List Port) (entrances : List (Entrance G)) (opened0 opened1 closed0 closed1 : Option (List (ℕ × Protocol × G))) : Type 0 where
  pub places : map place_of entrances ≡ map place_at ports
  pub opened : opened1 ≡ with_all opened0 (map marked entrances)
  pub closed : closed1 ≡ closed0

module _ {G X : Type 0} (left : G → Option (List X)) (quiets faults : G → ℕ) where
  -- Doors while a service had them: what became of each, how they ended, how many connections they handed on, and that each was given back.
  pub record AreServed (end : DoorEnd) (taken : ℕ) (before : List (Entrance G)) (closed0 closed1 : Option (List (ℕ × Protocol × G))) : Type 0 where
    pub after : List (Entrance G)
    pub taken_is : taken ≡ taken_in after
    pub later : AllMet (IsLater quiets faults) before after
    pub ends : AllEndSo left quiets faults end before after
    pub closed : TellsAll closed0 closed1 (map marked after)

  -- there was a door at each port, and they ended so; or nobody was served
  abbrev pub RunsTo : List Port → ServiceEnd → List (Entrance G) → List (Entrance G) → Type 0
  RunsTo ports (Served console doors) before after = (map place_of before ≡ map place_at ports) × AllEndSo left quiets faults doors before after
  RunsTo ports Unopened before after = ⊤
  RunsTo ports NoMemory before after = ⊤

  -- What a service came to: which doors it was handed, and that each of them was given back.
  pub record HasRun (ports : List Port) (result : ServiceEnd) (opened0 opened1 closed0 closed1 : Option (List (ℕ × Protocol × G))) : Type 0 where
    pub before : List (Entrance G)
    pub after : List (Entrance G)
    pub opened : opened1 ≡ with_all opened0 (map marked before)
    pub later : AllMet (IsLater quiets faults) before after
    pub closed : TellsAll closed0 closed1 (map marked after)
    pub ends : RunsTo ports result before after
