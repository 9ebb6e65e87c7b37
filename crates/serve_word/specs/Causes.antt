-- Why serving ended as its status says.
use Rattle.std.specs.Prelude.{◌≡◌, ◌⊎◌, ℕ, List, ◌++◌, flat_map, map, All, true, Option}
use Rattle.std.specs.List.{list_any}
use Rattle.io_edge.specs.Causes.{Rose}
use Rattle.io_edge.specs.declared.yard.Protocol.{Protocol}
use Rattle.mail_model.specs.Lines.{HasNoLf, ended}
use Rattle.cluster_config.specs.declared.plan_file.ServePlan.{ServePlan}
use Rattle.yard_stores.specs.Taken.{with_all, TellsAll}
use Rattle.mail_service.specs.Consoles.{is_stop, HasListened}
use Rattle.mail_service.specs.Entrances.{AllMet, OneMet, IsLater, WasQuiet, HasFailed, marked}
use Rattle.mail_service.specs.Services.{place_of, place_at}
use Rattle.mail_service.specs.declared.console.ConsoleEnd.TheVariants.{Stopped}
use Rattle.mail_service.specs.declared.doors.Entrance.{Entrance}
use Rattle.serve_word.specs.Plans.{IsPlanFile, ports_of}

-- the statuses of `serve`
abbrev pub IsServeStatus : ℕ → Type 0
IsServeStatus status = (status ≡ 0) ⊎ (status ≡ 2) ⊎ (status ≡ 3) ⊎ (status ≡ 4) ⊎ (status ≡ 5) ⊎ (status ≡ 6) ⊎ (status ≡ 7) ⊎ (status ≡ 8)

-- the octets have a line that ends a console
pub record HasStop (octets : List ℕ) : Type 0 where
  pub lines : List (List ℕ)
  pub rest : List ℕ
  pub whole : octets ≡ flat_map ended lines ++ rest
  pub each : All HasNoLf lines
  pub one : list_any is_stop lines ≡ true

module _ {G X : Type 0} (left : G → Option (List X)) (quiets faults : G → ℕ) where
  -- The console said `stop`. There was a door at each port of the plan, and each of them found nobody before it was given back.
  pub record HasStopped (told left0 left1 : Option (List ℕ)) (opened0 opened1 closed0 closed1 : Option (List (ℕ × Protocol × G))) : Type 0 where
    pub plan : ServePlan
    pub reads : IsPlanFile told plan
    pub listened : HasListened left0 left1 Stopped
    pub before : List (Entrance G)
    pub after : List (Entrance G)
    pub places : map place_of before ≡ map place_at (ports_of plan)
    pub opened : opened1 ≡ with_all opened0 (map marked before)
    pub later : AllMet (IsLater quiets faults) before after
    pub quiet : AllMet (WasQuiet left quiets faults) before after
    pub closed : TellsAll closed0 closed1 (map marked after)

  -- one of the doors that were opened failed before it was given back
  pub record DoorFailed (opened0 opened1 closed0 closed1 : Option (List (ℕ × Protocol × G))) : Type 0 where
    pub before : List (Entrance G)
    pub after : List (Entrance G)
    pub opened : opened1 ≡ with_all opened0 (map marked before)
    pub failed : OneMet (HasFailed left quiets faults) before after
    pub closed : TellsAll closed0 closed1 (map marked after)

  -- a door could not be opened, or one of them failed
  abbrev pub DoorsFailed : ℕ → ℕ → (opened0 opened1 closed0 closed1 : Option (List (ℕ × Protocol × G))) → Type 0
  DoorsFailed before now opened0 opened1 closed0 closed1 = Rose before now ⊎ DoorFailed opened0 opened1 closed0 closed1
