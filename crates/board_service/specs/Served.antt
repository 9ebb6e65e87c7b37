-- What a service leaves of a world.
use Rattle.std.specs.Prelude.{◌≡◌, ℕ, ◌+◌, Bool, true, List, [], ◌∷◌, length, map, ⊤, Option, Some, None, IfSome}
use Rattle.std.specs.List.{list_all}
use Rattle.io_edge.specs.declared.yard.Protocol.{Protocol}
use Rattle.mail_model.specs.Plan.{Plan}
use Rattle.turnstile.specs.Shares.{AreShares}
use Rattle.node_store.specs.Disks.{View}
use Rattle.cluster_world.specs.Worlds.{plan_of, book_of, CanMakeSteps}
use Rattle.cluster_world.specs.declared.world.World.{World}
use Rattle.shard_board.specs.Pages.{all_on, are_known}
use Rattle.shard_board.specs.Worlds.{IsSoundWorld}
use Rattle.shard_board.specs.declared.page.Page.{Page}
use Rattle.yard_stores.specs.Taken.{with_all}
use Rattle.mail_service.specs.Entrances.{marked}
use Rattle.mail_service.specs.Services.{AreServed}
use Rattle.mail_service.specs.declared.console.ConsoleEnd.{ConsoleEnd}
use Rattle.mail_service.specs.declared.doors.DoorEnd.{DoorEnd}
use Rattle.mail_service.specs.declared.doors.DoorEnd.TheVariants.{Quiet, Failed, NoMemory}
use Rattle.mail_service.specs.declared.doors.Entrance.{Entrance}
use Rattle.mail_service.specs.declared.service.ServiceEnd.{ServiceEnd}
use Rattle.mail_service.specs.declared.service.ServiceEnd.TheVariants as ends
use Rattle.board_service.specs.Disks.{EachTells}
use Rattle.board_service.specs.Visits.{AllEarned}

-- whether each of these pages is known
abbrev pub pages_known : {D : Type 0} → (D → Option (List ℕ)) → List (List (Page D)) → Bool
pages_known seen lists = list_all (λ pages. are_known seen pages) lists

-- The world has its plan, and can make steps. There are pages for what the turns of each pass did; where each of them is known, the world is sound. Its book is shared out among what
-- it had before and what the pages have, pass by pass: each entry is one's alone. So many connections were served; where the disks tell what they hold, what the pages have is what
-- they came to know.
pub record HasServed {D : Type 0} (on : View D) (plan : Plan) (old new : World D) : Type 0 where
  pub plan_is : plan_of new ≡ plan_of old
  pub ready : CanMakeSteps on.seen new
  pub pages : List (List (Page D))
  pub sound : pages_known on.seen pages ≡ true → IsSoundWorld on new
  pub shares : AreShares (book_of old) (map all_on pages) (book_of new)
  pub count : ℕ
  pub earned : AllEarned on.seen plan (map all_on pages) count

-- Where each disk tells what it holds, a world that was served is sound.
abbrev pub ServedIsSound : {D : Type 0} → View D → Type 0
ServedIsSound {D} on = EachTells on.seen → (plan : Plan) (old new : World D) → HasServed on plan old new → IsSoundWorld on new

-- it was served over, where a console was listened to; else it is as it was
abbrev pub LeavesWorld : {D : Type 0} → View D → Plan → Option ConsoleEnd → World D → World D → Type 0
LeavesWorld on plan (Some console) old new = HasServed on plan old new
LeavesWorld on plan None old new = new ≡ old

-- two numbers together, where both are told
abbrev pub both_told : Option ℕ → Option ℕ → Option ℕ
both_told None b = None
both_told (Some a) None = None
both_told (Some a) (Some b) = Some (a + b)

-- how many connections a door has left, where that is told
abbrev pub left_by : {X : Type 0} → Option (List X) → Option ℕ
left_by None = None
left_by (Some conns) = Some (length conns)

module _ {G X : Type 0} (left : G → Option (List X)) where
  -- how many all of them have left
  abbrev pub left_at : List (Entrance G) → Option ℕ
  left_at [] = Some 0
  left_at (entrance ∷ more) = both_told (left_by (left entrance.door)) (left_at more)

  module _ (quiets faults : G → ℕ) {D : Type 0} (on : View D) (plan : Plan) where
    -- What a service over a board came to: its doors, and its world. As many connections were served as were handed on, where each door was quiet.
    pub record ServesOver (end : DoorEnd) (before : List (Entrance G)) (closed0 closed1 : Option (List (ℕ × Protocol × G))) (old new : World D) : Type 0 where
      pub taken : ℕ
      pub doors : AreServed left quiets faults end taken before closed0 closed1
      pub world : HasServed on plan old new
      pub each : end ≡ Quiet → world.count ≡ taken

  -- Where each door was quiet, as many connections were served as the doors that were handed out had left, where all of them tell that.
  abbrev pub CountsServed : {D : Type 0} → View D → Plan → ServiceEnd → World D → World D → Option (List (ℕ × Protocol × G)) → Option (List (ℕ × Protocol × G)) → Type 0
  CountsServed on plan (ends.Served console Quiet) old new opened0 opened1 =
      (before : List (Entrance G)) × (opened1 ≡ with_all opened0 (map marked before)) × (served : HasServed on plan old new) × IfSome (left_at before) (λ total. served.count ≡ total)
  CountsServed on plan (ends.Served console Failed) old new opened0 opened1 = ⊤
  CountsServed on plan (ends.Served console NoMemory) old new opened0 opened1 = ⊤
  CountsServed on plan ends.Unopened old new opened0 opened1 = ⊤
  CountsServed on plan ends.NoMemory old new opened0 opened1 = ⊤
