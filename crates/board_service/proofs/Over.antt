-- What a service over a board came to, as one behind the doors of a yard.
use Rattle.std.proofs.Common.{◌≡◌, ℕ, true, List, [], ◌∷◌, map, Option, Some, None, refl, sym, ◌∙◌, subst}
use Rattle.std.specs.Prelude.{IfSome}
use Rattle.io_edge.specs.declared.yard.Protocol.{Protocol}
use Rattle.mail_model.specs.Plan.{Plan}
use Rattle.node_store.specs.Disks.{View}
use Rattle.cluster_world.specs.declared.world.World.{World}
use Rattle.yard_stores.specs.Taken.{TellsAll}
use Rattle.mail_service.specs.Entrances.{marked, taken_in}
use Rattle.mail_service.specs.Services.{AreServed, HasOpened, HasRun}
use Rattle.mail_service.specs.declared.console.ConsoleEnd.{ConsoleEnd}
use Rattle.mail_service.specs.declared.doors.DoorEnd.{DoorEnd}
use Rattle.mail_service.specs.declared.doors.DoorEnd.TheVariants as doors
use Rattle.mail_service.specs.declared.doors.Entrance.{Entrance}
use Rattle.mail_service.specs.declared.service.ServiceEnd.TheVariants as ends
use Rattle.mail_service.specs.declared.yards.Port.{Port}
use Rattle.mail_service.proofs.Running.{same_doors}
use Rattle.shard_board.specs.declared.board.Board.{Board}
use Rattle.shard_board.specs.Boards.{ClosesWith, first_world}
use Rattle.shard_board.specs.declared.page.Page.{Page}
use Rattle.shard_board.proofs.Paged.{all_known}
use Rattle.board_service.specs.declared.pass.ServicePass.{ServicePass}
use Rattle.board_service.specs.Counting.{IsSettledAs}
use Rattle.board_service.specs.Passes.{IsServicePass}
use Rattle.board_service.specs.Disks.{EachTells}
use Rattle.board_service.specs.Served.{pages_known, ServedIsSound, ServesOver, CountsServed, left_at}
use Rattle.board_service.proofs.Counted.{doors_counted, ends_settled, each_settled}
use Rattle.board_service.proofs.Earned.{service_ends}

-- where each disk tells, all pages of all passes are known
lists_known : {D : Type 0} (seen : D → Option (List ℕ)) → EachTells seen → (lists : List (List (Page D))) → pages_known seen lists ≡ true
lists_known seen each [] = refl
lists_known seen each (pages ∷ lists) = rw (all_known seen each pages) (lists_known seen each lists)

pub served_is_sound : {D : Type 0} (on : View D) → ServedIsSound on
served_is_sound on each plan old new served = served.sound (lists_known on.seen each served.pages)

-- what is the same number as one that is told
total_is : (told : Option ℕ) (taken count : ℕ) → count ≡ taken → IfSome told (λ total. total ≡ taken) → IfSome told (λ total. count ≡ total)
total_is None taken count is tells = tt
total_is (Some total) taken count is tells = is ∙ sym tells

module _ {G X : Type 0} (left : G → Option (List X)) (quiets faults : G → ℕ) {D : Type 0} (on : View D) (plan : Plan) where
  -- the board is closed, and its doors are said to have ended as is known of them
  pub serves_over : {F C : Type 0} (board : Board D F C) (pass : ServicePass D F C) (world : World D) (end said : DoorEnd) (taken : ℕ) (before : List (Entrance G))
      (closed0 closed1 : Option (List (ℕ × Protocol × G))) → IsServicePass on board plan pass → ClosesWith on board pass.board world → IsSettledAs end taken pass.served said
      → AreServed left quiets faults end taken before closed0 closed1 → ServesOver left quiets faults on plan said before closed0 closed1 (first_world board) world
  serves_over board pass world end said taken before closed0 closed1 was closed settled served = record {
    taken = taken;
    doors = record {
      after = served.after;
      taken_is = served.taken_is;
      later = served.later;
      ends = ends_settled left quiets faults end taken pass.served said before served.after settled served.ends;
      closed = served.closed;
    };
    world = service_ends on board plan pass world was closed;
    each = each_settled end taken pass.served said was.visits settled was.served_is;
  }

  module _ (ports : List Port) (before : List (Entrance G)) (opened0 opened1 closed0 closed1 : Option (List (ℕ × Protocol × G))) (opens : HasOpened ports before opened0 opened1 closed0 closed1) where
    -- the doors
    pub over_runs : (end : DoorEnd) (console : ConsoleEnd) (opened2 closed2 : Option (List (ℕ × Protocol × G))) (old new : World D) → opened2 ≡ opened1
        → ServesOver left quiets faults on plan end before closed1 closed2 old new → HasRun left quiets faults ports (ends.Served console end) opened0 opened2 closed0 closed2
    over_runs end console opened2 closed2 old new same over = record {
      before = before;
      after = over.doors.after;
      opened = same ∙ opens.opened;
      later = over.doors.later;
      closed = subst (λ (c : Option (List (ℕ × Protocol × G))). TellsAll c closed2 (map marked over.doors.after)) opens.closed over.doors.closed;
      ends = (opens.places, over.doors.ends);
    }

    -- or nobody was served, and they were given back
    pub unserved_runs : (opened2 closed2 : Option (List (ℕ × Protocol × G))) → opened2 ≡ opened1 → TellsAll closed1 closed2 (map marked before)
        → HasRun left quiets faults ports ends.NoMemory opened0 opened2 closed0 closed2
    unserved_runs opened2 closed2 same shut = record {
      before = before;
      after = before;
      opened = same ∙ opens.opened;
      later = same_doors quiets faults before;
      closed = subst (λ (c : Option (List (ℕ × Protocol × G))). TellsAll c closed2 (map marked before)) opens.closed shut;
      ends = tt;
    }

    pub over_counts : (end : DoorEnd) (console : ConsoleEnd) (opened2 closed2 : Option (List (ℕ × Protocol × G))) (old new : World D) → opened2 ≡ opened1
        → ServesOver left quiets faults on plan end before closed1 closed2 old new → CountsServed left on plan (ends.Served console end) old new opened0 opened2
    over_counts doors.Quiet console opened2 closed2 old new same over = (
      before,
      same ∙ opens.opened,
      over.world,
      total_is (left_at left before) (taken_in over.doors.after) over.world.count (over.each refl ∙ over.doors.taken_is) (doors_counted left quiets faults ports before over.doors.after opens.places over.doors.ends),
    )
    over_counts doors.Failed console opened2 closed2 old new same over = tt
    over_counts doors.NoMemory console opened2 closed2 old new same over = tt
