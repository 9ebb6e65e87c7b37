-- What serving came to: the plan file was read, the stores were taken and opened, and the cluster was served.
use Rattle.std.specs.Prelude.{◌≡◌, ◌⊎◌, ℕ, List, length, map, Option, None, IfSome, ⊤}
use Rattle.io_edge.specs.declared.yard.Protocol.{Protocol}
use Rattle.cluster_config.specs.declared.plan_file.ServePlan.{ServePlan}
use Rattle.node_store.specs.Disks.{View}
use Rattle.cluster_world.specs.Opens.{AreHandedOn, Opened}
use Rattle.cluster_world.specs.Worlds.{disks_of}
use Rattle.cluster_world.specs.declared.world.World.{World}
use Rattle.yard_stores.specs.Taken.{AllLooked}
use Rattle.mail_service.specs.Consoles.{HasListened}
use Rattle.mail_service.specs.Services.{HasRun, console_end}
use Rattle.mail_service.specs.declared.service.ServiceEnd.{ServiceEnd}
use Rattle.board_service.specs.Served.{LeavesWorld, CountsServed}
use Rattle.serve_word.specs.declared.plan_parts.PlanFault.{PlanFault}
use Rattle.serve_word.specs.declared.ending.ServeEnd.{ServeEnd}
use Rattle.serve_word.specs.declared.ending.ServeEnd.TheVariants.{Done, Broken, Early, Unread, ReadFault, WriteFault, Store, NoMemory, Doors}
use Rattle.serve_word.specs.Endings.{ending_of, ending_unread, Finishes}
use Rattle.serve_word.specs.Plans.{IsPlanFile, IsUnread, ports_of}
use Rattle.serve_word.specs.Stores.{AreStores}

-- What is told of the outside, before and after: each store and each door that was handed out, and each that was given back; what is left of the console's source, and what its
-- sink holds.
pub record Outside (D G : Type 0) : Type 0 where
  pub handed0 : Option (List (ℕ × ℕ × D))
  pub handed1 : Option (List (ℕ × ℕ × D))
  pub returned0 : Option (List (ℕ × ℕ × D))
  pub returned1 : Option (List (ℕ × ℕ × D))
  pub opened0 : Option (List (ℕ × Protocol × G))
  pub opened1 : Option (List (ℕ × Protocol × G))
  pub closed0 : Option (List (ℕ × Protocol × G))
  pub closed1 : Option (List (ℕ × Protocol × G))
  pub left0 : Option (List ℕ)
  pub left1 : Option (List ℕ)
  pub held0 : Option (List ℕ)
  pub held1 : Option (List ℕ)

abbrev pub outside : {D G : Type 0} → (handed0 handed1 returned0 returned1 : Option (List (ℕ × ℕ × D))) → (opened0 opened1 closed0 closed1 : Option (List (ℕ × Protocol × G))) → (left0 left1 held0 held1 : Option (List ℕ)) → Outside D G
outside handed0 handed1 returned0 returned1 opened0 opened1 closed0 closed1 left0 left1 held0 held1 = record {
  handed0 = handed0;
  handed1 = handed1;
  returned0 = returned0;
  returned1 = returned1;
  opened0 = opened0;
  opened1 = opened1;
  closed0 = closed0;
  closed1 = closed1;
  left0 = left0;
  left1 = left1;
  held0 = held0;
  held1 = held1;
}

-- No door was opened, nothing was read of the console and nothing was said.
pub record WasSilent {D G : Type 0} (out : Outside D G) : Type 0 where
  pub opened : out.opened1 ≡ out.opened0
  pub closed : out.closed1 ≡ out.closed0
  pub left : out.left1 ≡ out.left0
  pub held : out.held1 ≡ out.held0

-- an ending before a door was opened
abbrev pub IsBeforeDoors : ServeEnd → Type 0
IsBeforeDoors Done = ⊥
IsBeforeDoors (Broken rule) = ⊥
IsBeforeDoors (Early line) = ⊥
IsBeforeDoors Unread = ⊥
IsBeforeDoors ReadFault = ⊥
IsBeforeDoors WriteFault = ⊥
IsBeforeDoors (Store node) = ⊤
IsBeforeDoors NoMemory = ⊤
IsBeforeDoors Doors = ⊥

-- No plan was read, and no store was handed out.
pub record NoPlan {D G : Type 0} (told : Option (List ℕ)) (out : Outside D G) (ending : ServeEnd) : Type 0 where
  pub fault : PlanFault
  pub unread : IsUnread told fault
  pub is : ending ≡ ending_unread fault
  pub silent : WasSilent out
  pub untaken : out.handed1 ≡ out.handed0
  pub ungiven : out.returned1 ≡ out.returned0

-- The plan was read, and not all stores were there, or one was not empty; those that were handed out were given back as they were.
pub record NoStores {D G : Type 0} (on : View D) (told : Option (List ℕ)) (out : Outside D G) (ending : ServeEnd) : Type 0 where
  pub plan : ServePlan
  pub reads : IsPlanFile told plan
  pub is : IsBeforeDoors ending
  pub silent : WasSilent out
  pub taken : List D
  pub given : List D
  pub are : AreStores out.handed0 out.handed1 out.returned0 out.returned1 taken given
  pub kept : map on.seen given ≡ map on.seen taken

-- The cluster was not opened over its stores.
pub record NotOpened {D G : Type 0} (on : View D) (out : Outside D G) (ending : ServeEnd) (disks given : List D) : Type 0 where
  pub is : IsBeforeDoors ending
  pub silent : WasSilent out
  pub handed : AreHandedOn on.seen disks given

module _ {D G X : Type 0} (on : View D) (is_settled : D → Type 0) (left : G → Option (List X)) (quiets faults : G → ℕ) where
  -- The cluster was opened over its stores and served: what became of its world, of its doors and of the console. Where each door was quiet, as many connections were served as the doors
  -- had. The stores that were given back are those of the world.
  pub record Ran (plan : ServePlan) (out : Outside D G) (ending : ServeEnd) (disks given : List D) : Type 0 where
    pub end : ServiceEnd
    pub is : ending ≡ ending_of end
    pub start : World D
    pub last : World D
    pub opened : Opened on is_settled plan.plan disks start
    pub leaves : LeavesWorld on plan.plan (console_end end) start last
    pub counted : CountsServed left on plan.plan end start last out.opened0 out.opened1
    pub stores : given ≡ disks_of last
    pub doors : HasRun left quiets faults (ports_of plan) end out.opened0 out.opened1 out.closed0 out.closed1
    pub listened : IfSome (console_end end) (λ console. HasListened out.left0 out.left1 console)
    pub unserved : console_end end ≡ None → (out.left1 ≡ out.left0) × (out.held1 ≡ out.held0)

  abbrev pub ServesStores : ServePlan → Outside D G → ServeEnd → List D → List D → Type 0
  ServesStores plan out ending disks given = NotOpened on out ending disks given ⊎ Ran plan out ending disks given

  -- The plan was read, and a store for each of its nodes was handed out and looked at; they were served, and given back.
  pub record ServedStores (told : Option (List ℕ)) (out : Outside D G) (ending : ServeEnd) : Type 0 where
    pub plan : ServePlan
    pub reads : IsPlanFile told plan
    pub taken : List D
    pub disks : List D
    pub given : List D
    pub one_each : length taken ≡ plan.plan.nodes
    pub looked : AllLooked on.seen on.faults taken disks
    pub serves : ServesStores plan out ending disks given
    pub are : AreStores out.handed0 out.handed1 out.returned0 out.returned1 taken given

  -- the work, by how far it came
  abbrev pub ServesPlan : Option (List ℕ) → Outside D G → ServeEnd → Type 0
  ServesPlan told out ending = NoPlan told out ending ⊎ NoStores on told out ending ⊎ ServedStores told out ending

  -- The whole: the work, and then the last line, where there is one.
  pub record Serves (told : Option (List ℕ)) (out : Outside D G) (status : ℕ) : Type 0 where
    pub ending : ServeEnd
    pub middle : Option (List ℕ)
    pub works : ServesPlan told (record out { held1 = middle }) ending
    pub last : Finishes middle out.held1 ending status
