-- What the work on a tape did: the plan was read, the stores were taken and opened, and the run lines were handled.
use Rattle.std.specs.Prelude.{◌≡◌, ◌⊎◌, ℕ, List, length, map, Option, Ok, Err, ⊤}
use Rattle.mail_model.specs.Plan.{Plan}
use Rattle.node_store.specs.Disks.{View}
use Rattle.cluster_world.specs.Worlds.{state_of, disks_of}
use Rattle.cluster_world.specs.Steps.{AreSettled}
use Rattle.cluster_world.specs.Opens.{AreHandedOn, Opened}
use Rattle.cluster_world.specs.declared.world.World.{World}
use Rattle.drive_tape.specs.declared.drove.Drove.{Drove}
use Rattle.drive_tape.specs.Drive.{Drives}
use Rattle.drive_tape.specs.Plans.{ReadsHead, IsTapePlan}
use Rattle.yard_stores.specs.Taken.{AllLooked}
use Rattle.serve_word.specs.Stores.{AreStores}
use Rattle.porcupine_server.specs.declared.ending.Ending.{Ending}
use Rattle.porcupine_server.specs.declared.ending.Ending.TheVariants.{Done, Line, Read, Write, Store, NoMemory}
use Rattle.porcupine_server.specs.Endings.{ending_of, Finishes}

-- an ending before the first run line was read
abbrev pub IsBeforeRun : Ending → Type 0
IsBeforeRun Done = ⊥
IsBeforeRun (Line number fault) = ⊥
IsBeforeRun Read = ⊥
IsBeforeRun Write = ⊥
IsBeforeRun (Store node) = ⊤
IsBeforeRun NoMemory = ⊤

-- Each store that was handed out, and each that was given back, before and after.
pub record Stores (D : Type 0) : Type 0 where
  pub handed0 : Option (List (ℕ × ℕ × D))
  pub handed1 : Option (List (ℕ × ℕ × D))
  pub returned0 : Option (List (ℕ × ℕ × D))
  pub returned1 : Option (List (ℕ × ℕ × D))

-- What is left of the source, and what the sink holds, before and after.
pub record SourceAndSink : Type 0 where
  pub left0 : Option (List ℕ)
  pub left1 : Option (List ℕ)
  pub held0 : Option (List ℕ)
  pub held1 : Option (List ℕ)

-- The stores were empty and the cluster was opened over them, and the run lines were handled: the stores that were given back are those of the world that came back.
pub record Ran {D : Type 0} (on : View D) (is_settled : D → Type 0) (ends : SourceAndSink) (plan : Plan) (count : ℕ) (ending : Ending) (disks given : List D) : Type 0 where
  pub answer : Drove
  pub is : ending ≡ ending_of answer
  pub start : World D
  pub last : World D
  pub opened : Opened on is_settled plan disks start
  pub drives : Drives on start ends.left0 ends.left1 ends.held0 ends.held1 answer count last
  pub stores : given ≡ disks_of last
  pub settled : AreSettled is_settled (state_of last)

-- The cluster was not opened, and nothing was read or written.
pub record NotOpened {D : Type 0} (on : View D) (ends : SourceAndSink) (ending : Ending) (disks given : List D) : Type 0 where
  pub nothing_read : ends.left1 ≡ ends.left0
  pub nothing_written : ends.held1 ≡ ends.held0
  pub before : IsBeforeRun ending
  pub handed : AreHandedOn on.seen disks given

-- the cluster was not opened, or the run lines were handled
abbrev pub ServesStores : {D : Type 0} → View D → (D → Type 0) → SourceAndSink → Plan → ℕ → Ending → List D → List D → Type 0
ServesStores on is_settled ends plan count ending disks given = NotOpened on ends ending disks given ⊎ Ran on is_settled ends plan count ending disks given

-- The plan was not read; nothing was written, and no store was handed out.
pub record NoPlan {D : Type 0} (stores : Stores D) (ends : SourceAndSink) (ending : Ending) : Type 0 where
  pub answer : Drove
  pub reads : ReadsHead ends.left0 ends.left1 (Err answer)
  pub is : ending ≡ ending_of answer
  pub none : ends.held1 ≡ ends.held0
  pub untaken : stores.handed1 ≡ stores.handed0
  pub ungiven : stores.returned1 ≡ stores.returned0

-- The plan was read, and not all stores were there, or one was not empty; those that were handed out were given back as they were, and nothing was written.
pub record NoStores {D : Type 0} (on : View D) (stores : Stores D) (ends : SourceAndSink) (ending : Ending) : Type 0 where
  pub plan : Plan
  pub count : ℕ
  pub reads : ReadsHead ends.left0 ends.left1 (Ok (plan, count))
  pub is : IsBeforeRun ending
  pub none : ends.held1 ≡ ends.held0
  pub taken : List D
  pub given : List D
  pub are : AreStores stores.handed0 stores.handed1 stores.returned0 stores.returned1 taken given
  pub kept : map on.seen given ≡ map on.seen taken

-- The plan was read, and a store for each of its nodes was handed out and looked at; they were served, and given back.
pub record ServedStores {D : Type 0} (on : View D) (is_settled : D → Type 0) (stores : Stores D) (ends : SourceAndSink) (ending : Ending) : Type 0 where
  pub plan : Plan
  pub count : ℕ
  pub between : Option (List ℕ)
  pub reads : ReadsHead ends.left0 between (Ok (plan, count))
  pub fits : IsTapePlan plan
  pub taken : List D
  pub disks : List D
  pub given : List D
  pub one_each : length taken ≡ plan.nodes
  pub looked : AllLooked on.seen on.faults taken disks
  pub serves : ServesStores on is_settled (record ends { left0 = between }) plan count ending disks given
  pub are : AreStores stores.handed0 stores.handed1 stores.returned0 stores.returned1 taken given

abbrev pub Works : {D : Type 0} → View D → (D → Type 0) → Stores D → SourceAndSink → Ending → Type 0
Works on is_settled stores ends ending = NoPlan stores ends ending ⊎ NoStores on stores ends ending ⊎ ServedStores on is_settled stores ends ending

-- The whole: the work, and then the last line, where there is one.
pub record TranscriptFollows {D : Type 0} (on : View D) (is_settled : D → Type 0) (stores : Stores D) (ends : SourceAndSink) (status : ℕ) : Type 0 where
  pub ending : Ending
  pub middle : Option (List ℕ)
  pub works : Works on is_settled stores (record ends { held1 = middle }) ending
  pub last : Finishes middle ends.held1 ending status
