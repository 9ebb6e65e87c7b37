-- The stores that were taken were served, or were not, and were given back.
use Rattle.std.proofs.Common.{◌≡◌, ◌≢◌, inl, inr, ⊎_elim, ℕ, zero, suc, ◌+◌, List, [], ◌∷◌, ◌++◌, length, map, Option, Some, None, Err, arith, refl, sym, ap, ap₂, ◌∙◌, subst, append-nil}
use Rattle.std.specs.Prelude.{IfSome, slice_get}
use Rattle.std.proofs.lemmas.List.{map-append}
use Rattle.std.proofs.lemmas.Option.{none-some}
use Rattle.io_edge.specs.Causes.{Rose}
use Rattle.mail_model.specs.Plan.{Plan}
use Rattle.yard_stores.specs.Taken.{with_all, numbered_stores, TellsAll, AllLooked, LastFailed, TakesSo}
use Rattle.yard_stores.specs.declared.stores.TakeFault.{TakeFault}
use Rattle.yard_stores.specs.declared.stores.TakeFault.TheVariants as take
use Rattle.yard_stores.proofs.Taking.{as_many}
use Rattle.node_store.specs.Disks.{View}
use Rattle.cluster_world.specs.Lives.{of_node}
use Rattle.cluster_world.specs.Worlds.{state_of, plan_of, disks_of}
use Rattle.cluster_world.specs.Steps.{AreSettled}
use Rattle.cluster_world.specs.Opens.{CanBeOpened, AreEmpty, IsAtBeginning, Opened}
use Rattle.cluster_world.specs.declared.world.World.{World}
use Rattle.cluster_world.proofs.Chained.{plan_stays}
use Rattle.drive_tape.specs.declared.drove.Drove.{Drove}
use Rattle.drive_tape.specs.declared.drove.Drove.TheVariants as drove
use Rattle.drive_tape.specs.declared.drove.Stop.TheVariants as why
use Rattle.drive_tape.specs.Drive.{Drives, stop_of}
use Rattle.drive_tape.specs.Plans.{IsTapePlan}
use Rattle.porcupine_server.specs.declared.ending.Ending.{Ending}
use Rattle.porcupine_server.specs.declared.ending.Ending.TheVariants.{Done, Line, Read, Write, Store, NoMemory}
use Rattle.porcupine_server.specs.Endings.{ending_of, ending_untaken}
use Rattle.serve_word.specs.Stores.{AreStores, NodeStoreFailed, StoreFailed}
use Rattle.porcupine_server.specs.Works.{IsBeforeRun, SourceAndSink, ServesStores}
use Rattle.serve_word.proofs.Storing.{failed_opening}

-- a plan of a tape is one that a cluster can be opened for
pub fits : (plan : Plan) → IsTapePlan plan → CanBeOpened plan
fits plan is = record { some = is.some; few = is.few; confirmed = is.confirmed; copied = is.copied; spread = is.spread; bucketed = is.buckets.0 }

-- nothing was handled
pub before_untaken : (fault : TakeFault) → IsBeforeRun (ending_untaken fault)
before_untaken (take.Store node) = tt
before_untaken take.NoMemory = tt

-- a store that is to blame is the one that was to be taken
pub store_untaken : (fault : TakeFault) (node : ℕ) → ending_untaken fault ≡ Store node → fault ≡ take.Store node
store_untaken (take.Store number) node is = let same : number ≡ node = cc in ap (λ n. take.Store n) same
store_untaken take.NoMemory node is = absurd (let never : NoMemory ≡ Store node = is in cc)

-- the store of this node failed as it was opened
pub store_named : {D : Type 0} (seen : D → Option (List ℕ)) (faults : D → ℕ) (number node : ℕ) (old new : List D) → Store number ≡ Store node
    → (disk : D) × (disk' : D) × (of_node old number ≡ Some disk) × (of_node new number ≡ Some disk') × Rose (faults disk) (faults disk') → NodeStoreFailed seen faults node old new
store_named seen faults number node old new is failed =
    let same : number ≡ node = cc in
    subst (λ n. NodeStoreFailed seen faults n old new) same (failed_opening seen faults number old new failed)

-- a world that was opened begins
pub began : {D : Type 0} (on : View D) (is_settled : D → Type 0) (plan : Plan) (disks : List D) (start : World D) → Opened on is_settled plan disks start → IsAtBeginning on (plan_of start) start
began on is_settled plan disks start opened = subst (λ (p : Plan). IsAtBeginning on p start) (sym opened.begins.plan_is) opened.begins

-- only a fault of the source ends so
pub read_stop : (answer : Drove) → ending_of answer ≡ Read → stop_of answer ≡ why.ReadFault
read_stop drove.Ended is = absurd (let never : Done ≡ Read = is in cc)
read_stop drove.ReadFault is = refl
read_stop (drove.WriteFault n) is = absurd (let never : Write ≡ Read = is in cc)
read_stop (drove.BadTape n fault) is = absurd (let never : Line n fault ≡ Read = is in cc)
read_stop (drove.NoMemory n) is = absurd (let never : NoMemory ≡ Read = is in cc)

-- and only one of the sink so
pub write_stop : (answer : Drove) → ending_of answer ≡ Write → stop_of answer ≡ why.WriteFault
write_stop drove.Ended is = absurd (let never : Done ≡ Write = is in cc)
write_stop drove.ReadFault is = absurd (let never : Read ≡ Write = is in cc)
write_stop (drove.WriteFault n) is = refl
write_stop (drove.BadTape n fault) is = absurd (let never : Line n fault ≡ Write = is in cc)
write_stop (drove.NoMemory n) is = absurd (let never : NoMemory ≡ Write = is in cc)

-- what the work on a tape ends so refuses no store
pub no_store_stop : (answer : Drove) (node : ℕ) → ending_of answer ≡ Store node → ⊥
no_store_stop drove.Ended node is = absurd (let never : Done ≡ Store node = is in cc)
no_store_stop drove.ReadFault node is = absurd (let never : Read ≡ Store node = is in cc)
no_store_stop (drove.WriteFault n) node is = absurd (let never : Write ≡ Store node = is in cc)
no_store_stop (drove.BadTape n fault) node is = absurd (let never : Line n fault ≡ Store node = is in cc)
no_store_stop (drove.NoMemory n) node is = absurd (let never : NoMemory ≡ Store node = is in cc)

-- as many disks come back as were handed in
pub come_back : {D : Type 0} (on : View D) (is_settled : D → Type 0) (plan : Plan) (count : ℕ) (disks : List D) (start last : World D) (answer : Drove) (left0 left1 held0 held1 : Option (List ℕ))
    → Opened on is_settled plan disks start → (IsAtBeginning on (plan_of start) start → Drives on start left0 left1 held0 held1 answer count last)
    → length disks ≡ plan.nodes → length (disks_of last) ≡ plan.nodes
come_back on is_settled plan count disks start last answer left0 left1 held0 held1 opened drives one_each =
    let d = drives (began on is_settled plan disks start opened) in
    (plan_stays on d.outcomes [] d.awaited start last d.steps).1 ∙ opened.handed.count ∙ one_each

pub ran : {D : Type 0} (on : View D) (is_settled : D → Type 0) (ends : SourceAndSink) (plan : Plan) (count : ℕ) (ending : Ending) (answer : Drove) (disks given : List D) (start last : World D)
    → ending ≡ ending_of answer → Opened on is_settled plan disks start
    → (IsAtBeginning on (plan_of start) start → Drives on start ends.left0 ends.left1 ends.held0 ends.held1 answer count last)
    → AreSettled is_settled (state_of last) → given ≡ disks_of last → ServesStores on is_settled ends plan count ending disks given
ran on is_settled ends plan count ending answer disks given start last is opened drives settled closed = inr (record {
  answer = answer;
  is = is;
  start = start;
  last = last;
  opened = opened;
  drives = drives (began on is_settled plan disks start opened);
  stores = closed;
  settled = settled;
})
