-- What each step makes of a whole world, by what it answers.
use Rattle.std.specs.Prelude.{◌≡◌, ◌≢◌, ◌⊎◌, ◌≤◌, ℕ, ◌+◌, Bool, false, List, [], ◌∷◌, ◌++◌, reverse, length, map, Option, Some, None, if◌then◌else◌}
use Rattle.mail_model.specs.Identity.{EpochId}
use Rattle.mail_model.specs.Plan.{Plan}
use Rattle.mail_model.specs.Record.{Record}
use Rattle.mail_model.specs.Record.Record.{Boot}
use Rattle.mail_model.specs.Book.BookEntry.{CameUp, WentDown}
use Rattle.object_model.specs.Letters.{Body, Letter}
use Rattle.object_model.specs.Letters.Body.{Group}
use Rattle.cluster_model.specs.Cluster as mail_cluster
use Rattle.cluster_model.specs.Claims.{boot_of}
use Rattle.cluster_model.specs.Starts as mail_starts
use Rattle.cluster_model.specs.Thrown.{Why, with_stamps, is_stale}
use Rattle.cluster_model.specs.World as mail
use Rattle.cluster_model.specs.Steps as mail_steps
use Rattle.cluster_model.specs.Steps.Step.{AskFor, GiveUp, Post, Form, Start}
use Rattle.cluster_model.specs.Steps.StepFault.{NoSuchTicket, Worn, NoRoom}
use Rattle.cluster_model.specs.Steps.Said.{Heard, Thrown, Sent, NodeUp, Faulted}
use Rattle.cluster_model.specs.Makes as mail_makes
use Rattle.maps_model.specs.Cluster as maps
use Rattle.maps_model.specs.Rules as maps_rules
use Rattle.whole_model.specs.Whole.{Node, slot_at, with_slot, maps_disk_of}
use Rattle.whole_model.specs.Whole.Life.{Down}
use Rattle.whole_model.specs.Rules.{IsMailBody, IsMapsBody, promise_records}
use Rattle.whole_world.specs.World.{World, mail_world_of, slot_up, IsUp, FollowsAlong, Reaction, after, cut_world}
use Rattle.whole_world.specs.Thrown.{is_before, refused_by}
use Rattle.whole_world.specs.Steps.{Step, Said, StepFault, StepOutcome, room_left, most_at_once, AreFirstDue, HasDue, HasNoneDue, step_fault}
use Rattle.whole_world.specs.Steps.Step.{OfMessages, OpenGroup, ConcludeGroup, ReportTo}
use Rattle.whole_world.specs.Steps.Said.{Told, Grouped, Concluded}
use Rattle.whole_world.specs.Steps.StepFault.{Fault}
use Rattle.whole_world.specs.Steps.StepOutcome.{Says, Refused, NoMemory}

-- A node does something for membership and maps, and messages see at most that it installs. What a rule of maps leaves of the node is `did`, and it may append a promise.
abbrev pub done_for_maps : Node → List Record → maps_rules.Reaction → Option EpochId → List Letter → Reaction
done_for_maps node disk did promise out = record {
  node = record { mail = record node.mail { installed = did.node.installed }; maps = did.node };
  disk = disk ++ promise_records promise;
  out = out;
}

-- as it hears a letter it learns the stamps of it first
abbrev pub learnt : Node → Body → Node
learnt node body = record node { mail = with_stamps body node.mail }

-- the promise that a letter brings a node to
abbrev pub promise_by : maps.Node → Body → Option EpochId
promise_by node (Group epoch) = if is_before node.promise epoch then Some epoch else None
promise_by node body = None

-- node n went down in work that would have appended these records: one of them at most is pending
pub record NodeGoesDown (w : World) (n : ℕ) (disk added : List Record) (new : World) : Type 0 where
  pub front : List Record
  pub pending : List Record
  pub missing : List Record
  pub one : length pending ≤ 1
  pub cut : added ≡ (front ++ pending) ++ missing
  pub is : new ≡ cut_world w n disk front pending

-- A node opens a group. Its letters are numbered in order of receiver.
pub data Groups (plan : Plan) (old : World) (own : ℕ) (said : Said) (new : World) : Type 0 where
  Opens : (node : Node) (disk : List Record) → IsUp old own node disk → said ≡ Grouped (maps_rules.next_epoch own node.maps)
      → new ≡ after old own (done_for_maps node disk (maps_rules.start_group own plan.nodes node.maps (maps_disk_of disk)) (Some (maps_rules.next_epoch own node.maps))
      (reverse (maps_rules.start_group own plan.nodes node.maps (maps_disk_of disk)).out))
      → Groups plan old own said new
  FailsOpening : (node : Node) (disk : List Record) → IsUp old own node disk → said ≡ Told (Faulted own)
      → NodeGoesDown old own disk (promise_records (Some (maps_rules.next_epoch own node.maps))) new → Groups plan old own said new

-- A node concludes its group. Joins stand in order of node, so its letters do.
pub record Forms (plan : Plan) (old : World) (own : ℕ) (said : Said) (new : World) : Type 0 where
  pub node : Node
  pub disk : List Record
  pub up : IsUp old own node disk
  pub did : maps_rules.Reaction
  pub concludes : maps_rules.Concludes own plan.buckets node.maps (maps_disk_of disk) did
  pub said_is : said ≡ Concluded concludes.group.epoch (mail_cluster.set_of_members (map (λ join. join.member) concludes.group.joins))
  pub new_world : new ≡ after old own (done_for_maps node disk did None did.out)

-- A node reports the first rows that are due to another node, as many as go at once. Where none is due nothing is sent.
pub data Reports (old : World) (own to : ℕ) (said : Said) (new : World) : Type 0 where
  Sends : (node : Node) (disk : List Record) → IsUp old own node disk → (users : List (List ℕ)) → AreFirstDue to (most_at_once old.flying) node.maps users → users ≢ [] → (did : maps_rules.Reaction)
      → maps_rules.Reports own to users node.maps (maps_disk_of disk) did → said ≡ Told (Sent (length users)) → new ≡ after old own (done_for_maps node disk did None did.out)
      → Reports old own to said new
  HasNone : (node : Node) (disk : List Record) → IsUp old own node disk → HasNoneDue own to node.maps → said ≡ Told (Sent 0) → new ≡ old → Reports old own to said new

-- some row is due, and there is no room for one letter
pub record FindsNoRoom (w : World) (own to : ℕ) : Type 0 where
  pub node : Node
  pub disk : List Record
  pub up : IsUp w own node disk
  pub due : HasDue own to node.maps
  pub full : room_left w.flying ≡ 0

-- what is said of a letter that was not stale
abbrev pub said_of : Option Why → Said
said_of None = Told Heard
said_of (Some why) = Told (Thrown why)

-- A letter of membership or maps is handed to its receiver, which is up and of its epoch. A Group that is old is answered all the same.
pub data HearsMaps (old : World) (number : ℕ) (keep : Bool) (said : Said) (new : World) : Type 0 where
  Hears : (flies : mail.Flies (mail_world_of old) number) (node : Node) (disk : List Record) → IsUp old flies.letter.to node disk
      → IsMapsBody flies.letter.body → is_stale flies.letter node.mail.installed ≡ false
      → (did : maps_rules.Reaction) → maps_rules.Hears flies.letter.to node.maps (maps_disk_of disk) flies.letter flies.letter.body did
      → said ≡ said_of (refused_by flies.letter.to node.maps flies.letter.body)
      → new ≡ after (record old { flying = mail.flies_on (mail_world_of old) number flies keep }) flies.letter.to
      (done_for_maps (learnt node flies.letter.body) disk did (promise_by node.maps flies.letter.body) did.out)
      → HearsMaps old number keep said new
  -- its disk fails as it promises
  FailsHearing : (flies : mail.Flies (mail_world_of old) number) (node : Node) (disk : List Record) → IsUp old flies.letter.to node disk
      → IsMapsBody flies.letter.body → is_stale flies.letter node.mail.installed ≡ false → said ≡ Told (Faulted flies.letter.to)
      → (down : World) → NodeGoesDown old flies.letter.to disk (promise_records (promise_by node.maps flies.letter.body)) down
      → new ≡ record down { flying = mail.flies_on (mail_world_of old) number flies keep }
      → HearsMaps old number keep said new

-- the node that starts over these records, before its Boot record: it has no epoch
abbrev pub started : ℕ → ℕ → List Record → List Record → Node
started own nodes found records = record {
  mail = mail_starts.started own None (boot_of found + 1) records;
  maps = maps_rules.started (maps_disk_of found);
}

-- A node that is down starts, and the book has it. Where its disk fails it stays down.
pub data StartsUp (plan : Plan) (old : World) (n : ℕ) (said : Said) (new : World) : Type 0 where
  Comes : (disk pending kept : List Record) → slot_at old.slots n ≡ Some (record { life = Down pending; disk = disk }) → (kept ≡ []) ⊎ (kept ≡ pending)
      → boot_of (disk ++ kept) + 1 ≤ mail_steps.greatest_boot → said ≡ Told (NodeUp (boot_of (disk ++ kept) + 1))
      → (records : List Record) → records ≡ (disk ++ kept) ++ Boot (boot_of (disk ++ kept) + 1) ∷ []
      → new ≡ record old { slots = with_slot old.slots n (slot_up (started n plan.nodes (disk ++ kept) records) records); book = old.book ++ CameUp n (boot_of (disk ++ kept) + 1) ∷ [] }
      → StartsUp plan old n said new
  FailsStarting : (disk pending next records : List Record) → slot_at old.slots n ≡ Some (record { life = Down pending; disk = disk })
      → mail_starts.StopsStart disk pending next records → said ≡ Told (Faulted n)
      → new ≡ record old { slots = with_slot old.slots n (record { life = Down next; disk = records }); book = old.book ++ WentDown n ∷ [] }
      → StartsUp plan old n said new

-- A step is one for messages, or for calls that read: of letters those that do not speak of membership or maps, or that their receiver throws before it looks at them. A start has a rule of its own.
abbrev pub IsForMessages : World → mail_steps.Step → Type 0
IsForMessages w (Post number keep) =
    (flies : mail.Flies (mail_world_of w) number) (node : Node) (disk : List Record) → IsUp w flies.letter.to node disk → is_stale flies.letter node.mail.installed ≡ false → IsMailBody flies.letter.body
IsForMessages w (Start n) = ⊥
IsForMessages w (Form n) = ⊥
IsForMessages w step = Unit {0}

-- what each step does that is not refused, by what it says
pub data DoesStep (plan : Plan) (tells : Bool) (old : World) (step : Step) (said : Said) (new : World) : Type 0 where
  ForMessages : (one : mail_steps.Step) → step ≡ OfMessages one → (answer : mail_steps.Said) → said ≡ Told answer → IsForMessages old one
      → mail_makes.DoesStep plan tells (mail_world_of old) one answer (mail_world_of new) → FollowsAlong old new → DoesStep plan tells old step said new
  PostsMaps : (number : ℕ) (keep : Bool) → step ≡ OfMessages (Post number keep) → HearsMaps old number keep said new → DoesStep plan tells old step said new
  Starts : (n : ℕ) → step ≡ OfMessages (Start n) → StartsUp plan old n said new → DoesStep plan tells old step said new
  OpensGroup : (n : ℕ) → step ≡ OpenGroup n → Groups plan old n said new → DoesStep plan tells old step said new
  ConcludesGroup : (n : ℕ) → step ≡ ConcludeGroup n → Forms plan old n said new → DoesStep plan tells old step said new
  SendsReports : (from to : ℕ) → step ≡ ReportTo from to → Reports old from to said new → DoesStep plan tells old step said new

-- Memory ran out in a step that had begun its work: some records are written, and the node is down. A conclusion writes none. A letter that was posted stays in flight.
pub data RunsShort (plan : Plan) (old : World) (step : Step) (n : ℕ) (new : World) : Type 0 where
  InMessages : (one : mail_steps.Step) → step ≡ OfMessages one → IsForMessages old one → mail_makes.RunsShort plan (mail_world_of old) one n (mail_world_of new) → FollowsAlong old new
      → RunsShort plan old step n new
  Starting : (disk pending next records : List Record) → step ≡ OfMessages (Start n) → slot_at old.slots n ≡ Some (record { life = Down pending; disk = disk })
      → mail_starts.StopsStart disk pending next records
      → new ≡ record old { slots = with_slot old.slots n (record { life = Down next; disk = records }); book = old.book ++ WentDown n ∷ [] }
      → RunsShort plan old step n new
  Promising : (node : Node) (disk : List Record) (promise : Option EpochId) → IsUp old n node disk
      → ((step ≡ OpenGroup n) × (promise ≡ Some (maps_rules.next_epoch n node.maps)))
      ⊎ ((step ≡ ConcludeGroup n) × (promise ≡ None))
      ⊎ ((number : ℕ) × (keep : Bool) × (flies : mail.Flies (mail_world_of old) number) × (step ≡ OfMessages (Post number keep)) × (flies.letter.to ≡ n) × IsMapsBody flies.letter.body
      × (is_stale flies.letter node.mail.installed ≡ false) × (promise ≡ promise_by node.maps flies.letter.body))
      → NodeGoesDown old n disk (promise_records promise) new
      → RunsShort plan old step n new

-- A step is refused where it has a fault, where a start is worn, and where a Report has no room, and then changes nothing. Out of memory has no cause that is told.
abbrev pub StartIsWorn : World → Step → Type 0
StartIsWorn old (OfMessages step) = mail_makes.StartIsWorn (mail_world_of old) step
StartIsWorn old step = ⊥

abbrev pub ReportHasNoRoom : World → Step → Type 0
ReportHasNoRoom old (ReportTo from to) = FindsNoRoom old from to
ReportHasNoRoom old step = ⊥

-- An Ask and a GiveUp are refused where no call that reads has such a ticket, either, which is not seen here.
abbrev pub IsUnseen : Plan → World → Step → StepFault → Type 0
IsUnseen plan old (OfMessages (AskFor number)) fault = (fault ≡ Fault NoSuchTicket) × mail_makes.HasNoTicket plan (mail_world_of old) (AskFor number) number
IsUnseen plan old (OfMessages (GiveUp number)) fault = (fault ≡ Fault NoSuchTicket) × mail_makes.HasNoTicket plan (mail_world_of old) (GiveUp number) number
IsUnseen plan old step fault = ⊥

abbrev pub MakesStep : Plan → Bool → World → Step → StepOutcome → World → Type 0
MakesStep plan tells old step (Says said) new = (step_fault plan step old ≡ None) × DoesStep plan tells old step said new
MakesStep plan tells old step (Refused fault) new =
    ((step_fault plan step old ≡ Some fault) ⊎ ((step_fault plan step old ≡ None) × (fault ≡ Fault Worn) × StartIsWorn old step)
    ⊎ ((step_fault plan step old ≡ None) × (fault ≡ Fault NoRoom) × ReportHasNoRoom old step) ⊎ IsUnseen plan old step fault) × (new ≡ old)
MakesStep plan tells old step (NoMemory None) new = new ≡ old
MakesStep plan tells old step (NoMemory (Some n)) new = RunsShort plan old step n new

-- a step and what came of it
pub record MadeStep : Type 0 where
  pub step : Step
  pub outcome : StepOutcome

abbrev pub MakesAll : Plan → Bool → World → List MadeStep → World → Type 0
MakesAll plan tells old [] new = new ≡ old
MakesAll plan tells old (made ∷ others) new = (mid : World) × MakesStep plan tells old made.step made.outcome mid × MakesAll plan tells mid others new
