-- What comes of a run line that moves the cluster itself, what the transcript says of it, and how it leaves the nodes.
use Rattle.std.specs.Prelude.{◌≡◌, ℕ, ◌<◌, ◌≤◌, Bool, true, false, nat_eq, List, [], ◌∷◌, ◌++◌, flat_map, ⊤, Option, Some, None, if◌then◌else◌, codes}
use Rattle.std.specs.Fmt.{decimal}
use Rattle.mail_model.specs.Identity.{EpochId}
use Rattle.mail_model.specs.Plan.{Plan}
use Rattle.mail_model.specs.Tape.{ClusterOrder}
use Rattle.mail_model.specs.Tape.ClusterOrder.{Crash, Start, Lose, Post, Again, Drop, Flow, Push, Widen, Group, Conclude, Regroup, Report, Settle, Maps, Tick, Sum}
use Rattle.session_model.specs.Sums.{BookSum}
use Rattle.mail_model.specs.Transcript.{Entry, Why, why_word}
use Rattle.mail_model.specs.Transcript.Entry.{Event}

-- A node went down, came up in this boot, or is lost for good; a letter was heard, thrown, or dropped; all letters were posted; a node sent so many letters; a
-- copy got a target more, or did not; a group was opened for this epoch, or the epoch was formed with these members; the epoch has settled, or could not since this
-- member of it is not live; a manager names these nodes, in rising order, as those with mail of a user, or nobody does; the clock was set; the entries of the book were
-- counted; or the disk of a node failed.
pub data ClusterEvent : Type 0 where
  WentDown : (node : ℕ) → ClusterEvent
  CameUp : (node boot : ℕ) → ClusterEvent
  WasLost : (node : ℕ) → ClusterEvent
  WasHeard : (letter : ℕ) → ClusterEvent
  WasThrown : (letter : ℕ) (why : Why) → ClusterEvent
  WasDropped : (letter : ℕ) → ClusterEvent
  HasFlowed : ClusterEvent
  HasSent : (count : ℕ) → ClusterEvent
  HasWidened : (did : Bool) → ClusterEvent
  HasGrouped : (epoch : EpochId) → ClusterEvent
  HasFormed : (epoch : EpochId) (members : List ℕ) → ClusterEvent
  HasSettled : ClusterEvent
  WasAbsent : (member : ℕ) → ClusterEvent
  HasMapped : (user : List ℕ) (told : Option (ℕ × List ℕ)) → ClusterEvent
  HasTicked : ClusterEvent
  HasSummed : (sum : BookSum) → ClusterEvent
  HasFaulted : (node : ℕ) → ClusterEvent

-- that the disk of a node failed
abbrev pub fault_event : ℕ → Entry
fault_event node = Event (codes "fault " ++ decimal node)

-- that a node is lost for good
abbrev pub lost_event : ℕ → Entry
lost_event node = Event (codes "node " ++ decimal node ++ codes " lost")

-- whether a copy got a target more
abbrev pub widened_text : Bool → List ℕ
widened_text true = codes "widened"
widened_text false = codes "not widened"

-- an epoch, by its count and the node that formed it
abbrev pub epoch_text : EpochId → List ℕ
epoch_text epoch = decimal epoch.count ++ codes "." ++ decimal epoch.node

-- the numbers of nodes, each behind a space
abbrev pub node_words : List ℕ → List ℕ
node_words nodes = flat_map (λ (node : ℕ). codes " " ++ decimal node) nodes

-- an epoch that was formed, and its members
abbrev pub formed_text : EpochId → List ℕ → List ℕ
formed_text epoch members = codes "epoch " ++ epoch_text epoch ++ codes " members" ++ node_words members

-- which manager names which nodes as those with mail of the user
abbrev pub maps_text : List ℕ → Option (ℕ × List ℕ) → List ℕ
maps_text user None = codes "maps " ++ user ++ codes " none"
maps_text user (Some told) = codes "maps " ++ user ++ codes " at " ++ decimal told.0 ++ codes ":" ++ node_words told.1

-- how many entries of the book there are
abbrev pub sum_text : BookSum → List ℕ
sum_text sum =
    codes "sum acked " ++ decimal sum.acked ++ codes " struck " ++ decimal sum.struck ++ codes " dropped " ++ decimal sum.dropped ++ codes " lost " ++ decimal sum.lost

-- the line that the transcript has for it
abbrev pub event_entries : ClusterEvent → List Entry
event_entries (WentDown node) = Event (codes "node " ++ decimal node ++ codes " down") ∷ []
event_entries (CameUp node boot) = Event (codes "node " ++ decimal node ++ codes " up " ++ decimal boot) ∷ []
event_entries (WasLost node) = lost_event node ∷ []
event_entries (WasHeard letter) = Event (decimal letter ++ codes " heard") ∷ []
event_entries (WasThrown letter why) = Event (decimal letter ++ codes " thrown " ++ why_word why) ∷ []
event_entries (WasDropped letter) = []
event_entries HasFlowed = Event (codes "flowed") ∷ []
event_entries (HasSent count) = Event (codes "sent " ++ decimal count) ∷ []
event_entries (HasWidened did) = Event (widened_text did) ∷ []
event_entries (HasGrouped epoch) = Event (codes "group " ++ epoch_text epoch) ∷ []
event_entries (HasFormed epoch members) = Event (formed_text epoch members) ∷ []
event_entries HasSettled = Event (codes "settled") ∷ []
event_entries (WasAbsent member) = Event (codes "not-all-up " ++ decimal member) ∷ []
event_entries (HasMapped user told) = Event (maps_text user told) ∷ []
event_entries HasTicked = []
event_entries (HasSummed sum) = Event (sum_text sum) ∷ []
event_entries (HasFaulted node) = fault_event node ∷ []

-- How a node is: up in this boot, down, or lost for good.
pub data NodeLife : Type 0 where
  Up : (boot : ℕ) → NodeLife
  Down : NodeLife
  Lost : NodeLife

-- the life of a node, where this one of a node is another now
abbrev pub turned : ℕ → NodeLife → ℕ → NodeLife → NodeLife
turned node now n life = if nat_eq node n then now else life

-- what an event makes of the life of node n
abbrev pub life_by_event : ClusterEvent → ℕ → NodeLife → NodeLife
life_by_event (WentDown node) n life = turned node Down n life
life_by_event (CameUp node boot) n life = turned node (Up boot) n life
life_by_event (WasLost node) n life = turned node Lost n life
life_by_event (HasFaulted node) n life = turned node Down n life
life_by_event event n life = life

-- the nodes whose disk failed
abbrev pub failed_by_event : ClusterEvent → List ℕ
failed_by_event (HasFaulted node) = node ∷ []
failed_by_event event = []

-- a node that is up
abbrev pub IsUp : NodeLife → Type 0
IsUp (Up boot) = ⊤
IsUp Down = ⊥
IsUp Lost = ⊥

-- A node of the plan that is up: no other does any work in which its disk could fail.
pub record MayFault (plan : Plan) (lives : ℕ → NodeLife) (node : ℕ) : Type 0 where
  pub above : 0 < node
  pub within : node ≤ plan.nodes
  pub up : IsUp (lives node)

-- What can come of an order to nodes that are so. A letter may be heard or thrown, and the disk of its receiver may fail in that; a node that is not up sends
-- nothing; and a node that starts, pushes, widens or forms an epoch may itself fail. While all letters of a group are posted, or the cluster settles, any node that
-- is up may. A report reads no disk.
abbrev pub IsEventOf : Plan → (ℕ → NodeLife) → ClusterOrder → ClusterEvent → Type 0
IsEventOf plan lives (Crash node) (WentDown n) = n ≡ node
IsEventOf plan lives (Start node) (CameUp n boot) = n ≡ node
IsEventOf plan lives (Start node) (HasFaulted n) = n ≡ node
IsEventOf plan lives (Lose node) (WasLost n) = n ≡ node
IsEventOf plan lives (Post letter) (WasHeard i) = i ≡ letter
IsEventOf plan lives (Post letter) (WasThrown i why) = i ≡ letter
IsEventOf plan lives (Post letter) (HasFaulted n) = MayFault plan lives n
IsEventOf plan lives (Again letter) (WasHeard i) = i ≡ letter
IsEventOf plan lives (Again letter) (WasThrown i why) = i ≡ letter
IsEventOf plan lives (Again letter) (HasFaulted n) = MayFault plan lives n
IsEventOf plan lives (Drop letter) (WasDropped i) = i ≡ letter
IsEventOf plan lives Flow HasFlowed = ⊤
IsEventOf plan lives Flow (HasFaulted n) = MayFault plan lives n
IsEventOf plan lives (Push node) (HasSent count) = (IsUp (lives node) → ⊥) → count ≡ 0
IsEventOf plan lives (Push node) (HasFaulted n) = (n ≡ node) × IsUp (lives node)
IsEventOf plan lives (Widen node user id to) (HasWidened did) = ⊤
IsEventOf plan lives (Widen node user id to) (HasFaulted n) = n ≡ node
IsEventOf plan lives (Group node) (HasGrouped epoch) = ⊤
IsEventOf plan lives (Group node) (HasFaulted n) = n ≡ node
IsEventOf plan lives (Conclude node) (HasFormed epoch members) = ⊤
IsEventOf plan lives (Conclude node) (HasFaulted n) = n ≡ node
IsEventOf plan lives (Regroup node) (HasFormed epoch members) = ⊤
IsEventOf plan lives (Regroup node) (HasFaulted n) = MayFault plan lives n
IsEventOf plan lives (Report node) (HasSent count) = (IsUp (lives node) → ⊥) → count ≡ 0
IsEventOf plan lives Settle HasSettled = ⊤
IsEventOf plan lives Settle (WasAbsent member) = ⊤
IsEventOf plan lives Settle (HasFaulted n) = MayFault plan lives n
IsEventOf plan lives (Maps user) (HasMapped name told) = name ≡ user
IsEventOf plan lives (Tick seconds) HasTicked = ⊤
IsEventOf plan lives Sum (HasSummed sum) = ⊤
IsEventOf plan lives order event = ⊥
