-- How an epoch settles: members push and report to one another, and all letters are posted, until nothing is left to tell.
use Rattle.std.specs.Prelude.{◌≡◌, ◌≢◌, ◌≤◌, ◌<◌, ℕ, Bool, true, false, List, [], ◌∷◌, length, Option, Some}
use Rattle.std.specs.FinMap as fin
use Rattle.std.specs.Option.{option_map}
use Rattle.mail_model.specs.Identity.{Key, State}
use Rattle.mail_model.specs.Plan.{Plan}
use Rattle.mail_model.specs.Record.{Record}
use Rattle.object_model.specs.Lists.{Among}
use Rattle.object_model.specs.Sets.{has}
use Rattle.object_model.specs.UpdateLog.{Logged, cleared}
use Rattle.object_model.specs.Letters.{Member, Membership, Body, Letter}
use Rattle.object_model.specs.Letters.Body.{PushAck, Group, Join, Install}
use Rattle.cluster_model.specs.Cluster as mail
use Rattle.cluster_model.specs.Rules as mail_rules
use Rattle.cluster_model.specs.Room.{Flight, octets_of_all, due_to, most_octets}
use Rattle.cluster_model.specs.Steps.Step.{Post, PushTo}
use Rattle.cluster_model.specs.Steps.Said.{Faulted}
use Rattle.cluster_model.specs.World.{letters_of}
use Rattle.maps_model.specs.Cluster as maps
use Rattle.maps_model.specs.Epochs.{IsAtMost}
use Rattle.whole_model.specs.Whole.{Node}
use Rattle.whole_world.specs.World.{World, IsUp}
use Rattle.cluster_model.specs.Steps.{is_node}
use Rattle.cluster_model.specs.Steps.StepFault.{Worn}
use Rattle.whole_world.specs.Steps.{Step, Said, StepFault, is_due}
use Rattle.whole_world.specs.Steps.StepFault.{Fault}
use Rattle.whole_world.specs.Steps.Step.{OfMessages, ReportTo}
use Rattle.whole_world.specs.Steps.Said.{Told}
use Rattle.whole_world.specs.Steps.StepOutcome.{Says, Refused}
use Rattle.whole_world.specs.Makes.{MakesStep, MadeStep, MakesAll}
use Rattle.whole_world.specs.Laws.{Stands}
use Rattle.whole_world.specs.Settled.{IsLive, IsSettled, IsKnownEpoch, unopened_world}
use Rattle.whole_world.specs.Regroup.{maps_at}

-- no disk fails
abbrev pub IsFine : Said → Type 0
IsFine said = (n : ℕ) → said ≢ Told (Faulted n)

-- the letter of the lowest number is posted, and the next, until none is in flight
pub data Flows (plan : Plan) (tells : Bool) : World → World → Type 0 where
  Flowed : (w new : World) → w.flying ≡ [] → new ≡ w → Flows plan tells w new
  FlowsOn : (w new : World) (flight : Flight) → Among flight w.flying → ((other : Flight) → Among other w.flying → flight.number ≤ other.number)
      → (said : Said) (mid : World) → MakesStep plan tells w (OfMessages (Post flight.number false)) (Says said) mid → IsFine said → Flows plan tells mid new → Flows plan tells w new

-- One member pushes to another, and all letters are posted; then it reports, and all letters are posted. So each finds an empty flight, and room.
pub record TellsMember (plan : Plan) (tells : Bool) (from to : ℕ) (w : World) (new : World) : Type 0 where
  pub pushed : World
  pub between : World
  pub reported : World
  pub push_said : Said
  pub report_said : Said
  pub pushes : MakesStep plan tells w (OfMessages (PushTo from to)) (Says push_said) pushed
  pub push_fine : IsFine push_said
  pub flows_first : Flows plan tells pushed between
  pub reports : MakesStep plan tells between (ReportTo from to) (Says report_said) reported
  pub report_fine : IsFine report_said
  pub flows : Flows plan tells reported new

-- each member to each, in rising order
abbrev pub Sweeps : Plan → Bool → List (ℕ × ℕ) → World → World → Type 0
Sweeps plan tells [] w new = new ≡ w
Sweeps plan tells (pair ∷ pairs) w new = (mid : World) × TellsMember plan tells pair.0 pair.1 w mid × Sweeps plan tells pairs mid new

-- nothing of this node is due to that one
pub record IsQuietTo (from to : ℕ) (node : Node) : Type 0 where
  pub pushes : due_to from to node.mail ≡ []
  pub reports : (user : List ℕ) → is_due to node.maps user ≡ false

-- What settling counts on beside the invariants: no row is due at a node that manages the user itself, and each epoch has a manager for each bucket.
pub record IsCharted (plan : Plan) (w : World) : Type 0 where
  pub not_own : (n : ℕ) (node : Node) (disk : List Record) → IsUp w n node disk → (user : List ℕ) → maps.manages_in node.maps.installed n user ≡ true → node.maps.marked user ≡ false
  pub mapped : (g : Membership) → IsKnownEpoch w g → (length g.map ≡ plan.buckets) × (0 < plan.buckets)

-- and every step keeps it
abbrev pub StepsChart : Type 0
StepsChart = (plan : Plan) (tells : Bool) (old new : World) (steps : List MadeStep) → MakesAll plan tells old steps new → Stands plan old → IsCharted plan old → IsCharted plan new

abbrev pub OpeningIsCharted : Type 0
OpeningIsCharted = (plan : Plan) → IsCharted plan (unopened_world plan.nodes)

-- Where all members are live and no member has anything due to another, the epoch is settled.
abbrev pub QuietIsSettled : Type 0
QuietIsSettled = (plan : Plan) (w : World) → Stands plan w → IsCharted plan w → (g : Membership) → ((member : Member) → Among member g.members → IsLive w g member)
    → ((member other : Member) → Among member g.members → Among other g.members → other.node ≢ member.node → (node : Node) (disk : List Record) → IsUp w member.node node disk
    → IsQuietTo member.node other.node node)
    → IsSettled w g

-- a letter that forms no epoch
abbrev pub IsCalmBody : Body → Type 0
IsCalmBody (Group epoch) = ⊥
IsCalmBody (Join epoch promise boot was claims) = ⊥
IsCalmBody (Install membership) = ⊥
IsCalmBody body = Unit {0}

-- no Install in flight is of a later epoch
abbrev pub NoLaterInstall : World → Membership → Type 0
NoLaterInstall w g = (letter : Letter) → Among letter (letters_of w.flying) → (other : Membership) → letter.body ≡ Install other → IsAtMost other.epoch g.epoch

-- Whatever letters fly, where no Install of them is of a later epoch: once all are posted and no disk failed, who was live in the epoch is live.
abbrev pub FlowsStay : Type 0
FlowsStay = (plan : Plan) (tells : Bool) (w new : World) (g : Membership) → Stands plan w → NoLaterInstall w g → Flows plan tells w new
    → Stands plan new × (new.flying ≡ []) × ((member : Member) → IsLive w g member → IsLive new g member)

-- And what is known of epochs once they are posted was known before.
abbrev pub FlowsBringNoEpoch : Type 0
FlowsBringNoEpoch = (plan : Plan) (tells : Bool) (w new : World) → Stands plan w → Flows plan tells w new → (g : Membership) → IsKnownEpoch new g → IsKnownEpoch w g

-- A settling: all members are live; all letters are posted; and sweeps follow until the epoch is settled.
pub data SettlesSo (plan : Plan) (tells : Bool) (g : Membership) (pairs : List (ℕ × ℕ)) : World → World → Type 0 where
  Settled : (w new : World) → IsSettled w g → new ≡ w → SettlesSo plan tells g pairs w new
  SweepsOn : (w mid new : World) → Sweeps plan tells pairs w mid → SettlesSo plan tells g pairs mid new → SettlesSo plan tells g pairs w new

pub record SettlesEpoch (plan : Plan) (tells : Bool) (g : Membership) (pairs : List (ℕ × ℕ)) (old new : World) : Type 0 where
  pub live : (member : Member) → Among member g.members → IsLive old g member
  pub flown : World
  pub flows : Flows plan tells old flown
  pub goes : SettlesSo plan tells g pairs flown new

-- It leaves the epoch settled, with no letter in flight.
abbrev pub SettleSettles : Type 0
SettleSettles = (plan : Plan) (tells : Bool) (old new : World) (g : Membership) (pairs : List (ℕ × ℕ)) → Stands plan old → NoLaterInstall old g → SettlesEpoch plan tells g pairs old new
    → Stands plan new × IsSettled new g × (new.flying ≡ [])

-- the boot of a node that is up, and what it has installed
abbrev pub boot_and_epoch : World → ℕ → Option (ℕ × Option Membership)
boot_and_epoch w n = option_map (λ (node : maps.Node). (node.boot, node.installed)) (maps_at w n)

-- the same nodes are up, each in its boot and its epoch
abbrev pub EpochsStay : World → World → Type 0
EpochsStay old new = (n : ℕ) → boot_and_epoch new n ≡ boot_and_epoch old n

-- Whatever is pushed and reported and posted in sweeps, where no disk fails: no letter is left in flight, who was live is live, and each node's boot and epoch stay.
abbrev pub SweepsStay : Type 0
SweepsStay = (plan : Plan) (tells : Bool) (w new : World) (pairs : List (ℕ × ℕ)) → Stands plan w → w.flying ≡ [] → Sweeps plan tells pairs w new
    → Stands plan new × (new.flying ≡ []) × ((g : Membership) (member : Member) → IsLive w g member → IsLive new g member) × EpochsStay w new

-- A sweep sends letters, and so uses up numbers; or the epoch was settled. So sweeps come to an end.
abbrev pub SweepsSend : Type 0
SweepsSend = (plan : Plan) (tells : Bool) (w new : World) (pairs : List (ℕ × ℕ)) → Stands plan w → IsCharted plan w → w.flying ≡ [] → (g : Membership)
    → ((member : Member) → Among member g.members → IsLive w g member)
    → ((a b : Member) → Among a g.members → Among b g.members → b.node ≢ a.node → Among (a.node, b.node) pairs)
    → Sweeps plan tells pairs w new → (w.sent ≤ new.sent) × (new.sent ≡ w.sent → IsSettled w g)

-- each push to that node fits into an empty flight
abbrev pub PushesFit : ℕ → ℕ → Node → List Record → Type 0
PushesFit own to node disk = (key : Key) (entry : Logged) → fin.get node.mail.log key ≡ Some entry → octets_of_all (mail_rules.push_of own to (mail.epoch_of node.mail) disk key (Some entry)) ≤ most_octets

-- a step is refused as worn, or not at all
abbrev pub IsRefusedAsWorn : Plan → World → Step → Type 0
IsRefusedAsWorn plan w step = (tells : Bool) (fault : StepFault) (new : World) → MakesStep plan tells w step (Refused fault) new → fault ≡ Fault Worn

-- In an empty flight a push that fits, and a report, of a node that is up are refused as worn, or not at all.
abbrev pub SweepIsWorn : Type 0
SweepIsWorn = (plan : Plan) (w : World) → w.flying ≡ [] → (from to : ℕ) → is_node plan from ≡ true → is_node plan to ≡ true → (node : Node) (disk : List Record) → IsUp w from node disk
    → (PushesFit from to node disk → IsRefusedAsWorn plan w (OfMessages (PushTo from to))) × IsRefusedAsWorn plan w (ReportTo from to)

-- A push is acknowledged whatever its receiver holds.
abbrev pub PushIsAcked : Type 0
PushIsAcked = (own : ℕ) (key : Key) (state : State) (octets : Option (List ℕ)) (letter : Letter) (node : mail.Node) (disk : List Record)
    → (mail_rules.hear_push own node disk letter key state octets).out ≡ mail_rules.answer letter (PushAck key state) ∷ []

-- Its acknowledgement takes the receiver out of the entry, or the entry is retired.
abbrev pub AckClears : Type 0
AckClears = (own to nodes : ℕ) (key : Key) (entry : Logged) → has entry.remaining to ≡ true → (node : mail.Node) (disk : List Record) → fin.get node.log key ≡ Some entry
    → (after : Logged) → fin.get (mail_rules.hear_ack own nodes node disk key entry.state to).node.log key ≡ Some after → (after ≡ cleared to entry) × (has after.remaining to ≡ false)
