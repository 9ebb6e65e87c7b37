-- How the latest epoch of a world settles: who is live in it, when it is at rest, and which steps a settle makes.
use Rattle.std.specs.Prelude.{◌≡◌, ◌≢◌, ◌⊎◌, ◌↔◌, ℕ, zero, suc, ◌+◌, ◌-◌, ◌^◌, ◌≤◌, ◌<◌, Bool, true, false, not, ◌&&◌, nat_eq, nat_lt, List, [], ◌∷◌, ◌++◌, ⊤, Option, Some, None, Result, Ok, Err, if◌then◌else◌}
use Rattle.std.specs.List.{list_all}
use Rattle.mail_model.specs.Identity.{EpochId}
use Rattle.object_model.specs.Lists.{Among}
use Rattle.object_model.specs.Sets.{has}
use Rattle.object_model.specs.Letters.{Member, Membership}
use Rattle.object_model.specs.Letters.Body.{Install}
use Rattle.cluster_model.specs.Cluster.{members_in}
use Rattle.cluster_model.specs.Room.{Flight}
use Rattle.maps_model.specs.Cluster.{manager_of, member_of}
use Rattle.whole_world.specs.Thrown.{is_before}
use Rattle.node_store.specs.Disks.{View}
use Rattle.node_core.specs.Nodes.{node_seen}
use Rattle.node_maps.specs.Nodes.{node_of, is_within}
use Rattle.node_maps.specs.Naming.{nodes_as_set, named_by}
use Rattle.whole_node.specs.Nodes.{whole_seen}
use Rattle.node_core.specs.Owing.{owes_another}
use Rattle.whole_node.specs.Settling.{has_no_marks, OwesNobody}
use Rattle.whole_node.specs.declared.node.WholeNode.{WholeNode}
use Rattle.cluster_world.specs.Flows.{AllDelivered, PostsLowest}
use Rattle.cluster_world.specs.Lives.{of_node}
use Rattle.cluster_world.specs.Made.{StepMade, MakesSteps, PostsAll, IsPost, has_failed}
use Rattle.cluster_world.specs.Regroups.{AllPost, EndsBy, Halts, sent_in}
use Rattle.cluster_world.specs.Steps.{IsStep}
use Rattle.cluster_world.specs.Worlds.{WorldState, state_of}
use Rattle.cluster_world.specs.declared.life.Life.{Life}
use Rattle.cluster_world.specs.declared.life.Life.TheVariants.{Up, Down, Lost}
use Rattle.cluster_world.specs.declared.world.World.{World}
use Rattle.cluster_world.specs.declared.step.Step.{Step}
use Rattle.cluster_world.specs.declared.step.Step.TheVariants as step
use Rattle.cluster_world.specs.declared.step.Said.{Said}
use Rattle.cluster_world.specs.declared.step.Said.TheVariants as said
use Rattle.cluster_world.specs.declared.fault.StepFault.{StepFault}
use Rattle.cluster_world.specs.declared.fault.StepFault.TheVariants as fault
use Rattle.cluster_world.specs.declared.regrouping.Halt.{Halt}
use Rattle.cluster_world.specs.declared.regrouping.Halt.TheVariants as halts
use Rattle.cluster_world.specs.declared.settling.Rest.{Rest}
use Rattle.cluster_world.specs.declared.settling.Rest.TheVariants.{Absent, Calm, Owing}
use Rattle.cluster_world.specs.declared.settling.Settle.{Settle}
use Rattle.cluster_world.specs.declared.settling.Settle.TheVariants.{Settled, NotAllUp, Fault}

-- the membership that a node has installed, where it is up
abbrev pub installed_at : Life → Option Membership
installed_at (Up node) = (node_of node.maps).installed
installed_at Down = None
installed_at Lost = None

-- the later of both, and the first where both are of one epoch
abbrev pub later_of : Option Membership → Option Membership → Option Membership
later_of None other = other
later_of (Some one) None = Some one
later_of (Some one) (Some other) = if is_before one.epoch other.epoch then Some other else Some one

-- the latest of these nodes, and of what was found before
abbrev pub latest_since : Option Membership → List Life → Option Membership
latest_since found [] = found
latest_since found (life ∷ lives) = latest_since (later_of found (installed_at life)) lives

-- The latest epoch: the greatest that a node which is up has installed.
abbrev pub latest_in : List Life → Option Membership
latest_in lives = latest_since None lives

-- A member is live where it is up in its boot of the epoch and has installed it.
abbrev pub is_live_at : EpochId → ℕ → Option Life → Bool
is_live_at epoch boot (Some (Up node)) = nat_eq (node_of node.maps).boot boot && is_within (node_of node.maps).installed epoch
is_live_at epoch boot life = false

abbrev pub is_live_in : List Life → EpochId → Member → Bool
is_live_in lives epoch member = is_live_at epoch member.boot (of_node lives member.node)

-- the lower of both
abbrev pub lower_of : Option ℕ → ℕ → Option ℕ
lower_of None n = Some n
lower_of (Some low) n = Some (if nat_lt n low then n else low)

-- the lowest of these members that is not live, and of what was found before
abbrev pub absent_since : List Life → EpochId → Option ℕ → List Member → Option ℕ
absent_since lives epoch found [] = found
absent_since lives epoch found (member ∷ members) = absent_since lives epoch (if is_live_in lives epoch member then found else lower_of found member.node) members

-- the lowest member that is not live, if there is one
abbrev pub absent_in : List Life → Membership → Option ℕ
absent_in lives g = absent_since lives g.epoch None g.members

-- Node n, which is up, is settled where nothing in its log is owed to another member of its epoch, and no row of it is due.
abbrev pub owes_none : ℕ → WholeNode → Bool
owes_none n node = not (owes_another n (node_seen node.mail)) && has_no_marks node

abbrev pub is_settled_at : ℕ → Option Life → Bool
is_settled_at n (Some (Up node)) = owes_none n node
is_settled_at n life = false

abbrev pub all_settled : List Life → List Member → Bool
all_settled lives members = list_all (λ member. is_settled_at member.node (of_node lives member.node)) members

-- How the latest epoch is: a member is not live; or all are, and are settled; or something is due.
abbrev pub rest_by : Option ℕ → Bool → Rest
rest_by (Some n) settled = Absent n
rest_by None settled = if settled then Calm else Owing

abbrev pub rest_of : List Life → Option Membership → Rest
rest_of lives None = Absent 1
rest_of lives (Some g) = rest_by (absent_in lives g) (all_settled lives g.members)

abbrev pub rest_in : {D : Type 0} → WorldState D → Rest
rest_in state = rest_of state.lives (latest_in state.lives)

-- who is absent, if it is so; whether something is due; and what a settle answers then
abbrev pub absent_by : Rest → Option ℕ
absent_by (Absent n) = Some n
absent_by Calm = None
absent_by Owing = None

abbrev pub is_owing : Rest → Bool
is_owing (Absent n) = false
is_owing Calm = false
is_owing Owing = true

abbrev pub settle_by : Rest → Settle
settle_by (Absent n) = NotAllUp n
settle_by Calm = Settled
settle_by Owing = Settled

-- it is calm, and no letter is in flight
pub record IsAtRest {D : Type 0} (state : WorldState D) : Type 0 where
  pub calm : rest_in state ≡ Calm
  pub clear : state.flying.flights ≡ []

-- The same in the words of the rules. A member is up in its boot and has installed the epoch; it owes nothing to another member, and no row of it is due.
pub record IsSettledMember {D : Type 0} (state : WorldState D) (g : Membership) (member : Member) : Type 0 where
  pub node : WholeNode
  pub up : of_node state.lives member.node ≡ Some (Up node)
  pub boot : (node_of node.maps).boot ≡ member.boot
  pub own : Membership
  pub installed : (node_of node.maps).installed ≡ Some own
  pub epoch : own.epoch ≡ g.epoch
  pub owes : OwesNobody member.node (whole_seen node)

-- There is a latest epoch, each of its members is settled so, and no letter is in flight.
pub record IsSettledIn {D : Type 0} (state : WorldState D) : Type 0 where
  pub membership : Membership
  pub latest : latest_in state.lives ≡ Some membership
  pub members : (member : Member) → Among member membership.members → IsSettledMember state membership member
  pub clear : state.flying.flights ≡ []

-- Both are one, whatever the disks tell.
abbrev pub RestIsSettled : Type 0 → Type 0
RestIsSettled D = (state : WorldState D) → IsAtRest state ↔ IsSettledIn state

-- this node to each other of the set, of those from 1 to so many
abbrev pub pairs_from : ℕ → ℕ → ℕ → List (ℕ × ℕ)
pairs_from n members zero = []
pairs_from n members (suc k) = pairs_from n members k ++ (if has members (suc k) && not (nat_eq n (suc k)) then (n, suc k) ∷ [] else [])

-- each of the first of them to each other of the set
abbrev pub pairs_up_to : ℕ → ℕ → ℕ → List (ℕ × ℕ)
pairs_up_to members nodes zero = []
pairs_up_to members nodes (suc k) = pairs_up_to members nodes k ++ (if has members (suc k) then pairs_from (suc k) members nodes else [])

-- each member to each other, in rising order
abbrev pub pairs_of : ℕ → ℕ → List (ℕ × ℕ)
pairs_of members nodes = pairs_up_to members nodes nodes

-- those of a sweep
abbrev pub pairs_in : {D : Type 0} → WorldState D → List (ℕ × ℕ)
pairs_in state = pairs_of (members_in (latest_in state.lives)) state.plan.nodes

-- a step that a settle makes: a post, or a push or a report between two nodes
pub data IsOfSettle (one : StepMade) : Type 0 where
  Posts : IsPost one → IsOfSettle one
  Pushes : (from to : ℕ) → from ≢ to → one.step ≡ step.Push from to → IsOfSettle one
  Reports : (from to : ℕ) → from ≢ to → one.step ≡ step.Report from to → IsOfSettle one

abbrev pub AreOfSettle : List StepMade → Type 0
AreOfSettle [] = ⊤
AreOfSettle (one ∷ more) = IsOfSettle one × AreOfSettle more

-- the first of these makes this step, and the others post
pub record BeginsWith (of : Step) (steps : List StepMade) : Type 0 where
  pub result : Result Said StepFault
  pub more : List StepMade
  pub split : steps ≡ record { step = of; result = result } ∷ more
  pub posts : AllPost more

-- what a settle answers to the refusal of a step
abbrev pub settle_refusal : StepFault → StepFault
settle_refusal fault.Worn = fault.Worn
settle_refusal (fault.NoMemory down) = fault.NoMemory down
settle_refusal why = fault.NoMemory None

-- and where it goes no further
abbrev pub settle_ended : Halt → Result Settle StepFault
settle_ended (halts.Fault failed) = Ok (Fault failed)
settle_ended (halts.Refused why) = Err (settle_refusal why)

-- the last step was refused
pub record IsRefusedBy (why : StepFault) (steps : List StepMade) : Type 0 where
  pub cause : StepFault
  pub is : why ≡ settle_refusal cause
  pub ends : EndsBy (Err cause) steps

-- how many numbers of letters are left
abbrev pub HasLeft : {D : Type 0} → ℕ → World D → Type 0
HasLeft left world = left + sent_in world ≡ 2 ^ 64 - 1

module _ {D : Type 0} (on : View D) where
  -- All letters were posted, the lowest number first, and no disk failed.
  pub record AllFlowed (old new : World D) (steps : List StepMade) : Type 0 where
    pub made : PostsAll on steps old new
    pub lowest : PostsLowest on steps old new
    pub well : AllDelivered steps
    pub clear : (state_of new).flying.flights ≡ []

  -- One node pushed to another, and all letters were posted; then it reported, and all letters were posted.
  pub record TellsOne (from to : ℕ) (old new : World D) (steps : List StepMade) : Type 0 where
    pub other : from ≢ to
    pub pushed : World D
    pub heard : World D
    pub reported : World D
    pub push : Said
    pub report : Said
    pub first : List StepMade
    pub second : List StepMade
    pub split : steps ≡ record { step = step.Push from to; result = Ok push } ∷ first ++ record { step = step.Report from to; result = Ok report } ∷ second
    pub pushes : IsStep on (Ok push) (step.Push from to) old pushed
    pub push_goes : has_failed (Ok push) ≡ false
    pub flows : AllFlowed pushed heard first
    pub reports : IsStep on (Ok report) (step.Report from to) heard reported
    pub report_goes : has_failed (Ok report) ≡ false
    pub flows_again : AllFlowed reported new second

  -- so it was with each of these pairs
  abbrev pub TellsEach : List (ℕ × ℕ) → World D → World D → List StepMade → Type 0
  TellsEach [] old new steps = (steps ≡ []) × (new ≡ old)
  TellsEach (pair ∷ pairs) old new steps =
      (mid : World D) × (one : List StepMade) × (more : List StepMade) × (steps ≡ one ++ more) × TellsOne pair.0 pair.1 old mid one × TellsEach pairs mid new more

  -- A sweep, from a world in which something is due: each member told each other.
  pub record Sweeps (old new : World D) (steps : List StepMade) : Type 0 where
    pub due : rest_in (state_of old) ≡ Owing
    pub tells : TellsEach (pairs_in (state_of old)) old new steps

  -- sweeps, of which each sent a letter
  pub data Swept (old : World D) : World D → List StepMade → Type 0 where
    NoMore : (new : World D) (steps : List StepMade) → new ≡ old → steps ≡ [] → Swept old new steps
    OneMore : (mid new : World D) (front last steps : List StepMade) → Swept old mid front → Sweeps mid new last → sent_in mid + 1 ≤ sent_in new → steps ≡ front ++ last → Swept old new steps

  -- Nobody was absent. All letters were posted, and then there were sweeps.
  pub record Goes (old new : World D) (steps : List StepMade) : Type 0 where
    pub present : (n : ℕ) → rest_in (state_of old) ≡ Absent n → ⊥
    pub flown : World D
    pub first : List StepMade
    pub more : List StepMade
    pub split : steps ≡ first ++ more
    pub flows : AllFlowed old flown first
    pub sweeps : Swept flown new more

  -- So it went, and one more sweep sent nothing, though something was due. Over disks that tell this never comes.
  pub record SweepsInVain (why : StepFault) (old new : World D) (steps : List StepMade) : Type 0 where
    pub is : why ≡ fault.NoMemory None
    pub mid : World D
    pub front : List StepMade
    pub last : List StepMade
    pub split : steps ≡ front ++ last
    pub goes : Goes old mid front
    pub sweeps : Sweeps mid new last
    pub none : sent_in new ≤ sent_in mid

  -- What is known of the steps of a settle, by what it answers.
  abbrev pub SettlesSo : Result Settle StepFault → World D → World D → List StepMade → Type 0
  SettlesSo (Ok Settled) old new steps = Goes old new steps × IsAtRest (state_of new)
  SettlesSo (Ok (NotAllUp n)) old new steps = (((steps ≡ []) × (new ≡ old)) ⊎ Goes old new steps) × (rest_in (state_of new) ≡ Absent n)
  SettlesSo (Ok (Fault n)) old new steps = EndsBy (Ok (said.Faulted n)) steps
  SettlesSo (Err why) old new steps = IsRefusedBy why steps ⊎ SweepsInVain why old new steps

  -- the steps of a settle were made
  pub record MakesSettle (result : Result Settle StepFault) (old new : World D) : Type 0 where
    pub steps : List StepMade
    pub made : MakesSteps on steps old new
    pub of : AreOfSettle steps
    pub shape : SettlesSo result old new steps

  -- all letters were posted, or the last halts the settle
  abbrev pub FlowsOn : Result (Unit {0}) Halt → World D → World D → Type 0
  FlowsOn (Ok _) old new = (steps : List StepMade) × AllFlowed old new steps
  FlowsOn (Err halt) old new = Halts on AllPost halt old new

  -- a step was made, and all letters were posted; or one of these halts the settle
  pub record StepFlows (of : Step) (old new : World D) : Type 0 where
    pub mid : World D
    pub what : Said
    pub posts : List StepMade
    pub is : IsStep on (Ok what) of old mid
    pub goes : has_failed (Ok what) ≡ false
    pub flows : AllFlowed mid new posts

  abbrev pub StepFlowsOn : Step → Result (Unit {0}) Halt → World D → World D → Type 0
  StepFlowsOn of (Ok _) old new = StepFlows of old new
  StepFlowsOn of (Err halt) old new = Halts on (BeginsWith of) halt old new

  -- a sweep that sent a letter; or one that halted, or sent none
  pub record SweptOnce (old new : World D) : Type 0 where
    pub steps : List StepMade
    pub sweeps : Sweeps old new steps
    pub sent : sent_in old + 1 ≤ sent_in new

  pub record SweptIdly (halt : Halt) (old new : World D) : Type 0 where
    pub is : halt ≡ halts.Refused (fault.NoMemory None)
    pub steps : List StepMade
    pub sweeps : Sweeps old new steps
    pub none : sent_in new ≤ sent_in old

  abbrev pub SweepsOnce : ℕ → Result ℕ Halt → World D → World D → Type 0
  SweepsOnce left (Ok now) old new = SweptOnce old new × (now < left) × HasLeft now new
  SweepsOnce left (Err halt) old new = Halts on AreOfSettle halt old new ⊎ SweptIdly halt old new

  -- Sweeps that came to rest, or to a member that is not live; or they halted.
  pub record SweepsOut (halt : Halt) (old new : World D) : Type 0 where
    pub mid : World D
    pub front : List StepMade
    pub swept : Swept old mid front
    pub ends : Halts on AreOfSettle halt mid new ⊎ SweptIdly halt mid new

  abbrev pub SweepsTo : Settle → World D → World D → List StepMade → Type 0
  SweepsTo Settled old new steps = Swept old new steps × IsAtRest (state_of new)
  SweepsTo (NotAllUp n) old new steps = Swept old new steps × (rest_in (state_of new) ≡ Absent n)
  SweepsTo (Fault n) old new steps = ⊥

  abbrev pub SweepsAll : Result Settle Halt → World D → World D → Type 0
  SweepsAll (Ok settle) old new = (steps : List StepMade) × SweepsTo settle old new steps
  SweepsAll (Err halt) old new = SweepsOut halt old new

  abbrev pub GoesOn : Result Settle Halt → World D → World D → Type 0
  GoesOn (Ok settle) old new = MakesSettle (Ok settle) old new
  GoesOn (Err halt) old new = MakesSettle (settle_ended halt) old new

  -- and so it is with all that is told
  abbrev pub TellsOn : List (ℕ × ℕ) → Result (Unit {0}) Halt → World D → World D → Type 0
  TellsOn pairs (Ok _) old new = (steps : List StepMade) × TellsEach pairs old new steps
  TellsOn pairs (Err halt) old new = Halts on AreOfSettle halt old new

-- what a world tells of a user's map: the manager in the latest epoch, and whom it names by its own rows and its own epoch; nothing where there is no epoch, or that manager is not live
abbrev pub is_live_member : List Life → EpochId → Option Member → Bool
is_live_member lives epoch None = false
is_live_member lives epoch (Some member) = is_live_in lives epoch member

abbrev pub named_at : Option Life → List ℕ → ℕ
named_at (Some (Up node)) user = nodes_as_set (named_by (node_of node.maps) user)
named_at life user = 0

abbrev pub told_by : List Life → Membership → List ℕ → Option ℕ → Option (ℕ × ℕ)
told_by lives g user None = None
told_by lives g user (Some manager) = if is_live_member lives g.epoch (member_of g.members manager) then Some (manager, named_at (of_node lives manager) user) else None

abbrev pub told_of : List Life → List ℕ → Option Membership → Option (ℕ × ℕ)
told_of lives user None = None
told_of lives user (Some g) = told_by lives g user (manager_of g user)

abbrev pub maps_in : {D : Type 0} → WorldState D → List ℕ → Option (ℕ × ℕ)
maps_in state user = told_of state.lives user (latest_in state.lives)

-- the first of these nodes, numbered from n on, that is up and not settled
abbrev pub is_unsettled : ℕ → Life → Bool
is_unsettled n (Up node) = not (owes_none n node)
is_unsettled n Down = false
is_unsettled n Lost = false

abbrev pub unsettled_from : ℕ → List Life → Option ℕ
unsettled_from n [] = None
unsettled_from n (life ∷ lives) = if is_unsettled n life then Some n else unsettled_from (n + 1) lives

abbrev pub due_in : {D : Type 0} → WorldState D → Option ℕ
due_in state = unsettled_from 1 state.lives

-- An Install of a later epoch than the latest is in flight.
pub record HasLaterInstall {D : Type 0} (state : WorldState D) : Type 0 where
  pub latest : Membership
  pub is : latest_in state.lives ≡ Some latest
  pub flight : Flight
  pub flies : Among flight state.flying.flights
  pub later : Membership
  pub body : flight.letter.body ≡ Install later
  pub after : is_before latest.epoch later.epoch ≡ true
