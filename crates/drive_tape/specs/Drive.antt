-- What driving a cluster by a tape did, over the octets that were read and those that were written.
use Rattle.std.specs.Prelude.{◌≡◌, ◌⊎◌, ◌<◌, ◌≤◌, ◌+◌, ◌^◌, ℕ, List, [], ◌∷◌, ◌++◌, length, map, flat_map, All, ⊤, Option, Some, None, Err}
use Rattle.std.specs.Io.KnownBytes.{Consumes, Appends, IsAtEnd}
use Rattle.mail_model.specs.Identity.{EpochId}
use Rattle.mail_model.specs.Lines.{HasNoLf, ended}
use Rattle.mail_model.specs.Plan.{Plan}
use Rattle.mail_model.specs.Tape.{Order, tape_order}
use Rattle.mail_model.specs.Tape.Order.{End}
use Rattle.mail_model.specs.Transcript.{Entry, entry_line, written_of}
use Rattle.session_model.specs.Sessions.{Session}
use Rattle.session_model.specs.Acts.{Act}
use Rattle.session_model.specs.Acts.Act.{StillWaits, Makes as MakesAct}
use Rattle.session_model.specs.Events.ClusterEvent.{HasFormed, HasSettled}
use Rattle.session_model.specs.Logs.{Asked}
use Rattle.session_model.specs.Lives.{failed_in, life_after}
use Rattle.session_model.specs.Run.{Stop, IsDriven, IsCutShort, refusal}
use Rattle.session_model.specs.Kept.{IsEnding}
use Rattle.session_model.specs.Run.Stop.{BehindLine, Denied, SinkFailed, OutOfMemory}
use Rattle.node_store.specs.Disks.{View}
use Rattle.cluster_world.specs.Lives.{nodes_up}
use Rattle.cluster_world.specs.Outcomes.{Outcome, Awaited, Makes, made_of, asked_by_outcome}
use Rattle.cluster_world.specs.Outcomes.Outcome.{Moved, Settling, KeptUp}
use Rattle.session_model.specs.Events.NodeLife.{Up}
use Rattle.mail_model.specs.Tape.{ClusterOrder as order}
use Rattle.cluster_world.specs.Worlds.{state_of, plan_of, disk_of_node, life_of}
use Rattle.cluster_world.specs.Lasting.{AllHaveLetters}
use Rattle.cluster_world.specs.Rests.{HasRightMaps}
use Rattle.cluster_world.specs.Settling.{IsAtRest}
use Rattle.cluster_world.specs.Sound.{IsWhole}
use Rattle.cluster_world.specs.Wholes.{HasOneMap}
use Rattle.cluster_world.specs.declared.fault.StepFault.{StepFault}
use Rattle.object_model.specs.Lists.{Among}
use Rattle.cluster_world.specs.declared.world.World.{World}
use Rattle.drive_tape.specs.declared.drove.Drove.{Drove}
use Rattle.drive_tape.specs.declared.drove.Drove.TheVariants as drove
use Rattle.drive_tape.specs.declared.drove.TapeFault.{TapeFault}
use Rattle.drive_tape.specs.declared.drove.TapeFault.TheVariants.{BadLine, TapeTooLong}
use Rattle.drive_tape.specs.declared.drove.Stop.{Stop as Why}
use Rattle.drive_tape.specs.declared.drove.Stop.TheVariants as why
use Rattle.drive_tape.specs.Denials.{stop_by}
use Rattle.drive_tape.specs.Faults.{tape_fault_seen}
use Rattle.drive_tape.specs.Kept.{AreToldOrBlind, KeptIn}
use Rattle.drive_tape.specs.Led.{AreLedTo, AreDenied}
use Rattle.drive_tape.specs.Points.{AreAtOwnNodes}
use Rattle.drive_tape.specs.Worlds.{AreLives, HasFailed}

-- the octets are a line that is this order
pub record IsOrder (octets : List ℕ) (order : Order) : Type 0 where
  pub line : List ℕ
  pub whole : octets ≡ ended line
  pub one : HasNoLf line
  pub spelled : tape_order line ≡ Some order

-- they are a line that is no order
pub record IsNoOrder (octets : List ℕ) : Type 0 where
  pub line : List ℕ
  pub whole : octets ≡ ended line
  pub one : HasNoLf line
  pub spelled : tape_order line ≡ None

-- Why the work stopped at a fault of the tape, at these octets that were taken and not handled, with room for so many more.
abbrev pub StopsAt : TapeFault → Plan → List Act → List Session → Option (List ℕ) → List ℕ → ℕ → Type 0
StopsAt fault plan been sessions left octets room =
    ((fault ≡ BadLine) × HasNoLf octets × IsAtEnd left)
    ⊎ ((fault ≡ BadLine) × HasNoLf octets × (65535 < length octets))
    ⊎ ((fault ≡ BadLine) × IsNoOrder octets)
    ⊎ ((fault ≡ TapeTooLong) × HasNoLf octets × (room ≡ 0))
    ⊎ ((order : Order) × IsOrder octets order × (refusal plan been sessions order ≡ Some (tape_fault_seen fault)))

-- the stop of an answer, and the number of the line that it names
abbrev pub stop_of : Drove → Why
stop_of drove.Ended = why.Ended
stop_of drove.ReadFault = why.ReadFault
stop_of (drove.WriteFault n) = why.WriteFault
stop_of (drove.BadTape n fault) = why.Bad fault
stop_of (drove.NoMemory n) = why.NoMemory

abbrev pub NamesLine : Drove → ℕ → Type 0
NamesLine drove.Ended line = ⊤
NamesLine drove.ReadFault line = ⊤
NamesLine (drove.WriteFault n) line = n ≡ line
NamesLine (drove.BadTape n why) line = n ≡ line
NamesLine (drove.NoMemory n) line = n ≡ line

-- the steps of an outcome were denied, for this fault of the tape
abbrev pub IsDenied : TapeFault → Outcome → Type 0
IsDenied fault (Moved order steps sum up) = (cause : StepFault) × AreDenied order cause steps × (stop_by cause ≡ why.Bad fault)
IsDenied fault (Settling (Err cause) steps) = stop_by cause ≡ why.Bad fault
IsDenied fault (KeptUp k ticket cause) = stop_by cause ≡ why.Bad fault
IsDenied fault outcome = ⊥

-- so it is of the last of these outcomes
abbrev pub EndsDenied : TapeFault → List Outcome → Type 0
EndsDenied fault outcomes = (before : List Outcome) × (last : Outcome) × (outcomes ≡ before ++ last ∷ []) × IsDenied fault last

-- the octets are one line, or a part of one
abbrev pub IsLineAtMost : List ℕ → Type 0
IsLineAtMost octets = HasNoLf octets ⊎ ((line : List ℕ) × (octets ≡ ended line) × HasNoLf line)

-- Why the work stopped: at the line `end`, a fault of the source, the sink or the tape, a step that was refused, or as memory ran out.
abbrev pub Stops : Why → Stop → Plan → List Act → List Session → List (List ℕ) → Option (List ℕ) → List ℕ → ℕ → List Outcome → Type 0
Stops why.Ended stop plan been sessions midst left octets room outcomes = (stop ≡ BehindLine) × (midst ≡ []) × IsOrder octets End
Stops why.ReadFault stop plan been sessions midst left octets room outcomes = (stop ≡ BehindLine) × (midst ≡ []) × HasNoLf octets
Stops why.WriteFault stop plan been sessions midst left octets room outcomes = (stop ≡ SinkFailed) × (octets ≡ [])
Stops (why.Bad fault) stop plan been sessions midst left octets room outcomes =
    ((stop ≡ BehindLine) × (midst ≡ []) × StopsAt fault plan been sessions left octets room) ⊎ ((stop ≡ Denied) × (octets ≡ []) × EndsDenied fault outcomes)
Stops why.NoMemory stop plan been sessions midst left octets room outcomes = (stop ≡ OutOfMemory) × IsLineAtMost octets

-- a run line started the node
abbrev pub StartsAgain : ℕ → Outcome → Type 0
StartsAgain n (Moved (order.Start node) steps sum up) = node ≡ n
StartsAgain n outcome = ⊥

-- Whatever world the run came by, a node that is up at last and was not started again behind it has a disk that has not failed since.
abbrev pub StaysWhole : {D : Type 0} → View D → World D → List Outcome → List Awaited → World D → Type 0
StaysWhole {D} on start outcomes left last = (front back : List Outcome) (between : List Awaited) (mid : World D) → outcomes ≡ front ++ back → Makes on front [] start between mid → Makes on back between mid left last
    → (n now : ℕ) (disk disk' : D) → life_of last n ≡ Up now → ((outcome : Outcome) → Among outcome back → StartsAgain n outcome → ⊥) → disk_of_node mid n ≡ Some disk → disk_of_node last n ≡ Some disk'
    → on.faults disk' ≡ on.faults disk

-- A ticket that the world would answer as pending has a letter of its own in flight, whether its call is one of messages or one that reads.
abbrev pub HasLetters : {D : Type 0} → World D → Type 0
HasLetters world = AllHaveLetters (plan_of world).confirm world

-- Wherever a node regrouped and an epoch was formed, the members that are named are the nodes that were up: those that the acts before left so, in rising order.
abbrev pub NamesTheUp : Plan → List Act → Type 0
NamesTheUp plan acts = (before behind : List Act) (node : ℕ) (epoch : EpochId) (members : List ℕ) → acts ≡ before ++ MakesAct (order.Regroup node) (HasFormed epoch members) ∷ behind
    → members ≡ nodes_up (life_after before) plan.nodes

-- The act asks for something of the cluster that no step of it answers: the entries of the book, or a map.
abbrev pub IsIdleAct : Act → Type 0
IsIdleAct (MakesAct order.Sum event) = ⊤
IsIdleAct (MakesAct (order.Maps user) event) = ⊤
IsIdleAct act = ⊥

-- A settle was answered as settled, and behind it nothing was done.
pub record EndsSettled (acts : List Act) : Type 0 where
  pub before : List Act
  pub behind : List Act
  pub split : acts ≡ before ++ MakesAct order.Settle HasSettled ∷ behind
  pub idle : All IsIdleAct behind

-- The whole: the octets that were read begin with the lines that were handled, and the one in whose midst the work stopped, if there is one; the run of these
-- lines is this; what was written is its entries, the last line of them perhaps in part; the world made its steps and no others; the answer says why it
-- stopped; and the world that came back keeps what was promised.
pub record Drives {D : Type 0} (on : View D) (start : World D) (left0 left1 held0 held1 : Option (List ℕ)) (answer : Drove) (from : ℕ) (last : World D) : Type 0 where
  pub read : List ℕ
  pub handled : List (List ℕ)
  pub midst : List (List ℕ)
  pub others : List ℕ
  pub room : ℕ
  pub took : Consumes left0 left1 read
  pub tape : read ≡ flat_map ended (handled ++ midst) ++ others
  pub each : All HasNoLf (handled ++ midst)
  pub limit : length read + room ≡ 2 ^ 40
  pub stop : Stop
  pub acts : List (List Act)
  pub behind : List (List Act)
  pub entries : List Entry
  pub sessions : List Session
  pub outcomes : List Outcome
  pub driven : IsDriven (plan_of start) stop handled midst acts behind (map made_of outcomes) entries sessions
  pub cut : List ℕ
  pub gave : Appends held0 held1 (written_of entries ++ cut)
  pub lines : All HasNoLf (map entry_line entries)
  pub rest : HasNoLf cut
  pub awaited : List Awaited
  pub lacking : List Asked
  pub steps : Makes on outcomes [] start awaited last
  -- act by act, the steps are those that the act tells of
  pub led : AreLedTo stop (plan_of start) [] [] (flat_map (λ a. a) (acts ++ behind)) outcomes lacking driven.extra
  -- each call began at the node of its session, and each user left there
  pub at_nodes : AreAtOwnNodes sessions outcomes
  -- the nodes are as the acts left them; as memory runs out, one may have gone down with it
  pub lives : (stop ≡ OutOfMemory → ⊥) → AreLives (plan_of start) (flat_map (λ a. a) (acts ++ behind)) last
  -- where one node is all there is, none waits
  pub none_waits : AreToldOrBlind on start (handled ++ midst) → (plan_of start).nodes ≡ 1 → (plan_of start).confirm ≡ 1 → 1 ≤ (plan_of start).copies → (k : ℕ) → Among (StillWaits k) (flat_map (λ a. a) (acts ++ behind)) → ⊥
  -- whoever waits, waits for letters
  pub letters : AreToldOrBlind on start (handled ++ midst) → HasLetters last
  -- the world that came back stands for a sound one of the whole machine, so all memberships of one epoch are equal: those that nodes have installed, and those that are on their way
  pub sound : AreToldOrBlind on start (handled ++ midst) → IsWhole on (plan_of start) last
  pub one_map : AreToldOrBlind on start (handled ++ midst) → HasOneMap (state_of last)
  -- the members that a regroup names are the nodes that were up
  pub named : AreToldOrBlind on start (handled ++ midst) → NamesTheUp (plan_of start) (flat_map (λ a. a) (acts ++ behind))
  -- where the last that was done is a settle that was answered so, the world that came back is at rest, and its maps are right
  pub maps_right : stop ≡ BehindLine → AreToldOrBlind on start (handled ++ midst) → EndsSettled (flat_map (λ a. a) (acts ++ behind)) → IsAtRest (state_of last) × HasRightMaps on (state_of last)
  pub why : Stops (stop_of answer) stop (plan_of start) (flat_map (λ a. a) acts) sessions midst left1 others room outcomes
  pub number : NamesLine answer (from + length handled + 1)
  pub whole : (IsCutShort stop → ⊥) → cut ≡ []
  -- a count of faults never falls; a node that failed has its cause, and one that was never turned has the count that it had
  pub later : (n : ℕ) (disk disk' : D) → disk_of_node start n ≡ Some disk → disk_of_node last n ≡ Some disk' → on.faults disk ≤ on.faults disk'
  pub fallen : (n : ℕ) → Among n (failed_in (flat_map (λ a. a) (acts ++ behind))) → HasFailed on start last n
  pub quiet : StaysWhole on start outcomes awaited last
  -- all promises are kept by the disks and the book of the world that came back, whatever line then says why the program ended
  pub kept : AreToldOrBlind on start (handled ++ midst) → (ending : List Entry) → IsEnding ending
      → KeptIn on last (plan_of start) stop (handled ++ midst) (entries ++ ending) (acts ++ behind) (flat_map asked_by_outcome outcomes)
