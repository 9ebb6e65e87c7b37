-- What is said of the lines of the console. The shard is number 0.
use Rattle.std.specs.Prelude.{ℕ, List, [], ◌∷◌, ◌++◌, Option, Some, None, Result, Ok, Err, codes}
use Rattle.std.specs.Fmt.{decimal}
use Rattle.std.specs.Option.{option_map}
use Rattle.mail_model.specs.Lines.{ended}
use Rattle.mail_model.specs.Identity.{EpochId}
use Rattle.object_model.specs.Sets.{nodes_in}
use Rattle.session_model.specs.Events.{formed_text, maps_text, sum_text}
use Rattle.cluster_world.specs.Outcomes.{map_seen}
use Rattle.cluster_world.specs.Sums.{sum_seen}
use Rattle.cluster_world.specs.declared.regrouping.Regroup.{Regroup}
use Rattle.cluster_world.specs.declared.regrouping.Regroup.TheVariants.{Formed, Fault}
use Rattle.cluster_world.specs.declared.settling.Settle.{Settle as ASettle}
use Rattle.cluster_world.specs.declared.settling.Settle.TheVariants as settle
use Rattle.cluster_world.specs.declared.settling.Settle.TheVariants.{Settled, NotAllUp}
use Rattle.cluster_world.specs.declared.step.Said.{Said}
use Rattle.cluster_world.specs.declared.step.Said.TheVariants.{NodeUp, Faulted}
use Rattle.cluster_world.specs.declared.fault.StepFault.{StepFault}
use Rattle.cluster_world.specs.declared.fault.StepFault.TheVariants as fault
use Rattle.shard_board.specs.declared.order.Told.{Told}
use Rattle.shard_board.specs.declared.order.Told.TheVariants as told
use Rattle.board_service.specs.declared.orders.ConsoleOrder.{ConsoleOrder}
use Rattle.board_service.specs.declared.orders.ConsoleOrder.TheVariants.{Crash, Start, Lose, Group, Settle, Maps, Sum}

-- `*0 node N WORD`
abbrev pub node_line : ℕ → List ℕ → List ℕ
node_line node word = ended (codes "*0 node " ++ decimal node ++ word)

-- `*0 node N up B`
abbrev pub up_line : ℕ → ℕ → List ℕ
up_line node boot = ended (codes "*0 node " ++ decimal node ++ codes " up " ++ decimal boot)

-- `*0 fault N`
abbrev pub fault_line : ℕ → List ℕ
fault_line node = ended (codes "*0 fault " ++ decimal node)

-- `*0 epoch C.N members a b ..`
abbrev pub epoch_line : EpochId → ℕ → List ℕ
epoch_line epoch members = ended (codes "*0 " ++ formed_text epoch (nodes_in members 16))

-- `! line N WORD`
abbrev pub refused_line : ℕ → List ℕ → List ℕ
refused_line number word = ended (codes "! line " ++ decimal number ++ 32 ∷ word)

-- the word for a refusal; none for want of memory
abbrev pub refusal_word : StepFault → Option (List ℕ)
refusal_word fault.NoSuchNode = Some (codes "NoSuchNode")
refusal_word fault.NodeLost = Some (codes "NodeLost")
refusal_word fault.NodeDown = Some (codes "NodeDown")
refusal_word fault.NodeUp = Some (codes "NodeUp")
refusal_word fault.NoSuchLetter = Some (codes "NoSuchLetter")
refusal_word fault.NoSuchTicket = Some (codes "NoSuchTicket")
refusal_word fault.NotAGroup = Some (codes "NotAGroup")
refusal_word fault.Worn = Some (codes "Worn")
refusal_word fault.NoRoom = Some (codes "NoRoom")
refusal_word (fault.NoMemory down) = None

-- a node was to start: it is up, or its disk failed; no start says anything else
abbrev pub start_said : ℕ → Said → List ℕ
start_said node (NodeUp boot) = up_line node boot
start_said node (Faulted failed) = fault_line failed
start_said node said = []

abbrev pub start_told : ℕ → Told → List ℕ
start_told node (told.Said said) = start_said node said
start_told node other = []

-- a node was to regroup: an epoch was formed, or a disk failed; no regroup says anything else
abbrev pub regroup_line : Regroup → List ℕ
regroup_line (Formed epoch members) = epoch_line epoch members
regroup_line (Fault failed) = fault_line failed

abbrev pub regroup_told : Told → List ℕ
regroup_told (told.Regrouped came) = regroup_line came
regroup_told other = []

-- the cluster was to settle: it has, or could not since this member is not live, or a disk failed; no settle says anything else
abbrev pub settle_line : ASettle → List ℕ
settle_line Settled = ended (codes "*0 settled")
settle_line (NotAllUp member) = ended (codes "*0 not-all-up " ++ decimal member)
settle_line (settle.Fault failed) = fault_line failed

abbrev pub settle_told : Told → List ℕ
settle_told (told.Settled came) = settle_line came
settle_told other = []

-- a user's map was asked for: its manager names these nodes, or nobody does; no map says anything else
abbrev pub map_line : List ℕ → Option (ℕ × ℕ) → List ℕ
map_line user map = ended (codes "*0 " ++ maps_text user (map_seen map))

abbrev pub map_told : List ℕ → Told → List ℕ
map_told user (told.Mapped map) = map_line user map
map_told user other = []

-- the entries of the book were to be counted; no count says anything else
abbrev pub sum_told : Told → List ℕ
sum_told (told.Sum sum) = ended (codes "*0 " ++ sum_text (sum_seen sum))
sum_told other = []

-- what is said of an order that was done
abbrev pub order_told : ConsoleOrder → Told → List ℕ
order_told (Crash node) came = node_line node (codes " down")
order_told (Start node) came = start_told node came
order_told (Lose node) came = node_line node (codes " lost")
order_told (Group node) came = regroup_told came
order_told Settle came = settle_told came
order_told (Maps user) came = map_told user came
order_told Sum came = sum_told came

-- what is said of an order on the line of this number; nothing where memory ran out
abbrev pub answer_to : ℕ → ConsoleOrder → Result Told StepFault → Option (List ℕ)
answer_to number order (Ok came) = Some (order_told order came)
answer_to number order (Err why) = option_map (refused_line number) (refusal_word why)
