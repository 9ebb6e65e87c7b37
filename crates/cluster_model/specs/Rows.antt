-- Worked cases, letter by letter: what the rules give where the values are known. Each is a plan of n nodes with R copies and F confirmations, a user alice, and
-- mail from node 1. `TwoOfThree` and the others name the letters by their numbers.
use Rattle.std.specs.Prelude.{◌≡◌, ℕ, true, false, List, [], ◌∷◌, length, Option, Some, None}
use Rattle.std.specs.FinMap as fin
use Rattle.mail_model.specs.Identity.{Id, Stamp, Key, State}
use Rattle.mail_model.specs.Identity.Key.{Message}
use Rattle.mail_model.specs.Identity.Value.{Here, Gone}
use Rattle.mail_model.specs.Plan.{Plan}
use Rattle.mail_model.specs.Record.{Record}
use Rattle.mail_model.specs.Record.Record.{Boot, Promise, Octets, Stated, Retired}
use Rattle.object_model.specs.Sets.{all_nodes, nodes_in}
use Rattle.object_model.specs.States.{is_news}
use Rattle.object_model.specs.Letters.{Number, MapRow, Body}
use Rattle.object_model.specs.Letters.Body.{File, Filed, Strike, StrikeTold, Push, PushAck, Retire}
use Rattle.object_model.specs.Mishaps.{counted, no_mishaps}
use Rattle.object_model.specs.Mishaps.MishapKind.{FewMembers}
use Rattle.cluster_model.specs.Cluster.{Slot, slot_at}
use Rattle.cluster_model.specs.Starts.{first_epoch}
use Rattle.cluster_model.specs.Targets.{deliver_targets}
use Rattle.cluster_model.specs.Thrown.Why.{Stale, Late}
use Rattle.cluster_model.specs.Progress.NodeAnswer.{Stored, Dropped, Failed}
use Rattle.cluster_model.specs.Progress.Ask.{Pending, Done}
use Rattle.cluster_model.specs.Room.{Flight}
use Rattle.cluster_model.specs.World.{World}
use Rattle.cluster_model.specs.Steps.{NodeCall, Step, Said}
use Rattle.cluster_model.specs.Steps.NodeCall.{Deliver, Strike as StrikeCall}
use Rattle.cluster_model.specs.Steps.Step.{Begin, AskFor, GiveUp, Post, DropLetter, PushTo, Crash, Start}
use Rattle.cluster_model.specs.Steps.Said.{Begun, Asked, Heard, Thrown, Sent, NodeUp, Finished}
use Rattle.cluster_model.specs.Steps.StepOutcome.{Says}
use Rattle.cluster_model.specs.WorldLaws.{opening_world}
use Rattle.cluster_model.specs.Plain.{Line, PlaysTo, disks_say}

abbrev pub alice : List ℕ
alice = 97 ∷ 108 ∷ 105 ∷ 99 ∷ 101 ∷ []

-- `hi` and CRLF stand for the octets of each message
abbrev pub hi : List ℕ
hi = 104 ∷ 105 ∷ 13 ∷ 10 ∷ []

abbrev pub row_plan : ℕ → ℕ → ℕ → Plan
row_plan nodes copies confirm = record { nodes = nodes; copies = copies; confirm = confirm; buckets = 1; users = fin.empty; postmaster = alice }

-- the id, the ticket and the stamp of this number that node 1 draws in its first boot
abbrev pub row_id : ℕ → Id
row_id seq = record { node = 1; boot = 1; seq = seq }

abbrev pub ticket_of : ℕ → Number
ticket_of seq = record { node = 1; boot = 1; seq = seq }

abbrev pub row_stamp : ℕ → Stamp
row_stamp count = record { count = count; boot = 1; node = 1 }

-- alice's copy of the message of this number: here, and gone
abbrev pub copy_at : ℕ → Key
copy_at seq = Message alice (row_id seq)

abbrev pub here_at : ℕ → ℕ → State
here_at count targets = record { value = Here; stamp = row_stamp count; targets = targets }

abbrev pub gone_at : ℕ → ℕ → State
gone_at count targets = record { value = Gone; stamp = row_stamp count; targets = targets }

-- a letter by its number, sender, receiver, ticket and body
abbrev pub flight : ℕ → ℕ → ℕ → Option Number → Body → Flight
flight number from to ticket body = record { number = number; letter = record { from = from; to = to; epoch = first_epoch; ticket = ticket; body = body } }

-- node 1 sends the message of this number for its targets, under its ticket, and is told that it is filed
abbrev pub file : ℕ → ℕ → ℕ → ℕ → ℕ → Flight
file number to ticket seq targets = flight number 1 to (Some (ticket_of ticket)) (File (row_id seq) (row_stamp seq) targets (alice ∷ []) hi)

abbrev pub filed : ℕ → ℕ → ℕ → ℕ → Flight
filed number from ticket seq = flight number from 1 (Some (ticket_of ticket)) (Filed (row_id seq))

-- a line: a step, what it says, and the letters that it sends
abbrev pub line : Step → Said → List Flight → Line
line step said flights = record { step = step; outcome = Says said; sends = flights }

-- a message for alice is delivered at node 1: its ticket, and the letters that are sent
abbrev pub to_alice : NodeCall
to_alice = Deliver (record { sender = []; helo = []; extended = false; mailboxes = alice ∷ []; text = hi })

abbrev pub deliver : ℕ → List Flight → Line
deliver ticket flights = line (Begin 1 to_alice) (Begun (ticket_of ticket)) flights

-- alice's copy of the message of this number is deleted
abbrev pub strike : ℕ → ℕ → ℕ → List Flight → Line
strike seq targets ticket flights = line (Begin 1 (StrikeCall alice (record { id = row_id seq; targets = targets } ∷ []))) (Begun (ticket_of ticket)) flights

-- a ticket is asked: it has so many of the confirmations that it wants; its message is stored, confirmed by these nodes; its deletion is done, confirmed by node 1
abbrev pub pending : ℕ → ℕ → ℕ → Line
pending ticket got wanted = line (AskFor (ticket_of ticket)) (Asked (Pending got wanted)) []

abbrev pub stored : ℕ → ℕ → ℕ → Line
stored ticket seq confirmers = line (AskFor (ticket_of ticket)) (Asked (Done (Stored (row_id seq) confirmers))) []

abbrev pub dropped : ℕ → Line
dropped ticket = line (AskFor (ticket_of ticket)) (Asked (Done (Dropped (1 ∷ [])))) []

abbrev pub give_up : ℕ → Line
give_up ticket = line (GiveUp (ticket_of ticket)) Finished []

-- a letter is heard, and sends these; heard and kept in flight; thrown, since it is late; or dropped
abbrev pub post : ℕ → List Flight → Line
post number flights = line (Post number false) Heard flights

abbrev pub again : ℕ → List Flight → Line
again number flights = line (Post number true) Heard flights

abbrev pub late : ℕ → Line
late number = line (Post number false) (Thrown Late) []

abbrev pub drop_letter : ℕ → Line
drop_letter number = line (DropLetter number) Finished []

-- a node pushes what it owes to another
abbrev pub push_to : ℕ → ℕ → List Flight → Line
push_to from to flights = line (PushTo from to) (Sent (length flights)) flights

-- the targets of the message of this number
abbrev pub row_targets : ℕ → ℕ → ℕ → ℕ
row_targets nodes copies seq = deliver_targets copies 1 seq (nodes_in (all_nodes nodes) nodes)

-- the records of a node's disk
abbrev pub records_in : Option Slot → List Record
records_in None = []
records_in (Some slot) = slot.disk

abbrev pub disk_at : ℕ → World → List Record
disk_at n w = records_in (slot_at w.slots n)

-- A worked case: a plan, its lines from the opening on, and the world that they lead to. Who manages the users is not seen.
abbrev pub Case : ℕ → ℕ → ℕ → List MapRow → List Line → World → Type 0
Case nodes copies confirm map lines end = PlaysTo (row_plan nodes copies confirm) hi (opening_world nodes map) lines end

-- Three nodes, R = 3, F = 2. Letters 1 and 2 are the Files to nodes 2 and 3, and letter 3 is node 2's confirmation. Then the message is stored, and nodes 1 and 2 confirmed it;
-- node 3 has nothing yet.
abbrev pub TwoOfThree : Type 0
TwoOfThree = (map : List MapRow) → (end : World)
    × Case 3 3 2 map (deliver 1 (file 1 2 1 1 7 ∷ file 2 3 1 1 7 ∷ []) ∷ pending 1 1 2 ∷ post 1 (filed 3 2 1 1 ∷ []) ∷ post 3 [] ∷ stored 1 1 3 ∷ []) end
    × (disks_say (copy_at 1) end ≡ Some (here_at 1 7) ∷ Some (here_at 1 7) ∷ None ∷ [])

-- Three nodes, R = 3, F = 3. Letter 1 is heard twice, so letters 3 and 4 are both node 2's confirmation, and count once. Letter 5 is node 3's, and then the message is stored.
-- Node 2 has it once.
abbrev pub HeardTwiceCountsOnce : Type 0
HeardTwiceCountsOnce = (map : List MapRow) → (end : World)
    × Case 3 3 3 map (deliver 1 (file 1 2 1 1 7 ∷ file 2 3 1 1 7 ∷ [])
    ∷ again 1 (filed 3 2 1 1 ∷ []) ∷ again 1 (filed 4 2 1 1 ∷ []) ∷ post 3 [] ∷ post 4 [] ∷ pending 1 2 3
    ∷ post 2 (filed 5 3 1 1 ∷ []) ∷ post 5 [] ∷ stored 1 1 7 ∷ []) end
    × (disks_say (copy_at 1) end ≡ Some (here_at 1 7) ∷ Some (here_at 1 7) ∷ Some (here_at 1 7) ∷ [])
    × (disk_at 2 end ≡ Boot 1 ∷ Promise first_epoch ∷ Octets (row_id 1) hi ∷ Stated (copy_at 1) (here_at 1 7) ∷ [])

-- Three nodes, R = 2, F = 2. The first message has nodes 1 and 2 as targets and sends letter 1. It is given up. The second has nodes 2 and 3, and sends letters 2 and 3; their
-- confirmations are letters 4 and 5, and letter 5 stores it. Letter 1 comes last of all: node 2 takes its copy, and its confirmation, letter 6, is late. A third message would
-- have nodes 3 and 1.
abbrev pub TargetsMoveOn : Type 0
TargetsMoveOn = (map : List MapRow) → (end : World)
    × Case 3 2 2 map (deliver 1 (file 1 2 1 1 3 ∷ []) ∷ pending 1 1 2 ∷ give_up 1
    ∷ deliver 2 (file 2 2 2 2 6 ∷ file 3 3 2 2 6 ∷ []) ∷ pending 2 0 2
    ∷ post 2 (filed 4 2 2 2 ∷ []) ∷ post 3 (filed 5 3 2 2 ∷ []) ∷ post 4 [] ∷ pending 2 1 2 ∷ post 5 [] ∷ stored 2 2 6
    ∷ post 1 (filed 6 2 1 1 ∷ []) ∷ late 6 ∷ []) end
    × (disks_say (copy_at 1) end ≡ Some (here_at 1 3) ∷ Some (here_at 1 3) ∷ None ∷ [])
    × (disks_say (copy_at 2) end ≡ None ∷ Some (here_at 2 6) ∷ Some (here_at 2 6) ∷ [])
    × (row_targets 3 2 1 ≡ 3) × (row_targets 3 2 2 ≡ 6) × (row_targets 3 2 3 ≡ 5)

-- letters about the state of message 1, which is here at nodes 1 and 2
abbrev pub pushed : ℕ → ℕ → ℕ → Flight
pushed number from to = flight number from to None (Push (copy_at 1) (here_at 1 3) (Some hi))

abbrev pub acked : ℕ → ℕ → ℕ → Flight
acked number from to = flight number from to None (PushAck (copy_at 1) (here_at 1 3))

abbrev pub retire : ℕ → ℕ → ℕ → Flight
retire number from to = flight number from to None (Retire (copy_at 1) (here_at 1 3))

-- Two nodes, R = 2, F = 1. The message is stored at once, and letter 1 is dropped, so node 1 owes the state to node 2. The Push, letter 2, is heard three times and acknowledged
-- three times, by letters 3, 4 and 5. The first acknowledgement that is heard empties node 1's entry, which sends letter 6, the Retire; the others find no entry. Letter 6 empties
-- node 2's entry, and then nothing is owed. Both disks have the message once.
abbrev pub PushedThreeTimes : Type 0
PushedThreeTimes = (map : List MapRow) → (end : World)
    × Case 2 2 1 map (deliver 1 (file 1 2 1 1 3 ∷ []) ∷ stored 1 1 1 ∷ drop_letter 1 ∷ push_to 1 2 (pushed 2 1 2 ∷ [])
    ∷ again 2 (acked 3 2 1 ∷ []) ∷ again 2 (acked 4 2 1 ∷ []) ∷ post 2 (acked 5 2 1 ∷ [])
    ∷ post 5 (retire 6 1 2 ∷ []) ∷ post 4 [] ∷ post 3 [] ∷ post 6 [] ∷ push_to 1 2 [] ∷ push_to 2 1 [] ∷ []) end
    × (disk_at 1 end ≡ Boot 1 ∷ Promise first_epoch ∷ Octets (row_id 1) hi ∷ Stated (copy_at 1) (here_at 1 3) ∷ Retired (copy_at 1) (here_at 1 3) ∷ [])
    × (disk_at 2 end ≡ Boot 1 ∷ Promise first_epoch ∷ Octets (row_id 1) hi ∷ Stated (copy_at 1) (here_at 1 3) ∷ Retired (copy_at 1) (here_at 1 3) ∷ [])

-- the letter by which node 1 asks node 2 to delete message 1, and the one that tells that it did
abbrev pub struck : ℕ → Flight
struck number = flight number 1 2 (Some (ticket_of 2)) (Strike alice (record { id = row_id 1; stamp = row_stamp 2 } ∷ []))

abbrev pub struck_told : ℕ → Flight
struck_told number = flight number 2 1 (Some (ticket_of 2)) (StrikeTold alice (row_id 1 ∷ []))

-- Two nodes, R = 2, F = 1. A message is heard and kept in flight, deleted, and heard once more. The deletion is dropped at once, since its own node confirms it. The late Here,
-- letter 1, is confirmed and changes nothing, whatever its stamp. What answers a ticket that was answered is late.
abbrev pub LateHereChangesNothing : Type 0
LateHereChangesNothing = (map : List MapRow) → (end : World)
    × Case 2 2 1 map (deliver 1 (file 1 2 1 1 3 ∷ []) ∷ stored 1 1 1 ∷ again 1 (filed 2 2 1 1 ∷ [])
    ∷ strike 1 3 2 (struck 3 ∷ []) ∷ dropped 2 ∷ post 3 (struck_told 4 ∷ []) ∷ post 1 (filed 5 2 1 1 ∷ [])
    ∷ late 2 ∷ late 4 ∷ late 5 ∷ []) end
    × (disks_say (copy_at 1) end ≡ Some (gone_at 2 3) ∷ Some (gone_at 2 3) ∷ [])
    × (is_news (Some (gone_at 2 3)) (here_at 9 3) ≡ false)

-- Where node 2 hears of the deletion before it hears of the message at all, it does not even store the octets.
abbrev pub GoneBeforeItCame : Type 0
GoneBeforeItCame = (map : List MapRow) → (end : World)
    × Case 2 2 1 map (deliver 1 (file 1 2 1 1 3 ∷ []) ∷ strike 1 3 2 (struck 2 ∷ []) ∷ post 2 (struck_told 3 ∷ []) ∷ post 1 (filed 4 2 1 1 ∷ []) ∷ []) end
    × (disk_at 2 end ≡ Boot 1 ∷ Promise first_epoch ∷ Stated (copy_at 1) (gone_at 2 3) ∷ [])

-- the first ticket of node 2 in its second boot
abbrev pub ticket_again : Number
ticket_again = record { node = 2; boot = 2; seq = 1 }

-- Two nodes, R = 2, F = 1. Node 2 goes down and starts again, and so has no epoch: it throws letter 1 as stale, and a message that is delivered there fails at once, since too few
-- nodes are members. Its disk has both boots, and between them the promise of the epoch in which it opened.
abbrev pub StartedHasNoEpoch : Type 0
StartedHasNoEpoch = (map : List MapRow) → (end : World)
    × Case 2 2 1 map (deliver 1 (file 1 2 1 1 3 ∷ []) ∷ line (Crash 2) Finished [] ∷ line (Start 2) (NodeUp 2) [] ∷ line (Post 1 false) (Thrown Stale) []
    ∷ line (Begin 2 to_alice) (Begun ticket_again) [] ∷ line (AskFor ticket_again) (Asked (Done (Failed (counted FewMembers no_mishaps)))) [] ∷ []) end
    × (disk_at 2 end ≡ Boot 1 ∷ Promise first_epoch ∷ Boot 2 ∷ [])
