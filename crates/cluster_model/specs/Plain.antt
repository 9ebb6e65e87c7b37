-- A plain program of the rules: what each step makes of a world and what it says, where no disk fails and memory is ample. It is slow, and made to be read and to compute. It does
-- without the calls that read, and no epoch is formed after the first.
use Rattle.std.specs.Prelude.{◌≡◌, ℕ, ◌+◌, Bool, true, false, nat_eq, nat_lt, List, [], ◌∷◌, ◌++◌, length, map, Option, Some, None, if◌then◌else◌}
use Rattle.std.specs.List.{filter}
use Rattle.mail_model.specs.Identity.{Key, State}
use Rattle.mail_model.specs.Identity.Key.{Message}
use Rattle.mail_model.specs.Plan.{Plan}
use Rattle.mail_model.specs.Record.{Record}
use Rattle.mail_model.specs.Record.Record.{Boot}
use Rattle.mail_model.specs.Book.{BookEntry}
use Rattle.mail_model.specs.Book.BookEntry.{WentDown, CameUp, WasLost}
use Rattle.object_model.specs.Said.{said as said_of}
use Rattle.object_model.specs.Letters.{Number, Letter}
use Rattle.object_model.specs.Mishaps.MishapKind.{Dropped, Stale as StaleKind, Down as DownKind}
use Rattle.cluster_model.specs.Cluster.{CallKind, Ticket, Node, Life, Slot, slot_at, with_slot}
use Rattle.cluster_model.specs.Cluster.CallKind.{Delivering, Striking}
use Rattle.cluster_model.specs.Cluster.Life.{Up, Down, Lost}
use Rattle.cluster_model.specs.Claims.{boot_of}
use Rattle.cluster_model.specs.Rules.{ticket_at, push, can_widen, widen, end_ticket, refuse, new_number}
use Rattle.cluster_model.specs.Starts.{started}
use Rattle.cluster_model.specs.Thrown.{Why, thrown_by}
use Rattle.cluster_model.specs.Thrown.Why.{WhileDown, Late}
use Rattle.cluster_model.specs.Progress.{Ask, ask_of, entries_with}
use Rattle.cluster_model.specs.Progress.Ask.{Pending, Done}
use Rattle.cluster_model.specs.Deeds.{slot_up, hear}
use Rattle.cluster_model.specs.Room.{Flight, keys_pushed}
use Rattle.cluster_model.specs.World.{World, missed}
use Rattle.cluster_model.specs.Steps.{NodeCall, Step, Said, StepFault, StepOutcome, mishaps_of_call, fails_at_once, ids_drawn, letter_at, greatest_boot, step_fault}
use Rattle.cluster_model.specs.Steps.NodeCall.{Deliver, Login, Fetch, Strike, Leave}
use Rattle.cluster_model.specs.Steps.Step.{Begin, AskFor, GiveUp, Post, DropLetter, PushTo, Widen, Form, Crash, Start, Lose, Tick}
use Rattle.cluster_model.specs.Steps.Said.{Begun, Asked, Heard, Thrown, Sent, Widened, NodeUp, Finished}
use Rattle.cluster_model.specs.Steps.StepFault.{NoSuchNode, NodeDown, NoSuchLetter, NoSuchTicket, Worn}
use Rattle.cluster_model.specs.Steps.StepOutcome.{Says, Refused, NoMemory}
use Rattle.cluster_model.specs.Makes.{after, with_struck, begun_by}

-- what a step comes to, and the world after it
pub record StepRan : Type 0 where
  pub outcome : StepOutcome
  pub world : World

abbrev pub says : Said → World → StepRan
says said w = record { outcome = Says said; world = w }

-- nothing is done
abbrev pub refuses : StepFault → World → StepRan
refuses fault w = record { outcome = Refused fault; world = w }

-- What to do with the node that a step names, and with its disk. Whether there is one is seen before.
abbrev pub in_life : World → List Record → (Node → List Record → StepRan) → Life → StepRan
in_life w disk act (Up node) = act node disk
in_life w disk act (Down pending) = refuses NodeDown w
in_life w disk act Lost = refuses NodeDown w

abbrev pub in_slot : World → (Node → List Record → StepRan) → Option Slot → StepRan
in_slot w act None = refuses NoSuchNode w
in_slot w act (Some slot) = in_life w slot.disk act slot.life

abbrev pub at_node : World → ℕ → (Node → List Record → StepRan) → StepRan
at_node w own act = in_slot w act (slot_at w.slots own)

-- memory runs out before anything is done
abbrev pub runs_short : World → StepRan
runs_short w = record { outcome = NoMemory None; world = w }

-- a call begins that has a ticket of this kind, with the octets that it files
abbrev pub begins_as : CallKind → Plan → List ℕ → World → ℕ → NodeCall → Node → List Record → StepRan
begins_as kind plan octets w own call node disk =
    if fails_at_once plan w.seconds node call
    then says (Begun (new_number own node)) (after (with_struck w call) own (refuse kind (mishaps_of_call plan w.seconds node call) (ids_drawn call) node disk))
    else says (Begun (new_number own node)) (after (with_struck w call) own (begun_by plan w own node disk call octets))

abbrev pub begins : Plan → List ℕ → World → ℕ → NodeCall → Node → List Record → StepRan
begins plan octets w own (Deliver mail) node disk = begins_as Delivering plan octets w own (Deliver mail) node disk
begins plan octets w own (Strike user items) node disk = begins_as Striking plan octets w own (Strike user items) node disk
begins plan octets w own (Leave user login manager) node disk = runs_short w
begins plan octets w own (Login user proof) node disk = runs_short w
begins plan octets w own (Fetch user id from most holders) node disk = runs_short w

-- a ticket is asked
abbrev pub answered_ticket : World → Number → Node → List Record → Ticket → Ask → StepRan
answered_ticket w number node disk ticket (Pending got wanted) = says (Asked (Pending got wanted)) w
answered_ticket w number node disk ticket (Done answer) = says (Asked (Done answer)) (record w {
  slots = with_slot w.slots number.node (slot_up (end_ticket number.seq node disk).node disk);
  book = w.book ++ entries_with answer ticket;
})

abbrev pub asks : Plan → World → Number → Node → List Record → Option Ticket → StepRan
asks plan w number node disk None = refuses NoSuchTicket w
asks plan w number node disk (Some ticket) = answered_ticket w number node disk ticket (ask_of plan.confirm ticket)

-- a ticket is given up
abbrev pub gives_up : World → Number → Node → List Record → Option Ticket → StepRan
gives_up w number node disk None = refuses NoSuchTicket w
gives_up w number node disk (Some ticket) = says Finished (after w number.node (end_ticket number.seq node disk))

-- the letters in flight without the first of this number
abbrev pub without_letter : ℕ → List Flight → List Flight
without_letter number [] = []
without_letter number (flight ∷ flying) = if nat_eq flight.number number then flying else flight ∷ without_letter number flying

abbrev pub kept : ℕ → Bool → List Flight → List Flight
kept number true flying = flying
kept number false flying = without_letter number flying

-- a letter is handed to its receiver, and heard or thrown
abbrev pub handed : Plan → World → ℕ → Bool → Letter → Node → List Record → Option Why → StepRan
handed plan w number keep letter node disk None =
    says Heard (after (record w { flying = kept number keep w.flying }) letter.to (hear letter.to plan.nodes node disk letter))
handed plan w number keep letter node disk (Some Late) = says (Thrown Late) (record w { flying = kept number keep w.flying })
handed plan w number keep letter node disk (Some why) = says (Thrown why) (record w { slots = missed StaleKind w.slots letter; flying = kept number keep w.flying })

abbrev pub to_nobody : World → ℕ → Bool → Letter → StepRan
to_nobody w number keep letter = says (Thrown WhileDown) (record w { slots = missed DownKind w.slots letter; flying = kept number keep w.flying })

abbrev pub to_life : Plan → World → ℕ → Bool → Letter → List Record → Life → StepRan
to_life plan w number keep letter disk (Up node) = handed plan w number keep letter node disk (thrown_by letter.to node letter)
to_life plan w number keep letter disk life = to_nobody w number keep letter

abbrev pub to_slot : Plan → World → ℕ → Bool → Letter → Option Slot → StepRan
to_slot plan w number keep letter None = to_nobody w number keep letter
to_slot plan w number keep letter (Some slot) = to_life plan w number keep letter slot.disk slot.life

abbrev pub posts : Plan → World → ℕ → Bool → Option Letter → StepRan
posts plan w number keep None = refuses NoSuchLetter w
posts plan w number keep (Some letter) = to_slot plan w number keep letter (slot_at w.slots letter.to)

-- a letter is dropped
abbrev pub drops : World → ℕ → Option Letter → StepRan
drops w number None = refuses NoSuchLetter w
drops w number (Some letter) = says Finished (record w { slots = missed Dropped w.slots letter; flying = without_letter number w.flying })

-- a node pushes to another
abbrev pub pushes : World → ℕ → ℕ → Node → List Record → StepRan
pushes w own to node disk =
    let did = push own to (keys_pushed w.flying own to node disk) node disk in
    says (Sent (length did.out)) (after w own did)

-- a node goes down or is lost
abbrev pub falls : World → ℕ → Life → BookEntry → Option Slot → StepRan
falls w n life entry None = refuses NoSuchNode w
falls w n life entry (Some slot) = says Finished (record w { slots = with_slot w.slots n (record slot { life = life }); book = w.book ++ entry ∷ [] })

-- a node starts, and nothing was pending
abbrev pub starts : World → ℕ → Option Slot → StepRan
starts w n None = refuses NoSuchNode w
starts w n (Some slot) =
    let boot = boot_of slot.disk + 1 in
    let records = slot.disk ++ Boot boot ∷ [] in
    if nat_lt greatest_boot boot then refuses Worn w
    else says (NodeUp boot) (record w { slots = with_slot w.slots n (slot_up (started n None boot records) records); book = w.book ++ CameUp n boot ∷ [] })

-- what a step does that is not refused
abbrev pub does : Plan → List ℕ → World → Step → StepRan
does plan octets w (Begin node call) = at_node w node (begins plan octets w node call)
does plan octets w (AskFor number) = at_node w number.node (λ node disk. asks plan w number node disk (ticket_at number.node node (Some number)))
does plan octets w (GiveUp number) = at_node w number.node (λ node disk. gives_up w number node disk (ticket_at number.node node (Some number)))
does plan octets w (Post number keep) = posts plan w number keep (letter_at number w.flying)
does plan octets w (DropLetter number) = drops w number (letter_at number w.flying)
does plan octets w (PushTo from to) = at_node w from (pushes w from to)
does plan octets w (Widen at user id to) =
    at_node w at (λ node disk. says (Widened (can_widen to (said_of (Message user id) disk))) (after w at (widen at to (Message user id) node disk)))
does plan octets w (Form node) = runs_short w
does plan octets w (Crash node) = falls w node (Down []) (WentDown node) (slot_at w.slots node)
does plan octets w (Start node) = starts w node (slot_at w.slots node)
does plan octets w (Lose node) = falls w node Lost (WasLost node) (slot_at w.slots node)
does plan octets w (Tick seconds) = says Finished (record w { seconds = seconds })

abbrev pub unless_refused : Plan → List ℕ → World → Step → Option StepFault → StepRan
unless_refused plan octets w step None = does plan octets w step
unless_refused plan octets w step (Some fault) = refuses fault w

-- a step is made, or refused
abbrev pub ran : Plan → List ℕ → World → Step → StepRan
ran plan octets w step = unless_refused plan octets w step (step_fault plan step w)

-- the letters that were sent since
abbrev pub sent_since : ℕ → World → List Flight
sent_since number w = filter (λ flight. nat_lt number flight.number) w.flying

-- a line of a worked case: a step, what comes of it, and the letters that it sends
pub record Line : Type 0 where
  pub step : Step
  pub outcome : StepOutcome
  pub sends : List Flight

-- what it does with a step, and to which world that leads
pub record Goes (plan : Plan) (octets : List ℕ) (w : World) (step : Step) (outcome : StepOutcome) (next : World) : Type 0 where
  pub is : ran plan octets w step ≡ record { outcome = outcome; world = next }

-- These lines, one after another, are what the program does with a world, and lead to another.
abbrev pub PlaysTo : Plan → List ℕ → World → List Line → World → Type 0
PlaysTo plan octets w [] end = w ≡ end
PlaysTo plan octets w (line ∷ lines) end =
    (next : World) × Goes plan octets w line.step line.outcome next × (sent_since w.sent next ≡ line.sends) × PlaysTo plan octets next lines end

-- what each disk says of an object in the end
abbrev pub disks_say : Key → World → List (Option State)
disks_say key w = map (λ slot. said_of key slot.disk) w.slots
