-- Which step of its world each call of a desk makes.
use Rattle.std.specs.Prelude.{◌≡◌, ◌⊎◌, ℕ, false, ⊤, Some, None, Result, Ok, Err}
use Rattle.object_model.specs.Letters.{Number}
use Rattle.call_tickets.specs.declared.answer.Ask.{Ask}
use Rattle.call_tickets.specs.declared.call.Call.{Call}
use Rattle.call_tickets.specs.declared.desk.DeskFault.{DeskFault}
use Rattle.call_tickets.specs.declared.desk.DeskFault.TheVariants.{Down, Worn, NoMemory}
use Rattle.call_tickets.specs.declared.desk.DeskTicket.{DeskTicket}
use Rattle.call_tickets.specs.declared.desk.Posted.{Posted}
use Rattle.call_tickets.specs.declared.desk.Posted.TheVariants.{Did, Quiet}
use Rattle.node_store.specs.Disks.{View}
use Rattle.cluster_world.specs.Flights.{first_number}
use Rattle.cluster_world.specs.Steps.{IsStep}
use Rattle.cluster_world.specs.Worlds.{state_of}
use Rattle.cluster_world.specs.declared.world.World.{World}
use Rattle.cluster_world.specs.declared.step.Step.TheVariants as step
use Rattle.cluster_world.specs.declared.step.Said.{Said}
use Rattle.cluster_world.specs.declared.step.Said.TheVariants as said
use Rattle.cluster_world.specs.declared.fault.StepFault.{StepFault}
use Rattle.cluster_world.specs.declared.fault.StepFault.TheVariants as fault
use Rattle.solo_desk.specs.Standing.{stands_as_begun}

-- what a desk says of a step that was refused
abbrev pub refusal_of : StepFault → DeskFault
refusal_of fault.NoSuchNode = Down
refusal_of fault.NodeLost = Down
refusal_of fault.NodeDown = Down
refusal_of fault.NodeUp = Down
refusal_of fault.NoSuchLetter = Down
refusal_of fault.NoSuchTicket = Down
refusal_of fault.NotAGroup = Down
refusal_of fault.Worn = Worn
refusal_of fault.NoRoom = Worn
refusal_of (fault.NoMemory down) = NoMemory

-- The call began, and has this ticket; or its node went down as it began.
abbrev pub BeginsAs : Result Said StepFault → Number → Type 0
BeginsAs (Ok (said.Begun ticket stirs)) number = number ≡ ticket
BeginsAs (Ok (said.Faulted node)) number = ⊤
BeginsAs (Ok what) number = ⊥
BeginsAs (Err (fault.NoMemory (Some node))) number = ⊤
BeginsAs (Err why) number = ⊥

-- a call that is said to have begun was begun
abbrev pub BeginsBy : {D : Type 0} → View D → ℕ → Call → Result DeskTicket DeskFault → World D → World D → Type 0
BeginsBy on node call (Ok ticket) old new = (came : Result Said StepFault) × BeginsAs came ticket.ticket × IsStep on came (step.Begin node call) old new
BeginsBy on node call (Err why) old new = ⊤

-- and so was a Leave
abbrev pub LeavesBy : {D : Type 0} → View D → ℕ → Call → Result (Unit {0}) DeskFault → World D → World D → Type 0
LeavesBy on node call (Ok done) old new = IsStep on (Ok said.Noted) (step.Begin node call) old new
LeavesBy on node call (Err why) old new = ⊤

-- a call of which something is told was asked for
abbrev pub AsksBy : {D : Type 0} → View D → DeskTicket → Result Ask DeskFault → World D → World D → Type 0
AsksBy on ticket (Ok ask) old new = IsStep on (Ok (said.Asked ask)) (step.Ask ticket.ticket) old new
AsksBy on ticket (Err why) old new = ⊤

-- A call that stands is given up. One that stands no more is passed over, and so is one whose step is refused since it stands no more.
abbrev pub GivesUpBy : {D : Type 0} → View D → DeskTicket → Result (Unit {0}) DeskFault → World D → World D → Type 0
GivesUpBy on ticket (Ok done) old new =
    ((stands_as_begun old ticket ≡ false) × (new ≡ old))
    ⊎ IsStep on (Ok said.Done) (step.GiveUp ticket.ticket) old new
    ⊎ ((why : StepFault) × (refusal_of why ≡ Down) × IsStep on (Err why) (step.GiveUp ticket.ticket) old new)
GivesUpBy on ticket (Err why) old new = ⊤

-- The lowest letter in flight is posted. Where nothing was done, none is in flight.
abbrev pub PostsBy : {D : Type 0} → View D → Result Posted DeskFault → World D → World D → Type 0
PostsBy on (Ok Quiet) old new = (first_number (state_of old).flying.flights ≡ None) × (new ≡ old)
PostsBy on (Ok Did) old new = (letter : ℕ) × (what : Said) × (first_number (state_of old).flying.flights ≡ Some letter) × IsStep on (Ok what) (step.Post letter false) old new
PostsBy on (Err why) old new = (letter : ℕ) × (fault : StepFault) × (first_number (state_of old).flying.flights ≡ Some letter) × IsStep on (Err fault) (step.Post letter false) old new
