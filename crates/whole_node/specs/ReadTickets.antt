-- What becomes of tickets of calls that read at a whole node, as they are asked or given up, or as a mishap befalls one.
use Rattle.std.specs.Prelude.{◌≡◌, ℕ, true, List, [], Option, Some, None, Result, Ok, Err}
use Rattle.object_model.specs.Locks.{Held, released}
use Rattle.object_model.specs.Mishaps.{MishapKind}
use Rattle.object_model.specs.Letters.{Number, Letter}
use Rattle.call_tickets.specs.declared.answer.Ask.{Ask}
use Rattle.call_tickets.specs.declared.answer.Ask.TheVariants as code
use Rattle.call_tickets.specs.declared.answer.Answer.{Answer}
use Rattle.login_model.specs.Readings.{ReadTicket}
use Rattle.login_model.specs.Progress.{ReadAsk, ask_read}
use Rattle.login_model.specs.Progress.ReadAsk.{Pending, Done}
use Rattle.login_model.specs.Rules.{read_at}
use Rattle.joint_model.specs.Joint.{read_node}
use Rattle.joint_world.specs.Rules.{ended, befallen, given_up, left}
use Rattle.node_reads.specs.Asking.{AnswersAs, done_at}
use Rattle.node_reads.specs.Readings.{listed}
use Rattle.whole_node.specs.Nodes.{joint_seen}
use Rattle.whole_node.specs.Reading.{IsUnchanged, ReadDid}
use Rattle.whole_node.specs.declared.node.WholeNode.{WholeNode}

-- the ticket of a call that reads which stands under the number
abbrev pub reading_standing : WholeNode → Number → Option ReadTicket
reading_standing node number = read_at node.mail.store.own (read_node true (joint_seen node)) (Some number)

-- Such a ticket was asked: while it is pending nothing changes, and one that is done is taken out.
abbrev pub AnswersBy : Number → ReadAsk → Option Ask → WholeNode → WholeNode → Type 0
AnswersBy number (Pending got wanted) ask old new = (ask ≡ Some (code.Pending got wanted)) × IsUnchanged old new
AnswersBy number (Done answer) ask old new =
    (given : Answer) × (ask ≡ Some (code.Done given)) × AnswersAs number answer given × ReadDid (λ tells node disk did. did ≡ ended tells node number.seq) old new []

abbrev pub AsksUnder : Number → Option ReadTicket → Option Ask → WholeNode → WholeNode → Type 0
AsksUnder number None ask old new = (ask ≡ None) × IsUnchanged old new
AsksUnder number (Some ticket) ask old new = AnswersBy number (ask_read ticket ticket.reading) ask old new

-- Memory may run out as a call ends that is done.
abbrev pub AsksRead : {E : Type 0} → Number → Result (Option Ask) E → WholeNode → WholeNode → Type 0
AsksRead number (Ok ask) old new = AsksUnder number (reading_standing old number) ask old new
AsksRead number (Err refused) old new = (done_at (reading_standing old number) ≡ true) × IsUnchanged old new

-- the locks, once that of this user was let go which the ticket holds
abbrev pub let_go_for : Option (List ℕ) → Number → Held → Held
let_go_for None number locks = locks
let_go_for (Some user) number locks = released user number locks

-- such a ticket was given up, if it stood
abbrev pub GivesUpUnder : Number → Option ReadTicket → Option Letter → WholeNode → WholeNode → Type 0
GivesUpUnder number None letter old new = (letter ≡ None) × IsUnchanged old new
GivesUpUnder number (Some ticket) letter old new = ReadDid (λ tells node disk did. did ≡ given_up tells old.mail.store.own node number ticket.reading) old new (listed letter)

abbrev pub GivesUpRead : Number → Option Letter → WholeNode → WholeNode → Type 0
GivesUpRead number letter old new = GivesUpUnder number (reading_standing old number) letter old new

-- a mishap of a letter to or from that node was noted
abbrev pub BefallsRead : MishapKind → ℕ → Number → Option Letter → WholeNode → WholeNode → Type 0
BefallsRead kind at number letter old new = ReadDid (λ tells node disk did. did ≡ befallen tells old.mail.store.own kind at node number) old new (listed letter)

-- a session of this login has ended
abbrev pub LeavesLogin : List ℕ → Number → ℕ → Option Letter → WholeNode → WholeNode → Type 0
LeavesLogin user number manager letter old new = ReadDid (λ tells node disk did. did ≡ left tells old.mail.store.own node user number manager) old new (listed letter)
