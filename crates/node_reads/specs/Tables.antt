-- The tickets of calls that read, as the machine's node has them.
use Rattle.std.specs.Prelude.{◌≡◌, ℕ, ◌+◌, ◌&&◌, Bool, nat_eq, List, Option, Some, None, if◌then◌else◌}
use Rattle.std.specs.Ordering.{nat_cmp}
use Rattle.std.specs.FinMap as fin
use Rattle.mail_model.specs.Identity.{EpochId}
use Rattle.object_model.specs.Letters.{Number, ToldItem, Body, Letter}
use Rattle.object_model.specs.Mishaps.{MishapKind}
use Rattle.call_tickets.specs.declared.answer.Ask.{Ask}
use Rattle.call_tickets.specs.declared.answer.Ask.TheVariants as code
use Rattle.call_tickets.specs.declared.answer.Answer.{Answer}
use Rattle.login_model.specs.Readings.{ReadTicket, Reads}
use Rattle.login_model.specs.Progress.{ReadAsk, ask_read}
use Rattle.login_model.specs.Progress.ReadAsk.{Pending, Done}
use Rattle.login_model.specs.Cluster.{Node}
use Rattle.login_model.specs.Rules.{ReadDid, Under, Reaction, idle, under, next_number, begin_read, hear_told, mishap, end_read, give_up_read, read_at}
use Rattle.node_reads.specs.Asking.{AnswersAs}
use Rattle.node_reads.specs.declared.reads.NodeReads.{NodeReads}

-- the finite map of the tickets that stand, by number
abbrev pub seen : List (ℕ × ReadTicket) → Reads
seen entries = fin.from_entries {R = nat_cmp} entries

abbrev pub reads_in : NodeReads → Reads
reads_in reads = seen reads.entries.entries

-- they are those of this node in this boot
pub record IsOf (own boot : ℕ) (reads : NodeReads) : Type 0 where
  pub own_is : reads.own ≡ own
  pub boot_is : reads.boot ≡ boot

abbrev pub is_own : NodeReads → Number → Bool
is_own reads number = nat_eq number.node reads.own && nat_eq number.boot reads.boot

-- the ticket of this number, if it stands
abbrev pub ticket_at : NodeReads → Number → Option ReadTicket
ticket_at reads number = if is_own reads number then fin.get (reads_in reads) number.seq else None

-- the machine's node that has these tickets, and all else as this one
abbrev pub node_with : NodeReads → Node → Node
node_with reads node = record node { boot = reads.boot; reads = reads_in reads }

-- what is left of that node, and the letters that it sends
abbrev pub left_by : NodeReads → Node → List Letter → Reaction
left_by new node letters = record { node = node_with new node; out = letters }

-- A ticket begins under this number, by the rule, at a node that drew the number before it.
pub record Begins (epoch : EpochId) (seq : ℕ) (rule : Under → ReadDid) (letters : List Letter) (old new : NodeReads) : Type 0 where
  pub did : (node : Node) → node.epoch ≡ epoch → node.calls + 1 ≡ seq
      → begin_read old.own (node_with old node) (rule (under old.own (node_with old node) (next_number old.own (node_with old node)))) ≡ left_by new (record node { calls = seq }) letters

-- A letter of this body, from that node, answers the ticket.
pub record Hears (epoch : EpochId) (ticket : Number) (from : ℕ) (body : Body) (mine : List ToldItem) (letters : List Letter) (old new : NodeReads) : Type 0 where
  pub did : (node : Node) (letter : Letter) → node.epoch ≡ epoch → letter.ticket ≡ Some ticket → letter.from ≡ from → letter.body ≡ body
      → hear_told old.own (node_with old node) letter mine ≡ left_by new node letters

-- A mishap of a letter to or from that node is noted at the ticket.
pub record Befalls (epoch : EpochId) (ticket : Number) (kind : MishapKind) (at : ℕ) (letters : List Letter) (old new : NodeReads) : Type 0 where
  pub did : (node : Node) → node.epoch ≡ epoch → mishap old.own kind at (node_with old node) ticket ≡ left_by new node letters

-- a ticket that stands is given up
abbrev pub given_up_at : ℕ → Node → Number → Option ReadTicket → Reaction
given_up_at own node number None = idle node
given_up_at own node number (Some ticket) = give_up_read own node number ticket.reading

pub record GivesUp (epoch : EpochId) (ticket : Number) (letters : List Letter) (old new : NodeReads) : Type 0 where
  pub did : (node : Node) → node.epoch ≡ epoch → given_up_at old.own (node_with old node) ticket (read_at old.own (node_with old node) (Some ticket)) ≡ left_by new node letters

-- A ticket is asked: while it is pending nothing changes, and one that is done is taken out.
abbrev pub AnswersFrom : Node → Number → ReadAsk → Option Ask → Node → Type 0
AnswersFrom node number (Pending got wanted) ask new = (ask ≡ Some (code.Pending got wanted)) × (new ≡ node)
AnswersFrom node number (Done answer) ask new = (given : Answer) × (ask ≡ Some (code.Done given)) × AnswersAs number answer given × (new ≡ (end_read node number.seq).node)

abbrev pub AskedAt : Node → Number → Option ReadTicket → Option Ask → Node → Type 0
AskedAt node number None ask new = (ask ≡ None) × (new ≡ node)
AskedAt node number (Some ticket) ask new = AnswersFrom node number (ask_read ticket ticket.reading) ask new

pub record Asks (ticket : Number) (ask : Option Ask) (old new : NodeReads) : Type 0 where
  pub did : (node : Node) → AskedAt (node_with old node) ticket (read_at old.own (node_with old node) (Some ticket)) ask (node_with new node)
