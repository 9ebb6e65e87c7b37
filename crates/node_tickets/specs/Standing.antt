-- The tickets that stand at a node, and what a call does to them.
use Rattle.std.specs.Prelude.{◌≡◌, ℕ, Bool, true, false, ◌&&◌, nat_eq, List, [], ◌∷◌, map, Option, Some, None, if◌then◌else◌}
use Rattle.std.specs.Ordering.{nat_cmp}
use Rattle.std.specs.FinMap as fin
use Rattle.std.specs.List.{list_any}
use Rattle.object_model.specs.Sets.{has}
use Rattle.node_tickets.specs.declared.tickets.Tickets.{Tickets}
use Rattle.mail_model.specs.Identity.{Id}
use Rattle.mail_base.specs.declared.filing.CallKind.{CallKind}
use Rattle.mail_base.specs.declared.filing.Filing.{Filing}
use Rattle.call_tickets.specs.declared.answer.Ask as code
use Rattle.node_tickets.specs.Seen.{kind_seen, filing_seen, ask_seen}
use Rattle.object_model.specs.Letters.{Number, Body}
use Rattle.object_model.specs.Mishaps.{MishapKind, no_mishaps, counted}
use Rattle.cluster_model.specs.Cluster as plain
use Rattle.cluster_model.specs.Rules.{new_want, told_ticket, failed_want}
use Rattle.cluster_model.specs.Progress.{Ask, ask_of}
use Rattle.cluster_model.specs.Progress.Ask.{Pending, Done}

-- whether a call is done
abbrev pub is_done : Ask → Bool
is_done (Pending got wanted) = false
is_done (Done answer) = true

-- a ticket once a mishap was counted at it
abbrev pub failed_ticket : MishapKind → ℕ → plain.Ticket → plain.Ticket
failed_ticket kind at ticket = record ticket { wants = map (failed_want at) ticket.wants; mishaps = counted kind ticket.mishaps }

-- the finite map of the tickets that stand, by number
abbrev pub seen : List (ℕ × plain.Ticket) → plain.Tickets
seen entries = fin.from_entries {R = nat_cmp} entries

abbrev pub tickets_in : Tickets → plain.Tickets
tickets_in desk = seen desk.entries.entries

-- they are those of this node in this boot, in a plan of so many confirmations
pub record IsOf (own boot confirm : ℕ) (desk : Tickets) : Type 0 where
  pub own_is : desk.own ≡ own
  pub boot_is : desk.boot ≡ boot
  pub confirm_is : desk.confirm ≡ confirm

abbrev pub is_own : Tickets → Number → Bool
is_own desk number = nat_eq number.node desk.own && nat_eq number.boot desk.boot

-- the ticket of this number, if it stands
abbrev pub ticket_standing_here : Tickets → Number → Option plain.Ticket
ticket_standing_here desk number = if is_own desk number then fin.get (tickets_in desk) number.seq else None

-- a ticket that stands is told
abbrev pub tickets_told : Body → ℕ → ℕ → Option plain.Ticket → plain.Tickets → plain.Tickets
tickets_told body from seq None tickets = tickets
tickets_told body from seq (Some ticket) tickets = fin.insert tickets seq (told_ticket body from ticket)

-- a mishap of it is counted
abbrev pub befell_in : MishapKind → ℕ → ℕ → Option plain.Ticket → plain.Tickets → plain.Tickets
befell_in kind at seq None tickets = tickets
befell_in kind at seq (Some ticket) tickets = fin.insert tickets seq (failed_ticket kind at ticket)

-- it is taken out
abbrev pub ticket_taken_out : ℕ → Option plain.Ticket → plain.Tickets → plain.Tickets
ticket_taken_out seq None tickets = tickets
ticket_taken_out seq (Some ticket) tickets = fin.remove tickets seq

-- what an ask gives
abbrev pub asks_at : ℕ → Option plain.Ticket → Option Ask
asks_at confirm None = None
asks_at confirm (Some ticket) = Some (ask_of confirm ticket)

abbrev pub asks_seen : Option code.Ask → Option Ask
asks_seen None = None
asks_seen (Some ask) = Some (ask_seen ask)

-- a ticket that is done is taken out
abbrev pub asked_out : ℕ → ℕ → Option plain.Ticket → plain.Tickets → plain.Tickets
asked_out confirm seq None tickets = tickets
asked_out confirm seq (Some ticket) tickets = if is_done (ask_of confirm ticket) then fin.remove tickets seq else tickets

abbrev pub done_at : ℕ → Option plain.Ticket → Bool
done_at confirm None = false
done_at confirm (Some ticket) = is_done (ask_of confirm ticket)

-- whether it waits for a node
abbrev pub waits_at : Option plain.Ticket → ℕ → Bool
waits_at None m = false
waits_at (Some ticket) m = list_any (λ want. has want.waiting m) ticket.wants

-- the kind of its call, and what it wants
abbrev pub kind_of_ticket : Option plain.Ticket → Option plain.CallKind
kind_of_ticket None = None
kind_of_ticket (Some ticket) = Some ticket.kind

abbrev pub call_kind_seen : Option CallKind → Option plain.CallKind
call_kind_seen None = None
call_kind_seen (Some kind) = Some (kind_seen kind)

abbrev pub wants_at : Option plain.Ticket → List plain.Want
wants_at None = []
wants_at (Some ticket) = ticket.wants

-- the ticket of a deletion of a user's messages, each with the nodes that are asked for it
abbrev pub ticket_of_deletion : ℕ → List ℕ → List (Id × ℕ) → plain.Ticket
ticket_of_deletion own user asks = record { kind = plain.CallKind.Striking; wants = map (λ item. new_want own (plain.AskedOfNodes.Deletion user item.0) item.1) asks; mishaps = no_mishaps }

-- what a delivery filed
abbrev pub filed_seen : Option Filing → Option plain.NodeFiling
filed_seen None = None
filed_seen (Some filing) = Some (filing_seen filing)

abbrev pub filing_asked : plain.AskedOfNodes → Option plain.NodeFiling
filing_asked (plain.AskedOfNodes.Copies filing) = Some filing
filing_asked (plain.AskedOfNodes.Deletion user id) = None

abbrev pub filing_wanted : List plain.Want → Option plain.NodeFiling
filing_wanted [] = None
filing_wanted (want ∷ wants) = filing_asked want.asked

abbrev pub filing_at : Option plain.Ticket → Option plain.NodeFiling
filing_at None = None
filing_at (Some ticket) = filing_wanted ticket.wants
