-- What holds of a ticket from its beginning to its answer.
use Rattle.std.specs.Prelude.{◌≡◌, ◌≢◌, ◌<◌, ◌≤◌, ℕ, true, List, [], ◌∷◌, length, map, bit_or, Some, None}
use Rattle.object_model.specs.Lists.{Among}
use Rattle.object_model.specs.Sets.{has, count_in, nodes_in}
use Rattle.object_model.specs.Letters.{Body}
use Rattle.object_model.specs.Mishaps.{MishapKind, Mishaps, no_mishaps, counted, mishaps_of}
use Rattle.cluster_model.specs.Cluster.{NodeFiling, Want, CallKind, Ticket}
use Rattle.cluster_model.specs.Cluster.AskedOfNodes.{Copies, Deletion}
use Rattle.cluster_model.specs.Cluster.CallKind.{Delivering, Striking}
use Rattle.cluster_model.specs.Rules.{StrikeItem, new_want, told_ticket, failed_want}
use Rattle.cluster_model.specs.Targets.{deliver_targets, strike_asks}
use Rattle.cluster_model.specs.Progress.{answer_once_confirmed, ask_of}
use Rattle.cluster_model.specs.Progress.Ask.{Done}
use Rattle.cluster_model.specs.Progress.NodeAnswer.{Failed}

-- all nodes that something asks
abbrev pub all_asked : Want → ℕ
all_asked want = bit_or want.confirmed (bit_or want.waiting want.failed)

-- Each want asks F nodes at least, and no node failed, nor did the call fail at once, without a mishap.
pub record IsFair (confirm : ℕ) (ticket : Ticket) : Type 0 where
  pub enough : (want : Want) → Among want ticket.wants → confirm ≤ count_in (all_asked want)
  pub caused : (want : Want) → Among want ticket.wants → (m : ℕ) → has want.failed m ≡ true → 0 < mishaps_of ticket.mishaps
  pub at_once : ticket.wants ≡ [] → 0 < mishaps_of ticket.mishaps

-- the ticket of a delivery to these targets, and of the deletion of these items
abbrev pub delivery_ticket : ℕ → NodeFiling → ℕ → Ticket
delivery_ticket own filing targets = record { kind = Delivering; wants = new_want own (Copies filing) targets ∷ []; mishaps = no_mishaps }

abbrev pub deletion_ticket : ℕ → List ℕ → List StrikeItem → Ticket
deletion_ticket own user items = record { kind = Striking; wants = map (λ item. new_want own (Deletion user item.mark.id) item.asks) items; mishaps = no_mishaps }

-- Where the epoch has F members, the targets of a delivery are F at least, and so are those that a deletion asks for each item.
abbrev pub TargetsAreEnough : Type 0
TargetsAreEnough = (confirm copies own mask nodes : ℕ) → confirm ≤ copies → confirm ≤ length (nodes_in mask nodes)
    → ((seq : ℕ) → confirm ≤ count_in (deliver_targets copies own seq (nodes_in mask nodes)))
    × ((listed : ℕ) → confirm ≤ count_in (strike_asks confirm own listed (nodes_in mask nodes)))

-- so their tickets begin fair,
abbrev pub TicketsBeginFair : Type 0
TicketsBeginFair = (confirm own : ℕ)
    → ((filing : NodeFiling) (targets : ℕ) → confirm ≤ count_in targets → IsFair confirm (delivery_ticket own filing targets))
    × ((user : List ℕ) (items : List StrikeItem) → items ≢ [] → ((item : StrikeItem) → Among item items → confirm ≤ count_in item.asks) → IsFair confirm (deletion_ticket own user items))
    × ((kind : CallKind) (mishaps : Mishaps) → 0 < mishaps_of mishaps → IsFair confirm (record { kind = kind; wants = []; mishaps = mishaps }))

-- and stay so with each answer that is heard and each mishap that is noted.
abbrev pub TicketsStayFair : Type 0
TicketsStayFair = (confirm : ℕ) (ticket : Ticket) → IsFair confirm ticket
    → ((body : Body) (from : ℕ) → IsFair confirm (told_ticket body from ticket))
    × ((kind : MishapKind) (at : ℕ) → IsFair confirm (record ticket { wants = map (failed_want at) ticket.wants; mishaps = counted kind ticket.mishaps }))

-- A call fails only where it had a mishap.
abbrev pub FailedHasCause : Type 0
FailedHasCause = (confirm : ℕ) (ticket : Ticket) (mishaps : Mishaps) → IsFair confirm ticket → ask_of confirm ticket ≡ Done (Failed mishaps) → 0 < mishaps_of mishaps

-- Where no node failed and all have answered, the call is done, and has not failed.
abbrev pub AllHeardIsDone : Type 0
AllHeardIsDone = (confirm : ℕ) (ticket : Ticket) (want : Want) (wants : List Want) → IsFair confirm ticket → ticket.wants ≡ want ∷ wants
    → ((one : Want) → Among one ticket.wants → (one.waiting ≡ 0) × (one.failed ≡ 0)) → ask_of confirm ticket ≡ Done (answer_once_confirmed (want ∷ wants) want want.asked)
