-- A call that fails at once.
use Rattle.std.specs.Prelude.{◌≡◌, ◌+◌, ◌||◌, ℕ, Bool, true, false, nat_lt, [], Option, Some, None, Result, Ok, Err, if◌then◌else◌}
use Rattle.object_model.specs.Letters.{Number}
use Rattle.object_model.specs.Mishaps.{Mishaps, no_mishaps, counted}
use Rattle.object_model.specs.Mishaps.MishapKind.{FewMembers, Year}
use Rattle.cluster_model.specs.Cluster.{CallKind}
use Rattle.cluster_model.specs.Rules.{refuse, new_number}
use Rattle.cluster_model.specs.Steps.{greatest}
use Rattle.node_core.specs.Nodes.{node_seen, IsAsBefore}
use Rattle.node_core.specs.Works.{IsLikewise}
use Rattle.node_core.specs.declared.fault.NodeFault.{NodeFault}
use Rattle.node_core.specs.declared.fault.NodeFault.TheVariants.{Disk, Worn, NoMemory}
use Rattle.node_core.specs.declared.outbox.Outbox.{Outbox}
use Rattle.node_core.specs.declared.node.Node.{Node}

-- the mishaps of a call with few members, and of a delivery that comes too late for a date
abbrev pub few_seen : Bool → Mishaps
few_seen few = if few then counted FewMembers no_mishaps else no_mishaps

abbrev pub late_seen : Bool → Bool → Mishaps
late_seen late few = if late then counted Year (few_seen few) else few_seen few

-- whether no ticket and so many ids and stamps can be drawn any more
abbrev pub lacks_numbers : ℕ → ℕ → Node → Bool
lacks_numbers ids stamps node = nat_lt greatest (node.numbers.calls + 1) || nat_lt greatest (node.numbers.drawn + ids) || nat_lt greatest (node.numbers.count + stamps)

-- the same of a ticket and of ids alone
abbrev pub lacks_ids : ℕ → Node → Bool
lacks_ids ids node = nat_lt greatest (node.numbers.calls + 1) || nat_lt greatest (node.numbers.drawn + ids)

-- the call has its ticket, and nothing else is changed
pub record CallRefused (kind : CallKind) (mishaps : Mishaps) (ids : ℕ) (ticket : Option Number) (outbox : Outbox) (old new : Node) : Type 0 where
  pub fresh : lacks_ids ids old ≡ false
  pub ticket_is : ticket ≡ Some (new_number old.store.own (node_seen old))
  pub none_thrown : outbox.thrown ≡ None
  pub none_sent : outbox.letters ≡ []
  pub seen : (refuse kind mishaps ids (node_seen old) []).node ≡ node_seen new
  pub store : new.store ≡ old.store
  pub like : IsLikewise old new

abbrev pub RefusesCall : CallKind → Mishaps → ℕ → Result (Option Number × Outbox) NodeFault → Node → Node → Type 0
RefusesCall kind mishaps ids (Ok begun) old new = CallRefused kind mishaps ids begun.0 begun.1 old new
RefusesCall kind mishaps ids (Err Disk) old new = ⊥
RefusesCall kind mishaps ids (Err Worn) old new = (lacks_ids ids old ≡ true) × IsAsBefore old new
RefusesCall kind mishaps ids (Err (NoMemory true)) old new = ⊥
RefusesCall kind mishaps ids (Err (NoMemory false)) old new = IsAsBefore old new
