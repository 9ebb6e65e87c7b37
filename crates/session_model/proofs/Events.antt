-- What an event of the cluster writes is no line of a session. The user whom it may name has a name.
use Rattle.std.proofs.Common.{◌≡◌, ℕ, Bool, true, false, not, List, [], None, refl, sym, subst}
use Rattle.std.specs.Prelude.{⊤, is_some}
use Rattle.std.specs.FinMap as map
use Rattle.std.proofs.lemmas.Bool.{and_parts}
use Rattle.std.proofs.lemmas.Option.{none-some}
use Rattle.mail_model.specs.Names.{is_name}
use Rattle.mail_model.specs.Plan.{Plan, is_user}
use Rattle.mail_model.specs.Site.TapeFault.{BadLine}
use Rattle.mail_model.specs.Shown.{lines_to}
use Rattle.mail_model.specs.Tape.{Protocol, ClusterOrder}
use Rattle.mail_model.specs.Tape.ClusterOrder.{Maps}
use Rattle.mail_model.specs.Stored.{stored_sessions}
use Rattle.session_model.specs.Events.{ClusterEvent, NodeLife, IsEventOf, event_entries}
use Rattle.session_model.specs.Events.ClusterEvent.{WentDown, CameUp, WasLost, WasHeard, WasThrown, WasDropped, HasFlowed, HasSent, HasWidened, HasGrouped, HasFormed, HasSettled, WasAbsent, HasMapped, HasTicked, HasSummed, HasFaulted}
use Rattle.session_model.specs.Run.{cluster_refusal, fault_if}

pub event_says_none : (k : ℕ) (event : ClusterEvent) → lines_to k (event_entries event) ≡ []
event_says_none k (WentDown node) = refl
event_says_none k (CameUp node boot) = refl
event_says_none k (WasLost node) = refl
event_says_none k (WasHeard letter) = refl
event_says_none k (WasThrown letter why) = refl
event_says_none k (WasDropped letter) = refl
event_says_none k HasFlowed = refl
event_says_none k (HasSent count) = refl
event_says_none k (HasWidened did) = refl
event_says_none k (HasGrouped epoch) = refl
event_says_none k (HasFormed epoch members) = refl
event_says_none k HasSettled = refl
event_says_none k (WasAbsent member) = refl
event_says_none k (HasMapped user told) = refl
event_says_none k HasTicked = refl
event_says_none k (HasSummed sum) = refl
event_says_none k (HasFaulted node) = refl

-- nor one that a message is stored
pub event_stores_none : (kinds : List (Protocol × ℕ)) (event : ClusterEvent) → stored_sessions kinds (event_entries event) ≡ []
event_stores_none kinds (WentDown node) = refl
event_stores_none kinds (CameUp node boot) = refl
event_stores_none kinds (WasLost node) = refl
event_stores_none kinds (WasHeard letter) = refl
event_stores_none kinds (WasThrown letter why) = refl
event_stores_none kinds (WasDropped letter) = refl
event_stores_none kinds HasFlowed = refl
event_stores_none kinds (HasSent count) = refl
event_stores_none kinds (HasWidened did) = refl
event_stores_none kinds (HasGrouped epoch) = refl
event_stores_none kinds (HasFormed epoch members) = refl
event_stores_none kinds HasSettled = refl
event_stores_none kinds (WasAbsent member) = refl
event_stores_none kinds (HasMapped user told) = refl
event_stores_none kinds HasTicked = refl
event_stores_none kinds (HasSummed sum) = refl
event_stores_none kinds (HasFaulted node) = refl

-- the user whose map is told, if one is, has a name
abbrev pub NamesUser : ClusterEvent → Type 0
NamesUser (HasMapped user told) = is_name user ≡ true
NamesUser event = ⊤

-- what was not refused as a bad line
not_bad : (so : Bool) → fault_if (not so) BadLine ≡ None → so ≡ true
not_bad true none = refl
not_bad false none = absurd (none-some BadLine (sym none))

pub event_names : (plan : Plan) (lives : ℕ → NodeLife) (order : ClusterOrder) (event : ClusterEvent) → cluster_refusal plan lives order ≡ None → IsEventOf plan lives order event → NamesUser event
event_names plan lives (Maps user) (HasMapped name told) accepted is =
    subst (λ (u : List ℕ). is_name u ≡ true) (sym is) (and_parts (is_name user) (is_some (map.get plan.users user)) (not_bad (is_user plan user) accepted)).0
event_names plan lives order (HasMapped name told) accepted is = absurd is
event_names plan lives order event accepted is = tt
