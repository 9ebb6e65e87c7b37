-- What a node does for messages leaves its epoch alone, and sends letters of messages alone. These fit whoever hears letters of both kinds.
use Rattle.std.proofs.Common.{◌≡◌, ℕ, zero, suc, Bool, true, false, not, ◌&&◌, List, [], ◌∷◌, ◌++◌, map, Option, Some, None, refl, subst, nat_eq, if◌then◌else◌}
use Rattle.std.specs.Prelude.{All}
use Rattle.std.specs.FinMap as fin
use Rattle.std.proofs.lemmas.List.Elements.{All-nil, All-cons, All-head, All-tail, All-append}
use Rattle.mail_model.specs.Identity.{EpochId, Key, State}
use Rattle.mail_model.specs.Plan.{Plan}
use Rattle.mail_model.specs.Listing.{is_here}
use Rattle.mail_model.specs.Record.{Record}
use Rattle.mail_model.specs.Record.Record.{Retired as RetiredRecord}
use Rattle.object_model.specs.Sets.{has, with_node}
use Rattle.object_model.specs.States.{is_same_state}
use Rattle.object_model.specs.Said.{said}
use Rattle.object_model.specs.UpdateLog.{Logged, cleared}
use Rattle.object_model.specs.Letters.{Number, DeletionMark, Body, Letter}
use Rattle.object_model.specs.Letters.Body.{File, Filed, LoginAsk, LoginTold, ListAsk, ListTold, FetchAsk, FetchTold, Strike, StrikeTold, Unlock, Push, PushAck, Retire, Group, Join, Install, Report, ReportAck}
use Rattle.cluster_model.specs.Cluster.{Ticket, Node, epoch_of}
use Rattle.cluster_model.specs.Store.{Store, Update, take_all}
use Rattle.cluster_model.specs.Rules.{Reaction, StrikeItem, idle, store_of, with_updates, answer, receivers, letters_to, shrunk, acked_at, retired_at, told_at, ticket_at, pushed_octets, push_of, push, widened, widen, dated, marks_for, new_number, strike_to, strikes_to}
use Rattle.cluster_model.specs.Deeds.{hear, hear_body}
use Rattle.cluster_model.specs.Thrown.{with_stamps}
use Rattle.cluster_model.specs.Makes.{begun_by, targets_for, asked_for}
use Rattle.cluster_model.specs.Steps.{NodeCall}
use Rattle.cluster_model.specs.Steps.NodeCall.{Deliver, Login, Fetch, Strike as StrikeCall, Leave}
use Rattle.cluster_model.specs.World.{World}
use Rattle.node_core.specs.Pushing.{untold_body, untold, keys_within, pushed_by}
use Rattle.node_maps.specs.Hearing.{TellsOwnRow}
use Rattle.whole_node.specs.Hearing.{NamesANode, FitsMaps}

-- a rule of messages
pub record IsOfMail (node : Node) (did : Reaction) : Type 0 where
  pub epoch : did.node.installed ≡ node.installed
  pub fits : All FitsMaps did.out

none : All FitsMaps []
none = All-nil FitsMaps

one : (letter : Letter) → FitsMaps letter → All FitsMaps (letter ∷ [])
one letter fits = All-cons FitsMaps letter [] fits none

still : (node after : Node) (disk : List Record) → after.installed ≡ node.installed → IsOfMail node (record { node = after; disk = disk; out = [] })
still node after disk same = record { epoch = same; fits = none }

to_all : (own : ℕ) (epoch : EpochId) (ticket : Option Number) (to : List ℕ) (body : Body) → ((m : ℕ) → FitsMaps (record { from = own; to = m; epoch = epoch; ticket = ticket; body = body }))
    → All FitsMaps (letters_to own epoch ticket to body)
to_all own epoch ticket [] body fits = none
to_all own epoch ticket (m ∷ ms) body fits =
    All-cons FitsMaps (record { from = own; to = m; epoch = epoch; ticket = ticket; body = body }) (letters_to own epoch ticket ms body) (fits m) (to_all own epoch ticket ms body fits)

module _ (own nodes : ℕ) (node : Node) (disk : List Record) where
  shrinks : (key : Key) (entry : Logged) → IsOfMail node (shrunk own nodes node disk key entry)
  shrinks key entry = by (nat_eq entry.remaining 0)
    where
      by : (b : Bool) → IsOfMail node (if b
          then record { node = record node { log = fin.remove node.log key }; disk = disk ++ RetiredRecord key entry.state ∷ []; out = letters_to own (epoch_of node) None (receivers own entry.state.targets nodes) (Retire key entry.state) }
          else record { node = record node { log = fin.insert node.log key entry }; disk = disk; out = [] })
      by true = record { epoch = refl; fits = to_all own (epoch_of node) None (receivers own entry.state.targets nodes) (Retire key entry.state) (λ m. (tt, tt)) }
      by false = record { epoch = refl; fits = none }

  acked : (key : Key) (state : State) (from : ℕ) (found : Option Logged) → IsOfMail node (acked_at own nodes node disk key state from found)
  acked key state from None = still node node disk refl
  acked key state from (Some entry) = by (is_same_state entry.state state && has entry.remaining from)
    where
      by : (b : Bool) → IsOfMail node (if b then shrunk own nodes node disk key (cleared from entry) else idle node disk)
      by true = shrinks key (cleared from entry)
      by false = still node node disk refl

  retired : (key : Key) (state : State) (found : Option Logged) → IsOfMail node (retired_at node disk key state found)
  retired key state None = still node node disk refl
  retired key state (Some entry) = by (is_same_state entry.state state)
    where
      by : (b : Bool) → IsOfMail node (if b then record { node = record node { log = fin.remove node.log key }; disk = disk ++ RetiredRecord key entry.state ∷ []; out = [] } else idle node disk)
      by true = record { epoch = refl; fits = none }
      by false = still node node disk refl

  told : (letter : Letter) (found : Option Ticket) → IsOfMail node (told_at node disk letter found)
  told letter None = still node node disk refl
  told letter (Some ticket) = record { epoch = refl; fits = none }

  by_body : (letter : Letter) (body : Body) → IsOfMail node (hear_body own nodes node disk letter body)
  by_body letter (File id stamp targets users octets) = record { epoch = refl; fits = one (answer letter (Filed id)) (tt, tt) }
  by_body letter (Filed id) = told letter (ticket_at own node letter.ticket)
  by_body letter (Strike user marks) = record { epoch = refl; fits = one (answer letter (StrikeTold user (map (λ mark. mark.id) marks))) (tt, tt) }
  by_body letter (StrikeTold user ids) = told letter (ticket_at own node letter.ticket)
  by_body letter (Push key state octets) = record { epoch = refl; fits = one (answer letter (PushAck key state)) (tt, tt) }
  by_body letter (PushAck key state) = acked key state letter.from (fin.get node.log key)
  by_body letter (Retire key state) = retired key state (fin.get node.log key)
  by_body letter (LoginAsk user proof) = still node node disk refl
  by_body letter (LoginTold word) = still node node disk refl
  by_body letter (ListAsk user) = still node node disk refl
  by_body letter (ListTold items) = still node node disk refl
  by_body letter (FetchAsk user id at most) = still node node disk refl
  by_body letter (FetchTold part) = still node node disk refl
  by_body letter (Unlock user login) = still node node disk refl
  by_body letter (Group epoch) = still node node disk refl
  by_body letter (Join epoch promise boot was claims) = still node node disk refl
  by_body letter (Install membership) = still node node disk refl
  by_body letter (Report row) = still node node disk refl
  by_body letter (ReportAck user version) = still node node disk refl

pub hears_mail : (own nodes : ℕ) (node : Node) (disk : List Record) (letter : Letter) → IsOfMail node (hear own nodes node disk letter)
hears_mail own nodes node disk letter =
    let h = by_body own nodes (with_stamps letter.body node) disk letter letter.body in
    record { epoch = h.epoch; fits = h.fits }

-- calls that begin
strikes_fit : (own : ℕ) (epoch : EpochId) (number : Number) (user : List ℕ) (items : List StrikeItem) (k : ℕ) → All FitsMaps (strikes_to own epoch number user items k)
strikes_fit own epoch number user items zero = none
strikes_fit own epoch number user items (suc k) =
    All-append FitsMaps (strikes_to own epoch number user items k) (if nat_eq (suc k) own then [] else strike_to own epoch number user (suc k) (marks_for (suc k) items))
    (strikes_fit own epoch number user items k) (by (nat_eq (suc k) own))
  where
    to_one : (marks : List DeletionMark) → All FitsMaps (strike_to own epoch number user (suc k) marks)
    to_one [] = none
    to_one (mark ∷ marks) = one (record { from = own; to = suc k; epoch = epoch; ticket = Some number; body = Strike user (mark ∷ marks) }) (tt, tt)

    by : (b : Bool) → All FitsMaps (if b then [] else strike_to own epoch number user (suc k) (marks_for (suc k) items))
    by true = none
    by false = to_one (marks_for (suc k) items)

pub begins_mail : (plan : Plan) (w : World) (own : ℕ) (node : Node) (disk : List Record) (call : NodeCall) (octets : List ℕ) → IsOfMail node (begun_by plan w own node disk call octets)
begins_mail plan w own node disk (Deliver mail) octets = record {
  epoch = refl;
  fits = to_all own (epoch_of node) (Some (new_number own node)) (receivers own (targets_for plan own node) plan.nodes) _ (λ m. (tt, tt));
}
begins_mail plan w own node disk (StrikeCall user items) octets = record {
  epoch = refl;
  fits = strikes_fit own (epoch_of node) (new_number own node) user (dated own node node.count (asked_for plan own node items)) plan.nodes;
}
begins_mail plan w own node disk (Login user proof) octets = still node node disk refl
begins_mail plan w own node disk (Fetch user id from most holders) octets = still node node disk refl
begins_mail plan w own node disk (Leave user login manager) octets = still node node disk refl

pub widens_mail : (own to : ℕ) (key : Key) (node : Node) (disk : List Record) → IsOfMail node (widen own to key node disk)
widens_mail own to key node disk = by (said key disk)
  where
    by : (found : Option State) → IsOfMail node (widened own to key node disk found)
    by None = still node node disk refl
    by (Some held) = pick (is_here held.value && not (has held.targets to))
      where
        updates : List Update
        updates = record { key = key; state = record held { targets = with_node held.targets to } } ∷ []

        store : Store
        store = take_all own updates (store_of node disk)

        pick : (b : Bool) → IsOfMail node (if b then record { node = with_updates own node updates store; disk = store.disk; out = [] } else idle node disk)
        pick true = record { epoch = refl; fits = none }
        pick false = still node node disk refl

-- what a node pushes fits, also where its octets are not told
pushed_fit : (own to : ℕ) (epoch : EpochId) (disk : List Record) (key : Key) (found : Option Logged) → All FitsMaps (push_of own to epoch disk key found)
pushed_fit own to epoch disk key None = none
pushed_fit own to epoch disk key (Some entry) = by (has entry.remaining to)
  where
    by : (b : Bool) → All FitsMaps (if b then record { from = own; to = to; epoch = epoch; ticket = None; body = Push key entry.state (pushed_octets key entry.state.value disk) } ∷ [] else [])
    by true = one (record { from = own; to = to; epoch = epoch; ticket = None; body = Push key entry.state (pushed_octets key entry.state.value disk) }) (tt, tt)
    by false = none

all_pushed : (own to : ℕ) (node : Node) (disk : List Record) (keys : List Key) → All FitsMaps (push own to keys node disk).out
all_pushed own to node disk [] = none
all_pushed own to node disk (key ∷ keys) =
    All-append FitsMaps (push_of own to (epoch_of node) disk key (fin.get node.log key)) (push own to keys node disk).out
    (pushed_fit own to (epoch_of node) disk key (fin.get node.log key)) (all_pushed own to node disk keys)

untold_fits : (from : ℕ) (body : Body) → NamesANode body × TellsOwnRow from body → NamesANode (untold_body body) × TellsOwnRow from (untold_body body)
untold_fits from (Push key state octets) fits = (tt, tt)
untold_fits from body fits = fits

told_fits : (from : ℕ) (body : Body) → NamesANode (untold_body body) × TellsOwnRow from (untold_body body) → NamesANode body × TellsOwnRow from body
told_fits from (Push key state octets) fits = (tt, tt)
told_fits from body fits = fits

all_untold : (letters : List Letter) → All FitsMaps letters → All FitsMaps (map untold letters)
all_untold [] fits = none
all_untold (l ∷ ls) fits = All-cons FitsMaps (untold l) (map untold ls) (untold_fits l.from l.body (All-head FitsMaps l ls fits)) (all_untold ls (All-tail FitsMaps l ls fits))

all_told : (letters : List Letter) → All FitsMaps (map untold letters) → All FitsMaps letters
all_told [] fits = none
all_told (l ∷ ls) fits = All-cons FitsMaps l ls (told_fits l.from l.body (All-head FitsMaps (untold l) (map untold ls) fits)) (all_told ls (All-tail FitsMaps (untold l) (map untold ls) fits))

pub sent_like : (own to most room : ℕ) (node : Node) (disk : List Record) (sent : List Letter) → map untold (pushed_by own to most room node disk) ≡ map untold sent → All FitsMaps sent
sent_like own to most room node disk sent alike =
    all_told sent (subst (All FitsMaps) alike (all_untold (pushed_by own to most room node disk) (all_pushed own to node disk (keys_within most room own to node disk))))
