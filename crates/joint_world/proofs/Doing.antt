-- What a node does for messages, membership and maps keeps its boot, and sends no letter of a call that reads.
use Rattle.std.proofs.Common.{◌≡◌, inl, inr, ⊎_elim, ℕ, zero, suc, ◌+◌, ◌≤◌, arith, Bool, true, false, not, ◌&&◌, List, [], ◌∷◌, ◌++◌, append-nil, Option, Some, None, refl, sym, ap, ◌∙◌, subst, nat_eq, le_refl, le_trans, le_of_eq, if◌then◌else◌}
use Rattle.std.specs.FinMap as fin
use Rattle.mail_model.specs.Identity.{Id, Stamp, EpochId, Key, State}
use Rattle.mail_model.specs.Plan.{Plan}
use Rattle.mail_model.specs.Listing.{is_here}
use Rattle.mail_model.specs.Record.{Record}
use Rattle.mail_model.specs.Record.Record.{Boot, Promise, Octets, Stated, Retired as RetiredRecord}
use Rattle.object_model.specs.Lists.{Among}
use Rattle.object_model.specs.Sets.{has, with_node, all_nodes}
use Rattle.object_model.specs.Letters.{Number, DeletionMark, Body, Letter}
use Rattle.object_model.specs.Letters.Body.{File, Filed, Strike, StrikeTold, Push, PushAck, Retire, Group, Join, Install, Report, ReportAck}
use Rattle.object_model.specs.UpdateLog.{Logged, cleared}
use Rattle.object_model.specs.States.{is_same_state}
use Rattle.object_model.specs.Said.{said}
use Rattle.object_model.proofs.Lists.{among_front, among_either}
use Rattle.cluster_model.specs.Cluster.{Ticket, Node, epoch_of}
use Rattle.cluster_model.specs.Claims.{boot_of, boot_after}
use Rattle.cluster_model.specs.Store.{Store, Update, take_all, with_octets, gone_updates, here_updates}
use Rattle.cluster_model.specs.Rules.{Reaction, StrikeItem, idle, answer, store_of, shrunk, acked_at, retired_at, told_at, with_updates, pushed_octets, ticket_at, push, push_of, widened, widen, begin_deliver, begin_strike, dated, marks_for, new_number, receivers, letters_to, strike_to, strikes_to}
use Rattle.cluster_model.specs.Deeds.{hear, hear_body}
use Rattle.cluster_model.specs.Forms.{IsMapsBody, promise_records, FormsEpoch}
use Rattle.cluster_model.specs.Thrown.{with_stamps}
use Rattle.cluster_model.specs.World.{World}
use Rattle.cluster_model.specs.Steps.{NodeCall}
use Rattle.cluster_model.specs.Steps.NodeCall.{Deliver, Login, Fetch, Strike as StrikeCall, Leave}
use Rattle.cluster_model.specs.Makes.{with_struck, begun_by, IsWorkCut, targets_for, asked_for}
use Rattle.cluster_model.proofs.StoreSteps.{boot_both}
use Rattle.cluster_model.proofs.Logs.{sent_to}
use Rattle.cluster_model.proofs.HearLogs.{among_flat}
use Rattle.whole_model.specs.Rules.{IsOfMessages}
use Rattle.whole_model.proofs.Appends.{Grew, grew_none, grew_on, grew_all, grew_octets, hears_of}
use Rattle.login_model.specs.Facts.{IsReadBody}

-- records that have no boot
abbrev pub IsBootless : Record → Type 0
IsBootless (Boot boot) = ⊥
IsBootless one = Unit {0}

abbrev pub AreBootless : List Record → Type 0
AreBootless records = (one : Record) → Among one records → IsBootless one

pub boot_stays : (boot : ℕ) (records : List Record) → AreBootless records → boot_after boot records ≡ boot
boot_stays boot [] of = refl
boot_stays boot (Boot other ∷ records) of = absurd (of (Boot other) (inl refl))
boot_stays boot (Promise epoch ∷ records) of = boot_stays boot records (λ one m. of one (inr m))
boot_stays boot (Octets id octets ∷ records) of = boot_stays boot records (λ one m. of one (inr m))
boot_stays boot (Stated key state ∷ records) of = boot_stays boot records (λ one m. of one (inr m))
boot_stays boot (RetiredRecord key state ∷ records) of = boot_stays boot records (λ one m. of one (inr m))

pub boot_with : (disk more : List Record) → AreBootless more → boot_of (disk ++ more) ≡ boot_of disk
boot_with disk more of = boot_both 0 disk more ∙ boot_stays (boot_of disk) more of

pub of_messages : (one : Record) → IsOfMessages one → IsBootless one
of_messages (Boot boot) of = of
of_messages (Promise epoch) of = tt
of_messages (Octets id octets) of = tt
of_messages (Stated key state) of = tt
of_messages (RetiredRecord key state) of = tt

pub promised : (promise : Option EpochId) → AreBootless (promise_records promise)
promised None one m = absurd m
promised (Some epoch) one m = ⊎_elim (λ e. subst IsBootless e tt) (λ none. absurd none) m

pub same_rest : (xs ys zs : List Record) → xs ++ ys ≡ xs ++ zs → ys ≡ zs
same_rest [] ys zs e = e
same_rest (x ∷ xs) ys zs e = same_rest xs ys zs (tails e)
  where
    tails : x ∷ (xs ++ ys) ≡ x ∷ (xs ++ zs) → xs ++ ys ≡ xs ++ zs
    tails e = cc

-- what a node did
pub record Did (own : ℕ) (node : Node) (disk : List Record) (did : Reaction) : Type 0 where
  pub boot : did.node.boot ≡ node.boot
  pub calls : node.calls ≤ did.node.calls
  pub added : List Record
  pub grew : did.disk ≡ disk ++ added
  pub bootless : AreBootless added
  pub quiet : (one : Letter) → Among one did.out → IsReadBody one.body → ⊥

pub grew_did : (own : ℕ) (node : Node) (disk : List Record) (did : Reaction) → did.node.boot ≡ node.boot → node.calls ≤ did.node.calls → Grew disk did.disk → ((one : Letter) → Among one did.out → IsReadBody one.body → ⊥) → Did own node disk did
grew_did own node disk did boot calls g quiet = record { boot = boot; calls = calls; added = g.added; grew = g.is; bootless = λ one m. of_messages one (g.of one m); quiet = quiet }

pub still : (own : ℕ) (node now : Node) (disk : List Record) → now.boot ≡ node.boot → node.calls ≤ now.calls → Did own node disk (record { node = now; disk = disk; out = [] })
still own node now disk boot calls = record { boot = boot; calls = calls; added = []; grew = sym (append-nil disk); bootless = λ one m. absurd m; quiet = λ one m. absurd m }

pub cut_of : (own : ℕ) (node : Node) (disk : List Record) (did : Reaction) → Did own node disk did → (front pending : List Record) → IsWorkCut disk did.disk front pending → AreBootless front
cut_of own node disk did d front pending cut =
    let added : d.added ≡ (front ++ pending) ++ cut.missing = same_rest disk d.added ((front ++ pending) ++ cut.missing) (sym d.grew ∙ cut.is) in
    λ one m. subst AreBootless added d.bootless one (among_front one (front ++ pending) cut.missing (among_front one front pending m))

-- letters of one body
pub one_quiet : (body : Body) → (IsReadBody body → ⊥) → (of : Letter) → of.body ≡ body → (one : Letter) → Among one (of ∷ []) → IsReadBody one.body → ⊥
one_quiet body not of is one m read = ⊎_elim (λ e. not (subst IsReadBody (ap (λ (l : Letter). l.body) (sym e) ∙ is) read)) (λ none. absurd none) m

pub all_quiet : (own : ℕ) (epoch : EpochId) (ticket : Option Number) (to : List ℕ) (body : Body) → (IsReadBody body → ⊥) → (one : Letter) → Among one (letters_to own epoch ticket to body) → IsReadBody one.body → ⊥
all_quiet own epoch ticket to body not one m read = let r = sent_to own epoch ticket to body one m in not (subst (λ (l : Letter). IsReadBody l.body) (sym r.2) read)

-- what a node does with a letter, for its boot, its tickets and the letters that it sends
pub record Quietly (node : Node) (did : Reaction) : Type 0 where
  pub boot : did.node.boot ≡ node.boot
  pub calls : node.calls ≤ did.node.calls
  pub quiet : (one : Letter) → Among one did.out → IsReadBody one.body → ⊥

pub nothing_done : (node : Node) (disk : List Record) → Quietly node (idle node disk)
nothing_done node disk = record { boot = refl; calls = le_refl node.calls; quiet = λ one m. absurd m }

pub shrunk_quiet : (own nodes : ℕ) (node : Node) (disk : List Record) (key : Key) (entry : Logged) → Quietly node (shrunk own nodes node disk key entry)
shrunk_quiet own nodes node disk key entry = by (nat_eq entry.remaining 0)
  where
    by : (b : Bool) → Quietly node (if b
        then record { node = record node { log = fin.remove node.log key }; disk = disk ++ RetiredRecord key entry.state ∷ []; out = letters_to own (epoch_of node) None (receivers own entry.state.targets nodes) (Retire key entry.state) }
        else record { node = record node { log = fin.insert node.log key entry }; disk = disk; out = [] })
    by true = record { boot = refl; calls = le_refl node.calls; quiet = λ one m. all_quiet own (epoch_of node) None (receivers own entry.state.targets nodes) (Retire key entry.state) (λ no. no) one m }
    by false = record { boot = refl; calls = le_refl node.calls; quiet = λ one m. absurd m }

pub acked_quiet : (own nodes : ℕ) (node : Node) (disk : List Record) (key : Key) (state : State) (from : ℕ) (found : Option Logged) → Quietly node (acked_at own nodes node disk key state from found)
acked_quiet own nodes node disk key state from None = nothing_done node disk
acked_quiet own nodes node disk key state from (Some entry) = by (is_same_state entry.state state && has entry.remaining from)
  where
    by : (b : Bool) → Quietly node (if b then shrunk own nodes node disk key (cleared from entry) else idle node disk)
    by true = shrunk_quiet own nodes node disk key (cleared from entry)
    by false = nothing_done node disk

pub retired_quiet : (node : Node) (disk : List Record) (key : Key) (state : State) (found : Option Logged) → Quietly node (retired_at node disk key state found)
retired_quiet node disk key state None = nothing_done node disk
retired_quiet node disk key state (Some entry) = by (is_same_state entry.state state)
  where
    by : (b : Bool) → Quietly node (if b then record { node = record node { log = fin.remove node.log key }; disk = disk ++ RetiredRecord key entry.state ∷ []; out = [] } else idle node disk)
    by true = record { boot = refl; calls = le_refl node.calls; quiet = λ one m. absurd m }
    by false = nothing_done node disk

pub told_quiet : (node : Node) (disk : List Record) (letter : Letter) (found : Option Ticket) → Quietly node (told_at node disk letter found)
told_quiet node disk letter None = nothing_done node disk
told_quiet node disk letter (Some ticket) = record { boot = refl; calls = le_refl node.calls; quiet = λ one m. absurd m }

pub body_quiet : (own nodes : ℕ) (node : Node) (disk : List Record) (letter : Letter) (b : Body) → Quietly node (hear_body own nodes node disk letter b)
body_quiet own nodes node disk letter (File id stamp targets users octets) = record { boot = refl; calls = le_refl node.calls; quiet = λ one m. one_quiet (Filed id) (λ no. no) (answer letter (Filed id)) refl one m }
body_quiet own nodes node disk letter (Filed id) = told_quiet node disk letter (ticket_at own node letter.ticket)
body_quiet own nodes node disk letter (Strike user marks) = record { boot = refl; calls = le_refl node.calls; quiet = λ one m. one_quiet (StrikeTold user _) (λ no. no) (answer letter (StrikeTold user _)) refl one m }
body_quiet own nodes node disk letter (StrikeTold user ids) = told_quiet node disk letter (ticket_at own node letter.ticket)
body_quiet own nodes node disk letter (Push key state octets) = record { boot = refl; calls = le_refl node.calls; quiet = λ one m. one_quiet (PushAck key state) (λ no. no) (answer letter (PushAck key state)) refl one m }
body_quiet own nodes node disk letter (PushAck key state) = acked_quiet own nodes node disk key state letter.from (fin.get node.log key)
body_quiet own nodes node disk letter (Retire key state) = retired_quiet node disk key state (fin.get node.log key)
body_quiet own nodes node disk letter other = nothing_done node disk

pub hear_did : (own nodes : ℕ) (node : Node) (disk : List Record) (letter : Letter) → letter.to ≡ own → (letter.from ≡ own → ⊥) → Did own node disk (hear own nodes node disk letter)
hear_did own nodes node disk letter to from =
    let q = body_quiet own nodes (with_stamps letter.body node) disk letter letter.body in
    grew_did own node disk (hear own nodes node disk letter) q.boot q.calls (hears_of own nodes node disk letter to from).grew q.quiet

-- calls that begin
pub deliver_did : (own nodes seconds : ℕ) (node : Node) (disk : List Record) (users : List (List ℕ)) (octets : List ℕ) (targets : ℕ) → Did own node disk (begin_deliver own nodes seconds node disk users octets targets)
deliver_did own nodes seconds node disk users octets targets = grew_did own node disk (begin_deliver own nodes seconds node disk users octets targets) refl (omega arith) (stored (has targets own))
    (λ one m read. let r = sent_to own (epoch_of node) (Some (new_number own node)) (receivers own targets nodes) _ one m in absurd (subst (λ (l : Letter). IsReadBody l.body) (sym r.2) read))
  where
    id : Id
    id = record { node = own; boot = node.boot; seq = node.drawn + 1 }

    stamp : Stamp
    stamp = record { count = node.count + 1; boot = node.boot; node = own }

    stored : (b : Bool) → Grew disk ((λ (s : Store). s.disk) (if b then take_all own (here_updates id stamp targets users) (store_of node (with_octets id users octets disk)) else store_of node disk))
    stored true = grew_on disk (with_octets id users octets disk) _ (grew_octets id users octets disk) (grew_all own (here_updates id stamp targets users) (store_of node (with_octets id users octets disk)))
    stored false = grew_none disk

pub strikes_quiet : (own : ℕ) (epoch : EpochId) (number : Number) (user : List ℕ) (items : List StrikeItem) (k : ℕ) (one : Letter) → Among one (strikes_to own epoch number user items k) → IsReadBody one.body → ⊥
strikes_quiet own epoch number user items zero one m read = absurd m
strikes_quiet own epoch number user items (suc k) one m read = ⊎_elim
    (λ front. strikes_quiet own epoch number user items k one front read)
    (λ last. by (nat_eq (suc k) own) last)
    (among_either one (strikes_to own epoch number user items k) _ m)
  where
    to_one : (marks : List DeletionMark) → Among one (strike_to own epoch number user (suc k) marks) → ⊥
    to_one [] t = absurd t
    to_one (mark ∷ marks) t = ⊎_elim (λ e. absurd (subst (λ (l : Letter). IsReadBody l.body) (sym e) read)) (λ none. absurd none) t

    by : (b : Bool) → Among one (if b then [] else strike_to own epoch number user (suc k) (marks_for (suc k) items)) → ⊥
    by true t = absurd t
    by false t = to_one (marks_for (suc k) items) t

pub strike_did : (own nodes : ℕ) (node : Node) (disk : List Record) (user : List ℕ) (asked : List (Id × ℕ)) → Did own node disk (begin_strike own nodes node disk user asked)
strike_did own nodes node disk user asked = grew_did own node disk (begin_strike own nodes node disk user asked) refl (omega arith)
    (grew_all own (gone_updates user (all_nodes nodes) (marks_for own (dated own node node.count asked))) (store_of node disk))
    (λ one m. strikes_quiet own (epoch_of node) (new_number own node) user (dated own node node.count asked) nodes one m)

pub begun_did : (plan : Plan) (w : World) (own : ℕ) (node : Node) (disk : List Record) (call : NodeCall) (octets : List ℕ) → Did own node disk (begun_by plan w own node disk call octets)
begun_did plan w own node disk (Deliver mail) octets = deliver_did own plan.nodes w.seconds node disk mail.mailboxes octets (targets_for plan own node)
begun_did plan w own node disk (StrikeCall user items) octets = strike_did own plan.nodes node disk user (asked_for plan own node items)
begun_did plan w own node disk (Login user secret) octets = still own node node disk refl (le_refl node.calls)
begun_did plan w own node disk (Fetch user id from most holders) octets = still own node node disk refl (le_refl node.calls)
begun_did plan w own node disk (Leave user login manager) octets = still own node node disk refl (le_refl node.calls)

-- pushes and widenings
pub push_did : (own to : ℕ) (keys : List Key) (node : Node) (disk : List Record) → Did own node disk (push own to keys node disk)
push_did own to keys node disk = grew_did own node disk (push own to keys node disk) refl (le_refl node.calls) (grew_none disk)
    (λ one m read. let f = among_flat (λ key. push_of own to (epoch_of node) disk key (fin.get node.log key)) one keys m in pushed f.0 (fin.get node.log f.0) one f.1 read)
  where
    pushed : (key : Key) (found : Option Logged) (one : Letter) → Among one (push_of own to (epoch_of node) disk key found) → IsReadBody one.body → ⊥
    pushed key None one m read = absurd m
    pushed key (Some entry) one m read = by (has entry.remaining to) m
      where
        by : (b : Bool) → Among one (if b then record { from = own; to = to; epoch = epoch_of node; ticket = None; body = Push key entry.state (pushed_octets key entry.state.value disk) } ∷ [] else []) → ⊥
        by true t = ⊎_elim (λ e. absurd (subst (λ (l : Letter). IsReadBody l.body) (sym e) read)) (λ none. absurd none) t
        by false t = absurd t

pub widen_did : (own to : ℕ) (key : Key) (node : Node) (disk : List Record) → Did own node disk (widen own to key node disk)
widen_did own to key node disk = by (said key disk)
  where
    by : (found : Option State) → Did own node disk (widened own to key node disk found)
    by None = still own node node disk refl (le_refl node.calls)
    by (Some held) = pick (is_here held.value && not (has held.targets to))
      where
        updates : List Update
        updates = record { key = key; state = record held { targets = with_node held.targets to } } ∷ []

        store : Store
        store = take_all own updates (store_of node disk)

        pick : (b : Bool) → Did own node disk (if b then record { node = with_updates own node updates store; disk = store.disk; out = [] } else idle node disk)
        pick true = grew_did own node disk (record { node = with_updates own node updates store; disk = store.disk; out = [] }) refl (le_refl node.calls) (grew_all own updates (store_of node disk)) (λ one m. absurd m)
        pick false = still own node node disk refl (le_refl node.calls)

-- membership and maps
pub maps_quiet : (body : Body) → IsMapsBody body → IsReadBody body → ⊥
maps_quiet (Group epoch) of read = read
maps_quiet (Join epoch promise boot was claims) of read = read
maps_quiet (Install membership) of read = read
maps_quiet (Report row) of read = read
maps_quiet (ReportAck user version) of read = read
maps_quiet body of read = absurd of

pub forms_did : (own : ℕ) (node knowing : Node) (disk : List Record) (did : Reaction) → knowing.boot ≡ node.boot → node.calls ≤ knowing.calls → FormsEpoch knowing disk did → Did own node disk did
forms_did own node knowing disk did boot calls f = record {
  boot = ap (λ (n : Node). n.boot) f.node_is ∙ boot;
  calls = le_trans calls (le_of_eq (ap (λ (n : Node). n.calls) (sym f.node_is)));
  added = promise_records f.promise;
  grew = f.disk_is;
  bootless = promised f.promise;
  quiet = λ one m. maps_quiet one.body (f.sends one m).body;
}

pub struck_same : (w : World) (call : NodeCall) → ((with_struck w call).slots ≡ w.slots) × ((with_struck w call).flying ≡ w.flying)
struck_same w (Deliver mail) = (refl, refl)
struck_same w (StrikeCall user items) = (refl, refl)
struck_same w (Login user secret) = (refl, refl)
struck_same w (Fetch user id from most holders) = (refl, refl)
struck_same w (Leave user login manager) = (refl, refl)
