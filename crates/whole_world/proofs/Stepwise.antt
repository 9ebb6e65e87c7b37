-- Each step for messages is plain.
use Rattle.std.proofs.Common.{◌≡◌, ◌≢◌, inl, inr, ⊎_elim, ℕ, zero, suc, ◌+◌, arith, Bool, true, false, not, ◌&&◌, List, [], ◌∷◌, ◌++◌, append-nil, Option, Some, None, refl, sym, ap, ◌∙◌, subst, nat_eq, eq-eqb, true≢false, flat_map, length, if◌then◌else◌}
use Rattle.std.specs.FinMap as fin
use Rattle.mail_model.specs.Identity.{Id, Stamp, EpochId, Key}
use Rattle.mail_model.specs.Identity.Key.{Message}
use Rattle.mail_model.specs.Plan.{Plan}
use Rattle.mail_model.specs.Listing.{is_here}
use Rattle.mail_model.specs.Book.BookEntry.{WentDown}
use Rattle.mail_model.specs.Record.{Record}
use Rattle.mail_model.specs.Record.Record.{Retired as RetiredRecord}
use Rattle.object_model.specs.Lists.{Among}
use Rattle.object_model.specs.Sets.{has, with_node, all_nodes}
use Rattle.object_model.specs.Letters.{Number, DeletionMark, Body, Letter, is_read_body}
use Rattle.object_model.specs.Letters.Body.{File, Filed, Strike, StrikeTold, Push, PushAck, Retire, Group, Join, Install, Report, ReportAck}
use Rattle.object_model.specs.Mishaps.{MishapKind}
use Rattle.object_model.specs.Mishaps.MishapKind.{Disk, Dropped, Stale as StaleKind, Down as DownKind}
use Rattle.object_model.specs.UpdateLog.{Logged, cleared, due}
use Rattle.object_model.specs.States.{is_same_state}
use Rattle.object_model.specs.Said.{said}
use Rattle.object_model.proofs.Lists.{among_front, among_behind, among_either}
use Rattle.mail_model.specs.Identity.{State}
use Rattle.cluster_model.specs.Cluster.{Ticket, Node, Life, Slot, with_slot, epoch_of, members_of}
use Rattle.cluster_model.specs.Cluster.Life.{Up, Down, Lost}
use Rattle.cluster_model.specs.Store.{Store, Update, take_all, with_octets, gone_updates, here_updates}
use Rattle.cluster_model.specs.Rules.{Reaction, StrikeItem, idle, store_of, shrunk, acked_at, retired_at, told_at, with_updates, pushed_octets, ticket_at, push, push_of, widened, widen, begin_deliver, begin_strike, end_ticket, refuse, dated, marks_for, new_number, receivers, letters_to, strike_to, strikes_to}
use Rattle.cluster_model.specs.Deeds.{slot_up, hear, hear_body}
use Rattle.cluster_model.specs.Forms.{IsMapsBody}
use Rattle.cluster_model.specs.Thrown.{with_stamps, is_stale}
use Rattle.cluster_model.specs.Room.{Flight, has_room, octets_flying, most_pushes, due_to, keys_pushed, fitting}
use Rattle.cluster_model.specs.World.{World, letters_of, put, Flies, flies_on}
use Rattle.cluster_model.specs.Steps.{NodeCall, Step, Said}
use Rattle.cluster_model.specs.Steps.NodeCall.{Deliver, Login, Fetch, Strike as StrikeCall, Leave}
use Rattle.cluster_model.specs.Steps.Step.{Begin, AskFor, GiveUp, Post, DropLetter, PushTo, Widen, Form, Crash, Start, Lose, Tick}
use Rattle.cluster_model.specs.Makes.{IsUp, after, with_struck, begun_by, lost_letter, IsWorkCut, NodeGoesDown, cut_world, BeginsCall, AnswersAsk, Posts, FormsIn, DoesStep, RunsShort, targets_for, asked_for}
use Rattle.cluster_model.specs.Makes.BeginsCall.{FailsAtOnce, Goes, FailsInIt}
use Rattle.cluster_model.specs.Makes.AnswersAsk.{Waits, Ends}
use Rattle.cluster_model.specs.Makes.Posts.{NobodyUp, OfOtherEpoch, TooLate, IsHeard, FailsHearing, IsForMaps, FailsForMaps}
use Rattle.cluster_model.specs.Makes.Pushes.{Sends, FailsPushing}
use Rattle.cluster_model.specs.Makes.Widens.{Adds, FailsWidening}
use Rattle.cluster_model.specs.Makes.RunsShort.{Beginning, Hearing, Widening, Forming, Starting}
use Rattle.cluster_model.proofs.Logs.{receiver_is, sent_to}
use Rattle.cluster_model.proofs.HearLogs.{among_flat}
use Rattle.cluster_model.proofs.Reading.{SeesOne, SeesFall, begins_seen, answers_seen, gives_up_seen, posts_seen, drops_seen}
use Rattle.cluster_model.proofs.Reading.SeesOne.{Turns as SeesTurn, Refuses, Sends as SendsOne, Takes}
use Rattle.cluster_model.proofs.Stepping.{letters_both, letters_around, flew}
use Rattle.whole_model.specs.Rules.{IsMailBody, AreOfMessages, IsMail}
use Rattle.whole_model.proofs.Appends.{Grew, grew_none, grew_on, grew_all, grew_octets, IsOf, hears_of}
use Rattle.whole_world.proofs.Plain.{IsPlain, Flew, all_same, soft_write, plain_same, plain_write, plain_soft, plain_put, plain_falls, plain_sends, soft_missed}
use Rattle.whole_world.proofs.Plain.IsSoft.{Inner}
use Rattle.whole_world.proofs.Plain.Turns.{Works, Falls, IsLost, Stops}

-- a letter that stays in flight flew
pub flew_on : (w : World) (number : ℕ) (f : Flies w number) (keep : Bool) (letter : Letter) → Among letter (letters_of (flies_on w number f keep)) → Among letter (letters_of w.flying)
flew_on w number f true letter m = m
flew_on w number f false letter m = subst (Among letter) (sym (letters_around w number f)) (⊎_elim
    (λ front. among_front letter (letters_of f.front) (f.letter ∷ letters_of f.back) front)
    (λ back. among_behind letter (letters_of f.front) (f.letter ∷ letters_of f.back) (inr back))
    (among_either letter (letters_of f.front) (letters_of f.back) (subst (Among letter) (letters_both f.front f.back) m)))

-- what a node did for messages
record Did (own : ℕ) (node : Node) (disk : List Record) (did : Reaction) : Type 0 where
  of : IsOf own disk did
  epoch : did.node.installed ≡ node.installed

still : (own : ℕ) (node after : Node) (disk : List Record) → after.installed ≡ node.installed → Did own node disk (record { node = after; disk = disk; out = [] })
still own node after disk same = record { of = record { grew = grew_none disk; mail = λ one m. absurd m }; epoch = same }

-- what was cut of records of messages is of messages
cut_of : (disk whole : List Record) → Grew disk whole → (front pending : List Record) → IsWorkCut disk whole front pending → AreOfMessages front × AreOfMessages pending
cut_of disk whole g front pending cut =
    let added : g.added ≡ (front ++ pending) ++ cut.missing = same_rest disk g.added ((front ++ pending) ++ cut.missing) (sym g.is ∙ cut.is) in
    let of : AreOfMessages ((front ++ pending) ++ cut.missing) = subst AreOfMessages added g.of in
    (λ one m. of one (among_front one (front ++ pending) cut.missing (among_front one front pending m)), λ one m. of one (among_front one (front ++ pending) cut.missing (among_behind one front pending m)))
  where
    same_rest : (xs ys zs : List Record) → xs ++ ys ≡ xs ++ zs → ys ≡ zs
    same_rest [] ys zs e = e
    same_rest (x ∷ xs) ys zs e = same_rest xs ys zs (tails e)
      where
        tails : x ∷ (xs ++ ys) ≡ x ∷ (xs ++ zs) → xs ++ ys ≡ xs ++ zs
        tails e = cc

module _ (old : World) where
  -- a node that is up does something, and its letters are put in flight
  does_plain : (own : ℕ) (node : Node) (disk : List Record) → IsUp old own node disk → (did : Reaction) → Did own node disk did
      → (mid : World) → mid.slots ≡ with_slot old.slots own (slot_up did.node did.disk) → Flew old mid → IsPlain old (put has_room did.out mid)
  does_plain own node disk up did d mid is flown = plain_put old own node disk up did.out d.of.mail mid
      (plain_write old mid own (slot_up node disk) (slot_up did.node did.disk) up (Works node did.node disk d.of.grew.added refl (ap (slot_up did.node) d.of.grew.is) d.of.grew.of d.epoch) is flown)

  -- it goes down in it
  falls_plain : (own : ℕ) (node : Node) (disk whole : List Record) → IsUp old own node disk → Grew disk whole → (front pending : List Record) → IsWorkCut disk whole front pending
      → (mid : World) → mid.slots ≡ with_slot old.slots own (record { life = Down pending; disk = disk ++ front }) → Flew old mid → IsPlain old mid
  falls_plain own node disk whole up grew front pending cut mid is flown =
      let of = cut_of disk whole grew front pending cut in
      plain_write old mid own (slot_up node disk) (record { life = Down pending; disk = disk ++ front }) up (Falls node disk front pending refl refl of.0 of.1) is flown

-- a letter that is lost
lost_plain : (old : World) (kind : MishapKind) (number : ℕ) (f : Flies old number) (keep : Bool) → IsPlain old (lost_letter kind old number f keep)
lost_plain old kind number f keep = plain_soft old old (lost_letter kind old number f keep) (plain_same old old refl (λ letter m. m)) (soft_missed kind old.slots f.letter) (λ letter m. flew_on old number f keep letter m)

-- the rules leave the epoch alone
shrunk_epoch : (own nodes : ℕ) (node : Node) (disk : List Record) (key : Key) (entry : Logged) → (shrunk own nodes node disk key entry).node.installed ≡ node.installed
shrunk_epoch own nodes node disk key entry = by (nat_eq entry.remaining 0)
  where
    by : (b : Bool) → ((λ (r : Reaction). r.node.installed) (if b
        then record { node = record node { log = fin.remove node.log key }; disk = disk ++ RetiredRecord key entry.state ∷ []; out = letters_to own (epoch_of node) None (receivers own entry.state.targets nodes) (Retire key entry.state) }
        else record { node = record node { log = fin.insert node.log key entry }; disk = disk; out = [] })) ≡ node.installed
    by true = refl
    by false = refl

acked_epoch : (own nodes : ℕ) (node : Node) (disk : List Record) (key : Key) (state : State) (from : ℕ) (found : Option Logged) → (acked_at own nodes node disk key state from found).node.installed ≡ node.installed
acked_epoch own nodes node disk key state from None = refl
acked_epoch own nodes node disk key state from (Some entry) = by (is_same_state entry.state state && has entry.remaining from)
  where
    by : (b : Bool) → ((λ (r : Reaction). r.node.installed) (if b then shrunk own nodes node disk key (cleared from entry) else idle node disk)) ≡ node.installed
    by true = shrunk_epoch own nodes node disk key (cleared from entry)
    by false = refl

retired_epoch : (node : Node) (disk : List Record) (key : Key) (state : State) (found : Option Logged) → (retired_at node disk key state found).node.installed ≡ node.installed
retired_epoch node disk key state None = refl
retired_epoch node disk key state (Some entry) = by (is_same_state entry.state state)
  where
    by : (b : Bool) → ((λ (r : Reaction). r.node.installed) (if b then record { node = record node { log = fin.remove node.log key }; disk = disk ++ RetiredRecord key entry.state ∷ []; out = [] } else idle node disk)) ≡ node.installed
    by true = refl
    by false = refl

told_epoch : (node : Node) (disk : List Record) (letter : Letter) (found : Option Ticket) → (told_at node disk letter found).node.installed ≡ node.installed
told_epoch node disk letter None = refl
told_epoch node disk letter (Some ticket) = refl

body_epoch : (own nodes : ℕ) (node : Node) (disk : List Record) (letter : Letter) (b : Body) → (hear_body own nodes node disk letter b).node.installed ≡ node.installed
body_epoch own nodes node disk letter (File id stamp targets users octets) = refl
body_epoch own nodes node disk letter (Filed id) = told_epoch node disk letter (ticket_at own node letter.ticket)
body_epoch own nodes node disk letter (Strike user marks) = refl
body_epoch own nodes node disk letter (StrikeTold user ids) = told_epoch node disk letter (ticket_at own node letter.ticket)
body_epoch own nodes node disk letter (Push key state octets) = refl
body_epoch own nodes node disk letter (PushAck key state) = acked_epoch own nodes node disk key state letter.from (fin.get node.log key)
body_epoch own nodes node disk letter (Retire key state) = retired_epoch node disk key state (fin.get node.log key)
body_epoch own nodes node disk letter other = refl

hear_did : (own nodes : ℕ) (node : Node) (disk : List Record) (letter : Letter) → letter.to ≡ own → letter.from ≢ own → Did own node disk (hear own nodes node disk letter)
hear_did own nodes node disk letter to from = record { of = hears_of own nodes node disk letter to from; epoch = body_epoch own nodes (with_stamps letter.body node) disk letter letter.body }

-- calls that begin
deliver_did : (own nodes seconds : ℕ) (node : Node) (disk : List Record) (users : List (List ℕ)) (octets : List ℕ) (targets : ℕ) → Did own node disk (begin_deliver own nodes seconds node disk users octets targets)
deliver_did own nodes seconds node disk users octets targets = record {
  of = record {
    grew = stored (has targets own);
    mail = λ one m. let r = sent_to own (epoch_of node) (Some (new_number own node)) (receivers own targets nodes) _ one m in
        subst (IsMail own) r.2 (record { from = refl; to = (receiver_is own targets nodes r.0 r.1).1; body = tt });
  };
  epoch = refl;
}
  where
    id : Id
    id = record { node = own; boot = node.boot; seq = node.drawn + 1 }

    stamp : Stamp
    stamp = record { count = node.count + 1; boot = node.boot; node = own }

    stored : (b : Bool) → Grew disk ((λ (s : Store). s.disk) (if b then take_all own (here_updates id stamp targets users) (store_of node (with_octets id users octets disk)) else store_of node disk))
    stored true = grew_on disk (with_octets id users octets disk) _ (grew_octets id users octets disk) (grew_all own (here_updates id stamp targets users) (store_of node (with_octets id users octets disk)))
    stored false = grew_none disk

strikes_mail : (own : ℕ) (epoch : EpochId) (number : Number) (user : List ℕ) (items : List StrikeItem) (k : ℕ) (one : Letter) → Among one (strikes_to own epoch number user items k) → IsMail own one
strikes_mail own epoch number user items zero one m = absurd m
strikes_mail own epoch number user items (suc k) one m = ⊎_elim
    (λ front. strikes_mail own epoch number user items k one front)
    (λ last. by (nat_eq (suc k) own) refl last)
    (among_either one (strikes_to own epoch number user items k) _ m)
  where
    to_one : (marks : List DeletionMark) → suc k ≢ own → Among one (strike_to own epoch number user (suc k) marks) → IsMail own one
    to_one [] other t = absurd t
    to_one (mark ∷ marks) other t = ⊎_elim (λ e. subst (IsMail own) e (record { from = refl; to = other; body = tt })) (λ none. absurd none) t

    by : (b : Bool) → nat_eq (suc k) own ≡ b → Among one (if b then [] else strike_to own epoch number user (suc k) (marks_for (suc k) items)) → IsMail own one
    by true e t = absurd t
    by false e t = to_one (marks_for (suc k) items) (λ same. true≢false (sym (eq-eqb (suc k) own same) ∙ e)) t

strike_did : (own nodes : ℕ) (node : Node) (disk : List Record) (user : List ℕ) (asked : List (Id × ℕ)) → Did own node disk (begin_strike own nodes node disk user asked)
strike_did own nodes node disk user asked = record {
  of = record {
    grew = grew_all own (gone_updates user (all_nodes nodes) (marks_for own (dated own node node.count asked))) (store_of node disk);
    mail = λ one m. strikes_mail own (epoch_of node) (new_number own node) user (dated own node node.count asked) nodes one m;
  };
  epoch = refl;
}

begun_did : (plan : Plan) (w : World) (own : ℕ) (node : Node) (disk : List Record) (call : NodeCall) (octets : List ℕ) → Did own node disk (begun_by plan w own node disk call octets)
begun_did plan w own node disk (Deliver mail) octets = deliver_did own plan.nodes w.seconds node disk mail.mailboxes octets (targets_for plan own node)
begun_did plan w own node disk (StrikeCall user items) octets = strike_did own plan.nodes node disk user (asked_for plan own node items)
begun_did plan w own node disk (Login user secret) octets = still own node node disk refl
begun_did plan w own node disk (Fetch user id from most holders) octets = still own node node disk refl
begun_did plan w own node disk (Leave user login manager) octets = still own node node disk refl

-- pushes
none_due : (own to : ℕ) (node : Node) → to ≡ own → due_to own to node ≡ []
none_due own to node same = by (has (members_of node) to) (nat_eq to own) (eq-eqb to own same)
  where
    by : (a b : Bool) → b ≡ true → (if a && not b then due node.log to most_pushes else []) ≡ []
    by true true e = refl
    by true false e = absurd (true≢false (sym e))
    by false b e = refl

pushed_mail : (own to : ℕ) (epoch : EpochId) (disk : List Record) (key : Key) (found : Option Logged) (one : Letter) → Among one (push_of own to epoch disk key found) → to ≢ own → IsMail own one
pushed_mail own to epoch disk key None one m other = absurd m
pushed_mail own to epoch disk key (Some entry) one m other = by (has entry.remaining to) m
  where
    by : (b : Bool) → Among one (if b then record { from = own; to = to; epoch = epoch; ticket = None; body = Push key entry.state (pushed_octets key entry.state.value disk) } ∷ [] else []) → IsMail own one
    by true t = ⊎_elim (λ e. subst (IsMail own) e (record { from = refl; to = other; body = tt })) (λ none. absurd none) t
    by false t = absurd t

push_did : (own to : ℕ) (flying : List Flight) (node : Node) (disk : List Record) → Did own node disk (push own to (keys_pushed flying own to node disk) node disk)
push_did own to flying node disk = record {
  of = record {
    grew = grew_none disk;
    mail = λ one m. let f = among_flat (λ key. push_of own to (epoch_of node) disk key (fin.get node.log key)) one (keys_pushed flying own to node disk) m in
        pushed_mail own to (epoch_of node) disk f.0 (fin.get node.log f.0) one f.1
        (λ same. nobody one (subst (λ (due_keys : List Key). Among one (flat_map (λ key. push_of own to (epoch_of node) disk key (fin.get node.log key))
        (fitting (λ key. push_of own to (epoch_of node) disk key (fin.get node.log key)) (length flying) (octets_flying flying) due_keys))) (none_due own to node same) m));
  };
  epoch = refl;
}
  where
    nobody : (one : Letter) → Among one [] → ⊥
    nobody one m = m

widen_did : (own to : ℕ) (key : Key) (node : Node) (disk : List Record) → Did own node disk (widen own to key node disk)
widen_did own to key node disk = by (said key disk)
  where
    by : (found : Option State) → Did own node disk (widened own to key node disk found)
    by None = still own node node disk refl
    by (Some held) = pick (is_here held.value && not (has held.targets to))
      where
        updates : List Update
        updates = record { key = key; state = record held { targets = with_node held.targets to } } ∷ []

        store : Store
        store = take_all own updates (store_of node disk)

        pick : (b : Bool) → Did own node disk (if b then record { node = with_updates own node updates store; disk = store.disk; out = [] } else idle node disk)
        pick true = record { of = record { grew = grew_all own updates (store_of node disk); mail = λ one m. absurd m }; epoch = refl }
        pick false = still own node node disk refl

struck_same : (w : World) (call : NodeCall) → ((with_struck w call).slots ≡ w.slots) × ((with_struck w call).flying ≡ w.flying)
struck_same w (Deliver mail) = (refl, refl)
struck_same w (StrikeCall user items) = (refl, refl)
struck_same w (Login user secret) = (refl, refl)
struck_same w (Fetch user id from most holders) = (refl, refl)
struck_same w (Leave user login manager) = (refl, refl)

-- No epoch forms in the step: it is no Form, and it hands on no letter of membership or maps that its receiver hears.
abbrev pub IsOfMail : World → Step → Type 0
IsOfMail old (Form n) = ⊥
IsOfMail old (Post number keep) = (f : Flies old number) (node : Node) (disk : List Record) → IsUp old f.letter.to node disk → is_stale f.letter node.installed ≡ false → IsMapsBody f.letter.body → ⊥
IsOfMail old step = Unit {0}

-- letters of calls that read are none of membership or maps
pub read_is_mail : (body : Body) → is_read_body body ≡ true → IsMailBody body
read_is_mail (Group epoch) of = absurd (true≢false (sym of))
read_is_mail (Join epoch promise boot was claims) of = absurd (true≢false (sym of))
read_is_mail (Install membership) of = absurd (true≢false (sym of))
read_is_mail (Report row) of = absurd (true≢false (sym of))
read_is_mail (ReportAck user version) of = absurd (true≢false (sym of))
read_is_mail body of = tt

-- what messages see of calls that read is plain
module _ (old : World) where
  abbrev Plainly : World → World → Type 0
  Plainly a b = IsPlain old a → IsPlain old b

  plainly_stays : (w : World) → Plainly w w
  plainly_stays w p = p

  plainly_then : (a b c : World) → Plainly a b → Plainly b c → Plainly a c
  plainly_then a b c first others p = others (first p)

  sees_plain : (a b : World) → SeesOne a b → Plainly a b
  sees_plain a b (SeesTurn own node disk calls count up e) p = subst (IsPlain old) (sym e)
      (plain_soft old a _ p (soft_write a.slots own (slot_up node disk) (slot_up (record node { calls = calls; count = count }) disk) up (Inner node (record node { calls = calls; count = count }) disk refl refl refl)) (λ letter m. m))
  sees_plain a b (Refuses own node disk kind mishaps up e) p = subst (IsPlain old) (sym e)
      (plain_soft old a _ p (soft_write a.slots own (slot_up node disk) (slot_up (refuse kind mishaps 0 node disk).node disk) up (Inner node (refuse kind mishaps 0 node disk).node disk refl refl refl)) (λ letter m. m))
  sees_plain a b (SendsOne letter l e) p = subst (IsPlain old) (sym e) (plain_sends old a letter l.node l.disk p l.up l.other (read_is_mail letter.body l.body))
  sees_plain a b (Takes number flies keep of e) p = subst (IsPlain old) (sym e) (plain_soft old a _ p (all_same a.slots) (λ letter m. flew_on a number flies keep letter m))

  fall_plain : (own : ℕ) (a b : World) → SeesFall own a b → Plainly a b
  fall_plain own a b f p = plain_falls old a b own f.node f.disk p f.up (ap (λ (w : World). w.slots) f.is) (ap (λ (w : World). w.flying) f.is)

  itself : IsPlain old old
  itself = plain_same old old refl (λ letter m. m)

module _ (old new : World) where
  -- over a world with the same slots, of which no more letters fly
  after_plain : (x : World) → x.slots ≡ old.slots → Flew old x → (own : ℕ) (node : Node) (disk : List Record) → IsUp old own node disk → (did : Reaction) → Did own node disk did
      → new ≡ after x own did → IsPlain old new
  after_plain x same flown own node disk up did d is = subst (IsPlain old) (sym is)
      (does_plain old own node disk up did d (record x { slots = with_slot x.slots own (slot_up did.node did.disk) }) (ap (λ (s : List Slot). with_slot s own (slot_up did.node did.disk)) same) flown)

  cut_plain : (x : World) → x.slots ≡ old.slots → Flew old x → (own : ℕ) (node : Node) (disk : List Record) → IsUp old own node disk → (did : Reaction) → Did own node disk did
      → NodeGoesDown x own disk did.disk new → IsPlain old new
  cut_plain x same flown own node disk up did d g = subst (IsPlain old) (sym g.is)
      (falls_plain old own node disk did.disk up d.of.grew g.front g.pending g.cut (cut_world x own disk g.front g.pending)
      (ap (λ (s : List Slot). with_slot s own (record { life = Down g.pending; disk = disk ++ g.front })) same) flown)

  -- it goes down before it wrote anything
  stop_plain : (own : ℕ) (node : Node) (disk : List Record) → IsUp old own node disk → new ≡ cut_world old own disk [] [] → IsPlain old new
  stop_plain own node disk up is = cut_plain old refl (λ letter m. m) own node disk up (idle node disk) (still own node node disk refl) (record { front = []; pending = []; one = omega arith; cut = record { missing = []; is = sym (append-nil disk) }; is = is })

  begins_plain : (plan : Plan) (tells : Bool) (own : ℕ) (call : NodeCall) (answer : Said) → BeginsCall plan tells old own call answer new → IsPlain old new
  begins_plain plan tells own call answer (FailsAtOnce node disk kind up of_kind fails is new_world) =
      after_plain (with_struck old call) (struck_same old call).0 (flown call) own node disk up _ (still own node _ disk refl) new_world
    where
      flown : (c : NodeCall) → Flew old (with_struck old c)
      flown c letter m = subst (λ (f : List Flight). Among letter (letters_of f)) (struck_same old c).1 m
  begins_plain plan tells own call answer (Goes node disk octets up fails filed is new_world) =
      after_plain (with_struck old call) (struck_same old call).0 (λ letter m. subst (λ (f : List Flight). Among letter (letters_of f)) (struck_same old call).1 m) own node disk up
      (begun_by plan old own node disk call octets) (begun_did plan old own node disk call octets) new_world
  begins_plain plan tells own call answer (FailsInIt node disk octets up filed is g) =
      cut_plain (with_struck old call) (struck_same old call).0 (λ letter m. subst (λ (f : List Flight). Among letter (letters_of f)) (struck_same old call).1 m) own node disk up
      (begun_by plan old own node disk call octets) (begun_did plan old own node disk call octets) g

  asks_plain : (plan : Plan) (number : Number) (answer : Said) → AnswersAsk plan old number answer new → IsPlain old new
  asks_plain plan number answer (Waits node disk ticket up found got wanted e is new_world) = subst (IsPlain old) (sym new_world) (plain_same old old refl (λ letter m. m))
  asks_plain plan number answer (Ends node disk ticket up found reply e is new_world) = subst (IsPlain old) (sym new_world)
      (plain_write old _ number.node (slot_up node disk) (slot_up (end_ticket number.seq node disk).node disk) up
      (Works node (end_ticket number.seq node disk).node disk [] refl (ap (slot_up (end_ticket number.seq node disk).node) (sym (append-nil disk))) (λ one m. absurd m) refl) refl (λ letter m. m))

  -- no letter flies to its sender
  module _ (apart : (letter : Letter) → Among letter (letters_of old.flying) → letter.from ≢ letter.to) where
    heard_did : (plan : Plan) (number : ℕ) (f : Flies old number) (node : Node) (disk : List Record) → Did f.letter.to node disk (hear f.letter.to plan.nodes node disk f.letter)
    heard_did plan number f node disk = hear_did f.letter.to plan.nodes node disk f.letter refl (apart f.letter (flew old number f))

    posts_plain : (plan : Plan) (number : ℕ) (keep : Bool) (answer : Said) → IsOfMail old (Post number keep) → Posts plan old number keep answer new → IsPlain old new
    posts_plain plan number keep answer of (NobodyUp f nobody is new_world) = subst (IsPlain old) (sym new_world) (lost_plain old DownKind number f keep)
    posts_plain plan number keep answer of (OfOtherEpoch f node disk up thrown is new_world) = subst (IsPlain old) (sym new_world) (lost_plain old StaleKind number f keep)
    posts_plain plan number keep answer of (TooLate f node disk up thrown is new_world) = subst (IsPlain old) (sym new_world) (plain_same old _ refl (λ letter m. flew_on old number f keep letter m))
    posts_plain plan number keep answer of (IsHeard f node disk up thrown is new_world) =
        after_plain (record old { flying = flies_on old number f keep }) refl (λ letter m. flew_on old number f keep letter m) f.letter.to node disk up
        (hear f.letter.to plan.nodes node disk f.letter) (heard_did plan number f node disk) new_world
    posts_plain plan number keep answer of (FailsHearing f node disk up thrown is down g new_world) = subst (IsPlain old) (sym new_world)
        (plain_soft old down _ (subst (IsPlain old) (sym g.is)
        (falls_plain old f.letter.to node disk (hear f.letter.to plan.nodes node disk f.letter).disk up (heard_did plan number f node disk).of.grew g.front g.pending g.cut
        (cut_world old f.letter.to disk g.front g.pending) refl (λ letter m. m)))
        (soft_missed Disk down.slots f.letter)
        (λ letter m. subst (λ (v : World). Among letter (letters_of v.flying)) (sym g.is) (flew_on old number f keep letter m)))
    posts_plain plan number keep answer of (IsForMaps f node disk up maps fresh is did forms new_world) = absurd (of f node disk up fresh maps)
    posts_plain plan number keep answer of (FailsForMaps f node disk promise up maps fresh is down g new_world) = absurd (of f node disk up fresh maps)

    pub steps_plain : (plan : Plan) (tells : Bool) (step : Step) (answer : Said) → ((n : ℕ) → step ≡ Start n → ⊥) → IsOfMail old step → DoesStep plan tells old step answer new → IsPlain old new
    steps_plain plan tells (Begin own call) answer other of (inl d) = begins_plain plan tells own call answer d
    steps_plain plan tells (Begin own call) answer other of (inr d) = begins_seen (Plainly old) (plainly_stays old) (plainly_then old) (sees_plain old) plan own call answer old new (λ n e a b f. fall_plain old n a b f) d (itself old)
    steps_plain plan tells (AskFor number) answer other of (inl d) = asks_plain plan number answer d
    steps_plain plan tells (AskFor number) answer other of (inr d) = answers_seen (Plainly old) (plainly_stays old) (plainly_then old) (sees_plain old) number answer old new d (itself old)
    steps_plain plan tells (GiveUp number) answer other of (inr d) = gives_up_seen (Plainly old) (plainly_stays old) (plainly_then old) (sees_plain old) number answer old new d (itself old)
    steps_plain plan tells (GiveUp number) answer other of (inl d) = after_plain old refl (λ letter m. m) number.node d.node d.disk d.up (end_ticket number.seq d.node d.disk) (still number.node d.node _ d.disk refl) d.new_world
    steps_plain plan tells (Post number keep) answer other of (inl d) = posts_plain plan number keep answer of d.0
    steps_plain plan tells (Post number keep) answer other of (inr d) = posts_seen (Plainly old) (plainly_stays old) (plainly_then old) (sees_plain old) number keep answer old new (λ n e a b f. fall_plain old n a b f) d (itself old)
    steps_plain plan tells (DropLetter number) answer other of (inl d) = subst (IsPlain old) (sym d.0.new_world) (lost_plain old Dropped number d.0.flies false)
    steps_plain plan tells (DropLetter number) answer other of (inr d) = drops_seen (Plainly old) (plainly_stays old) (plainly_then old) (sees_plain old) number answer old new d (itself old)
    steps_plain plan tells (PushTo from to) answer other of (Sends node disk up is new_world) = after_plain old refl (λ letter m. m) from node disk up _ (push_did from to old.flying node disk) new_world
    steps_plain plan tells (PushTo from to) answer other of (FailsPushing node disk up is new_world) = stop_plain from node disk up new_world
    steps_plain plan tells (Widen at user id to) answer other of (Adds node disk up is new_world) = after_plain old refl (λ letter m. m) at node disk up _ (widen_did at to (Message user id) node disk) new_world
    steps_plain plan tells (Widen at user id to) answer other of (FailsWidening node disk up is g) = cut_plain old refl (λ letter m. m) at node disk up _ (widen_did at to (Message user id) node disk) g
    steps_plain plan tells (Crash n) answer other of d = subst (IsPlain old) (sym d.new_world) (crashes d.slot.life refl)
      where
        crashes : (life : Life) → d.slot.life ≡ life → IsPlain old (record old { slots = with_slot old.slots n (record d.slot { life = Down [] }); book = old.book ++ WentDown n ∷ [] })
        crashes (Up node) e = plain_write old _ n (slot_up node d.slot.disk) (record { life = Down []; disk = d.slot.disk }) (d.here ∙ ap (λ (l : Life). Some (record { life = l; disk = d.slot.disk })) e)
            (Falls node d.slot.disk [] [] refl (ap (λ (k : List Record). record { life = Down []; disk = k }) (sym (append-nil d.slot.disk))) (λ one m. absurd m) (λ one m. absurd m)) refl (λ letter m. m)
        crashes (Down pending) e = plain_write old _ n (record { life = Down pending; disk = d.slot.disk }) (record { life = Down []; disk = d.slot.disk }) (d.here ∙ ap (λ (l : Life). Some (record { life = l; disk = d.slot.disk })) e)
            (Stops d.slot.disk pending [] d.slot.disk refl (record { kept = []; pending_is = inl refl; records = sym (append-nil d.slot.disk); next_is = inl refl }) refl) refl (λ letter m. m)
        crashes Lost e = absurd (d.was e)
    steps_plain plan tells (Form n) answer other of d = absurd of
    steps_plain plan tells (Start n) answer other of d = absurd (other n refl)
    steps_plain plan tells (Lose n) answer other of d = subst (IsPlain old) (sym d.new_world)
        (plain_write old _ n d.slot (record { life = Lost; disk = d.slot.disk ++ d.kept }) d.here (IsLost d.was d.kept d.pending_is refl) refl (λ letter m. m))
    steps_plain plan tells (Tick seconds) answer other of d = subst (IsPlain old) (sym d.1) (plain_same old _ refl (λ letter m. m))

    -- memory runs out in the midst of a step
    pub short_plain : (plan : Plan) (step : Step) (n : ℕ) → IsOfMail old step → RunsShort plan old step n new → IsPlain old new
    short_plain plan step n of (Beginning call node disk octets is up filed g) =
        cut_plain (with_struck old call) (struck_same old call).0 (λ letter m. subst (λ (f : List Flight). Among letter (letters_of f)) (struck_same old call).1 m) n node disk up
        (begun_by plan old n node disk call octets) (begun_did plan old n node disk call octets) g
    short_plain plan step n of (Hearing number keep f node disk is at up g) = cut_plain old refl (λ letter m. m) n node disk up (hear n plan.nodes node disk f.letter)
        (hear_did n plan.nodes node disk f.letter at (λ same. apart f.letter (flew old number f) (same ∙ sym at))) g
    short_plain plan step n of (Widening user id to node disk is up g) = cut_plain old refl (λ letter m. m) n node disk up _ (widen_did n to (Message user id) node disk) g
    short_plain plan step n of (Forming node disk promise up forms g) = absurd (never step of forms)
      where
        never : (one : Step) → IsOfMail old one → FormsIn old node n one → ⊥
        never (Form own) none f = none
        never (Post number keep) none (flies, to, maps, fresh) = none flies node disk (subst (λ k. IsUp old k node disk) (sym to) up) fresh maps
        never one none f = f
    short_plain plan step n of (Starting disk pending next records is here stops new_world) = subst (IsPlain old) (sym new_world)
        (plain_write old _ n (record { life = Down pending; disk = disk }) (record { life = Down next; disk = records }) here (Stops disk pending next records refl stops refl) refl (λ letter m. m))
