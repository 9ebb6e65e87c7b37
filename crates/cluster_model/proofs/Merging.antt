-- What disks say once a step was made.
use Rattle.std.proofs.Common.{◌≡◌, ◌≢◌, inl, inr, ⊎_elim, ℕ, zero, suc, ◌+◌, Bool, true, false, List, [], ◌∷◌, ◌++◌, append-nil, Option, Some, None, refl, sym, ap, ◌∙◌, subst, nat_eq, if◌then◌else◌}
use Rattle.std.specs.Prelude.{not, ◌&&◌}
use Rattle.std.specs.FinMap as fin
use Rattle.std.proofs.lemmas.Bool.{cases_eq}
use Rattle.mail_model.specs.Identity.{Id, EpochId, Stamp, Key, State}
use Rattle.mail_model.specs.Identity.Key.{Message, Profile}
use Rattle.mail_model.specs.Plan.{Plan}
use Rattle.mail_model.specs.Record.{Record}
use Rattle.mail_model.specs.Record.Record.{Octets, Retired}
use Rattle.mail_model.specs.Listing.{is_here}
use Rattle.mail_model.proofs.Sessions.{get_set_other}
use Rattle.object_model.specs.Sets.{has, all_nodes, with_node}
use Rattle.object_model.specs.States.{is_same_state, join_after}
use Rattle.object_model.specs.Said.{said}
use Rattle.object_model.specs.UpdateLog.{Logged, cleared}
use Rattle.object_model.specs.Letters.{Number, Letter, Body}
use Rattle.object_model.specs.Letters.Body.{File, Filed, Strike as StrikeBody, StrikeTold, Push, PushAck, Retire}
use Rattle.object_model.specs.Mishaps.{MishapKind}
use Rattle.object_model.specs.Mishaps.MishapKind.{Crowded, Dropped, Stale as StaleKind, Down as DownKind}
use Rattle.object_model.proofs.SaidLaws.{said_octets, said_retired}
use Rattle.cluster_model.specs.Cluster.{Ticket, Node, Life, Slot, slot_at, with_slot, epoch_of}
use Rattle.cluster_model.specs.Cluster.Life.{Up, Down, Lost}
use Rattle.cluster_model.specs.Store.{Update, take_all, here_updates, gone_updates, is_wanted, with_octets, updates_of}
use Rattle.cluster_model.specs.Rules.{Reaction, store_of, mishap, failed_at, with_pushed, told_at, ticket_at, acked_at, shrunk, retired_at, idle, letters_to, receivers, with_updates, push, widened, dated, marks_for, end_ticket, refuse}
use Rattle.cluster_model.specs.Forms.{promise_records}
use Rattle.cluster_model.specs.Thrown.{with_stamps}
use Rattle.cluster_model.specs.Deeds.{slot_up, hear, hear_body}
use Rattle.cluster_model.specs.Room.{Flight, has_room, keys_pushed}
use Rattle.cluster_model.specs.World.{World, flies_on, other_end, missed_by, missed_at, missed_under, missed, put}
use Rattle.cluster_model.specs.Steps.{NodeCall, Step, Said, mishaps_of_call, ids_drawn}
use Rattle.cluster_model.specs.Steps.NodeCall.{Deliver, Login, Fetch, Strike, Leave}
use Rattle.cluster_model.specs.Steps.Step.{Begin, AskFor, GiveUp, Post, DropLetter, PushTo, Widen, Form, Crash, Start, Lose, Tick}
use Rattle.cluster_model.specs.Steps.Said.{Faulted}
use Rattle.cluster_model.specs.Makes.{after, with_struck, begun_by, targets_for, asked_for, IsFiled, BeginsCall, AnswersAsk, Posts, Pushes, Widens, FormsAt, DoesStep}
use Rattle.cluster_model.specs.Makes.BeginsCall.{FailsAtOnce, Goes, FailsInIt}
use Rattle.cluster_model.specs.Makes.AnswersAsk.{Waits, Ends}
use Rattle.cluster_model.specs.Makes.Posts.{NobodyUp, OfOtherEpoch, TooLate, IsHeard, FailsHearing, IsForMaps, FailsForMaps}
use Rattle.cluster_model.specs.Makes.Pushes.{Sends, FailsPushing}
use Rattle.cluster_model.specs.Makes.Widens.{Adds, FailsWidening}
use Rattle.cluster_model.specs.Makes.FormsAt.{Does, HasNone, FailsForming}
use Rattle.cluster_model.specs.StepMerges.{disk_at, taken_by_letter, StepTakes, SaysMerge, IsDoneWhole}
use Rattle.cluster_model.specs.StepMerges.StepTakes.{TakesNone, OfLetter, OfDelivery, OfDeletion, OfWidening}
use Rattle.cluster_model.proofs.Slots.{at_same}
use Rattle.cluster_model.proofs.Merged.{says_merge}
use Rattle.cluster_model.proofs.Forming.{said_with_promise}
use Rattle.cluster_model.proofs.Reading.{SeesOne, SeesFall, begins_seen, answers_seen, gives_up_seen, posts_seen, drops_seen}
use Rattle.cluster_model.proofs.Reading.SeesOne.{Turns, Refuses, Sends as SendsOne, Takes as TakesOut}

slot_other : (slots : List Slot) (n m : ℕ) (y : Slot) → m ≢ n → slot_at (with_slot slots n y) m ≡ slot_at slots m
slot_other slots zero m y h = refl
slot_other slots (suc k) zero y h = refl
slot_other slots (suc k) (suc j) y h = get_set_other slots k j y (λ e. h (ap suc e))

-- each disk is as it was
abbrev SameDisks : List Slot → List Slot → Type 0
SameDisks slots now = (m : ℕ) → disk_at (slot_at now m) ≡ disk_at (slot_at slots m)

-- a slot was written that has the same disk
write_same : (slots : List Slot) (n : ℕ) (x y : Slot) → slot_at slots n ≡ Some x → y.disk ≡ x.disk → SameDisks slots (with_slot slots n y)
write_same slots n x y here same m = ⊎_elim
    (λ (e : m ≡ n). ap (λ k. disk_at (slot_at (with_slot slots n y) k)) e ∙ ap disk_at (at_same slots n x y here) ∙ ap Some same ∙ sym (ap disk_at here) ∙ ap (λ k. disk_at (slot_at slots k)) (sym e))
    (λ apart. ap disk_at (slot_other slots n m y apart))
    (cases_eq m n)

-- a mishap writes nothing
noted_disk : (kind : MishapKind) (node : Node) (disk : List Record) (seq at : ℕ) (o : Option Ticket) → (failed_at kind node disk seq at o).disk ≡ disk
noted_disk kind node disk seq at None = refl
noted_disk kind node disk seq at (Some ticket) = refl

module _ (kind : MishapKind) (slots : List Slot) where
  by_disks : (at : ℕ) (number : Number) (disk : List Record) (life : Life) → slot_at slots number.node ≡ Some (record { life = life; disk = disk }) → SameDisks slots (missed_by kind slots at number disk life)
  by_disks at number disk (Up node) here = by (nat_eq number.boot node.boot)
    where
      by : (b : Bool) → SameDisks slots (if b then with_slot slots number.node (slot_up (mishap kind number.seq at node disk).node (mishap kind number.seq at node disk).disk) else slots)
      by true = write_same slots number.node (slot_up node disk) (slot_up (mishap kind number.seq at node disk).node (mishap kind number.seq at node disk).disk) here (noted_disk kind node disk number.seq at (fin.get node.tickets number.seq))
      by false = λ m. refl
  by_disks at number disk (Down pending) here = λ m. refl
  by_disks at number disk Lost here = λ m. refl

  at_disks : (at : ℕ) (number : Number) (o : Option Slot) → slot_at slots number.node ≡ o → SameDisks slots (missed_at kind slots at number o)
  at_disks at number None here = λ m. refl
  at_disks at number (Some slot) here = by_disks at number slot.disk slot.life here

  under_disks : (letter : Letter) (o : Option Number) → SameDisks slots (missed_under kind slots letter o)
  under_disks letter None = λ m. refl
  under_disks letter (Some number) = at_disks (other_end letter number) number (slot_at slots number.node) refl

missed_disks : (kind : MishapKind) (slots : List Slot) (letter : Letter) → SameDisks slots (missed kind slots letter)
missed_disks kind slots letter = under_disks kind slots letter letter.ticket

put_disks : (room : List Flight → Letter → Bool) (letters : List Letter) (w : World) → SameDisks w.slots (put room letters w).slots
put_disks room [] w = λ m. refl
put_disks room (letter ∷ letters) w = by (λ v. put_disks room letters v) (room w.flying letter)
  where
    by : ((v : World) → SameDisks v.slots (put room letters v).slots) → (b : Bool)
        → SameDisks w.slots (if b then put room letters (record w { flying = w.flying ++ record { number = w.sent + 1; letter = letter } ∷ []; sent = w.sent + 1 })
        else put room letters (record w { slots = missed Crowded w.slots letter })).slots
    by rest true = rest (record w { flying = w.flying ++ record { number = w.sent + 1; letter = letter } ∷ []; sent = w.sent + 1 })
    by rest false = λ m. rest (record w { slots = missed Crowded w.slots letter }) m ∙ missed_disks Crowded w.slots letter m

-- Octets that are stored say nothing of objects.
stored_says : (key : Key) (disk : List Record) (id : Id) (octets : List ℕ) (b : Bool) → said key (disk ++ (if b then Octets id octets ∷ [] else [])) ≡ said key disk
stored_says key disk id octets true = said_octets key disk id octets
stored_says key disk id octets false = ap (said key) (append-nil disk)

-- What a rule leaves: the disk says the merge.
abbrev Merges : List Record → List Record → List Update → Type 0
Merges disk now updates = (key : Key) → said key now ≡ join_after (said key disk) (updates_of key updates)

pushed_says : (key other : Key) (octets : Option (List ℕ)) (disk : List Record) → said key (with_pushed other octets disk) ≡ said key disk
pushed_says key (Profile user) octets disk = refl
pushed_says key (Message user id) None disk = refl
pushed_says key (Message user id) (Some octets) disk = stored_says key disk id octets (is_wanted id (user ∷ []) disk)

told_says : (node : Node) (disk : List Record) (letter : Letter) (o : Option Ticket) → (told_at node disk letter o).disk ≡ disk
told_says node disk letter None = refl
told_says node disk letter (Some ticket) = refl

shrunk_says : (own nodes : ℕ) (node : Node) (disk : List Record) (other : Key) (entry : Logged) (key : Key) → said key (shrunk own nodes node disk other entry).disk ≡ said key disk
shrunk_says own nodes node disk other entry key = by (nat_eq entry.remaining 0)
  where
    by : (b : Bool) → said key ((λ (r : Reaction). r.disk) (if b
        then record { node = record node { log = fin.remove node.log other }; disk = disk ++ Retired other entry.state ∷ []; out = letters_to own (epoch_of node) None (receivers own entry.state.targets nodes) (Retire other entry.state) }
        else record { node = record node { log = fin.insert node.log other entry }; disk = disk; out = [] })) ≡ said key disk
    by true = said_retired key other disk entry.state
    by false = refl

acked_says : (own nodes : ℕ) (node : Node) (disk : List Record) (other : Key) (state : State) (from : ℕ) (o : Option Logged) (key : Key) → said key (acked_at own nodes node disk other state from o).disk ≡ said key disk
acked_says own nodes node disk other state from None key = refl
acked_says own nodes node disk other state from (Some entry) key = by (is_same_state entry.state state && has entry.remaining from)
  where
    by : (b : Bool) → said key ((λ (r : Reaction). r.disk) (if b then shrunk own nodes node disk other (cleared from entry) else idle node disk)) ≡ said key disk
    by true = shrunk_says own nodes node disk other (cleared from entry) key
    by false = refl

retired_says : (node : Node) (disk : List Record) (other : Key) (state : State) (o : Option Logged) (key : Key) → said key (retired_at node disk other state o).disk ≡ said key disk
retired_says node disk other state None key = refl
retired_says node disk other state (Some entry) key = by (is_same_state entry.state state)
  where
    by : (b : Bool) → said key ((λ (r : Reaction). r.disk) (if b then record { node = record node { log = fin.remove node.log other }; disk = disk ++ Retired other entry.state ∷ []; out = [] } else idle node disk)) ≡ said key disk
    by true = said_retired key other disk entry.state
    by false = refl

heard_merges : (own nodes : ℕ) (node : Node) (disk : List Record) (letter : Letter) (b : Body) → Merges disk (hear_body own nodes node disk letter b).disk (taken_by_letter nodes b)
heard_merges own nodes node disk letter (File id stamp targets users octets) key =
    says_merge own (here_updates id stamp targets users) (store_of node (with_octets id users octets disk)) key
    ∙ ap (λ held. join_after held (updates_of key (here_updates id stamp targets users))) (stored_says key disk id octets (is_wanted id users disk))
heard_merges own nodes node disk letter (StrikeBody user marks) key = says_merge own (gone_updates user (all_nodes nodes) marks) (store_of node disk) key
heard_merges own nodes node disk letter (Push other state octets) key =
    says_merge own (record { key = other; state = state } ∷ []) (store_of node (with_pushed other octets disk)) key
    ∙ ap (λ held. join_after held (updates_of key (record { key = other; state = state } ∷ []))) (pushed_says key other octets disk)
heard_merges own nodes node disk letter (Filed id) key = ap (said key) (told_says node disk letter (ticket_at own node letter.ticket))
heard_merges own nodes node disk letter (StrikeTold user ids) key = ap (said key) (told_says node disk letter (ticket_at own node letter.ticket))
heard_merges own nodes node disk letter (PushAck other state) key = acked_says own nodes node disk other state letter.from (fin.get node.log other) key
heard_merges own nodes node disk letter (Retire other state) key = retired_says node disk other state (fin.get node.log other) key
heard_merges own nodes node disk letter body key = refl

-- a promise is appended, or nothing
promise_merges : (disk disk' : List Record) (promise : Option EpochId) → disk' ≡ disk ++ promise_records promise → Merges disk disk' []
promise_merges disk disk' promise is key = ap (said key) is ∙ said_with_promise key disk promise

-- a step in which one node did this
module _ (old new w : World) (same : w.slots ≡ old.slots) (own : ℕ) (node : Node) (disk : List Record) (up : slot_at old.slots own ≡ Some (slot_up node disk)) (did : Reaction) (is : new ≡ after w own did)
    (updates : List Update) (merges : Merges disk did.disk updates) where
  written : World
  written = record w { slots = with_slot w.slots own (slot_up did.node did.disk) }

  now_is : (m : ℕ) → disk_at (slot_at new.slots m) ≡ disk_at (slot_at (with_slot old.slots own (slot_up did.node did.disk)) m)
  unfolding written
  now_is m = ap (λ (x : World). disk_at (slot_at x.slots m)) is ∙ put_disks has_room did.out written m ∙ ap (λ slots. disk_at (slot_at (with_slot slots own (slot_up did.node did.disk)) m)) same

  did_merge : SaysMerge old new own updates
  did_merge = record {
    own_says = λ d d' e f key.
        let was : disk ≡ d = some_same disk d (sym (ap disk_at up) ∙ e) in
        let now : did.disk ≡ d' = some_same did.disk d' (sym (now_is own ∙ ap disk_at (at_same old.slots own (slot_up node disk) (slot_up did.node did.disk) up)) ∙ f) in
        subst (λ x. said key x ≡ join_after (said key d) (updates_of key updates)) now (subst (λ x. said key did.disk ≡ join_after (said key x) (updates_of key updates)) was (merges key));
    others = λ m apart. now_is m ∙ ap disk_at (slot_other old.slots own m (slot_up did.node did.disk) apart);
  }
    where
      some_same : (a b : List Record) → Some a ≡ Some b → a ≡ b
      some_same a b e = cc

-- what a step takes, and that its disk says the merge
abbrev Takes : Plan → World → Step → World → Type 0
Takes plan old step new = (own : ℕ) × (updates : List Update) × StepTakes plan old step own updates × SaysMerge old new own updates

module _ (plan : Plan) (old new : World) (step : Step) where
  -- no disk is changed
  takes_none : SameDisks old.slots new.slots → Takes plan old step new
  takes_none same = (0, [], TakesNone refl, record { own_says = λ d d' e f key. let never : None ≡ Some d = e in cc; others = λ m apart. same m })

  same_takes : new ≡ old → Takes plan old step new
  same_takes e = takes_none (λ m. ap (λ (w : World). disk_at (slot_at w.slots m)) e)

  slots_take : (slots : List Slot) → new.slots ≡ slots → SameDisks old.slots slots → Takes plan old step new
  slots_take slots e same = takes_none (λ m. ap (λ (xs : List Slot). disk_at (slot_at xs m)) e ∙ same m)

-- what messages see of calls that read changes no disk
abbrev Keeps : World → World → Type 0
Keeps old new = SameDisks old.slots new.slots

keeps_stays : (w : World) → Keeps w w
keeps_stays w m = refl

keeps_then : (a b c : World) → Keeps a b → Keeps b c → Keeps a c
keeps_then a b c first others m = others m ∙ first m

sees_keep : (a b : World) → SeesOne a b → Keeps a b
sees_keep a b (Turns own node disk calls count up e) m = ap (λ (w : World). disk_at (slot_at w.slots m)) e
    ∙ write_same a.slots own (slot_up node disk) (slot_up (record node { calls = calls; count = count }) disk) up refl m
sees_keep a b (Refuses own node disk kind mishaps up e) m = ap (λ (w : World). disk_at (slot_at w.slots m)) e
    ∙ write_same a.slots own (slot_up node disk) (slot_up (refuse kind mishaps 0 node disk).node disk) up refl m
sees_keep a b (SendsOne letter l e) m = ap (λ (w : World). disk_at (slot_at w.slots m)) e
sees_keep a b (TakesOut number flies keep of e) m = ap (λ (w : World). disk_at (slot_at w.slots m)) e

fall_keeps : (own : ℕ) (a b : World) → SeesFall own a b → Keeps a b
fall_keeps own a b f m = ap (λ (w : World). disk_at (slot_at w.slots m)) f.is
    ∙ write_same a.slots own (slot_up f.node f.disk) (record { life = Down []; disk = f.disk ++ [] }) f.up (append-nil f.disk) m

struck_slots : (old : World) (call : NodeCall) → (with_struck old call).slots ≡ old.slots
struck_slots old (Strike user items) = refl
struck_slots old (Deliver mail) = refl
struck_slots old (Login user proof) = refl
struck_slots old (Fetch user id from most holders) = refl
struck_slots old (Leave user login manager) = refl

not_faulted : (step : Step) (said : Said) (n : ℕ) → said ≡ Faulted n → IsDoneWhole step said → ((node : ℕ) → step ≡ Start node → ⊥) → ((node : ℕ) → step ≡ Lose node → ⊥) → ⊥
not_faulted (Begin node call) said n e whole a b = subst (IsDoneWhole (Begin node call)) e whole
not_faulted (AskFor ticket) said n e whole a b = subst (IsDoneWhole (AskFor ticket)) e whole
not_faulted (GiveUp ticket) said n e whole a b = subst (IsDoneWhole (GiveUp ticket)) e whole
not_faulted (Post letter keep) said n e whole a b = subst (IsDoneWhole (Post letter keep)) e whole
not_faulted (DropLetter letter) said n e whole a b = subst (IsDoneWhole (DropLetter letter)) e whole
not_faulted (PushTo from to) said n e whole a b = subst (IsDoneWhole (PushTo from to)) e whole
not_faulted (Widen at user id to) said n e whole a b = subst (IsDoneWhole (Widen at user id to)) e whole
not_faulted (Form node) said n e whole a b = subst (IsDoneWhole (Form node)) e whole
not_faulted (Crash node) said n e whole a b = subst (IsDoneWhole (Crash node)) e whole
not_faulted (Start node) said n e whole a b = a node refl
not_faulted (Lose node) said n e whole a b = b node refl
not_faulted (Tick seconds) said n e whole a b = subst (IsDoneWhole (Tick seconds)) e whole

module _ (plan : Plan) (tells : Bool) (old new : World) where
  -- a call that goes
  goes_take : (own : ℕ) (call : NodeCall) (node : Node) (disk : List Record) (octets : List ℕ) → slot_at old.slots own ≡ Some (slot_up node disk) → IsFiled old own node call octets
      → new ≡ after (with_struck old call) own (begun_by plan old own node disk call octets) → Takes plan old (Begin own call) new
  goes_take own (Deliver mail) node disk octets up filed e = by (has (targets_for plan own node) own) refl
    where
      id : Id
      id = record { node = own; boot = node.boot; seq = node.drawn + 1 }

      stamp : Stamp
      stamp = record { count = node.count + 1; boot = node.boot; node = own }

      did : Reaction
      did = begun_by plan old own node disk (Deliver mail) octets

      taken : List Update
      taken = here_updates id stamp (targets_for plan own node) mail.mailboxes

      disk_of : (b : Bool) → has (targets_for plan own node) own ≡ b
          → did.disk ≡ (if b then take_all own taken (store_of node (with_octets id mail.mailboxes octets disk)) else store_of node disk).disk
      disk_of b h = ap (λ c. (if c then take_all own taken (store_of node (with_octets id mail.mailboxes octets disk)) else store_of node disk).disk) h

      by : (b : Bool) → has (targets_for plan own node) own ≡ b → Takes plan old (Begin own (Deliver mail)) new
      by true h = (
        own,
        taken,
        OfDelivery mail id stamp (targets_for plan own node) refl refl,
        did_merge old new old refl own node disk up did e taken (λ key.
            ap (said key) (disk_of true h) ∙ says_merge own taken (store_of node (with_octets id mail.mailboxes octets disk)) key
            ∙ ap (λ held. join_after held (updates_of key taken)) (stored_says key disk id octets (is_wanted id mail.mailboxes disk))),
      )
      by false h = (own, [], TakesNone refl, did_merge old new old refl own node disk up did e [] (λ key. ap (said key) (disk_of false h)))
  goes_take own (Strike user items) node disk octets up filed e =
      let marks = marks_for own (dated own node node.count (asked_for plan own node items)) in (
        own,
        gone_updates user (all_nodes plan.nodes) marks,
        OfDeletion user items marks refl refl,
        did_merge old new (with_struck old (Strike user items)) refl own node disk up (begun_by plan old own node disk (Strike user items) octets) e (gone_updates user (all_nodes plan.nodes) marks)
            (λ key. says_merge own (gone_updates user (all_nodes plan.nodes) marks) (store_of node disk) key),
      )
  goes_take own (Login user proof) node disk octets up filed e = absurd filed
  goes_take own (Fetch user id from most holders) node disk octets up filed e = absurd filed
  goes_take own (Leave user login manager) node disk octets up filed e = absurd filed

  begins_take : (own : ℕ) (call : NodeCall) (said : Said) → BeginsCall plan tells old own call said new → IsDoneWhole (Begin own call) said → Takes plan old (Begin own call) new
  begins_take own call said (FailsAtOnce node disk kind up of_kind fails is e) whole =
      (own, [], TakesNone refl, did_merge old new (with_struck old call) (struck_slots old call) own node disk up (refuse kind (mishaps_of_call plan old.seconds node call) (ids_drawn call) node disk) e [] (λ key. refl))
  begins_take own call said (Goes node disk octets up fails filed is e) whole = goes_take own call node disk octets up filed e
  begins_take own call said (FailsInIt node disk octets up filed is g) whole = absurd (not_faulted (Begin own call) said own is whole (λ n s. cc s) (λ n s. cc s))

  asks_take : (number : Number) (said : Said) → AnswersAsk plan old number said new → Takes plan old (AskFor number) new
  asks_take number said (Waits node disk ticket up found got wanted pends is e) = same_takes plan old new (AskFor number) e
  asks_take number said (Ends node disk ticket up found answer done is e) = slots_take plan old new (AskFor number) (with_slot old.slots number.node (slot_up (end_ticket number.seq node disk).node disk)) (ap (λ (w : World). w.slots) e)
      (write_same old.slots number.node (slot_up node disk) (slot_up (end_ticket number.seq node disk).node disk) up refl)

  posts_take : (number : ℕ) (keep : Bool) (said : Said) → Posts plan old number keep said new → IsDoneWhole (Post number keep) said → Takes plan old (Post number keep) new
  posts_take number keep said (NobodyUp flies nobody is e) whole = slots_take plan old new (Post number keep) (missed DownKind old.slots flies.letter) (ap (λ (w : World). w.slots) e) (missed_disks DownKind old.slots flies.letter)
  posts_take number keep said (OfOtherEpoch flies node disk up thrown is e) whole = slots_take plan old new (Post number keep) (missed StaleKind old.slots flies.letter) (ap (λ (w : World). w.slots) e) (missed_disks StaleKind old.slots flies.letter)
  posts_take number keep said (TooLate flies node disk up thrown is e) whole = slots_take plan old new (Post number keep) old.slots (ap (λ (w : World). w.slots) e) (λ m. refl)
  posts_take number keep said (IsHeard flies node disk up thrown is e) whole = (
    flies.letter.to,
    taken_by_letter plan.nodes flies.letter.body,
    OfLetter number keep flies refl refl refl,
    did_merge old new (record old { flying = flies_on old number flies keep }) refl flies.letter.to node disk up (hear flies.letter.to plan.nodes node disk flies.letter) e (taken_by_letter plan.nodes flies.letter.body)
        (heard_merges flies.letter.to plan.nodes (with_stamps flies.letter.body node) disk flies.letter flies.letter.body),
  )
  posts_take number keep said (FailsHearing flies node disk up thrown is down g e) whole = absurd (not_faulted (Post number keep) said flies.letter.to is whole (λ n s. cc s) (λ n s. cc s))
  posts_take number keep said (IsForMaps flies node disk up of fresh is did f e) whole = (
    flies.letter.to,
    [],
    TakesNone refl,
    did_merge old new (record old { flying = flies_on old number flies keep }) refl flies.letter.to node disk up did e [] (promise_merges disk did.disk f.promise f.disk_is),
  )
  posts_take number keep said (FailsForMaps flies node disk promise up of fresh is down g e) whole = absurd (not_faulted (Post number keep) said flies.letter.to is whole (λ n s. cc s) (λ n s. cc s))

  forms_take : (own : ℕ) (said : Said) → FormsAt old own said new → IsDoneWhole (Form own) said → Takes plan old (Form own) new
  forms_take own said (Does node disk up is did f e) whole = (own, [], TakesNone refl, did_merge old new old refl own node disk up did e [] (promise_merges disk did.disk f.promise f.disk_is))
  forms_take own said (HasNone is e) whole = same_takes plan old new (Form own) e
  forms_take own said (FailsForming node disk promise up is g) whole = absurd (not_faulted (Form own) said own is whole (λ n s. cc s) (λ n s. cc s))

  pushes_take : (own to : ℕ) (said : Said) → Pushes old own to said new → IsDoneWhole (PushTo own to) said → Takes plan old (PushTo own to) new
  pushes_take own to said (Sends node disk up is e) whole = (own, [], TakesNone refl, did_merge old new old refl own node disk up (push own to (keys_pushed old.flying own to node disk) node disk) e [] (λ key. refl))
  pushes_take own to said (FailsPushing node disk up is e) whole = absurd (not_faulted (PushTo own to) said own is whole (λ n s. cc s) (λ n s. cc s))

  widened_take : (own to : ℕ) (user : List ℕ) (id : Id) (node : Node) (disk : List Record) → slot_at old.slots own ≡ Some (slot_up node disk) → (o : Option State)
      → new ≡ after old own (widened own to (Message user id) node disk o) → Takes plan old (Widen own user id to) new
  widened_take own to user id node disk up None e = (own, [], TakesNone refl, did_merge old new old refl own node disk up (idle node disk) e [] (λ key. refl))
  widened_take own to user id node disk up (Some held) e = by (is_here held.value && not (has held.targets to)) e
    where
      taken : List Update
      taken = record { key = Message user id; state = record held { targets = with_node held.targets to } } ∷ []

      wider : Reaction
      wider = record { node = with_updates own node taken (take_all own taken (store_of node disk)); disk = (take_all own taken (store_of node disk)).disk; out = [] }

      by : (b : Bool) → new ≡ after old own (if b then wider else idle node disk) → Takes plan old (Widen own user id to) new
      by true f = (own, taken, OfWidening user id to (record held { targets = with_node held.targets to }) refl refl, did_merge old new old refl own node disk up wider f taken (λ key. says_merge own taken (store_of node disk) key))
      by false f = (own, [], TakesNone refl, did_merge old new old refl own node disk up (idle node disk) f [] (λ key. refl))

  widens_take : (own to : ℕ) (user : List ℕ) (id : Id) (said : Said) → Widens old own to (Message user id) said new → IsDoneWhole (Widen own user id to) said → Takes plan old (Widen own user id to) new
  widens_take own to user id said (Adds node disk up is e) whole = widened_take own to user id node disk up _ e
  widens_take own to user id said (FailsWidening node disk up is g) whole = absurd (not_faulted (Widen own user id to) said own is whole (λ n s. cc s) (λ n s. cc s))

  pub step_merges : (step : Step) (said : Said) → DoesStep plan tells old step said new → IsDoneWhole step said → Takes plan old step new
  step_merges (Begin node call) said (inl d) whole = begins_take node call said d whole
  step_merges (Begin node call) said (inr d) whole = takes_none plan old new (Begin node call) (begins_seen Keeps keeps_stays keeps_then sees_keep plan node call said old new (λ n e a b f. fall_keeps n a b f) d)
  step_merges (AskFor ticket) said (inl d) whole = asks_take ticket said d
  step_merges (AskFor ticket) said (inr d) whole = takes_none plan old new (AskFor ticket) (answers_seen Keeps keeps_stays keeps_then sees_keep ticket said old new d)
  step_merges (GiveUp ticket) said (inr d) whole = takes_none plan old new (GiveUp ticket) (gives_up_seen Keeps keeps_stays keeps_then sees_keep ticket said old new d)
  step_merges (GiveUp ticket) said (inl d) whole = (ticket.node, [], TakesNone refl, did_merge old new old refl ticket.node d.node d.disk d.up (end_ticket ticket.seq d.node d.disk) d.new_world [] (λ key. refl))
  step_merges (Post letter keep) said (inl d) whole = posts_take letter keep said d.0 whole
  step_merges (Post letter keep) said (inr d) whole = takes_none plan old new (Post letter keep) (posts_seen Keeps keeps_stays keeps_then sees_keep letter keep said old new (λ n e a b f. fall_keeps n a b f) d)
  step_merges (DropLetter letter) said (inl d) whole = slots_take plan old new (DropLetter letter) (missed Dropped old.slots d.0.flies.letter) (ap (λ (w : World). w.slots) d.0.new_world) (missed_disks Dropped old.slots d.0.flies.letter)
  step_merges (DropLetter letter) said (inr d) whole = takes_none plan old new (DropLetter letter) (drops_seen Keeps keeps_stays keeps_then sees_keep letter said old new d)
  step_merges (PushTo from to) said d whole = pushes_take from to said d whole
  step_merges (Widen at user id to) said d whole = widens_take at to user id said d whole
  step_merges (Form node) said d whole = forms_take node said d whole
  step_merges (Crash node) said d whole = slots_take plan old new (Crash node) (with_slot old.slots node (record d.slot { life = Down [] })) (ap (λ (w : World). w.slots) d.new_world)
      (write_same old.slots node d.slot (record d.slot { life = Down [] }) d.here refl)
  step_merges (Start node) said d whole = absurd whole
  step_merges (Lose node) said d whole = absurd whole
  step_merges (Tick seconds) said d whole = slots_take plan old new (Tick seconds) old.slots (ap (λ (w : World). w.slots) d.1) (λ m. refl)
