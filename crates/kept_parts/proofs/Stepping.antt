-- A part over disks and letters: each step for messages keeps it.
use Rattle.std.proofs.Common.{◌≡◌, ◌⊎◌, inl, inr, ⊎_elim, ℕ, ◌+◌, arith, Bool, false, List, [], ◌∷◌, ◌++◌, append-nil, Option, Some, None, refl, sym, ap, ◌∙◌, subst}
use Rattle.mail_model.specs.Identity.{EpochId, Key, State}
use Rattle.mail_model.specs.Identity.Key.{Message}
use Rattle.mail_model.specs.Plan.{Plan}
use Rattle.mail_model.specs.Book.BookEntry.{WentDown}
use Rattle.mail_model.specs.Record.{Record}
use Rattle.mail_model.specs.Record.Record.{Boot, Stated}
use Rattle.object_model.specs.Lists.{Among}
use Rattle.object_model.specs.Letters.{Body, Letter}
use Rattle.object_model.specs.Mishaps.MishapKind.{Disk, Dropped, Stale as StaleKind, Down as DownKind}
use Rattle.cluster_model.specs.Cluster.{Node, Slot, slot_at, with_slot, pending_of}
use Rattle.cluster_model.specs.Cluster.Life.{Down, Lost}
use Rattle.cluster_model.specs.Claims.{boot_of}
use Rattle.cluster_model.specs.Moves.{IsReady}
use Rattle.cluster_model.specs.Parts.{Sound}
use Rattle.cluster_model.specs.Rules.{Reaction, push, widen, refuse, end_ticket}
use Rattle.cluster_model.specs.Thrown.{with_stamps}
use Rattle.cluster_model.specs.Forms.{promise_records, FormsEpoch}
use Rattle.cluster_model.specs.Deeds.{slot_up, hear}
use Rattle.cluster_model.specs.Room.{Flight, keys_pushed}
use Rattle.cluster_model.specs.Starts.{StopsStart}
use Rattle.cluster_model.specs.World.{World, cluster_of, letters_of, missed, flies_on}
use Rattle.cluster_model.specs.Steps.{NodeCall, Step, Said, StepOutcome, mishaps_of_call, ids_drawn}
use Rattle.cluster_model.specs.Steps.NodeCall.{Deliver, Login, Fetch, Strike, Leave}
use Rattle.cluster_model.specs.Steps.Step.{Begin, AskFor, GiveUp, Post, DropLetter, PushTo, Widen, Form, Crash, Start, Lose, Tick}
use Rattle.cluster_model.specs.Steps.StepOutcome.{Says, Refused, NoMemory}
use Rattle.cluster_model.specs.Makes.{IsUp, with_struck, begun_by, cut_world, BeginsCall, AnswersAsk, Posts, FormsAt, DoesStep, RunsShort, MakesStep}
use Rattle.cluster_model.specs.Makes.BeginsCall.{FailsAtOnce, Goes, FailsInIt}
use Rattle.cluster_model.specs.Makes.AnswersAsk.{Waits, Ends}
use Rattle.cluster_model.specs.Makes.Posts.{NobodyUp, OfOtherEpoch, TooLate, IsHeard, FailsHearing, IsForMaps, FailsForMaps}
use Rattle.cluster_model.specs.Makes.Pushes.{Sends, FailsPushing}
use Rattle.cluster_model.specs.Makes.Widens.{Adds, FailsWidening}
use Rattle.cluster_model.specs.Makes.FormsAt.{Does, HasNone, FailsForming}
use Rattle.cluster_model.specs.Makes.StartsUp.{Comes, FailsStarting}
use Rattle.cluster_model.specs.Makes.RunsShort.{Beginning, Hearing, Widening, Forming, Starting}
use Rattle.cluster_model.proofs.Reading.{SeesOne, SeesFall, begins_seen, answers_seen, gives_up_seen, posts_seen, drops_seen}
use Rattle.cluster_model.proofs.Reading.SeesOne.{Turns, Refuses, Sends as SendsOne, Takes}
use Rattle.cluster_model.proofs.Missing.{letters_last}
use Rattle.object_model.proofs.Lists.{among_last}
use Rattle.cluster_model.proofs.Stepping.{flew}
use Rattle.whole_world.proofs.Plain.{soft_missed}
use Rattle.whole_world.proofs.Stepwise.{flew_on}
use Rattle.kept_parts.proofs.Holding.{Stays, Holds, Keeps, same_hold, write_hold, soft_hold, after_hold, cut_hold, lost_hold}

struck_slots : (w : World) (call : NodeCall) → ((with_struck w call).slots ≡ w.slots) × ((with_struck w call).flying ≡ w.flying)
struck_slots w (Deliver mail) = (refl, refl)
struck_slots w (Strike user items) = (refl, refl)
struck_slots w (Login user proof) = (refl, refl)
struck_slots w (Fetch user id from most holders) = (refl, refl)
struck_slots w (Leave user login manager) = (refl, refl)

-- what is appended for membership says nothing of states
no_promised : (promise : Option EpochId) (key : Key) (state : State) → Among (Stated key state) (promise_records promise) → ⊥
no_promised None key state m = m
no_promised (Some epoch) key state m = ⊎_elim (λ e. cc e) (λ none. none) m

pub no_state : (boot : ℕ) (key : Key) (state : State) → Among (Stated key state) (Boot boot ∷ []) → ⊥
no_state boot key state m = ⊎_elim (λ e. cc e) (λ none. none) m

module _ (P : List Record → Type 0) (B : Body → Type 0) (s : Stays P B) where
  -- what the rules of a node do
  pub record Rules (plan : Plan) : Type 0 where
    pub hears : (own : ℕ) (node : Node) (disk : List Record) (letter : Letter) → B letter.body → Keeps P B disk (hear own plan.nodes node disk letter)
    pub begins : (w : World) (own : ℕ) (node : Node) (disk : List Record) (call : NodeCall) (octets : List ℕ) → Keeps P B disk (begun_by plan w own node disk call octets)
    pub pushes : (own to : ℕ) (keys : List Key) (node : Node) (disk : List Record) → IsReady own (slot_up node disk) None → Keeps P B disk (push own to keys node disk)
    pub widens : (own to : ℕ) (key : Key) (node : Node) (disk : List Record) → Keeps P B disk (widen own to key node disk)

  promised : (disk : List Record) (promise : Option EpochId) → P disk → P (disk ++ promise_records promise)
  promised disk promise p = s.plain disk (promise_records promise) (no_promised promise) p

  forms_keep : (node : Node) (disk : List Record) (did : Reaction) → FormsEpoch node disk did → Keeps P B disk did
  forms_keep node disk did f = λ p. (subst P (sym f.disk_is) (promised disk f.promise p), λ one m. s.maps one.body (f.sends one m).body)

  -- what a start finds of what was pending
  pub image : (disk pending kept : List Record) → (kept ≡ []) ⊎ (kept ≡ pending) → P (disk ++ pending) → P (disk ++ kept)
  image disk pending kept is p = ⊎_elim
      (λ none. subst (λ k. P (disk ++ k)) (sym none) (subst P (sym (append-nil disk)) (s.prefix disk pending p)))
      (λ all. subst (λ k. P (disk ++ k)) (sym all) p) is

  pub stopped : (disk pending next records : List Record) → StopsStart disk pending next records → P (disk ++ pending) → P (records ++ next)
  stopped disk pending next records stops p = ⊎_elim
      (λ none. subst (λ k. P (records ++ k)) (sym none) (subst P (sym (append-nil records)) found))
      (λ more. ⊎_elim
      (λ boot. subst (λ k. P (records ++ k)) (sym boot) (s.plain records (Boot (boot_of (disk ++ stops.kept) + 1) ∷ []) (no_state (boot_of (disk ++ stops.kept) + 1)) found))
      (λ (none, all). subst (λ k. P (records ++ k)) (sym all) (subst (λ k. P (k ++ pending)) (sym (stops.records ∙ ap (λ k. disk ++ k) none ∙ append-nil disk)) p))
      more)
      stops.next_is
    where
      found : P records
      found = subst P (sym stops.records) (image disk pending stops.kept stops.pending_is p)

  -- what messages see of calls that read
  abbrev StayHeld : World → World → Type 0
  StayHeld a b = Holds P B a → Holds P B b

  stay_held : (w : World) → StayHeld w w
  stay_held w h = h

  held_then : (a b c : World) → StayHeld a b → StayHeld b c → StayHeld a c
  held_then a b c first others h = others (first h)

  sees_hold : (a b : World) → SeesOne a b → StayHeld a b
  sees_hold a b (Turns own node disk calls count up e) h = subst (Holds P B) (sym e)
      (write_hold P B a _ own (slot_up node disk) (slot_up (record node { calls = calls; count = count }) disk) up (h.disks own (slot_up node disk) up) refl (λ letter m. m) h)
  sees_hold a b (Refuses own node disk kind mishaps up e) h = subst (Holds P B) (sym e)
      (after_hold P B a h own node disk up (refuse kind mishaps 0 node disk) (λ p. (p, λ one m. absurd m)))
  sees_hold a b (SendsOne letter l e) h = subst (Holds P B) (sym e) (record {
    disks = h.disks;
    letters = λ one m. ⊎_elim
        (λ before. h.letters one before)
        (λ is. subst (λ (x : Letter). B x.body) is (s.reads letter.body l.body))
        (among_last one (letters_of a.flying) letter (subst (Among one) (letters_last a.flying (record { number = a.sent + 1; letter = letter })) m));
  })
  sees_hold a b (Takes number flies keep of e) h = subst (Holds P B) (sym e) (same_hold P B a _ refl (λ letter m. flew_on a number flies keep letter m) h)

  fall_hold : (own : ℕ) (a b : World) → SeesFall own a b → StayHeld a b
  fall_hold own a b f h = cut_hold P B s a h own f.node f.disk f.up f.disk (λ p. p) b
      (record { front = []; pending = []; one = omega arith; cut = record { missing = []; is = sym (append-nil f.disk) }; is = f.is })

  module _ (plan : Plan) (r : Rules plan) (old : World) (sound : Sound plan.confirm (cluster_of old)) (h : Holds P B old) where
    struck : (call : NodeCall) → Holds P B (with_struck old call)
    struck call = same_hold P B old (with_struck old call) (struck_slots old call).0 (λ letter m. subst (λ (f : List Flight). Among letter (letters_of f)) (struck_slots old call).1 m) h

    struck_up : (call : NodeCall) (own : ℕ) (node : Node) (disk : List Record) → IsUp old own node disk → IsUp (with_struck old call) own node disk
    struck_up call own node disk up = subst (λ (l : List Slot). slot_at l own ≡ Some (slot_up node disk)) (sym (struck_slots old call).0) up

    quiet : (node : Node) (disk : List Record) → Keeps P B disk (record { node = node; disk = disk; out = [] })
    quiet node disk = λ p. (p, λ one m. absurd m)

    to_new : (w new : World) → new ≡ w → Holds P B w → Holds P B new
    to_new w new e k = subst (Holds P B) (sym e) k

    -- it goes down before it wrote anything
    stops : (new : World) (own : ℕ) (node : Node) (disk : List Record) → IsUp old own node disk → new ≡ cut_world old own disk [] [] → Holds P B new
    stops new own node disk up is = cut_hold P B s old h own node disk up disk (λ p. p) new (record { front = []; pending = []; one = omega arith; cut = record { missing = []; is = sym (append-nil disk) }; is = is })

    begins_hold : (tells : Bool) (own : ℕ) (call : NodeCall) (said : Said) (new : World) → BeginsCall plan tells old own call said new → Holds P B new
    begins_hold tells own call said new (FailsAtOnce node disk kind up of fails is new_world) = to_new _ new new_world
        (after_hold P B (with_struck old call) (struck call) own node disk (struck_up call own node disk up) (refuse kind (mishaps_of_call plan old.seconds node call) (ids_drawn call) node disk)
        (quiet (refuse kind (mishaps_of_call plan old.seconds node call) (ids_drawn call) node disk).node disk))
    begins_hold tells own call said new (Goes node disk octets up fails filed is new_world) = to_new _ new new_world
        (after_hold P B (with_struck old call) (struck call) own node disk (struck_up call own node disk up) (begun_by plan old own node disk call octets) (r.begins old own node disk call octets))
    begins_hold tells own call said new (FailsInIt node disk octets up filed is g) =
        cut_hold P B s (with_struck old call) (struck call) own node disk (struck_up call own node disk up) (begun_by plan old own node disk call octets).disk (λ p. (r.begins old own node disk call octets p).0) new g

    asks_hold : (number : _) (said : Said) (new : World) → AnswersAsk plan old number said new → Holds P B new
    asks_hold number said new (Waits node disk ticket up found got wanted e is new_world) = to_new old new new_world h
    asks_hold number said new (Ends node disk ticket up found reply e is new_world) = to_new _ new new_world
        (write_hold P B old _ number.node (slot_up node disk) (slot_up (end_ticket number.seq node disk).node disk) up (h.disks number.node (slot_up node disk) up) refl (λ letter m. m) h)

    posts_hold : (number : ℕ) (keep : Bool) (said : Said) (new : World) → Posts plan old number keep said new → Holds P B new
    posts_hold number keep said new (NobodyUp f nobody is new_world) = to_new _ new new_world (lost_hold P B old h DownKind number f keep)
    posts_hold number keep said new (OfOtherEpoch f node disk up thrown is new_world) = to_new _ new new_world (lost_hold P B old h StaleKind number f keep)
    posts_hold number keep said new (TooLate f node disk up thrown is new_world) = to_new _ new new_world (same_hold P B old _ refl (λ letter m. flew_on old number f keep letter m) h)
    posts_hold number keep said new (IsHeard f node disk up thrown is new_world) = to_new _ new new_world
        (after_hold P B (record old { flying = flies_on old number f keep }) (same_hold P B old _ refl (λ letter m. flew_on old number f keep letter m) h) f.letter.to node disk up
        (hear f.letter.to plan.nodes node disk f.letter) (r.hears f.letter.to node disk f.letter (h.letters f.letter (flew old number f))))
    posts_hold number keep said new (FailsHearing f node disk up thrown is down g new_world) = to_new _ new new_world
        (soft_hold P B down (record down { slots = missed Disk down.slots f.letter; flying = flies_on old number f keep }) (soft_missed Disk down.slots f.letter)
        (λ letter m. subst (λ (v : World). Among letter (letters_of v.flying)) (sym g.is) (flew_on old number f keep letter m))
        (cut_hold P B s old h f.letter.to node disk up (hear f.letter.to plan.nodes node disk f.letter).disk (λ p. (r.hears f.letter.to node disk f.letter (h.letters f.letter (flew old number f)) p).0) down g))
    posts_hold number keep said new (IsForMaps f node disk up of fresh is did forms new_world) = to_new _ new new_world
        (after_hold P B (record old { flying = flies_on old number f keep }) (same_hold P B old _ refl (λ letter m. flew_on old number f keep letter m) h) f.letter.to node disk up did
        (forms_keep (with_stamps f.letter.body node) disk did forms))
    posts_hold number keep said new (FailsForMaps f node disk promise up of fresh is down g new_world) = to_new _ new new_world
        (same_hold P B down (record down { flying = flies_on old number f keep }) refl
        (λ letter m. subst (λ (v : World). Among letter (letters_of v.flying)) (sym g.is) (flew_on old number f keep letter m))
        (cut_hold P B s old h f.letter.to node disk up (disk ++ promise_records promise) (λ p. promised disk promise p) down g))

    forms_hold : (own : ℕ) (said : Said) (new : World) → FormsAt old own said new → Holds P B new
    forms_hold own said new (Does node disk up is did forms new_world) = to_new _ new new_world (after_hold P B old h own node disk up did (forms_keep node disk did forms))
    forms_hold own said new (HasNone is new_world) = to_new old new new_world h
    forms_hold own said new (FailsForming node disk promise up is g) = cut_hold P B s old h own node disk up (disk ++ promise_records promise) (λ p. promised disk promise p) new g

    stopped_hold : (n : ℕ) (disk pending next records : List Record) (new : World) → slot_at old.slots n ≡ Some (record { life = Down pending; disk = disk }) → StopsStart disk pending next records
        → new ≡ record old { slots = with_slot old.slots n (record { life = Down next; disk = records }); book = old.book ++ WentDown n ∷ [] } → Holds P B new
    stopped_hold n disk pending next records new here stops_ is = to_new _ new is
        (write_hold P B old _ n (record { life = Down pending; disk = disk }) (record { life = Down next; disk = records }) here (stopped disk pending next records stops_ (h.disks n (record { life = Down pending; disk = disk }) here)) refl (λ letter m. m) h)

    ready : (own : ℕ) (node : Node) (disk : List Record) → IsUp old own node disk → IsReady own (slot_up node disk) None
    ready own node disk up = record { order = sound.order.each own (slot_up node disk) up; fits = sound.fit.slots_fit own (slot_up node disk) up; heard_fits = λ letter e. absurd (cc e) }

    steps_hold : (tells : Bool) (step : Step) (said : Said) (new : World) → DoesStep plan tells old step said new → Holds P B new
    steps_hold tells (Begin own call) said new (inl d) = begins_hold tells own call said new d
    steps_hold tells (Begin own call) said new (inr d) = begins_seen StayHeld stay_held held_then sees_hold plan own call said old new (λ n e a b f. fall_hold n a b f) d h
    steps_hold tells (AskFor number) said new (inl d) = asks_hold number said new d
    steps_hold tells (AskFor number) said new (inr d) = answers_seen StayHeld stay_held held_then sees_hold number said old new d h
    steps_hold tells (GiveUp number) said new (inr d) = gives_up_seen StayHeld stay_held held_then sees_hold number said old new d h
    steps_hold tells (GiveUp number) said new (inl d) = to_new _ new d.new_world (after_hold P B old h number.node d.node d.disk d.up (end_ticket number.seq d.node d.disk) (quiet (end_ticket number.seq d.node d.disk).node d.disk))
    steps_hold tells (Post number keep) said new (inl d) = posts_hold number keep said new d.0
    steps_hold tells (Post number keep) said new (inr d) = posts_seen StayHeld stay_held held_then sees_hold number keep said old new (λ n e a b f. fall_hold n a b f) d h
    steps_hold tells (DropLetter number) said new (inl d) = to_new _ new d.0.new_world (lost_hold P B old h Dropped number d.0.flies false)
    steps_hold tells (DropLetter number) said new (inr d) = drops_seen StayHeld stay_held held_then sees_hold number said old new d h
    steps_hold tells (PushTo from to) said new (Sends node disk up is new_world) = to_new _ new new_world
        (after_hold P B old h from node disk up (push from to (keys_pushed old.flying from to node disk) node disk) (r.pushes from to (keys_pushed old.flying from to node disk) node disk (ready from node disk up)))
    steps_hold tells (PushTo from to) said new (FailsPushing node disk up is new_world) = stops new from node disk up new_world
    steps_hold tells (Widen at user id to) said new (Adds node disk up is new_world) = to_new _ new new_world (after_hold P B old h at node disk up (widen at to (Message user id) node disk) (r.widens at to (Message user id) node disk))
    steps_hold tells (Widen at user id to) said new (FailsWidening node disk up is g) = cut_hold P B s old h at node disk up (widen at to (Message user id) node disk).disk (λ p. (r.widens at to (Message user id) node disk p).0) new g
    steps_hold tells (Form n) said new d = forms_hold n said new d
    steps_hold tells (Crash n) said new d = to_new _ new d.new_world
        (write_hold P B old _ n d.slot (record d.slot { life = Down [] }) d.here (subst P (sym (append-nil d.slot.disk)) (s.prefix d.slot.disk (pending_of d.slot.life) (h.disks n d.slot d.here))) refl (λ letter m. m) h)
    steps_hold tells (Start n) said new (Comes disk pending node records here starts fits is new_world) = to_new _ new new_world
        (write_hold P B old _ n (record { life = Down pending; disk = disk }) (slot_up node records) here
        (subst P (sym (append-nil records)) (subst P (sym starts.records) (s.plain (disk ++ starts.kept) _ (no_state (boot_of (disk ++ starts.kept) + 1))
        (image disk pending starts.kept starts.pending_is (h.disks n (record { life = Down pending; disk = disk }) here)))))
        refl (λ letter m. m) h)
    steps_hold tells (Start n) said new (FailsStarting disk pending next records here stops_ is new_world) = stopped_hold n disk pending next records new here stops_ new_world
    steps_hold tells (Lose n) said new d = to_new _ new d.new_world
        (write_hold P B old _ n d.slot (record { life = Lost; disk = d.slot.disk ++ d.kept }) d.here
        (subst P (sym (append-nil (d.slot.disk ++ d.kept))) (image d.slot.disk (pending_of d.slot.life) d.kept d.pending_is (h.disks n d.slot d.here))) refl (λ letter m. m) h)
    steps_hold tells (Tick seconds) said new d = to_new _ new d.1 (same_hold P B old _ refl (λ letter m. m) h)

    short_hold : (step : Step) (n : ℕ) (new : World) → RunsShort plan old step n new → Holds P B new
    short_hold step n new (Beginning call node disk octets is up filed g) =
        cut_hold P B s (with_struck old call) (struck call) n node disk (struck_up call n node disk up) (begun_by plan old n node disk call octets).disk (λ p. (r.begins old n node disk call octets p).0) new g
    short_hold step n new (Hearing number keep f node disk is at up g) =
        cut_hold P B s old h n node disk up (hear n plan.nodes node disk f.letter).disk (λ p. (r.hears n node disk f.letter (h.letters f.letter (flew old number f)) p).0) new g
    short_hold step n new (Widening user id to node disk is up g) = cut_hold P B s old h n node disk up (widen n to (Message user id) node disk).disk (λ p. (r.widens n to (Message user id) node disk p).0) new g
    short_hold step n new (Forming node disk promise up forms g) = cut_hold P B s old h n node disk up (disk ++ promise_records promise) (λ p. promised disk promise p) new g
    short_hold step n new (Starting disk pending next records is here stops_ new_world) = stopped_hold n disk pending next records new here stops_ new_world

    -- whatever comes of a step
    pub one_hold : (tells : Bool) (step : Step) (outcome : StepOutcome) (new : World) → MakesStep plan tells old step outcome new → Holds P B new
    one_hold tells step (Says said) new made = steps_hold tells step said new made.1
    one_hold tells step (Refused fault) new made = to_new old new made.1 h
    one_hold tells step (NoMemory None) new made = to_new old new made h
    one_hold tells step (NoMemory (Some n)) new made = short_hold step n new made
