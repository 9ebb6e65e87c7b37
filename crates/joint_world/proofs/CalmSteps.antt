-- A step of the whole machine, as messages see it, is calm.
use Rattle.std.proofs.Common.{◌≡◌, ◌⊎◌, inl, inr, ⊎_elim, ℕ, ◌+◌, ◌≤◌, ◌<◌, arith, Bool, false, List, [], ◌∷◌, ◌++◌, append-nil, append_assoc, Option, Some, None, refl, sym, ap, ◌∙◌, subst, le_refl, le_of_eq, true≢false}
use Rattle.mail_model.specs.Identity.{EpochId}
use Rattle.mail_model.specs.Identity.Key.{Message}
use Rattle.mail_model.specs.Plan.{Plan}
use Rattle.mail_model.specs.Record.{Record}
use Rattle.mail_model.specs.Record.Record.{Boot}
use Rattle.object_model.specs.Lists.{Among}
use Rattle.object_model.specs.Letters.{Number, Letter}
use Rattle.object_model.specs.Mishaps.{MishapKind}
use Rattle.object_model.specs.Mishaps.MishapKind.{Disk, Dropped, Stale as StaleKind, Down as DownKind}
use Rattle.cluster_model.specs.Cluster.{Node, Slot, slot_at, with_slot, pending_of}
use Rattle.cluster_model.specs.Cluster.Life.{Up, Down, Lost}
use Rattle.cluster_model.specs.Claims.{boot_of}
use Rattle.cluster_model.specs.Moves.{IsInOrder}
use Rattle.cluster_model.specs.Rules.{Reaction, idle, answer, end_ticket}
use Rattle.cluster_model.specs.Deeds.{slot_up, hear}
use Rattle.cluster_model.specs.Forms.{promise_records}
use Rattle.cluster_model.specs.Starts.{StopsStart}
use Rattle.cluster_model.specs.Thrown.{with_stamps}
use Rattle.cluster_model.specs.Room.{Flight, keys_pushed}
use Rattle.cluster_model.specs.World.{World, letters_of, Flies, flies_on}
use Rattle.cluster_model.specs.Steps.{NodeCall, Step, Said, StepOutcome}
use Rattle.cluster_model.specs.Steps.Step.{Begin, AskFor, GiveUp, Post, DropLetter, PushTo, Widen, Form, Crash, Start, Lose, Tick}
use Rattle.cluster_model.specs.Steps.StepOutcome.{Says, Refused, NoMemory}
use Rattle.cluster_model.specs.Makes.{IsUp, after, with_struck, begun_by, lost_letter, NodeGoesDown, cut_world, BeginsCall, AnswersAsk, IsGivenUp, Posts, Drops, DoesStep, RunsShort, MakesStep}
use Rattle.cluster_model.specs.Makes.BeginsCall.{FailsAtOnce, Goes, FailsInIt}
use Rattle.cluster_model.specs.Makes.AnswersAsk.{Waits, Ends}
use Rattle.cluster_model.specs.Makes.Posts.{NobodyUp, OfOtherEpoch, TooLate, IsHeard, FailsHearing, IsForMaps, FailsForMaps}
use Rattle.cluster_model.specs.Makes.Pushes.{Sends, FailsPushing}
use Rattle.cluster_model.specs.Makes.Widens.{Adds, FailsWidening}
use Rattle.cluster_model.specs.Makes.FormsAt.{Does, HasNone, FailsForming}
use Rattle.cluster_model.specs.Makes.StartsUp.{Comes, FailsStarting}
use Rattle.cluster_model.specs.Makes.RunsShort.{Beginning, Hearing, Widening, Forming, Starting}
use Rattle.cluster_model.proofs.StoreSteps.{boot_both}
use Rattle.cluster_model.proofs.Stepping.{flew}
use Rattle.whole_world.proofs.Stepwise.{flew_on}
use Rattle.login_model.specs.Facts.{IsReadBody}
use Rattle.joint_world.specs.Staying.{IsForMail}
use Rattle.joint_world.proofs.Bodies.{unread}
use Rattle.joint_world.proofs.Apart.{begins_none, reads_none, posts_read}
use Rattle.joint_world.proofs.Calm.{Carries, IsCalm, soft_missed, calm_same, calm_write, calm_soft, calm_put, on_kept}
use Rattle.joint_world.proofs.Calm.Turns.{Works, IsOff, Starts}
use Rattle.joint_world.proofs.Doing.{boot_with, promised, Did, still, cut_of, hear_did, begun_did, push_did, widen_did, forms_did, struck_same}

not_up_down : (pending : List Record) (node : Node) → Down pending ≡ Up node → ⊥
not_up_down pending node e = cc

not_up_lost : (node : Node) → Lost ≡ Up node → ⊥
not_up_lost node e = cc

module _ (old : World) (order : (n : ℕ) (slot : Slot) → slot_at old.slots n ≡ Some slot → IsInOrder slot) (apart : (letter : Letter) → Among letter (letters_of old.flying) → letter.from ≡ letter.to → ⊥) (new : World) where
  -- a node that is up does something, over a world with the same slots
  after_calm : (x : World) → x.slots ≡ old.slots → Carries old x → Carries x old → (own : ℕ) (node : Node) (disk : List Record) → IsUp old own node disk → (did : Reaction) → Did own node disk did → new ≡ after x own did → IsCalm old new
  after_calm x same kept came own node disk up did d is = subst (IsCalm old) (sym is) (calm_put old did.out d.quiet (record x { slots = with_slot x.slots own (slot_up did.node did.disk) })
      (calm_write old (record x { slots = with_slot x.slots own (slot_up did.node did.disk) }) own (slot_up node disk) (slot_up did.node did.disk) up
      (Works node did.node refl refl d.boot d.calls (ap boot_of d.grew ∙ boot_with disk d.added d.bootless) (record { rest = d.added; is = d.grew })) (ap (λ (s : List Slot). with_slot s own (slot_up did.node did.disk)) same) kept came))

  -- it goes down in it
  cut_calm : (x : World) → x.slots ≡ old.slots → Carries old x → Carries x old → (own : ℕ) (node : Node) (disk : List Record) → IsUp old own node disk → (did : Reaction) → Did own node disk did → NodeGoesDown x own disk did.disk new → IsCalm old new
  cut_calm x same kept came own node disk up did d g = subst (IsCalm old) (sym g.is)
      (calm_write old (cut_world x own disk g.front g.pending) own (slot_up node disk) (record { life = Down g.pending; disk = disk ++ g.front }) up
      (IsOff (λ n e. not_up_down g.pending n e) (le_of_eq (sym (boot_with disk g.front (cut_of own node disk did d g.front g.pending g.cut)))) (record { rest = g.front; is = refl }))
      (ap (λ (s : List Slot). with_slot s own (record { life = Down g.pending; disk = disk ++ g.front })) same) kept came)

  -- before it wrote anything
  stop_calm : (own : ℕ) (node : Node) (disk : List Record) → IsUp old own node disk → new ≡ cut_world old own disk [] [] → IsCalm old new
  stop_calm own node disk up is = cut_calm old refl (λ letter m of. m) (λ letter m of. m) own node disk up (idle node disk) (still own node node disk refl (le_refl node.calls))
      (record { front = []; pending = []; one = omega arith; cut = record { missing = []; is = sym (append-nil disk) }; is = is })

  lost_calm : (kind : MishapKind) (number : ℕ) (f : Flies old number) (keep : Bool) → (IsReadBody f.letter.body → ⊥) → IsCalm old (lost_letter kind old number f keep)
  lost_calm kind number f keep other = calm_soft old old (lost_letter kind old number f keep) (calm_same old old refl (λ letter m of. m) (λ letter m of. m)) (soft_missed kind old.slots f.letter)
      (λ letter m of. on_kept old number f keep other letter m of) (λ letter m of. flew_on old number f keep letter m)

  -- a node that was down finds what was pending or not
  kept_rises : (n : ℕ) (slot : Slot) → slot_at old.slots n ≡ Some slot → (kept : List Record) → (kept ≡ []) ⊎ (kept ≡ pending_of slot.life) → boot_of slot.disk ≤ boot_of (slot.disk ++ kept)
  kept_rises n slot here kept (inl none) = le_of_eq (sym (ap (λ k. boot_of (slot.disk ++ k)) none ∙ ap boot_of (append-nil slot.disk)))
  kept_rises n slot here kept (inr all) = subst (λ k. boot_of slot.disk ≤ boot_of (slot.disk ++ k)) (sym all) (order n slot here).rises

  stops_calm : (n : ℕ) (disk pending next records : List Record) → slot_at old.slots n ≡ Some (record { life = Down pending; disk = disk }) → StopsStart disk pending next records
      → (mid : World) → mid.slots ≡ with_slot old.slots n (record { life = Down next; disk = records }) → Carries old mid → Carries mid old → IsCalm old mid
  stops_calm n disk pending next records here stops mid is kept came = calm_write old mid n (record { life = Down pending; disk = disk }) (record { life = Down next; disk = records }) here
      (IsOff (λ k e. not_up_down next k e) (subst (λ r. boot_of disk ≤ boot_of r) (sym stops.records) (kept_rises n (record { life = Down pending; disk = disk }) here stops.kept stops.pending_is)) (record { rest = stops.kept; is = stops.records })) is kept came

  begins_calm : (plan : Plan) (tells : Bool) (own : ℕ) (call : NodeCall) (answer : Said) → BeginsCall plan tells old own call answer new → IsCalm old new
  begins_calm plan tells own call answer b = by b
    where
      kept : Carries old (with_struck old call)
      kept letter m of = subst (λ (f : List Flight). Among letter (letters_of f)) (sym (struck_same old call).1) m

      came : Carries (with_struck old call) old
      came letter m of = subst (λ (f : List Flight). Among letter (letters_of f)) (struck_same old call).1 m

      by : BeginsCall plan tells old own call answer new → IsCalm old new
      by (FailsAtOnce node disk kind up of_kind fails is new_world) = after_calm (with_struck old call) (struck_same old call).0 kept came own node disk up _ (still own node _ disk refl (omega arith)) new_world
      by (Goes node disk octets up fails filed is new_world) = after_calm (with_struck old call) (struck_same old call).0 kept came own node disk up (begun_by plan old own node disk call octets) (begun_did plan old own node disk call octets) new_world
      by (FailsInIt node disk octets up filed is g) = cut_calm (with_struck old call) (struck_same old call).0 kept came own node disk up (begun_by plan old own node disk call octets) (begun_did plan old own node disk call octets) g

  asks_calm : (plan : Plan) (number : Number) (answer : Said) → AnswersAsk plan old number answer new → IsCalm old new
  asks_calm plan number answer (Waits node disk ticket up found got wanted e is new_world) = subst (IsCalm old) (sym new_world) (calm_same old old refl (λ letter m of. m) (λ letter m of. m))
  asks_calm plan number answer (Ends node disk ticket up found reply e is new_world) = subst (IsCalm old) (sym new_world)
      (calm_write old _ number.node (slot_up node disk) (slot_up (end_ticket number.seq node disk).node disk) up
      (Works node (end_ticket number.seq node disk).node refl refl refl (le_refl node.calls) refl (record { rest = []; is = sym (append-nil disk) })) refl (λ letter m of. m) (λ letter m of. m))

  posts_calm : (plan : Plan) (number : ℕ) (keep : Bool) (answer : Said) → ((f : Flies old number) → IsReadBody f.letter.body → ⊥) → Posts plan old number keep answer new → IsCalm old new
  posts_calm plan number keep answer other (NobodyUp f nobody is new_world) = subst (IsCalm old) (sym new_world) (lost_calm DownKind number f keep (other f))
  posts_calm plan number keep answer other (OfOtherEpoch f node disk up thrown is new_world) = subst (IsCalm old) (sym new_world) (lost_calm StaleKind number f keep (other f))
  posts_calm plan number keep answer other (TooLate f node disk up thrown is new_world) = subst (IsCalm old) (sym new_world)
      (calm_same old _ refl (λ letter m of. on_kept old number f keep (other f) letter m of) (λ letter m of. flew_on old number f keep letter m))
  posts_calm plan number keep answer other (IsHeard f node disk up thrown is new_world) =
      after_calm (record old { flying = flies_on old number f keep }) refl (λ letter m of. on_kept old number f keep (other f) letter m of) (λ letter m of. flew_on old number f keep letter m) f.letter.to node disk up
      (hear f.letter.to plan.nodes node disk f.letter) (hear_did f.letter.to plan.nodes node disk f.letter refl (apart f.letter (flew old number f))) new_world
  posts_calm plan number keep answer other (FailsHearing f node disk up thrown is down g new_world) = subst (IsCalm old) (sym new_world)
      (calm_soft old down _ (down_calm down g) (soft_missed Disk down.slots f.letter)
      (λ letter m of. on_kept old number f keep (other f) letter (subst (λ (v : World). Among letter (letters_of v.flying)) g.is m) of)
      (λ letter m of. subst (λ (v : World). Among letter (letters_of v.flying)) (sym g.is) (flew_on old number f keep letter m)))
    where
      d : Did f.letter.to node disk (hear f.letter.to plan.nodes node disk f.letter)
      d = hear_did f.letter.to plan.nodes node disk f.letter refl (apart f.letter (flew old number f))

      down_calm : (v : World) → NodeGoesDown old f.letter.to disk (hear f.letter.to plan.nodes node disk f.letter).disk v → IsCalm old v
      down_calm v h = subst (IsCalm old) (sym h.is)
          (calm_write old (cut_world old f.letter.to disk h.front h.pending) f.letter.to (slot_up node disk) (record { life = Down h.pending; disk = disk ++ h.front }) up
          (IsOff (λ n e. not_up_down h.pending n e) (le_of_eq (sym (boot_with disk h.front (cut_of f.letter.to node disk (hear f.letter.to plan.nodes node disk f.letter) d h.front h.pending h.cut)))) (record { rest = h.front; is = refl }))
          refl (λ letter m of. m) (λ letter m of. m))
  posts_calm plan number keep answer other (IsForMaps f node disk up maps fresh is did forms new_world) =
      after_calm (record old { flying = flies_on old number f keep }) refl (λ letter m of. on_kept old number f keep (other f) letter m of) (λ letter m of. flew_on old number f keep letter m) f.letter.to node disk up
      did (forms_did f.letter.to node (with_stamps f.letter.body node) disk did refl (le_refl node.calls) forms) new_world
  posts_calm plan number keep answer other (FailsForMaps f node disk promise up maps fresh is down g new_world) = subst (IsCalm old) (sym new_world) (subst (λ (v : World). IsCalm old (record v { flying = flies_on old number f keep })) (sym g.is)
      (calm_write old (record (cut_world old f.letter.to disk g.front g.pending) { flying = flies_on old number f keep }) f.letter.to (slot_up node disk) (record { life = Down g.pending; disk = disk ++ g.front }) up
      (IsOff (λ n e. not_up_down g.pending n e) (le_of_eq (sym (boot_with disk g.front (cut_of f.letter.to node disk made d g.front g.pending g.cut)))) (record { rest = g.front; is = refl }))
      refl (λ letter m of. on_kept old number f keep (other f) letter m of) (λ letter m of. flew_on old number f keep letter m)))
    where
      made : Reaction
      made = record { node = node; disk = disk ++ promise_records promise; out = [] }

      d : Did f.letter.to node disk made
      d = record { boot = refl; calls = le_refl node.calls; added = promise_records promise; grew = refl; bootless = promised promise; quiet = λ one m. absurd m }

  promise_did : (own : ℕ) (node : Node) (disk : List Record) (promise : Option EpochId) → Did own node disk (record { node = node; disk = disk ++ promise_records promise; out = [] })
  promise_did own node disk promise = record { boot = refl; calls = le_refl node.calls; added = promise_records promise; grew = refl; bootless = promised promise; quiet = λ one m. absurd m }

  gives_up_calm : (number : Number) (answer : Said) → IsGivenUp old number answer new → IsCalm old new
  gives_up_calm number answer d = after_calm old refl (λ letter m r. m) (λ letter m r. m) number.node d.node d.disk d.up (end_ticket number.seq d.node d.disk) (still number.node d.node _ d.disk refl (le_refl d.node.calls)) d.new_world

  drops_calm : (number : ℕ) (answer : Said) (d : Drops old number answer new) → (IsReadBody d.flies.letter.body → ⊥) → IsCalm old new
  drops_calm number answer d other = subst (IsCalm old) (sym d.new_world) (lost_calm Dropped number d.flies false other)

  does_calm : (plan : Plan) (tells : Bool) (step : Step) (answer : Said) → IsForMail old step → DoesStep plan tells old step answer new → IsCalm old new
  does_calm plan tells (Begin own call) answer of d = ⊎_elim (λ b. begins_calm plan tells own call answer b) (λ b. absurd (begins_none plan old own call answer new of b)) d
  does_calm plan tells (AskFor number) answer of d = ⊎_elim (λ a. asks_calm plan number answer a) (λ a. absurd (reads_none old number of a.of)) d
  does_calm plan tells (GiveUp number) answer of d = ⊎_elim (λ g. gives_up_calm number answer g) (λ g. absurd (reads_none old number of g.of)) d
  does_calm plan tells (Post number keep) answer of d = ⊎_elim
      (λ p. posts_calm plan number keep answer (λ f. unread f.letter.body (of f)) p.0)
      (λ p. let r = posts_read old number keep answer new p in absurd (true≢false (sym r.1 ∙ of r.0)))
      d
  does_calm plan tells (DropLetter number) answer of d = ⊎_elim
      (λ p. drops_calm number answer p.0 (unread p.0.flies.letter.body (of p.0.flies)))
      (λ p. absurd (true≢false (sym p.read ∙ of p.flies)))
      d
  does_calm plan tells (PushTo from to) answer of (Sends node disk up is new_world) = after_calm old refl (λ letter m r. m) (λ letter m r. m) from node disk up _ (push_did from to (keys_pushed old.flying from to node disk) node disk) new_world
  does_calm plan tells (PushTo from to) answer of (FailsPushing node disk up is new_world) = stop_calm from node disk up new_world
  does_calm plan tells (Widen at user id to) answer of (Adds node disk up is new_world) = after_calm old refl (λ letter m r. m) (λ letter m r. m) at node disk up _ (widen_did at to (Message user id) node disk) new_world
  does_calm plan tells (Widen at user id to) answer of (FailsWidening node disk up is g) = cut_calm old refl (λ letter m r. m) (λ letter m r. m) at node disk up _ (widen_did at to (Message user id) node disk) g
  does_calm plan tells (Form n) answer of (Does node disk up says did forms new_world) = after_calm old refl (λ letter m r. m) (λ letter m r. m) n node disk up did (forms_did n node node disk did refl (le_refl node.calls) forms) new_world
  does_calm plan tells (Form n) answer of (HasNone says new_world) = subst (IsCalm old) (sym new_world) (calm_same old old refl (λ letter m r. m) (λ letter m r. m))
  does_calm plan tells (Form n) answer of (FailsForming node disk promise up is g) = cut_calm old refl (λ letter m r. m) (λ letter m r. m) n node disk up _ (promise_did n node disk promise) g
  does_calm plan tells (Crash n) answer of d = subst (IsCalm old) (sym d.new_world)
      (calm_write old _ n d.slot (record d.slot { life = Down [] }) d.here (IsOff (λ k e. not_up_down [] k e) (le_refl (boot_of d.slot.disk)) (record { rest = []; is = sym (append-nil d.slot.disk) })) refl (λ letter m r. m) (λ letter m r. m))
  does_calm plan tells (Start n) answer of (Comes disk pending node records here starts few is new_world) = subst (IsCalm old) (sym new_world)
      (calm_write old _ n (record { life = Down pending; disk = disk }) (slot_up node records) here
      (Starts node (λ k e. not_up_down pending k e) refl (boots ∙ sym on_disk) (subst (λ k. boot_of disk < k) (sym boots) (omega (arith, rises)))
      (record { rest = starts.kept ++ Boot (boot_of (disk ++ starts.kept) + 1) ∷ []; is = starts.records ∙ append_assoc disk starts.kept (Boot (boot_of (disk ++ starts.kept) + 1) ∷ []) })) refl (λ letter m r. m) (λ letter m r. m))
    where
      boots : node.boot ≡ boot_of (disk ++ starts.kept) + 1
      boots = ap (λ (k : Node). k.boot) starts.is

      on_disk : boot_of records ≡ boot_of (disk ++ starts.kept) + 1
      on_disk = ap boot_of starts.records ∙ boot_both 0 (disk ++ starts.kept) (Boot (boot_of (disk ++ starts.kept) + 1) ∷ [])

      rises : boot_of disk ≤ boot_of (disk ++ starts.kept)
      rises = kept_rises n (record { life = Down pending; disk = disk }) here starts.kept starts.pending_is
  does_calm plan tells (Start n) answer of (FailsStarting disk pending next records here stops is new_world) = subst (IsCalm old) (sym new_world) (stops_calm n disk pending next records here stops _ refl (λ letter m r. m) (λ letter m r. m))
  does_calm plan tells (Lose n) answer of d = subst (IsCalm old) (sym d.new_world)
      (calm_write old _ n d.slot (record { life = Lost; disk = d.slot.disk ++ d.kept }) d.here (IsOff (λ k e. not_up_lost k e) (kept_rises n d.slot d.here d.kept d.pending_is) (record { rest = d.kept; is = refl })) refl (λ letter m r. m) (λ letter m r. m))
  does_calm plan tells (Tick seconds) answer of d = subst (IsCalm old) (sym d.1) (calm_same old _ refl (λ letter m r. m) (λ letter m r. m))

  short_calm : (plan : Plan) (step : Step) (n : ℕ) → RunsShort plan old step n new → IsCalm old new
  short_calm plan step n (Beginning call node disk octets is up filed g) = cut_calm (with_struck old call) (struck_same old call).0
      (λ letter m of. subst (λ (f : List Flight). Among letter (letters_of f)) (sym (struck_same old call).1) m) (λ letter m of. subst (λ (f : List Flight). Among letter (letters_of f)) (struck_same old call).1 m)
      n node disk up (begun_by plan old n node disk call octets) (begun_did plan old n node disk call octets) g
  short_calm plan step n (Hearing number keep f node disk is at up g) = cut_calm old refl (λ letter m of. m) (λ letter m of. m) n node disk up (hear n plan.nodes node disk f.letter)
      (hear_did n plan.nodes node disk f.letter at (λ same. apart f.letter (flew old number f) (same ∙ sym at))) g
  short_calm plan step n (Widening user id to node disk is up g) = cut_calm old refl (λ letter m of. m) (λ letter m of. m) n node disk up _ (widen_did n to (Message user id) node disk) g
  short_calm plan step n (Forming node disk promise up forms g) = cut_calm old refl (λ letter m of. m) (λ letter m of. m) n node disk up _ (promise_did n node disk promise) g
  short_calm plan step n (Starting disk pending next records is here stops new_world) = subst (IsCalm old) (sym new_world) (stops_calm n disk pending next records here stops _ refl (λ letter m of. m) (λ letter m of. m))

  pub makes_calm : (plan : Plan) (tells : Bool) (step : Step) (outcome : StepOutcome) → IsForMail old step → MakesStep plan tells old step outcome new → IsCalm old new
  makes_calm plan tells step (Says answer) of m = does_calm plan tells step answer of m.1
  makes_calm plan tells step (Refused fault) of m = subst (IsCalm old) (sym m.1) (calm_same old old refl (λ letter k r. k) (λ letter k r. k))
  makes_calm plan tells step (NoMemory None) of m = subst (IsCalm old) (sym m) (calm_same old old refl (λ letter k r. k) (λ letter k r. k))
  makes_calm plan tells step (NoMemory (Some n)) of m = short_calm plan step n m
