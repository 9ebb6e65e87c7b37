-- What a world made of the acts of a tape, the machine makes of them.
use Rattle.std.proofs.Common.{◌≡◌, ⊎_elim, inl, inr, ℕ, Bool, true, false, not, nat_eq, List, [], ◌∷◌, ◌++◌, map, Option, Some, None, Result, Ok, Err, refl, sym, ap, ◌∙◌, subst, append_assoc, if◌then◌else◌}
use Rattle.std.specs.Prelude.{◌⊎◌, filter}
use Rattle.std.proofs.lemmas.Option.{none-some}
use Rattle.mail_model.specs.Plan.{Plan}
use Rattle.mail_model.specs.Tape.{ClusterOrder}
use Rattle.object_model.specs.Lists.{Among}
use Rattle.object_model.specs.Letters.{Number}
use Rattle.object_model.proofs.Lists.{among_front, among_behind, among_either}
use Rattle.session_model.specs.Calls.{Call, Answer}
use Rattle.session_model.specs.Sums.{BookSum}
use Rattle.session_model.specs.Talk.{Exchange}
use Rattle.session_model.specs.Events.{ClusterEvent}
use Rattle.session_model.specs.Events.ClusterEvent.{WentDown, CameUp, WasLost, WasHeard, WasThrown, WasDropped, HasFlowed, HasSent, HasWidened, HasGrouped, HasFormed, HasSettled, WasAbsent, HasMapped, HasTicked, HasSummed, HasFaulted}
use Rattle.session_model.specs.Lives.{life_after}
use Rattle.session_model.specs.SoundMails.{IsSoundMail}
use Rattle.session_model.specs.Acts.{Act}
use Rattle.session_model.specs.Acts.Act.{Opens, Does, Faults, StillWaits, Leaves, Makes as MakesAct, Abandons}
use Rattle.session_model.specs.Acts.Deed.{IsFed, Hears, IsAnswered, IsGivenUp, Falls, Closes}
use Rattle.cluster_model.specs.Steps as steps
use Rattle.whole_world.specs.Steps as whole_steps
use Rattle.whole_world.specs.Makes.{MadeStep}
use Rattle.joint_world.specs.World.{World as Machine}
use Rattle.joint_world.specs.Makes.{MakesStep}
use Rattle.accepted_tapes.specs.Orders as asks
use Rattle.accepted_tapes.specs.Follows.{Standing, IsOpenedAt, Begins as BeginsThere, GivesUp, Follows, FollowsAll, without_session as without}
use Rattle.node_core.specs.Beginning.{call_seen as machine_call, IsTextEnded}
use Rattle.node_tickets.specs.Seen.{progress_seen}
use Rattle.node_store.specs.Disks.{View}
use Rattle.call_tickets.specs.declared.call.Call.{Call as WorldCall}
use Rattle.call_tickets.specs.declared.call.Call.TheVariants as calls
use Rattle.call_tickets.specs.declared.answer.Ask.TheVariants as ask
use Rattle.cluster_world.specs.Sound.{IsWhole}
use Rattle.cluster_world.specs.Seen.{whole_outcome}
use Rattle.cluster_world.specs.Ended.{IsEnded}
use Rattle.cluster_world.specs.Steps.{IsStep}
use Rattle.cluster_world.specs.Lives.{nodes_up}
use Rattle.cluster_world.specs.Made.{StepMade, MakesSteps, has_failed}
use Rattle.cluster_world.specs.Outcomes.{Outcome, Awaited, Came, Makes, IsLeave, map_seen, without_session, left_after, left_after_all, fallen_in}
use Rattle.cluster_world.specs.Outcomes.Outcome.{Began, Refused, Fell, Broke, Answers, StillPending, Unanswered, GaveUp, Abandoned, KeptUp, Left, Moved, Settling, Mapped}
use Rattle.cluster_world.specs.declared.world.World.{World}
use Rattle.cluster_world.specs.declared.step.Step.{Step}
use Rattle.cluster_world.specs.declared.step.Step.TheVariants as step
use Rattle.cluster_world.specs.declared.step.Said.{Said}
use Rattle.cluster_world.specs.declared.step.Said.TheVariants as said
use Rattle.cluster_world.specs.declared.fault.StepFault.{StepFault}
use Rattle.cluster_world.proofs.Ended.{sound_ended}
use Rattle.cluster_world.proofs.SeenAlike.{made_alike, told_alike}
use Rattle.cluster_world.proofs.Leading.{LedWhole}
use Rattle.cluster_world.proofs.Mirrors.{IsOf}
use Rattle.cluster_world.specs.Regroups.{AllWentOn}
use Rattle.drive_tape.specs.Led.{Begins, EndsIn, WentWell, Tells, TellsSettle, TellsMove, told_of, Led, AreLed}
use Rattle.drive_tape.specs.Led.TellsMove.{OfSteps, OfSettle, OfMap}
use Rattle.drive_tape.proofs.Settles.{goes_went}
use Rattle.cluster_world.specs.Settling.{AreOfSettle, MakesSettle, Goes}
use Rattle.cluster_world.specs.declared.settling.Settle.{Settle}
use Rattle.cluster_world.specs.declared.settling.Settle.TheVariants as settle
use Rattle.porcupine_server.proofs.MachineOrders.{made_seen, failed_alike, Ordered, known_on, led, order_follows, settle_follows, map_follows}

-- a call that is awaited, as it stands in the machine
abbrev pub standing_of : Awaited → Standing
standing_of one = record { session = one.session; ticket = one.ticket }

abbrev pub HaveStood : List Awaited → List Standing → Type 0
HaveStood awaited standing = (one : Awaited) → Among one awaited → Among (standing_of one) standing

kept_among : {X : Type 0} (p : X → Bool) (xs : List X) (x : X) → Among x (filter p xs) → Among x xs × (p x ≡ true)
kept_among p [] x m = absurd m
kept_among {X} p (y ∷ ys) x m = by (p y) refl (kept_among p ys x) m
  where
    by : (b : Bool) → p y ≡ b → (Among x (filter p ys) → Among x ys × (p x ≡ true)) → Among x (if b then y ∷ filter p ys else filter p ys) → Among x (y ∷ ys) × (p x ≡ true)
    by true is more (inl e) = (inl e, subst (λ z. p z ≡ true) e is)
    by true is more (inr k) = let r = more k in (inr r.0, r.1)
    by false is more k = let r = more k in (inr r.0, r.1)

is_kept : {X : Type 0} (p : X → Bool) (xs : List X) (x : X) → Among x xs → p x ≡ true → Among x (filter p xs)
is_kept p [] x m is = absurd m
is_kept {X} p (y ∷ ys) x (inl e) is = subst (λ b. Among x (if b then y ∷ filter p ys else filter p ys)) (sym (ap p e ∙ is)) (inl e)
is_kept {X} p (y ∷ ys) x (inr k) is = by (p y) (is_kept p ys x k is)
  where
    by : (b : Bool) → Among x (filter p ys) → Among x (if b then y ∷ filter p ys else filter p ys)
    by true more = inr more
    by false more = more

without_stood : (k : ℕ) (awaited : List Awaited) (standing : List Standing) → HaveStood awaited standing → HaveStood (without_session k awaited) (without k standing)
without_stood k awaited standing within one m =
    let r = kept_among (λ (a : Awaited). not (nat_eq a.session k)) awaited one m in
    is_kept (λ (s : Standing). not (nat_eq s.session k)) standing (standing_of one) (within one r.0) r.1

more_stood : (one : Awaited) (awaited : List Awaited) (standing : List Standing) → HaveStood awaited standing → HaveStood (awaited ++ one ∷ []) (standing ++ standing_of one ∷ [])
more_stood one awaited standing within other m = ⊎_elim
    (λ was. among_front (standing_of other) standing (standing_of one ∷ []) (within other was))
    (λ is. among_behind (standing_of other) standing (standing_of one ∷ []) (last is))
    (among_either other awaited (one ∷ []) m)
  where
    last : Among other (one ∷ []) → Among (standing_of other) (standing_of one ∷ [])
    last (inl e) = inl (ap standing_of e)
    last (inr none) = absurd none

fewer : (fallen : Option ℕ) (awaited : List Awaited) (one : Awaited) → Among one (left_after fallen awaited) → Among one awaited
fewer None awaited one m = m
fewer (Some node) awaited one m = (kept_among (λ (a : Awaited). not (nat_eq a.ticket.node node)) awaited one m).0

fewer_all : (steps : List StepMade) (awaited : List Awaited) (one : Awaited) → Among one (left_after_all steps awaited) → Among one awaited
fewer_all [] awaited one m = m
fewer_all (made ∷ more) awaited one m = fewer (fallen_in made.step made.result) awaited one (fewer_all more (left_after (fallen_in made.step made.result) awaited) one m)

-- what a run line tells of its steps

pub ends_alike : (result : Result Said StepFault) (steps : List StepMade) → EndsIn result steps → asks.EndsIn (whole_outcome result) (map made_seen steps)
ends_alike result steps (before, one, are, is) = (map made_seen before, made_seen one, ap (map made_seen) are ∙ map_last before, ap whole_outcome is)
  where
    map_last : (front : List StepMade) → map made_seen (front ++ one ∷ []) ≡ map made_seen front ++ made_seen one ∷ []
    map_last [] = refl
    map_last (x ∷ front) = ap (λ (l : List MadeStep). made_seen x ∷ l) (map_last front)

-- what went on went well
went_on : (steps : List StepMade) → AllWentOn steps → WentWell steps
went_on [] well = tt
went_on (one ∷ more) well = (well.0, went_on more well.1)

well_alike : (steps : List StepMade) → WentWell steps → asks.WentWell (map made_seen steps)
well_alike [] well = tt
well_alike (one ∷ more) well = (failed_alike one.result ∙ well.0, well_alike more well.1)

-- a step that failed is not told of so
fine : (made : Step) (result : Result Said StepFault) (event : ClusterEvent) → told_of made result ≡ Some event → has_failed result ≡ false
fine made (Ok (said.Faulted node)) event is = absurd (by made is)
  where
    by : (m : Step) → told_of m (Ok (said.Faulted node)) ≡ Some event → ⊥
    by (step.Begin at call) e = none-some event e
    by (step.Ask ticket) e = none-some event e
    by (step.GiveUp ticket) e = none-some event e
    by (step.Post letter keep) e = none-some event e
    by (step.Drop letter) e = none-some event e
    by (step.Push from to) e = none-some event e
    by (step.Widen at user id to) e = none-some event e
    by (step.Group at) e = none-some event e
    by (step.Conclude at) e = none-some event e
    by (step.Report from to) e = none-some event e
    by (step.Crash at) e = none-some event e
    by (step.Start at) e = none-some event e
    by (step.Lose at) e = none-some event e
    by (step.Tick seconds) e = none-some event e
fine made (Err why) event is = absurd (by made is)
  where
    by : (m : Step) → told_of m (Err why) ≡ Some event → ⊥
    by (step.Begin at call) e = none-some event e
    by (step.Ask ticket) e = none-some event e
    by (step.GiveUp ticket) e = none-some event e
    by (step.Post letter keep) e = none-some event e
    by (step.Drop letter) e = none-some event e
    by (step.Push from to) e = none-some event e
    by (step.Widen at user id to) e = none-some event e
    by (step.Group at) e = none-some event e
    by (step.Conclude at) e = none-some event e
    by (step.Report from to) e = none-some event e
    by (step.Crash at) e = none-some event e
    by (step.Start at) e = none-some event e
    by (step.Lose at) e = none-some event e
    by (step.Tick seconds) e = none-some event e
fine made (Ok (said.Begun ticket stirs)) event is = refl
fine made (Ok said.Noted) event is = refl
fine made (Ok (said.Asked ask)) event is = refl
fine made (Ok said.Heard) event is = refl
fine made (Ok (said.Thrown why)) event is = refl
fine made (Ok (said.Sent letters)) event is = refl
fine made (Ok (said.Widened did)) event is = refl
fine made (Ok (said.Grouped epoch)) event is = refl
fine made (Ok (said.Concluded epoch members)) event is = refl
fine made (Ok (said.NodeUp boot)) event is = refl
fine made (Ok said.Done) event is = refl

told_well : (event : ClusterEvent) (steps : List StepMade) → (one : StepMade) × (steps ≡ one ∷ []) × (told_of one.step one.result ≡ Some event) → asks.WentWell (map made_seen steps)
told_well event steps (one, are, is) = well_alike steps (subst WentWell (sym are) (fine one.step one.result event is, tt))

went_so : (asked : ClusterOrder) (steps : List StepMade) (sum : BookSum) (event : ClusterEvent) → Tells asked steps sum event → asks.WentSo event (map made_seen steps)
went_so asked steps sum (HasFaulted node) tells = ends_alike (Ok (said.Faulted node)) steps tells
went_so ClusterOrder.Flow steps sum HasFlowed tells = well_alike steps tells
went_so (ClusterOrder.Push node) steps sum (HasSent count) tells = well_alike steps tells.0
went_so (ClusterOrder.Report node) steps sum (HasSent count) tells = well_alike steps tells.0
went_so ClusterOrder.Sum steps sum (HasSummed told) tells = well_alike steps (subst WentWell (sym tells.0) tt)
went_so (ClusterOrder.Regroup node) steps sum (HasFormed epoch members) tells = well_alike steps (went_on steps tells.1.well)
went_so asked steps sum event tells = told_well event steps tells

-- what a settle tells of its steps
goes_told : (steps : List StepMade) → AllWentOn steps → asks.WentWell (map made_seen steps)
goes_told steps well = well_alike steps (went_on steps well)

-- a Leave hands in no text
leave_ended : (user : List ℕ) (begun : WorldCall) → IsLeave user begun → IsTextEnded (machine_call begun)
leave_ended user (calls.Leave name login manager) is = tt
leave_ended user (calls.Deliver deliver) is = absurd is
leave_ended user (calls.Login name proof) is = absurd is
leave_ended user (calls.Fetch name id holders from most) is = absurd is
leave_ended user (calls.Strike name items) is = absurd is

leave_seen : (user : List ℕ) (begun : WorldCall) → IsLeave user begun → (login : Number) × (manager : ℕ) × (machine_call begun ≡ steps.NodeCall.Leave user login manager)
leave_seen user (calls.Leave name login manager) is = (login, manager, ap (λ u. steps.NodeCall.Leave u login manager) is)
leave_seen user (calls.Deliver deliver) is = absurd is
leave_seen user (calls.Login name proof) is = absurd is
leave_seen user (calls.Fetch name id holders from most) is = absurd is
leave_seen user (calls.Strike name items) is = absurd is

module _ {D : Type 0} (on : View D) (plan : Plan) (lines : List (List ℕ)) where
  -- an outcome of a call is at the node of its session, and hands in a message that is whole
  abbrev pub IsPlaced : Outcome → Type 0
  IsPlaced (Began k node asked ticket) = IsOpenedAt lines k node × IsSoundMail asked
  IsPlaced (Fell k node asked) = IsOpenedAt lines k node × IsSoundMail asked
  IsPlaced (Left k node user) = IsOpenedAt lines k node
  IsPlaced outcome = Unit {0}

  -- where the machine is after acts, and the world before the outcomes that are left
  pub record Followed (acts : List Act) (rest : List Outcome) (standing : List Standing) (w : Machine) (left : List Awaited) (last : World D) : Type 0 where
    pub now : List Standing
    pub between : List Awaited
    pub mid : World D
    pub whole : IsWhole on plan mid
    pub follows : FollowsAll plan lines acts standing w now whole.v
    pub known : IsOf on plan true mid
    pub stood : HaveStood between now
    pub makes : Makes on rest between mid left last

  -- what the machine makes of one outcome of an act
  record OneMade (act : Act) (standing : List Standing) (w : Machine) (between : List Awaited) (mid : World D) : Type 0 where
    now : List Standing
    whole : IsWhole on plan mid
    follows : Follows plan lines act standing w now whole.v
    known : IsOf on plan true mid
    stood : HaveStood between now

  module _ (standing : List Standing) (awaited between : List Awaited) (old mid : World D) (known : IsOf on plan true old) (h : IsWhole on plan old) (stood : HaveStood awaited standing) where
    abbrev w : Machine
    w = h.v

    abbrev Leads : Result Said StepFault → Step → Type 0
    Leads result made = LedWhole on plan true result made old mid h

    leads : (result : Result Said StepFault) (made : Step) → IsEnded made → IsStep on result made old mid → Leads result made × IsOf on plan true mid
    leads result made ended is = (led on plan result made old mid known ended is h, known_on on plan result made old mid known is)

    began : (k node : ℕ) (one : Exchange) (asked : Call) (ticket : Number) → one.call ≡ Some asked → IsPlaced (Began k node asked ticket) → Came on (Began k node asked ticket) awaited old between mid
        → OneMade (Does k (Hears one)) standing w between mid
    began k node one asked ticket calls_it placed (call, stirs, e, is, left_is) =
        let l = leads (Ok (said.Begun ticket stirs)) (step.Begin node call) (sound_ended call asked e placed.1) is in
        record {
          now = standing ++ record { session = k; ticket = ticket } ∷ [];
          whole = l.0.whole;
          follows = subst (λ (c : Option Call). BeginsThere plan lines k c standing w (standing ++ record { session = k; ticket = ticket } ∷ []) l.0.whole.v) (sym calls_it)
              (node, machine_call call, placed.0, made_alike call ∙ e, inl (ticket, l.0.made, refl));
          known = l.1;
          stood = subst (λ (a : List Awaited). HaveStood a (standing ++ record { session = k; ticket = ticket } ∷ [])) (sym left_is) (more_stood (record { ticket = ticket; session = k; call = asked }) awaited standing stood);
        }

    fell : (k node : ℕ) (one : Exchange) (asked : Call) → one.call ≡ Some asked → IsPlaced (Fell k node asked) → Came on (Fell k node asked) awaited old between mid → OneMade (Does k (Hears one)) standing w between mid
    fell k node one asked calls_it placed (call, e, is, left_is) =
        let l = leads (Ok (said.Faulted node)) (step.Begin node call) (sound_ended call asked e placed.1) is in
        record {
          now = standing;
          whole = l.0.whole;
          follows = subst (λ (c : Option Call). BeginsThere plan lines k c standing w standing l.0.whole.v) (sym calls_it) (node, machine_call call, placed.0, made_alike call ∙ e, inr (l.0.made, refl));
          known = l.1;
          stood = λ a m. stood a (fewer (Some node) awaited a (subst (Among a) left_is m));
        }

    answers : (k : ℕ) (asked : Call) (ticket : Number) (given : Answer) (reply : List (List ℕ)) → Came on (Answers k asked ticket given) awaited old between mid → OneMade (Does k (IsAnswered asked given reply)) standing w between mid
    answers k asked ticket given reply (own, given_is, waits, is, left_is) =
        let l = leads (Ok (said.Asked (ask.Done own))) (step.Ask ticket) tt is in
        record {
          now = without k standing;
          whole = l.0.whole;
          follows = (ticket, progress_seen own, given_is ∙ told_alike own, stood (record { ticket = ticket; session = k; call = asked }) waits, l.0.made, refl);
          known = l.1;
          stood = subst (λ (a : List Awaited). HaveStood a (without k standing)) (sym left_is) (without_stood k awaited standing stood);
        }

    waits : (k : ℕ) (ticket : Number) → Came on (StillPending k ticket) awaited old between mid → OneMade (StillWaits k) standing w between mid
    waits k ticket (asked, got, wanted, among, is, left_is) =
        let l = leads (Ok (said.Asked (ask.Pending got wanted))) (step.Ask ticket) tt is in
        record {
          now = standing;
          whole = l.0.whole;
          follows = (ticket, got, wanted, stood (record { ticket = ticket; session = k; call = asked }) among, l.0.made, refl);
          known = l.1;
          stood = subst (λ (a : List Awaited). HaveStood a standing) (sym left_is) stood;
        }

    -- a call that is given up, for a session that is told so and for one that is closed
    record Ended (k : ℕ) : Type 0 where
      whole : IsWhole on plan mid
      gives : GivesUp plan k standing w (without k standing) whole.v
      known_there : IsOf on plan true mid
      stood_there : HaveStood between (without k standing)

    gives_up : (k : ℕ) (asked : Call) (ticket : Number) → Among (record { ticket = ticket; session = k; call = asked }) awaited → IsStep on (Ok said.Done) (step.GiveUp ticket) old mid → between ≡ without_session k awaited → Ended k
    gives_up k asked ticket among is left_is =
        let l = leads (Ok said.Done) (step.GiveUp ticket) tt is in
        record {
          whole = l.0.whole;
          gives = (ticket, stood (record { ticket = ticket; session = k; call = asked }) among, l.0.made, refl);
          known_there = l.1;
          stood_there = subst (λ (a : List Awaited). HaveStood a (without k standing)) (sym left_is) (without_stood k awaited standing stood);
        }

    given_up : (k : ℕ) (asked : Call) (ticket : Number) (reply : List (List ℕ)) → Came on (GaveUp k asked ticket) awaited old between mid → OneMade (Does k (IsGivenUp asked reply)) standing w between mid
    given_up k asked ticket reply (among, is, left_is) =
        let e = gives_up k asked ticket among is left_is in
        record { now = without k standing; whole = e.whole; follows = e.gives; known = e.known_there; stood = e.stood_there }

    abandons : (k : ℕ) (asked : Call) (ticket : Number) → Came on (Abandoned k asked ticket) awaited old between mid → OneMade (Abandons k) standing w between mid
    abandons k asked ticket (among, is, left_is) =
        let e = gives_up k asked ticket among is left_is in
        record { now = without k standing; whole = e.whole; follows = e.gives; known = e.known_there; stood = e.stood_there }

    leaves : (k node : ℕ) (user : List ℕ) → IsPlaced (Left k node user) → Came on (Left k node user) awaited old between mid → OneMade (Leaves k user) standing w between mid
    leaves k node user placed (call, result, leave, is, left_is) =
        let l = leads result (step.Begin node call) (leave_ended user call leave) is in
        let seen = leave_seen user call leave in
        record {
          now = standing;
          whole = l.0.whole;
          follows = (node, seen.0, seen.1, whole_outcome result, placed, subst (λ c. MakesStep plan true w (whole_steps.Step.OfMessages (steps.Step.Begin node c)) (whole_outcome result) l.0.whole.v) seen.2 l.0.made, refl);
          known = l.1;
          stood = λ a m. stood a (fewer (fallen_in (step.Begin node call) result) awaited a (subst (Among a) left_is m));
        }

    moves : (asked : ClusterOrder) (made : List StepMade) (sum : BookSum) (up : List ℕ) (event : ClusterEvent) → Tells asked made sum event → Came on (Moved asked made sum up) awaited old between mid → OneMade (MakesAct asked event) standing w between mid
    moves asked made sum up event tells (makes, left_is, sum_is, up_is) =
        let o = order_follows on plan asked made old mid known h makes in
        record {
          now = standing;
          whole = o.whole;
          follows = (map made_seen made, o.makes, went_so asked made sum event tells, refl);
          known = o.known;
          stood = λ a m. stood a (fewer_all made awaited a (subst (Among a) left_is m));
        }

    -- a settle
    settles : (result : Result Settle StepFault) (made : List StepMade) (event : ClusterEvent) → TellsSettle result event → Came on (Settling result made) awaited old between mid → OneMade (MakesAct ClusterOrder.Settle event) standing w between mid
    settles result made event tells (makes, are, left_is) =
        let o = settle_follows on plan made old mid known h (subst AreOfSettle are makes.of) (subst (λ (l : List StepMade). MakesSteps on l old mid) are makes.made) in
        record {
          now = standing;
          whole = o.whole;
          follows = (map made_seen made, o.makes, subst (λ (l : List StepMade). asks.WentSo event (map made_seen l)) are (went result makes tells), refl);
          known = o.known;
          stood = λ a m. stood a (fewer_all made awaited a (subst (Among a) left_is m));
        }
      where
        went : (r : Result Settle StepFault) (m : MakesSettle on r old mid) → TellsSettle r event → asks.WentSo event (map made_seen m.steps)
        went (Ok settle.Settled) m is = subst (λ (e : ClusterEvent). asks.WentSo e (map made_seen m.steps)) (sym is) (goes_told m.steps (goes_went on old mid m.steps m.shape.0))
        went (Ok (settle.NotAllUp member)) m is = subst (λ (e : ClusterEvent). asks.WentSo e (map made_seen m.steps)) (sym is) (⊎_elim
            (λ (none : (m.steps ≡ []) × (mid ≡ old)). subst (λ (l : List StepMade). asks.WentWell (map made_seen l)) (sym none.0) tt)
            (λ (goes : Goes on old mid m.steps). goes_told m.steps (goes_went on old mid m.steps goes)) m.shape.0)
        went (Ok (settle.Fault failed)) m is = subst (λ (e : ClusterEvent). asks.WentSo e (map made_seen m.steps)) (sym is)
            (ends_alike (Ok (said.Faulted failed)) m.steps (m.shape.front, m.shape.one, m.shape.split, m.shape.failed))
        went (Err cause) m is = absurd is

    -- a map
    maps : (user : List ℕ) (told : Option (ℕ × ℕ)) (event : ClusterEvent) → event ≡ HasMapped user (map_seen told) → Came on (Mapped user told) awaited old between mid → OneMade (MakesAct (ClusterOrder.Maps user) event) standing w between mid
    maps user told event is (told_is, left_is, same) =
        let o = map_follows on plan user old mid known h same in
        record {
          now = standing;
          whole = o.whole;
          follows = ([], o.makes, subst (λ (e : ClusterEvent). asks.WentSo e []) (sym is) tt, refl);
          known = o.known;
          stood = λ a m. stood a (subst (Among a) left_is m);
        }

    -- what an order tells
    tells_of : (up : List ℕ) (asked : ClusterOrder) (event : ClusterEvent) (outcome : Outcome) → TellsMove up asked event outcome → Came on outcome awaited old between mid → OneMade (MakesAct asked event) standing w between mid
    tells_of up asked event outcome (OfSteps made sum is tells) came = moves asked made sum up event tells (subst (λ (o : Outcome). Came on o awaited old between mid) is came)
    tells_of up asked event outcome (OfSettle result made settles_it is tells) came =
        subst (λ (o : ClusterOrder). OneMade (MakesAct o event) standing w between mid) (sym settles_it) (settles result made event tells (subst (λ (o : Outcome). Came on o awaited old between mid) is came))
    tells_of up asked event outcome (OfMap user told maps_it is tells) came =
        subst (λ (o : ClusterOrder). OneMade (MakesAct o event) standing w between mid) (sym maps_it) (maps user told event tells (subst (λ (o : Outcome). Came on o awaited old between mid) is came))

  -- one act
  one_act : (act : Act) (planned : Plan) (been : List Act) (before own rest : List Outcome) → Led planned been before act own → (standing : List Standing) (awaited left : List Awaited) (old last : World D)
      → IsOf on plan true old → (h : IsWhole on plan old) → HaveStood awaited standing → ((outcome : Outcome) → Among outcome own → IsPlaced outcome)
      → Makes on (own ++ rest) awaited old left last → Followed (act ∷ []) rest standing h.v left last
  one_act act planned been before own rest is standing awaited left old last known h stood placed makes = by act is
    where
      -- nothing came of it
      idle : (a : Act) → Follows plan lines a standing h.v standing h.v → own ≡ [] → Followed (a ∷ []) rest standing h.v left last
      idle a follows none = record {
        now = standing;
        between = awaited;
        mid = old;
        whole = h;
        follows = (standing, h.v, follows, (refl, refl));
        known = known;
        stood = stood;
        makes = subst (λ (l : List Outcome). Makes on (l ++ rest) awaited old left last) none makes;
      }

      -- one step did
      once : (a : Act) (outcome : Outcome) → own ≡ outcome ∷ [] → ((between : List Awaited) (mid : World D) → Came on outcome awaited old between mid → OneMade a standing h.v between mid) → Followed (a ∷ []) rest standing h.v left last
      once a outcome one does =
          let (between, mid, came, more) = subst (λ (l : List Outcome). Makes on (l ++ rest) awaited old left last) one makes in
          let m = does between mid came in
          record {
            now = m.now;
            between = between;
            mid = mid;
            whole = m.whole;
            follows = (m.now, m.whole.v, m.follows, (refl, refl));
            known = m.known;
            stood = m.stood;
            makes = more;
          }

      the_one : (outcome : Outcome) → own ≡ outcome ∷ [] → IsPlaced outcome
      the_one outcome one = placed outcome (subst (Among outcome) (sym one) (inl refl))

      hears : (k : ℕ) (one : Exchange) (c : Option Call) → one.call ≡ c → Begins k c own → Followed (Does k (Hears one) ∷ []) rest standing h.v left last
      hears k one None none own_is = idle (Does k (Hears one)) (subst (λ (c : Option Call). BeginsThere plan lines k c standing h.v standing h.v) (sym none) (refl, refl)) own_is
      hears k one (Some asked) is_call (node, inl (ticket, own_is)) =
          once (Does k (Hears one)) (Began k node asked ticket) own_is (λ between mid came. began standing awaited between old mid known h stood k node one asked ticket is_call (the_one (Began k node asked ticket) own_is) came)
      hears k one (Some asked) is_call (node, inr own_is) =
          once (Does k (Hears one)) (Fell k node asked) own_is (λ between mid came. fell standing awaited between old mid known h stood k node one asked is_call (the_one (Fell k node asked) own_is) came)

      by : (a : Act) → Led planned been before a own → Followed (a ∷ []) rest standing h.v left last
      by (Opens protocol node greeting) l = idle (Opens protocol node greeting) (refl, refl) l
      by (Does k (Hears one)) l = hears k one one.call refl l
      by (Does k (IsAnswered call answer reply)) l = once (Does k (IsAnswered call answer reply)) (Answers k call l.0 answer) l.1 (λ between mid came. answers standing awaited between old mid known h stood k call l.0 answer reply came)
      by (Does k (IsGivenUp call reply)) l = once (Does k (IsGivenUp call reply)) (GaveUp k call l.0) l.1 (λ between mid came. given_up standing awaited between old mid known h stood k call l.0 reply came)
      by (Does k (IsFed octets)) l = idle (Does k (IsFed octets)) (refl, refl) l
      by (Does k Falls) l = idle (Does k Falls) (refl, refl) l
      by (Does k Closes) l = idle (Does k Closes) (refl, refl) l
      by (Faults node) l = idle (Faults node) (refl, refl) l.0
      by (StillWaits k) l = once (StillWaits k) (StillPending k l.0) l.1 (λ between mid came. waits standing awaited between old mid known h stood k l.0 came)
      by (Leaves k user) l = once (Leaves k user) (Left k l.0 user) l.1 (λ between mid came. leaves standing awaited between old mid known h stood k l.0 user (the_one (Left k l.0 user) l.1) came)
      by (MakesAct asked event) l = once (MakesAct asked event) l.0 l.1 (λ between mid came. tells_of standing awaited between old mid known h stood (nodes_up (life_after been) planned.nodes) asked event l.0 l.2 came)
      by (Abandons k) l = once (Abandons k) (Abandoned k l.0 l.1) l.2 (λ between mid came. abandons standing awaited between old mid known h stood k l.0 l.1 came)

  -- acts, one after another
  pub all_acts : (acts : List Act) (planned : Plan) (been : List Act) (before own rest : List Outcome) → AreLed planned been before acts own → (standing : List Standing) (awaited left : List Awaited) (old last : World D)
      → IsOf on plan true old → (h : IsWhole on plan old) → HaveStood awaited standing → ((outcome : Outcome) → Among outcome own → IsPlaced outcome)
      → Makes on (own ++ rest) awaited old left last → Followed acts rest standing h.v left last
  all_acts [] planned been before own rest none standing awaited left old last known h stood placed makes = record {
    now = standing;
    between = awaited;
    mid = old;
    whole = h;
    follows = (refl, refl);
    known = known;
    stood = stood;
    makes = subst (λ (l : List Outcome). Makes on (l ++ rest) awaited old left last) none makes;
  }
  all_acts (act ∷ acts) planned been before own rest (mine, others, parts, one, more) standing awaited left old last known h stood placed makes =
      let f = one_act act planned been before mine (others ++ rest) one standing awaited left old last known h stood
      (λ outcome m. placed outcome (subst (Among outcome) (sym parts) (among_front outcome mine others m)))
      (subst (λ (l : List Outcome). Makes on l awaited old left last) (append_assoc mine others rest) (subst (λ (l : List Outcome). Makes on (l ++ rest) awaited old left last) parts makes)) in
      let g = all_acts acts planned (been ++ act ∷ []) (before ++ mine) others rest more f.now f.between left f.mid last f.known f.whole f.stood
      (λ outcome m. placed outcome (subst (Among outcome) (sym parts) (among_behind outcome mine others m))) f.makes in
      record {
        now = g.now;
        between = g.between;
        mid = g.mid;
        whole = g.whole;
        follows = (f.now, f.whole.v, follows_one act standing h.v f.now f.whole.v f.follows, g.follows);
        known = g.known;
        stood = g.stood;
        makes = g.makes;
      }
    where
      follows_one : (a : Act) (standing : List Standing) (w : Machine) (now : List Standing) (next : Machine) → FollowsAll plan lines (a ∷ []) standing w now next → Follows plan lines a standing w now next
      follows_one a standing w now next (between, mid, one, (same, is)) = subst (λ (s : List Standing). Follows plan lines a standing w s next) (sym same) (subst (λ (v : Machine). Follows plan lines a standing w between v) (sym is) one)
