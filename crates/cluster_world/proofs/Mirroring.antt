-- What the machine makes of each outcome, and of all of them.
use Rattle.std.proofs.Common.{◌≡◌, ⊎_elim, ◌⊎◌, inl, inr, ℕ, Bool, true, false, List, [], ◌∷◌, Option, Some, None, refl, sym, ap, ◌∙◌, subst}
use Rattle.std.specs.Prelude.{filter, not, nat_eq, if◌then◌else◌, flat_map, Result, Ok, Err}
use Rattle.mail_model.specs.Plan.{Plan}
use Rattle.session_model.specs.Sums.{BookSum}
use Rattle.mail_model.specs.Tape.{ClusterOrder}
use Rattle.mail_model.specs.Tape.{ClusterOrder as order}
use Rattle.object_model.specs.Letters.{Number}
use Rattle.object_model.specs.Lists.{Among}
use Rattle.object_model.proofs.Lists.{among_front, among_behind, among_either}
use Rattle.session_model.specs.Calls.{Call, Answer, IsAnswerTo}
use Rattle.session_model.specs.SoundMails.{IsSoundMail}
use Rattle.call_tickets.specs.declared.call.Call.{Call as WorldCall}
use Rattle.call_tickets.specs.declared.call.Call.TheVariants as calls
use Rattle.call_tickets.specs.declared.answer.Ask.TheVariants as ask
use Rattle.cluster_model.specs.Steps as steps
use Rattle.cluster_model.specs.Progress.{NodeAnswer}
use Rattle.cluster_model.specs.Progress.{Ask as asks}
use Rattle.whole_world.specs.Steps as whole
use Rattle.joint_world.specs.Laws.{Stands}
use Rattle.joint_world.specs.World as joint
use Rattle.joint_world.specs.Makes.{MakesStep}
use Rattle.node_core.specs.Beginning.{call_seen as machine_call, IsTextEnded}
use Rattle.node_tickets.specs.Seen.{progress_seen}
use Rattle.cluster_owes.specs.Seen.{answer_told}
use Rattle.cluster_owes.specs.Outcomes as owes
use Rattle.node_store.specs.Disks.{View}
use Rattle.cluster_world.specs.Maps.{StandsForAll}
use Rattle.cluster_world.specs.Sound.{IsWhole}
use Rattle.cluster_world.specs.Worlds.{state_of, disks_tell}
use Rattle.cluster_world.specs.Seen.{step_seen, outcome_seen, whole_outcome}
use Rattle.cluster_world.specs.Ended.{IsEnded}
use Rattle.cluster_world.specs.Steps.{IsBlind, IsStep}
use Rattle.cluster_world.specs.Made.{StepMade, MakesSteps}
use Rattle.cluster_world.specs.Outcomes.{asked_by_outcome as asked_by, answered_by_outcome as answered_by, Outcome, Awaited, MakesOrder, Came, IsLeave, left_after, left_after_all, fallen_in}
use Rattle.cluster_world.specs.Outcomes.Outcome.{Began, Refused, Fell, Broke, Answers, StillPending, Unanswered, GaveUp, Abandoned, KeptUp, Left, Moved, Settling, Mapped}
use Rattle.cluster_world.specs.Owing.{AreBlind, IsOfBlind, IsOfSession}
use Rattle.cluster_world.specs.Settling.{AreOfSettle}
use Rattle.cluster_world.specs.declared.world.World.{World}
use Rattle.cluster_world.specs.declared.step.Step.{Step}
use Rattle.cluster_world.specs.declared.step.Step.TheVariants as step
use Rattle.cluster_world.specs.declared.step.Said.{Said}
use Rattle.cluster_world.specs.declared.step.Said.TheVariants as said
use Rattle.cluster_world.specs.declared.fault.StepFault.{StepFault}
use Rattle.cluster_world.specs.declared.fault.StepFault.TheVariants as fault
use Rattle.cluster_world.proofs.Ordered.{order_makes, order_are}
use Rattle.cluster_world.proofs.SeenAlike.{made_alike, told_alike}
use Rattle.cluster_world.proofs.Ended.{sound_ended}
use Rattle.cluster_world.proofs.Quietly.{AreQuiet, AnswersAmiss, refusal_quiet, untold_quiet, IsTick, tick_or, tick_done, unticked_quiet, moves_quiet, settle_quiet}
use Rattle.cluster_world.proofs.Chained.{step_stays}
use Rattle.cluster_world.proofs.Leading.{LedWhole}
use Rattle.cluster_world.proofs.Mirrors.{Mirrored, HaveBegun, IsOf, begun_of, begun_with, led, quiet_one, joined}

kept_among : {X : Type 0} (p : X → Bool) (xs : List X) (x : X) → Among x (filter p xs) → Among x xs
kept_among p [] x m = m
kept_among {X} p (y ∷ ys) x m = by (p y) (kept_among p ys x) m
  where
    by : (b : Bool) → (Among x (filter p ys) → Among x ys) → Among x (if b then y ∷ filter p ys else filter p ys) → Among x (y ∷ ys)
    by true more (inl e) = inl e
    by true more (inr k) = inr (more k)
    by false more k = inr (more k)

fewer_after : (fallen : Option ℕ) (awaited : List Awaited) (one : Awaited) → Among one (left_after fallen awaited) → Among one awaited
fewer_after None awaited one m = m
fewer_after (Some node) awaited one m = kept_among (λ one. not (nat_eq one.ticket.node node)) awaited one m

leave_quiet : (user : List ℕ) (node : ℕ) (begun : WorldCall) (outcome : steps.StepOutcome) → IsLeave user begun → owes.IsIdleStep (steps.Step.Begin node (machine_call begun)) outcome
leave_quiet user node (calls.Leave name login manager) outcome is = tt
leave_quiet user node (calls.Deliver deliver) outcome is = absurd is
leave_quiet user node (calls.Login name proof) outcome is = absurd is
leave_quiet user node (calls.Fetch name id holders from most) outcome is = absurd is
leave_quiet user node (calls.Strike name items) outcome is = absurd is

pub leave_ended : (user : List ℕ) (begun : WorldCall) → IsLeave user begun → IsTextEnded (machine_call begun)
leave_ended user (calls.Leave name login manager) is = tt
leave_ended user (calls.Deliver deliver) is = absurd is
leave_ended user (calls.Login name proof) is = absurd is
leave_ended user (calls.Fetch name id holders from most) is = absurd is
leave_ended user (calls.Strike name items) is = absurd is

-- an answer of the machine to a call that has begun is one of its kind
abbrev pub AnswersFitAt : Plan → Bool → List owes.BegunCall → joint.World → Type 0
AnswersFitAt plan told begun w = (k : ℕ) (asked : Call) (ticket : Number) (own : NodeAnswer) (next : joint.World) → Among (record { ticket = ticket; session = k; call = asked }) begun
    → MakesStep plan told w (whole.Step.OfMessages (steps.Step.AskFor ticket)) (whole.StepOutcome.Says (whole.Said.Told (steps.Said.Asked (asks.Done own)))) next → IsAnswerTo asked (answer_told own)

module _ {D : Type 0} (on : View D) (plan : Plan) (told : Bool) where
  abbrev Knows : Step → Type 0
  Knows step = (told ≡ true) ⊎ IsBlind plan.nodes step

  module _ (awaited left : List Awaited) (begun : List owes.BegunCall) (old new : World D) (of : IsOf on plan told old) (h : IsWhole on plan old) (within : HaveBegun awaited begun) where
    abbrev Leads : Result Said StepFault → Step → Type 0
    Leads result made = IsStep on result made old new

    abbrev makes : (result : Result Said StepFault) (made : Step) → Knows made → IsEnded made → Leads result made → LedWhole on plan told result made old new h
    makes result made known ended is = led on plan told result made old new of known ended is h

    -- no session hears of it
    quietly : (outcomes : List Outcome) (result : Result Said StepFault) (made : Step) → Knows made → IsEnded made → Leads result made → owes.IsIdleStep (step_seen made) (outcome_seen result)
        → flat_map asked_by outcomes ≡ [] → flat_map answered_by outcomes ≡ [] → ((one : Awaited) → Among one left → Among one awaited) → Mirrored on plan told outcomes left begun h.v new
    quietly outcomes result made known ended is other no_asked no_answer fewer = quiet_one on plan told outcomes awaited left begun old new h result made (makes result made known ended is) other no_asked no_answer within fewer

    same_awaited : left ≡ awaited → (one : Awaited) → Among one left → Among one awaited
    same_awaited same one m = subst (Among one) same m

    began : (k node : ℕ) (asked : Call) (ticket : Number) → IsSoundMail asked → Came on (Began k node asked ticket) awaited old left new → Mirrored on plan told (Began k node asked ticket ∷ []) left begun h.v new
    began k node asked ticket sound (call, stirs, e, is, left_is) =
        let l = makes (Ok (said.Begun ticket stirs)) (step.Begin node call) (inr tt) (sound_ended call asked e sound) is in
        record {
          outs = owes.Outcome.Began k node asked ticket ∷ [];
          whole = l.whole;
          makes = (l.whole.v, (machine_call call, made_alike call ∙ e, l.made), refl);
          asked = refl;
          answered = refl;
          within = λ one m. ⊎_elim
              (λ was. among_front (begun_of one) begun (record { ticket = ticket; session = k; call = asked } ∷ []) (within one was))
              (λ is_it. among_behind (begun_of one) begun (record { ticket = ticket; session = k; call = asked } ∷ []) (inl (ap begun_of (the_one one (record { ticket = ticket; session = k; call = asked }) is_it))))
              (among_either one awaited (record { ticket = ticket; session = k; call = asked } ∷ []) (subst (Among one) left_is m));
          sessions = λ lines all. (all (Began k node asked ticket) (inl refl), tt);
        }
      where
        the_one : (one other : Awaited) → Among one (other ∷ []) → other ≡ one
        the_one one other (inl e) = e
        the_one one other (inr m) = absurd m

    fell : (k node : ℕ) (asked : Call) → IsSoundMail asked → Came on (Fell k node asked) awaited old left new → Mirrored on plan told (Fell k node asked ∷ []) left begun h.v new
    fell k node asked sound (call, e, is, left_is) =
        let l = makes (Ok (said.Faulted node)) (step.Begin node call) (inr tt) (sound_ended call asked e sound) is in
        record {
          outs = owes.Outcome.Fell k node asked ∷ [];
          whole = l.whole;
          makes = (l.whole.v, (machine_call call, whole.StepOutcome.Says (whole.Said.Told (steps.Said.Faulted node)), made_alike call ∙ e, tt, l.made), refl);
          asked = refl;
          answered = refl;
          within = λ one m. among_front (begun_of one) begun [] (within one (fewer_after (Some node) awaited one (subst (Among one) left_is m)));
          sessions = λ lines all. (all (Fell k node asked) (inl refl), tt);
        }

    broke : (k node : ℕ) (asked : Call) → IsSoundMail asked → Came on (Broke k node asked) awaited old left new → Mirrored on plan told (Broke k node asked ∷ []) left begun h.v new
    broke k node asked sound (call, failed, e, is, left_is) =
        let l = makes (Err (fault.NoMemory (Some failed))) (step.Begin node call) (inr tt) (sound_ended call asked e sound) is in
        record {
          outs = owes.Outcome.Fell k node asked ∷ [];
          whole = l.whole;
          makes = (l.whole.v, (machine_call call, whole.StepOutcome.NoMemory (Some failed), made_alike call ∙ e, tt, l.made), refl);
          asked = refl;
          answered = refl;
          within = λ one m. among_front (begun_of one) begun [] (within one (fewer_after (Some failed) awaited one (subst (Among one) left_is m)));
          sessions = λ lines all. (all (Broke k node asked) (inl refl), tt);
        }

    answers : (k : ℕ) (asked : Call) (ticket : Number) (given : Answer) → Came on (Answers k asked ticket given) awaited old left new
        → Mirrored on plan told (Answers k asked ticket given ∷ []) left begun h.v new
    answers k asked ticket given (own, given_is, waits, is, left_is) =
        let l = makes (Ok (said.Asked (ask.Done own))) (step.Ask ticket) (inr tt) tt is in
        record {
          outs = owes.Outcome.Answers k asked ticket given ∷ [];
          whole = l.whole;
          makes = (l.whole.v, (progress_seen own, given_is ∙ told_alike own, within (record { ticket = ticket; session = k; call = asked }) waits, l.made), refl);
          asked = refl;
          answered = refl;
          within = λ one m. among_front (begun_of one) begun [] (within one (kept_among (λ one. not (nat_eq one.session k)) awaited one (subst (Among one) left_is m)));
          sessions = λ lines all. (tt, tt);
        }

    gave_up : (k : ℕ) (asked : Call) (ticket : Number) → Came on (GaveUp k asked ticket) awaited old left new → Mirrored on plan told (GaveUp k asked ticket ∷ []) left begun h.v new
    gave_up k asked ticket (waits, is, left_is) =
        let l = makes (Ok said.Done) (step.GiveUp ticket) (inr tt) tt is in
        record {
          outs = owes.Outcome.GaveUp k asked ticket ∷ [];
          whole = l.whole;
          makes = (l.whole.v, l.made, refl);
          asked = refl;
          answered = refl;
          within = λ one m. among_front (begun_of one) begun [] (within one (kept_among (λ one. not (nat_eq one.session k)) awaited one (subst (Among one) left_is m)));
          sessions = λ lines all. (tt, tt);
        }

    unanswered : (k : ℕ) (asked : Call) (ticket : Number) → AnswersFitAt plan told begun h.v → Came on (Unanswered k asked ticket) awaited old left new
        → Mirrored on plan told (Unanswered k asked ticket ∷ []) left begun h.v new
    unanswered k asked ticket fit (result, waits, untold, is, left_is) = ⊎_elim
        (λ other. quietly (Unanswered k asked ticket ∷ []) result (step.Ask ticket) (inr tt) tt is other refl refl
        (λ one m. fewer_after (fallen_in (step.Ask ticket) result) awaited one (subst (Among one) left_is m)))
        (λ amiss. absurd (never amiss))
        (untold_quiet asked ticket result untold)
      where
        never : AnswersAmiss asked result → ⊥
        never a = let l = makes result (step.Ask ticket) (inr tt) tt is in
            a.amiss (subst (IsAnswerTo asked) (sym (told_alike a.own)) (fit k asked ticket (progress_seen a.own) l.whole.v
            (within (record { ticket = ticket; session = k; call = asked }) waits)
            (subst (λ (r : Result Said StepFault). MakesStep plan told h.v (whole.Step.OfMessages (steps.Step.AskFor ticket)) (whole_outcome r) l.whole.v) a.is l.made)))

  is_of_next : (old new : World D) (result : Result Said StepFault) (made : Step) → IsOf on plan told old → IsStep on result made old new → IsOf on plan told new
  is_of_next old new result made of is = let s = step_stays on result made old new is in record { plan_is = s.plan ∙ of.plan_is; told_is = s.told ∙ of.told_is }

  more_known : (one : StepMade) (more : List StepMade) → (told ≡ true) ⊎ AreBlind plan.nodes (one ∷ more) → Knows one.step × ((told ≡ true) ⊎ AreBlind plan.nodes more)
  more_known one more (inl t) = (inl t, inl t)
  more_known one more (inr b) = (inr b.0, inr b.1)

  -- the steps of a run line
  moved : (made : List StepMade) (awaited : List Awaited) (begun : List owes.BegunCall) (old new : World D) → IsOf on plan told old → (h : IsWhole on plan old) → HaveBegun awaited begun
      → AreQuiet made → (told ≡ true) ⊎ AreBlind plan.nodes made → MakesSteps on made old new → Mirrored on plan told [] (left_after_all made awaited) begun h.v new
  moved [] awaited begun old new of h within quiet known is = record {
    outs = [];
    whole = record {
      v = h.v;
      story = h.story;
      sound = subst (λ (world : World D). Stands plan (disks_tell on.seen world) h.story h.v) (sym is) h.sound;
      charted = h.charted;
      stands = subst (λ (world : World D). StandsForAll on (state_of world) h.v) (sym is) h.stands;
    };
    makes = refl;
    asked = refl;
    answered = refl;
    within = λ one m. among_front (begun_of one) begun [] (within one m);
    sessions = λ lines all. tt;
  }
  moved (one ∷ more) awaited begun old new of h within quiet known (mid, is, rest) =
      let left : List Awaited = left_after (fallen_in one.step one.result) awaited in
      let known_both = more_known one more known in
      let first : Mirrored on plan told [] left begun h.v mid = quietly awaited left begun old mid of h within [] one.result one.step known_both.0 quiet.0.1 is (quiet.0.0 (outcome_seen one.result)) refl refl
      (λ a m. fewer_after (fallen_in one.step one.result) awaited a m) in
      joined on plan told [] [] left (left_after_all more left) begun h.v mid new first
      (moved more left (begun_with begun first.outs) mid new (is_of_next old mid one.result one.step of is) first.whole first.within quiet.1 known_both.1 rest)

  module _ (awaited left : List Awaited) (begun : List owes.BegunCall) (old new : World D) (of : IsOf on plan told old) (h : IsWhole on plan old) (within : HaveBegun awaited begun)
      (fit : AnswersFitAt plan told begun h.v) (lines : List (List ℕ)) where
    abbrev Quiets : List Outcome → Result Said StepFault → Step → Type 0
    Quiets outcomes result made = Knows made → IsEnded made → IsStep on result made old new → owes.IsIdleStep (step_seen made) (outcome_seen result)
        → flat_map asked_by outcomes ≡ [] → flat_map answered_by outcomes ≡ [] → ((one : Awaited) → Among one left → Among one awaited) → Mirrored on plan told outcomes left begun h.v new

    abbrev silent : (outcomes : List Outcome) (result : Result Said StepFault) (made : Step) → Quiets outcomes result made
    silent = quietly awaited left begun old new of h within

    -- the clock is set
    ticked : (seconds : ℕ) (made : List StepMade) (sum : BookSum) (up : List ℕ) → MakesOrder on (order.Tick seconds) made old new → left ≡ left_after_all made awaited
        → Mirrored on plan told (Moved (order.Tick seconds) made sum up ∷ []) left begun h.v new
    ticked seconds made sum up (result, made_is, is) left_is =
        by result is (λ one m. fewer_after (fallen_in (step.Tick seconds) result) awaited one (subst (Among one) (left_is ∙ ap (λ (l : List StepMade). left_after_all l awaited) made_is) m))
      where
        by : (r : Result Said StepFault) → IsStep on r (step.Tick seconds) old new → ((one : Awaited) → Among one left → Among one awaited)
            → Mirrored on plan told (Moved (order.Tick seconds) made sum up ∷ []) left begun h.v new
        by (Err why) is fewer = silent (Moved (order.Tick seconds) made sum up ∷ []) (Err why) (step.Tick seconds) (inr tt) tt is (unticked_quiet seconds why) refl refl fewer
        by (Ok what) is fewer =
            let done = subst (λ (s : Said). IsStep on (Ok s) (step.Tick seconds) old new) (tick_done seconds what is.did.kind) is in
            let l = led on plan told (Ok said.Done) (step.Tick seconds) old new of (inr tt) tt done h in record {
              outs = owes.Outcome.Ticked seconds ∷ [];
              whole = l.whole;
              makes = (l.whole.v, l.made, refl);
              asked = refl;
              answered = refl;
              within = λ one m. among_front (begun_of one) begun [] (within one (fewer one m));
              sessions = λ lines all. (all (Moved (order.Tick seconds) made sum up) (inl refl), tt);
            }

    pub mirror : (outcome : Outcome) → (told ≡ true) ⊎ IsOfBlind plan.nodes outcome → IsOfSession lines outcome → Came on outcome awaited old left new → Mirrored on plan told (outcome ∷ []) left begun h.v new
    mirror (Began k node asked ticket) known of_it came = began awaited left begun old new of h within k node asked ticket of_it.0 came
    mirror (Refused k node asked) known of_it (call, why, e, refusal, is, left_is) =
        silent (Refused k node asked ∷ []) (Err why) (step.Begin node call) (inr tt) (sound_ended call asked e of_it) is (refusal_quiet node (machine_call call) why refusal) refl refl (λ one m. subst (Among one) left_is m)
    mirror (Fell k node asked) known of_it came = fell awaited left begun old new of h within k node asked of_it.0 came
    mirror (Broke k node asked) known of_it came = broke awaited left begun old new of h within k node asked of_it.0 came
    mirror (Answers k asked ticket given) known of_it came = answers awaited left begun old new of h within k asked ticket given came
    mirror (StillPending k ticket) known of_it (asked, got, wanted, among, is, left_is) =
        silent (StillPending k ticket ∷ []) (Ok (said.Asked (ask.Pending got wanted))) (step.Ask ticket) (inr tt) tt is tt refl refl (λ one m. subst (Among one) left_is m)
    mirror (Unanswered k asked ticket) known of_it came = unanswered awaited left begun old new of h within k asked ticket fit came
    mirror (GaveUp k asked ticket) known of_it came = gave_up awaited left begun old new of h within k asked ticket came
    mirror (Abandoned k asked ticket) known of_it (waits, is, left_is) =
        silent (Abandoned k asked ticket ∷ []) (Ok said.Done) (step.GiveUp ticket) (inr tt) tt is tt refl refl
        (λ one m. kept_among (λ one. not (nat_eq one.session k)) awaited one (subst (Among one) left_is m))
    mirror (KeptUp k ticket why) known of_it (asked, among, is, left_is) =
        silent (KeptUp k ticket why ∷ []) (Err why) (step.GiveUp ticket) (inr tt) tt is tt refl refl
        (λ one m. fewer_after (fallen_in (step.GiveUp ticket) (Err why)) awaited one (subst (Among one) left_is m))
    mirror (Left k node user) known of_it (call, result, leaves, is, left_is) =
        silent (Left k node user ∷ []) result (step.Begin node call) (inr tt) (leave_ended user call leaves) is (leave_quiet user node call (outcome_seen result) leaves) refl refl
        (λ one m. fewer_after (fallen_in (step.Begin node call) result) awaited one (subst (Among one) left_is m))
    mirror (Moved asked made sum up) known of_it (makes, left_is, sum_is, up_is) = ⊎_elim
        (λ (seconds, same). subst (λ (o : ClusterOrder). Mirrored on plan told (Moved o made sum up ∷ []) left begun h.v new) (sym same)
        (ticked seconds made sum up (subst (λ (o : ClusterOrder). MakesOrder on o made old new) same makes) left_is))
        (λ other.
        let m = moved made awaited begun old new of h within (moves_quiet asked made other (order_are on asked made old new makes)) known (order_makes on asked made old new makes) in record {
          outs = m.outs;
          whole = m.whole;
          makes = m.makes;
          asked = m.asked;
          answered = m.answered;
          within = λ one k. m.within one (subst (Among one) left_is k);
          sessions = λ lines all. m.sessions lines (λ outcome k. absurd k);
        })
        (tick_or asked)
    mirror (Settling result made) known of_it (makes, are, left_is) =
        let m = moved made awaited begun old new of h within (settle_quiet made (subst AreOfSettle are makes.of)) known (subst (λ (l : List StepMade). MakesSteps on l old new) are makes.made) in record {
          outs = m.outs;
          whole = m.whole;
          makes = m.makes;
          asked = m.asked;
          answered = m.answered;
          within = λ one k. m.within one (subst (Among one) left_is k);
          sessions = λ lines all. m.sessions lines (λ outcome k. absurd k);
        }
    mirror (Mapped user told_map) known of_it (told_is, left_is, same) =
        let m = moved [] awaited begun old new of h within tt (⊎_elim (λ told_all. inl told_all) (λ blind. inr tt) known) same in record {
          outs = m.outs;
          whole = m.whole;
          makes = m.makes;
          asked = m.asked;
          answered = m.answered;
          within = λ one k. m.within one (subst (Among one) left_is k);
          sessions = λ lines all. m.sessions lines (λ outcome k. absurd k);
        }
