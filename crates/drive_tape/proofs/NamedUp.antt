-- A regroup of a tape names the nodes that were up.
use Rattle.std.proofs.Common.{◌≡◌, ◌⊎◌, inl, inr, ⊎_elim, ℕ, true, false, true≢false, List, [], ◌∷◌, ◌++◌, Option, Some, None, Result, Ok, Err, refl, sym, ap, ap₂, ◌∙◌, subst, append-nil, append_assoc}
use Rattle.mail_model.specs.Identity.{EpochId}
use Rattle.mail_model.specs.Plan.{Plan}
use Rattle.mail_model.specs.Tape.{ClusterOrder}
use Rattle.mail_model.specs.Tape.{ClusterOrder as order}
use Rattle.object_model.specs.Lists.{Among}
use Rattle.object_model.proofs.Lists.{among_front, among_behind}
use Rattle.session_model.specs.Acts.{Act}
use Rattle.session_model.specs.Acts.Act.{Does, Makes as MakesAct}
use Rattle.session_model.specs.Acts.Deed.{Hears}
use Rattle.session_model.specs.Events.{ClusterEvent}
use Rattle.session_model.specs.Events.ClusterEvent.{WentDown, HasFormed as FormedEpoch}
use Rattle.session_model.specs.Lives.{life_after}
use Rattle.session_model.specs.Logs.{Asked}
use Rattle.session_model.specs.Run.{Made, Stop}
use Rattle.node_store.specs.Disks.{View}
use Rattle.cluster_world.specs.Lives.{nodes_up}
use Rattle.cluster_world.specs.Made.{StepMade, IsPost, has_failed}
use Rattle.cluster_world.specs.Opens.{IsAtBeginning}
use Rattle.cluster_world.specs.Outcomes.{Outcome, Awaited, Came, Makes}
use Rattle.cluster_world.specs.Outcomes.Outcome.{Moved}
use Rattle.cluster_world.specs.Owing.{AllBlind, AreKnown, AreOfSessions}
use Rattle.cluster_world.specs.Regroups.{AllWentOn, IsOfRound, AreOfRounds, FormsBy, EndsBy, LacksRoom, RegroupsSo, HasFormed, FormsTheUp}
use Rattle.cluster_world.specs.Sound.{IsWhole}
use Rattle.cluster_world.specs.Worlds.{state_of, plan_of}
use Rattle.cluster_world.specs.declared.fault.StepFault.{StepFault}
use Rattle.cluster_world.specs.declared.regrouping.Regroup.{Regroup}
use Rattle.cluster_world.specs.declared.regrouping.Regroup.TheVariants.{Formed, Fault}
use Rattle.cluster_world.specs.declared.step.Said.{Said}
use Rattle.cluster_world.specs.declared.step.Said.TheVariants as said
use Rattle.cluster_world.specs.declared.step.Step.{Step}
use Rattle.cluster_world.specs.declared.step.Step.TheVariants as step
use Rattle.cluster_world.specs.declared.world.World.{World}
use Rattle.cluster_world.proofs.Chained.{plan_stays}
use Rattle.cluster_world.proofs.Wholes.{world_is_whole}
use Rattle.drive_tape.specs.Drive.{NamesTheUp}
use Rattle.drive_tape.specs.Led.{Led, AreLed, AreLedTo, EndsWith}
use Rattle.drive_tape.specs.Led.TellsMove.{OfSteps, OfSettle, OfMap}
use Rattle.drive_tape.proofs.NodesUp.{members_up}

-- ---- where an act is among acts, and what the cluster made of it

head_or : {X : Type 0} → X → List X → X
head_or x [] = x
head_or x (y ∷ ys) = y

tail_of : {X : Type 0} → List X → List X
tail_of [] = []
tail_of (y ∷ ys) = ys

-- in the first list, or in the second
split_at : {X : Type 0} (xs ys front behind : List X) (x : X) → xs ++ ys ≡ front ++ x ∷ behind → ((more : List X) × (xs ≡ front ++ x ∷ more)) ⊎ ((ahead : List X) × (ys ≡ ahead ++ x ∷ behind))
unfolding head_or tail_of
split_at [] ys front behind x e = inr (front, e)
split_at {X} (z ∷ xs) ys [] behind x e = inl (xs, ap (λ (a : X). a ∷ xs) (ap (head_or x) e))
split_at {X} (z ∷ xs) ys (f ∷ front) behind x e = ⊎_elim
    (λ (found : (more : List X) × (xs ≡ front ++ x ∷ more)). inl (found.0, ap₂ (λ (a : X) (l : List X). a ∷ l) (ap (head_or x) e) found.1))
    (λ (later : (ahead : List X) × (ys ≡ ahead ++ x ∷ behind)). inr later)
    (split_at xs ys front behind x (ap tail_of e))

-- what was made of it, behind what was made of the acts before it
record LedAt (plan : Plan) (been : List Act) (before : List Outcome) (front : List Act) (act : Act) (outcomes : List Outcome) : Type 0 where
  ahead : List Outcome
  own : List Outcome
  back : List Outcome
  are : outcomes ≡ ahead ++ (own ++ back)
  led : Led plan (been ++ front) (before ++ ahead) act own

led_at : (plan : Plan) (been : List Act) (before : List Outcome) (front behind : List Act) (act : Act) (outcomes : List Outcome) → AreLed plan been before (front ++ act ∷ behind) outcomes → LedAt plan been before front act outcomes
led_at plan been before [] behind act outcomes (own, others, are, led, more) = record {
  ahead = [];
  own = own;
  back = others;
  are = are;
  led = subst (λ (d : List Act). Led plan d (before ++ []) act own) (sym (append-nil been)) (subst (λ (os : List Outcome). Led plan been os act own) (sym (append-nil before)) led);
}
led_at plan been before (first ∷ front) behind act outcomes (own, others, are, led, more) =
    let rest = led_at plan (been ++ first ∷ []) (before ++ own) front behind act others more in
    record {
      ahead = own ++ rest.ahead;
      own = rest.own;
      back = rest.back;
      are = are ∙ ap (λ (l : List Outcome). own ++ l) rest.are ∙ sym (append_assoc own rest.ahead (rest.own ++ rest.back));
      led = subst (λ (d : List Act). Led plan d (before ++ (own ++ rest.ahead)) act rest.own) (append_assoc been (first ∷ []) front)
          (subst (λ (os : List Outcome). Led plan ((been ++ first ∷ []) ++ front) os act rest.own) (append_assoc before own rest.ahead) rest.led);
    }

-- what ends the work is no run line
ends_unmoved : (asked : ClusterOrder) (event : ClusterEvent) (last : List Act) (rest : List Outcome) (stop : Stop) (lacking : List Asked) (extra : List Made) → EndsWith last rest stop lacking extra → Among (MakesAct asked event) last → ⊥
ends_unmoved asked event [] rest stop lacking extra ends among = among
ends_unmoved asked event (Does j (Hears one) ∷ []) rest stop lacking extra ends among = ⊎_elim (λ same. let never : Does j (Hears one) ≡ MakesAct asked event = same in cc) (λ none. none) among
ends_unmoved asked event last rest stop lacking extra ends among = absurd ends

led_to_at : (stop : Stop) (plan : Plan) (acts : List Act) (outcomes : List Outcome) (lacking : List Asked) (extra : List Made) → AreLedTo stop plan [] [] acts outcomes lacking extra
    → (front behind : List Act) (asked : ClusterOrder) (event : ClusterEvent) → acts ≡ front ++ MakesAct asked event ∷ behind → LedAt plan [] [] front (MakesAct asked event) outcomes
led_to_at stop plan acts outcomes lacking extra to front behind asked event are = ⊎_elim
    (λ (found : (more : List Act) × (to.done ≡ front ++ MakesAct asked event ∷ more)).
    let at = led_at plan [] [] front found.0 (MakesAct asked event) to.own (subst (λ (acts : List Act). AreLed plan [] [] acts to.own) found.1 to.led) in
    record {
      ahead = at.ahead;
      own = at.own;
      back = at.back ++ to.rest;
      are = to.outcomes_are ∙ ap (λ (l : List Outcome). l ++ to.rest) at.are ∙ append_assoc at.ahead (at.own ++ at.back) to.rest ∙ ap (λ (l : List Outcome). at.ahead ++ l) (append_assoc at.own at.back to.rest);
      led = at.led;
    })
    (λ (later : (ahead : List Act) × (to.last ≡ ahead ++ MakesAct asked event ∷ behind)).
    absurd (ends_unmoved asked event to.last to.rest stop lacking extra to.ends
    (subst (Among (MakesAct asked event)) (sym later.1) (among_behind (MakesAct asked event) later.0 (MakesAct asked event ∷ behind) (inl refl)))))
    (split_at to.done to.last front behind (MakesAct asked event) (sym to.acts_are ∙ are))

-- ---- a regroup concludes once

said_by : Result Said StepFault → Option (EpochId × ℕ)
said_by (Ok (said.Concluded epoch members)) = Some (epoch, members)
said_by result = None

by_step : Step → Result Said StepFault → Option (EpochId × ℕ) → Option (EpochId × ℕ)
by_step (step.Conclude n) result later = said_by result
by_step step result later = later

-- what the first conclusion said
concluded_in : List StepMade → Option (EpochId × ℕ)
concluded_in [] = None
concluded_in (one ∷ more) = by_step one.step one.result (concluded_in more)

round_passed : (n : ℕ) (one : StepMade) (later : Option (EpochId × ℕ)) → IsOfRound n one → by_step one.step one.result later ≡ later
unfolding by_step
round_passed n one later of = ⊎_elim
    (λ (opens : one.step ≡ step.Group n). ap (λ (s : Step). by_step s one.result later) opens)
    (λ (post : IsPost one). ap (λ (s : Step). by_step s one.result later) post.1) of

rounds_passed : (n : ℕ) (epoch : EpochId) (members : ℕ) (rounds installs : List StepMade) → AreOfRounds n rounds
    → concluded_in (rounds ++ record { step = step.Conclude n; result = Ok (said.Concluded epoch members) } ∷ installs) ≡ Some (epoch, members)
unfolding concluded_in by_step said_by
rounds_passed n epoch members [] installs of = refl
rounds_passed n epoch members (one ∷ rounds) installs (is, of) =
    round_passed n one (concluded_in (rounds ++ record { step = step.Conclude n; result = Ok (said.Concluded epoch members) } ∷ installs)) is ∙ rounds_passed n epoch members rounds installs of

concludes_so : (n : ℕ) (epoch : EpochId) (members : ℕ) (steps : List StepMade) → FormsBy n epoch members steps → concluded_in steps ≡ Some (epoch, members)
concludes_so n epoch members steps forms = ap concluded_in forms.split ∙ rounds_passed n epoch members forms.rounds forms.installs forms.asks

formed_of : Option (EpochId × ℕ) → Result Regroup StepFault → Result Regroup StepFault
formed_of (Some (epoch, members)) other = Ok (Formed epoch members)
formed_of None other = other

same_formed : (a b : EpochId) (m k : ℕ) → ◌≡◌ {A = Option (EpochId × ℕ)} (Some (a, m)) (Some (b, k)) → ◌≡◌ {A = Result Regroup StepFault} (Ok (Formed a m)) (Ok (Formed b k))
unfolding formed_of
same_formed a b m k e = ap (λ o. formed_of o (Ok (Formed a m))) e

well_last : (front : List StepMade) (one : StepMade) → AllWentOn (front ++ one ∷ []) → has_failed one.result ≡ false
well_last [] one well = well.0
well_last (first ∷ front) one well = well_last front one well.1

-- so the last step of one that formed an epoch did not fail
fails_not : (result : Result Said StepFault) (steps : List StepMade) → has_failed result ≡ true → AllWentOn steps → EndsBy result steps → ⊥
fails_not result steps failed well ends = true≢false (sym (ap has_failed ends.failed ∙ failed) ∙ well_last ends.front ends.one (subst AllWentOn ends.split well))

none_not_some : (rounds installs : List StepMade) (one : StepMade) → [] ≡ rounds ++ one ∷ installs → ⊥
none_not_some [] installs one e = let never : [] ≡ one ∷ installs = e in cc
none_not_some (first ∷ rounds) installs one e = let never : [] ≡ first ∷ (rounds ++ one ∷ installs) = e in cc

-- steps that form an epoch are those of a regroup that says so
one_forms : {D : Type 0} (n : ℕ) (result : Result Regroup StepFault) (steps : List StepMade) (epoch : EpochId) (members : ℕ) (old : World D) → RegroupsSo n result steps old → FormsBy n epoch members steps → result ≡ Ok (Formed epoch members)
one_forms n (Ok (Formed own mask)) steps epoch members old so forms = same_formed own epoch mask members (sym (concludes_so n own mask steps so) ∙ concludes_so n epoch members steps forms)
one_forms n (Ok (Fault failed)) steps epoch members old so forms = absurd (fails_not (Ok (said.Faulted failed)) steps refl forms.well so)
one_forms n (Err why) steps epoch members old so forms = absurd (⊎_elim
    (λ (ends : EndsBy (Err why) steps). fails_not (Err why) steps refl forms.well ends)
    (λ (lacks : LacksRoom n why steps old). none_not_some forms.rounds forms.installs _ (sym lacks.none ∙ forms.split)) so)

-- ---- a world that was driven

all_front : (nodes : ℕ) (ahead back : List Outcome) → AllBlind nodes (ahead ++ back) → AllBlind nodes ahead
all_front nodes [] back all = tt
all_front nodes (one ∷ ahead) back all = (all.0, all_front nodes ahead back all.1)

module _ {D : Type 0} (on : View D) where
  -- the world in which an outcome came about
  record MadeAt (ahead : List Outcome) (one : Outcome) (awaited : List Awaited) (start : World D) : Type 0 where
    between : List Awaited
    mid : World D
    before : Makes on ahead awaited start between mid
    after : List Awaited
    next : World D
    came : Came on one between mid after next

  made_at : (ahead back : List Outcome) (one : Outcome) (awaited left : List Awaited) (start last : World D) → Makes on (ahead ++ one ∷ back) awaited start left last → MadeAt ahead one awaited start
  made_at [] back one awaited left start last (after, next, came, more) = record { between = awaited; mid = start; before = (refl, refl); after = after; next = next; came = came }
  made_at (first ∷ ahead) back one awaited left start last (after, next, came, more) =
      let rest = made_at ahead back one after left next last more in
      record { between = rest.between; mid = rest.mid; before = (after, next, came, rest.before); after = rest.after; next = rest.next; came = rest.came }

  module _ (plan : Plan) (lines : List (List ℕ)) (outcomes : List Outcome) (left : List Awaited) (start last : World D) (begins : IsAtBeginning on plan start) (known : AreKnown on start outcomes)
      (makes : Makes on outcomes [] start left last) (sessions : AreOfSessions lines outcomes) where
    whole_at : (ahead back : List Outcome) (between : List Awaited) (mid : World D) → outcomes ≡ ahead ++ back → Makes on ahead [] start between mid → IsWhole on plan mid
    whole_at ahead back between mid are before = world_is_whole on plan lines ahead between start mid (record {
      begins = begins;
      known = ⊎_elim (λ told. inl told) (λ blind. inr (all_front (plan_of start).nodes ahead back (subst (AllBlind (plan_of start).nodes) are blind))) known;
      makes = before;
      sessions = λ one among. sessions one (subst (Among one) (sym are) (among_front one ahead back among));
    })

    -- the members that a regroup names
    names_up : (before : List Act) (node : ℕ) (epoch : EpochId) (members : List ℕ) → LedAt plan [] [] before (MakesAct (order.Regroup node) (FormedEpoch epoch members)) outcomes → members ≡ nodes_up (life_after before) plan.nodes
    names_up before node epoch members at = by at.led
      where
        by : Led plan before at.ahead (MakesAct (order.Regroup node) (FormedEpoch epoch members)) at.own → members ≡ nodes_up (life_after before) plan.nodes
        by (outcome, own, OfSettle result steps settles is tells) = absurd (let never : order.Regroup node ≡ order.Settle = settles in cc)
        by (outcome, own, OfMap user told maps is tells) = absurd (let never : order.Regroup node ≡ order.Maps user = maps in cc)
        by (outcome, own, OfSteps steps sum is_moved (mask, forms, begun, named)) =
            let one : Outcome = Moved (order.Regroup node) steps sum (nodes_up (life_after before) plan.nodes) in
            let are : outcomes ≡ at.ahead ++ one ∷ at.back = at.are ∙ ap (λ (l : List Outcome). at.ahead ++ (l ++ at.back)) (own ∙ ap (λ (o : Outcome). o ∷ []) is_moved) in
            let made = made_at at.ahead at.back one [] left start last (subst (λ (os : List Outcome). Makes on os [] start left last) are makes) in
            let stays : plan_of made.mid ≡ plan = (plan_stays on at.ahead [] made.between start made.mid made.before).0 ∙ begins.plan_is in
            let whole : IsWhole on (plan_of made.mid) made.mid = subst (λ (p : Plan). IsWhole on p made.mid) (sym stays) (whole_at at.ahead (one ∷ at.back) made.between made.mid are made.before) in
            let (result, regroup) = made.came.0 in
            let is = one_forms node result steps epoch mask made.mid regroup.shape forms in
            let formed : HasFormed epoch mask (state_of made.mid) (state_of made.next) = subst (λ (r : Result Regroup StepFault). FormsTheUp r (state_of made.mid) (state_of made.next)) is (regroup.forms whole) in
            named ∙ members_up epoch mask made.mid made.next formed ∙ sym made.came.3

    pub names_the_up : (stop : Stop) (acts : List Act) (lacking : List Asked) (extra : List Made) → AreLedTo stop plan [] [] acts outcomes lacking extra → NamesTheUp plan acts
    names_the_up stop acts lacking extra to before behind node epoch members are =
        names_up before node epoch members (led_to_at stop plan acts outcomes lacking extra to before behind (order.Regroup node) (FormedEpoch epoch members) are)

-- What it rules out: a node that has stopped is named as a member.
abbrev second_stopped : List Act
second_stopped = MakesAct (order.Crash 2) (WentDown 2) ∷ []

pub stopped_is_no_member : (plan : Plan) (epoch : EpochId) → plan.nodes ≡ 2 → NamesTheUp plan (second_stopped ++ MakesAct (order.Regroup 1) (FormedEpoch epoch (1 ∷ 2 ∷ [])) ∷ []) → ⊥
stopped_is_no_member plan epoch two names =
    let told = names second_stopped [] 1 epoch (1 ∷ 2 ∷ []) refl in
    let never : ◌≡◌ {A = List ℕ} (1 ∷ 2 ∷ []) (1 ∷ []) = told ∙ ap (nodes_up (life_after second_stopped)) two in cc
