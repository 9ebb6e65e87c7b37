-- The steps of a regroup conclude once, so they tell which epoch it formed; and which outcomes form none.
use Rattle.std.proofs.Common.{◌≡◌, ⊎_elim, ℕ, true, false, true≢false, List, [], ◌∷◌, ◌++◌, Option, Some, None, Result, Ok, Err, refl, sym, ap, ◌∙◌, subst}
use Rattle.std.specs.Prelude.{⊤, All}
use Rattle.std.proofs.lemmas.List.Elements.{All-head, All-tail}
use Rattle.mail_model.specs.Identity.{EpochId}
use Rattle.mail_model.specs.Tape.{ClusterOrder}
use Rattle.mail_model.specs.Tape.{ClusterOrder as order}
use Rattle.node_store.specs.Disks.{View}
use Rattle.cluster_world.specs.Made.{StepMade, IsPost, has_failed}
use Rattle.cluster_world.specs.Outcomes.{Outcome, Awaited, Came, Makes}
use Rattle.cluster_world.specs.Outcomes.Outcome.{Began, Refused, Fell, Broke, Answers, StillPending, Unanswered, GaveUp, Abandoned, KeptUp, Left, Moved, Settling, Mapped}
use Rattle.cluster_world.specs.Regroups.{AllWentOn, IsOfRound, AreOfRounds, FormsBy, EndsBy, LacksRoom, RegroupsSo}
use Rattle.cluster_world.specs.Settling.{IsOfSettle, AreOfSettle}
use Rattle.cluster_world.specs.Settling.IsOfSettle.{Posts, Pushes, Reports}
use Rattle.cluster_world.specs.declared.fault.StepFault.{StepFault}
use Rattle.cluster_world.specs.declared.regrouping.Regroup.{Regroup}
use Rattle.cluster_world.specs.declared.regrouping.Regroup.TheVariants.{Formed, Fault}
use Rattle.cluster_world.specs.declared.step.Said.{Said}
use Rattle.cluster_world.specs.declared.step.Said.TheVariants as said
use Rattle.cluster_world.specs.declared.step.Step.{Step}
use Rattle.cluster_world.specs.declared.step.Step.TheVariants as step
use Rattle.cluster_world.specs.declared.world.World.{World}
use Rattle.cluster_world.proofs.Ordered.{IsPushOf, IsReportOf, AreOne, AreStepsOf, order_are}
use Rattle.settled_worlds.specs.Settled.{MakesNone}
use Rattle.settled_worlds.proofs.Carrying.{AllAre, AreOfKind, AllOfKind, HasSessions}

said_by : Result Said StepFault → Option (EpochId × ℕ)
said_by (Ok (said.Concluded epoch members)) = Some (epoch, members)
said_by result = None

by_step : Step → Result Said StepFault → Option (EpochId × ℕ) → Option (EpochId × ℕ)
by_step (step.Conclude n) result later = said_by result
by_step step result later = later

-- what the first conclusion said
concluded_in : List StepMade → Option (EpochId × ℕ)
concluded_in [] = None
concluded_in (one ∷ more) = by_step one.step one.result (concluded_in more)

round_passed : (n : ℕ) (one : StepMade) (later : Option (EpochId × ℕ)) → IsOfRound n one → by_step one.step one.result later ≡ later
unfolding by_step
round_passed n one later of = ⊎_elim
    (λ (opens : one.step ≡ step.Group n). ap (λ (s : Step). by_step s one.result later) opens)
    (λ (post : IsPost one). ap (λ (s : Step). by_step s one.result later) post.1) of

rounds_passed : (n : ℕ) (epoch : EpochId) (members : ℕ) (rounds installs : List StepMade) → AreOfRounds n rounds
    → concluded_in (rounds ++ record { step = step.Conclude n; result = Ok (said.Concluded epoch members) } ∷ installs) ≡ Some (epoch, members)
unfolding concluded_in by_step said_by
rounds_passed n epoch members [] installs of = refl
rounds_passed n epoch members (one ∷ rounds) installs (is, of) =
    round_passed n one (concluded_in (rounds ++ record { step = step.Conclude n; result = Ok (said.Concluded epoch members) } ∷ installs)) is ∙ rounds_passed n epoch members rounds installs of

concludes_so : (n : ℕ) (epoch : EpochId) (members : ℕ) (steps : List StepMade) → FormsBy n epoch members steps → concluded_in steps ≡ Some (epoch, members)
concludes_so n epoch members steps forms = ap concluded_in forms.split ∙ rounds_passed n epoch members forms.rounds forms.installs forms.asks

formed_of : Option (EpochId × ℕ) → Result Regroup StepFault → Result Regroup StepFault
formed_of (Some (epoch, members)) other = Ok (Formed epoch members)
formed_of None other = other

same_formed : (a b : EpochId) (m k : ℕ) → ◌≡◌ {A = Option (EpochId × ℕ)} (Some (a, m)) (Some (b, k)) → ◌≡◌ {A = Result Regroup StepFault} (Ok (Formed a m)) (Ok (Formed b k))
unfolding formed_of
same_formed a b m k e = ap (λ o. formed_of o (Ok (Formed a m))) e

well_last : (front : List StepMade) (one : StepMade) → AllWentOn (front ++ one ∷ []) → has_failed one.result ≡ false
well_last [] one well = well.0
well_last (first ∷ front) one well = well_last front one well.1

-- so the last step of one that formed an epoch did not fail
fails_not : (result : Result Said StepFault) (steps : List StepMade) → has_failed result ≡ true → AllWentOn steps → EndsBy result steps → ⊥
fails_not result steps failed well ends = true≢false (sym (ap has_failed ends.failed ∙ failed) ∙ well_last ends.front ends.one (subst AllWentOn ends.split well))

none_not_some : (rounds installs : List StepMade) (one : StepMade) → [] ≡ rounds ++ one ∷ installs → ⊥
none_not_some [] installs one e = let never : [] ≡ one ∷ installs = e in cc
none_not_some (first ∷ rounds) installs one e = let never : [] ≡ first ∷ (rounds ++ one ∷ installs) = e in cc

-- steps that form an epoch are those of a regroup that says so
pub one_forms : {D : Type 0} (n : ℕ) (result : Result Regroup StepFault) (steps : List StepMade) (epoch : EpochId) (members : ℕ) (old : World D) → RegroupsSo n result steps old → FormsBy n epoch members steps → result ≡ Ok (Formed epoch members)
one_forms n (Ok (Formed own mask)) steps epoch members old so forms = same_formed own epoch mask members (sym (concludes_so n own mask steps so) ∙ concludes_so n epoch members steps forms)
one_forms n (Ok (Fault failed)) steps epoch members old so forms = absurd (fails_not (Ok (said.Faulted failed)) steps refl forms.well so)
one_forms n (Err why) steps epoch members old so forms = absurd (⊎_elim
    (λ (ends : EndsBy (Err why) steps). fails_not (Err why) steps refl forms.well ends)
    (λ (lacks : LacksRoom n why steps old). none_not_some forms.rounds forms.installs _ (sym lacks.none ∙ forms.split)) so)

-- ---- which steps conclude no group

abbrev pub IsNoConclusion : Step → Type 0
IsNoConclusion (step.Conclude node) = ⊥
IsNoConclusion other = ⊤

pub sessions_conclude_none : HasSessions IsNoConclusion
sessions_conclude_none = record { begins = λ node call. tt; asks = λ ticket. tt; gives_up = λ ticket. tt }

one_none : (made : Step) (steps : List StepMade) → IsNoConclusion made → AreOne made steps → AllAre IsNoConclusion steps
one_none made steps none (result, are) = subst (AllAre IsNoConclusion) (sym are) (none, tt)

all_none : (P : StepMade → Type 0) → ((one : StepMade) → P one → IsNoConclusion one.step) → (steps : List StepMade) → All P steps → AllAre IsNoConclusion steps
all_none P each [] all = tt
all_none P each (one ∷ more) all = (each one (All-head P one more all), all_none P each more (All-tail P one more all))

moves_none : (asked : ClusterOrder) (steps : List StepMade) (sum : _) (up : _) → MakesNone (Moved asked steps sum up) → AreStepsOf asked steps → AllAre IsNoConclusion steps
moves_none (order.Crash node) steps sum up none are = one_none (step.Crash node) steps tt are
moves_none (order.Start node) steps sum up none are = one_none (step.Start node) steps tt are
moves_none (order.Lose node) steps sum up none are = one_none (step.Lose node) steps tt are
moves_none (order.Post letter) steps sum up none are = one_none (step.Post letter false) steps tt are
moves_none (order.Again letter) steps sum up none are = one_none (step.Post letter true) steps tt are
moves_none (order.Drop letter) steps sum up none are = one_none (step.Drop letter) steps tt are
moves_none order.Flow steps sum up none are = all_none IsPost (λ one is. subst IsNoConclusion (sym is.1) tt) steps are
moves_none (order.Push node) steps sum up none are = all_none (IsPushOf node) (λ one is. subst IsNoConclusion (sym is.1) tt) steps are
moves_none (order.Widen at user id to) steps sum up none are = one_none (step.Widen at user id to) steps tt are
moves_none (order.Tick seconds) steps sum up none are = one_none (step.Tick seconds) steps tt are
moves_none (order.Group node) steps sum up none are = one_none (step.Group node) steps tt are
moves_none (order.Conclude node) steps sum up none are = absurd none
moves_none (order.Regroup node) steps sum up none are = absurd none
moves_none (order.Report node) steps sum up none are = all_none (IsReportOf node) (λ one is. subst IsNoConclusion (sym is.1) tt) steps are
moves_none order.Settle steps sum up none are = absurd are
moves_none (order.Maps user) steps sum up none are = absurd are
moves_none order.Sum steps sum up none are = subst (AllAre IsNoConclusion) (sym are) tt

settles_none : (steps : List StepMade) → AreOfSettle steps → AllAre IsNoConclusion steps
settles_none [] of = tt
settles_none (one ∷ more) of = (by of.0, settles_none more of.1)
  where
    by : IsOfSettle one → IsNoConclusion one.step
    by (Posts post) = subst IsNoConclusion (sym post.1) tt
    by (Pushes from to apart is) = subst IsNoConclusion (sym is) tt
    by (Reports from to apart is) = subst IsNoConclusion (sym is) tt

all_steps : (steps : List StepMade) → AllAre (λ s. ⊤) steps
all_steps [] = tt
all_steps (one ∷ more) = (tt, all_steps more)

-- every step is a step
pub any_kind : (outcome : Outcome) → AreOfKind (λ s. ⊤) outcome
any_kind (Began k node asked ticket) = tt
any_kind (Refused k node asked) = tt
any_kind (Fell k node asked) = tt
any_kind (Broke k node asked) = tt
any_kind (Answers k asked ticket given) = tt
any_kind (StillPending k ticket) = tt
any_kind (Unanswered k asked ticket) = tt
any_kind (GaveUp k asked ticket) = tt
any_kind (Abandoned k asked ticket) = tt
any_kind (KeptUp k ticket why) = tt
any_kind (Left k node user) = tt
any_kind (Moved asked steps sum up) = all_steps steps
any_kind (Settling result steps) = all_steps steps
any_kind (Mapped user told) = tt

pub all_kinds : (outcomes : List Outcome) → AllOfKind (λ s. ⊤) outcomes
all_kinds [] = tt
all_kinds (one ∷ more) = (any_kind one, all_kinds more)

module _ {D : Type 0} (on : View D) where
  pub none_concludes : (outcome : Outcome) (awaited left : List Awaited) (old new : World D) → MakesNone outcome → Came on outcome awaited old left new → AreOfKind IsNoConclusion outcome
  none_concludes (Began k node asked ticket) awaited left old new none came = tt
  none_concludes (Refused k node asked) awaited left old new none came = tt
  none_concludes (Fell k node asked) awaited left old new none came = tt
  none_concludes (Broke k node asked) awaited left old new none came = tt
  none_concludes (Answers k asked ticket given) awaited left old new none came = tt
  none_concludes (StillPending k ticket) awaited left old new none came = tt
  none_concludes (Unanswered k asked ticket) awaited left old new none came = tt
  none_concludes (GaveUp k asked ticket) awaited left old new none came = tt
  none_concludes (Abandoned k asked ticket) awaited left old new none came = tt
  none_concludes (KeptUp k ticket why) awaited left old new none came = tt
  none_concludes (Left k node user) awaited left old new none came = tt
  none_concludes (Moved asked steps sum up) awaited left old new none came = moves_none asked steps sum up none (order_are on asked steps old new came.0)
  none_concludes (Settling result steps) awaited left old new none (makes, are, left_is) = settles_none steps (subst AreOfSettle are makes.of)
  none_concludes (Mapped user told) awaited left old new none came = tt

  pub none_conclude : (outcomes : List Outcome) (awaited left : List Awaited) (old new : World D) → All MakesNone outcomes → Makes on outcomes awaited old left new → AllOfKind IsNoConclusion outcomes
  none_conclude [] awaited left old new none makes = tt
  none_conclude (one ∷ more) awaited left old new none (between, mid, came, makes) =
      (none_concludes one awaited between old mid (All-head MakesNone one more none) came, none_conclude more between left mid new (All-tail MakesNone one more none) makes)
