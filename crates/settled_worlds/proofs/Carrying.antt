-- What each step of the machine keeps stays as a world makes its steps.
use Rattle.std.proofs.Common.{◌≡◌, ◌⊎◌, inl, inr, ⊎_elim, ℕ, Bool, true, List, [], ◌∷◌, refl, sym, subst}
use Rattle.std.specs.Prelude.{⊤, Result}
use Rattle.mail_model.specs.Plan.{Plan}
use Rattle.mail_model.specs.Tape.{ClusterOrder}
use Rattle.mail_model.specs.Tape.{ClusterOrder as order}
use Rattle.object_model.specs.Letters.{Number}
use Rattle.call_tickets.specs.declared.call.Call.{Call as WorldCall}
use Rattle.call_tickets.specs.declared.call.Call.TheVariants as calls
use Rattle.login_model.specs.Cluster as login
use Rattle.joint_world.specs.Laws.{Stands}
use Rattle.joint_world.specs.Makes.{MakesStep}
use Rattle.joint_world.specs.World as joint
use Rattle.node_core.specs.Beginning.{call_seen as machine_call, IsTextEnded}
use Rattle.node_store.specs.Disks.{View}
use Rattle.cluster_world.specs.Ended.{IsEnded}
use Rattle.cluster_world.specs.Made.{StepMade, MakesSteps}
use Rattle.cluster_world.specs.Outcomes.{Outcome, Awaited, MakesOrder, Came, Makes, IsLeave}
use Rattle.cluster_world.specs.Outcomes.Outcome.{Began, Refused, Fell, Broke, Answers, StillPending, Unanswered, GaveUp, Abandoned, KeptUp, Left, Moved, Settling, Mapped}
use Rattle.cluster_world.specs.Owing.{AreBlind, IsOfBlind, IsOfSession, AreOfSessions}
use Rattle.cluster_world.specs.Seen.{whole_step, whole_outcome}
use Rattle.cluster_world.specs.Steps.{IsBlind, IsStep}
use Rattle.cluster_world.specs.Settling.{AreOfSettle}
use Rattle.cluster_world.specs.Sound.{IsWhole}
use Rattle.cluster_world.specs.declared.fault.StepFault.{StepFault}
use Rattle.cluster_world.specs.declared.step.Said.{Said}
use Rattle.cluster_world.specs.declared.step.Step.{Step}
use Rattle.cluster_world.specs.declared.step.Step.TheVariants as step
use Rattle.cluster_world.specs.declared.world.World.{World}
use Rattle.cluster_world.proofs.Ended.{sound_ended}
use Rattle.cluster_world.proofs.Leading.{led_whole}
use Rattle.cluster_world.proofs.Mirrors.{IsOf}
use Rattle.cluster_world.proofs.Ordered.{order_makes, order_are}
use Rattle.cluster_world.proofs.Quietly.{AreQuiet, moves_quiet, settle_quiet, tick_or}
use Rattle.cluster_world.proofs.Wholes.{is_of_next}
use Rattle.settled_worlds.proofs.Parted.{IsKnown, known_first, known_others}

-- each of these steps is of the kind
abbrev pub AllAre : (Step → Type 0) → List StepMade → Type 0
AllAre Good [] = ⊤
AllAre Good (one ∷ more) = Good one.step × AllAre Good more

-- so are those of a run line
abbrev pub AreOfKind : (Step → Type 0) → Outcome → Type 0
AreOfKind Good (Moved asked steps sum up) = AllAre Good steps
AreOfKind Good (Settling result steps) = AllAre Good steps
AreOfKind Good outcome = ⊤

abbrev pub AllOfKind : (Step → Type 0) → List Outcome → Type 0
AllOfKind Good [] = ⊤
AllOfKind Good (one ∷ more) = AreOfKind Good one × AllOfKind Good more

-- a kind that has all steps of sessions
pub record HasSessions (Good : Step → Type 0) : Type 0 where
  pub begins : (node : ℕ) (call : WorldCall) → Good (step.Begin node call)
  pub asks : (ticket : Number) → Good (step.Ask ticket)
  pub gives_up : (ticket : Number) → Good (step.GiveUp ticket)

-- a user's leave hands no message in
pub leave_ended : (user : List ℕ) (begun : WorldCall) → IsLeave user begun → IsTextEnded (machine_call begun)
leave_ended user (calls.Leave name login manager) is = tt
leave_ended user (calls.Deliver deliver) is = absurd is
leave_ended user (calls.Login name proof) is = absurd is
leave_ended user (calls.Fetch name id holders from most) is = absurd is
leave_ended user (calls.Strike name items) is = absurd is

module _ {D : Type 0} (on : View D) (plan : Plan) (told : Bool) where
  -- The world stands for a sound one of which this holds.
  pub record Has (Q : joint.World → Type 0) (world : World D) : Type 0 where
    pub of : IsOf on plan told world
    pub whole : IsWhole on plan world
    pub holds : Q whole.v

  -- each step of the kind keeps it
  abbrev pub Keeps : (Step → Type 0) → (joint.World → Type 0) → Type 0
  Keeps Good Q = (result : Result Said StepFault) (made : Step) → Good made → (story : List (List login.Slot)) (v w : joint.World) → Stands plan told story v
      → MakesStep plan told v (whole_step made) (whole_outcome result) w → Q v → Q w

  -- what one step leads to
  pub record StepHas (Q : joint.World → Type 0) (result : Result Said StepFault) (made : Step) (new : World D) (v : joint.World) : Type 0 where
    pub next : Has Q new
    pub makes : MakesStep plan told v (whole_step made) (whole_outcome result) next.whole.v

  pub sound_at : (Q : joint.World → Type 0) (world : World D) (h : Has Q world) → Stands plan told h.whole.story h.whole.v
  sound_at Q world h = subst (λ t. Stands plan t h.whole.story h.whole.v) h.of.told_is h.whole.sound

  module _ (Q : joint.World → Type 0) (Good : Step → Type 0) (keeps : Keeps Good Q) where
    pub step_has : (result : Result Said StepFault) (made : Step) (old new : World D) → Good made → (told ≡ true) ⊎ IsBlind plan.nodes made → IsEnded made → IsStep on result made old new
        → (h : Has Q old) → StepHas Q result made new h.whole.v
    step_has result made old new good known ended is h =
        let l = led_whole on plan told result made old new h.of.plan_is h.of.told_is known ended is h.whole in
        record {
          next = record {
            of = is_of_next on plan told result made old new h.of is;
            whole = l.whole;
            holds = keeps result made good h.whole.story h.whole.v l.whole.v (sound_at Q old h) l.made h.holds;
          };
          makes = l.made;
        }

    one_has : (result : Result Said StepFault) (made : Step) (old new : World D) → Good made → (told ≡ true) ⊎ IsBlind plan.nodes made → IsEnded made → IsStep on result made old new → Has Q old → Has Q new
    one_has result made old new good known ended is h = (step_has result made old new good known ended is h).next

    pub same_has : (old new : World D) → new ≡ old → Has Q old → Has Q new
    same_has old new same h = subst (Has Q) (sym same) h

    first_known : (one : StepMade) (more : List StepMade) → (told ≡ true) ⊎ AreBlind plan.nodes (one ∷ more) → (told ≡ true) ⊎ IsBlind plan.nodes one.step
    first_known one more (inl t) = inl t
    first_known one more (inr b) = inr b.0

    others_known : (one : StepMade) (more : List StepMade) → (told ≡ true) ⊎ AreBlind plan.nodes (one ∷ more) → (told ≡ true) ⊎ AreBlind plan.nodes more
    others_known one more (inl t) = inl t
    others_known one more (inr b) = inr b.1

    -- the steps of a run line
    all_have : (made : List StepMade) (old new : World D) → AllAre Good made → AreQuiet made → (told ≡ true) ⊎ AreBlind plan.nodes made → MakesSteps on made old new → Has Q old → Has Q new
    all_have [] old new good quiet known is h = same_has old new is h
    all_have (one ∷ more) old new good quiet known (mid, is, rest) h =
        all_have more mid new good.1 quiet.1 (others_known one more known) rest
        (one_has one.result one.step old mid good.0 (first_known one more known) quiet.0.1 is h)

    ticks_have : (seconds : ℕ) (made : List StepMade) (old new : World D) → AllAre Good made → MakesOrder on (order.Tick seconds) made old new → Has Q old → Has Q new
    ticks_have seconds made old new good (result, made_is, is) h =
        let all : AllAre Good (record { step = step.Tick seconds; result = result } ∷ []) = subst (AllAre Good) made_is good in
        one_has result (step.Tick seconds) old new all.0 (inr tt) tt is h

    module _ (sessions : HasSessions Good) (lines : List (List ℕ)) where
      -- what came of a step
      pub came_has : (outcome : Outcome) (awaited left : List Awaited) (old new : World D) → AreOfKind Good outcome → (told ≡ true) ⊎ IsOfBlind plan.nodes outcome → IsOfSession lines outcome
          → Came on outcome awaited old left new → Has Q old → Has Q new
      came_has (Began k node asked ticket) awaited left old new good known of (call, stirs, e, is, left_is) h = one_has _ (step.Begin node call) old new (sessions.begins node call) (inr tt) (sound_ended call asked e of.0) is h
      came_has (Refused k node asked) awaited left old new good known of (call, why, e, refusal, is, left_is) h = one_has _ (step.Begin node call) old new (sessions.begins node call) (inr tt) (sound_ended call asked e of) is h
      came_has (Fell k node asked) awaited left old new good known of (call, e, is, left_is) h = one_has _ (step.Begin node call) old new (sessions.begins node call) (inr tt) (sound_ended call asked e of.0) is h
      came_has (Broke k node asked) awaited left old new good known of (call, failed, e, is, left_is) h = one_has _ (step.Begin node call) old new (sessions.begins node call) (inr tt) (sound_ended call asked e of.0) is h
      came_has (Answers k asked ticket given) awaited left old new good known of (own, given_is, waits, is, left_is) h = one_has _ (step.Ask ticket) old new (sessions.asks ticket) (inr tt) tt is h
      came_has (StillPending k ticket) awaited left old new good known of (asked, got, wanted, waits, is, left_is) h = one_has _ (step.Ask ticket) old new (sessions.asks ticket) (inr tt) tt is h
      came_has (Unanswered k asked ticket) awaited left old new good known of (result, waits, leaves, is, left_is) h = one_has result (step.Ask ticket) old new (sessions.asks ticket) (inr tt) tt is h
      came_has (GaveUp k asked ticket) awaited left old new good known of (waits, is, left_is) h = one_has _ (step.GiveUp ticket) old new (sessions.gives_up ticket) (inr tt) tt is h
      came_has (Abandoned k asked ticket) awaited left old new good known of (waits, is, left_is) h = one_has _ (step.GiveUp ticket) old new (sessions.gives_up ticket) (inr tt) tt is h
      came_has (KeptUp k ticket why) awaited left old new good known of (asked, waits, is, left_is) h = one_has _ (step.GiveUp ticket) old new (sessions.gives_up ticket) (inr tt) tt is h
      came_has (Left k node user) awaited left old new good known of (call, result, leaves, is, left_is) h = one_has result (step.Begin node call) old new (sessions.begins node call) (inr tt) (leave_ended user call leaves) is h
      came_has (Moved asked made sum up) awaited left old new good known of (makes, left_is, sum_is, up_is) h = ⊎_elim
          (λ (seconds, same). ticks_have seconds made old new good (subst (λ (o : ClusterOrder). MakesOrder on o made old new) same makes) h)
          (λ other. all_have made old new good (moves_quiet asked made other (order_are on asked made old new makes)) known (order_makes on asked made old new makes) h)
          (tick_or asked)
      came_has (Settling result made) awaited left old new good known of (makes, are, left_is) h =
          all_have made old new good (settle_quiet made (subst AreOfSettle are makes.of)) known (subst (λ (l : List StepMade). MakesSteps on l old new) are makes.made) h
      came_has (Mapped user told_map) awaited left old new good known of (told_is, left_is, same) h = same_has old new same h

      pub makes_have : (outcomes : List Outcome) (awaited left : List Awaited) (old new : World D) → AllOfKind Good outcomes → IsKnown told plan.nodes outcomes → AreOfSessions lines outcomes
          → Makes on outcomes awaited old left new → Has Q old → Has Q new
      makes_have [] awaited left old new good known of (left_is, is) h = same_has old new is h
      makes_have (outcome ∷ more) awaited left old new good known of (between, mid, came, rest) h =
          makes_have more between left mid new good.1 (known_others told plan.nodes outcome more known) (λ one m. of one (inr m)) rest
          (came_has outcome awaited between old mid good.0 (known_first told plan.nodes outcome more known) (of outcome (inl refl)) came h)
