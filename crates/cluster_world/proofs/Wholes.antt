-- A world that was driven stands for a sound one of the whole machine, and so all its memberships of one epoch are equal.
use Rattle.std.proofs.Common.{◌≡◌, ◌⊎◌, inl, inr, ⊎_elim, ℕ, zero, suc, ◌≤◌, ◌<◌, Bool, true, List, [], ◌∷◌, length, Option, Some, None, refl, sym, ap, ◌∙◌, subst, arith}
use Rattle.std.specs.Prelude.{slice_get, Result}
use Rattle.std.proofs.lemmas.List.{length-append}
use Rattle.mail_model.specs.Identity.{EpochId, no_epoch}
use Rattle.mail_model.specs.Plan.{Plan}
use Rattle.mail_model.specs.Record.{Record}
use Rattle.mail_model.specs.Tape.{ClusterOrder}
use Rattle.mail_model.specs.Tape.{ClusterOrder as order}
use Rattle.mail_base.specs.Buckets.{bucket_at}
use Rattle.object_model.specs.Letters.{Member, Claim, MapRow, Membership, Letter}
use Rattle.object_model.specs.Letters.Body.{Install}
use Rattle.object_model.specs.Lists.{Among}
use Rattle.call_tickets.specs.declared.call.Call.{Call as WorldCall}
use Rattle.call_tickets.specs.declared.call.Call.TheVariants as calls
use Rattle.cluster_model.specs.Room.{Flight}
use Rattle.cluster_model.specs.Starts.{first_epoch, first_members, first_membership}
use Rattle.cluster_model.specs.World as machine
use Rattle.cluster_model.specs.World.{letters_of}
use Rattle.cluster_model.specs.WorldLaws.{opening_world}
use Rattle.maps_model.specs.Assign.{IsOfMembers, IsAssigned, ClaimedRow, FreeRow}
use Rattle.maps_model.specs.Cluster.{manager_in}
use Rattle.maps_model.specs.Words.{ManagersAreMembers}
use Rattle.whole_model.specs.Whole as whole
use Rattle.whole_world.specs.First.{first_world}
use Rattle.joint_world.specs.Laws.{Stands}
use Rattle.joint_world.specs.World.{whole_world_of}
use Rattle.joint_world.proofs.SameStep.{makes_same}
use Rattle.whole_world.specs.Makes.{MakesStep}
use Rattle.whole_world.specs.Settled.{IsKnownEpoch, unopened_world}
use Rattle.whole_world.specs.Sweeps.{IsCharted}
use Rattle.whole_world.specs.World as whole_world
use Rattle.whole_world.specs.World.{mail_world_of}
use Rattle.whole_world.proofs.Along.{up_slot}
use Rattle.whole_world.proofs.Charting.{all_chart, opens_charted}
use Rattle.whole_world.proofs.FirstSettled.{first_charted}
use Rattle.whole_world.proofs.InFirst.{first_stands}
use Rattle.whole_world.proofs.Opening.{opens}
use Rattle.whole_world.proofs.Settling.{one_map_per_epoch as one_map}
use Rattle.whole_world.proofs.Stepping.{all_stand}
use Rattle.user_map.proofs.Assigned.{some_map}
use Rattle.node_core.specs.Beginning.{call_seen as machine_call, IsTextEnded}
use Rattle.node_core.specs.Nodes.{node_seen}
use Rattle.node_maps.specs.Nodes.{node_of}
use Rattle.node_store.specs.Disks.{View}
use Rattle.whole_node.specs.Starting.{first_map}
use Rattle.whole_node.specs.declared.node.WholeNode.{WholeNode}
use Rattle.cluster_world.specs.Ended.{IsEnded}
use Rattle.cluster_world.specs.Lives.{of_node}
use Rattle.cluster_world.specs.Maps.{AreMaps, StandsForWhole}
use Rattle.cluster_world.specs.Made.{StepMade, MakesSteps}
use Rattle.cluster_world.specs.Outcomes.{Outcome, Awaited, MakesOrder, Came, Makes, IsLeave}
use Rattle.cluster_world.specs.Outcomes.Outcome.{Began, Refused, Fell, Broke, Answers, StillPending, Unanswered, GaveUp, Abandoned, KeptUp, Left, Moved, Settling, Mapped}
use Rattle.cluster_world.specs.Owing.{AreBlind, IsOfBlind, AllBlind, IsOfSession, AreOfSessions}
use Rattle.cluster_world.specs.Seen.{whole_step, whole_outcome}
use Rattle.cluster_world.specs.Steps.{IsBlind, IsStep}
use Rattle.cluster_world.specs.Settling.{AreOfSettle}
use Rattle.cluster_world.specs.Sound.{IsWhole}
use Rattle.cluster_world.specs.Wholes.{WorldIsWhole, IsKnownIn, HasOneMap, OneMapPerEpoch}
use Rattle.cluster_world.specs.Worlds.{WorldState, state_of, disks_tell, StateStandsFor}
use Rattle.cluster_world.specs.declared.fault.StepFault.{StepFault}
use Rattle.cluster_world.specs.declared.life.Life.TheVariants.{Up}
use Rattle.cluster_world.specs.declared.step.Said.{Said}
use Rattle.cluster_world.specs.declared.step.Step.{Step}
use Rattle.cluster_world.specs.declared.step.Step.TheVariants as step
use Rattle.cluster_world.specs.declared.world.World.{World}
use Rattle.cluster_world.proofs.Chained.{stays, stays_came, step_stays}
use Rattle.cluster_world.proofs.Ended.{sound_ended}
use Rattle.cluster_world.proofs.Lasting.{up_there}
use Rattle.cluster_world.proofs.Leading.{led_whole, opens_whole}
use Rattle.cluster_world.proofs.Mirrors.{IsOf}
use Rattle.cluster_world.proofs.Ordered.{order_makes, order_are}
use Rattle.cluster_world.proofs.Quietly.{AreQuiet, moves_quiet, settle_quiet, tick_or}
use Rattle.cluster_world.proofs.Still.{some_same}

-- a user's leave hands no message in
leave_ended : (user : List ℕ) (begun : WorldCall) → IsLeave user begun → IsTextEnded (machine_call begun)
leave_ended user (calls.Leave name login manager) is = tt
leave_ended user (calls.Deliver deliver) is = absurd is
leave_ended user (calls.Login name proof) is = absurd is
leave_ended user (calls.Fetch name id holders from most) is = absurd is
leave_ended user (calls.Strike name items) is = absurd is

-- it stands for what the whole machine sees of the world
abbrev pub as_whole : {D : Type 0} (on : View D) (plan : Plan) (world : World D) (h : IsWhole on plan world) → StandsForWhole on (state_of world) (whole_world_of h.v)
as_whole on plan world h = record { mail = h.stands.mail; maps = h.stands.maps }

module _ {D : Type 0} (on : View D) where
  -- a node that is up, in the whole machine
  pub record UpWhole (v : whole_world.World) (n : ℕ) (node : WholeNode) : Type 0 where
    pub seen : whole.Node
    pub disk : List Record
    pub up : whole_world.IsUp v n seen disk
    pub mail : seen.mail ≡ node_seen node.mail
    pub maps : seen.maps ≡ node_of node.maps

  pub whole_up : (state : WorldState D) (v : whole_world.World) (n : ℕ) (node : WholeNode) → length state.disks ≡ length state.lives → StandsForWhole on state v → of_node state.lives n ≡ Some (Up node) → UpWhole v n node
  whole_up state v n node even st e =
      let (disk, there) = up_there on n node state.lives state.disks (mail_world_of v).slots even st.mail.slots e in
      let (seen, here, same) = up_slot v.slots n (node_seen node.mail) disk there in
      record { seen = seen; disk = disk; up = here; mail = same; maps = st.maps.each n node (whole_world.slot_up seen disk) seen e here refl }

  -- What is known in the program is known in the machine.
  in_letters : (flight : Flight) (flights : List Flight) → Among flight flights → Among flight.letter (letters_of flights)
  in_letters flight [] m = absurd m
  in_letters flight (one ∷ flights) (inl same) = inl (ap (λ (f : Flight). f.letter) same)
  in_letters flight (one ∷ flights) (inr m) = inr (in_letters flight flights m)

  pub known_there : (world : World D) (v : whole_world.World) (g : Membership) → StandsForWhole on (state_of world) v → IsKnownIn (state_of world) g → IsKnownEpoch v g
  known_there world v g st (inl (n, node, e, is)) =
      let u = whole_up (state_of world) v n node (world.nodes.disk_each ∙ sym world.nodes.all) st e in
      inl (n, u.seen, u.disk, u.up, ap (λ x. x.installed) u.maps ∙ is)
  known_there world v g st (inr (flight, m, is)) = inr (flight.letter, in_letters flight v.flying (subst (Among flight) st.mail.flying m), is)

  module _ (plan : Plan) (told : Bool) where
    -- what one step leads to, as the whole machine has it
    pub record StepsWhole (result : Result Said StepFault) (made_step : Step) (old new : World D) (h : IsWhole on plan old) : Type 0 where
      pub whole : IsWhole on plan new
      pub made : MakesStep plan told (whole_world_of h.v) (whole_step made_step) (whole_outcome result) (whole_world_of whole.v)

    pub step_whole : (result : Result Said StepFault) (step : Step) (old new : World D) → IsOf on plan told old → (told ≡ true) ⊎ IsBlind plan.nodes step → IsEnded step → IsStep on result step old new
        → (h : IsWhole on plan old) → StepsWhole result step old new h
    step_whole result step old new of known ended is h =
        let l = led_whole on plan told result step old new of.plan_is of.told_is known ended is h in
        record {
          whole = l.whole;
          made = makes_same plan told h.story h.v (subst (λ t. Stands plan t h.story h.v) of.told_is h.sound) (whole_step step) (whole_outcome result) l.whole.v l.made;
        }

    pub is_of_next : (result : Result Said StepFault) (step : Step) (old new : World D) → IsOf on plan told old → IsStep on result step old new → IsOf on plan told new
    is_of_next result step old new of is = let s = step_stays on result step old new is in record { plan_is = s.plan ∙ of.plan_is; told_is = s.told ∙ of.told_is }

    whole_on : (result : Result Said StepFault) (step : Step) (old new : World D) → IsOf on plan told old → (told ≡ true) ⊎ IsBlind plan.nodes step → IsEnded step → IsStep on result step old new
        → IsWhole on plan old → IsWhole on plan new
    whole_on result step old new of known ended is h = (step_whole result step old new of known ended is h).whole

    first_known : (one : StepMade) (more : List StepMade) → (told ≡ true) ⊎ AreBlind plan.nodes (one ∷ more) → (told ≡ true) ⊎ IsBlind plan.nodes one.step
    first_known one more (inl t) = inl t
    first_known one more (inr b) = inr b.0

    others_known : (one : StepMade) (more : List StepMade) → (told ≡ true) ⊎ AreBlind plan.nodes (one ∷ more) → (told ≡ true) ⊎ AreBlind plan.nodes more
    others_known one more (inl t) = inl t
    others_known one more (inr b) = inr b.1

    -- the steps of a run line
    all_whole : (made : List StepMade) (old new : World D) → IsOf on plan told old → AreQuiet made → (told ≡ true) ⊎ AreBlind plan.nodes made → MakesSteps on made old new → IsWhole on plan old → IsWhole on plan new
    all_whole [] old new of quiet known is h = subst (IsWhole on plan) (sym is) h
    all_whole (one ∷ more) old new of quiet known (mid, is, rest) h =
        all_whole more mid new (is_of_next one.result one.step old mid of is) quiet.1 (others_known one more known) rest
        (whole_on one.result one.step old mid of (first_known one more known) quiet.0.1 is h)

    ticks_whole : (seconds : ℕ) (made : List StepMade) (old new : World D) → IsOf on plan told old → MakesOrder on (order.Tick seconds) made old new → IsWhole on plan old → IsWhole on plan new
    ticks_whole seconds made old new of (result, made_is, is) h = whole_on result (step.Tick seconds) old new of (inr tt) tt is h

    -- what came of a step
    came_whole : (lines : List (List ℕ)) (outcome : Outcome) (awaited left : List Awaited) (old new : World D) → IsOf on plan told old → (told ≡ true) ⊎ IsOfBlind plan.nodes outcome → IsOfSession lines outcome
        → Came on outcome awaited old left new → IsWhole on plan old → IsWhole on plan new
    came_whole lines (Began k node asked ticket) awaited left old new of known session (call, stirs, e, is, left_is) h = whole_on _ (step.Begin node call) old new of (inr tt) (sound_ended call asked e session.0) is h
    came_whole lines (Refused k node asked) awaited left old new of known session (call, why, e, refusal, is, left_is) h = whole_on _ (step.Begin node call) old new of (inr tt) (sound_ended call asked e session) is h
    came_whole lines (Fell k node asked) awaited left old new of known session (call, e, is, left_is) h = whole_on _ (step.Begin node call) old new of (inr tt) (sound_ended call asked e session.0) is h
    came_whole lines (Broke k node asked) awaited left old new of known session (call, failed, e, is, left_is) h = whole_on _ (step.Begin node call) old new of (inr tt) (sound_ended call asked e session.0) is h
    came_whole lines (Answers k asked ticket given) awaited left old new of known session (own, given_is, waits, is, left_is) h = whole_on _ (step.Ask ticket) old new of (inr tt) tt is h
    came_whole lines (StillPending k ticket) awaited left old new of known session (asked, got, wanted, waits, is, left_is) h = whole_on _ (step.Ask ticket) old new of (inr tt) tt is h
    came_whole lines (Unanswered k asked ticket) awaited left old new of known session (result, waits, leaves, is, left_is) h = whole_on result (step.Ask ticket) old new of (inr tt) tt is h
    came_whole lines (GaveUp k asked ticket) awaited left old new of known session (waits, is, left_is) h = whole_on _ (step.GiveUp ticket) old new of (inr tt) tt is h
    came_whole lines (Abandoned k asked ticket) awaited left old new of known session (waits, is, left_is) h = whole_on _ (step.GiveUp ticket) old new of (inr tt) tt is h
    came_whole lines (KeptUp k ticket why) awaited left old new of known session (asked, waits, is, left_is) h = whole_on _ (step.GiveUp ticket) old new of (inr tt) tt is h
    came_whole lines (Left k node user) awaited left old new of known session (call, result, leaves, is, left_is) h = whole_on result (step.Begin node call) old new of (inr tt) (leave_ended user call leaves) is h
    came_whole lines (Moved asked made sum up) awaited left old new of known session (makes, left_is, sum_is, up_is) h = ⊎_elim
        (λ (seconds, same). ticks_whole seconds made old new of (subst (λ (o : ClusterOrder). MakesOrder on o made old new) same makes) h)
        (λ other. all_whole made old new of (moves_quiet asked made other (order_are on asked made old new makes)) known (order_makes on asked made old new makes) h)
        (tick_or asked)
    came_whole lines (Settling result made) awaited left old new of known session (makes, are, left_is) h =
        all_whole made old new of (settle_quiet made (subst AreOfSettle are makes.of)) known (subst (λ (l : List StepMade). MakesSteps on l old new) are makes.made) h
    came_whole lines (Mapped user told_map) awaited left old new of known session (told_is, left_is, same) h = subst (IsWhole on plan) (sym same) h

    first_blind : (one : Outcome) (more : List Outcome) → (told ≡ true) ⊎ AllBlind plan.nodes (one ∷ more) → (told ≡ true) ⊎ IsOfBlind plan.nodes one
    first_blind one more (inl t) = inl t
    first_blind one more (inr b) = inr b.0

    others_blind : (one : Outcome) (more : List Outcome) → (told ≡ true) ⊎ AllBlind plan.nodes (one ∷ more) → (told ≡ true) ⊎ AllBlind plan.nodes more
    others_blind one more (inl t) = inl t
    others_blind one more (inr b) = inr b.1

    makes_whole : (lines : List (List ℕ)) (outcomes : List Outcome) (awaited left : List Awaited) (old new : World D) → IsOf on plan told old → (told ≡ true) ⊎ AllBlind plan.nodes outcomes → AreOfSessions lines outcomes
        → Makes on outcomes awaited old left new → IsWhole on plan old → IsWhole on plan new
    makes_whole lines [] awaited left old new of known sessions (left_is, is) h = subst (IsWhole on plan) (sym is) h
    makes_whole lines (outcome ∷ more) awaited left old new of known sessions (between, mid, came, rest) h =
        let s = stays_came on outcome awaited between old mid came in
        makes_whole lines more between left mid new (record { plan_is = s.plan ∙ of.plan_is; told_is = s.told ∙ of.told_is }) (others_blind outcome more known) (λ one m. sessions one (inr m)) rest
        (came_whole lines outcome awaited between old mid of (first_blind outcome more known) (sessions outcome (inl refl)) came h)

  pub world_is_whole : WorldIsWhole on
  world_is_whole plan lines outcomes left start last d =
      let s = stays on outcomes [] left start last d.makes in
      let told = disks_tell on.seen last in
      let begins : IsWhole on plan start = subst (λ (p : Plan). IsWhole on p start) d.begins.plan_is (opens_whole on plan start d.begins).0 in
      makes_whole plan told lines outcomes [] left start last (record { plan_is = d.begins.plan_is; told_is = sym s.told })
      (⊎_elim (λ t. inl (s.told ∙ t)) (λ b. inr (subst (λ (p : Plan). AllBlind p.nodes outcomes) d.begins.plan_is b)) d.known) d.sessions d.makes begins

  pub one_map_per_epoch : OneMapPerEpoch on
  one_map_per_epoch plan lines outcomes left start last d a b known_a known_b e =
      let h = world_is_whole plan lines outcomes left start last d in
      one_map plan (whole_world_of h.v) h.sound.whole a b (known_there last (whole_world_of h.v) a (as_whole on plan last h) known_a) (known_there last (whole_world_of h.v) b (as_whole on plan last h) known_b) e
