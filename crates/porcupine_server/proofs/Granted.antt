-- What the machine makes of the lines of a good tape that were handled, and that it grants the next.
use Rattle.std.proofs.Common.{◌≡◌, ⊎_elim, inl, inr, ℕ, Bool, true, List, [], ◌∷◌, ◌++◌, length, map, flat_map, Option, Some, None, Result, Ok, Err, refl, sym, ap, ◌∙◌, subst, arith, append-nil, append_assoc, length-append}
use Rattle.std.specs.Prelude.{◌⊎◌}
use Rattle.std.proofs.lemmas.Option.{none-some}
use Rattle.std.proofs.lemmas.List.Concat.{flat_map-append}
use Rattle.mail_model.specs.Plan.{Plan}
use Rattle.mail_model.specs.Stored.{opened, opened_at, kind_at}
use Rattle.mail_model.specs.Tape.{Protocol, Order, ClusterOrder, tape_order}
use Rattle.mail_model.specs.Tape.{Order as tape}
use Rattle.mail_model.specs.Tape.{ClusterOrder as order}
use Rattle.mail_model.specs.Transcript.{Entry}
use Rattle.object_model.specs.Lists.{Among}
use Rattle.object_model.proofs.Lists.{among_front}
use Rattle.session_model.specs.Calls.{Call}
use Rattle.session_model.specs.Sessions.{Session, session_at}
use Rattle.session_model.specs.Acts.{Act}
use Rattle.session_model.specs.Acts.Act.{Does}
use Rattle.session_model.specs.Acts.Deed.{Hears}
use Rattle.session_model.specs.Logs.{Asked}
use Rattle.session_model.specs.Turns.{IsAtNode}
use Rattle.session_model.specs.Run.{Made, Stop, IsDriven, FirstStep}
use Rattle.session_model.specs.Run.Stop.{OutOfMemory, Denied}
use Rattle.session_model.proofs.InOrder.{kind_there}
use Rattle.cluster_model.specs.Steps as steps
use Rattle.whole_world.specs.Steps as whole_steps
use Rattle.whole_world.specs.Makes.{MadeStep}
use Rattle.joint_world.specs.First.{first_world}
use Rattle.joint_world.specs.World.{World as Machine}
use Rattle.joint_world.specs.Makes.{MakesStep}
use Rattle.accepted_tapes.specs.Orders as asks
use Rattle.accepted_tapes.specs.Follows.{Standing, IsOpenedAt, FollowsAll}
use Rattle.accepted_tapes.specs.Accepted.{Grants}
use Rattle.node_store.specs.Disks.{View}
use Rattle.whole_node.specs.Starting.{first_map}
use Rattle.cluster_world.specs.Opens.{IsAtBeginning}
use Rattle.cluster_world.specs.Sound.{IsWhole}
use Rattle.cluster_world.specs.Worlds.{plan_of, disks_tell}
use Rattle.cluster_world.specs.Seen.{whole_outcome}
use Rattle.cluster_world.specs.Owing.{IsOfSession, AreOfSessions}
use Rattle.cluster_world.specs.Made.{StepMade, MakesSteps}
use Rattle.cluster_world.specs.Settling.{AreOfSettle, IsRefusedBy, SweepsInVain}
use Rattle.cluster_world.specs.Outcomes.{Outcome, Awaited, Came, Makes, made_of}
use Rattle.cluster_world.specs.Outcomes.Outcome.{Began, Refused, Fell, Broke, Answers, StillPending, Unanswered, GaveUp, Abandoned, KeptUp, Left, Moved, Settling, Mapped}
use Rattle.cluster_world.specs.declared.world.World.{World}
use Rattle.cluster_world.specs.declared.step.Step.TheVariants as step
use Rattle.cluster_world.specs.declared.step.Said.{Said}
use Rattle.cluster_world.specs.declared.fault.StepFault.{StepFault}
use Rattle.cluster_world.specs.declared.fault.StepFault.TheVariants as fault
use Rattle.cluster_world.proofs.Leading.{opens_whole}
use Rattle.cluster_world.proofs.Mirrors.{IsOf}
use Rattle.drive_tape.specs.declared.drove.TapeFault.{TapeFault}
use Rattle.drive_tape.specs.declared.drove.Stop.TheVariants as why
use Rattle.drive_tape.specs.Denials.{stop_by}
use Rattle.drive_tape.proofs.Settles.{stays_cause}
use Rattle.drive_tape.specs.Led.{AreLed, AreLedTo, EndsWith, IsUntold, AreDenied}
use Rattle.drive_tape.specs.Drive.{IsDenied, EndsDenied}
use Rattle.drive_tape.specs.Points.{IsAtOwnNode, AreAtOwnNodes}
use Rattle.drive_tape.proofs.Kept.{of_sessions}
use Rattle.drive_tape.proofs.OpenedKinds.{driven_kinds}
use Rattle.porcupine_server.proofs.MachineOrders.{made_seen, led, order_follows, settle_follows}
use Rattle.porcupine_server.proofs.Followed.{IsPlaced, Followed, ends_alike, all_acts}

own_among : (sessions : List Session) (outcomes : List Outcome) (outcome : Outcome) → AreAtOwnNodes sessions outcomes → Among outcome outcomes → IsAtOwnNode sessions outcome
own_among sessions [] outcome all among = absurd among
own_among sessions (first ∷ outcomes) outcome all among = ⊎_elim
    (λ (same : first ≡ outcome). subst (IsAtOwnNode sessions) same all.0) (λ (rest : Among outcome outcomes). own_among sessions outcomes outcome all.1 rest) among

-- session k of these has this protocol and this node
abbrev KindIs : List (Protocol × ℕ) → ℕ → Protocol → ℕ → Type 0
KindIs kinds k protocol node = kind_at kinds k ≡ Some (protocol, node)

-- nothing is left of the acts, where memory did not run out
none_left : (last : List Act) (rest : List Outcome) (stop : Stop) (lacking : List Asked) (extra : List Made) → EndsWith last rest stop lacking extra → (stop ≡ OutOfMemory → ⊥) → last ≡ []
none_left [] rest stop lacking extra ends ample = refl
none_left (Does k (Hears one) ∷ []) (outcome ∷ []) stop lacking extra ends ample = absurd (ample ends.3)
none_left last rest stop lacking extra ends ample = absurd ends

-- the last of two lists that are one
last_same : {X : Type 0} (xs ys : List X) (x y : X) → xs ++ x ∷ [] ≡ ys ++ y ∷ [] → x ≡ y
last_same [] [] x y e = cc
last_same [] (b ∷ ys) x y e = absurd (omega (arith, ap length e, length-append ys (y ∷ [])))
last_same (a ∷ xs) [] x y e = absurd (omega (arith, ap length e, length-append xs (x ∷ [])))
last_same (a ∷ xs) (b ∷ ys) x y e = last_same xs ys x y (let same : xs ++ x ∷ [] ≡ ys ++ y ∷ [] = cc in same)

-- a fault of the tape is a refusal of the machine
is_refusal : (cause : StepFault) (fault : TapeFault) → stop_by cause ≡ why.Bad fault → (f : whole_steps.StepFault) × (whole_outcome (Err cause) ≡ whole_steps.StepOutcome.Refused f)
is_refusal fault.NoSuchNode f is = (whole_steps.StepFault.Fault steps.StepFault.NoSuchNode, refl)
is_refusal fault.NodeLost f is = (whole_steps.StepFault.Fault steps.StepFault.NodeLost, refl)
is_refusal fault.NodeDown f is = (whole_steps.StepFault.Fault steps.StepFault.NodeDown, refl)
is_refusal fault.NodeUp f is = (whole_steps.StepFault.Fault steps.StepFault.NodeIsUp, refl)
is_refusal fault.NoSuchLetter f is = (whole_steps.StepFault.Fault steps.StepFault.NoSuchLetter, refl)
is_refusal fault.NoSuchTicket f is = (whole_steps.StepFault.Fault steps.StepFault.NoSuchTicket, refl)
is_refusal fault.NotAGroup f is = (whole_steps.StepFault.NotAGroup, refl)
is_refusal fault.Worn f is = (whole_steps.StepFault.Fault steps.StepFault.Worn, refl)
is_refusal fault.NoRoom f is = (whole_steps.StepFault.Fault steps.StepFault.NoRoom, refl)
is_refusal (fault.NoMemory down) f is = absurd (let clash : why.NoMemory ≡ why.Bad f = is in cc)

-- a line that was denied here is denied there
denied_alike : (asked : ClusterOrder) (cause : StepFault) (f : whole_steps.StepFault) → whole_outcome (Err cause) ≡ whole_steps.StepOutcome.Refused f → (made : List StepMade) → AreDenied asked cause made → asks.AreDenied asked f (map made_seen made)
denied_alike (order.Regroup node) cause f is made denied = ⊎_elim
    (λ ends. inl (subst (λ out. asks.EndsIn out (map made_seen made)) is (ends_alike (Err cause) made ends)))
    (λ none. inr (ap (map made_seen) none.0)) denied
denied_alike asked cause f is made denied = subst (λ out. asks.EndsIn out (map made_seen made)) is (ends_alike (Err cause) made denied)

module _ {D : Type 0} (on : View D) (start last : World D) (begins : IsAtBeginning on (plan_of start) start) (told : disks_tell on.seen start ≡ true) (plan : Plan) (same : plan_of start ≡ plan)
    (stop : Stop) (handled midst : List (List ℕ)) (acts behind : List (List Act)) (outcomes : List Outcome) (entries : List Entry) (sessions : List Session)
    (driven : IsDriven (plan_of start) stop handled midst acts behind (map made_of outcomes) entries sessions) (awaited : List Awaited) (makes : Makes on outcomes [] start awaited last)
    (at_nodes : AreAtOwnNodes sessions outcomes) (lacking : List Asked) (leads : AreLedTo stop (plan_of start) [] [] (flat_map (λ a. a) (acts ++ behind)) outcomes lacking driven.extra)
    (lines others : List (List ℕ)) (first : lines ≡ (handled ++ midst) ++ others) (ample : stop ≡ OutOfMemory → ⊥) where
  kinds : opened lines ≡ opened (handled ++ midst) ++ opened others
  kinds = ap opened first ∙ flat_map-append (λ (line : List ℕ). opened_at (tape_order line)) (handled ++ midst) others

  at : (k node : ℕ) (there : Option Session) → session_at sessions k ≡ there → IsAtNode node there → IsOpenedAt lines k node
  at k node None none is = absurd is
  at k node (Some session) here is = (
    session.protocol,
    subst (KindIs (opened lines) k session.protocol) is
        (kind_there (opened lines) (opened others) sessions k session (kinds ∙ ap (λ l. l ++ opened others) (driven_kinds (plan_of start) stop handled midst acts behind (map made_of outcomes) entries sessions driven)) here),
  )

  sound : AreOfSessions (handled ++ midst) outcomes
  sound = of_sessions on start last begins stop handled midst acts behind (map made_of outcomes) entries sessions driven outcomes awaited makes refl at_nodes

  placed : (outcome : Outcome) → Among outcome outcomes → IsPlaced on plan lines outcome
  placed outcome among = by outcome (own_among sessions outcomes outcome at_nodes among) (sound outcome among)
    where
      by : (o : Outcome) → IsAtOwnNode sessions o → IsOfSession (handled ++ midst) o → IsPlaced on plan lines o
      by (Began k node asked ticket) own of_it = (at k node (session_at sessions k) refl own, of_it.0)
      by (Fell k node asked) own of_it = (at k node (session_at sessions k) refl own, of_it.0)
      by (Left k node user) own of_it = at k node (session_at sessions k) refl own
      by (Refused k node asked) own of_it = tt
      by (Broke k node asked) own of_it = tt
      by (Answers k asked ticket given) own of_it = tt
      by (StillPending k ticket) own of_it = tt
      by (Unanswered k asked ticket) own of_it = tt
      by (GaveUp k asked ticket) own of_it = tt
      by (Abandoned k asked ticket) own of_it = tt
      by (KeptUp k ticket cause) own of_it = tt
      by (Moved asked made sum up) own of_it = tt
      by (Settling result made) own of_it = tt
      by (Mapped user told) own of_it = tt

  done_are : leads.done ≡ flat_map (λ a. a) (acts ++ behind)
  done_are = sym (append-nil leads.done) ∙ ap (λ l. leads.done ++ l) (sym (none_left leads.last leads.rest stop lacking driven.extra leads.ends ample)) ∙ sym leads.acts_are

  -- the world as it opened
  as_opened : (h : IsWhole on plan start) × (h.v ≡ first_world plan.nodes (first_map plan))
  as_opened = subst (λ (p : Plan). (h : IsWhole on p start) × (h.v ≡ first_world p.nodes (first_map p))) same (let o = opens_whole on (plan_of start) start begins in (o.0, o.1))

  pub followed : Followed on plan lines (flat_map (λ a. a) (acts ++ behind)) leads.rest [] (first_world plan.nodes (first_map plan)) awaited last
  followed = subst (λ l. Followed on plan lines l leads.rest [] (first_world plan.nodes (first_map plan)) awaited last) done_are
      (subst (λ (w : Machine). Followed on plan lines leads.done leads.rest [] w awaited last) as_opened.1
      (all_acts on plan lines leads.done (plan_of start) [] [] leads.own leads.rest leads.led [] [] awaited start last (record { plan_is = same; told_is = told }) as_opened.0 (λ one m. absurd m)
      (λ outcome m. placed outcome (subst (Among outcome) (sym leads.outcomes_are) (among_front outcome leads.own leads.rest m)))
      (subst (λ l. Makes on l [] start awaited last) leads.outcomes_are makes)))

  -- the steps that the order of a line asks for are denied there
  denied_there : (asked : ClusterOrder) (o : Order) (made : Made) → Made.Moves asked ≡ made → FirstStep o sessions made → Grants plan o followed.now followed.whole.v → (ms : List MadeStep) (f : whole_steps.StepFault) (next : Machine)
      → asks.MakesOrder plan asked ms followed.whole.v next → asks.AreDenied asked f ms → ⊥
  denied_there asked (tape.Moves other) made is_made (may, is_move) grants ms f next makes_it ends =
      let e : Made.Moves asked ≡ Made.Moves other = is_made ∙ is_move in
      let same_order : asked ≡ other = cc in
      grants ms f next (subst (λ a. asks.MakesOrder plan a ms followed.whole.v next) same_order makes_it) (subst (λ a. asks.AreDenied a f ms) same_order ends)
  denied_there asked (tape.GiveUp k) made is_made is_give grants ms f next makes_it ends = let e : Made.Moves asked ≡ Made.GivesUp k = is_made ∙ is_give in cc
  denied_there asked (tape.Close k) made is_made (waits, is_give) grants ms f next makes_it ends = let e : Made.Moves asked ≡ Made.GivesUp k = is_made ∙ is_give in cc
  denied_there asked (tape.Open protocol node) made is_made none grants ms f next makes_it ends = none
  denied_there asked (tape.Say k text) made is_made none grants ms f next makes_it ends = none
  denied_there asked (tape.Feed k octets) made is_made none grants ms f next makes_it ends = none
  denied_there asked tape.End made is_made none grants ms f next makes_it ends = none

  -- the step of this outcome was refused, and so the machine refuses one that the order asks for
  refuses_by : (order : Order) (made : Made) (fault : TapeFault) → FirstStep order sessions made → Grants plan order followed.now followed.whole.v
      → (outcome : Outcome) → IsDenied fault outcome → made_of outcome ≡ made → (between : List Awaited) (mid : World D) → Came on outcome followed.between followed.mid between mid → ⊥
  refuses_by order made fault first_step grants (Moved asked made_steps sum up) (cause, denied, stops) is_made between mid (makes_order, left_is, sum_is, up_is) =
      let r = is_refusal cause fault stops in
      let o = order_follows on plan asked made_steps followed.mid mid followed.known followed.whole makes_order in
      denied_there asked order made is_made first_step grants (map made_seen made_steps) r.0 o.whole.v o.makes (denied_alike asked cause r.0 r.1 made_steps denied)
  refuses_by line made fault first_step grants (Settling (Err cause) made_steps) stops is_made between mid (makes_it, are, left_is) = ⊎_elim
      (λ (by_step : IsRefusedBy cause makes_it.steps).
      let r = is_refusal by_step.cause fault (stays_cause by_step.cause fault (sym (ap stop_by by_step.is) ∙ stops)) in
      let o = settle_follows on plan made_steps followed.mid mid followed.known followed.whole (subst AreOfSettle are makes_it.of) (subst (λ (l : List StepMade). MakesSteps on l followed.mid mid) are makes_it.made) in
      denied_there order.Settle line made is_made first_step grants (map made_seen made_steps) r.0 o.whole.v o.makes
      (denied_alike order.Settle by_step.cause r.0 r.1 made_steps (by_step.ends.front, by_step.ends.one, sym are ∙ by_step.ends.split, by_step.ends.failed)))
      (λ (vain : SweepsInVain on cause followed.mid mid makes_it.steps). let never : why.NoMemory ≡ why.Bad fault = sym (ap stop_by vain.is) ∙ stops in cc)
      makes_it.shape
  refuses_by order made fault first_step grants (KeptUp k ticket cause) stops is_made between mid (asked, among, is, left_is) =
      let r = is_refusal cause fault stops in
      let l = led on plan (Err cause) (step.GiveUp ticket) followed.mid mid followed.known tt is followed.whole in
      by order first_step grants r.0 l.whole.v (followed.stood (record { ticket = ticket; session = k; call = asked }) among)
      (subst (λ out. MakesStep plan true followed.whole.v (whole_steps.Step.OfMessages (steps.Step.GiveUp ticket)) out l.whole.v) r.1 l.made)
    where
      by : (o : Order) → FirstStep o sessions made → Grants plan o followed.now followed.whole.v → (f : whole_steps.StepFault) (next : Machine) → Among (record { session = k; ticket = ticket }) followed.now
          → MakesStep plan true followed.whole.v (whole_steps.Step.OfMessages (steps.Step.GiveUp ticket)) (whole_steps.StepOutcome.Refused f) next → ⊥
      by (tape.Moves other) (may, is_move) grants f next stands_there refused = let e : Made.GivesUp k ≡ Made.Moves other = is_made ∙ is_move in cc
      by (tape.GiveUp j) is_give grants f next stands_there refused =
          let e : Made.GivesUp k ≡ Made.GivesUp j = is_made ∙ is_give in
          let same_session : k ≡ j = cc in
          grants ticket f next (subst (λ n. Among (record { session = n; ticket = ticket }) followed.now) same_session stands_there) refused
      by (tape.Close j) (waits, is_give) grants f next stands_there refused =
          let e : Made.GivesUp k ≡ Made.GivesUp j = is_made ∙ is_give in
          let same_session : k ≡ j = cc in
          grants ticket f next (subst (λ n. Among (record { session = n; ticket = ticket }) followed.now) same_session stands_there) refused
      by (tape.Open protocol node) none grants f next stands_there refused = none
      by (tape.Say j text) none grants f next stands_there refused = none
      by (tape.Feed j octets) none grants f next stands_there refused = none
      by tape.End none grants f next stands_there refused = none
  refuses_by order made fault first_step grants outcome denied is_made between mid came = absurd denied

  -- the step that was refused is one that the machine refuses
  pub refuses : (order : Order) (made : Made) (fault : TapeFault) → EndsDenied fault outcomes → driven.extra ≡ made ∷ [] → FirstStep order sessions made → Grants plan order followed.now followed.whole.v → ⊥
  refuses order made fault denied extra_is first_step grants =
      by leads.rest refl (subst (λ l. EndsWith l leads.rest stop lacking driven.extra) (none_left leads.last leads.rest stop lacking driven.extra leads.ends ample) leads.ends)
    where
      by : (r : List Outcome) → leads.rest ≡ r → EndsWith [] r stop lacking driven.extra → ⊥
      by [] none ends = let clash : [] ≡ made ∷ [] = sym ends.1 ∙ extra_is in cc
      by (outcome ∷ []) one ends =
          let both : made_of outcome ∷ [] ≡ made ∷ [] = sym ends.2 ∙ extra_is in
          let is_made : made_of outcome ≡ made = cc in
          let all : outcomes ≡ leads.own ++ outcome ∷ [] = leads.outcomes_are ∙ ap (λ l. leads.own ++ l) one in
          let (before, end, are, is) = denied in
          let the_end : end ≡ outcome = last_same before leads.own end outcome (sym are ∙ all) in
          let (between, mid, came, rest) = subst (λ l. Makes on l followed.between followed.mid awaited last) one followed.makes in
          refuses_by order made fault first_step grants outcome (subst (IsDenied fault) the_end is) is_made between mid came
      by (outcome ∷ other ∷ more) one ends = ends
