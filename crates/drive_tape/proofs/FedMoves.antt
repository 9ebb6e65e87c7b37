-- A run line that moves the cluster itself.
use Rattle.std.proofs.Common.{◌≡◌, ◌≢◌, ◌+◌, ◌++◌, ◌∷◌, ◌<◌, ℕ, nat_eq, Bool, true, false, List, [], Option, Some, None, Result, Err, refl, sym, ap, ◌∙◌, subst, ⊎_elim, arith}
use Rattle.std.proofs.lemmas.Bool.Decides.{nat_tests}
use Rattle.std.specs.Prelude.{◌||◌, not, if◌then◌else◌}
use Rattle.std.specs.Io.KnownBytes.{Appends}
use Rattle.std.proofs.lemmas.List.{append-nil}
use Rattle.std.proofs.lemmas.Grind.{flat_map-append}
use Rattle.object_model.specs.Lists.{Among}
use Rattle.mail_model.specs.Plan.{Plan, is_user}
use Rattle.mail_model.specs.Site.{TapeFault as SiteFault}
use Rattle.mail_model.specs.Site.TapeFault.{BadLine, NoSuchNode}
use Rattle.mail_model.specs.Tape as tape
use Rattle.mail_model.specs.Tape.{or_else, tape_order}
use Rattle.mail_model.specs.Tape.{ClusterOrder as order}
use Rattle.mail_model.specs.Tape.Order.{Moves}
use Rattle.mail_model.specs.Transcript.{written_of}
use Rattle.session_model.specs.Sessions.{Session}
use Rattle.session_model.specs.Acts.{Act}
use Rattle.session_model.specs.Acts.Act.{Makes}
use Rattle.session_model.specs.Events.{ClusterEvent, NodeLife, IsEventOf, event_entries, life_by_event, failed_by_event, turned}
use Rattle.session_model.specs.Events.{ClusterEvent as plain}
use Rattle.session_model.specs.Events.NodeLife.{Up}
use Rattle.session_model.specs.Lives.{life_after, failed_by, failed_in}
use Rattle.session_model.specs.Turns.{Turn, IsReadyToAsk, turn_after_event}
use Rattle.session_model.specs.Turns.Turn.{Falling, Asking}
use Rattle.session_model.specs.Run.{Made, refusal, cluster_refusal, fault_if, is_no_node, work_fault, start_fault, loss_fault}
use Rattle.node_store.specs.Disks.{View}
use Rattle.cluster_world.specs.Lives.{nodes_up}
use Rattle.cluster_world.specs.Outcomes.{Outcome, made_of, left_after}
use Rattle.cluster_world.specs.declared.fault.StepFault.{StepFault}
use Rattle.cluster_world.specs.Worlds.{plan_of, life_of}
use Rattle.cluster_world.specs.declared.world.World.{World}
use Rattle.drive_tape.specs.declared.cluster.Cluster.{Cluster}
use Rattle.drive_tape.specs.declared.event.ClusterEvent.{ClusterEvent as OwnEvent}
use Rattle.drive_tape.specs.declared.entry.WriteStop.{WriteStop}
use Rattle.drive_tape.specs.declared.orders.Admitted.{Admitted}
use Rattle.drive_tape.specs.declared.drove.Stop.{Stop as Why}
use Rattle.drive_tape.specs.Fed.{MayFallBy, Happens}
use Rattle.drive_tape.specs.Happenings.{event_seen, fallen_by, WritesOrStops}
use Rattle.drive_tape.specs.Lines.{IsStarted, LineDid, LineStopped}
use Rattle.drive_tape.specs.Moved.{OrderIsFit, MovedSo}
use Rattle.drive_tape.specs.Orders.{admitted_seen}
use Rattle.drive_tape.specs.Denials.{stop_by}
use Rattle.drive_tape.specs.Drive.{IsDenied}
use Rattle.drive_tape.specs.Led.{Led, IsUntold, TellsMove, DeniesMove}
use Rattle.drive_tape.specs.Led.TellsMove.{OfSteps, OfSettle, OfMap}
use Rattle.drive_tape.specs.Led.DeniesMove.{DeniedSteps, DeniedSettle}
use Rattle.drive_tape.specs.declared.drove.TapeFault.{TapeFault}
use Rattle.drive_tape.specs.declared.drove.Stop.TheVariants.{Bad}
use Rattle.drive_tape.specs.Points.{Point, IsAtOwnNode, AreAtOwnNodes, IsAtPoint}
use Rattle.drive_tape.specs.Stops.{of_write}
use Rattle.drive_tape.specs.Talks.{HasOwnTicket, IsUpAt}
use Rattle.drive_tape.specs.Worlds.{AreLives, HasCauses}
use Rattle.drive_tape.proofs.Begins.{among_split, ticket_apart}
use Rattle.drive_tape.proofs.Falling.{falling_of}
use Rattle.drive_tape.proofs.Fed.{in_vain}
use Rattle.drive_tape.proofs.FedOpens.{node_alike}
use Rattle.drive_tape.proofs.Joins.{stops_event}
use Rattle.drive_tape.proofs.Stepping.{life_more}
use Rattle.drive_tape.proofs.NodesUp.{up_alike}
use Rattle.drive_tape.proofs.Talks.{some_same}

-- what the definitions refuse, the world does, and no more
pub refusal_alike : {D : Type 0} (plan : Plan) (been : List Act) (world : World D) → AreLives plan been world → (one : tape.ClusterOrder) → cluster_refusal plan (life_of world) one ≡ cluster_refusal plan (life_after been) one
refusal_alike plan been world lives (order.Crash node) = node_alike plan node (is_no_node plan node) refl _ _ (λ there. ap work_fault (lives node there))
refusal_alike plan been world lives (order.Start node) = node_alike plan node (is_no_node plan node) refl _ _ (λ there. ap start_fault (lives node there))
refusal_alike plan been world lives (order.Lose node) = node_alike plan node (is_no_node plan node) refl _ _ (λ there. ap loss_fault (lives node there))
refusal_alike plan been world lives (order.Post letter) = refl
refusal_alike plan been world lives (order.Again letter) = refl
refusal_alike plan been world lives (order.Drop letter) = refl
refusal_alike plan been world lives order.Flow = refl
refusal_alike plan been world lives (order.Push node) = refl
refusal_alike plan been world lives (order.Group node) = node_alike plan node (is_no_node plan node) refl _ _ (λ there. ap work_fault (lives node there))
refusal_alike plan been world lives (order.Conclude node) = node_alike plan node (is_no_node plan node) refl _ _ (λ there. ap work_fault (lives node there))
refusal_alike plan been world lives (order.Regroup node) = node_alike plan node (is_no_node plan node) refl _ _ (λ there. ap work_fault (lives node there))
refusal_alike plan been world lives (order.Report node) = refl
refusal_alike plan been world lives order.Settle = refl
refusal_alike plan been world lives (order.Maps user) = refl
refusal_alike plan been world lives (order.Tick seconds) = refl
refusal_alike plan been world lives order.Sum = refl
refusal_alike plan been world lives (order.Widen node user id to) = ap (λ (rest : Option SiteFault). or_else (fault_if (not (is_user plan user)) BadLine) rest) (both (is_no_node plan node) (is_no_node plan to) refl)
  where
    both : (a b : Bool) → is_no_node plan node ≡ a → or_else (fault_if (a || b) NoSuchNode) (work_fault (life_of world node)) ≡ or_else (fault_if (a || b) NoSuchNode) (work_fault (life_after been node))
    both true b is = refl
    both false true is = refl
    both false false is = ap work_fault (lives node is)

pub fit_so : {D : Type 0} (on : View D) (start : World D) (cluster : Cluster D) (p : Point) (admitted : Admitted) (one : tape.ClusterOrder) → IsAtPoint on start (plan_of cluster.world) cluster p → admitted_seen admitted ≡ one
    → cluster_refusal (plan_of cluster.world) (life_of cluster.world) one ≡ None → OrderIsFit on start p.outcomes p.awaited p.been one cluster.world
fit_so on start cluster p admitted one shows same accepted =
    record { at = shows.at; lives = shows.lives; accepted = sym (refusal_alike (plan_of cluster.world) p.been cluster.world shows.lives one) ∙ accepted }

-- the plan stays
pub did_plan : {D T : Type 0} (on : View D) (start : World D) (plan other : Plan) (p : Point) (line : List ℕ) (result : Result T Why) (held : Option (List ℕ)) (cluster : Cluster D) → plan ≡ other
    → LineDid on start plan p line result held cluster → LineDid on start other p line result held cluster
did_plan on start plan other p line result held cluster same did = subst (λ (pl : Plan). LineDid on start pl p line result held cluster) same did

-- what an event leads to
turn_asks : (event : ClusterEvent) → fallen_by event ≡ None → turn_after_event event ≡ Asking 1
turn_asks (plain.WentDown node) is = absurd (let never : ◌≡◌ {A = Option ℕ} (Some node) None = is in cc)
turn_asks (plain.CameUp node boot) is = refl
turn_asks (plain.WasLost node) is = absurd (let never : ◌≡◌ {A = Option ℕ} (Some node) None = is in cc)
turn_asks (plain.WasHeard letter) is = refl
turn_asks (plain.WasThrown letter why) is = refl
turn_asks (plain.WasDropped letter) is = refl
turn_asks plain.HasFlowed is = refl
turn_asks (plain.HasSent count) is = refl
turn_asks (plain.HasWidened did) is = refl
turn_asks (plain.HasGrouped epoch) is = refl
turn_asks (plain.HasFormed epoch members) is = refl
turn_asks plain.HasSettled is = refl
turn_asks (plain.WasAbsent member) is = refl
turn_asks (plain.HasMapped user told) is = refl
turn_asks plain.HasTicked is = refl
turn_asks (plain.HasSummed sum) is = refl
turn_asks (plain.HasFaulted node) is = absurd (let never : ◌≡◌ {A = Option ℕ} (Some node) None = is in cc)

turn_falls : (event : ClusterEvent) (n : ℕ) → fallen_by event ≡ Some n → turn_after_event event ≡ Falling 1 n 1
turn_falls (plain.WentDown node) n is = ap (λ (m : ℕ). Falling 1 m 1) (some_same node n is)
turn_falls (plain.CameUp node boot) n is = absurd (let never : ◌≡◌ {A = Option ℕ} None (Some n) = is in cc)
turn_falls (plain.WasLost node) n is = ap (λ (m : ℕ). Falling 1 m 1) (some_same node n is)
turn_falls (plain.WasHeard letter) n is = absurd (let never : ◌≡◌ {A = Option ℕ} None (Some n) = is in cc)
turn_falls (plain.WasThrown letter why) n is = absurd (let never : ◌≡◌ {A = Option ℕ} None (Some n) = is in cc)
turn_falls (plain.WasDropped letter) n is = absurd (let never : ◌≡◌ {A = Option ℕ} None (Some n) = is in cc)
turn_falls plain.HasFlowed n is = absurd (let never : ◌≡◌ {A = Option ℕ} None (Some n) = is in cc)
turn_falls (plain.HasSent count) n is = absurd (let never : ◌≡◌ {A = Option ℕ} None (Some n) = is in cc)
turn_falls (plain.HasWidened did) n is = absurd (let never : ◌≡◌ {A = Option ℕ} None (Some n) = is in cc)
turn_falls (plain.HasGrouped epoch) n is = absurd (let never : ◌≡◌ {A = Option ℕ} None (Some n) = is in cc)
turn_falls (plain.HasFormed epoch members) n is = absurd (let never : ◌≡◌ {A = Option ℕ} None (Some n) = is in cc)
turn_falls plain.HasSettled n is = absurd (let never : ◌≡◌ {A = Option ℕ} None (Some n) = is in cc)
turn_falls (plain.WasAbsent member) n is = absurd (let never : ◌≡◌ {A = Option ℕ} None (Some n) = is in cc)
turn_falls (plain.HasMapped user told) n is = absurd (let never : ◌≡◌ {A = Option ℕ} None (Some n) = is in cc)
turn_falls plain.HasTicked n is = absurd (let never : ◌≡◌ {A = Option ℕ} None (Some n) = is in cc)
turn_falls (plain.HasSummed sum) n is = absurd (let never : ◌≡◌ {A = Option ℕ} None (Some n) = is in cc)
turn_falls (plain.HasFaulted node) n is = ap (λ (m : ℕ). Falling 1 m 1) (some_same node n is)

-- the life of another node
turned_apart : (node n : ℕ) (now life : NodeLife) → n ≢ node → turned node now n life ≡ life
turned_apart node n now life other = by (nat_eq node n) refl
  where
    by : (x : Bool) → nat_eq node n ≡ x → (if x then now else life) ≡ life
    by false is = refl
    by true is = absurd (other (grind (arith, nat_tests, is)))

same_apart : (event : ClusterEvent) (m n : ℕ) (life : NodeLife) → fallen_by event ≡ Some m → n ≢ m → life_by_event event n life ≡ life
same_apart (plain.WentDown node) m n life is other = turned_apart node n _ life (λ same. other (same ∙ some_same node m is))
same_apart (plain.CameUp node boot) m n life is other = absurd (let never : ◌≡◌ {A = Option ℕ} None (Some m) = is in cc)
same_apart (plain.WasLost node) m n life is other = turned_apart node n _ life (λ same. other (same ∙ some_same node m is))
same_apart (plain.WasHeard letter) m n life is other = refl
same_apart (plain.WasThrown letter why) m n life is other = refl
same_apart (plain.WasDropped letter) m n life is other = refl
same_apart plain.HasFlowed m n life is other = refl
same_apart (plain.HasSent count) m n life is other = refl
same_apart (plain.HasWidened did) m n life is other = refl
same_apart (plain.HasGrouped epoch) m n life is other = refl
same_apart (plain.HasFormed epoch members) m n life is other = refl
same_apart plain.HasSettled m n life is other = refl
same_apart (plain.WasAbsent member) m n life is other = refl
same_apart (plain.HasMapped user told) m n life is other = refl
same_apart plain.HasTicked m n life is other = refl
same_apart (plain.HasSummed sum) m n life is other = refl
same_apart (plain.HasFaulted node) m n life is other = turned_apart node n _ life (λ same. other (same ∙ some_same node m is))

-- a node that is up stays so, where none falls
came_up : (node boot n was : ℕ) → (now : ℕ) × (turned node (Up boot) n (Up was) ≡ Up now)
came_up node boot n was = by (nat_eq node n)
  where
    by : (x : Bool) → (now : ℕ) × ((if x then Up boot else Up was) ≡ Up now)
    by true = (boot, refl)
    by false = (was, refl)

still_up : (event : ClusterEvent) (n was : ℕ) → fallen_by event ≡ None → (now : ℕ) × (life_by_event event n (Up was) ≡ Up now)
still_up (plain.WentDown node) n was is = absurd (let never : ◌≡◌ {A = Option ℕ} (Some node) None = is in cc)
still_up (plain.CameUp node boot) n was is = came_up node boot n was
still_up (plain.WasLost node) n was is = absurd (let never : ◌≡◌ {A = Option ℕ} (Some node) None = is in cc)
still_up (plain.WasHeard letter) n was is = (was, refl)
still_up (plain.WasThrown letter why) n was is = (was, refl)
still_up (plain.WasDropped letter) n was is = (was, refl)
still_up plain.HasFlowed n was is = (was, refl)
still_up (plain.HasSent count) n was is = (was, refl)
still_up (plain.HasWidened did) n was is = (was, refl)
still_up (plain.HasGrouped epoch) n was is = (was, refl)
still_up (plain.HasFormed epoch members) n was is = (was, refl)
still_up plain.HasSettled n was is = (was, refl)
still_up (plain.WasAbsent member) n was is = (was, refl)
still_up (plain.HasMapped user told) n was is = (was, refl)
still_up plain.HasTicked n was is = (was, refl)
still_up (plain.HasSummed sum) n was is = (was, refl)
still_up (plain.HasFaulted node) n was is = absurd (let never : ◌≡◌ {A = Option ℕ} (Some node) None = is in cc)

module _ (plan : Plan) (been : List Act) (one : tape.ClusterOrder) (event : ClusterEvent) (n : ℕ) (up : IsUpAt plan been n) where
  up_still : fallen_by event ≡ None → IsUpAt plan (been ++ Makes one event ∷ []) n
  up_still is =
      let now = still_up event n up.boot is in
      record { there = up.there; boot = now.0; up = life_more been (Makes one event) n (Up 1) ∙ ap (life_by_event event n) up.up ∙ now.1 }

  up_apart : (m : ℕ) → fallen_by event ≡ Some m → n ≢ m → IsUpAt plan (been ++ Makes one event ∷ []) n
  up_apart m is other = record { there = up.there; boot = up.boot; up = life_more been (Makes one event) n (Up 1) ∙ same_apart event m n (life_after been n) is other ∙ up.up }

-- no session begins or leaves in what an order told, or was denied
told_own : (sessions : List Session) (up : List ℕ) (asked : tape.ClusterOrder) (event : ClusterEvent) (outcome : Outcome) → TellsMove up asked event outcome → IsAtOwnNode sessions outcome
told_own sessions up asked event outcome (OfSteps steps sum is tells) = subst (IsAtOwnNode sessions) (sym is) tt
told_own sessions up asked event outcome (OfSettle result steps settles is tells) = subst (IsAtOwnNode sessions) (sym is) tt
told_own sessions up asked event outcome (OfMap user told maps is tells) = subst (IsAtOwnNode sessions) (sym is) tt

denied_own : (sessions : List Session) (asked : tape.ClusterOrder) (cause : StepFault) (outcome : Outcome) → DeniesMove asked cause outcome → IsAtOwnNode sessions outcome
denied_own sessions asked cause outcome (DeniedSteps steps sum up is denied) = subst (IsAtOwnNode sessions) (sym is) tt
denied_own sessions asked cause outcome (DeniedSettle steps settles is) = subst (IsAtOwnNode sessions) (sym is) tt

denied_made : (asked : tape.ClusterOrder) (cause : StepFault) (outcome : Outcome) → DeniesMove asked cause outcome → made_of outcome ≡ Made.Moves asked
denied_made asked cause outcome (DeniedSteps steps sum up is denied) = ap made_of is
denied_made asked cause outcome (DeniedSettle steps settles is) = ap made_of is ∙ ap Made.Moves (sym settles)

denied_untold : (asked : tape.ClusterOrder) (cause : StepFault) (outcome : Outcome) → DeniesMove asked cause outcome → IsUntold outcome
denied_untold asked cause outcome (DeniedSteps steps sum up is denied) = subst IsUntold (sym is) (cause, denied)
denied_untold asked cause outcome (DeniedSettle steps settles is) = subst IsUntold (sym is) tt

denied_so : (asked : tape.ClusterOrder) (cause : StepFault) (outcome : Outcome) (fault : TapeFault) → DeniesMove asked cause outcome → stop_by cause ≡ Bad fault → IsDenied fault outcome
denied_so asked cause outcome fault (DeniedSteps steps sum up is denied) stops = subst (IsDenied fault) (sym is) (cause, denied, stops)
denied_so asked cause outcome fault (DeniedSettle steps settles is) stops = subst (IsDenied fault) (sym is) stops

-- what came of the steps of a line
module _ {D : Type 0} (on : View D) (start : World D) (plan : Plan) (p : Point) (line : List ℕ) (event : OwnEvent) (cluster : Cluster D) (h : Happens on start plan p line event cluster) where
  abbrev pub moved_point : Option (List ℕ) → Point
  moved_point held = record p {
    turn = turn_after_event (event_seen event);
    been = p.been ++ Makes h.order (event_seen event) ∷ [];
    outcomes = p.outcomes ++ h.happened.outcome ∷ [];
    awaited = left_after (fallen_by (event_seen event)) p.awaited;
    held = held;
  }

  is_event : IsEventOf plan (life_after p.been) h.order (event_seen event)
  is_event = subst (λ (pl : Plan). IsEventOf pl (life_after p.been) h.order (event_seen event)) h.plan_is h.happened.is

  lives_now : AreLives plan (p.been ++ Makes h.order (event_seen event) ∷ []) cluster.world
  lives_now = subst (λ (pl : Plan). AreLives pl (p.been ++ Makes h.order (event_seen event) ∷ []) cluster.world) h.plan_is h.happened.lives

  causes_now : HasCauses on start (failed_in (p.been ++ Makes h.order (event_seen event) ∷ [])) cluster.world
  causes_now n among = ⊎_elim
      (λ (was : Among n (failed_in p.been)). h.happened.at.causes (failed_in p.been) h.shows.causes n was)
      (λ (now : Among n (failed_by_event (event_seen event) ++ [])). h.happened.cause n (subst (Among n) (append-nil (failed_by_event (event_seen event))) now))
      (among_split n (failed_in p.been) (failed_by_event (event_seen event) ++ []) (subst (Among n) (flat_map-append failed_by p.been (Makes h.order (event_seen event) ∷ [])) among))

  -- the nodes that were up are those that the acts so far left so
  same_up : nodes_up (life_of h.old.world) (plan_of h.old.world).nodes ≡ nodes_up (life_after p.been) plan.nodes
  same_up = ap (λ (pl : Plan). nodes_up (life_of h.old.world) pl.nodes) h.plan_is ∙ up_alike plan (life_of h.old.world) (life_after p.been) h.shows.lives

  linked_so : Led plan p.been p.outcomes (Makes h.order (event_seen event)) (h.happened.outcome ∷ [])
  linked_so = (h.happened.outcome, refl, subst (λ (up : List ℕ). TellsMove up h.order (event_seen event) h.happened.outcome) same_up h.happened.tells)

  own_so : AreAtOwnNodes p.sessions (h.happened.outcome ∷ [])
  own_so = (told_own p.sessions _ h.order (event_seen event) h.happened.outcome h.happened.tells, tt)

  pub moved_started : (held : Option (List ℕ)) → Appends p.held held (written_of (event_entries (event_seen event))) → IsStarted plan p (moved_point held) (Moves h.order)
  moved_started held gave = record {
    accepted = h.accepted;
    first = Makes h.order (event_seen event);
    said = event_entries (event_seen event);
    starts = (event_seen event, is_event, refl, refl);
    acted = (refl, refl);
    outcomes = h.happened.outcome ∷ [];
    linked = linked_so;
    at_nodes = own_so;
    came = refl;
    been = refl;
    gave = gave;
  }

  pub stops_moved : (reason : WriteStop) (held : Option (List ℕ)) → WritesOrStops p.held held (Err reason) (event_entries (event_seen event)) → LineStopped on start plan p line (of_write reason) held cluster.world
  stops_moved reason held wrote =
      stops_event on start plan p (Moves h.order) line h.spelled h.accepted (Makes h.order (event_seen event)) (event_entries (event_seen event)) (turn_after_event (event_seen event)) p.sessions
      (event_seen event, is_event, refl, refl) (refl, refl) (h.happened.outcome ∷ []) linked_so own_so reason held cluster.world wrote
      (left_after (fallen_by (event_seen event)) p.awaited, h.happened.at.at) lives_now causes_now

  pub may_fall : (held : Option (List ℕ)) (fallen : Option ℕ) → fallen_by (event_seen event) ≡ fallen → MayFallBy on start plan (moved_point held) fallen cluster
  may_fall held None is = (
    subst (λ (t : Turn). IsReadyToAsk t p.sessions 1) (sym (turn_asks (event_seen event) is)) refl,
    record {
      at = h.happened.at.at;
      talks = rw h.sessions h.shows.talks;
      nodes = rw h.sessions h.shows.nodes;
      tickets = λ i s here. subst (λ (f : Option ℕ). HasOwnTicket cluster.sessions.calls.items (left_after f p.awaited) i s) (sym is) (rw h.sessions (h.shows.tickets i s here));
      count = rw h.sessions h.shows.count;
      lives = lives_now;
      up = λ i s here stands. up_still plan p.been h.order (event_seen event) s.node (h.shows.up i s here stands) is;
      causes = causes_now;
    },
  )
  may_fall held (Some node) is = falling_of on start plan (moved_point held) node 1 cluster (turn_falls (event_seen event) node is) (record {
    at = h.happened.at.at;
    talks = rw h.sessions h.shows.talks;
    nodes = rw h.sessions h.shows.nodes;
    tickets = λ i s here unless. subst (λ (f : Option ℕ). HasOwnTicket cluster.sessions.calls.items (left_after f p.awaited) i s) (sym is)
        (ticket_apart _ s (i + 1) node p.awaited s.standing (away i s unless) (rw h.sessions (h.shows.tickets i s here)));
    count = rw h.sessions h.shows.count;
    lives = lives_now;
    up = λ i s here unless stands. up_apart plan p.been h.order (event_seen event) s.node (h.shows.up i s here stands) node is (away i s unless);
    causes = causes_now;
  })
    where
      away : (i : ℕ) (s : Session) → (s.node ≡ node → i < 0) → s.node ≢ node
      away i s unless own = absurd (let never : i < 0 = unless own in omega (arith, never))

-- nothing came of the steps
pub moved_in_vain : {D : Type 0} (on : View D) (start : World D) (plan : Plan) (p : Point) (line : List ℕ) (one : tape.ClusterOrder) (stop : Why) (held : Option (List ℕ)) (old world : World D) → p.held ≡ held
    → tape_order line ≡ Some (Moves one) → refusal plan p.been p.sessions (Moves one) ≡ None → AreLives plan p.been old → HasCauses on start (failed_in p.been) old
    → MovedSo on start p.outcomes p.awaited p.been old one (Err stop) world → LineStopped on start plan p line stop held world
moved_in_vain on start plan p line one stop held old world same spelled accepted lives causes so =
    let denied = so.2 in
    let gone = so.3 in
    in_vain on start plan p line held world same (Moves one) spelled accepted so.1 (so.0, denied_made one denied.why so.1 denied.denied) (denied_untold one denied.why so.1 denied.denied)
    (denied_own p.sessions one denied.why so.1 denied.denied) (gone.0, gone.1.at) (gone.1.causes (failed_in p.been) causes) denied.why stop denied.stops
    (λ f is. denied_so one denied.why so.1 f denied.denied is) (λ f is n there. so.4 f (denied.stops ∙ is) n ∙ lives n there)
