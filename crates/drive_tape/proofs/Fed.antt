-- Lines that come to nothing, and the first act of a line that feeds a session.
use Rattle.std.proofs.Common.{◌≡◌, ◌≢◌, ◌+◌, ◌++◌, ◌∷◌, ℕ, Bool, true, false, List, [], Option, Some, None, Result, refl, sym, ap, ◌∙◌, subst, inl, inr, arith}
use Rattle.std.specs.Prelude.{slice_get, slice_set, if◌then◌else◌}
use Rattle.std.specs.Io.KnownBytes.{Appends}
use Rattle.std.proofs.lemmas.List.{append-nil}
use Rattle.io_edge.proofs.Known.{appends_none}
use Rattle.mail_model.specs.Plan.{Plan}
use Rattle.mail_model.specs.Site.{TapeFault as site}
use Rattle.mail_model.specs.Tape.{Order, tape_order}
use Rattle.mail_model.specs.Transcript.{Entry, said_lines}
use Rattle.session_model.specs.Talk.{Standing, IsOn}
use Rattle.session_model.specs.Sessions.{Session, session_at}
use Rattle.session_model.specs.Acts.{Act, Acted, closing}
use Rattle.session_model.specs.Acts.Act.{Does}
use Rattle.session_model.specs.Acts.Deed.{IsFed}
use Rattle.session_model.specs.Lives.{failed_in}
use Rattle.session_model.specs.Turns.{Starts}
use Rattle.session_model.specs.Turns.Turn.{Hearing}
use Rattle.session_model.specs.Run.{Stop, FirstStep, IsInVain, refusal, session_fault, giving_fault, waiting_fault, is_on}
use Rattle.session_model.specs.Run.Stop.{BehindLine, Denied, SinkFailed, OutOfMemory}
use Rattle.node_store.specs.Disks.{View}
use Rattle.cluster_world.specs.Outcomes.{Outcome, Awaited, made_of}
use Rattle.cluster_world.specs.declared.fault.StepFault.{StepFault}
use Rattle.cluster_world.specs.declared.fault.StepFault.TheVariants as fault
use Rattle.cluster_world.specs.declared.world.World.{World}
use Rattle.drive_tape.specs.declared.cluster.Cluster.{Cluster}
use Rattle.drive_tape.specs.declared.open_call.OpenCall.{OpenCall}
use Rattle.drive_tape.specs.declared.drove.Stop.{Stop as Why}
use Rattle.drive_tape.specs.declared.drove.Stop.TheVariants as why
use Rattle.drive_tape.specs.declared.drove.TapeFault.{TapeFault}
use Rattle.drive_tape.specs.declared.drove.TapeFault.TheVariants as tape
use Rattle.drive_tape.specs.Denials.{stop_by}
use Rattle.drive_tape.specs.Drive.{IsDenied}
use Rattle.drive_tape.specs.Faults.{tape_fault_seen}
use Rattle.drive_tape.specs.Fed.{IsFeeding, IsFeedingAt}
use Rattle.drive_tape.specs.Talks.{Converse, HasOwnTicket, TicketFits, StandsOnNode, SessionIsFound}
use Rattle.drive_tape.specs.Worlds.{IsSince, AreLives, HasCauses}
use Rattle.drive_tape.specs.Led.{IsUntold}
use Rattle.drive_tape.specs.Points.{Point, Work, IsAtOwnNode, IsAtPoint, WorkGoes}
use Rattle.drive_tape.specs.Clusters.{SessionHears, RestsAt, AsksFrom}
use Rattle.drive_tape.specs.Lines.{IsStarted, LineStopped, IsWhy}
use Rattle.drive_tape.proofs.Talks.{is_spoken_to, at_place, count_same, set_here, within_get}
use Rattle.drive_tape.proofs.Acting.{acted_does}
use Rattle.drive_tape.proofs.Led.{to_none, to_untold}
use Rattle.drive_tape.proofs.Clusters.{goes_more, goes_plan}
use Rattle.drive_tape.proofs.Places.{each_set, nodes_set, does_plain, up_on, lives_on, same_lives, causes_on}

-- nothing was done
module _ {D : Type 0} (on : View D) (start : World D) (plan : Plan) (p : Point) (line : List ℕ) (held : Option (List ℕ)) (world : World D) (same : p.held ≡ held)
    (since : IsSince on start p.outcomes world) (causes : HasCauses on start (failed_in p.been) world) (lives : AreLives plan p.been world) where
  stopped : (stop : Stop) (reason : Why) → stop ≢ SinkFailed → stop ≢ Denied → IsWhy reason plan p line stop [] [] → LineStopped on start plan p line reason held world
  stopped stop reason not_sink not_denied is = record {
    stop = stop;
    midst = [];
    behind = [];
    tail = [];
    extra = [];
    sessions = p.sessions;
    off = (refl, refl, refl, not_sink, not_denied);
    at_line = inl refl;
    new = [];
    why = is;
    lacking = [];
    linked = to_none stop plan p.been p.outcomes;
    at_nodes = tt;
    since = subst (λ (os : List Outcome). IsSince on start os world) (sym (append-nil p.outcomes)) since;
    lives = λ not. subst (λ (been : List Act). AreLives plan been world) (sym (append-nil p.been)) lives;
    causes = subst (λ (been : List Act). HasCauses on start (failed_in been) world) (sym (append-nil p.been)) causes;
    missing = [];
    all = inl refl;
    cut = [];
    is_cut = inl refl;
    whole = λ behind. refl;
    gave = subst (λ (h : Option (List ℕ)). Appends p.held h []) same (appends_none p.held);
  }

  pub not_begun : LineStopped on start plan p line why.NoMemory held world
  not_begun = stopped OutOfMemory why.NoMemory (λ is. absurd (let never : OutOfMemory ≡ SinkFailed = is in cc)) (λ is. absurd (let never : OutOfMemory ≡ Denied = is in cc)) refl

  pub refused : (order : Order) (one : TapeFault) → tape_order line ≡ Some order → refusal plan p.been p.sessions order ≡ Some (tape_fault_seen one) → LineStopped on start plan p line (why.Bad one) held world
  refused order one spelled is =
      stopped BehindLine (why.Bad one) (λ so. absurd (let never : BehindLine ≡ SinkFailed = so in cc)) (λ so. absurd (let never : BehindLine ≡ Denied = so in cc))
      (inl (refl, refl, inr (order, spelled, is)))

-- The first step of a line was made, and nothing came of it.
module _ {D : Type 0} (on : View D) (start : World D) (plan : Plan) (p : Point) (line : List ℕ) (held : Option (List ℕ)) (world : World D) (same : p.held ≡ held)
    (order : Order) (spelled : tape_order line ≡ Some order) (accepted : refusal plan p.been p.sessions order ≡ None) (outcome : Outcome) (first : FirstStep order p.sessions (made_of outcome))
    (untold : IsUntold outcome) (own : IsAtOwnNode p.sessions outcome) (since : IsSince on start (p.outcomes ++ outcome ∷ []) world) (causes : HasCauses on start (failed_in p.been) world) where
  tried : (stop : Stop) (reason : Why) → IsInVain stop → IsWhy reason plan p line stop (line ∷ []) (outcome ∷ []) → ((stop ≡ OutOfMemory → ⊥) → AreLives plan p.been world) → LineStopped on start plan p line reason held world
  tried stop reason vain is lives = record {
    stop = stop;
    midst = line ∷ [];
    behind = [] ∷ [];
    tail = [];
    extra = made_of outcome ∷ [];
    sessions = p.sessions;
    off = (record { order = order; spelled = spelled; accepted = accepted; step = made_of outcome; first = first; extra_is = refl; in_vain = vain; none = refl }, refl);
    at_line = inr refl;
    new = outcome ∷ [];
    why = is;
    lacking = [];
    linked = to_untold stop plan p.been p.outcomes outcome untold;
    at_nodes = (own, tt);
    since = since;
    lives = λ not. subst (λ (been : List Act). AreLives plan been world) (sym (append-nil p.been)) (lives not);
    causes = subst (λ (been : List Act). HasCauses on start (failed_in been) world) (sym (append-nil p.been)) causes;
    missing = [];
    all = inl refl;
    cut = [];
    is_cut = inl refl;
    whole = λ behind. refl;
    gave = subst (λ (h : Option (List ℕ)). Appends p.held h []) same (appends_none p.held);
  }

  bad : (one : TapeFault) → IsDenied one outcome → AreLives plan p.been world → LineStopped on start plan p line (why.Bad one) held world
  bad one denied lives = tried Denied (why.Bad one) tt (inr (refl, refl, ([], outcome, refl, denied))) (λ not. lives)

  by_fault : (one : StepFault) → ((f : TapeFault) → stop_by one ≡ why.Bad f → IsDenied f outcome) → ((f : TapeFault) → stop_by one ≡ why.Bad f → AreLives plan p.been world) → LineStopped on start plan p line (stop_by one) held world
  by_fault fault.NoSuchNode denied lives = bad tape.NoSuchNode (denied tape.NoSuchNode refl) (lives tape.NoSuchNode refl)
  by_fault fault.NodeLost denied lives = bad tape.NodeLost (denied tape.NodeLost refl) (lives tape.NodeLost refl)
  by_fault fault.NodeDown denied lives = bad tape.NodeDown (denied tape.NodeDown refl) (lives tape.NodeDown refl)
  by_fault fault.NodeUp denied lives = bad tape.NodeUp (denied tape.NodeUp refl) (lives tape.NodeUp refl)
  by_fault fault.NoSuchLetter denied lives = bad tape.NoSuchLetter (denied tape.NoSuchLetter refl) (lives tape.NoSuchLetter refl)
  by_fault fault.NoSuchTicket denied lives = bad tape.NoSuchTicket (denied tape.NoSuchTicket refl) (lives tape.NoSuchTicket refl)
  by_fault fault.NotAGroup denied lives = bad tape.NotAGroup (denied tape.NotAGroup refl) (lives tape.NotAGroup refl)
  by_fault fault.Worn denied lives = bad tape.Worn (denied tape.Worn refl) (lives tape.Worn refl)
  by_fault fault.NoRoom denied lives = bad tape.NoRoom (denied tape.NoRoom refl) (lives tape.NoRoom refl)
  by_fault (fault.NoMemory down) denied lives = tried OutOfMemory why.NoMemory tt refl (λ not. absurd (not refl))

  -- the cluster denied it, or memory ran out
  pub in_vain : (one : StepFault) (reason : Why) → reason ≡ stop_by one → ((f : TapeFault) → stop_by one ≡ why.Bad f → IsDenied f outcome) → ((f : TapeFault) → stop_by one ≡ why.Bad f → AreLives plan p.been world) → LineStopped on start plan p line reason held world
  in_vain one reason is denied lives = subst (λ (r : Why). LineStopped on start plan p line r held world) (sym is) (by_fault one denied lives)

-- the world as it was
pub since_shows : {D : Type 0} (on : View D) (start : World D) (plan : Plan) (cluster : Cluster D) (p : Point) → IsAtPoint on start plan cluster p → IsSince on start p.outcomes cluster.world
since_shows on start plan cluster p shows = (p.awaited, shows.at)

-- no session of this number is spoken to
pub no_session : (p : Point) (k : ℕ) → SessionIsFound k None p.sessions → session_fault (session_at p.sessions k) ≡ Some (tape_fault_seen tape.NoSuchSession)
no_session p k found = found

no_giving : (standing : Standing) → (is_on standing ≡ false) → waiting_fault standing ≡ Some site.NoSuchSession
no_giving (Standing.Hearing state) is = absurd (let never : true ≡ false = is in cc)
no_giving (Standing.Waiting state call) is = absurd (let never : true ≡ false = is in cc)
no_giving Standing.EndedByQuit is = refl
no_giving Standing.EndedDown is = refl
no_giving Standing.EndedClosed is = refl

pub no_giver : (one : Option Session) → session_fault one ≡ Some site.NoSuchSession → giving_fault one ≡ Some site.NoSuchSession
no_giver None is = refl
no_giver (Some session) is = by (is_on session.standing) refl is
  where
    by : (b : Bool) → is_on session.standing ≡ b → (if b then None else Some site.NoSuchSession) ≡ Some site.NoSuchSession → waiting_fault session.standing ≡ Some site.NoSuchSession
    by true so never = absurd (let no : ◌≡◌ {A = Option site} None (Some site.NoSuchSession) = never in cc)
    by false so same = no_giving session.standing so

-- the work went on from the first act
pub goes_on : {D T : Type 0} (on : View D) (start : World D) (plan other : Plan) (p q : Point) (so : Point → Type 0) (result : Result T Why) (held : Option (List ℕ)) (cluster : Cluster D)
    → other ≡ plan → Work plan p q → WorkGoes on start other q so result held cluster → WorkGoes on start plan p so result held cluster
goes_on on start plan other p q so result held cluster same work more = goes_more on start plan p q so result held cluster work (goes_plan on start other plan q so result held cluster same more)

pub goes_held : {D T : Type 0} (on : View D) (start : World D) (plan : Plan) (p : Point) (so : Point → Type 0) (result : Result T Why) (held other : Option (List ℕ)) (cluster : Cluster D) → held ≡ other
    → WorkGoes on start plan p so result held cluster → WorkGoes on start plan p so result other cluster
goes_held on start plan p so result held other cluster same went = subst (λ (h : Option (List ℕ)). WorkGoes on start plan p so result h cluster) same went

-- all are asked from the first on
pub rests_asked : (p : Point) → RestsAt 1 p → AsksFrom 0 p
rests_asked p rests = record { from = 1; ready = rests; before = omega arith; none = λ j above below waits. absurd (omega (arith, above, below)) }

-- a ticket fits a session of the same node and exchanges
pub ticket_alike : (kept : Option (Option OpenCall)) (s t : Session) (k : ℕ) (awaited : List Awaited) (standing : Standing) → t.node ≡ s.node → t.whole ≡ s.whole → TicketFits kept s k awaited standing → TicketFits kept t k awaited standing
ticket_alike kept s t k awaited (Standing.Waiting state call) node whole f =
    record { open_call = f.open_call; has = f.has; own = f.own ∙ sym node; kind = f.kind; stands = f.stands; before = f.before; last = f.last; heard = whole ∙ f.heard }
ticket_alike kept s t k awaited (Standing.Hearing state) node whole f = f
ticket_alike kept s t k awaited Standing.EndedByQuit node whole f = f
ticket_alike kept s t k awaited Standing.EndedDown node whole f = f
ticket_alike kept s t k awaited Standing.EndedClosed node whole f = f

on_closing : (k : ℕ) (octets : List ℕ) (standing : Standing) → IsOn standing → said_lines k [] ++ closing k (IsFed octets) standing ≡ []
on_closing k octets (Standing.Hearing state) on = refl
on_closing k octets (Standing.Waiting state call) on = refl
on_closing k octets Standing.EndedByQuit on = absurd on
on_closing k octets Standing.EndedDown on = absurd on
on_closing k octets Standing.EndedClosed on = absurd on

-- a session is fed
module _ {D : Type 0} (on : View D) (start : World D) (plan : Plan) (p : Point) (line : List ℕ) (place : ℕ) (octets : List ℕ) (old new : Cluster D) (f : IsFeedingAt p line place octets)
    (shows : IsAtPoint on start plan old p) (world : new.world ≡ old.world) (nodes : new.sessions.nodes ≡ old.sessions.nodes) (kept : new.sessions.calls ≡ old.sessions.calls)
    (count : new.sessions.standing ≡ old.sessions.standing) where
  abbrev pub fed : Session
  fed = record f.plain { octets = f.plain.octets ++ octets; rest = f.plain.rest ++ octets }

  abbrev pub fed_point : Point
  fed_point = record p { turn = Hearing (place + 1) 1; sessions = slice_set p.sessions place fed; been = p.been ++ Does (place + 1) (IsFed octets) ∷ [] }

  at_k : session_at p.sessions (place + 1) ≡ Some f.plain
  at_k = at_place p.sessions (place + 1) place refl ∙ f.here

  accepts : (order : Order) → IsFeeding order (place + 1) octets → refusal plan p.been p.sessions order ≡ None
  accepts order (inl is) = rw is (is_spoken_to p.sessions (place + 1) f.plain at_k f.on)
  accepts order (inr is) = rw is.1 (is_spoken_to p.sessions (place + 1) f.plain at_k f.on)

  starts_so : (order : Order) → IsFeeding order (place + 1) octets → Starts plan p.been order p.sessions (Does (place + 1) (IsFed octets)) (Hearing (place + 1) 1)
  starts_so order (inl is) = rw is (refl, refl)
  starts_so order (inr is) = rw is.1 (ap (λ (o : List ℕ). Does (place + 1) (IsFed o)) is.2, refl)

  pub fed_started : IsStarted plan p fed_point f.order
  fed_started = record {
    accepted = accepts f.order f.feeds;
    first = Does (place + 1) (IsFed octets);
    said = [];
    starts = starts_so f.order f.feeds;
    acted = subst (λ (es : List Entry). Acted plan p.sessions (Does (place + 1) (IsFed octets)) es (slice_set p.sessions place fed)) (on_closing (place + 1) octets f.plain.standing f.on)
        (acted_does plan p.sessions place f.plain fed (IsFed octets) [] f.here (f.on, refl, refl));
    outcomes = [];
    linked = refl;
    at_nodes = tt;
    came = sym (append-nil p.outcomes);
    been = refl;
    gave = appends_none p.held;
  }

  pub fed_shows : Converse new.sessions.talkers.items (slice_set p.sessions place fed) → IsAtPoint on start plan new fed_point
  fed_shows talks =
      let act = Does (place + 1) (IsFed octets) in
      let one = does_plain (place + 1) (IsFed octets) in
      record {
        at = rw world shows.at;
        talks = talks;
        nodes = ap (λ l. l.items) nodes ∙ shows.nodes ∙ sym (nodes_set p.sessions place f.plain fed f.here refl);
        tickets = each_set (HasOwnTicket new.sessions.calls.items p.awaited) p.sessions place fed (λ i s here other. rw kept (shows.tickets i s here))
            (ticket_alike (slice_get new.sessions.calls.items place) f.plain fed (place + 1) p.awaited f.plain.standing refl refl (rw kept (shows.tickets place f.plain f.here)));
        count = count ∙ shows.count ∙ sym (count_same p.sessions place f.plain fed f.here f.on f.on);
        lives = lives_on plan p.been act new.world new.world one (same_lives new.world) (rw world shows.lives);
        up = each_set (λ i s. StandsOnNode plan (p.been ++ act ∷ []) s) p.sessions place fed (λ i s here other. up_on plan p.been act s one (shows.up i s here))
            (up_on plan p.been act fed one (shows.up place f.plain f.here));
        causes = causes_on on start new.world p.been act one (rw world shows.causes);
      }

  pub fed_hears : SessionHears place 1 fed_point
  fed_hears = record { turn = refl; plain = fed; here = set_here p.sessions place fed (within_get p.sessions place f.plain f.here); on = f.on }
