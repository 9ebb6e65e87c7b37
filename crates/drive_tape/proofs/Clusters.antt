-- What a session does that makes its next move.
use Rattle.std.proofs.Common.{◌≡◌, ◌≢◌, ◌+◌, ◌++◌, ◌∷◌, ℕ, Bool, List, [], Option, Some, None, Result, Ok, Err, refl, sym, ap, ◌∙◌, subst, inl, inr, append_assoc}
use Rattle.std.specs.Prelude.{slice_get, if◌then◌else◌}
use Rattle.std.specs.Io.KnownBytes.{Appends}
use Rattle.std.proofs.lemmas.List.{append-nil}
use Rattle.io_edge.proofs.Known.{appends_none}
use Rattle.mail_model.specs.Plan.{Plan}
use Rattle.mail_model.specs.Transcript.{Entry, written_of, said_lines}
use Rattle.mail_model.specs.Site.{closed_event}
use Rattle.session_model.specs.Talk.{IsIdle, entered_as, leave_of}
use Rattle.session_model.specs.Sessions.{Session, session_at, exchanges_of}
use Rattle.session_model.specs.Acts.{Act}
use Rattle.session_model.specs.Acts.Act.{Leaves}
use Rattle.session_model.specs.Lives.{failed_in}
use Rattle.session_model.specs.Turns.{Turn, IsReadyToAsk, IsAtRest, IsAtNode, Next, to_leave}
use Rattle.session_model.specs.Turns.Turn.{Hearing, Asking}
use Rattle.session_model.specs.Run.{Stop}
use Rattle.session_model.specs.Run.Stop.{SinkFailed, OutOfMemory}
use Rattle.call_tickets.specs.declared.call.Call.{Call}
use Rattle.node_store.specs.Disks.{View}
use Rattle.cluster_world.specs.Outcomes.{Outcome, IsLeave}
use Rattle.cluster_world.specs.Outcomes.Outcome.{Left}
use Rattle.cluster_world.specs.declared.world.World.{World}
use Rattle.drive_tape.specs.declared.cluster.Cluster.{Cluster}
use Rattle.drive_tape.specs.declared.sessions.After.{After}
use Rattle.drive_tape.specs.declared.sessions.After.TheVariants.{Stays, Ends}
use Rattle.drive_tape.specs.declared.entry.WriteStop.{WriteStop}
use Rattle.drive_tape.specs.declared.entry.WriteStop.TheVariants as write
use Rattle.drive_tape.specs.declared.drove.Stop.{Stop as Why}
use Rattle.drive_tape.specs.declared.drove.Stop.TheVariants as why
use Rattle.drive_tape.specs.Entries.{WritesEntries}
use Rattle.drive_tape.specs.Stops.{of_write}
use Rattle.drive_tape.specs.Leaving.{IsLeaveOf}
use Rattle.drive_tape.specs.Moving.{has_ended}
use Rattle.drive_tape.specs.Worlds.{WorldIsAt, IsSince, AreLives, AreSameLives, HasCauses, WentTo, HasGone}
use Rattle.drive_tape.specs.Points.{Point, Work, Cut, OneAct, IsAtPoint, Stopped, WentOn, WorkGoes, MayLack}
use Rattle.drive_tape.specs.Clusters.{SessionHears, RestsAt, IsSaying, SessionEndsAt}
use Rattle.drive_tape.proofs.Talks.{at_place}
use Rattle.drive_tape.proofs.Works.{work_none, work_act, work_more, work_cut, cut_act, cut_none}
use Rattle.drive_tape.proofs.Places.{leaves_plain, up_on, lives_on, causes_on}

pub no_leave : (user : Option (List ℕ)) → IsLeaveOf None user → user ≡ None
no_leave None leaves = refl
no_leave (Some user) leaves = absurd leaves

pub a_leave : (call : Call) (user : Option (List ℕ)) → IsLeaveOf (Some call) user → (name : List ℕ) × (user ≡ Some name) × IsLeave name call
a_leave call None leaves = absurd leaves
a_leave call (Some user) leaves = (user, refl, leaves)

module _ (p : Point) (place onward : ℕ) (plain : Session) (turn : p.turn ≡ Hearing (place + 1) onward) (here : slice_get p.sessions place ≡ Some plain) (idle : IsIdle plain.standing plain.rest)
    (leaves_as : leave_of (exchanges_of plain) plain.standing ≡ entered_as (exchanges_of plain)) where
  at_k : session_at p.sessions (place + 1) ≡ Some plain
  at_k = at_place p.sessions (place + 1) place refl ∙ here

  leaves : to_leave (session_at p.sessions (place + 1)) ≡ entered_as (exchanges_of plain)
  leaves = ap to_leave at_k ∙ leaves_as

  -- one that has ended, and was not let in, has nothing to do
  pub ready_ended : entered_as (exchanges_of plain) ≡ None → IsReadyToAsk p.turn p.sessions onward
  ready_ended none =
      subst (λ (t : Turn). IsReadyToAsk t p.sessions onward) (sym turn)
      (refl, subst IsAtRest (sym at_k) idle, leaves ∙ none)

  -- one that was let in leaves
  pub next_leaves : (user : List ℕ) → entered_as (exchanges_of plain) ≡ Some user → Next p.turn p.sessions (Leaves (place + 1) user) (Asking onward)
  next_leaves user is = subst (λ (t : Turn). Next t p.sessions (Leaves (place + 1) user) (Asking onward)) (sym turn) (refl, leaves ∙ is, refl)

  pub leaves_one : (plan : Plan) (node : ℕ) (user : List ℕ) → plain.node ≡ node → entered_as (exchanges_of plain) ≡ Some user
      → OneAct plan p (Leaves (place + 1) user) [] (Left (place + 1) node user ∷ []) (Asking onward) p.sessions
  leaves_one plan node user own is = record { next = next_leaves user is; acted = (refl, refl); linked = (node, refl); at_nodes = (subst (IsAtNode node) (sym at_k) own, tt) }

-- the point after the leave
abbrev pub left_point : Point → ℕ → ℕ → ℕ → List ℕ → Point
left_point p place node onward user = record p { turn = Asking onward; outcomes = p.outcomes ++ Left (place + 1) node user ∷ []; been = p.been ++ Leaves (place + 1) user ∷ [] }

module _ {D : Type 0} (on : View D) (start : World D) (plan : Plan) (p : Point) (place onward node : ℕ) (cluster new : Cluster D) where
  pub stays_ended : IsAtPoint on start plan cluster p → SessionEndsAt place onward None p → WentOn on start plan p (RestsAt onward) p.held cluster
  stays_ended shows ends = record {
    q = p;
    work = work_none plan p;
    held_is = refl;
    shows = shows;
    so_is = ready_ended p place onward ends.plain ends.turn ends.here ends.idle ends.leaves_as (no_leave _ ends.leaves);
  }

  pub has_left : (call : Call) → (shows : IsAtPoint on start plan cluster p) → (ends : SessionEndsAt place onward (Some call) p) → ends.plain.node ≡ node → new.sessions ≡ cluster.sessions
      → ((user : List ℕ) → IsLeave user call → AreSameLives cluster.world new.world × WentTo on start cluster.world (p.outcomes ++ Left (place + 1) node user ∷ []) p.awaited new.world)
      → WentOn on start plan p (RestsAt onward) p.held new
  has_left call shows ends own same left =
      let l = a_leave call _ ends.leaves in
      let q = left_point p place node onward l.0 in
      let went = left l.0 l.2 in
      record {
        q = q;
        work = work_act plan p q (Leaves (place + 1) l.0) [] (Left (place + 1) node l.0 ∷ []) (leaves_one p place onward ends.plain ends.turn ends.here ends.idle ends.leaves_as plan node l.0 own l.1) refl refl (appends_none p.held);
        held_is = refl;
        shows = record {
          at = went.1.at;
          talks = rw same shows.talks;
          nodes = rw same shows.nodes;
          tickets = rw same shows.tickets;
          count = rw same shows.count;
          lives = lives_on plan p.been (Leaves (place + 1) l.0) cluster.world new.world (leaves_plain (place + 1) l.0) went.0 shows.lives;
          up = λ i s is. up_on plan p.been (Leaves (place + 1) l.0) s (leaves_plain (place + 1) l.0) (shows.up i s is);
          causes = causes_on on start new.world p.been (Leaves (place + 1) l.0) (leaves_plain (place + 1) l.0) (went.1.causes (failed_in p.been) shows.causes);
        };
        so_is = refl;
      }

-- a world that went on is since
pub since_gone : {D : Type 0} (on : View D) (start old : World D) (outcomes : List Outcome) (world : World D) → HasGone on start old outcomes world → IsSince on start outcomes world
since_gone on start old outcomes world gone = (gone.0, gone.1.at)

module _ {D : Type 0} (on : View D) (start : World D) (plan : Plan) (p : Point) (place onward node : ℕ) (cluster : Cluster D) (last : World D) where
  pub stops_leaving : (call : Call) → (shows : IsAtPoint on start plan cluster p) → (ends : SessionEndsAt place onward (Some call) p) → ends.plain.node ≡ node
      → ((user : List ℕ) → IsLeave user call → HasGone on start cluster.world (p.outcomes ++ Left (place + 1) node user ∷ []) last)
      → Stopped on start plan p why.NoMemory p.held last
  unfolding cut_act
  stops_leaving call shows ends own left =
      let l = a_leave call _ ends.leaves in
      record {
        stop = OutOfMemory;
        is = refl;
        outcomes = p.outcomes ++ Left (place + 1) node l.0 ∷ [];
        cut = cut_act plan p (Leaves (place + 1) l.0) [] (Left (place + 1) node l.0 ∷ []) (Asking onward) p.sessions OutOfMemory p.held [] [] []
            (leaves_one p place onward ends.plain ends.turn ends.here ends.idle ends.leaves_as plan node l.0 own l.1) refl (inl refl) (inl refl) (appends_none p.held);
        lives = λ not. absurd (not refl);
        causes = causes_on on start last p.been (Leaves (place + 1) l.0) (leaves_plain (place + 1) l.0) ((left l.0 l.2).1.causes (failed_in p.been) shows.causes);
        since = since_gone on start cluster.world _ last (left l.0 l.2);
      }

-- writing stopped in what an act writes
pub stopped_writing : {D : Type 0} (on : View D) (start : World D) (plan : Plan) (p : Point) (act : Act) (entries : List Entry) (outcomes : List Outcome)
    (turn : Turn) (sessions : List Session) (held : Option (List ℕ)) (reason : WriteStop) (world : World D)
    → OneAct plan p act entries outcomes turn sessions → WritesEntries {E = WriteStop} p.held held (Err reason) entries → IsSince on start (p.outcomes ++ outcomes) world
    → AreLives plan (p.been ++ act ∷ []) world → HasCauses on start (failed_in (p.been ++ act ∷ [])) world → Stopped on start plan p (of_write reason) held world
unfolding cut_act
stopped_writing on start plan p act entries outcomes turn sessions held reason world one wrote since lives causes = by_reason reason
  where
    some : wrote.1 ≢ []
    some none = let both : wrote.4.entry ∷ wrote.4.more ≡ [] = sym wrote.4.are ∙ none in cc

    with_stop : (stop : Stop) → MayLack stop wrote.1 [] → Cut plan stop p held (p.outcomes ++ outcomes)
    with_stop stop may = cut_act plan p act entries outcomes turn sessions stop held wrote.0 wrote.1 wrote.2 one wrote.3 may (inr wrote.4) wrote.5

    by_reason : (r : WriteStop) → Stopped on start plan p (of_write r) held world
    by_reason write.WriteFault = record { stop = SinkFailed; is = refl; outcomes = p.outcomes ++ outcomes; cut = with_stop SinkFailed (some, refl); lives = λ not. lives; causes = causes; since = since }
    by_reason write.NoMemory = record { stop = OutOfMemory; is = refl; outcomes = p.outcomes ++ outcomes; cut = with_stop OutOfMemory (inl refl); lives = λ not. absurd (not refl); causes = causes; since = since }

-- the point once all is written
abbrev pub held_point : Point → Option (List ℕ) → Point
held_point q held = record q { held = held }

module _ {D : Type 0} (on : View D) (start : World D) (plan : Plan) (p q : Point) (place onward : ℕ) (after : After) (out : List ℕ) (cluster : Cluster D)
    (saying : IsSaying on start plan p q place onward after out cluster) (held : Option (List ℕ)) where
  says : List Entry
  says = said_lines (place + 1) saying.said ++ (if has_ended after then closed_event (place + 1) ∷ [] else [])

  pub said_work : Appends p.held held (written_of (said_lines (place + 1) saying.said ++ (if has_ended after then closed_event (place + 1) ∷ [] else []))) → Work plan p (held_point q held)
  said_work gave = work_act plan p (held_point q held) saying.act _ saying.outcomes saying.one saying.came saying.been gave

  pub said_shows : IsAtPoint on start plan cluster (held_point q held)
  said_shows = record {
    at = saying.shows.at;
    talks = saying.shows.talks;
    nodes = saying.shows.nodes;
    tickets = saying.shows.tickets;
    count = saying.shows.count;
    lives = saying.shows.lives;
    up = saying.shows.up;
    causes = saying.shows.causes;
  }

  pub stops_saying : (reason : WriteStop) → WritesEntries {E = WriteStop} p.held held (Err reason) (said_lines (place + 1) saying.said ++ (if has_ended after then closed_event (place + 1) ∷ [] else []))
      → Stopped on start plan p (of_write reason) held cluster.world
  stops_saying reason wrote =
      stopped_writing on start plan p saying.act _ saying.outcomes q.turn q.sessions held reason cluster.world saying.one wrote
      (q.awaited, subst (λ (o : List Outcome). WorldIsAt on start o q.awaited cluster.world) saying.came saying.shows.at)
      (subst (λ (d : List Act). AreLives plan d cluster.world) saying.been saying.shows.lives)
      (subst (λ (d : List Act). HasCauses on start (failed_in d) cluster.world) saying.been saying.shows.causes)

module _ {D : Type 0} (on : View D) (start : World D) (plan : Plan) (p q : Point) (place onward : ℕ) (out : List ℕ) (cluster : Cluster D) (held : Option (List ℕ)) where
  -- it hears on
  pub said_on : (saying : IsSaying on start plan p q place onward Stays out cluster) → Appends p.held held (written_of (said_lines (place + 1) saying.said ++ []))
      → WentOn on start plan p (SessionHears place onward) held cluster
  said_on saying gave = record {
    q = held_point q held;
    work = said_work on start plan p q place onward Stays out cluster saying held gave;
    held_is = refl;
    shows = said_shows on start plan p q place onward Stays out cluster saying held;
    so_is = record { turn = saying.turn; plain = saying.plain; here = saying.here; on = saying.is_after };
  }

  -- it has ended
  pub said_ends : (leave : Option Call) (saying : IsSaying on start plan p q place onward (Ends leave) out cluster) → SessionEndsAt place onward leave (held_point q held)
  said_ends leave saying = record { turn = saying.turn; plain = saying.plain; here = saying.here; idle = rw saying.is_after.0 tt; leaves_as = ap (leave_of (exchanges_of saying.plain)) saying.is_after.0; leaves = saying.is_after.1 }

-- the work went on, and then on
pub went_on : {D : Type 0} (on : View D) (start : World D) (plan : Plan) (p q : Point) (so : Point → Type 0) (held : Option (List ℕ)) (cluster : Cluster D)
    → Work plan p q → WentOn on start plan q so held cluster → WentOn on start plan p so held cluster
went_on on start plan p q so held cluster work more =
    record { q = more.q; work = work_more plan p q more.q work more.work; held_is = more.held_is; shows = more.shows; so_is = more.so_is }

-- what went on to a point, whichever it is, and from there on again
pub goes_further : {D : Type 0} (on : View D) (start : World D) (plan : Plan) (p : Point) (so : Point → Type 0) (held : Option (List ℕ)) (mid : Cluster D) (onward : Point → Type 0) (held' : Option (List ℕ)) (new : Cluster D)
    → WentOn on start plan p so held mid → ((q : Point) → IsAtPoint on start plan mid q → q.held ≡ held → so q → WentOn on start plan q onward held' new) → WentOn on start plan p onward held' new
goes_further on start plan p so held mid onward held' new went more =
    went_on on start plan p went.q onward held' new went.work (more went.q went.shows went.held_is went.so_is)

-- or stopped
pub stopped_on : {D : Type 0} (on : View D) (start : World D) (plan : Plan) (p q : Point) (reason : Why) (held : Option (List ℕ)) (world : World D)
    → Work plan p q → Stopped on start plan q reason held world → Stopped on start plan p reason held world
unfolding work_cut
stopped_on on start plan p q reason held world work more =
    record {
      stop = more.stop;
      is = more.is;
      outcomes = more.outcomes;
      cut = work_cut plan more.stop p q held more.outcomes work more.cut;
      lives = λ not. subst (λ (d : List Act). AreLives plan d world) (ap (λ (d : List Act). d ++ more.cut.acts) work.been ∙ append_assoc p.been work.acts more.cut.acts) (more.lives not);
      causes = subst (λ (d : List Act). HasCauses on start (failed_in d) world) (ap (λ (d : List Act). d ++ more.cut.acts) work.been ∙ append_assoc p.been work.acts more.cut.acts) more.causes;
      since = more.since;
    }

pub stops_further : {D : Type 0} (on : View D) (start : World D) (plan : Plan) (p : Point) (so : Point → Type 0) (held : Option (List ℕ)) (mid : Cluster D) (reason : Why) (held' : Option (List ℕ)) (last : World D)
    → WentOn on start plan p so held mid → ((q : Point) → IsAtPoint on start plan mid q → q.held ≡ held → so q → Stopped on start plan q reason held' last) → Stopped on start plan p reason held' last
stops_further on start plan p so held mid reason held' last went more =
    stopped_on on start plan p went.q reason held' last went.work (more went.q went.shows went.held_is went.so_is)

-- memory ran out before anything was done
stops_here : {D : Type 0} (on : View D) (start : World D) (plan : Plan) (p : Point) (last : World D)
    → IsSince on start p.outcomes last → HasCauses on start (failed_in p.been) last → Stopped on start plan p why.NoMemory p.held last
unfolding cut_none
stops_here on start plan p last since causes = record {
  stop = OutOfMemory;
  is = refl;
  outcomes = p.outcomes;
  cut = cut_none plan p;
  lives = λ not. absurd (not refl);
  causes = subst (λ (d : List Act). HasCauses on start (failed_in d) last) (sym (append-nil p.been)) causes;
  since = since;
}

pub stops_at_once : {D : Type 0} (on : View D) (start : World D) (plan : Plan) (p : Point) (held : Option (List ℕ)) (last : World D) → p.held ≡ held
    → IsSince on start p.outcomes last → HasCauses on start (failed_in p.been) last → Stopped on start plan p why.NoMemory held last
stops_at_once on start plan p held last is since causes =
    subst (λ (h : Option (List ℕ)). Stopped on start plan p why.NoMemory h last) is (stops_here on start plan p last since causes)

-- what a call of another crate says of the number and the sink that it was given
pub as_wrote : (h old new : Option (List ℕ)) (n k : ℕ) (said : List (List ℕ)) (ends : Bool) (reason : WriteStop) → h ≡ old → n ≡ k
    → WritesEntries {E = WriteStop} old new (Err reason) (said_lines n said ++ (if ends then closed_event n ∷ [] else []))
    → WritesEntries {E = WriteStop} h new (Err reason) (said_lines k said ++ (if ends then closed_event k ∷ [] else []))
as_wrote h old new n k said ends reason same is wrote =
    subst (λ (o : Option (List ℕ)). WritesEntries {E = WriteStop} o new (Err reason) (said_lines k said ++ (if ends then closed_event k ∷ [] else []))) (sym same)
    (subst (λ (m : ℕ). WritesEntries {E = WriteStop} old new (Err reason) (said_lines m said ++ (if ends then closed_event m ∷ [] else []))) is wrote)

pub as_gave : (h old new : Option (List ℕ)) (n k : ℕ) (said : List (List ℕ)) (ends : Bool) → h ≡ old → n ≡ k
    → Appends old new (written_of (said_lines n said ++ (if ends then closed_event n ∷ [] else [])))
    → Appends h new (written_of (said_lines k said ++ (if ends then closed_event k ∷ [] else [])))
as_gave h old new n k said ends same is gave =
    subst (λ (o : Option (List ℕ)). Appends o new (written_of (said_lines k said ++ (if ends then closed_event k ∷ [] else [])))) (sym same)
    (subst (λ (m : ℕ). Appends old new (written_of (said_lines m said ++ (if ends then closed_event m ∷ [] else [])))) is gave)

-- the plan stays
pub stopped_plan : {D : Type 0} (on : View D) (start : World D) (plan other : Plan) (p : Point) (reason : Why) (held : Option (List ℕ)) (world : World D)
    → plan ≡ other → Stopped on start plan p reason held world → Stopped on start other p reason held world
stopped_plan on start plan other p reason held world is stopped = subst (λ (pl : Plan). Stopped on start pl p reason held world) is stopped

pub went_plan : {D : Type 0} (on : View D) (start : World D) (plan other : Plan) (p : Point) (so : Point → Type 0) (held : Option (List ℕ)) (cluster : Cluster D)
    → plan ≡ other → WentOn on start plan p so held cluster → WentOn on start other p so held cluster
went_plan on start plan other p so held cluster is went = subst (λ (pl : Plan). WentOn on start pl p so held cluster) is went

pub goes_plan : {D T : Type 0} (on : View D) (start : World D) (plan other : Plan) (p : Point) (so : Point → Type 0) (result : Result T Why) (held : Option (List ℕ)) (cluster : Cluster D)
    → plan ≡ other → WorkGoes on start plan p so result held cluster → WorkGoes on start other p so result held cluster
goes_plan on start plan other p so result held cluster is went = subst (λ (pl : Plan). WorkGoes on start pl p so result held cluster) is went

-- the work went on, and was then done so far
pub goes_more : {D T : Type 0} (on : View D) (start : World D) (plan : Plan) (p q : Point) (so : Point → Type 0) (result : Result T Why) (held : Option (List ℕ)) (cluster : Cluster D)
    → Work plan p q → WorkGoes on start plan q so result held cluster → WorkGoes on start plan p so result held cluster
goes_more on start plan p q so (Ok t) held cluster work more = went_on on start plan p q so held cluster work more
goes_more on start plan p q so (Err reason) held cluster work more = stopped_on on start plan p q reason held cluster.world work more

pub at_plan : {D : Type 0} (on : View D) (start : World D) (plan other : Plan) (cluster : Cluster D) (p : Point) → plan ≡ other → IsAtPoint on start plan cluster p → IsAtPoint on start other cluster p
at_plan on start plan other cluster p is shows = subst (λ (pl : Plan). IsAtPoint on start pl cluster p) is shows
