-- The call of a session is given up, and a session is closed.
use Rattle.std.proofs.Common.{◌≡◌, ◌≢◌, ◌+◌, ◌-◌, ◌++◌, ◌∷◌, ◌<◌, ℕ, nat_eq, Bool, true, false, List, [], length, Option, Some, None, Ok, Err, refl, sym, ap, ◌∙◌, subst, inl, inr, arith}
use Rattle.std.proofs.lemmas.Bool.Decides.{nat_tests}
use Rattle.std.specs.Prelude.{slice_get, slice_set, not}
use Rattle.std.proofs.lemmas.List.{append-nil}
use Rattle.io_edge.proofs.Known.{appends_none}
use Rattle.object_model.specs.Letters.{Number}
use Rattle.object_model.specs.Lists.{Among}
use Rattle.mail_model.specs.Plan.{Plan}
use Rattle.mail_model.specs.Tape.{tape_order}
use Rattle.mail_model.specs.Tape.Order.{Close, GiveUp}
use Rattle.session_model.specs.Calls as calls
use Rattle.session_model.specs.Talk.{TalkState, Standing, IsOn, entered_as}
use Rattle.session_model.specs.Talk.Standing.{Waiting, EndedClosed}
use Rattle.session_model.specs.Sessions.{Session, session_at, exchanges_of}
use Rattle.session_model.specs.Acts.{Act, Acted}
use Rattle.session_model.specs.Acts.Act.{Does, Abandons}
use Rattle.session_model.specs.Acts.Deed.{Closes}
use Rattle.session_model.specs.Lives.{failed_in}
use Rattle.session_model.specs.Turns.{Waits}
use Rattle.session_model.specs.Turns.Turn.{Hearing, Closing}
use Rattle.session_model.specs.Run.{refusal, giving_fault, waiting_fault}
use Rattle.mail_model.specs.Site.{TapeFault as site}
use Rattle.call_tickets.specs.declared.call.Call.{Call}
use Rattle.node_store.specs.Disks.{View}
use Rattle.cluster_world.specs.Outcomes.{Outcome, Awaited, without_session}
use Rattle.cluster_world.specs.Outcomes.Outcome.{GaveUp, Abandoned, KeptUp}
use Rattle.cluster_world.specs.declared.world.World.{World}
use Rattle.drive_tape.specs.declared.cluster.Cluster.{Cluster}
use Rattle.drive_tape.specs.declared.open_call.OpenCall.{OpenCall}
use Rattle.drive_tape.specs.declared.drove.Stop.{Stop as Why}
use Rattle.drive_tape.specs.Fed.{IsFreed, IsGivenUpFirst, IsClosingAt, IsGivingUpAt, IsLetGo, HadNone, IsKeptUp, GaveUpCall}
use Rattle.drive_tape.specs.Leaving.{IsLeaveOf}
use Rattle.drive_tape.specs.Lines.{IsStarted, LineStopped}
use Rattle.drive_tape.specs.Points.{Point, Work, AreAtOwnNodes, IsAtPoint}
use Rattle.drive_tape.specs.Clusters.{SessionEndsAt}
use Rattle.drive_tape.specs.Talks.{Converse, HasOwnTicket, HasTicket, TicketFits, StandsOnNode, EachSession}
use Rattle.drive_tape.specs.Worlds.{WorldIsAt, IsSince, WentTo, AreLives, HasCauses, GaveUpSo}
use Rattle.drive_tape.proofs.Acting.{acted_does}
use Rattle.drive_tape.proofs.Begins.{among_filter}
use Rattle.drive_tape.proofs.Fed.{in_vain}
use Rattle.drive_tape.proofs.Places.{each_set, get_apart, nodes_set, does_plain, abandons_plain, up_on, lives_on, same_lives, causes_on}
use Rattle.drive_tape.proofs.Talks.{some_same, at_place, is_spoken_to, count_less, set_here, within_get}
use Rattle.drive_tape.proofs.Works.{work_none, work_act}

other_number : (a b : ℕ) → a ≢ b → not (nat_eq a b) ≡ true
other_number a b other = by (nat_eq a b) refl
  where
    by : (x : Bool) → nat_eq a b ≡ x → not x ≡ true
    by false is = refl
    by true is = absurd (other (grind (arith, nat_tests, is)))

next_apart : (i place : ℕ) → i ≢ place → i + 1 ≢ place + 1
next_apart i place other same = other (omega (arith, same))

-- the ticket of another session stays
pub ticket_other : (kept : Option (Option OpenCall)) (s : Session) (i k : ℕ) (awaited : List Awaited) (standing : Standing) → i ≢ k → TicketFits kept s i awaited standing → TicketFits kept s i (without_session k awaited) standing
ticket_other kept s i k awaited (Waiting state call) other t = record {
  open_call = t.open_call;
  has = t.has;
  own = t.own;
  kind = t.kind;
  stands = among_filter _ _ awaited (other_number i k other) t.stands;
  before = t.before;
  last = t.last;
  heard = t.heard;
}
ticket_other kept s i k awaited (Standing.Hearing state) other t = t
ticket_other kept s i k awaited Standing.EndedByQuit other t = t
ticket_other kept s i k awaited Standing.EndedDown other t = t
ticket_other kept s i k awaited EndedClosed other t = t

-- a session that has a ticket waits
pub record WaitsSo (kept : Option (Option OpenCall)) (s : Session) (k : ℕ) (awaited : List Awaited) (open_call : OpenCall) : Type 0 where
  pub state : TalkState
  pub call : calls.Call
  pub waits : s.standing ≡ Waiting state call
  pub ticket : HasTicket kept s k call awaited
  pub is : ticket.open_call ≡ open_call

waits_by : (kept : Option (Option OpenCall)) (s : Session) (k : ℕ) (awaited : List Awaited) (open_call : OpenCall) (standing : Standing) → s.standing ≡ standing → kept ≡ Some (Some open_call) → TicketFits kept s k awaited standing
    → WaitsSo kept s k awaited open_call
waits_by kept s k awaited open_call (Waiting state call) is some t =
    record { state = state; call = call; waits = is; ticket = t; is = some_same t.open_call open_call (some_same (Some t.open_call) (Some open_call) (sym t.has ∙ some)) }
waits_by kept s k awaited open_call (Standing.Hearing state) is some t = absurd (let never : ◌≡◌ {A = Option OpenCall} None (Some open_call) = some_same None (Some open_call) (sym t ∙ some) in cc)
waits_by kept s k awaited open_call Standing.EndedByQuit is some t = absurd (let never : ◌≡◌ {A = Option OpenCall} None (Some open_call) = some_same None (Some open_call) (sym t ∙ some) in cc)
waits_by kept s k awaited open_call Standing.EndedDown is some t = absurd (let never : ◌≡◌ {A = Option OpenCall} None (Some open_call) = some_same None (Some open_call) (sym t ∙ some) in cc)
waits_by kept s k awaited open_call EndedClosed is some t = absurd (let never : ◌≡◌ {A = Option OpenCall} None (Some open_call) = some_same None (Some open_call) (sym t ∙ some) in cc)

-- one that has none does not
not_waits : (kept : Option (Option OpenCall)) (s : Session) (k : ℕ) (awaited : List Awaited) → kept ≡ Some None → TicketFits kept s k awaited s.standing → Waits (Some s) → ⊥
not_waits kept s k awaited none t waits =
    let has = subst (TicketFits kept s k awaited) waits.2 t in
    let never : ◌≡◌ {A = Option OpenCall} None (Some has.open_call) = some_same None (Some has.open_call) (sym none ∙ has.has) in
    let no : ⊥ = cc in no

-- what is kept for the place is taken out
module _ {D : Type 0} (on : View D) (start : World D) (plan : Plan) (p : Point) (place : ℕ) (plain : Session) (old new : Cluster D) (shows : IsAtPoint on start plan old p)
    (here : slice_get p.sessions place ≡ Some plain) (stands : IsOn plain.standing) (talkers : new.sessions.talkers ≡ old.sessions.talkers) (nodes : new.sessions.nodes ≡ old.sessions.nodes)
    (standing : new.sessions.standing ≡ old.sessions.standing) (inside : place < length old.sessions.calls.items) (kept : new.sessions.calls.items ≡ slice_set old.sessions.calls.items place None) where
  none_here : slice_get new.sessions.calls.items place ≡ Some None
  none_here = ap (λ (l : List (Option OpenCall)). slice_get l place) kept ∙ set_here old.sessions.calls.items place None inside

  apart : (i : ℕ) → i ≢ place → slice_get new.sessions.calls.items i ≡ slice_get old.sessions.calls.items i
  apart i other = ap (λ (l : List (Option OpenCall)). slice_get l i) kept ∙ get_apart old.sessions.calls.items place i None other

  abbrev freed_so : (been : List Act) (outcomes : List Outcome) (awaited : List Awaited) → WorldIsAt on start (p.outcomes ++ outcomes) awaited new.world
      → ((i : ℕ) (s : Session) → i ≢ place → HasOwnTicket old.sessions.calls.items p.awaited i s → HasOwnTicket old.sessions.calls.items awaited i s)
      → AreLives plan (p.been ++ been) new.world → EachSession (λ i session. StandsOnNode plan (p.been ++ been) session) p.sessions → HasCauses on start (failed_in (p.been ++ been)) new.world
      → IsFreed on start plan p place been outcomes awaited new
  freed_so been outcomes awaited at still lives up causes = record {
    plain = plain;
    here = here;
    on_still = stands;
    at = at;
    talks = rw talkers shows.talks;
    nodes = ap (λ l. l.items) nodes ∙ shows.nodes;
    others = λ i s is other. subst (λ (o : Option (Option OpenCall)). TicketFits o s (i + 1) awaited s.standing) (sym (apart i other)) (still i s other (shows.tickets i s is));
    none = none_here;
    count = standing ∙ shows.count;
    lives = lives;
    up = up;
    causes = causes;
  }

  -- there was nothing
  pub had_none : new.world ≡ old.world → slice_get old.sessions.calls.items place ≡ Some None → HadNone on start plan p place new
  had_none world none = record {
    freed = freed_so [] [] p.awaited (subst (λ (os : List Outcome). WorldIsAt on start os p.awaited new.world) (sym (append-nil p.outcomes)) (rw world shows.at)) (λ i s other has. has)
        (subst (λ (been : List Act). AreLives plan been new.world) (sym (append-nil p.been)) (rw world shows.lives))
        (subst (λ (been : List Act). EachSession (λ i session. StandsOnNode plan been session) p.sessions) (sym (append-nil p.been)) shows.up)
        (subst (λ (been : List Act). HasCauses on start (failed_in been) new.world) (sym (append-nil p.been)) (rw world shows.causes));
    quiet = not_waits _ plain (place + 1) p.awaited none (shows.tickets place plain here);
  }

  -- a call was given up
  module _ (open_call : OpenCall) (some : slice_get old.sessions.calls.items place ≡ Some (Some open_call)) where
    pub waits_so : WaitsSo (slice_get old.sessions.calls.items place) plain (place + 1) p.awaited open_call
    waits_so = waits_by _ plain (place + 1) p.awaited open_call plain.standing refl some (shows.tickets place plain here)

    abbrev pub asked_for : calls.Call
    asked_for = waits_so.call

    pub stands_for : Among (record { ticket = open_call.ticket; session = place + 1; call = waits_so.call }) p.awaited
    stands_for = subst (λ (t : OpenCall). Among (record { ticket = t.ticket; session = place + 1; call = waits_so.call }) p.awaited) waits_so.is waits_so.ticket.stands

    abbrev gone : (outcome : Outcome) (been : List Act) → WentTo on start old.world (p.outcomes ++ outcome ∷ []) (without_session (place + 1) p.awaited) new.world → AreLives plan (p.been ++ been) new.world
        → EachSession (λ i session. StandsOnNode plan (p.been ++ been) session) p.sessions → HasCauses on start (failed_in (p.been ++ been)) new.world
        → IsFreed on start plan p place been (outcome ∷ []) (without_session (place + 1) p.awaited) new
    gone outcome been went lives up causes =
        freed_so been (outcome ∷ []) (without_session (place + 1) p.awaited) went.at (λ i s other has. ticket_other _ s (i + 1) (place + 1) p.awaited s.standing (next_apart i place other) has) lives up causes

    pub given_up : (done : Bool) → GaveUpSo {T = Bool} on start p.outcomes p.awaited (place + 1) waits_so.call open_call.ticket (Ok done) old.world new.world → IsLetGo on start plan p place new
    given_up done so =
        let w = waits_so in
        let one = abandons_plain (place + 1) in
        record {
          call = w.call;
          ticket = open_call.ticket;
          told = gone (GaveUp (place + 1) w.call open_call.ticket) [] so.1
              (subst (λ (been : List Act). AreLives plan been new.world) (sym (append-nil p.been)) (λ n there. so.0 n ∙ shows.lives n there))
              (subst (λ (been : List Act). EachSession (λ i session. StandsOnNode plan been session) p.sessions) (sym (append-nil p.been)) shows.up)
              (subst (λ (been : List Act). HasCauses on start (failed_in been) new.world) (sym (append-nil p.been)) (so.1.causes (failed_in p.been) shows.causes));
          closing = gone (Abandoned (place + 1) w.call open_call.ticket) (Abandons (place + 1) ∷ []) so.2
              (lives_on plan p.been (Abandons (place + 1)) old.world new.world one so.0 shows.lives)
              (λ i s is. up_on plan p.been (Abandons (place + 1)) s one (shows.up i s is))
              (causes_on on start new.world p.been (Abandons (place + 1)) one (so.2.causes (failed_in p.been) shows.causes));
          state = w.state;
          waits = w.waits;
          waited = w.waits;
          before = w.ticket.before;
          last = w.ticket.last;
          heard = w.ticket.heard;
        }

    pub kept_up : (stop : Why) → GaveUpSo {T = Bool} on start p.outcomes p.awaited (place + 1) waits_so.call open_call.ticket (Err stop) old.world new.world → IsKeptUp on start plan p place stop new.world
    kept_up stop so = record {
      ticket = open_call.ticket;
      why = so.0;
      stops = so.1;
      plain = plain;
      here = here;
      waits = (waits_so.state, waits_so.call, waits_so.waits);
      since = (so.2.0, so.2.1.at);
      lives = λ f bad n there. so.3 f bad n ∙ shows.lives n there;
      causes = so.2.1.causes (failed_in p.been) shows.causes;
    }

-- a step that was refused, as a line closes or gives up
module _ {D : Type 0} (on : View D) (start : World D) (plan : Plan) (p : Point) (line : List ℕ) (place : ℕ) (stop : Why) (held : Option (List ℕ)) (world : World D) (same : p.held ≡ held) (k : IsKeptUp on start plan p place stop world) where
  at_k : session_at p.sessions (place + 1) ≡ Some k.plain
  at_k = at_place p.sessions (place + 1) place refl ∙ k.here

  stands_on : IsOn k.plain.standing
  stands_on = subst IsOn (sym k.waits.2) tt

  pub close_in_vain : tape_order line ≡ Some (Close (place + 1)) → LineStopped on start plan p line stop held world
  close_in_vain spelled =
      in_vain on start plan p line held world same (Close (place + 1)) spelled (is_spoken_to p.sessions (place + 1) k.plain at_k stands_on) (KeptUp (place + 1) k.ticket k.why)
      (subst Waits (sym at_k) k.waits, refl) tt tt k.since k.causes k.why stop k.stops (λ f is. is) (λ f is. k.lives f (k.stops ∙ is))

  pub giving_in_vain : tape_order line ≡ Some (GiveUp (place + 1)) → LineStopped on start plan p line stop held world
  giving_in_vain spelled =
      in_vain on start plan p line held world same (GiveUp (place + 1)) spelled (ap giving_fault at_k ∙ ap waiting_fault k.waits.2) (KeptUp (place + 1) k.ticket k.why)
      refl tt tt k.since k.causes k.why stop k.stops (λ f is. is) (λ f is. k.lives f (k.stops ∙ is))

-- a session that does not wait has no call to give up
not_giving : (standing : Standing) → IsOn standing → ((state : TalkState) (call : calls.Call) → standing ≢ Waiting state call) → waiting_fault standing ≡ Some site.BadLine
not_giving (Standing.Hearing state) on quiet = refl
not_giving (Waiting state call) on quiet = absurd (quiet state call refl)
not_giving Standing.EndedByQuit on quiet = absurd on
not_giving Standing.EndedDown on quiet = absurd on
not_giving EndedClosed on quiet = absurd on

module _ {D : Type 0} (on : View D) (start : World D) (plan : Plan) (p : Point) (line : List ℕ) (place : ℕ) (cluster : Cluster D) where
  pub nothing_to_give : HadNone on start plan p place cluster → refusal plan p.been p.sessions (GiveUp (place + 1)) ≡ Some site.BadLine
  nothing_to_give h =
      ap giving_fault (at_place p.sessions (place + 1) place refl ∙ h.freed.here) ∙ not_giving h.freed.plain.standing h.freed.on_still (λ state call is. h.quiet (state, call, is))

  pub none_since : HadNone on start plan p place cluster → IsSince on start p.outcomes cluster.world
  none_since h = (p.awaited, subst (λ (os : List Outcome). WorldIsAt on start os p.awaited cluster.world) (append-nil p.outcomes) h.freed.at)

  pub none_causes : HadNone on start plan p place cluster → HasCauses on start (failed_in p.been) cluster.world
  none_causes h = subst (λ (been : List Act). HasCauses on start (failed_in been) cluster.world) (append-nil p.been) h.freed.causes

  pub none_lives : HadNone on start plan p place cluster → AreLives plan p.been cluster.world
  none_lives h = subst (λ (been : List Act). AreLives plan been cluster.world) (append-nil p.been) h.freed.lives

  pub giving : tape_order line ≡ Some (GiveUp (place + 1)) → IsLetGo on start plan p place cluster → IsGivingUpAt on start plan p line place cluster
  giving spelled g = record { spelled = spelled; call = g.call; ticket = g.ticket; freed = g.told; state = g.state; waits = g.waits; before = g.before; last = g.last; heard = g.heard }

  pub closes : tape_order line ≡ Some (Close (place + 1)) → (had : Bool) → GaveUpCall on start plan p place (Ok had) cluster → IsClosingAt on start plan p line place cluster
  closes spelled false h = record { spelled = spelled; been = []; outcomes = []; awaited = p.awaited; freed = h.freed; first = inl (refl, refl, refl, h.quiet) }
  closes spelled true g = record {
    spelled = spelled;
    been = Abandons (place + 1) ∷ [];
    outcomes = Abandoned (place + 1) g.call g.ticket ∷ [];
    awaited = without_session (place + 1) p.awaited;
    freed = g.closing;
    first = inr (refl, (g.state, g.call, g.waited), refl, (g.call, g.ticket, refl));
  }

-- a session is closed
module _ {D : Type 0} (on : View D) (start : World D) (plan : Plan) (p : Point) (line : List ℕ) (place : ℕ) (old new : Cluster D) (c : IsClosingAt on start plan p line place old)
    (world : new.world ≡ old.world) (nodes : new.sessions.nodes ≡ old.sessions.nodes) (kept : new.sessions.calls ≡ old.sessions.calls) (count : new.sessions.standing ≡ old.sessions.standing - 1) where
  abbrev pub closed : Session
  closed = record c.freed.plain { standing = EndedClosed }

  abbrev pub closed_point : Point
  closed_point = record p {
    turn = Hearing (place + 1) 1;
    sessions = slice_set p.sessions place closed;
    been = (p.been ++ c.been) ++ Does (place + 1) Closes ∷ [];
    outcomes = p.outcomes ++ c.outcomes;
    awaited = c.awaited;
  }

  at_it : session_at p.sessions (place + 1) ≡ Some c.freed.plain
  at_it = at_place p.sessions (place + 1) place refl ∙ c.freed.here

  accepted : refusal plan p.been p.sessions (Close (place + 1)) ≡ None
  accepted = is_spoken_to p.sessions (place + 1) c.freed.plain at_it c.freed.on_still

  acted_so : Acted plan p.sessions (Does (place + 1) Closes) [] (slice_set p.sessions place closed)
  acted_so = acted_does plan p.sessions place c.freed.plain closed Closes [] c.freed.here (c.freed.on_still, refl, refl)

  -- how the line begins, and the work so far
  pub record Begun : Type 0 where
    pub mid : Point
    pub started : IsStarted plan p mid (Close (place + 1))
    pub work : Work plan mid closed_point

  at_once : c.been ≡ [] → c.outcomes ≡ [] → (Waits (Some c.freed.plain) → ⊥) → Begun
  at_once been outcomes quiet = record {
    mid = closed_point;
    started = record {
      accepted = accepted;
      first = Does (place + 1) Closes;
      said = [];
      starts = inl (refl, (λ waits. quiet (subst Waits at_it waits)), refl);
      acted = acted_so;
      outcomes = [];
      linked = refl;
      at_nodes = tt;
      came = ap (λ (l : List Outcome). p.outcomes ++ l) outcomes;
      been = ap (λ (l : List Act). (p.been ++ l) ++ Does (place + 1) Closes ∷ []) been ∙ ap (λ (l : List Act). l ++ Does (place + 1) Closes ∷ []) (append-nil p.been);
      gave = appends_none p.held;
    };
    work = work_none plan closed_point;
  }

  abbrev abandoned_point : Point
  abandoned_point = record p { turn = Closing (place + 1) 1; been = p.been ++ Abandons (place + 1) ∷ []; outcomes = p.outcomes ++ c.outcomes; awaited = c.awaited }

  after_giving_up : c.been ≡ Abandons (place + 1) ∷ [] → Waits (Some c.freed.plain) → (asked : calls.Call) (ticket : Number) → c.outcomes ≡ Abandoned (place + 1) asked ticket ∷ [] → Begun
  after_giving_up been waits asked ticket outcomes = record {
    mid = abandoned_point;
    started = record {
      accepted = accepted;
      first = Abandons (place + 1);
      said = [];
      starts = inr (refl, subst Waits (sym at_it) waits, refl);
      acted = (refl, refl);
      outcomes = c.outcomes;
      linked = (asked, ticket, outcomes);
      at_nodes = subst (AreAtOwnNodes p.sessions) (sym outcomes) (tt, tt);
      came = refl;
      been = refl;
      gave = appends_none p.held;
    };
    work = work_act plan abandoned_point closed_point (Does (place + 1) Closes) [] []
        (record { next = (refl, refl); acted = acted_so; linked = refl; at_nodes = tt })
        (sym (append-nil (p.outcomes ++ c.outcomes))) (ap (λ (l : List Act). (p.been ++ l) ++ Does (place + 1) Closes ∷ []) been) (appends_none p.held);
  }

  pub closed_begun : Begun
  closed_begun = by c.first
    where
      by : IsGivenUpFirst p place c.freed.plain c.been c.outcomes c.awaited → Begun
      by (inl none) = at_once none.0 none.1 none.3
      by (inr given) = after_giving_up given.0 given.1 given.3.0 given.3.1 given.3.2

  pub closed_shows : Converse new.sessions.talkers.items (slice_set p.sessions place closed) → IsAtPoint on start plan new closed_point
  closed_shows talks =
      let act = Does (place + 1) Closes in
      let one = does_plain (place + 1) Closes in
      record {
        at = rw world c.freed.at;
        talks = talks;
        nodes = ap (λ l. l.items) nodes ∙ c.freed.nodes ∙ sym (nodes_set p.sessions place c.freed.plain closed c.freed.here refl);
        tickets = each_set (HasOwnTicket new.sessions.calls.items c.awaited) p.sessions place closed (λ i s here other. rw kept (c.freed.others i s here other)) (rw kept c.freed.none);
        count = count ∙ ap (λ (n : ℕ). n - 1) c.freed.count ∙ sym (count_less p.sessions place c.freed.plain closed c.freed.here c.freed.on_still tt);
        lives = lives_on plan (p.been ++ c.been) act new.world new.world one (same_lives new.world) (rw world c.freed.lives);
        up = each_set (λ i s. StandsOnNode plan ((p.been ++ c.been) ++ act ∷ []) s) p.sessions place closed (λ i s here other. up_on plan (p.been ++ c.been) act s one (c.freed.up i s here)) (λ stands. absurd stands);
        causes = causes_on on start new.world (p.been ++ c.been) act one (rw world c.freed.causes);
      }

  pub closed_ends : (leave : Option Call) → IsLeaveOf leave (entered_as (exchanges_of c.freed.plain)) → SessionEndsAt place 1 leave closed_point
  closed_ends leave leaves = record {
    turn = refl;
    plain = closed;
    here = set_here p.sessions place closed (within_get p.sessions place c.freed.plain c.freed.here);
    idle = tt;
    leaves_as = refl;
    leaves = leaves;
  }
