-- The first act of a line, where a session says something in it.
use Rattle.std.proofs.Common.{◌≡◌, ◌+◌, ◌++◌, ◌∷◌, ℕ, true, false, List, [], Option, Some, None, Err, refl, sym, ap, ◌∙◌, subst, inl}
use Rattle.std.specs.Prelude.{slice_set, if◌then◌else◌}
use Rattle.std.specs.Io.KnownBytes.{Appends}
use Rattle.std.proofs.lemmas.List.{append-nil}
use Rattle.io_edge.proofs.Known.{appends_none}
use Rattle.mail_model.specs.Maildrop.{later_text, remaining_text}
use Rattle.mail_model.specs.Plan.{Plan}
use Rattle.mail_model.specs.PopReplies.{one_line}
use Rattle.mail_model.specs.Site.{closed_event}
use Rattle.mail_model.specs.Tape.Order.{GiveUp}
use Rattle.mail_model.specs.Transcript.{Entry, written_of, said_lines}
use Rattle.mail_model.specs.Session.{Unit}
use Rattle.session_model.specs.Calls as calls
use Rattle.session_model.specs.Calls.{IsReply, unstored_text}
use Rattle.session_model.specs.Calls.{Call as call}
use Rattle.session_model.specs.Calls.Answer.{Failed}
use Rattle.session_model.specs.Talk.{Standing, IsOn, answered, leave_of}
use Rattle.session_model.specs.Talk.Standing.{Waiting}
use Rattle.session_model.specs.Moves.{with_answer}
use Rattle.session_model.specs.Sessions.{Session, session_at, exchanges_of}
use Rattle.session_model.specs.Acts.{Act, Acted, closing}
use Rattle.session_model.specs.Acts.Act.{Does}
use Rattle.session_model.specs.Acts.Deed.{IsGivenUp}
use Rattle.session_model.specs.Lives.{failed_in}
use Rattle.session_model.specs.Turns.Turn.{Hearing}
use Rattle.session_model.specs.Run.{refusal, giving_fault, waiting_fault}
use Rattle.session_model.specs.Run.Stop.{OutOfMemory}
use Rattle.call_tickets.specs.declared.call.Call.{Call}
use Rattle.node_store.specs.Disks.{View}
use Rattle.cluster_world.specs.Outcomes.{Outcome, without_session}
use Rattle.cluster_world.specs.Outcomes.Outcome.{GaveUp}
use Rattle.cluster_world.specs.declared.world.World.{World}
use Rattle.drive_tape.specs.declared.cluster.Cluster.{Cluster}
use Rattle.drive_tape.specs.declared.sessions.After.{After}
use Rattle.drive_tape.specs.declared.sessions.After.TheVariants.{Stays, Ends}
use Rattle.drive_tape.specs.declared.entry.WriteStop.{WriteStop}
use Rattle.drive_tape.specs.declared.drove.Stop.{Stop as Why}
use Rattle.drive_tape.specs.declared.drove.Stop.TheVariants as why
use Rattle.drive_tape.specs.Entries.{WritesEntries}
use Rattle.drive_tape.specs.Fed.{IsTelling, WasFed, IsGivingUpAt}
use Rattle.drive_tape.specs.Lines.{IsStarted, LineStopped}
use Rattle.drive_tape.specs.Moving.{has_ended, RepliesTo, GoesOn}
use Rattle.drive_tape.specs.Led.{Led}
use Rattle.drive_tape.specs.Points.{Point, IsAtPoint, WentOn, Stopped}
use Rattle.drive_tape.specs.Clusters.{RestsAt, IsAfter, SessionEndsAt}
use Rattle.drive_tape.specs.Stops.{of_write}
use Rattle.drive_tape.specs.Talks.{HasOwnTicket, StandsOnNode, IsUpAt, EachSession}
use Rattle.drive_tape.specs.Worlds.{WorldIsAt, AreLives, HasCauses}
use Rattle.drive_tape.proofs.Acting.{acted_does}
use Rattle.drive_tape.proofs.Clusters.{held_point}
use Rattle.drive_tape.proofs.Falling.{own_none}
use Rattle.drive_tape.proofs.Joins.{stops_own, stops_first, halted}
use Rattle.drive_tape.proofs.Moves.{counts_after}
use Rattle.drive_tape.proofs.Places.{each_set, nodes_set, does_plain, up_on, lives_on, same_lives, causes_on}
use Rattle.drive_tape.proofs.Talks.{at_place, did_node, replies_on, replies_ended, set_here, within_get}
use Rattle.drive_tape.proofs.Works.{work_none}

module _ {D : Type 0} (on : View D) (start : World D) (plan : Plan) (p q : Point) (line : List ℕ) (place : ℕ) (after : After) (out : List ℕ) (cluster : Cluster D)
    (t : IsTelling on start plan p q line place after out cluster) (held : Option (List ℕ)) where
  -- it was written in part
  pub stops_telling : (reason : WriteStop) → WritesEntries {E = WriteStop} p.held held (Err reason) (said_lines (place + 1) t.said ++ (if has_ended after then closed_event (place + 1) ∷ [] else []))
      → LineStopped on start plan p line (of_write reason) held cluster.world
  stops_telling reason wrote =
      stops_first on start plan p t.order line t.spelled t.accepted t.act _ q.turn q.sessions t.starts t.acted t.outcomes t.linked t.at_nodes reason held cluster.world wrote
      (q.awaited, subst (λ (o : List Outcome). WorldIsAt on start o q.awaited cluster.world) t.came t.shows.at)
      (subst (λ (d : List Act). AreLives plan d cluster.world) t.been t.shows.lives)
      (subst (λ (d : List Act). HasCauses on start (failed_in d) cluster.world) t.been t.shows.causes)

  -- or all of it
  pub told_started : Appends p.held held (written_of (said_lines (place + 1) t.said ++ (if has_ended after then closed_event (place + 1) ∷ [] else []))) → IsStarted plan p (held_point q held) t.order
  told_started gave = record {
    accepted = t.accepted;
    first = t.act;
    said = said_lines (place + 1) t.said ++ (if has_ended after then closed_event (place + 1) ∷ [] else []);
    starts = t.starts;
    acted = t.acted;
    outcomes = t.outcomes;
    linked = t.linked;
    at_nodes = t.at_nodes;
    came = t.came;
    been = t.been;
    gave = gave;
  }

  pub told_shows : IsAtPoint on start plan cluster (held_point q held)
  told_shows = record {
    at = t.shows.at;
    talks = t.shows.talks;
    nodes = t.shows.nodes;
    tickets = t.shows.tickets;
    count = t.shows.count;
    lives = t.shows.lives;
    up = t.shows.up;
    causes = t.shows.causes;
  }

module _ {D : Type 0} (on : View D) (start : World D) (plan : Plan) (p q : Point) (line : List ℕ) (place : ℕ) (out : List ℕ) (cluster : Cluster D) (held : Option (List ℕ)) where
  -- it hears on
  pub told_on : (t : IsTelling on start plan p q line place Stays out cluster) → Appends p.held held (written_of (said_lines (place + 1) t.said ++ [])) → WasFed on start plan p line place true held cluster
  told_on t gave = record {
    q = held_point q held;
    order = t.order;
    spelled = t.spelled;
    started = told_started on start plan p q line place Stays out cluster t held gave;
    went = record {
      q = held_point q held;
      work = work_none plan (held_point q held);
      held_is = refl;
      shows = told_shows on start plan p q line place Stays out cluster t held;
      so_is = record { turn = t.turn; plain = t.plain; here = t.here; on = t.is_after };
    };
  }

  -- it has ended, and may have to leave
  pub told_ends : (leave : Option Call) (t : IsTelling on start plan p q line place (Ends leave) out cluster) → SessionEndsAt place 1 leave (held_point q held)
  told_ends leave t = record { turn = t.turn; plain = t.plain; here = t.here; idle = rw t.is_after.0 tt; leaves_as = ap (leave_of (exchanges_of t.plain)) t.is_after.0; leaves = t.is_after.1 }

  pub told_left : (leave : Option Call) (t : IsTelling on start plan p q line place (Ends leave) out cluster) (new : Cluster D) (last : Option (List ℕ))
      → Appends p.held held (written_of (said_lines (place + 1) t.said ++ closed_event (place + 1) ∷ [])) → WentOn on start plan (held_point q held) (RestsAt 1) last new → WasFed on start plan p line place false last new
  told_left leave t new last gave went = record {
    q = held_point q held;
    order = t.order;
    spelled = t.spelled;
    started = told_started on start plan p q line place (Ends leave) out cluster t held gave;
    went = went;
  }

  -- the leave stopped
  pub told_stopped : (leave : Option Call) (t : IsTelling on start plan p q line place (Ends leave) out cluster) (reason : Why) (last : Option (List ℕ)) (world : World D)
      → Appends p.held held (written_of (said_lines (place + 1) t.said ++ closed_event (place + 1) ∷ [])) → Stopped on start plan (held_point q held) reason last world → LineStopped on start plan p line reason last world
  told_stopped leave t reason last world gave stopped =
      halted on start plan p (held_point q held) t.order line last t.spelled (told_started on start plan p q line place (Ends leave) out cluster t held gave) reason world stopped

-- what is said is what was written
pub telling_out : {D : Type 0} (on : View D) (start : World D) (plan : Plan) (p q : Point) (line : List ℕ) (place : ℕ) (after : After) (out other : List ℕ) (cluster : Cluster D) → other ≡ out
    → IsTelling on start plan p q line place after out cluster → IsTelling on start plan p q line place after other cluster
telling_out on start plan p q line place after out other cluster same t = subst (λ (o : List ℕ). IsTelling on start plan p q line place after o cluster) (sym same) t

-- the reply to a call that failed: to each unit that asked it is the same
pub failed_reply : (asked : calls.Call) → (reply : List (List ℕ)) × IsReply asked Failed reply × ((unit : Unit) → calls.RepliesTo unit asked Failed reply)
failed_reply (call.Deliver mail) = (one_line unstored_text, refl, λ unit. refl)
failed_reply (call.Login user given) = (one_line later_text, refl, λ unit. refl)
failed_reply (call.Fetch user id) = (one_line later_text, refl, λ unit. refl)
failed_reply (call.Strike user ids) = (one_line remaining_text, refl, λ unit. refl)

-- the entries of such a reply
given_or_not : (after : After) (k : ℕ) (asked : calls.Call) (reply : List (List ℕ)) (plain : Session) → IsAfter after plain → closing k (IsGivenUp asked reply) plain.standing ≡ (if has_ended after then closed_event k ∷ [] else [])
given_or_not Stays k asked reply plain on = by_standing plain.standing on
  where
    by_standing : (s : Standing) → IsOn s → closing k (IsGivenUp asked reply) s ≡ []
    by_standing (Standing.Hearing state) is = refl
    by_standing (Standing.Waiting state call) is = refl
    by_standing Standing.EndedByQuit is = absurd is
    by_standing Standing.EndedDown is = absurd is
    by_standing Standing.EndedClosed is = absurd is
given_or_not (Ends leave) k asked reply plain is = ap (closing k (IsGivenUp asked reply)) is.0

-- the call of a session was given up
module _ {D : Type 0} (on : View D) (start : World D) (plan : Plan) (p : Point) (line : List ℕ) (place : ℕ) (old : Cluster D) (g : IsGivingUpAt on start plan p line place old) where
  at_k : session_at p.sessions (place + 1) ≡ Some g.freed.plain
  at_k = at_place p.sessions (place + 1) place refl ∙ g.freed.here

  accepted : refusal plan p.been p.sessions (GiveUp (place + 1)) ≡ None
  accepted = ap giving_fault at_k ∙ ap waiting_fault g.waits

  was_on : IsOn g.freed.plain.standing
  was_on = g.freed.on_still

  lives_now : AreLives plan p.been old.world
  lives_now = subst (λ (been : List Act). AreLives plan been old.world) (append-nil p.been) g.freed.lives

  up_now : EachSession (λ i session. StandsOnNode plan p.been session) p.sessions
  up_now = subst (λ (been : List Act). EachSession (λ i session. StandsOnNode plan been session) p.sessions) (append-nil p.been) g.freed.up

  causes_now : HasCauses on start (failed_in p.been) old.world
  causes_now = subst (λ (been : List Act). HasCauses on start (failed_in been) old.world) (append-nil p.been) g.freed.causes

  linked_so : (asked : calls.Call) (reply : List (List ℕ)) → g.call ≡ asked → Led plan p.been p.outcomes (Does (place + 1) (IsGivenUp asked reply)) (GaveUp (place + 1) g.call g.ticket ∷ [])
  linked_so asked reply same = (g.ticket, ap (λ (c : calls.Call). GaveUp (place + 1) c g.ticket ∷ []) same)

  -- memory ran out before it was told so
  pub untold : (held : Option (List ℕ)) → p.held ≡ held → LineStopped on start plan p line why.NoMemory held old.world
  untold held same =
      let failed = failed_reply g.call in
      let told = record g.freed.plain { whole = g.before ++ with_answer g.last Failed failed.0 ∷ []; standing = answered g.state g.call Failed } in
      let entries = said_lines (place + 1) failed.0 ++ closing (place + 1) (IsGivenUp g.call failed.0) (answered g.state g.call Failed) in
      stops_own on start plan p (GiveUp (place + 1)) line g.spelled accepted (Does (place + 1) (IsGivenUp g.call failed.0)) entries (Hearing (place + 1) 1) (slice_set p.sessions place told)
      (g.call, failed.0, refl, refl)
      (acted_does plan p.sessions place g.freed.plain told (IsGivenUp g.call failed.0) failed.0 g.freed.here (g.before, g.last, g.state, g.heard, g.waits, failed.2 g.last.unit, refl, refl))
      (GaveUp (place + 1) g.call g.ticket ∷ []) (linked_so g.call failed.0 refl) (tt, tt) why.NoMemory held old.world OutOfMemory refl [] entries refl (inl refl) [] (inl refl)
      (subst (λ (h : Option (List ℕ)). Appends p.held h []) same (appends_none p.held))
      (without_session (place + 1) p.awaited, g.freed.at)
      (λ not. absurd (not refl))
      (causes_on on start old.world p.been (Does (place + 1) (IsGivenUp g.call failed.0)) (does_plain (place + 1) (IsGivenUp g.call failed.0)) causes_now)

  module _ (new : Cluster D) (after : After) (out : List ℕ) (world : new.world ≡ old.world) (nodes : new.sessions.nodes ≡ old.sessions.nodes) (kept : new.sessions.calls ≡ old.sessions.calls)
      (r : RepliesTo plan p.sessions place g.freed.plain Failed after out old.sessions.standing new.sessions) where
    abbrev pub told_point : Point
    told_point = record p {
      turn = Hearing (place + 1) 1;
      sessions = slice_set p.sessions place r.after;
      been = p.been ++ Does (place + 1) (IsGivenUp r.call r.reply) ∷ [];
      outcomes = p.outcomes ++ GaveUp (place + 1) g.call g.ticket ∷ [];
      awaited = without_session (place + 1) p.awaited;
    }

    same_call : g.call ≡ r.call
    same_call = let both : Waiting g.state g.call ≡ Waiting r.did.2 r.call = sym g.waits ∙ r.did.4 in cc

    is_after_so : (a : After) → GoesOn a r.after old.sessions.standing new.sessions.standing → IsAfter a r.after
    is_after_so Stays goes = goes.0
    is_after_so (Ends leave) goes = (replies_ended plan g.freed.plain r.call Failed r.reply r.reply r.after r.did goes.0, goes.1)

    same_node : r.after.node ≡ g.freed.plain.node
    same_node = did_node plan g.freed.plain (IsGivenUp r.call r.reply) r.reply r.after r.did

    -- the session is told so
    pub telling : IsTelling on start plan p told_point line place after out new
    telling =
        let act = Does (place + 1) (IsGivenUp r.call r.reply) in
        let one = does_plain (place + 1) (IsGivenUp r.call r.reply) in
        let is = is_after_so after r.goes_on in
        record {
          order = GiveUp (place + 1);
          spelled = g.spelled;
          accepted = accepted;
          act = Does (place + 1) (IsGivenUp r.call r.reply);
          said = r.reply;
          outcomes = GaveUp (place + 1) g.call g.ticket ∷ [];
          starts = (r.call, r.reply, refl, refl);
          acted = subst (λ (es : List Entry). Acted plan p.sessions (Does (place + 1) (IsGivenUp r.call r.reply)) es (slice_set p.sessions place r.after))
              (ap (λ (es : List Entry). said_lines (place + 1) r.reply ++ es) (given_or_not after (place + 1) r.call r.reply r.after is))
              (acted_does plan p.sessions place g.freed.plain r.after (IsGivenUp r.call r.reply) r.reply g.freed.here r.did);
          linked = linked_so r.call r.reply same_call;
          at_nodes = (tt, tt);
          came = refl;
          been = refl;
          held = refl;
          says = r.says;
          lines = r.lines;
          shows = record {
            at = rw world g.freed.at;
            talks = r.talks;
            nodes = ap (λ l. l.items) nodes ∙ g.freed.nodes ∙ sym (nodes_set p.sessions place g.freed.plain r.after g.freed.here same_node);
            tickets = each_set (HasOwnTicket new.sessions.calls.items (without_session (place + 1) p.awaited)) p.sessions place r.after (λ i s here other. rw kept (g.freed.others i s here other))
                (own_none new.sessions.calls.items (without_session (place + 1) p.awaited) place r.after (replies_on plan g.freed.plain r.call Failed r.reply r.reply r.after r.did) (rw kept g.freed.none));
            count = counts_after p.sessions place g.freed.plain r.after after old.sessions.standing new.sessions.standing g.freed.here was_on g.freed.count r.goes_on;
            lives = lives_on plan p.been act new.world new.world one (same_lives new.world) (rw world lives_now);
            up = each_set (λ i s. StandsOnNode plan (p.been ++ act ∷ []) s) p.sessions place r.after (λ i s here other. up_on plan p.been act s one (up_now i s here))
                (up_on plan p.been act r.after one (λ stands. subst (λ (n : ℕ). IsUpAt plan p.been n) (sym same_node) (up_now place g.freed.plain g.freed.here was_on)));
            causes = causes_on on start new.world p.been act one (rw world causes_now);
          };
          turn = refl;
          plain = r.after;
          here = set_here p.sessions place r.after (within_get p.sessions place g.freed.plain g.freed.here);
          is_after = is;
        }
