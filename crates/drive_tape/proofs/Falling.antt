-- All sessions of a node that went down fall, one after another.
use Rattle.std.proofs.Common.{◌≡◌, ◌≢◌, ◌+◌, ◌-◌, ◌++◌, ◌∷◌, ◌<◌, ◌≤◌, ℕ, zero, suc, List, [], length, Option, Some, None, Err, refl, sym, ap, ◌∙◌, subst, ⊎_elim, arith}
use Rattle.std.specs.Prelude.{slice_get, slice_set}
use Rattle.std.specs.Io.KnownBytes.{Appends}
use Rattle.std.proofs.lemmas.List.{append-nil}
use Rattle.mail_model.specs.Plan.{Plan}
use Rattle.mail_model.specs.Transcript.{Entry, written_of, said_lines}
use Rattle.mail_model.specs.Site.{closed_event}
use Rattle.session_model.specs.Talk.{Standing, down_line}
use Rattle.session_model.specs.Talk.Standing.{EndedDown}
use Rattle.session_model.specs.Sessions.{Session, session_at}
use Rattle.session_model.specs.Acts.{Acted, closing}
use Rattle.session_model.specs.Acts.Act.{Does, Faults}
use Rattle.session_model.specs.Acts.Deed.{Falls}
use Rattle.session_model.specs.Events.{fault_event}
use Rattle.session_model.specs.Turns.{Turn, IsReadyToAsk, IsFirst, IsAtNode, StandsAt, Next}
use Rattle.session_model.specs.Turns.Turn.{Falling}
use Rattle.call_tickets.specs.Moves.{HasEnded}
use Rattle.node_store.specs.Disks.{View}
use Rattle.cluster_world.specs.Outcomes.{Awaited}
use Rattle.cluster_world.specs.declared.world.World.{World}
use Rattle.drive_tape.specs.declared.cluster.Cluster.{Cluster}
use Rattle.drive_tape.specs.declared.open_call.OpenCall.{OpenCall}
use Rattle.drive_tape.specs.declared.entry.WriteStop.{WriteStop}
use Rattle.drive_tape.specs.Entries.{WritesEntries}
use Rattle.drive_tape.specs.Stops.{of_write}
use Rattle.drive_tape.specs.Moving.{FellAt, StaysAt}
use Rattle.drive_tape.specs.Points.{Point, Work, OneAct, Stopped, WentOn}
use Rattle.drive_tape.specs.Talks.{HasOwnTicket, TicketFits}
use Rattle.drive_tape.specs.Clusters.{RestsAt, FaultsAt, HasFallen, IsFalling, IsToFall}
use Rattle.drive_tape.proofs.Talks.{at_place, count_less, on_not_ended, set_here, within_get, some_same, converse_length, did_node}
use Rattle.drive_tape.proofs.Works.{work_act}
use Rattle.drive_tape.proofs.Clusters.{stopped_writing}
use Rattle.drive_tape.proofs.Places.{NotWaiting, same_or_not, get_apart, set_at, nodes_set, none_fits, does_plain, up_on, lives_on, same_lives, causes_on}
use Rattle.drive_tape.proofs.Acting.{acted_does}

pub ended_quiet : (s : Standing) → HasEnded s → NotWaiting s
ended_quiet s ended state call waits = subst HasEnded waits ended

-- one that has no ticket and does not wait is as it has to be
pub own_none : (kept : List (Option OpenCall)) (awaited : List Awaited) (i : ℕ) (s : Session) → NotWaiting s.standing → slice_get kept i ≡ Some None → HasOwnTicket kept awaited i s
own_none kept awaited i s quiet none = none_fits (slice_get kept i) s (i + 1) awaited s.standing quiet none

below : (i place : ℕ) → i < place + 1 → i ≢ place → i < place
below zero zero within other = absurd (other refl)
below zero (suc n) within other = omega arith
below (suc i) zero within other = absurd (omega (arith, within))
below (suc i) (suc n) within other = let less : i < n = below i n (omega (arith, within)) (λ same. other (ap suc same)) in omega (arith, less)

-- no session of the node stands from this number on
none_stands : (sessions : List Session) (node n : ℕ) → ((i : ℕ) (s : Session) → i < n → slice_get sessions i ≡ Some s → s.node ≡ node → HasEnded s.standing) → (j : ℕ) → j < n + 1 → StandsAt node (session_at sessions j) → ⊥
none_stands sessions node n all zero within stands = stands
none_stands sessions node n all (suc i) within stands =
    let same : session_at sessions (suc i) ≡ slice_get sessions i = at_place sessions (suc i) i (omega arith) in
    by_session (slice_get sessions i) refl (subst (StandsAt node) same stands)
  where
    by_session : (o : Option Session) → slice_get sessions i ≡ o → StandsAt node o → ⊥
    by_session None is st = st
    by_session (Some s) is st = on_not_ended s.standing st.1 (all i s (omega (arith, within)) is st.0)

module _ {D : Type 0} (on : View D) (start : World D) (plan : Plan) (p : Point) (place node onward : ℕ) (old new : Cluster D) (t : IsToFall on start plan p place node onward old) (world : new.world ≡ old.world)
    (nodes : new.sessions.nodes ≡ old.sessions.nodes) (few : place < length old.sessions.calls.items) (kept : new.sessions.calls.items ≡ slice_set old.sessions.calls.items place None) (held : Option (List ℕ)) where
  abbrev pub fallen_point : Session → Point
  fallen_point after = record p { turn = Falling (place + 1 + 1) node onward; sessions = slice_set p.sessions place after; been = p.been ++ Does (place + 1) Falls ∷ []; held = held }

  none_here : slice_get new.sessions.calls.items place ≡ Some None
  none_here = ap (λ (l : List (Option OpenCall)). slice_get l place) kept ∙ set_here old.sessions.calls.items place None few

  same_apart : (i : ℕ) → i ≢ place → slice_get new.sessions.calls.items i ≡ slice_get old.sessions.calls.items i
  same_apart i other = ap (λ (l : List (Option OpenCall)). slice_get l i) kept ∙ get_apart old.sessions.calls.items place i None other

  others : (i : ℕ) (s : Session) → slice_get p.sessions i ≡ Some s → (s.node ≡ node → i < place + 1) → i ≢ place → HasOwnTicket new.sessions.calls.items p.awaited i s
  others i s is unless other =
      subst (λ (o : Option (Option OpenCall)). TicketFits o s (i + 1) p.awaited s.standing) (sym (same_apart i other)) (t.falling.tickets i s is (λ own. below i place (unless own) other))

  module _ (out : List ℕ) (fell : FellAt p.sessions place t.plain out old.sessions.standing new.sessions) where
    down : fell.after.standing ≡ EndedDown
    down = ap (λ (s : Session). s.standing) (fell.did plan).2

    first : IsFirst (StandsAt node) p.sessions t.falling.from (place + 1)
    first = record {
      later = t.falling.behind;
      here = subst (StandsAt node) (sym (at_place p.sessions (place + 1) place refl ∙ t.here)) (t.own, fell.on);
      none = λ j from within stands. none_stands p.sessions node place t.falling.fallen j within stands;
    }

    pub falls_one : OneAct plan p (Does (place + 1) Falls) (said_lines (place + 1) (down_line t.plain.protocol t.plain.node ∷ []) ++ closed_event (place + 1) ∷ []) []
        (Falling (place + 1 + 1) node onward) (slice_set p.sessions place fell.after)
    falls_one = record {
      next = subst (λ (turn : Turn). Next turn p.sessions (Does (place + 1) Falls) (Falling (place + 1 + 1) node onward)) (sym t.falling.turn) (first, refl);
      acted = subst (λ (es : List Entry). Acted plan p.sessions (Does (place + 1) Falls) es (slice_set p.sessions place fell.after))
          (ap (λ (es : List Entry). said_lines (place + 1) (down_line t.plain.protocol t.plain.node ∷ []) ++ es) (ap (closing (place + 1) Falls) down))
          (acted_does plan p.sessions place t.plain fell.after Falls (down_line t.plain.protocol t.plain.node ∷ []) t.here (fell.did plan));
      linked = refl;
      at_nodes = tt;
    }

    pub falls_on : Appends p.held held (written_of (said_lines (place + 1) (down_line t.plain.protocol t.plain.node ∷ []) ++ closed_event (place + 1) ∷ [])) → Work plan p (fallen_point fell.after)
    falls_on gave = work_act plan p (fallen_point fell.after) (Does (place + 1) Falls) _ [] falls_one (sym (append-nil p.outcomes)) refl gave

    -- where it was, it has ended
    at_it : (i : ℕ) (s : Session) → slice_get (slice_set p.sessions place fell.after) i ≡ Some s → i ≡ place → s.standing ≡ EndedDown
    at_it i s is same =
        ap (λ (x : Session). x.standing) (sym (set_at p.sessions place fell.after s (subst (λ (j : ℕ). slice_get (slice_set p.sessions place fell.after) j ≡ Some s) same is))) ∙ down

    apart : (i : ℕ) (s : Session) → slice_get (slice_set p.sessions place fell.after) i ≡ Some s → i ≢ place → slice_get p.sessions i ≡ Some s
    apart i s is other = sym (get_apart p.sessions place i fell.after other) ∙ is

    pub falling_on : IsFalling on start plan (fallen_point fell.after) (place + 1) node onward new
    falling_on = record {
      from = place + 1 + 1;
      turn = refl;
      behind = omega arith;
      fallen = λ i s within is own. ⊎_elim (λ (same : i ≡ place). subst HasEnded (sym (at_it i s is same)) tt)
          (λ (other : i ≢ place). t.falling.fallen i s (below i place within other) (apart i s is other) own) (same_or_not i place);
      at = rw world t.falling.at;
      talks = fell.talks;
      nodes = ap (λ l. l.items) nodes ∙ t.falling.nodes ∙ sym (nodes_set p.sessions place t.plain fell.after t.here (did_node plan t.plain Falls _ fell.after (fell.did plan)));
      tickets = λ i s is unless. ⊎_elim
          (λ (same : i ≡ place). own_none new.sessions.calls.items p.awaited i s (ended_quiet s.standing (subst HasEnded (sym (at_it i s is same)) tt)) (subst (λ (j : ℕ). slice_get new.sessions.calls.items j ≡ Some None) (sym same) none_here))
          (λ (other : i ≢ place). others i s (apart i s is other) unless other) (same_or_not i place);
      count = fell.count ∙ ap (λ (n : ℕ). n - 1) t.falling.count ∙ sym (count_less p.sessions place t.plain fell.after t.here fell.on (subst HasEnded (sym down) tt));
      lives = lives_on plan p.been (Does (place + 1) Falls) new.world new.world (does_plain (place + 1) Falls) (same_lives new.world) (rw world t.falling.lives);
      up = λ i s is unless. ⊎_elim
          (λ (same : i ≡ place). λ stands. absurd (on_not_ended s.standing stands (subst HasEnded (sym (at_it i s is same)) tt)))
          (λ (other : i ≢ place). up_on plan p.been (Does (place + 1) Falls) s (does_plain (place + 1) Falls) (t.falling.up i s (apart i s is other) (λ own. below i place (unless own) other))) (same_or_not i place);
      causes = causes_on on start new.world p.been (Does (place + 1) Falls) (does_plain (place + 1) Falls) (rw world t.falling.causes);
    }

    pub stops_falling : (reason : WriteStop) → WritesEntries {E = WriteStop} p.held held (Err reason) (said_lines (place + 1) (down_line t.plain.protocol t.plain.node ∷ []) ++ closed_event (place + 1) ∷ [])
        → Stopped on start plan p (of_write reason) held new.world
    stops_falling reason wrote =
        stopped_writing on start plan p (Does (place + 1) Falls) _ [] (Falling (place + 1 + 1) node onward) (slice_set p.sessions place fell.after) held reason new.world falls_one wrote
        (p.awaited, rw (world, append-nil p.outcomes) t.falling.at)
        (lives_on plan p.been (Does (place + 1) Falls) new.world new.world (does_plain (place + 1) Falls) (same_lives new.world) (rw world t.falling.lives))
        (causes_on on start new.world p.been (Does (place + 1) Falls) (does_plain (place + 1) Falls) (rw world t.falling.causes))

  -- it had ended
  pub passed_over : (out : List ℕ) → HasEnded t.plain.standing → StaysAt p.sessions out old.sessions.standing new.sessions → IsFalling on start plan p (place + 1) node onward new
  passed_over out ended same = record {
    from = t.falling.from;
    turn = t.falling.turn;
    behind = let before = t.falling.behind in omega (arith, before);
    fallen = λ i s within is own. ⊎_elim (λ (at : i ≡ place). plain_ended i s is at) (λ (other : i ≢ place). t.falling.fallen i s (below i place within other) is own) (same_or_not i place);
    at = rw world t.falling.at;
    talks = same.talks;
    nodes = ap (λ l. l.items) nodes ∙ t.falling.nodes;
    tickets = λ i s is unless. ⊎_elim
        (λ (at : i ≡ place). own_none new.sessions.calls.items p.awaited i s (ended_quiet s.standing (plain_ended i s is at)) (subst (λ (j : ℕ). slice_get new.sessions.calls.items j ≡ Some None) (sym at) none_here))
        (λ (other : i ≢ place). others i s is unless other) (same_or_not i place);
    count = same.count ∙ t.falling.count;
    lives = rw world t.falling.lives;
    up = λ i s is unless. ⊎_elim (λ (at : i ≡ place). λ stands. absurd (on_not_ended s.standing stands (plain_ended i s is at)))
        (λ (other : i ≢ place). t.falling.up i s is (λ own. below i place (unless own) other)) (same_or_not i place);
    causes = rw world t.falling.causes;
  }
    where
      plain_ended : (i : ℕ) (s : Session) → slice_get p.sessions i ≡ Some s → i ≡ place → HasEnded s.standing
      plain_ended i s is at = subst (λ (x : Session). HasEnded x.standing) (some_same t.plain s (sym t.here ∙ subst (λ (j : ℕ). slice_get p.sessions j ≡ Some s) at is)) ended

-- one of another node is passed over
pub passed_by : {D : Type 0} (on : View D) (start : World D) (plan : Plan) (p : Point) (place node onward : ℕ) (cluster : Cluster D) (plain : Session) → slice_get p.sessions place ≡ Some plain → plain.node ≢ node
    → IsFalling on start plan p place node onward cluster → IsFalling on start plan p (place + 1) node onward cluster
passed_by on start plan p place node onward cluster plain here other f = record {
  from = f.from;
  turn = f.turn;
  behind = let before = f.behind in omega (arith, before);
  fallen = λ i s within is own. f.fallen i s (less i s is own within) is own;
  at = f.at;
  talks = f.talks;
  nodes = f.nodes;
  tickets = λ i s is unless. f.tickets i s is (λ own. less i s is own (unless own));
  count = f.count;
  lives = f.lives;
  up = λ i s is unless. f.up i s is (λ own. less i s is own (unless own));
  causes = f.causes;
}
  where
    less : (i : ℕ) (s : Session) → slice_get p.sessions i ≡ Some s → s.node ≡ node → i < place + 1 → i < place
    less i s is own within =
        below i place within (λ at. other (ap (λ (x : Session). x.node) (some_same plain s (sym here ∙ subst (λ (j : ℕ). slice_get p.sessions j ≡ Some s) at is)) ∙ own))

-- nobody has fallen yet
pub falling_of : {D : Type 0} (on : View D) (start : World D) (plan : Plan) (p : Point) (node onward : ℕ) (cluster : Cluster D) → p.turn ≡ Falling 1 node onward → HasFallen on start plan p p.been node cluster
    → IsFalling on start plan p 0 node onward cluster
falling_of on start plan p node onward cluster turn has = record {
  from = 1;
  turn = turn;
  behind = omega arith;
  fallen = λ i s within is own. absurd (omega (arith, within));
  at = has.at;
  talks = has.talks;
  nodes = has.nodes;
  tickets = has.tickets;
  count = has.count;
  lives = has.lives;
  up = has.up;
  causes = has.causes;
}

module _ {D : Type 0} (on : View D) (start : World D) (plan : Plan) (p : Point) (place onward node : ℕ) (old : Cluster D) (f : FaultsAt on start plan p place onward node old) where
  pub faults_one : OneAct plan p (Faults node) (fault_event node ∷ []) [] (Falling 1 node onward) p.sessions
  faults_one = record {
    next = subst (λ (t : Turn). Next t p.sessions (Faults node) (Falling 1 node onward)) (sym f.turn)
        (subst (IsAtNode node) (sym (at_place p.sessions (place + 1) place refl ∙ f.here)) f.own, refl);
    acted = (refl, refl);
    linked = (refl, f.fell);
    at_nodes = tt;
  }

  abbrev pub faulted_point : Option (List ℕ) → Point
  faulted_point held = record p { turn = Falling 1 node onward; been = p.been ++ Faults node ∷ []; held = held }

  pub faults_on : (held : Option (List ℕ)) → Appends p.held held (written_of (fault_event node ∷ [])) → Work plan p (faulted_point held)
  faults_on held gave = work_act plan p (faulted_point held) (Faults node) _ [] faults_one (sym (append-nil p.outcomes)) refl gave

  pub falling_first : (held : Option (List ℕ)) → IsFalling on start plan (faulted_point held) 0 node onward old
  falling_first held = falling_of on start plan (faulted_point held) node onward old refl (record {
    at = f.fallen.at;
    talks = f.fallen.talks;
    nodes = f.fallen.nodes;
    tickets = f.fallen.tickets;
    count = f.fallen.count;
    lives = f.fallen.lives;
    up = f.fallen.up;
    causes = f.fallen.causes;
  })

  pub stops_faulting : (held : Option (List ℕ)) (reason : WriteStop) → WritesEntries {E = WriteStop} p.held held (Err reason) (fault_event node ∷ []) → Stopped on start plan p (of_write reason) held old.world
  stops_faulting held reason wrote =
      stopped_writing on start plan p (Faults node) _ [] (Falling 1 node onward) p.sessions held reason old.world faults_one wrote (p.awaited, rw (append-nil p.outcomes) f.fallen.at) f.fallen.lives f.fallen.causes

-- all have fallen
pub fallen_all : {D : Type 0} (on : View D) (start : World D) (plan : Plan) (p q : Point) (at node onward : ℕ) (new : Cluster D) (held : Option (List ℕ)) → Work plan p q → q.held ≡ held
    → (f : IsFalling on start plan q at node onward new) → length new.sessions.talkers.items ≤ at → WentOn on start plan p (RestsAt onward) held new
fallen_all on start plan p q at node onward new held work is f all =
    record {
      q = q;
      work = work;
      held_is = is;
      shows = record {
        at = f.at;
        talks = f.talks;
        nodes = f.nodes;
        tickets = λ i s here. f.tickets i s here (λ own. within i s here);
        count = f.count;
        lives = f.lives;
        up = λ i s here. f.up i s here (λ own. within i s here);
        causes = f.causes;
      };
      so_is = subst (λ (t : Turn). IsReadyToAsk t q.sessions onward) (sym f.turn)
          (refl, λ j from stands. none_stands q.sessions node j (λ i s below here own. f.fallen i s (within i s here) here own) j (omega arith) stands);
    }
  where
    within : (i : ℕ) (s : Session) → slice_get q.sessions i ≡ Some s → i < at
    within i s here =
        let inside : i < length q.sessions = within_get q.sessions i s here in
        let length_is = converse_length new.sessions.talkers.items q.sessions f.talks in omega (arith, inside, length_is, all)
