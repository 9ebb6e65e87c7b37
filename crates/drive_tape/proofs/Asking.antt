-- A session that waits is asked for: it replies, or still waits.
use Rattle.std.proofs.Common.{◌≡◌, ◌≢◌, ◌⊎◌, ◌+◌, ◌-◌, ◌++◌, ◌∷◌, ◌<◌, ◌≤◌, ℕ, zero, suc, true, List, [], length, Option, Some, None, Ok, refl, sym, ap, ◌∙◌, subst, inl, inr, ⊎_elim, arith}
use Rattle.std.specs.Prelude.{slice_get, slice_set, if◌then◌else◌}
use Rattle.std.specs.Io.KnownBytes.{Appends}
use Rattle.std.proofs.lemmas.List.{append-nil}
use Rattle.io_edge.proofs.Known.{appends_none}
use Rattle.object_model.specs.Lists.{Among}
use Rattle.mail_model.specs.Plan.{Plan}
use Rattle.mail_model.specs.Transcript.{Entry, said_lines}
use Rattle.mail_model.specs.Site.{closed_event}
use Rattle.mail_model.specs.Session as mail
use Rattle.session_model.specs.Calls as calls
use Rattle.session_model.specs.Calls.{IsReply}
use Rattle.session_model.specs.Talk.{TalkState, Standing, IsOn, answered}
use Rattle.session_model.specs.Talk.Standing.{Waiting}
use Rattle.session_model.specs.Sessions.{Session, session_at}
use Rattle.session_model.specs.Moves.{with_answer}
use Rattle.session_model.specs.Acts.{Act, Did, closing}
use Rattle.session_model.specs.Acts.Act.{Does, StillWaits}
use Rattle.session_model.specs.Acts.Deed.{IsAnswered}
use Rattle.session_model.specs.Lives.{failed_in}
use Rattle.session_model.specs.Turns.{Turn, IsReadyToAsk, IsFirst, Waits, Next}
use Rattle.session_model.specs.Turns.Turn.{Hearing, Beginning, Closing, Falling, Asking}
use Rattle.session_model.specs.Run.{Made, count_on}
use Rattle.session_model.specs.Run.Stop.{OutOfMemory}
use Rattle.session_model.proofs.Replies.{each_answer_has_reply}
use Rattle.call_tickets.specs.Moves.{HasEnded}
use Rattle.call_tickets.specs.Seen.{answer_seen}
use Rattle.call_tickets.specs.declared.answer.Answer.{Answer}
use Rattle.node_store.specs.Disks.{View}
use Rattle.cluster_world.specs.Outcomes.{Outcome, Awaited, without_session}
use Rattle.cluster_world.specs.Outcomes.Outcome.{Answers, StillPending, Unanswered}
use Rattle.cluster_world.specs.declared.world.World.{World}
use Rattle.drive_tape.specs.declared.open_call.OpenCall.{OpenCall}
use Rattle.drive_tape.specs.declared.cluster.Cluster.{Cluster}
use Rattle.drive_tape.specs.declared.sessions.Sessions.{Sessions}
use Rattle.drive_tape.specs.declared.sessions.After.{After}
use Rattle.drive_tape.specs.declared.sessions.After.TheVariants.{Stays, Ends}
use Rattle.drive_tape.specs.declared.drove.Stop.TheVariants as why
use Rattle.drive_tape.specs.Kinds.{fits_kind, IsKindOf}
use Rattle.drive_tape.specs.Moving.{has_ended, RepliesTo, GoesOn, left_at, call_here, work_at, AreOver, AreEven}
use Rattle.drive_tape.specs.Worlds.{WorldIsAt, WentTo, HasGone, AskedSo, AreLives, AreSameLives, HasCauses}
use Rattle.drive_tape.specs.Points.{Point, OneAct, IsAtPoint, Stopped, WentOn}
use Rattle.drive_tape.specs.Talks.{Converse, EachSession, HasOwnTicket, HasTicket, TicketFits, StandsOnNode, IsUpAt}
use Rattle.drive_tape.specs.Clusters.{RestsAt, IsAfter, IsSaying, AsksFrom, CallHasAnswer}
use Rattle.drive_tape.specs.Lines.{NothingIsUnderWay}
use Rattle.drive_tape.proofs.Talks.{at_place, converse_get, count_same, count_less, converse_length, found_at, set_here, within_get, some_same, did_node, replies_on, replies_ended}
use Rattle.drive_tape.proofs.Led.{to_untold}
use Rattle.drive_tape.proofs.Works.{work_act, cut_act}
use Rattle.drive_tape.proofs.Clusters.{since_gone}
use Rattle.drive_tape.proofs.Acting.{acted_does}
use Rattle.drive_tape.proofs.Places.{get_apart, each_set, nodes_set, does_plain, waits_plain, up_on, lives_on, causes_on}
use Rattle.drive_tape.proofs.Falling.{own_none}
use Rattle.drive_tape.proofs.Begins.{among_filter, not_at}

-- whoever has a ticket waits
pub ticket_waits : (kept : Option (Option OpenCall)) (s : Session) (k : ℕ) (awaited : List Awaited) (standing : Standing) (open_call : OpenCall) → TicketFits kept s k awaited standing → kept ≡ Some (Some open_call)
    → (state : TalkState) × (call : calls.Call) × (standing ≡ Waiting state call) × HasTicket kept s k call awaited
ticket_waits kept s k awaited (Waiting state call) open_call fits is = (state, call, refl, fits)
ticket_waits kept s k awaited (Standing.Hearing state) open_call fits is = absurd (let never : ◌≡◌ {A = Option (Option OpenCall)} (Some None) (Some (Some open_call)) = sym fits ∙ is in cc)
ticket_waits kept s k awaited Standing.EndedByQuit open_call fits is = absurd (let never : ◌≡◌ {A = Option (Option OpenCall)} (Some None) (Some (Some open_call)) = sym fits ∙ is in cc)
ticket_waits kept s k awaited Standing.EndedDown open_call fits is = absurd (let never : ◌≡◌ {A = Option (Option OpenCall)} (Some None) (Some (Some open_call)) = sym fits ∙ is in cc)
ticket_waits kept s k awaited Standing.EndedClosed open_call fits is = absurd (let never : ◌≡◌ {A = Option (Option OpenCall)} (Some None) (Some (Some open_call)) = sym fits ∙ is in cc)

-- and whoever waits has one
pub waits_ticket : (kept : Option (Option OpenCall)) (s : Session) (k : ℕ) (awaited : List Awaited) (standing : Standing) → TicketFits kept s k awaited standing → kept ≡ Some None
    → (state : TalkState) (call : calls.Call) → standing ≡ Waiting state call → ⊥
waits_ticket kept s k awaited (Waiting one of) fits none state call waits = let never : ◌≡◌ {A = Option (Option OpenCall)} (Some None) (Some (Some fits.open_call)) = sym none ∙ fits.has in cc
waits_ticket kept s k awaited (Standing.Hearing one) fits none state call waits = cc
waits_ticket kept s k awaited Standing.EndedByQuit fits none state call waits = cc
waits_ticket kept s k awaited Standing.EndedDown fits none state call waits = cc
waits_ticket kept s k awaited Standing.EndedClosed fits none state call waits = cc

-- a ticket that is awaited stays so as that of another session no more is
ticket_without : (kept : Option (Option OpenCall)) (s : Session) (k other : ℕ) (awaited : List Awaited) (standing : Standing) → k ≢ other → TicketFits kept s k awaited standing → TicketFits kept s k (without_session other awaited) standing
ticket_without kept s k other awaited (Waiting state call) apart t =
    record {
      open_call = t.open_call;
      has = t.has;
      own = t.own;
      kind = t.kind;
      stands = among_filter _ _ awaited (not_at k other apart) t.stands;
      before = t.before;
      last = t.last;
      heard = t.heard;
    }
ticket_without kept s k other awaited (Standing.Hearing state) apart t = t
ticket_without kept s k other awaited Standing.EndedByQuit apart t = t
ticket_without kept s k other awaited Standing.EndedDown apart t = t
ticket_without kept s k other awaited Standing.EndedClosed apart t = t

-- the entries of a reply
closed_or_not : (after : After) (k : ℕ) (call : calls.Call) (answer : calls.Answer) (reply : List (List ℕ)) (plain : Session) → IsAfter after plain
    → closing k (IsAnswered call answer reply) plain.standing ≡ (if has_ended after then closed_event k ∷ [] else [])
closed_or_not Stays k call answer reply plain on = by_standing plain.standing on
  where
    by_standing : (s : Standing) → IsOn s → closing k (IsAnswered call answer reply) s ≡ []
    by_standing (Standing.Hearing state) is = refl
    by_standing (Standing.Waiting state asked) is = refl
    by_standing Standing.EndedByQuit is = absurd is
    by_standing Standing.EndedDown is = absurd is
    by_standing Standing.EndedClosed is = absurd is
closed_or_not (Ends leave) k call answer reply plain is = ap (closing k (IsAnswered call answer reply)) is.0

is_after : (plan : Plan) (old : Session) (call : calls.Call) (answer : calls.Answer) (reply : List (List ℕ)) (after : After) (new : Session) (standing now : ℕ) → Did plan old (IsAnswered call answer reply) reply new
    → GoesOn after new standing now → IsAfter after new
is_after plan old call answer reply Stays new standing now did goes = goes.0
is_after plan old call answer reply (Ends leave) new standing now did goes = (replies_ended plan old call answer reply reply new did goes.0, goes.1)

counts_after : (sessions : List Session) (place : ℕ) (plain new : Session) (after : After) (standing now : ℕ) → slice_get sessions place ≡ Some plain → IsOn plain.standing → standing ≡ count_on sessions → GoesOn after new standing now
    → now ≡ count_on (slice_set sessions place new)
counts_after sessions place plain new Stays standing now here on count goes = goes.1 ∙ count ∙ sym (count_same sessions place plain new here on goes.0)
counts_after sessions place plain new (Ends leave) standing now here on count goes = goes.2 ∙ ap (λ (n : ℕ). n - 1) count ∙ sym (count_less sessions place plain new here on goes.0)

-- the session that is asked is the first that waits
module _ (p : Point) (place : ℕ) (asks : AsksFrom place p) (plain : Session) (here : slice_get p.sessions place ≡ Some plain) (state : TalkState) (call : calls.Call) (waits : plain.standing ≡ Waiting state call) where
  pub first_waits : IsFirst Waits p.sessions asks.from (place + 1)
  first_waits = record {
    later = asks.before;
    here = subst Waits (sym (at_place p.sessions (place + 1) place refl ∙ here)) (state, call, waits);
    none = λ j from before. asks.none j from before;
  }

  next_answered : (asked : calls.Call) (answer : calls.Answer) (reply : List (List ℕ)) → Next p.turn p.sessions (Does (place + 1) (IsAnswered asked answer reply)) (Hearing (place + 1) (place + 1))
  next_answered asked answer reply = by_turn p.turn asks.ready
    where
      by_turn : (t : Turn) → IsReadyToAsk t p.sessions asks.from → Next t p.sessions (Does (place + 1) (IsAnswered asked answer reply)) (Hearing (place + 1) (place + 1))
      by_turn (Hearing k onward) ready = (asks.from, ready, first_waits, refl)
      by_turn (Beginning k onward) ready = (asks.from, ready, first_waits, refl)
      by_turn (Closing k onward) ready = absurd ready
      by_turn (Falling k node onward) ready = (asks.from, ready, first_waits, refl)
      by_turn (Asking k) ready = (asks.from, ready, first_waits, refl)

  next_waits : Next p.turn p.sessions (StillWaits (place + 1)) (Asking (place + 1 + 1))
  next_waits = by_turn p.turn asks.ready
    where
      by_turn : (t : Turn) → IsReadyToAsk t p.sessions asks.from → Next t p.sessions (StillWaits (place + 1)) (Asking (place + 1 + 1))
      by_turn (Hearing k onward) ready = (asks.from, ready, first_waits, refl)
      by_turn (Beginning k onward) ready = (asks.from, ready, first_waits, refl)
      by_turn (Closing k onward) ready = absurd ready
      by_turn (Falling k node onward) ready = (asks.from, ready, first_waits, refl)
      by_turn (Asking k) ready = (asks.from, ready, first_waits, refl)

  waits_one : (plan : Plan) (ticket : _) → OneAct plan p (StillWaits (place + 1)) [] (StillPending (place + 1) ticket ∷ []) (Asking (place + 1 + 1)) p.sessions
  waits_one plan ticket = record { next = next_waits; acted = (refl, refl); linked = (ticket, refl); at_nodes = (tt, tt) }

  -- it still waits
  pub still_waits : {D : Type 0} (on : View D) (start : World D) (plan : Plan) (old new : Cluster D) (ticket : _) (held : Option (List ℕ)) → p.held ≡ held → IsAtPoint on start plan old p → new.sessions ≡ old.sessions
      → AreSameLives old.world new.world → WentTo on start old.world (p.outcomes ++ StillPending (place + 1) ticket ∷ []) p.awaited new.world → WentOn on start plan p (RestsAt (place + 1 + 1)) held new
  still_waits on start plan old new ticket held is shows same lives went =
      let act = StillWaits (place + 1) in
      let q = record p { turn = Asking (place + 1 + 1); outcomes = p.outcomes ++ StillPending (place + 1) ticket ∷ []; been = p.been ++ StillWaits (place + 1) ∷ [] } in
      record {
        q = q;
        work = work_act plan p q act [] (StillPending (place + 1) ticket ∷ []) (waits_one plan ticket) refl refl (appends_none p.held);
        held_is = is;
        shows = record {
          at = went.at;
          talks = rw same shows.talks;
          nodes = rw same shows.nodes;
          tickets = rw same shows.tickets;
          count = rw same shows.count;
          lives = lives_on plan p.been act old.world new.world (waits_plain (place + 1)) lives shows.lives;
          up = λ i s there. up_on plan p.been act s (waits_plain (place + 1)) (shows.up i s there);
          causes = causes_on on start new.world p.been act (waits_plain (place + 1)) (went.causes (failed_in p.been) shows.causes);
        };
        so_is = refl;
      }

  -- memory ran out as it was asked for
  pub stops_asking : {D : Type 0} (on : View D) (start : World D) (plan : Plan) (old last : World D) (ticket : _) (held : Option (List ℕ)) → p.held ≡ held → HasCauses on start (failed_in p.been) old
      → HasGone on start old (p.outcomes ++ Unanswered (place + 1) call ticket ∷ []) last → Stopped on start plan p why.NoMemory held last
  stops_asking on start plan old last ticket held is causes gone = record {
    stop = OutOfMemory;
    is = refl;
    outcomes = p.outcomes ++ Unanswered (place + 1) call ticket ∷ [];
    cut = record {
      acts = [];
      outputs = [];
      turn = p.turn;
      sessions = p.sessions;
      goes = (refl, refl);
      new = Unanswered (place + 1) call ticket ∷ [];
      lacking = [];
      extra = Made.Asks (place + 1) ∷ [];
      linked = to_untold OutOfMemory plan p.been p.outcomes (Unanswered (place + 1) call ticket) tt;
      at_nodes = (tt, tt);
      came = refl;
      asked = inr (asks.from, place + 1, asks.ready, first_waits, refl);
      front = [];
      missing = [];
      parts = refl;
      tail = inl refl;
      may = inl refl;
      cut = [];
      is_cut = inl refl;
      gave = subst (λ (h : Option (List ℕ)). Appends p.held h []) is (appends_none p.held);
    };
    lives = λ not. absurd (not refl);
    causes = subst (λ (d : List Act). HasCauses on start (failed_in d) last) (sym (append-nil p.been)) (gone.1.causes (failed_in p.been) causes);
    since = since_gone on start old _ last gone;
  }

module _ {D : Type 0} (on : View D) (start : World D) (plan : Plan) (p : Point) (place : ℕ) (answer : calls.Answer) (old : Cluster D) (a : CallHasAnswer on start plan p place answer old) where
  abbrev pub came : List Outcome
  came = Answers (place + 1) a.call a.has.open_call.ticket answer ∷ []

  module _ (call : calls.Call) (reply : List (List ℕ)) (after : Session) (did : Did plan a.plain (IsAnswered call answer reply) reply after) (same : call ≡ a.call) where
    abbrev pub entries : List Entry
    entries = said_lines (place + 1) reply ++ closing (place + 1) (IsAnswered call answer reply) after.standing

    pub replies_one : OneAct plan p (Does (place + 1) (IsAnswered call answer reply)) entries came (Hearing (place + 1) (place + 1)) (slice_set p.sessions place after)
    replies_one = record {
      next = next_answered p place a.asks a.plain a.here a.state a.call a.waits call answer reply;
      acted = acted_does plan p.sessions place a.plain after (IsAnswered call answer reply) reply a.here did;
      linked = (a.has.open_call.ticket, ap (λ (c : calls.Call). Answers (place + 1) c a.has.open_call.ticket answer ∷ []) (sym same));
      at_nodes = (tt, tt);
    }

  -- memory ran out though the answer is there
  pub stops_answered : (held : Option (List ℕ)) (last : World D) → p.held ≡ held → last ≡ old.world → Stopped on start plan p why.NoMemory held last
  unfolding cut_act
  stops_answered held last is world = rw world (record {
    stop = OutOfMemory;
    is = refl;
    outcomes = p.outcomes ++ came;
    cut = cut_act plan p act says came (Hearing (place + 1) (place + 1)) (slice_set p.sessions place after) OutOfMemory held [] says [] one refl (inl refl) (inl refl)
        (subst (λ (h : Option (List ℕ)). Appends p.held h []) is (appends_none p.held));
    lives = λ not. absurd (not refl);
    causes = causes_on on start old.world p.been act (does_plain (place + 1) (IsAnswered a.call answer a.whole.0)) (a.went.causes (failed_in p.been) a.shows.causes);
    since = (without_session (place + 1) p.awaited, a.went.at);
  })
    where
      act : Act
      act = Does (place + 1) (IsAnswered a.call answer a.whole.0)

      after : Session
      after = record a.plain { whole = a.has.before ++ with_answer a.has.last answer a.whole.0 ∷ []; standing = answered a.state a.call answer }

      says : List Entry
      says = said_lines (place + 1) a.whole.0 ++ closing (place + 1) (IsAnswered a.call answer a.whole.0) after.standing

      one : OneAct plan p act says came (Hearing (place + 1) (place + 1)) (slice_set p.sessions place after)
      one = replies_one a.call a.whole.0 after (a.has.before, a.has.last, a.state, a.has.heard, a.waits, a.whole.1, refl, refl) refl

  -- it replied
  abbrev pub replied_point : (call : calls.Call) (reply : List (List ℕ)) → Session → Point
  replied_point call reply after = record p {
    turn = Hearing (place + 1) (place + 1);
    sessions = slice_set p.sessions place after;
    been = p.been ++ Does (place + 1) (IsAnswered call answer reply) ∷ [];
    outcomes = p.outcomes ++ Answers (place + 1) a.call a.has.open_call.ticket answer ∷ [];
    awaited = without_session (place + 1) p.awaited;
  }

  pub replying : (after : After) (items out : List ℕ) (new : Cluster D) → out ≡ items → new.world ≡ old.world → new.sessions.nodes ≡ old.sessions.nodes
      → place < length old.sessions.calls.items → new.sessions.calls.items ≡ slice_set old.sessions.calls.items place None
      → (r : RepliesTo plan p.sessions place a.plain answer after items old.sessions.standing new.sessions) → IsSaying on start plan p (replied_point r.call r.reply r.after) place (place + 1) after out new
  replying after items out new shown world nodes within kept r =
      let is = is_after plan a.plain r.call answer r.reply after r.after _ _ r.did r.goes_on in
      let on_it : IsOn a.plain.standing = rw a.waits tt in
      let same : r.call ≡ a.call = same_call r.did.2 a.state r.call a.call (sym r.did.4 ∙ a.waits) in
      let act = Does (place + 1) (IsAnswered r.call answer r.reply) in
      let one = does_plain (place + 1) (IsAnswered r.call answer r.reply) in
      let same_node = did_node plan a.plain (IsAnswered r.call answer r.reply) r.reply r.after r.did in
      record {
        act = act;
        said = r.reply;
        outcomes = came;
        one = subst (λ (es : List Entry). OneAct plan p (Does (place + 1) (IsAnswered r.call answer r.reply)) es came (Hearing (place + 1) (place + 1)) (slice_set p.sessions place r.after))
            (ap (λ (es : List Entry). said_lines (place + 1) r.reply ++ es) (closed_or_not after (place + 1) r.call answer r.reply r.after is))
            (replies_one r.call r.reply r.after r.did same);
        came = refl;
        been = refl;
        held = refl;
        says = shown ∙ r.says;
        lines = r.lines;
        shows = record {
          at = rw world a.went.at;
          talks = r.talks;
          nodes = ap (λ l. l.items) nodes ∙ ap (λ (t : Sessions). t.nodes.items) a.same ∙ a.shows.nodes ∙ sym (nodes_set p.sessions place a.plain r.after a.here same_node);
          tickets = each_set (HasOwnTicket new.sessions.calls.items (without_session (place + 1) p.awaited)) p.sessions place r.after others
              (own_none new.sessions.calls.items (without_session (place + 1) p.awaited) place r.after (replies_on plan a.plain r.call answer r.reply r.reply r.after r.did) none_here);
          count = counts_after p.sessions place a.plain r.after after old.sessions.standing new.sessions.standing a.here on_it (ap (λ (t : Sessions). t.standing) a.same ∙ a.shows.count) r.goes_on;
          lives = lives_on plan p.been act a.old.world new.world one (rw world a.lives) a.shows.lives;
          up = each_set (λ i s. StandsOnNode plan (p.been ++ act ∷ []) s) p.sessions place r.after (λ i s here other. up_on plan p.been act s one (a.shows.up i s here))
              (up_on plan p.been act r.after one (λ stands. subst (λ (n : ℕ). IsUpAt plan p.been n) (sym same_node) (a.shows.up place a.plain a.here on_it)));
          causes = causes_on on start new.world p.been act one (rw world (a.went.causes (failed_in p.been) a.shows.causes));
        };
        turn = refl;
        plain = r.after;
        here = set_here p.sessions place r.after (within_get p.sessions place a.plain a.here);
        is_after = is;
      }
    where
      same_call : (s t : TalkState) (c d : calls.Call) → Waiting s c ≡ Waiting t d → c ≡ d
      same_call s t c d e = cc

      none_here : slice_get new.sessions.calls.items place ≡ Some None
      none_here = ap (λ (l : List (Option OpenCall)). slice_get l place) kept ∙ set_here old.sessions.calls.items place None within

      same_apart : (i : ℕ) → i ≢ place → slice_get new.sessions.calls.items i ≡ slice_get a.old.sessions.calls.items i
      same_apart i other = ap (λ (l : List (Option OpenCall)). slice_get l i) kept ∙ get_apart old.sessions.calls.items place i None other ∙ ap (λ (t : Sessions). slice_get t.calls.items i) a.same

      others : (i : ℕ) (s : Session) → slice_get p.sessions i ≡ Some s → i ≢ place → HasOwnTicket new.sessions.calls.items (without_session (place + 1) p.awaited) i s
      others i s here other =
          subst (λ (o : Option (Option OpenCall)). TicketFits o s (i + 1) (without_session (place + 1) p.awaited) s.standing) (sym (same_apart i other))
          (ticket_without _ s (i + 1) (place + 1) p.awaited s.standing (λ both. other (omega (arith, both))) (a.shows.tickets i s here))

-- the session at a place is asked for
pub record Waiter (p : Point) (place : ℕ) (kept : Option (Option OpenCall)) (open_call : OpenCall) : Type 0 where
  pub plain : Session
  pub here : slice_get p.sessions place ≡ Some plain
  pub state : TalkState
  pub call : calls.Call
  pub waits : plain.standing ≡ Waiting state call
  pub has : HasTicket kept plain (place + 1) call p.awaited
  pub is : has.open_call ≡ open_call

pub waiter : {D : Type 0} (on : View D) (start : World D) (plan : Plan) (p : Point) (place : ℕ) (cluster : Cluster D) (open_call : OpenCall) → IsAtPoint on start plan cluster p → place < length cluster.sessions.talkers.items
    → slice_get cluster.sessions.calls.items place ≡ Some (Some open_call) → Waiter p place (slice_get cluster.sessions.calls.items place) open_call
waiter on start plan p place cluster open_call shows within is =
    let found = found_at cluster.sessions.talkers.items p.sessions place shows.talks within in
    let w = ticket_waits (slice_get cluster.sessions.calls.items place) found.0 (place + 1) p.awaited found.0.standing open_call (shows.tickets place found.0 found.1) is in
    record { plain = found.0; here = found.1; state = w.0; call = w.1; waits = w.2; has = w.3; is = some_same w.3.open_call open_call (some_same (Some w.3.open_call) (Some open_call) (sym w.3.has ∙ is)) }

-- an answer of the call's kind has a reply, and one to the unit that asked
pub own_reply : (unit : mail.Unit) (kind : _) (call : calls.Call) (answer : Answer) → IsKindOf kind call → fits_kind kind answer ≡ true
    → ((reply : List (List ℕ)) × IsReply call (answer_seen answer) reply) × ((reply : List (List ℕ)) × calls.RepliesTo unit call (answer_seen answer) reply)
own_reply unit kind call answer own fits = each_answer_has_reply unit call (answer_seen answer) (own.fits answer fits)

-- what comes of asking for it
module _ {D : Type 0} (on : View D) (start : World D) (plan : Plan) (p : Point) (place : ℕ) (old : Cluster D) (open_call : OpenCall) (held : Option (List ℕ)) (shows : IsAtPoint on start plan old p) (asks : AsksFrom place p)
    (w : Waiter p place (slice_get old.sessions.calls.items place) open_call) (is_held : p.held ≡ held) where
  pub stands : Among (record { ticket = open_call.ticket; session = place + 1; call = w.call }) p.awaited
  stands = subst (λ (o : OpenCall). Among (record { ticket = o.ticket; session = place + 1; call = w.call }) p.awaited) w.is w.has.stands

  pub kind : IsKindOf open_call.kind w.call
  kind = subst (λ (o : OpenCall). IsKindOf o.kind w.call) w.is w.has.kind

  pub waits_on : (E : Type 0) (new : Cluster D) → new.sessions ≡ old.sessions → AskedSo {E = E} on start p.outcomes p.awaited (place + 1) w.call open_call (Ok None) old.world new.world → WentOn on start plan p (RestsAt (place + 1 + 1)) held new
  waits_on E new same so = still_waits p place asks w.plain w.here w.state w.call w.waits on start plan old new open_call.ticket held is_held shows same so.0 so.1

  pub told : (E : Type 0) (answer : Answer) (new : Cluster D) → new.sessions ≡ old.sessions → AskedSo {E = E} on start p.outcomes p.awaited (place + 1) w.call open_call (Ok (Some answer)) old.world new.world
      → CallHasAnswer on start plan p place (answer_seen answer) new
  told E answer new same so =
      let replies = own_reply w.has.last.unit open_call.kind w.call answer kind so.0 in
      record {
        old = old;
        shows = shows;
        asks = asks;
        plain = w.plain;
        here = w.here;
        state = w.state;
        call = w.call;
        waits = w.waits;
        has = w.has;
        reply = replies.0.0;
        replies = replies.0.1;
        whole = replies.1;
        lives = so.1;
        went = subst (λ (o : OpenCall). WentTo on start old.world (p.outcomes ++ Answers (place + 1) w.call o.ticket (answer_seen answer) ∷ []) (without_session (place + 1) p.awaited) new.world) (sym w.is) so.2;
        same = same;
      }

  pub stops_for : (last : World D) → HasGone on start old.world (p.outcomes ++ Unanswered (place + 1) w.call open_call.ticket ∷ []) last → Stopped on start plan p why.NoMemory held last
  stops_for last so = stops_asking p place asks w.plain w.here w.state w.call w.waits on start plan old.world last open_call.ticket held is_held shows.causes so

-- nobody waits at a place that keeps no ticket
pub asks_past : {D : Type 0} (on : View D) (start : World D) (plan : Plan) (p : Point) (place : ℕ) (cluster : Cluster D) → IsAtPoint on start plan cluster p → AsksFrom place p
    → slice_get cluster.sessions.calls.items place ≡ Some None → AsksFrom (place + 1) p
asks_past on start plan p place cluster shows asks none = record {
  from = asks.from;
  ready = asks.ready;
  before = let before = asks.before in omega (arith, before);
  none = λ j from below. ⊎_elim (λ (less : j < place + 1). asks.none j from less) (λ (same : j ≡ place + 1). λ waits. quiet (subst (λ (i : ℕ). Waits (session_at p.sessions i)) same waits)) (less_or_same j (place + 1) (omega (arith, below)));
}
  where
    less_or_same : (i n : ℕ) → i ≤ n → (i < n) ⊎ (i ≡ n)
    less_or_same zero zero w = inr refl
    less_or_same zero (suc n) w = inl (omega arith)
    less_or_same (suc i) zero w = absurd (omega (arith, w))
    less_or_same (suc i) (suc n) w = ⊎_elim (λ (l : i < n). inl (omega (arith, l))) (λ (e : i ≡ n). inr (ap suc e)) (less_or_same i n (omega (arith, w)))

    quiet : Waits (session_at p.sessions (place + 1)) → ⊥
    quiet waits = by (slice_get p.sessions place) refl (subst Waits (at_place p.sessions (place + 1) place refl) waits)
      where
        by : (o : Option Session) → slice_get p.sessions place ≡ o → Waits o → ⊥
        by None is w = w
        by (Some s) is w = waits_ticket (slice_get cluster.sessions.calls.items place) s (place + 1) p.awaited s.standing (shows.tickets place s is) none w.0 w.1 w.2

-- a session that has ended waits for nothing
ended_none : (kept : Option (Option OpenCall)) (s : Session) (k : ℕ) (awaited : List Awaited) (standing : Standing) → HasEnded standing → TicketFits kept s k awaited standing → kept ≡ Some None
ended_none kept s k awaited (Waiting state call) ended fits = absurd ended
ended_none kept s k awaited (Standing.Hearing state) ended fits = absurd ended
ended_none kept s k awaited Standing.EndedByQuit ended fits = fits
ended_none kept s k awaited Standing.EndedDown ended fits = fits
ended_none kept s k awaited Standing.EndedClosed ended fits = fits

-- those that have ended are passed over
pub asks_over : {D : Type 0} (on : View D) (start : World D) (plan : Plan) (p : Point) (over : ℕ) (cluster : Cluster D) → IsAtPoint on start plan cluster p → AreOver over cluster.sessions.talkers.items → AsksFrom 0 p → AsksFrom over p
asks_over on start plan p zero cluster shows over asks = asks
asks_over on start plan p (suc n) cluster shows over asks =
    let got = converse_get cluster.sessions.talkers.items p.sessions n None shows.talks (over n (omega arith)) in
    let next : n + 1 ≡ suc n = omega arith in
    subst (λ (k : ℕ). AsksFrom k p) next
    (asks_past on start plan p n cluster shows (asks_over on start plan p n cluster shows (λ i before. over i (omega (arith, before))) asks)
    (ended_none _ got.0 (n + 1) p.awaited got.0.standing got.2 (shows.tickets n got.0 got.1)))

-- how many are passed over changes nothing else
pub at_over : {D : Type 0} (on : View D) (start : World D) (plan : Plan) (p : Point) (old new : Cluster D) (over : ℕ) → new.world ≡ old.world → new.sessions ≡ record old.sessions { over = over } → IsAtPoint on start plan old p → IsAtPoint on start plan new p
at_over on start plan p old new over world sessions shows = record {
  at = subst (WorldIsAt on start p.outcomes p.awaited) (sym world) shows.at;
  talks = subst (λ (t : Sessions). Converse t.talkers.items p.sessions) (sym sessions) shows.talks;
  nodes = ap (λ (t : Sessions). t.nodes.items) sessions ∙ shows.nodes;
  tickets = subst (λ (t : Sessions). EachSession (HasOwnTicket t.calls.items p.awaited) p.sessions) (sym sessions) shows.tickets;
  count = ap (λ (t : Sessions). t.standing) sessions ∙ shows.count;
  lives = subst (AreLives plan p.been) (sym world) shows.lives;
  up = shows.up;
  causes = subst (HasCauses on start (failed_in p.been)) (sym world) shows.causes;
}

pub even_over : (old new : Sessions) (over : ℕ) → new ≡ record old { over = over } → AreEven old → AreOver over old.talkers.items → AreEven new
even_over old new over is even all = subst AreEven (sym is) (record { calls = even.calls; nodes = even.nodes; over = all })

-- those after this place are to be asked
pub asks_on : (place : ℕ) (p : Point) → RestsAt (place + 1) p → AsksFrom place p
asks_on place p rests = record { from = place + 1; ready = rests; before = omega arith; none = λ j from below. absurd (omega (arith, from, below)) }

pub asks_again : {D : Type 0} (on : View D) (start : World D) (plan : Plan) (p : Point) (place : ℕ) (held : Option (List ℕ)) (cluster : Cluster D) → WentOn on start plan p (RestsAt (place + 1)) held cluster
    → WentOn on start plan p (AsksFrom place) held cluster
asks_again on start plan p place held cluster went =
    record { q = went.q; work = went.work; held_is = went.held_is; shows = went.shows; so_is = asks_on place went.q went.so_is }

pub none_of : {X : Type 0} (o : Option X) → ((x : X) → o ≡ Some x → ⊥) → o ≡ None
none_of None is = refl
none_of (Some x) is = absurd (is x refl)

-- all were asked
pub all_asked : {D : Type 0} (on : View D) (start : World D) (plan : Plan) (p : Point) (place : ℕ) (cluster : Cluster D) → IsAtPoint on start plan cluster p → AsksFrom place p
    → length cluster.sessions.talkers.items ≤ place → NothingIsUnderWay p
all_asked on start plan p place cluster shows asks all = (asks.from, asks.ready, λ j from waits. by j from waits (less_or_not j (place + 1)))
  where
    less_or_not : (i n : ℕ) → (i < n) ⊎ (n ≤ i)
    less_or_not i zero = inr (omega arith)
    less_or_not zero (suc n) = inl (omega arith)
    less_or_not (suc i) (suc n) = ⊎_elim (λ (l : i < n). inl (omega (arith, l))) (λ (g : n ≤ i). inr (omega (arith, g))) (less_or_not i n)

    length_is : length cluster.sessions.talkers.items ≡ length p.sessions
    length_is = converse_length cluster.sessions.talkers.items p.sessions shows.talks

    by : (j : ℕ) → asks.from ≤ j → Waits (session_at p.sessions j) → (j < place + 1) ⊎ (place + 1 ≤ j) → ⊥
    by j from waits (inl less) = asks.none j from less waits
    by zero from waits (inr more) = omega (arith, more)
    by (suc i) from waits (inr more) = none (slice_get p.sessions i) refl (subst Waits (at_place p.sessions (suc i) i (omega arith)) waits)
      where
        none : (o : Option Session) → slice_get p.sessions i ≡ o → Waits o → ⊥
        none None is w = w
        none (Some s) is w = let inside = within_get p.sessions i s is in omega (arith, inside, length_is, all, more)

-- the plan stays
pub answer_plan : {D : Type 0} (on : View D) (start : World D) (plan other : Plan) (p : Point) (place : ℕ) (answer : calls.Answer) (cluster : Cluster D) → plan ≡ other → CallHasAnswer on start plan p place answer cluster → CallHasAnswer on start other p place answer cluster
answer_plan on start plan other p place answer cluster is has = subst (λ (pl : Plan). CallHasAnswer on start pl p place answer cluster) is has

-- a call that was answered is less to do
pub answered_less : (old new : Sessions) (place : ℕ) (open_call : OpenCall) → slice_get old.calls.items place ≡ Some (Some open_call) → new.calls.items ≡ slice_set old.calls.items place None
    → left_at place new ≤ left_at place old → work_at place new < work_at place old
answered_less old new place open_call has kept left =
    let within : place < length old.calls.items = within_get old.calls.items place (Some open_call) has in
    let was : call_here (slice_get old.calls.items place) ≡ 1 = ap call_here has in
    let none : slice_get new.calls.items place ≡ Some None = ap (λ (l : List (Option OpenCall)). slice_get l place) kept ∙ set_here old.calls.items place None within in
    let is : call_here (slice_get new.calls.items place) ≡ 0 = ap call_here none in
    omega (arith, was, is, left)
