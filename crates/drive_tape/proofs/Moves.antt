-- The next move of a session, and the beginning of its call.
use Rattle.std.proofs.Common.{◌≡◌, ◌+◌, ◌-◌, ◌++◌, ◌∷◌, ℕ, List, [], Option, Some, None, refl, sym, ap, ◌∙◌, subst}
use Rattle.std.specs.Prelude.{slice_get, slice_set, if◌then◌else◌}
use Rattle.std.proofs.lemmas.List.{append-nil}
use Rattle.mail_model.specs.Plan.{Plan}
use Rattle.mail_model.specs.Transcript.{Entry, said_lines}
use Rattle.mail_model.specs.Site.{closed_event}
use Rattle.session_model.specs.Calls as calls
use Rattle.session_model.specs.Talk.{Exchange, Standing, IsIdle, IsOn, leave_of}
use Rattle.session_model.specs.Sessions.{Session, session_at, exchanges_of}
use Rattle.session_model.specs.Acts.{Acted, Did, closing}
use Rattle.session_model.specs.Acts.Act.{Does}
use Rattle.session_model.specs.Acts.Deed.{Hears}
use Rattle.session_model.specs.Turns.{Turn, IsReadyToAsk, IsAtRest, Next, to_leave, turn_after_unit}
use Rattle.session_model.specs.Turns.Turn.{Hearing, Beginning}
use Rattle.session_model.specs.Run.{count_on}
use Rattle.call_tickets.specs.declared.call.Call.{Call}
use Rattle.call_tickets.specs.Seen.{call_seen}
use Rattle.call_tickets.specs.Moves.{IsWaiting, HearsNothing}
use Rattle.node_store.specs.Disks.{View}
use Rattle.cluster_world.specs.Outcomes.{Outcome}
use Rattle.cluster_world.specs.declared.world.World.{World}
use Rattle.drive_tape.specs.declared.cluster.Cluster.{Cluster}
use Rattle.drive_tape.specs.declared.sessions.After.{After}
use Rattle.drive_tape.specs.declared.sessions.After.TheVariants.{Stays, Ends}
use Rattle.drive_tape.specs.Moving.{has_ended, HeardAt, StaysAt, GoesOn}
use Rattle.drive_tape.specs.Talks.{HasOwnTicket, StandsOnNode, IsUpAt}
use Rattle.drive_tape.specs.Led.{Begins}
use Rattle.drive_tape.specs.Points.{Point, OneAct, IsAtOwnNode, IsAtPoint, WentOn}
use Rattle.drive_tape.specs.Clusters.{SessionHears, RestsAt, IsAfter, IsSaying, IsBeginning}
use Rattle.drive_tape.proofs.Talks.{at_place, asks_waits, asks_silent, says_on, says_ended, count_same, count_less, set_here, within_get, did_node}
use Rattle.drive_tape.proofs.Works.{work_none}
use Rattle.drive_tape.proofs.Acting.{acted_does}
use Rattle.drive_tape.proofs.Places.{NotWaiting, each_set, nodes_set, ticket_none, does_plain, up_on, lives_on, same_lives, causes_on}
use Rattle.drive_tape.proofs.Falling.{own_none}

-- one that hears does not wait
pub hears_quiet : (plan : Plan) (plain : Session) (one : Exchange) (said : List (List ℕ)) (after : Session) → Did plan plain (Hears one) said after → NotWaiting plain.standing
hears_quiet plan plain one said after did state call waits = absurd (let never : Standing.Hearing did.0 ≡ Standing.Waiting state call = sym did.2 ∙ waits in cc)

module _ (plan : Plan) (p : Point) (place onward : ℕ) (plain after : Session) (one : Exchange) (turn : p.turn ≡ Hearing (place + 1) onward)
    (here : slice_get p.sessions place ≡ Some plain) (did : Did plan plain (Hears one) one.reply after) where
  hears_next : (next : Turn) → next ≡ turn_after_unit (place + 1) onward one.call → Next p.turn p.sessions (Does (place + 1) (Hears one)) next
  hears_next next is = subst (λ (t : Turn). Next t p.sessions (Does (place + 1) (Hears one)) next) (sym turn) (refl, is)

  -- a unit is heard, and replied to
  pub hears_one : one.call ≡ None → OneAct plan p (Does (place + 1) (Hears one)) (said_lines (place + 1) one.reply ++ closing (place + 1) (Hears one) after.standing) []
      (Hearing (place + 1) onward) (slice_set p.sessions place after)
  hears_one none = record {
    next = hears_next (Hearing (place + 1) onward) (ap (turn_after_unit (place + 1) onward) (sym none));
    acted = acted_does plan p.sessions place plain after (Hears one) one.reply here did;
    linked = subst (λ (c : Option calls.Call). Begins (place + 1) c []) (sym none) refl;
    at_nodes = tt;
  }

  -- it asks a call, and nothing is said
  pub asks_acted : (asked : calls.Call) → one.call ≡ Some asked → Acted plan p.sessions (Does (place + 1) (Hears one)) [] (slice_set p.sessions place after)
  asks_acted asked is =
      let waits = asks_waits plan plain one one.reply after asked did is in
      let none : said_lines (place + 1) one.reply ++ closing (place + 1) (Hears one) after.standing ≡ [] =
      ap (λ (l : List (List ℕ)). said_lines (place + 1) l ++ closing (place + 1) (Hears one) after.standing) (asks_silent plan plain one one.reply after asked did is)
      ∙ ap (closing (place + 1) (Hears one)) waits.1 in
      subst (λ (es : List Entry). Acted plan p.sessions (Does (place + 1) (Hears one)) es (slice_set p.sessions place after)) none
      (acted_does plan p.sessions place plain after (Hears one) one.reply here did)

  pub asks_next : (asked : calls.Call) → one.call ≡ Some asked → Next p.turn p.sessions (Does (place + 1) (Hears one)) (Beginning (place + 1) onward)
  asks_next asked is = hears_next (Beginning (place + 1) onward) (ap (turn_after_unit (place + 1) onward) (sym is))

  pub asks_one : (asked : calls.Call) (outcome : Outcome) → one.call ≡ Some asked → Begins (place + 1) (Some asked) (outcome ∷ []) → IsAtOwnNode (slice_set p.sessions place after) outcome
      → OneAct plan p (Does (place + 1) (Hears one)) [] (outcome ∷ []) (Beginning (place + 1) onward) (slice_set p.sessions place after)
  asks_one asked outcome is begins own = record {
    next = asks_next asked is;
    acted = asks_acted asked is;
    linked = subst (λ (c : Option calls.Call). Begins (place + 1) c (outcome ∷ [])) (sym is) begins;
    at_nodes = (own, tt);
  }

-- one that has nothing to do
pub nothing_idle : (s : Standing) (rest : List ℕ) → HearsNothing s rest → IsIdle s rest
nothing_idle (Standing.Hearing state) rest is = is
nothing_idle (Standing.Waiting state call) rest is = absurd is
nothing_idle Standing.EndedByQuit rest is = absurd is
nothing_idle Standing.EndedDown rest is = absurd is
nothing_idle Standing.EndedClosed rest is = absurd is

pub nothing_stays : (s : Standing) (rest : List ℕ) (exchanges : List Exchange) → HearsNothing s rest → leave_of exchanges s ≡ None
nothing_stays (Standing.Hearing state) rest exchanges is = refl
nothing_stays (Standing.Waiting state call) rest exchanges is = absurd is
nothing_stays Standing.EndedByQuit rest exchanges is = absurd is
nothing_stays Standing.EndedDown rest exchanges is = absurd is
nothing_stays Standing.EndedClosed rest exchanges is = absurd is

-- nor has one that waits
pub waits_idle : (s : Standing) (rest : List ℕ) → IsWaiting s → IsIdle s rest
waits_idle (Standing.Waiting state call) rest is = tt
waits_idle (Standing.Hearing state) rest is = absurd is
waits_idle Standing.EndedByQuit rest is = absurd is
waits_idle Standing.EndedDown rest is = absurd is
waits_idle Standing.EndedClosed rest is = absurd is

pub waits_stays : (s : Standing) (exchanges : List Exchange) → IsWaiting s → leave_of exchanges s ≡ None
waits_stays (Standing.Waiting state call) exchanges is = refl
waits_stays (Standing.Hearing state) exchanges is = absurd is
waits_stays Standing.EndedByQuit exchanges is = absurd is
waits_stays Standing.EndedDown exchanges is = absurd is
waits_stays Standing.EndedClosed exchanges is = absurd is

-- the entries of a reply
pub closed_or_not : (after : After) (k : ℕ) (one : Exchange) (plain : Session) → IsAfter after plain → closing k (Hears one) plain.standing ≡ (if has_ended after then closed_event k ∷ [] else [])
closed_or_not Stays k one plain on = by_standing plain.standing on
  where
    by_standing : (s : Standing) → IsOn s → closing k (Hears one) s ≡ []
    by_standing (Standing.Hearing state) is = refl
    by_standing (Standing.Waiting state call) is = refl
    by_standing Standing.EndedByQuit is = absurd is
    by_standing Standing.EndedDown is = absurd is
    by_standing Standing.EndedClosed is = absurd is
closed_or_not (Ends leave) k one plain is = ap (closing k (Hears one)) is.0

pub is_after_hears : (plan : Plan) (old : Session) (one : Exchange) (after : After) (new : Session) (standing now : ℕ) → Did plan old (Hears one) one.reply new → one.call ≡ None → GoesOn after new standing now → IsAfter after new
is_after_hears plan old one Stays new standing now did none goes = goes.0
is_after_hears plan old one (Ends leave) new standing now did none goes = (says_ended plan old one one.reply new did none goes.0, goes.1)

pub counts_after : (sessions : List Session) (place : ℕ) (plain new : Session) (after : After) (standing now : ℕ) → slice_get sessions place ≡ Some plain → IsOn plain.standing → standing ≡ count_on sessions → GoesOn after new standing now
    → now ≡ count_on (slice_set sessions place new)
counts_after sessions place plain new Stays standing now here on count goes = goes.1 ∙ count ∙ sym (count_same sessions place plain new here on goes.0)
counts_after sessions place plain new (Ends leave) standing now here on count goes = goes.2 ∙ ap (λ (n : ℕ). n - 1) count ∙ sym (count_less sessions place plain new here on goes.0)

module _ {D : Type 0} (on : View D) (start : World D) (plan : Plan) (p : Point) (place onward : ℕ) (old new : Cluster D)
    (shows : IsAtPoint on start plan old p) (hears : SessionHears place onward p) (world : new.world ≡ old.world) (nodes : new.sessions.nodes ≡ old.sessions.nodes) (kept : new.sessions.calls ≡ old.sessions.calls) where
  abbrev pub heard_point : Exchange → Session → Point
  heard_point one after = record p { turn = Hearing (place + 1) onward; sessions = slice_set p.sessions place after; been = p.been ++ Does (place + 1) (Hears one) ∷ [] }

  -- it said something
  pub saying : (after : After) (out : List ℕ) → (h : HeardAt plan p.sessions place hears.plain None after out old.sessions.standing new.sessions)
      → IsSaying on start plan p (heard_point h.one h.after) place onward after out new
  saying after out h =
      let is = is_after_hears plan hears.plain h.one after h.after _ _ h.did h.asks h.goes_on in
      let act = Does (place + 1) (Hears h.one) in
      let one = does_plain (place + 1) (Hears h.one) in
      let none_old = ticket_none _ hears.plain (place + 1) p.awaited hears.plain.standing (hears_quiet plan hears.plain h.one h.one.reply h.after h.did) (shows.tickets place hears.plain hears.here) in
      let same_node = did_node plan hears.plain (Hears h.one) h.one.reply h.after h.did in
      record {
        act = act;
        said = h.one.reply;
        outcomes = [];
        one = subst (λ (es : List Entry). OneAct plan p (Does (place + 1) (Hears h.one)) es [] (Hearing (place + 1) onward) (slice_set p.sessions place h.after))
            (ap (λ (es : List Entry). said_lines (place + 1) h.one.reply ++ es) (closed_or_not after (place + 1) h.one h.after is))
            (hears_one plan p place onward hears.plain h.after h.one hears.turn hears.here h.did h.asks);
        came = sym (append-nil p.outcomes);
        been = refl;
        held = refl;
        says = h.says;
        lines = h.lines;
        shows = record {
          at = rw world shows.at;
          talks = h.talks;
          nodes = ap (λ l. l.items) nodes ∙ shows.nodes ∙ sym (nodes_set p.sessions place hears.plain h.after hears.here same_node);
          tickets = each_set (HasOwnTicket new.sessions.calls.items p.awaited) p.sessions place h.after (λ i s here other. rw kept (shows.tickets i s here))
              (own_none new.sessions.calls.items p.awaited place h.after (says_on plan hears.plain h.one h.one.reply h.after h.did h.asks) (rw kept none_old));
          count = counts_after p.sessions place hears.plain h.after after old.sessions.standing new.sessions.standing hears.here hears.on shows.count h.goes_on;
          lives = lives_on plan p.been act new.world new.world one (same_lives new.world) (rw world shows.lives);
          up = each_set (λ i s. StandsOnNode plan (p.been ++ act ∷ []) s) p.sessions place h.after (λ i s here other. up_on plan p.been act s one (shows.up i s here))
              (up_on plan p.been act h.after one (λ stands. subst (λ (n : ℕ). IsUpAt plan p.been n) (sym same_node) (shows.up place hears.plain hears.here hears.on)));
          causes = causes_on on start new.world p.been act one (rw world shows.causes);
        };
        turn = refl;
        plain = h.after;
        here = set_here p.sessions place h.after (within_get p.sessions place hears.plain hears.here);
        is_after = is;
      }

  -- it asks a call
  pub beginning : (call : Call) (asked : calls.Call) (out : List ℕ) → call_seen call ≡ Some asked → HeardAt plan p.sessions place hears.plain (Some asked) Stays out old.sessions.standing new.sessions
      → IsBeginning on start plan p place onward call new
  beginning call asked out is h = record {
    plain = hears.plain;
    one = h.one;
    after = h.after;
    here = hears.here;
    did = h.did;
    asked = asked;
    call_is = is;
    asks = h.asks;
    turn = hears.turn;
    at = rw world shows.at;
    talks = h.talks;
    nodes = ap (λ l. l.items) nodes ∙ shows.nodes;
    tickets = λ i s here. rw kept (shows.tickets i s here);
    count = h.goes_on.1 ∙ shows.count;
    lives = rw world shows.lives;
    up = shows.up;
    causes = rw world shows.causes;
  }

  -- it has nothing to do
  pub rests : (out : List ℕ) → IsIdle hears.plain.standing hears.plain.rest → leave_of (exchanges_of hears.plain) hears.plain.standing ≡ None → StaysAt p.sessions out old.sessions.standing new.sessions
      → WentOn on start plan p (RestsAt onward) p.held new
  rests out idle stays same = record {
    q = p;
    work = work_none plan p;
    held_is = refl;
    shows = record {
      at = rw world shows.at;
      talks = same.talks;
      nodes = ap (λ l. l.items) nodes ∙ shows.nodes;
      tickets = λ i s here. rw kept (shows.tickets i s here);
      count = same.count ∙ shows.count;
      lives = rw world shows.lives;
      up = shows.up;
      causes = rw world shows.causes;
    };
    so_is = subst (λ (t : Turn). IsReadyToAsk t p.sessions onward) (sym hears.turn) (refl, subst IsAtRest (sym at_k) idle, ap to_leave at_k ∙ stays);
  }
    where
      at_k : session_at p.sessions (place + 1) ≡ Some hears.plain
      at_k = at_place p.sessions (place + 1) place refl ∙ hears.here
