-- A call begins at its node, or the node fails in that.
use Rattle.std.proofs.Common.{◌≡◌, ◌≢◌, ◌⊎◌, ◌+◌, ◌++◌, ◌∷◌, ◌<◌, ℕ, nat_eq, Bool, true, false, List, [], length, Option, Some, refl, sym, ap, ◌∙◌, subst, inl, inr, ⊎_elim, arith}
use Rattle.std.proofs.lemmas.Bool.Decides.{nat_tests}
use Rattle.std.specs.Prelude.{slice_get, slice_set, filter, not, if◌then◌else◌}
use Rattle.std.proofs.lemmas.Grind.{flat_map-append}
use Rattle.io_edge.proofs.Known.{appends_none}
use Rattle.object_model.specs.Lists.{Among}
use Rattle.mail_model.specs.Plan.{Plan}
use Rattle.session_model.specs.Talk.{Standing, IsOn}
use Rattle.session_model.specs.Sessions.{Session, session_at}
use Rattle.session_model.specs.Acts.{Act}
use Rattle.session_model.specs.Acts.Act.{Does, Faults}
use Rattle.session_model.specs.Acts.Deed.{Hears}
use Rattle.session_model.specs.Events.{NodeLife, turned}
use Rattle.session_model.specs.Events.NodeLife.{Up, Down}
use Rattle.session_model.specs.Lives.{failed_by, failed_in}
use Rattle.session_model.specs.Logs.{Asked}
use Rattle.session_model.specs.Turns.{IsAtNode}
use Rattle.session_model.specs.Turns.Turn.{Beginning}
use Rattle.session_model.specs.Run.Stop.{OutOfMemory}
use Rattle.call_tickets.specs.declared.call.Call.{Call}
use Rattle.node_store.specs.Disks.{View}
use Rattle.cluster_world.specs.Outcomes.{Outcome, Awaited, awaited_elsewhere}
use Rattle.cluster_world.specs.Outcomes.Outcome.{Began, Refused, Fell, Broke}
use Rattle.cluster_world.specs.declared.world.World.{World}
use Rattle.drive_tape.specs.declared.cluster.Cluster.{Cluster}
use Rattle.drive_tape.specs.declared.open_call.OpenCall.{OpenCall}
use Rattle.drive_tape.specs.declared.drove.Stop.TheVariants as why
use Rattle.drive_tape.specs.Kinds.{IsKindOf}
use Rattle.drive_tape.specs.Talks.{HasOwnTicket, TicketFits, StandsOnNode, IsUpAt}
use Rattle.drive_tape.specs.Worlds.{WentTo, HasGone, AreSameLives, IsDownNow, HasFailed, IsWholeCall}
use Rattle.drive_tape.specs.Led.{Begins as BeginsSo, CameToNothing}
use Rattle.drive_tape.specs.Points.{Point, Work, IsAtOwnNode, Stopped, WentOn}
use Rattle.drive_tape.specs.Clusters.{RestsAt, IsBeginning, FaultsAt}
use Rattle.drive_tape.proofs.Talks.{asks_waits, count_same, set_here, within_get, did_node}
use Rattle.drive_tape.proofs.WholeTexts.{whole_asked}
use Rattle.drive_tape.proofs.Works.{work_act}
use Rattle.drive_tape.proofs.OwnNodes.{own_node}
use Rattle.drive_tape.proofs.Clusters.{since_gone}
use Rattle.drive_tape.proofs.Stepping.{life_more}
use Rattle.drive_tape.proofs.Places.{same_or_not, get_apart, set_at, each_set, nodes_set, does_plain, up_on, lives_on, causes_on}
use Rattle.drive_tape.proofs.Led.{to_nothing}
use Rattle.drive_tape.proofs.Moves.{asks_acted, asks_next, asks_one}

pub among_more : {X : Type 0} (x : X) (xs ys : List X) → Among x xs → Among x (xs ++ ys)
among_more x [] ys among = absurd among
among_more x (y ∷ xs) ys among = ⊎_elim (λ (same : y ≡ x). inl same) (λ (rest : Among x xs). inr (among_more x xs ys rest)) among

pub among_last : {X : Type 0} (x : X) (xs : List X) → Among x (xs ++ x ∷ [])
among_last x [] = inl refl
among_last x (y ∷ xs) = inr (among_last x xs)

pub among_split : {X : Type 0} (x : X) (xs ys : List X) → Among x (xs ++ ys) → Among x xs ⊎ Among x ys
among_split x [] ys among = inr among
among_split x (y ∷ xs) ys among = ⊎_elim (λ (same : y ≡ x). inl (inl same)) (λ (rest : Among x (xs ++ ys)). ⊎_elim (λ (l : Among x xs). inl (inr l)) (λ (r : Among x ys). inr r) (among_split x xs ys rest)) among

pub among_filter : {X : Type 0} (test : X → Bool) (x : X) (xs : List X) → test x ≡ true → Among x xs → Among x (filter test xs)
among_filter test x [] is among = absurd among
among_filter {X} test x (y ∷ xs) is among = by (λ (rest : Among x xs). among_filter test x xs is rest) (test y) refl
  where
    by : (Among x xs → Among x (filter test xs)) → (b : Bool) → test y ≡ b → Among x (if b then y ∷ filter test xs else filter test xs)
    by more true so = ⊎_elim (λ (same : y ≡ x). inl same) (λ (rest : Among x xs). inr (more rest)) among
    by more false so = ⊎_elim (λ (same : y ≡ x). absurd (let never : true ≡ false = sym is ∙ ap test (sym same) ∙ so in cc)) more among

-- a ticket that is awaited stays so as another is
pub ticket_more : (kept : Option (Option OpenCall)) (s : Session) (k : ℕ) (awaited more : List Awaited) (standing : Standing) → TicketFits kept s k awaited standing → TicketFits kept s k (awaited ++ more) standing
ticket_more kept s k awaited more (Standing.Waiting state call) t =
    record { open_call = t.open_call; has = t.has; own = t.own; kind = t.kind; stands = among_more _ awaited more t.stands; before = t.before; last = t.last; heard = t.heard }
ticket_more kept s k awaited more (Standing.Hearing state) t = t
ticket_more kept s k awaited more Standing.EndedByQuit t = t
ticket_more kept s k awaited more Standing.EndedDown t = t
ticket_more kept s k awaited more Standing.EndedClosed t = t

pub not_at : (a b : ℕ) → a ≢ b → not (nat_eq a b) ≡ true
not_at a b other = by (nat_eq a b) refl
  where
    by : (x : Bool) → nat_eq a b ≡ x → not x ≡ true
    by false is = refl
    by true is = absurd (other (grind (arith, nat_tests, is)))

-- and as another node goes down
pub ticket_apart : (kept : Option (Option OpenCall)) (s : Session) (k node : ℕ) (awaited : List Awaited) (standing : Standing) → s.node ≢ node → TicketFits kept s k awaited standing → TicketFits kept s k (awaited_elsewhere node awaited) standing
ticket_apart kept s k node awaited (Standing.Waiting state call) other t =
    record {
      open_call = t.open_call;
      has = t.has;
      own = t.own;
      kind = t.kind;
      stands = among_filter _ _ awaited (not_at t.open_call.ticket.node node (λ same. other (sym t.own ∙ same))) t.stands;
      before = t.before;
      last = t.last;
      heard = t.heard;
    }
ticket_apart kept s k node awaited (Standing.Hearing state) other t = t
ticket_apart kept s k node awaited Standing.EndedByQuit other t = t
ticket_apart kept s k node awaited Standing.EndedDown other t = t
ticket_apart kept s k node awaited Standing.EndedClosed other t = t

module _ {D : Type 0} (on : View D) (start : World D) (plan : Plan) (p : Point) (place onward : ℕ) (call : Call) (old : Cluster D) (b : IsBeginning on start plan p place onward call old) where
  abbrev act : Act
  act = Does (place + 1) (Hears b.one)

  -- the point after the beginning of the call
  abbrev pub begun_point : Outcome → List Awaited → Point
  begun_point outcome awaited =
      record p { turn = Beginning (place + 1) onward; sessions = slice_set p.sessions place b.after; been = p.been ++ Does (place + 1) (Hears b.one) ∷ []; outcomes = p.outcomes ++ outcome ∷ []; awaited = awaited }

  pub begun_work : (outcome : Outcome) (awaited : List Awaited) → BeginsSo (place + 1) (Some b.asked) (outcome ∷ []) → IsAtOwnNode (slice_set p.sessions place b.after) outcome
      → Work plan p (begun_point outcome awaited)
  begun_work outcome awaited so own =
      work_act plan p (begun_point outcome awaited) (Does (place + 1) (Hears b.one)) [] (outcome ∷ [])
      (asks_one plan p place onward b.plain b.after b.one b.turn b.here b.did b.asked outcome b.asks so own) refl refl (appends_none p.held)

  -- the text of a message that it asks to be stored is whole
  pub asks_whole : IsWholeCall b.asked
  asks_whole = whole_asked plan b.plain b.one b.one.reply b.after b.asked b.did b.asks

  same_node : b.after.node ≡ b.plain.node
  same_node = did_node plan b.plain (Hears b.one) b.one.reply b.after b.did

  pub at_own : IsAtNode b.plain.node (session_at (slice_set p.sessions place b.after) (place + 1))
  at_own = own_node (slice_set p.sessions place b.after) place b.plain.node b.after (set_here p.sessions place b.after (within_get p.sessions place b.plain b.here)) same_node

  was_on : IsOn b.plain.standing
  was_on = rw b.did.2 tt

  stands_after : StandsOnNode plan p.been b.after
  stands_after stands = subst (λ (n : ℕ). IsUpAt plan p.been n) (sym same_node) (b.up place b.plain b.here was_on)

  -- it waits
  pub begins : (given : OpenCall) (new : Cluster D) (held : Option (List ℕ)) → p.held ≡ held → place < length old.sessions.calls.items → given.ticket.node ≡ b.plain.node → IsKindOf given.kind b.asked → AreSameLives old.world new.world
      → WentTo on start old.world (p.outcomes ++ Began (place + 1) b.plain.node b.asked given.ticket ∷ []) (p.awaited ++ record { ticket = given.ticket; session = place + 1; call = b.asked } ∷ []) new.world
      → new.sessions.talkers ≡ old.sessions.talkers → new.sessions.nodes ≡ old.sessions.nodes → new.sessions.calls.items ≡ slice_set old.sessions.calls.items place (Some given) → new.sessions.standing ≡ old.sessions.standing
      → WentOn on start plan p (RestsAt onward) held new
  begins given new held same_held within own kind lives went talkers nodes kept count =
      let waits = asks_waits plan b.plain b.one b.one.reply b.after b.asked b.did b.asks in
      let more = p.awaited ++ record { ticket = given.ticket; session = place + 1; call = b.asked } ∷ [] in
      let one = does_plain (place + 1) (Hears b.one) in
      record {
        q = begun_point (Began (place + 1) b.plain.node b.asked given.ticket) more;
        work = begun_work (Began (place + 1) b.plain.node b.asked given.ticket) more (b.plain.node, inl (given.ticket, refl)) at_own;
        held_is = same_held;
        shows = record {
          at = went.at;
          talks = rw talkers b.talks;
          nodes = ap (λ l. l.items) nodes ∙ b.nodes ∙ sym (nodes_set p.sessions place b.plain b.after b.here same_node);
          tickets = each_set (HasOwnTicket new.sessions.calls.items more) p.sessions place b.after
              (λ i s here other. subst (λ (o : Option (Option OpenCall)). TicketFits o s (i + 1) more s.standing) (sym (ap (λ (l : List (Option OpenCall)). slice_get l i) kept ∙ get_apart old.sessions.calls.items place i (Some given) other))
              (ticket_more _ s (i + 1) p.awaited _ s.standing (b.tickets i s here)))
              (subst (λ (st : Standing). TicketFits (slice_get new.sessions.calls.items place) b.after (place + 1) more st) (sym waits.1) (record {
                open_call = given;
                has = ap (λ (l : List (Option OpenCall)). slice_get l place) kept ∙ set_here old.sessions.calls.items place (Some given) within;
                own = own ∙ sym same_node;
                kind = kind;
                stands = among_last _ p.awaited;
                before = b.plain.whole;
                last = b.one;
                heard = ap (λ (s : Session). s.whole) b.did.5;
              }));
          count = count ∙ b.count ∙ sym (count_same p.sessions place b.plain b.after b.here was_on (subst IsOn (sym waits.1) tt));
          lives = lives_on plan p.been act old.world new.world one lives b.lives;
          up = each_set (λ i s. StandsOnNode plan (p.been ++ act ∷ []) s) p.sessions place b.after (λ i s here other. up_on plan p.been act s one (b.up i s here)) (up_on plan p.been act b.after one stands_after);
          causes = causes_on on start new.world p.been act one (went.causes (failed_in p.been) b.causes);
        };
        so_is = refl;
      }

  -- the node failed
  pub falls : (new : Cluster D) → IsDownNow b.plain.node old.world new.world → HasFailed on start new.world b.plain.node
      → WentTo on start old.world (p.outcomes ++ Fell (place + 1) b.plain.node b.asked ∷ []) (awaited_elsewhere b.plain.node p.awaited) new.world → new.sessions ≡ old.sessions
      → FaultsAt on start plan (begun_point (Fell (place + 1) b.plain.node b.asked) (awaited_elsewhere b.plain.node p.awaited)) place onward b.plain.node new
  falls new down failed went same =
      let waits = asks_waits plan b.plain b.one b.one.reply b.after b.asked b.did b.asks in
      let one = does_plain (place + 1) (Hears b.one) in
      let before = went.causes (failed_in p.been) b.causes in
      let causes = causes_on on start new.world p.been act one before in
      record {
        turn = refl;
        plain = b.after;
        here = set_here p.sessions place b.after (within_get p.sessions place b.plain b.here);
        own = same_node;
        fell = (p.outcomes, place + 1, b.asked, refl);
        fallen = record {
          at = went.at;
          talks = rw same b.talks;
          nodes = rw same (b.nodes ∙ sym (nodes_set p.sessions place b.plain b.after b.here same_node));
          tickets = λ i s is unless. apart_ticket i s is (λ own. absurd (let never : i < 0 = unless own in omega (arith, never)));
          count = rw same (b.count ∙ sym (count_same p.sessions place b.plain b.after b.here was_on (subst IsOn (sym waits.1) tt)));
          lives = λ n there. down n ∙ ap (turned b.plain.node Down n) (b.lives n there ∙ sym (life_more p.been act n (Up 1))) ∙ sym (life_more (p.been ++ act ∷ []) (Faults b.plain.node) n (Up 1));
          up = λ i s is unless. apart_up i s is (λ own. absurd (let never : i < 0 = unless own in omega (arith, never)));
          causes = λ n among. ⊎_elim (λ (was : Among n (failed_in (p.been ++ act ∷ []))). causes n was) (λ (now : Among n (b.plain.node ∷ [])). ⊎_elim (λ (is : b.plain.node ≡ n). subst (HasFailed on start new.world) is failed) (λ none. absurd none) now)
              (among_split n (failed_in (p.been ++ act ∷ [])) (b.plain.node ∷ []) (subst (Among n) (flat_map-append failed_by (p.been ++ act ∷ []) (Faults b.plain.node ∷ [])) among));
        };
        causes = causes;
      }
    where
      apart : (i : ℕ) (s : Session) → slice_get (slice_set p.sessions place b.after) i ≡ Some s → s.node ≢ b.plain.node → slice_get p.sessions i ≡ Some s
      apart i s is other = ⊎_elim
          (λ (at : i ≡ place). absurd (other (ap (λ (x : Session). x.node) (sym (set_at p.sessions place b.after s (subst (λ (j : ℕ). slice_get (slice_set p.sessions place b.after) j ≡ Some s) at is))) ∙ same_node)))
          (λ (away : i ≢ place). sym (get_apart p.sessions place i b.after away) ∙ is) (same_or_not i place)

      apart_ticket : (i : ℕ) (s : Session) → slice_get (slice_set p.sessions place b.after) i ≡ Some s → s.node ≢ b.plain.node → HasOwnTicket new.sessions.calls.items (awaited_elsewhere b.plain.node p.awaited) i s
      apart_ticket i s is other = rw same (ticket_apart _ s (i + 1) b.plain.node p.awaited s.standing other (b.tickets i s (apart i s is other)))

      other_life : (n : ℕ) (life : NodeLife) → n ≢ b.plain.node → turned b.plain.node Down n life ≡ life
      other_life n life other = by (nat_eq b.plain.node n) refl
        where
          by : (x : Bool) → nat_eq b.plain.node n ≡ x → (if x then Down else life) ≡ life
          by false is = refl
          by true is = absurd (other (grind (arith, nat_tests, is)))

      apart_up : (i : ℕ) (s : Session) → slice_get (slice_set p.sessions place b.after) i ≡ Some s → s.node ≢ b.plain.node → StandsOnNode plan ((p.been ++ act ∷ []) ++ Faults b.plain.node ∷ []) s
      apart_up i s is other stands =
          let up = up_on plan p.been act s (does_plain (place + 1) (Hears b.one)) (b.up i s (apart i s is other)) stands in
          record { there = up.there; boot = up.boot; up = life_more (p.been ++ act ∷ []) (Faults b.plain.node) s.node (Up 1) ∙ other_life s.node _ other ∙ up.up }

  -- memory ran out
  stops_with : (outcome : Outcome) (lacking : List Asked) (last : World D) → CameToNothing (place + 1) b.asked outcome lacking → IsAtOwnNode (slice_set p.sessions place b.after) outcome
      → (lacking ≡ []) ⊎ ((one : Asked) × (lacking ≡ one ∷ [])) → HasGone on start old.world (p.outcomes ++ outcome ∷ []) last → Stopped on start plan p why.NoMemory p.held last
  stops_with outcome lacking last nothing own few gone = record {
    stop = OutOfMemory;
    is = refl;
    outcomes = p.outcomes ++ outcome ∷ [];
    cut = record {
      acts = Does (place + 1) (Hears b.one) ∷ [];
      outputs = [] ∷ [];
      turn = Beginning (place + 1) onward;
      sessions = slice_set p.sessions place b.after;
      goes = (
        Beginning (place + 1) onward,
        slice_set p.sessions place b.after,
        asks_next plan p place onward b.plain b.after b.one b.turn b.here b.did b.asked b.asks,
        asks_acted plan p place onward b.plain b.after b.one b.turn b.here b.did b.asked b.asks,
        (refl, refl),
      );
      new = outcome ∷ [];
      lacking = lacking;
      extra = [];
      linked = to_nothing plan p.been p.outcomes (place + 1) b.one b.asked outcome lacking b.asks nothing;
      at_nodes = (own, tt);
      came = refl;
      asked = inl refl;
      front = [];
      missing = [];
      parts = refl;
      tail = inl refl;
      may = few;
      cut = [];
      is_cut = inl refl;
      gave = appends_none p.held;
    };
    lives = λ not. absurd (not refl);
    causes = causes_on on start last p.been act (does_plain (place + 1) (Hears b.one)) (gone.1.causes (failed_in p.been) b.causes);
    since = since_gone on start old.world _ last gone;
  }

  pub stops_beginning : (last : World D) → HasGone on start old.world (p.outcomes ++ Refused (place + 1) b.plain.node b.asked ∷ []) last ⊎ HasGone on start old.world (p.outcomes ++ Broke (place + 1) b.plain.node b.asked ∷ []) last
      → Stopped on start plan p why.NoMemory p.held last
  stops_beginning last (inl gone) =
      stops_with (Refused (place + 1) b.plain.node b.asked) (record { session = place + 1; call = b.asked } ∷ []) last (refl, refl, refl) at_own (inr (record { session = place + 1; call = b.asked }, refl)) gone
  stops_beginning last (inr gone) = stops_with (Broke (place + 1) b.plain.node b.asked) [] last (refl, refl, refl) at_own (inl refl) gone
