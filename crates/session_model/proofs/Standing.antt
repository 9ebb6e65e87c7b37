-- Each session that has not ended is at a node that is up: as a node goes down, all its sessions fall.
use Rattle.std.proofs.Common.{◌≡◌, ◌≢◌, ◌⊎◌, inl, inr, ⊎_elim, ◌+◌, ◌<◌, ◌≤◌, ℕ, zero, suc, Bool, true, false, List, [], ◌∷◌, ◌++◌, length, flat_map, Some, refl, sym, ap, ◌∙◌, subst, arith, append_assoc, append-nil, nat_eq, if◌then◌else◌}
use Rattle.std.proofs.lemmas.Option.{none-some}
use Rattle.std.proofs.lemmas.Bool.{cases_eq, cases_lt, eqb-true}
use Rattle.std.proofs.lemmas.List.Concat.{flat_map-append}
use Rattle.mail_model.specs.Plan.{Plan}
use Rattle.mail_model.specs.Tape.{Order}
use Rattle.mail_model.specs.Tape.Order.{Open, Say, Feed, Close, GiveUp, Moves, End}
use Rattle.mail_model.specs.Lines.{sent_line}
use Rattle.mail_model.specs.Transcript.{Entry}
use Rattle.mail_model.proofs.Sessions.{by_number}
use Rattle.session_model.specs.Events.{ClusterEvent, NodeLife, IsUp, turned, life_by_event}
use Rattle.session_model.specs.Events.ClusterEvent.{WentDown, CameUp, WasLost, WasHeard, WasThrown, WasDropped, HasFlowed, HasSent, HasWidened, HasGrouped, HasFormed, HasSettled, WasAbsent, HasMapped, HasTicked, HasSummed, HasFaulted}
use Rattle.session_model.specs.Events.NodeLife.{Up, Down, Lost}
use Rattle.session_model.specs.Talk.{IsOn}
use Rattle.session_model.specs.Sessions.{Session, session_at}
use Rattle.session_model.specs.Acts.{Act, Deed, Acted, Did, replace, opened_session, greeting_of}
use Rattle.session_model.specs.Acts.Act.{Opens, Does, Faults, StillWaits, Leaves, Makes, Abandons}
use Rattle.session_model.specs.Acts.Deed.{IsFed, Hears, IsAnswered, IsGivenUp, Falls, Closes}
use Rattle.session_model.specs.Lives.{life_by, life_from, life_after}
use Rattle.session_model.specs.Clocks.{seconds_after}
use Rattle.session_model.specs.Turns.{Turn, Next, ActsGo, Starts, IsReadyToAsk, IsFirst, StandsAt, turn_after_event}
use Rattle.session_model.specs.Turns.Turn.{Hearing, Beginning, Closing, Falling, Asking}
use Rattle.session_model.specs.Run.{Stop, Made, IsCutShort, IsHandled, AreHandled, IsLeftOff}
use Rattle.session_model.specs.Runs.{StandingAreUp}
use Rattle.session_model.proofs.Did.{did_kind}
use Rattle.session_model.proofs.Acts.{replaced, replaced_other, pushed, pushed_other}
use Rattle.session_model.proofs.Losses.{life_both}
use Rattle.session_model.proofs.Resting.{none_cut}

-- the session is one of those that still fall
abbrev IsToFall : Turn → ℕ → Session → Type 0
IsToFall (Hearing k onward) j session = ⊥
IsToFall (Beginning k onward) j session = ⊥
IsToFall (Closing k onward) j session = ⊥
IsToFall (Falling k node onward) j session = (session.node ≡ node) × (k ≤ j)
IsToFall (Asking k) j session = ⊥

-- each session that has not ended is at a node that is up, or is to fall
abbrev StandUp : (ℕ → NodeLife) → Turn → List Session → Type 0
StandUp lives turn sessions = (j : ℕ) (session : Session) → session_at sessions j ≡ Some session → IsOn session.standing → IsUp (lives session.node) ⊎ IsToFall turn j session

-- none is to fall
abbrev AllUp : (ℕ → NodeLife) → List Session → Type 0
AllUp lives sessions = (j : ℕ) (session : Session) → session_at sessions j ≡ Some session → IsOn session.standing → IsUp (lives session.node)

-- sessions are numbered from 1
from_one : (sessions : List Session) (j : ℕ) (session : Session) → session_at sessions j ≡ Some session → 1 ≤ j
from_one sessions zero session at = absurd (none-some session at)
from_one sessions (suc n) session at = omega arith

-- once what was under way is done, nobody is to fall
ready_up : (lives : ℕ → NodeLife) (turn : Turn) (sessions : List Session) (from : ℕ) → IsReadyToAsk turn sessions from → StandUp lives turn sessions → AllUp lives sessions
ready_up lives (Hearing k onward) sessions from ready stand j session at on = ⊎_elim (λ up. up) (λ none. absurd none) (stand j session at on)
ready_up lives (Beginning k onward) sessions from ready stand j session at on = ⊎_elim (λ up. up) (λ none. absurd none) (stand j session at on)
ready_up lives (Closing k onward) sessions from ready stand j session at on = absurd ready
ready_up lives (Falling k node onward) sessions from ready stand j session at on = ⊎_elim (λ up. up)
    (λ falls. absurd (ready.1 j falls.1 (subst (StandsAt node) (sym at) (falls.0, on)))) (stand j session at on)
ready_up lives (Asking k) sessions from ready stand j session at on = ⊎_elim (λ up. up) (λ none. absurd none) (stand j session at on)

-- a node went down, and its sessions are to fall
down_stands : (lives : ℕ → NodeLife) (now : NodeLife) (node onward : ℕ) (sessions : List Session) → AllUp lives sessions → StandUp (λ n. turned node now n (lives n)) (Falling 1 node onward) sessions
down_stands lives now node onward sessions stand j session at on = by_test (nat_eq node session.node) refl
  where
    by_test : (b : Bool) → nat_eq node session.node ≡ b → IsUp (if b then now else lives session.node) ⊎ ((session.node ≡ node) × (1 ≤ j))
    by_test true same = inr (sym (eqb-true node session.node same), from_one sessions j session at)
    by_test false other = inl (stand j session at on)

-- one came up
turned_up : (node n boot : ℕ) (life : NodeLife) → IsUp life → IsUp (turned node (Up boot) n life)
turned_up node n boot life up = by_test (nat_eq node n)
  where
    by_test : (b : Bool) → IsUp (if b then Up boot else life)
    by_test true = tt
    by_test false = up

module _ (plan : Plan) (lives : ℕ → NodeLife) (old new : List Session) where
  -- one session did something, which had not ended
  changes : (k : ℕ) (before behind : Session) → session_at old k ≡ Some before → new ≡ replace old k behind → behind.node ≡ before.node
      → (IsOn behind.standing → IsOn before.standing) → AllUp lives old → AllUp lives new
  changes k before behind at is same on stand j session there stands = ⊎_elim
      (λ here.
      let found : Some behind ≡ Some session = sym (replaced old k before behind at) ∙ ap (λ (l : List Session). session_at l k) (sym is) ∙ ap (session_at new) (sym here) ∙ there in
      let one : behind ≡ session = cc in
      subst (λ (s : Session). IsUp (lives s.node)) one
      (subst (λ (n : ℕ). IsUp (lives n)) (sym same) (stand k before at (on (subst (λ (s : Session). IsOn s.standing) (sym one) stands)))))
      (λ other. stand j session (sym (replaced_other old k j before behind at other) ∙ ap (λ (l : List Session). session_at l j) (sym is) ∙ there) stands)
      (cases_eq j k)

  -- whatever it did but to fall
  deed_up : (k : ℕ) (deed : Deed) (entries : List Entry) → Acted plan old (Does k deed) entries new → AllUp lives old → AllUp lives new
  deed_up k deed entries (before, behind, said, at, did, says, is) stand =
      changes k before behind at is (did_kind plan said before behind deed did).1 (λ on. was_on deed did) stand
    where
      was_on : (what : Deed) → Did plan before what said behind → IsOn before.standing
      was_on (IsFed more) (on, none, same) = on
      was_on (Hears one) (state, rest, hears, next, replies, same, none) = subst IsOn (sym hears) tt
      was_on (IsAnswered call answer reply) (been, one, state, cut, waits, replies, same, now) = subst IsOn (sym waits) tt
      was_on (IsGivenUp call reply) (been, one, state, cut, waits, replies, same, now) = subst IsOn (sym waits) tt
      was_on Falls (on, lines, same) = on
      was_on Closes (on, none, same) = on

  -- no session did anything
  same_up : new ≡ old → AllUp lives old → AllUp lives new
  same_up is stand j session at on = stand j session (ap (λ (l : List Session). session_at l j) (sym is) ∙ at) on

  same_stand : (now : ℕ → NodeLife) (turn : Turn) → new ≡ old → StandUp now turn old → StandUp now turn new
  same_stand now turn is stand j session at on = stand j session (ap (λ (l : List Session). session_at l j) (sym is) ∙ at) on

  -- the sessions of a node fall, one after another
  falls_on : (k node onward j : ℕ) (entries : List Entry) → IsFirst (StandsAt node) old k j → Acted plan old (Does j Falls) entries new → StandUp lives (Falling k node onward) old
      → StandUp lives (Falling (j + 1) node onward) new
  falls_on k node onward j entries first (before, behind, said, at, did, says, is) stand i session there on = ⊎_elim
      (λ here.
      let found : Some behind ≡ Some session = sym (replaced old j before behind at) ∙ ap (λ (l : List Session). session_at l j) (sym is) ∙ ap (session_at new) (sym here) ∙ there in
      let one : behind ≡ session = cc in
      absurd (subst IsOn (ap (λ (s : Session). s.standing) (sym one ∙ did.2)) on))
      (λ other.
      let was : session_at old i ≡ Some session = sym (replaced_other old j i before behind at other) ∙ ap (λ (l : List Session). session_at l i) (sym is) ∙ there in
      ⊎_elim (λ up. inl up)
      (λ falls. ⊎_elim
      (λ low. absurd (first.none i falls.1 low (subst (StandsAt node) (sym was) (falls.0, on))))
      (λ high. inr (falls.0, high)) (low_or_high i other))
      (stand i session was on))
      (cases_eq i j)
    where
      low_or_high : (i : ℕ) → i ≢ j → (i < j) ⊎ (j + 1 ≤ i)
      low_or_high i other = ⊎_elim
          (λ low. ⊎_elim (λ below. inl below) (λ above. absurd (other (omega (arith, low, above)))) (cases_lt i j))
          (λ high. inr high) (cases_lt i (j + 1))

-- all that are up stand so, whatever is under way
up_stands : (lives : ℕ → NodeLife) (turn : Turn) (sessions : List Session) → AllUp lives sessions → StandUp lives turn sessions
up_stands lives turn sessions stand j session at on = inl (stand j session at on)

-- the next act
next_stands : (plan : Plan) (lives : ℕ → NodeLife) (turn next : Turn) (old new : List Session) (act : Act) (entries : List Entry) → Next turn old act next → Acted plan old act entries new
    → StandUp lives turn old → StandUp (λ n. life_by act n (lives n)) next new
next_stands plan lives (Hearing k onward) next old new (Does j (Hears one)) entries is acted stand =
    up_stands lives next new (deed_up plan lives old new j (Hears one) entries acted (λ i session at on. ⊎_elim (λ up. up) (λ none. absurd none) (stand i session at on)))
next_stands plan lives (Hearing k onward) next old new (Leaves j user) entries is (says, same) stand =
    up_stands lives next new (same_up plan lives old new same (λ i session at on. ⊎_elim (λ up. up) (λ none. absurd none) (stand i session at on)))
next_stands plan lives (Beginning k onward) next old new (Faults node) entries (there, later) (says, same) stand =
    subst (λ (t : Turn). StandUp (λ n. turned node Down n (lives n)) t new) (sym later)
    (down_stands lives Down node onward new (same_up plan lives old new same (λ i session at on. ⊎_elim (λ up. up) (λ none. absurd none) (stand i session at on))))
next_stands plan lives (Closing k onward) next old new (Does j Closes) entries is acted stand =
    up_stands lives next new (deed_up plan lives old new j Closes entries acted (λ i session at on. ⊎_elim (λ up. up) (λ none. absurd none) (stand i session at on)))
next_stands plan lives (Falling k node onward) next old new (Does j Falls) entries (first, later) acted stand =
    subst (λ (t : Turn). StandUp lives t new) (sym later) (falls_on plan lives old new k node onward j entries first acted stand)
next_stands plan lives turn next old new (StillWaits j) entries (from, ready, first, later) (says, same) stand =
    up_stands lives next new (same_up plan lives old new same (ready_up lives turn old from ready stand))
next_stands plan lives turn next old new (Does j (IsAnswered call answer reply)) entries (from, ready, first, later) acted stand =
    up_stands lives next new (deed_up plan lives old new j (IsAnswered call answer reply) entries acted (ready_up lives turn old from ready stand))
next_stands plan lives (Hearing k onward) next old new act entries is acted stand = absurd is
next_stands plan lives (Beginning k onward) next old new act entries is acted stand = absurd is
next_stands plan lives (Closing k onward) next old new act entries is acted stand = absurd is
next_stands plan lives (Falling k node onward) next old new act entries is acted stand = absurd is
next_stands plan lives (Asking k) next old new act entries is acted stand = absurd is

-- what came of an order
event_stands : (lives : ℕ → NodeLife) (sessions : List Session) (event : ClusterEvent) → AllUp lives sessions → StandUp (λ n. life_by_event event n (lives n)) (turn_after_event event) sessions
event_stands lives sessions (WentDown node) stand = down_stands lives Down node 1 sessions stand
event_stands lives sessions (WasLost node) stand = down_stands lives Lost node 1 sessions stand
event_stands lives sessions (HasFaulted node) stand = down_stands lives Down node 1 sessions stand
event_stands lives sessions (CameUp node boot) stand = λ j session at on. inl (turned_up node session.node boot (lives session.node) (stand j session at on))
event_stands lives sessions (WasHeard letter) stand = λ j session at on. inl (stand j session at on)
event_stands lives sessions (WasThrown letter why) stand = λ j session at on. inl (stand j session at on)
event_stands lives sessions (WasDropped letter) stand = λ j session at on. inl (stand j session at on)
event_stands lives sessions HasFlowed stand = λ j session at on. inl (stand j session at on)
event_stands lives sessions (HasSent count) stand = λ j session at on. inl (stand j session at on)
event_stands lives sessions (HasWidened did) stand = λ j session at on. inl (stand j session at on)
event_stands lives sessions (HasGrouped epoch) stand = λ j session at on. inl (stand j session at on)
event_stands lives sessions (HasFormed epoch members) stand = λ j session at on. inl (stand j session at on)
event_stands lives sessions HasSettled stand = λ j session at on. inl (stand j session at on)
event_stands lives sessions (WasAbsent member) stand = λ j session at on. inl (stand j session at on)
event_stands lives sessions (HasMapped user told) stand = λ j session at on. inl (stand j session at on)
event_stands lives sessions HasTicked stand = λ j session at on. inl (stand j session at on)
event_stands lives sessions (HasSummed sum) stand = λ j session at on. inl (stand j session at on)

-- the first act of a line, where it is this one
first_stands : (lives : ℕ → NodeLife) (act other : Act) (turn : Turn) (sessions : List Session) → act ≡ other → StandUp (λ n. life_by other n (lives n)) turn sessions
    → StandUp (λ n. life_by act n (lives n)) turn sessions
first_stands lives act other turn sessions is stand = subst (λ (a : Act). StandUp (λ n. life_by a n (lives n)) turn sessions) (sym is) stand

module _ (plan : Plan) (been : List Act) (old new : List Session) (stand : AllUp (life_after been) old) where
  deed_first : (k : ℕ) (deed : Deed) (act : Act) (turn : Turn) (entries : List Entry) → act ≡ Does k deed → Acted plan old act entries new
      → StandUp (λ n. life_by act n (life_after been n)) turn new
  deed_first k deed act turn entries is acted = first_stands (life_after been) act (Does k deed) turn new is (up_stands (life_after been) turn new
      (deed_up plan (life_after been) old new k deed entries (subst (λ (a : Act). Acted plan old a entries new) is acted) stand))

  starts_stands : (order : Order) (act : Act) (turn : Turn) (entries : List Entry) → Starts plan been order old act turn → Acted plan old act entries new
      → StandUp (λ n. life_by act n (life_after been n)) turn new
  starts_stands (Open protocol node) act turn entries (boot, up, is, later) acted = first_stands (life_after been) act _ turn new is (up_stands (life_after been) turn new opened)
    where
      opens : Acted plan old (Opens protocol node (greeting_of protocol node boot (length old + 1) (seconds_after been))) entries new
      opens = subst (λ (a : Act). Acted plan old a entries new) is acted

      opened : AllUp (life_after been) new
      opened j session at on = ⊎_elim
          (λ same.
          let found : Some (opened_session protocol node) ≡ Some session =
          sym (pushed old (opened_session protocol node)) ∙ ap (λ (l : List Session). session_at l (length old + 1)) (sym opens.1) ∙ ap (session_at new) (sym same) ∙ at in
          let one : opened_session protocol node ≡ session = cc in
          subst (λ (s : Session). IsUp (life_after been s.node)) one (subst IsUp (sym up) tt))
          (λ other. stand j session (sym (pushed_other old (opened_session protocol node) j other) ∙ ap (λ (l : List Session). session_at l j) (sym opens.1) ∙ at) on)
          (cases_eq j (length old + 1))
  starts_stands (Say k text) act turn entries (is, later) acted = deed_first k (IsFed (sent_line text)) act turn entries is acted
  starts_stands (Feed k octets) act turn entries (is, later) acted = deed_first k (IsFed octets) act turn entries is acted
  starts_stands (Close k) act turn entries starts acted = ⊎_elim
      (λ now. deed_first k Closes act turn entries now.0 acted)
      (λ first.
      let abandons : Acted plan old (Abandons k) entries new = subst (λ (a : Act). Acted plan old a entries new) first.0 acted in
      first_stands (life_after been) act (Abandons k) turn new first.0 (up_stands (life_after been) turn new (same_up plan (life_after been) old new abandons.1 stand)))
      starts
  starts_stands (GiveUp k) act turn entries (call, reply, is, later) acted = deed_first k (IsGivenUp call reply) act turn entries is acted
  starts_stands (Moves order) act turn entries (event, may, is, later) acted =
      let makes : Acted plan old (Makes order event) entries new = subst (λ (a : Act). Acted plan old a entries new) is acted in
      first_stands (life_after been) act (Makes order event) turn new is
      (subst (λ (t : Turn). StandUp (λ n. life_by_event event n (life_after been n)) t new) (sym later)
      (event_stands (life_after been) new event (same_up plan (life_after been) old new makes.1 stand)))
  starts_stands End act turn entries starts acted = absurd starts

-- acts, one after another
goes_stands : (plan : Plan) (lives : ℕ → NodeLife) (turn last : Turn) (old new : List Session) (acts : List Act) (outputs : List (List Entry)) → ActsGo plan turn old acts outputs last new
    → StandUp lives turn old → StandUp (λ n. life_from (lives n) acts n) last new
goes_stands plan lives turn last old new [] [] (later, same) stand =
    subst (λ (t : Turn). StandUp lives t new) (sym later) (same_stand plan lives old new lives turn same stand)
goes_stands plan lives turn last old new (act ∷ acts) (entries ∷ outputs) (next, mid, is, acted, goes) stand =
    goes_stands plan (λ n. life_by act n (lives n)) next last mid new acts outputs goes (next_stands plan lives turn next old mid act entries is acted stand)
goes_stands plan lives turn last old new [] (entries ∷ outputs) goes stand = absurd goes
goes_stands plan lives turn last old new (act ∷ acts) [] goes stand = absurd goes

-- a line that was handled
line_stands : (plan : Plan) (been : List Act) (old new : List Session) (line : List ℕ) (acts : List Act) (outputs : List (List Entry)) → IsHandled plan been old line acts outputs new
    → AllUp (life_after been) old → AllUp (life_after (been ++ acts)) new
line_stands plan been old new line acts outputs handled stand j session at on =
    let begun = handled.begun in
    let after = ready_up (λ n. life_from (life_by begun.first n (life_after been n)) begun.more n) handled.last new handled.done.0 handled.done.1
    (goes_stands plan (λ n. life_by begun.first n (life_after been n)) begun.next handled.last begun.mid new begun.more begun.others begun.goes
    (starts_stands plan been old begun.mid stand begun.order begun.first begun.next begun.said begun.starts begun.acted)) j session at on in
    subst IsUp (sym (life_both been acts session.node (Up 1) ∙ ap (λ (a : List Act). life_from (life_after been session.node) a session.node) begun.acts_are)) after

-- all lines
lines_stand : (plan : Plan) (been : List Act) (old new : List Session) (lines : List (List ℕ)) (by_line : List (List Act)) (outputs : List (List (List Entry)))
    → AreHandled plan been old lines by_line outputs new → AllUp (life_after been) old → AllUp (life_after (been ++ flat_map (λ a. a) by_line)) new
lines_stand plan been old new [] [] [] is stand =
    subst (λ (a : List Act). AllUp (life_after a) new) (sym (append-nil been)) (same_up plan (life_after been) old new is stand)
lines_stand plan been old new (line ∷ lines) (acts ∷ by_line) (says ∷ outputs) (mid, one, more) stand =
    subst (λ (a : List Act). AllUp (life_after a) new) (append_assoc been acts (flat_map (λ a. a) by_line))
    (lines_stand plan (been ++ acts) mid new lines by_line outputs more (line_stands plan been old mid line acts says one stand))
lines_stand plan been old new lines by_line outputs h stand = absurd h

-- where no session was opened
none_stands : (lives : ℕ → NodeLife) → AllUp lives []
none_stands lives zero session at on = absurd (none-some session at)
none_stands lives (suc n) session at on = absurd (none-some session (sym (by_number [] n) ∙ at))

-- the work stopped between two lines
off_stands : (plan : Plan) (been : List Act) (stop : Stop) (old new : List Session) (left : List (List ℕ)) (by_line : List (List Act)) (tail : List Entry) (extra : List Made)
    → (IsCutShort stop → ⊥) → IsLeftOff plan been stop old left by_line tail extra new → AllUp (life_after been) old → AllUp (life_after (been ++ flat_map (λ a. a) by_line)) new
off_stands plan been stop old new [] [] tail extra whole (none, no_step, is, no_fault, no_denial) stand =
    subst (λ (a : List Act). AllUp (life_after a) new) (sym (append-nil been)) (same_up plan (life_after been) old new is stand)
off_stands plan been stop old new (line ∷ []) ([] ∷ []) tail extra whole (tried, is) stand =
    subst (λ (a : List Act). AllUp (life_after a) new) (sym (append-nil been)) (same_up plan (life_after been) old new is stand)
off_stands plan been stop old new (line ∷ []) ((act ∷ acts) ∷ []) tail extra whole (turn, cut, more) stand = absurd (none_cut stop cut.missing whole cut.may)
off_stands plan been stop old new left by_line tail extra whole off stand = absurd off

pub standing_are_up : StandingAreUp
standing_are_up plan stop handled left acts others made entries last driven whole k session at on =
    subst (λ (a : List Act). IsUp (life_after a session.node)) (sym (flat_map-append (λ (a : List Act). a) acts others))
    (off_stands plan (flat_map (λ a. a) acts) stop driven.mid last left others driven.tail driven.extra whole driven.off
    (lines_stand plan [] [] driven.mid handled acts driven.outputs driven.are (none_stands (life_after []))) k session at on)
