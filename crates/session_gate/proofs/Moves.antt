-- What one move of a session comes to.
use Rattle.std.proofs.Common.{◌≡◌, ◌≢◌, ◌<◌, ◌++◌, ◌∷◌, ℕ, List, [], Option, Some, None, Err, refl, sym, ap, ap₂, ◌∙◌, subst, append_assoc, length}
use Rattle.std.specs.Prelude.{◌⊎◌, flat_map}
use Rattle.std.proofs.lemmas.List.{append-nil}
use Rattle.std.proofs.lemmas.List.Concat.{flat_map-append}
use Rattle.std.specs.Io.KnownBytes.{Appends}
use Rattle.io_edge.specs.Causes.{Rose}
use Rattle.io_edge.proofs.Known.{appends_none, appends_more}
use Rattle.mail_model.specs.Lines.{sent_line}
use Rattle.mail_model.specs.Plan.{Plan}
use Rattle.mail_model.specs.Session.{Unit}
use Rattle.session_model.specs.Calls as model
use Rattle.session_model.specs.Calls.{IsAnswerTo, RepliesTo, EachAnswerHasReply}
use Rattle.session_model.specs.Calls.Answer.{Failed}
use Rattle.session_model.specs.Talk.{TalkState, Exchange, Standing, Lead, IsLed, lead_of, standing_asked, heard, stands, answered, down_line, farewell}
use Rattle.session_model.specs.Talk.Lead.{Says, Ends, Asks}
use Rattle.session_model.specs.Talk.Standing.{Hearing, Waiting, EndedByQuit, EndedDown, EndedClosed}
use Rattle.session_model.specs.Moves.{with_answer}
use Rattle.session_model.specs.Sessions.{Session}
use Rattle.session_model.specs.Acts.{Deed, Did}
use Rattle.session_model.specs.Acts.Deed.{Hears, IsAnswered, Falls}
use Rattle.session_model.specs.Spoken.{Speaks}
use Rattle.session_model.proofs.Did.{did_speaks}
use Rattle.call_tickets.specs.Moves.{Due, HeardUnit, Replied, Fell, HasEnded, HearsNothing, IsWaiting}
use Rattle.call_tickets.specs.Moves.Due.{Nothing}
use Rattle.call_tickets.specs.Passes.{PassKnows}
use Rattle.session_gate.specs.Deals.{Deals, Dealt}
use Rattle.session_gate.specs.Turns.{WritesFirst}
use Rattle.session_gate.specs.InTime.{WritesInTime}
use Rattle.session_gate.specs.Connections.{Connection, HasSaid, HasCome, Anyhow, GoesOn, BreaksOff, Rests, Talks, IsSettled, IsUp, HasFallen, LeftWith}
use Rattle.session_gate.specs.declared.stop.Stop.{Stop}
use Rattle.session_gate.specs.declared.stop.Stop.TheVariants as stops
use Rattle.session_gate.proofs.Knows.{dealt_none, dealt_asked, deals_one, deals_fell, rose_before}
use Rattle.session_gate.proofs.InTime.{heard_in_time, more_in_time, next_in_time}

some_same : {X : Type 0} (x y : X) → Some x ≡ Some y → x ≡ y
some_same x y is = cc

-- a unit that asks this leads to waiting for it
pub asks_waits : (plan : Plan) (old : Session) (one : Exchange) (said : List (List ℕ)) (new : Session) (call : model.Call) → Did plan old (Hears one) said new → one.call ≡ Some call
    → (state : TalkState) × (new.standing ≡ Waiting state call)
asks_waits plan old one said new call did is = by_lead (lead_of plan old.node did.0 one.unit) did.3.led (ap (λ (s : Session). s.standing) did.5)
  where
    by_lead : (lead : Lead) → IsLed lead one → new.standing ≡ stands plan did.0 one lead → (state : TalkState) × (new.standing ≡ Waiting state call)
    by_lead (Says reply) led so = let no : None ≡ Some call = sym led.0 ∙ is in absurd cc
    by_lead (Ends reply) led so = let no : None ≡ Some call = sym led.0 ∙ is in absurd cc
    by_lead (Asks asks) led so = (
      heard plan did.0 one.unit [],
      so ∙ ap (λ (a : Option model.Answer). standing_asked (heard plan did.0 one.unit []) asks a) did.6
          ∙ ap (λ (c : model.Call). Waiting (heard plan did.0 one.unit []) c) (some_same asks call (sym led.0 ∙ is)),
    )

-- no unit and no answer takes a node down
lead_up : (plan : Plan) (state : TalkState) (one : Exchange) (lead : Lead) → one.answer ≡ None → stands plan state one lead ≢ EndedDown
lead_up plan state one (Says reply) none is = cc
lead_up plan state one (Ends reply) none is = cc
lead_up plan state one (Asks call) none is =
    let waits : Waiting (heard plan state one.unit []) call ≡ EndedDown = sym (ap (λ (a : Option model.Answer). standing_asked (heard plan state one.unit []) call a) none) ∙ is in cc

pub hears_up : (plan : Plan) (old new : Session) (one : Exchange) (said : List (List ℕ)) → Did plan old (Hears one) said new → new.standing ≢ EndedDown
hears_up plan old new one said did is = lead_up plan did.0 one (lead_of plan old.node did.0 one.unit) did.6 (sym (ap (λ (s : Session). s.standing) did.5) ∙ is)

module _ (line : Connection) (fed said : List ℕ) (now : PassKnows) where
  -- what a session said before, and what it says now
  pub spoken : (lines reply : List (List ℕ)) → said ≡ sent_line line.greeting ++ flat_map sent_line lines
      → said ++ flat_map sent_line reply ≡ sent_line line.greeting ++ flat_map sent_line (lines ++ reply)
  spoken lines reply is =
      ap (λ (l : List ℕ). l ++ flat_map sent_line reply) is ∙ append_assoc (sent_line line.greeting) (flat_map sent_line lines) (flat_map sent_line reply)
      ∙ ap (λ (l : List ℕ). sent_line line.greeting ++ l) (sym (flat_map-append sent_line lines reply))

  module _ (speaks next : Session → Type 0) (at : HasSaid line speaks fed said now) where
    pub speaks_at : Speaks line.plan at.lines at.plain
    speaks_at = record { talk = at.talk; none = at.others; lines = at.are }

    -- whatever the session does, if its calls, its node and its octets are told
    pub does : (deed : Deed) (reply : List (List ℕ)) (after : Session) (later : PassKnows) (octets : List ℕ) → Did line.plan at.plain deed reply after
        → next after → octets ≡ flat_map sent_line reply → after.protocol ≡ at.plain.protocol → after.node ≡ at.plain.node → after.octets ≡ at.plain.octets
        → Deals line.start after.whole later → (after.standing ≡ EndedDown → Rose line.start.counts.down later.counts.down)
        → HasSaid line next fed (said ++ octets) later
    does deed reply after later octets did follows says protocol node same deals down =
        let speaks_now = did_speaks line.plan at.lines reply at.plain after deed speaks_at did in
        record {
          plain = after;
          follows = follows;
          protocol = protocol ∙ at.protocol;
          node = node ∙ at.node;
          fed_is = same ∙ at.fed_is;
          others = speaks_now.none;
          talk = speaks_now.talk;
          lines = at.lines ++ reply;
          are = speaks_now.lines;
          says = ap (λ (l : List ℕ). said ++ l) says ∙ spoken at.lines reply at.says;
          deals = deals;
          down = down;
        }

    -- it heard a unit that asks nothing, or asks a call that has come to this
    pub hears : (one : Exchange) (after : Session) (octets : List ℕ) (later : PassKnows) → Did line.plan at.plain (Hears one) one.reply after → next after
        → octets ≡ flat_map sent_line one.reply → Dealt now one.call None later → HasSaid line next fed (said ++ octets) later
    hears one after octets later did follows says dealt =
        let is : after ≡ _ = did.5 in
        does (Hears one) one.reply after later octets did follows says (ap (λ (s : Session). s.protocol) is) (ap (λ (s : Session). s.node) is) (ap (λ (s : Session). s.octets) is)
        (subst (λ (l : List Exchange). Deals line.start l later) (sym (ap (λ (s : Session). s.whole) is))
        (deals_one line.start now later at.plain.whole one at.deals (subst (λ (a : Option model.Answer). Dealt now one.call a later) (sym did.6) dealt)))
        (λ ended. absurd (hears_up line.plan at.plain after one one.reply did ended))

snoc_same : {X : Type 0} (xs ys : List X) (x y : X) → xs ++ x ∷ [] ≡ ys ++ y ∷ [] → (xs ≡ ys) × (x ≡ y)
snoc_same [] [] x y is = (refl, cc)
snoc_same [] (b ∷ []) x y is = absurd cc
snoc_same [] (b ∷ c ∷ ys) x y is = absurd cc
snoc_same (a ∷ []) [] x y is = absurd cc
snoc_same (a ∷ c ∷ xs) [] x y is = absurd cc
snoc_same (a ∷ xs) (b ∷ ys) x y is =
    let rest : xs ++ x ∷ [] ≡ ys ++ y ∷ [] = cc in
    let head : a ≡ b = cc in
    let so = snoc_same xs ys x y rest in
    (ap₂ ◌∷◌ head so.0, so.1)

-- an answer takes no node down
answered_up : (state : TalkState) (call : model.Call) (answer : model.Answer) → answered state call answer ≢ EndedDown
answered_up state (model.Call.Deliver mail) answer is = cc
answered_up state (model.Call.Login user given) (model.Answer.Stored id) is = cc
answered_up state (model.Call.Login user given) (model.Answer.Listed items) is = cc
answered_up state (model.Call.Login user given) model.Answer.Wrong is = cc
answered_up state (model.Call.Login user given) model.Answer.InUse is = cc
answered_up state (model.Call.Login user given) model.Answer.NoProfile is = cc
answered_up state (model.Call.Login user given) (model.Answer.Part octets) is = cc
answered_up state (model.Call.Login user given) model.Answer.GoneAlready is = cc
answered_up state (model.Call.Login user given) model.Answer.Dropped is = cc
answered_up state (model.Call.Login user given) Failed is = cc
answered_up state (model.Call.Fetch user id) answer is = cc
answered_up state (model.Call.Strike user ids) answer is = cc

module _ (line : Connection) (fed said : List ℕ) (now : PassKnows) (speaks next : Session → Type 0) (at : HasSaid line speaks fed said now)
    (one : Exchange) (mid : Session) (octets : List ℕ) (call : model.Call) (did : Did line.plan at.plain (Hears one) one.reply mid) (asks : one.call ≡ Some call)
    (says : octets ≡ flat_map sent_line one.reply) where
  asked_at : HasSaid line (λ plain. plain ≡ mid) fed (said ++ octets) now
  asked_at = hears line fed said now speaks (λ plain. plain ≡ mid) at one mid octets now did refl says (subst (λ (c : Option model.Call). Dealt now c None now) (sym asks) (dealt_asked now call))

  -- it heard a unit that asks this, and waits for what comes of it
  pub waits_at : (new : PassKnows) → Dealt now (Some call) None new → HasSaid line (λ plain. plain ≡ mid) fed (said ++ octets) new
  waits_at new dealt = hears line fed said now speaks (λ plain. plain ≡ mid) at one mid octets new did refl says (subst (λ (c : Option model.Call). Dealt now c None new) (sym asks) dealt)

  -- its node is down
  pub falls_at : (new : PassKnows) (after : Session) (more : List ℕ) → Dealt now (Some call) None new → Rose now.counts.down new.counts.down
      → Did line.plan mid Falls (down_line mid.protocol mid.node ∷ []) after → more ≡ sent_line (down_line mid.protocol mid.node) → next after
      → HasSaid line next fed ((said ++ octets) ++ more) new
  falls_at new after more dealt rose fell is follows =
      let here = waits_at new dealt in
      let fell_here : Did line.plan here.plain Falls (down_line mid.protocol mid.node ∷ []) after =
      subst (λ (s : Session). Did line.plan s Falls (down_line mid.protocol mid.node ∷ []) after) (sym here.follows) fell in
      does line fed (said ++ octets) new (λ plain. plain ≡ mid) next here Falls (down_line mid.protocol mid.node ∷ []) after new more fell_here follows
      (is ∙ sym (append-nil (sent_line (down_line mid.protocol mid.node))))
      (ap (λ (s : Session). s.protocol) fell_here.2) (ap (λ (s : Session). s.node) fell_here.2) (ap (λ (s : Session). s.octets) fell_here.2)
      (subst (λ (l : List Exchange). Deals line.start l new) (sym (ap (λ (s : Session). s.whole) fell_here.2)) here.deals)
      (λ ended. rose_before _ _ _ (deals_fell line.start now at.plain.whole at.deals).down rose)

  -- it was answered
  pub answers_at : (new : PassKnows) (answer : model.Answer) (reply : List (List ℕ)) (after : Session) (more : List ℕ) (other : model.Call) → Dealt now (Some call) (Some answer) new
      → Did line.plan mid (IsAnswered other answer reply) reply after → more ≡ flat_map sent_line reply → next after
      → HasSaid line next fed ((said ++ octets) ++ more) new
  answers_at new answer reply after more other dealt did2 is follows =
      let before = did2.0 in
      let last = did2.1 in
      let whole : at.plain.whole ++ one ∷ [] ≡ before ++ last ∷ [] = sym (ap (λ (s : Session). s.whole) did.5) ∙ did2.3 in
      let same = snoc_same at.plain.whole before one last whole in
      let new_is : after ≡ _ = did2.7 in
      let here = asked_at in
      let did_here : Did line.plan here.plain (IsAnswered other answer reply) reply after =
      subst (λ (s : Session). Did line.plan s (IsAnswered other answer reply) reply after) (sym here.follows) did2 in
      does line fed (said ++ octets) now (λ plain. plain ≡ mid) next here (IsAnswered other answer reply) reply after new more did_here follows is
      (ap (λ (s : Session). s.protocol) did_here.7) (ap (λ (s : Session). s.node) did_here.7) (ap (λ (s : Session). s.octets) did_here.7)
      (subst (λ (l : List Exchange). Deals line.start l new) (sym (ap (λ (s : Session). s.whole) new_is))
      (deals_one line.start now new before (with_answer last answer reply) (subst (λ (l : List Exchange). Deals line.start l now) same.0 at.deals)
      (subst (λ (c : Option model.Call). Dealt now c (Some answer) new) (sym asks ∙ ap (λ (e : Exchange). e.call) same.1) dealt)))
      (λ ended. absurd (answered_up did2.2 other answer (sym (ap (λ (s : Session). s.standing) new_is) ∙ ended)))

-- the exchanges after an answer are those before and one more
pub answered_whole : (plan : Plan) (old mid after : Session) (one : Exchange) (said : List (List ℕ)) (call : model.Call) (answer : model.Answer) (reply : List (List ℕ)) → Did plan old (Hears one) said mid
    → Did plan mid (IsAnswered call answer reply) reply after → (last : Exchange) × (after.whole ≡ old.whole ++ last ∷ [])
answered_whole plan old mid after one said call answer reply did did2 =
    let whole : old.whole ++ one ∷ [] ≡ did2.0 ++ did2.1 ∷ [] = sym (ap (λ (s : Session). s.whole) did.5) ∙ did2.3 in
    let same = snoc_same old.whole did2.0 one did2.1 whole in
    (with_answer did2.1 answer reply, ap (λ (s : Session). s.whole) did2.7 ∙ ap (λ (l : List Exchange). l ++ with_answer did2.1 answer reply ∷ []) (sym same.0))

-- the same, with other words for what is known
abbrev pub at_same : (line : Connection) (speaks next : Session → Type 0) (fed said other : List ℕ) (now : PassKnows) (at : HasSaid line speaks fed said now) → next at.plain → said ≡ other → HasSaid line next fed other now
at_same line speaks next fed said other now at follows same = record {
  plain = at.plain;
  follows = follows;
  protocol = at.protocol;
  node = at.node;
  fed_is = at.fed_is;
  others = at.others;
  talk = at.talk;
  lines = at.lines;
  are = at.are;
  says = sym same ∙ at.says;
  deals = at.deals;
  down = at.down;
}

-- It has come so far, where what was written was so in time.
pub comes : (line : Connection) (speaks : Session → Type 0) (fed wrote out said : List ℕ) (now : PassKnows) (whole : List Exchange) → HasSaid line (λ plain. speaks plain × (plain.whole ≡ whole)) fed said now
    → said ≡ wrote ++ out → WritesInTime line.greeting wrote whole → HasCome line speaks fed wrote out now
comes line speaks fed wrote out said now whole at is time = record {
  at = at_same line (λ plain. speaks plain × (plain.whole ≡ whole)) speaks fed said (wrote ++ out) now at at.follows.0 is;
  in_time = subst (WritesInTime line.greeting wrote) (sym at.follows.1) time;
}

-- the same of more octets that were written, and with other words for the session
pub comes_on : (line : Connection) (speaks next : Session → Type 0) (fed wrote out more rest : List ℕ) (now : PassKnows) (come : HasCome line speaks fed wrote out now)
    → next come.at.plain → out ≡ more ++ rest → HasCome line next fed (wrote ++ more) rest now
comes_on line speaks next fed wrote out more rest now come follows is = comes line next fed (wrote ++ more) rest (wrote ++ out) now come.at.plain.whole
    (at_same line speaks (λ plain. next plain × (plain.whole ≡ come.at.plain.whole)) fed (wrote ++ out) (wrote ++ out) now come.at (follows, refl) refl)
    (ap (λ (l : List ℕ). wrote ++ l) is ∙ sym (append_assoc wrote more rest))
    (more_in_time line.greeting wrote more come.at.plain.whole come.in_time)

pub cut_before : (line : Connection) (follows : Session → Due → Type 0) (fed wrote out : List ℕ) (held : Option (List ℕ)) (now : PassKnows) → HasCome line (Talks follows) fed wrote out now
    → BreaksOff line Anyhow fed wrote held held now
cut_before line follows fed wrote out held now come = record {
  more = [];
  missing = out;
  appends = appends_none held;
  come = comes_on line (Talks follows) Anyhow fed wrote out [] out now come tt refl;
}

-- a unit that asks nothing leads to no waiting
hears_settled : (plan : Plan) (old new : Session) (one : Exchange) (said : List (List ℕ)) → Did plan old (Hears one) said new → one.call ≡ None → IsSettled new.standing
hears_settled plan old new one said did none = by_lead (lead_of plan old.node did.0 one.unit) did.3.led (ap (λ (s : Session). s.standing) did.5)
  where
    by_lead : (lead : Lead) → IsLed lead one → new.standing ≡ stands plan did.0 one lead → IsSettled new.standing
    by_lead (Says reply) led so = rw so tt
    by_lead (Ends reply) led so = rw so tt
    by_lead (Asks asks) led so = absurd (let no : None ≡ Some asks = sym none ∙ led.0 in cc)

answered_settled : (state : TalkState) (call : model.Call) (answer : model.Answer) → IsSettled (answered state call answer)
answered_settled state (model.Call.Deliver mail) answer = tt
answered_settled state (model.Call.Login user given) (model.Answer.Stored id) = tt
answered_settled state (model.Call.Login user given) (model.Answer.Listed items) = tt
answered_settled state (model.Call.Login user given) model.Answer.Wrong = tt
answered_settled state (model.Call.Login user given) model.Answer.InUse = tt
answered_settled state (model.Call.Login user given) model.Answer.NoProfile = tt
answered_settled state (model.Call.Login user given) (model.Answer.Part octets) = tt
answered_settled state (model.Call.Login user given) model.Answer.GoneAlready = tt
answered_settled state (model.Call.Login user given) model.Answer.Dropped = tt
answered_settled state (model.Call.Login user given) Failed = tt
answered_settled state (model.Call.Fetch user id) answer = tt
answered_settled state (model.Call.Strike user ids) answer = tt

-- a session that is settled does not wait
pub waits_none : (standing : Standing) → IsWaiting standing → IsSettled standing → ⊥
waits_none (Hearing state) is none = is
waits_none (Waiting state call) is none = none
waits_none EndedByQuit is none = is
waits_none EndedDown is none = is
waits_none EndedClosed is none = is

-- one that is settled has not gone down with its node
pub settled_up : (standing : Standing) → IsSettled standing → standing ≢ EndedDown
settled_up (Hearing state) settled is = cc
settled_up (Waiting state call) settled is = settled
settled_up EndedByQuit settled is = cc
settled_up EndedDown settled is = settled
settled_up EndedClosed settled is = cc

reply_told : EachAnswerHasReply → (unit : Unit) (call : model.Call) (answer : model.Answer) → IsAnswerTo call answer → (reply : List (List ℕ)) × RepliesTo unit call answer reply
reply_told each unit call answer to = (each unit call answer to).1

module _ (follows0 follows1 : Session → Due → Type 0) (line : Connection) (fed wrote out0 octets out1 : List ℕ) (now : PassKnows) (held : Option (List ℕ))
    (come : HasCome line (Talks follows0) fed wrote out0 now) (outs : out1 ≡ out0 ++ octets) where
  abbrev here : HasSaid line (Talks follows0) fed (wrote ++ out0) now
  here = come.at

  abbrev heard_whole : Exchange → List Exchange
  heard_whole one = come.at.plain.whole ++ one ∷ []

  joined : (front back : List ℕ) → out1 ≡ front ++ back → (wrote ++ out0) ++ octets ≡ (wrote ++ front) ++ back
  joined front back is = append_assoc wrote out0 octets ∙ ap (λ (l : List ℕ). wrote ++ l) (sym outs ∙ is) ∙ sym (append_assoc wrote front back)

  -- it said something
  pub said_goes : HeardUnit follows1 line.plan come.at.plain None octets → GoesOn line (Talks follows1) fed wrote held held out1 now
  said_goes u = record {
    more = [];
    appends = appends_none held;
    come = comes line (Talks follows1) fed (wrote ++ []) out1 ((wrote ++ out0) ++ octets) now (heard_whole u.one)
        (hears line fed (wrote ++ out0) now (Talks follows0) (λ plain. Talks follows1 plain × (plain.whole ≡ heard_whole u.one)) here u.one u.after octets now u.did
        ((u.goes_on, hears_settled line.plan come.at.plain u.after u.one u.one.reply u.did u.asks), ap (λ (s : Session). s.whole) u.did.5) u.says
        (subst (λ (c : Option model.Call). Dealt now c None now) (sym u.asks) (dealt_none now)))
        (joined [] out1 refl)
        (heard_in_time line.greeting (wrote ++ []) come.at.plain.whole u.one (more_in_time line.greeting wrote [] come.at.plain.whole come.in_time) u.did.6);
  }

  -- it rests
  pub rests_goes : HasEnded come.at.plain.standing ⊎ HearsNothing come.at.plain.standing come.at.plain.rest → octets ≡ [] → follows1 come.at.plain Nothing
      → GoesOn line (Rests follows1) fed wrote held held out1 now
  rests_goes rest none follows = record {
    more = [];
    appends = appends_none held;
    come = comes_on line (Talks follows0) (Rests follows1) fed wrote out0 [] out1 now come ((follows, come.at.follows.1), rest)
        (sym (append-nil out0) ∙ ap (λ (l : List ℕ). out0 ++ l) (sym none) ∙ sym outs);
  }

  module _ (asked : model.Call) (u : HeardUnit follows1 line.plan come.at.plain (Some asked) octets) (held1 : Option (List ℕ)) where
    -- it waits for what comes of its call
    waiting_at : (next : Session → Type 0) (new : PassKnows) → next u.after → Dealt now (Some asked) None new
        → HasSaid line (λ plain. next plain × (plain.whole ≡ heard_whole u.one)) fed ((wrote ++ out0) ++ octets) new
    waiting_at next new follows dealt = hears line fed (wrote ++ out0) now (Talks follows0) (λ plain. next plain × (plain.whole ≡ heard_whole u.one)) here u.one u.after octets new u.did
        (follows, ap (λ (s : Session). s.whole) u.did.5) u.says (subst (λ (c : Option model.Call). Dealt now c None new) (sym u.asks) dealt)

    heard_time : (more : List ℕ) → WritesInTime line.greeting (wrote ++ more) (heard_whole u.one)
    heard_time more = heard_in_time line.greeting (wrote ++ more) come.at.plain.whole u.one (more_in_time line.greeting wrote more come.at.plain.whole come.in_time) u.did.6

    -- what it had to say is not written
    flush_cut : (new : PassKnows) → (front : List ℕ) × (missing : List ℕ) × (0 < length missing) × (out1 ≡ front ++ missing) × Appends held held1 front → Dealt now (Some asked) None new
        → BreaksOff line (IsUp follows1) fed wrote held held1 new
    flush_cut new w dealt = record {
      more = w.0;
      missing = w.1;
      appends = w.4;
      come = comes line (IsUp follows1) fed (wrote ++ w.0) w.1 ((wrote ++ out0) ++ octets) new (heard_whole u.one)
          (waiting_at (IsUp follows1) new (u.goes_on, hears_up line.plan come.at.plain u.after u.one u.one.reply u.did) dealt) (joined w.0 w.1 w.3) (heard_time w.0);
    }

    all_out : (wrote ++ out0) ++ octets ≡ (wrote ++ out1) ++ []
    all_out = joined out1 [] (sym (append-nil out1))

    -- its call has no answer
    pub unanswered_cut : (new : PassKnows) → Appends held held1 out1 → Dealt now (Some asked) None new → BreaksOff line Anyhow fed wrote held held1 new
    unanswered_cut new w dealt = record {
      more = out1;
      missing = [];
      appends = w;
      come = comes line Anyhow fed (wrote ++ out1) [] ((wrote ++ out0) ++ octets) new (heard_whole u.one) (waiting_at Anyhow new tt dealt) all_out (heard_time out1);
    }

    -- one or the other
    pub stopped_cut : (why : Stop) (out2 : List ℕ) (new : PassKnows) → WritesFirst (Err why) held held1 out1 out2 → Dealt now (Some asked) None new → BreaksOff line (LeftWith why follows1) fed wrote held held1 new
    stopped_cut stops.WriteFault out2 new w dealt = flush_cut new w dealt
    stopped_cut stops.NoMemory out2 new w dealt = unanswered_cut new w dealt

    waiting : (state : TalkState) × (u.after.standing ≡ Waiting state asked)
    waiting = asks_waits line.plan come.at.plain u.one u.one.reply u.after asked u.did u.asks

    -- all that was said before the answer is written
    later_time : (last : Exchange) → WritesInTime line.greeting (wrote ++ out1) (heard_whole last)
    later_time last = next_in_time line.greeting (wrote ++ out1) (wrote ++ out0) octets come.at.lines (farewell come.at.plain.protocol come.at.plain.node come.at.plain.standing)
        come.at.plain.whole last come.at.are come.at.says (sym (all_out ∙ append-nil (wrote ++ out1)))

    -- its reply is not said
    pub answered_cut : EachAnswerHasReply → (new : PassKnows) (answer : model.Answer) → Appends held held1 out1 → Dealt now (Some asked) (Some answer) new → IsAnswerTo asked answer
        → BreaksOff line Anyhow fed wrote held held1 new
    answered_cut each new answer w dealt to =
        let reply = reply_told each u.one.unit asked answer to in
        let is : u.after ≡ _ = u.did.5 in
        let last : Exchange = with_answer u.one answer reply.0 in
        record {
          more = out1;
          missing = flat_map sent_line reply.0;
          appends = w;
          come = comes line Anyhow fed (wrote ++ out1) (flat_map sent_line reply.0) (((wrote ++ out0) ++ octets) ++ flat_map sent_line reply.0) new (heard_whole last)
              (answers_at line fed (wrote ++ out0) now (Talks follows0) (λ plain. Anyhow plain × (plain.whole ≡ heard_whole last)) here u.one u.after octets asked u.did u.asks u.says new answer reply.0
              (record u.after { whole = heard_whole last; standing = answered waiting.0 asked answer }) (flat_map sent_line reply.0) asked dealt
              (come.at.plain.whole, u.one, waiting.0, ap (λ (s : Session). s.whole) is, waiting.1, reply.1, refl, refl) refl (tt, refl))
              (ap (λ (l : List ℕ). l ++ flat_map sent_line reply.0) (all_out ∙ append-nil (wrote ++ out1))) (later_time last);
        }

    module _ (follows2 : Session → Due → Type 0) (new : PassKnows) (out2 more : List ℕ) (w : Appends held held1 out1) (outs2 : out2 ≡ more) where
      replied_out : (((wrote ++ out0) ++ octets) ++ more) ≡ (wrote ++ out1) ++ out2
      replied_out = ap₂ ◌++◌ (all_out ∙ append-nil (wrote ++ out1)) (sym outs2)

      -- it replied
      pub replied_goes : (answer : model.Answer) → Dealt now (Some asked) (Some answer) new → Replied follows2 line.plan u.after answer more → GoesOn line (Talks follows2) fed wrote held held1 out2 new
      replied_goes answer dealt r =
          let settled : IsSettled r.after.standing = subst IsSettled (sym (ap (λ (s : Session). s.standing) r.did.7)) (answered_settled r.did.2 r.call answer) in
          let last = answered_whole line.plan come.at.plain u.after r.after u.one u.one.reply r.call answer r.reply u.did r.did in
          record {
            more = out1;
            appends = w;
            come = comes line (Talks follows2) fed (wrote ++ out1) out2 (((wrote ++ out0) ++ octets) ++ more) new (heard_whole last.0)
                (answers_at line fed (wrote ++ out0) now (Talks follows0) (λ plain. Talks follows2 plain × (plain.whole ≡ heard_whole last.0)) here u.one u.after octets asked u.did u.asks u.says new answer
                r.reply r.after more r.call dealt r.did r.says ((r.goes_on, settled), last.1))
                replied_out (later_time last.0);
          }

      -- its node went down
      pub fell_goes : Dealt now (Some asked) None new → Rose now.counts.down new.counts.down → Fell follows2 u.after more → GoesOn line (HasFallen follows2) fed wrote held held1 out2 new
      fell_goes dealt rose f =
          let did = f.did line.plan in
          let down : f.after.standing ≡ EndedDown = ap (λ (s : Session). s.standing) did.2 in
          let same : f.after.whole ≡ heard_whole u.one = ap (λ (s : Session). s.whole) did.2 ∙ ap (λ (s : Session). s.whole) u.did.5 in
          record {
            more = out1;
            appends = w;
            come = comes line (HasFallen follows2) fed (wrote ++ out1) out2 (((wrote ++ out0) ++ octets) ++ more) new (heard_whole u.one)
                (falls_at line fed (wrote ++ out0) now (Talks follows0) (λ plain. HasFallen follows2 plain × (plain.whole ≡ heard_whole u.one)) here u.one u.after octets asked u.did u.asks u.says new f.after
                more dealt rose did f.says ((f.goes_on, down), same))
                replied_out (later_time u.one);
          }

-- each call may fail
pub failed_answers : (call : model.Call) → IsAnswerTo call Failed
failed_answers (model.Call.Deliver mail) = tt
failed_answers (model.Call.Login user given) = tt
failed_answers (model.Call.Fetch user id) = tt
failed_answers (model.Call.Strike user ids) = tt

pub went_none : (line : Connection) (speaks : Session → Type 0) (fed wrote out : List ℕ) (held : Option (List ℕ)) (now : PassKnows) → HasCome line speaks fed wrote out now → GoesOn line speaks fed wrote held held out now
went_none line speaks fed wrote out held now come = record { more = []; appends = appends_none held; come = comes_on line speaks speaks fed wrote out [] out now come come.at.follows refl }

module _ (line : Connection) (speaks : Session → Type 0) (fed wrote : List ℕ) (held0 held1 held2 : Option (List ℕ)) (out1 : List ℕ) (now : PassKnows)
    (so : GoesOn line speaks fed wrote held0 held1 out1 now) where
  -- and then it went on
  pub went_on : (next : Session → Type 0) (out2 : List ℕ) (new : PassKnows) → GoesOn line next fed (wrote ++ so.more) held1 held2 out2 new → GoesOn line next fed wrote held0 held2 out2 new
  went_on next out2 new went = record {
    more = so.more ++ went.more;
    appends = appends_more held0 held1 held2 so.more went.more so.appends went.appends;
    come = subst (λ (l : List ℕ). HasCome line next fed l out2 new) (append_assoc wrote so.more went.more) went.come;
  }

  -- or was left off
  pub cut_on : (next : Session → Type 0) (new : PassKnows) → BreaksOff line next fed (wrote ++ so.more) held1 held2 new → BreaksOff line next fed wrote held0 held2 new
  cut_on next new cut = record {
    more = so.more ++ cut.more;
    missing = cut.missing;
    appends = appends_more held0 held1 held2 so.more cut.more so.appends cut.appends;
    come = subst (λ (l : List ℕ). HasCome line next fed l cut.missing new) (append_assoc wrote so.more cut.more) cut.come;
  }

  -- all that it had to say was written
  pub flush_all : Appends held1 held2 out1 → GoesOn line speaks fed wrote held0 held2 [] now
  flush_all w = record {
    more = so.more ++ out1;
    appends = appends_more held0 held1 held2 so.more out1 so.appends w;
    come = subst (λ (l : List ℕ). HasCome line speaks fed l [] now) (append_assoc wrote so.more out1)
        (comes_on line speaks speaks fed (wrote ++ so.more) out1 out1 [] now so.come so.come.at.follows (sym (append-nil out1)));
  }

  -- or a part of it
  pub flush_part : (next : Session → Type 0) → ((plain : Session) → speaks plain → next plain)
      → (front : List ℕ) × (missing : List ℕ) × (0 < length missing) × (out1 ≡ front ++ missing) × Appends held1 held2 front → BreaksOff line next fed wrote held0 held2 now
  flush_part next so_too w = record {
    more = so.more ++ w.0;
    missing = w.1;
    appends = appends_more held0 held1 held2 so.more w.0 so.appends w.4;
    come = subst (λ (l : List ℕ). HasCome line next fed l w.1 now) (append_assoc wrote so.more w.0)
        (comes_on line speaks next fed (wrote ++ so.more) out1 w.0 w.1 now so.come (so_too so.come.at.plain so.come.at.follows) w.3);
  }

-- a session that talks or rests is at a node that is up
pub talks_up : (follows : Session → Due → Type 0) (plain : Session) → Talks follows plain → IsUp follows plain
talks_up follows plain talks = (talks.0, settled_up plain.standing talks.1)

pub rests_up : (follows : Session → Due → Type 0) (plain : Session) → Rests follows plain → IsUp follows plain
rests_up follows plain rests = talks_up follows plain rests.0
