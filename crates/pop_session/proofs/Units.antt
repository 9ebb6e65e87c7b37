-- What a session follows after a line, and after what it had to say.
use Rattle.std.proofs.Common.{◌≡◌, ◌<◌, ◌≤◌, ℕ, Bool, true, false, List, [], ◌∷◌, ◌++◌, length, flat_map, refl, sym, ap, subst, ◌∙◌, arith}
use Rattle.std.specs.Prelude.{All, Option, Some, None, codes}
use Rattle.std.proofs.lemmas.List.{length-append}
use Rattle.std.proofs.lemmas.List.Elements.{All-nil}
use Rattle.std.proofs.lemmas.Bool.{lt-ltb, le-ltb}
use Rattle.mail_model.specs.Lines.{HasNoCrlf, sent_line}
use Rattle.mail_model.specs.Plan.{Plan}
use Rattle.mail_model.specs.Tape.{or_else}
use Rattle.mail_model.specs.PopReplies as replies
use Rattle.mail_model.specs.PopReplies.{banner_text}
use Rattle.mail_model.specs.Session.{is_long_line}
use Rattle.mail_model.specs.Session.Unit.{Line, Text}
use Rattle.mail_model.specs.Told.{IsUnit, HasNoUnit}
use Rattle.mail_model.specs.Maildrop as drops
use Rattle.mail_model.specs.Maildrop.{line_outcome, after_line}
use Rattle.mail_model.specs.Pop.{pop_command_of}
use Rattle.session_model.specs.Calls as calls
use Rattle.session_model.specs.Calls.{asked_lines, given_of}
use Rattle.session_model.specs.Talk as talks
use Rattle.session_model.specs.Talk.{TalkState, Lead, Exchange, Standing, IsNext, IsLed, in_text, lead_of, line_lead, heard, stands, stands_by, let_in, entered_as}
use Rattle.session_model.specs.Talk.TalkState.{Entering, Reading}
use Rattle.session_model.specs.Talk.Standing.{Hearing, Waiting, EndedByQuit}
use Rattle.session_model.specs.Sessions.{Session}
use Rattle.mail_base.specs.Bodies.{proof_seen}
use Rattle.call_tickets.specs.Seen.{ids_in}
use Rattle.call_tickets.specs.Moves as moves
use Rattle.call_tickets.specs.Moves.{Moves, HearsNothing}
use Rattle.call_tickets.specs.Moves.Due.{Nothing}
use Rattle.call_tickets.specs.declared.step.Move.{Move}
use Rattle.call_tickets.specs.declared.step.Move.TheVariants.{Idle}
use Rattle.dot_text.specs.Shown.{Shown, Pending, Finds, FindsNone, IsLine, behind_line}
use Rattle.dot_text.specs.declared.cutter.Line.{Line as Found}
use Rattle.pop_session.specs.declared.session.PopSession.{PopSession}
use Rattle.pop_session.specs.declared.session.Turn.{Turn}
use Rattle.pop_session.specs.declared.session.Turn.TheVariants as turn
use Rattle.pop_session.specs.declared.stage.Login.{Login}
use Rattle.pop_session.specs.declared.stage.Stage.{Stage}
use Rattle.pop_session.specs.declared.stage.Stage.TheVariants.{Authorization, Transaction}
use Rattle.pop_session.specs.declared.stage.Heard.{Heard}
use Rattle.pop_session.specs.declared.stage.Heard.TheVariants as hears
use Rattle.pop_session.specs.Slots.{slots_seen}
use Rattle.pop_session.specs.Shown.{stage_of, talk_state_of, login_in, listed_in, reply_in, name_in, told_long, HearsLine}
use Rattle.pop_session.specs.Follows.{Follows, Stands, Goes, LeadsTurn, user_of_login, opening_line}
use Rattle.pop_session.proofs.Tables.{AreLines, outcome_lines}
use Rattle.pop_session.proofs.Logins.{asks_at}

abbrev pub session : ℕ → ℕ → ℕ → ℕ → Turn → Stage → Shown → PopSession
session node boot number seconds now stage cutter = record { node = node; boot = boot; number = number; seconds = seconds; turn = now; stage = stage; cutter = cutter }

-- a line with its CRLF that passes the limit, and one that keeps it
pub is_long : (line : List ℕ) (limit : ℕ) → limit ≡ 1024 → limit < length (sent_line line) → is_long_line line ≡ true
is_long line limit is long = lt-ltb 1022 (length line) (omega (arith, is, long, length-append line (13 ∷ 10 ∷ [])))

pub is_short : (line : List ℕ) (limit : ℕ) → limit ≡ 1024 → length (sent_line line) ≤ limit → is_long_line line ≡ false
is_short line limit is short = le-ltb 1022 (length line) (omega (arith, is, short, length-append line (13 ∷ 10 ∷ [])))

-- octets of which none were let go are pending
pub all_pending : (limit : ℕ) (rest : List ℕ) → Pending (record { limit = limit; past = false; rest = rest }) rest
all_pending limit rest = record { gone = []; whole = refl; none = λ k within. absurd (omega arith); seam = λ k last. absurd (omega (arith, last)); long = refl }

-- who was let in, with an exchange more
pub let_none : (call : Option calls.Call) → let_in call None ≡ None
let_none None = refl
let_none (Some (calls.Call.Deliver mail)) = refl
let_none (Some (calls.Call.Login user given)) = refl
let_none (Some (calls.Call.Fetch user id)) = refl
let_none (Some (calls.Call.Strike user ids)) = refl

pub else_none : (o : Option (List ℕ)) → or_else o None ≡ o
else_none None = refl
else_none (Some x) = refl

pub entered_more : (before : List Exchange) (one : Exchange) → entered_as (before ++ one ∷ []) ≡ or_else (entered_as before) (let_in one.call one.answer)
entered_more [] one = else_none (let_in one.call one.answer)
entered_more (first ∷ before) one =
    ap (or_else (let_in first.call first.answer)) (entered_more before one) ∙ else_assoc (let_in first.call first.answer) (entered_as before) (let_in one.call one.answer)
  where
    else_assoc : (a b c : Option (List ℕ)) → or_else a (or_else b c) ≡ or_else (or_else a b) c
    else_assoc None b c = refl
    else_assoc (Some x) b c = refl

pub still_entered : (before : List Exchange) (one : Exchange) → one.answer ≡ None → entered_as (before ++ one ∷ []) ≡ entered_as before
still_entered before one none =
    entered_more before one ∙ ap (or_else (entered_as before)) (ap (let_in one.call) none ∙ let_none one.call) ∙ else_none (entered_as before)

-- what the line leads to, by what the session was told
pub lead_is : (plan : Plan) (node : ℕ) (stage : Stage) (line : List ℕ) → lead_of plan node (talk_state_of stage) (Line line) ≡ line_lead (name_in stage) (line_outcome plan (stage_of stage) line)
lead_is plan node (Authorization user) line = refl
lead_is plan node (Transaction login listing) line = refl

pub no_text : (stage : Stage) → in_text (talk_state_of stage) ≡ false
no_text (Authorization user) = refl
no_text (Transaction login listing) = refl

-- the parts of a stage
user_in : drops.Stage → Option (List ℕ)
user_in (drops.Stage.Authorization user) = user
user_in (drops.Stage.Transaction slots) = None

slots_of : drops.Stage → List replies.ListingSlot
slots_of (drops.Stage.Authorization user) = []
slots_of (drops.Stage.Transaction slots) = slots

login_user : Option Login → List ℕ
login_user None = []
login_user (Some login) = login.user

-- and what it was told once the line was heard
pub heard_is : (plan : Plan) (old new : Stage) (line : List ℕ) (reply : List (List ℕ)) → stage_of new ≡ after_line (stage_of old) line → login_in new ≡ login_in old
    → talk_state_of new ≡ heard plan (talk_state_of old) (Line line) reply
unfolding user_in slots_of login_user
heard_is plan (Authorization user) (Authorization later) line reply told login = ap (λ s. Entering (user_in s)) told
heard_is plan (Authorization user) (Transaction known listing) line reply told login = absurd (cc)
heard_is plan (Transaction old_login old) (Authorization later) line reply told login = absurd (cc)
heard_is plan (Transaction old_login old) (Transaction known listing) line reply told login =
    ap (λ (o : Option Login). Reading (login_user o) (slots_seen listing)) login ∙ ap (λ s. Reading old_login.user (slots_of s)) told

-- a line that is too long
pub hears_long : (banner : List ℕ) (plan : Plan) (old new : Stage) (line : List ℕ) (limit : ℕ) → limit ≡ 1024 → limit < length (sent_line line) → stage_of new ≡ told_long (stage_of old)
    → login_in new ≡ login_in old → listed_in new ≡ listed_in old → HearsLine banner plan old line (hears.Said (codes "-ERR line too long" ∷ [])) new
hears_long banner plan old new line limit is over told login items =
    let long : is_long_line line ≡ true = is_long line limit is over in
    record { outcome = rw long refl; told = told ∙ sym (after_long (stage_of old)); asks = tt; own = tt; login = login; items = items }
  where
    after_long : (stage : drops.Stage) → after_line stage line ≡ told_long stage
    after_long (drops.Stage.Authorization user) = let long : is_long_line line ≡ true = is_long line limit is over in rw long refl
    after_long (drops.Stage.Transaction slots) = let long : is_long_line line ≡ true = is_long line limit is over in rw long refl

-- One line was heard.
module _ (plan : Plan) (plain : Session) (state : TalkState) (line more octets : List ℕ) (follows : Session → moves.Due → Type 0)
    (hearing : plain.standing ≡ Hearing state) (is : IsUnit (in_text state) (Line line)) (whole : plain.rest ≡ sent_line line ++ more) where
  pub heard_says : (reply : List (List ℕ)) → lead_of plan plain.node state (Line line) ≡ talks.Lead.Says reply → All HasNoCrlf reply → octets ≡ flat_map sent_line reply
      → ((one : Exchange) → one.answer ≡ None → follows (record plain { whole = plain.whole ++ one ∷ []; standing = Hearing (heard plan state (Line line) reply); rest = more }) Nothing)
      → moves.HeardUnit follows plan plain None octets
  heard_says reply leads lines says goes_on =
      let one : Exchange = record { unit = Line line; call = None; answer = None; reply = reply } in
      let Led : Lead → Type 0 = λ l. IsLed l one in
      let next : IsNext plan plain.node state plain.rest one more = record { is_unit = is; whole = whole; led = subst Led (sym leads) (refl, refl, refl) } in
      let now : stands_by plan plain.node state one ≡ Hearing (heard plan state (Line line) reply) = ap (stands plan state one) leads in
      let At : Standing → Type 0 = λ s. follows (record plain { whole = plain.whole ++ one ∷ []; standing = s; rest = more }) Nothing in
      record {
        one = one;
        after = record plain { whole = plain.whole ++ one ∷ []; standing = stands_by plan plain.node state one; rest = more };
        did = (state, more, hearing, next, refl, refl, refl);
        asks = refl;
        says = says;
        lines = lines;
        goes_on = subst At (sym now) (goes_on one refl);
      }

  pub heard_ends : (reply : List (List ℕ)) → lead_of plan plain.node state (Line line) ≡ talks.Lead.Ends reply → All HasNoCrlf reply → octets ≡ flat_map sent_line reply
      → ((one : Exchange) → one.answer ≡ None → follows (record plain { whole = plain.whole ++ one ∷ []; standing = EndedByQuit; rest = more }) Nothing)
      → moves.HeardUnit follows plan plain None octets
  heard_ends reply leads lines says goes_on =
      let one : Exchange = record { unit = Line line; call = None; answer = None; reply = reply } in
      let Led : Lead → Type 0 = λ l. IsLed l one in
      let next : IsNext plan plain.node state plain.rest one more = record { is_unit = is; whole = whole; led = subst Led (sym leads) (refl, refl, refl) } in
      let now : stands_by plan plain.node state one ≡ EndedByQuit = ap (stands plan state one) leads in
      let At : Standing → Type 0 = λ s. follows (record plain { whole = plain.whole ++ one ∷ []; standing = s; rest = more }) Nothing in
      record {
        one = one;
        after = record plain { whole = plain.whole ++ one ∷ []; standing = stands_by plan plain.node state one; rest = more };
        did = (state, more, hearing, next, refl, refl, refl);
        asks = refl;
        says = says;
        lines = lines;
        goes_on = subst At (sym now) (goes_on one refl);
      }

  pub heard_asks : (call : calls.Call) → lead_of plan plain.node state (Line line) ≡ talks.Lead.Asks call → octets ≡ []
      → ((one : Exchange) → one.answer ≡ None → one.call ≡ Some call → one.unit ≡ Line line
      → follows (record plain { whole = plain.whole ++ one ∷ []; standing = Waiting (heard plan state (Line line) []) call; rest = more }) Nothing)
      → moves.HeardUnit follows plan plain (Some call) octets
  heard_asks call leads says goes_on =
      let one : Exchange = record { unit = Line line; call = Some call; answer = None; reply = [] } in
      let Led : Lead → Type 0 = λ l. IsLed l one in
      let next : IsNext plan plain.node state plain.rest one more = record { is_unit = is; whole = whole; led = subst Led (sym leads) (refl, refl) } in
      let now : stands_by plan plain.node state one ≡ Waiting (heard plan state (Line line) []) call = ap (stands plan state one) leads in
      let At : Standing → Type 0 = λ s. follows (record plain { whole = plain.whole ++ one ∷ []; standing = s; rest = more }) Nothing in
      record {
        one = one;
        after = record plain { whole = plain.whole ++ one ∷ []; standing = stands_by plan plain.node state one; rest = more };
        did = (state, more, hearing, next, refl, refl, refl);
        asks = refl;
        says = says;
        lines = All-nil HasNoCrlf;
        goes_on = subst At (sym now) (goes_on one refl refl refl);
      }

-- a session that has nothing to say, and hears
pub at_nothing : (follows : Session → moves.Due → Type 0) (greeting : List ℕ) (plan : Plan) (plain : Session) (due : moves.Due) (move : Move) (octets : List ℕ) → due ≡ Nothing
    → Moves follows greeting plan plain Nothing move octets → Moves follows greeting plan plain due move octets
at_nothing follows greeting plan plain due move octets is did =
    let At : moves.Due → Type 0 = λ d. Moves follows greeting plan plain d move octets in subst At (sym is) did

-- only a session that was not let in asks to be
entering : (plan : Plan) (stage later : Stage) (line user : List ℕ) (given : drops.Given) → line_outcome plan (stage_of stage) line ≡ drops.LineOutcome.AsksLogin user given
    → stage_of later ≡ after_line (stage_of stage) line → (named : Option (List ℕ)) × (talk_state_of later ≡ Entering named)
entering plan stage (Authorization user) line name given asks told = (user, refl)
entering plan stage (Transaction login listing) line name given asks told =
    let stands = (asks_at plan (stage_of stage) (is_long_line line) (pop_command_of line) name given _ asks).asks.stands in
    let was : drops.Stage.Transaction (slots_seen listing) ≡ after_line (drops.Stage.Authorization stands.0) line = told ∙ ap (λ s. after_line s line) stands.1 in
    absurd (cc (was))

-- The next line.
module _ (plan : Plan) (node boot number seconds : ℕ) (stage later : Stage) (old new : Shown) where
  abbrev before : PopSession
  before = session node boot number seconds turn.Hears stage old

  is_line : (line : List ℕ) → HasNoCrlf line → IsUnit (in_text (talk_state_of stage)) (Line line)
  is_line line none = let Of : Bool → Type 0 = λ b. IsUnit b (Line line) in subst Of (sym (no_text stage)) none

  -- no line is whole
  pub hears_none : FindsNone old new → Goes plan before Idle [] (session node boot number seconds turn.Hears stage new)
  hears_none finds plain due follows =
      let stays = finds.stays plain.rest follows.pends in
      let At : Standing → Type 0 = λ s. HearsNothing s plain.rest in
      at_nothing _ _ plan plain due Idle [] follows.stands.0 (
        subst At (sym follows.stands.1) (no_unit (in_text (talk_state_of stage)) plain.rest (no_text stage) stays.no_line),
        refl,
        record {
          speaks = follows.speaks;
          node = follows.node;
          limit = finds.limit ∙ follows.limit;
          pends = stays.pends;
          others = follows.others;
          entered = follows.entered;
          stands = (refl, follows.stands.1);
        },
      )
    where
      no_unit : (inside : Bool) (rest : List ℕ) → inside ≡ false → ((line more : List ℕ) → rest ≡ sent_line line ++ more → ⊥) → HasNoUnit inside rest
      no_unit true rest is none unit more are same = cc
      no_unit false rest is none (Line line) more unit same = none line more same
      no_unit false rest is none (Text lines) more unit same = unit

  module _ (found : Found) (finds : Finds old found old) (cut : new ≡ behind_line old found) where
    abbrev rest : List ℕ
    rest = (behind_line old found).rest

    pends_behind : Pending new rest
    pends_behind = let At : Shown → Type 0 = λ c. Pending c rest in subst At (sym cut) (all_pending old.limit rest)

    limit_behind : old.limit ≡ 1024 → new.limit ≡ 1024
    limit_behind limit = ap (λ (s : Shown). s.limit) cut ∙ limit

    -- what the session then is, whatever it asked
    behind : (now : Turn) (plain after : Session) (due : moves.Due) (one : Exchange) → Follows before plain due → after ≡ record after { protocol = plain.protocol; node = plain.node; whole = plain.whole ++ one ∷ []; others = plain.others; rest = rest }
        → one.answer ≡ None → login_in later ≡ login_in stage → Stands now (talk_state_of later) after Nothing → Follows (session node boot number seconds now later new) after Nothing
    behind now plain after due one follows is none login stands =
        let At : Session → Type 0 = λ s. Follows (session node boot number seconds now later new) s Nothing in
        let Of : Session → Type 0 = λ s. Stands now (talk_state_of later) s Nothing in
        subst At (sym is) (record {
          speaks = follows.speaks;
          node = follows.node;
          limit = limit_behind follows.limit;
          pends = pends_behind;
          others = follows.others;
          entered = still_entered plain.whole one none ∙ follows.entered ∙ ap user_of_login (sym login);
          stands = subst Of is stands;
        })

    pub hears_line : (heard_it : Heard) (now : Turn) (did : Move) (octets : List ℕ) → LeadsTurn heard_it (now, did) → octets ≡ flat_map sent_line (reply_in heard_it)
        → ((line : List ℕ) → HasNoCrlf line → IsLine old found line → old.limit ≡ 1024 → HearsLine (banner_text node boot number seconds) plan stage line heard_it later)
        → Goes plan before did octets (session node boot number seconds now later new)
    hears_line (hears.Said reply) now did octets begins says means plain due follows =
        let gives = finds.gives plain.rest follows.pends in
        let meaning = means gives.line gives.first gives.is follows.limit in
        let leads : lead_of plan plain.node (talk_state_of stage) (Line gives.line) ≡ talks.Lead.Says reply =
        lead_is plan plain.node stage gives.line ∙ ap (line_lead (name_in stage)) (sym meaning.outcome) in
        let At : Move → Type 0 = λ m. Moves (Follows (session node boot number seconds now later new)) (opening_line before) plan plain Nothing m octets in
        at_nothing _ _ plan plain due did octets follows.stands.0 (subst At (sym begins.1)
        (heard_says plan plain (talk_state_of stage) gives.line rest octets (Follows (session node boot number seconds now later new)) follows.stands.1 (is_line gives.line gives.first) gives.octets
        reply leads (subst AreLines (sym meaning.outcome) (outcome_lines plan (stage_of stage) gives.line)) says (λ one none.
        let after : Session = record plain { whole = plain.whole ++ one ∷ []; standing = Hearing (heard plan (talk_state_of stage) (Line gives.line) reply); rest = rest } in
        let Now : Turn → Type 0 = λ t. Stands t (talk_state_of later) after Nothing in
        behind now plain after due one follows refl none meaning.login
        (subst Now (sym begins.0) (refl, ap Hearing (sym (heard_is plan stage later gives.line reply meaning.told meaning.login)))))))
    hears_line (hears.Ended reply) now did octets begins says means plain due follows =
        let gives = finds.gives plain.rest follows.pends in
        let meaning = means gives.line gives.first gives.is follows.limit in
        let leads : lead_of plan plain.node (talk_state_of stage) (Line gives.line) ≡ talks.Lead.Ends reply =
        lead_is plan plain.node stage gives.line ∙ ap (line_lead (name_in stage)) (sym meaning.outcome) in
        let At : Move → Type 0 = λ m. Moves (Follows (session node boot number seconds now later new)) (opening_line before) plan plain Nothing m octets in
        at_nothing _ _ plan plain due did octets follows.stands.0 (subst At (sym begins.1)
        (heard_ends plan plain (talk_state_of stage) gives.line rest octets (Follows (session node boot number seconds now later new)) follows.stands.1 (is_line gives.line gives.first) gives.octets
        reply leads (subst AreLines (sym meaning.outcome) (outcome_lines plan (stage_of stage) gives.line)) says (λ one none.
        let after : Session = record plain { whole = plain.whole ++ one ∷ []; standing = EndedByQuit; rest = rest } in
        let Now : Turn → Type 0 = λ t. Stands t (talk_state_of later) after Nothing in
        behind now plain after due one follows refl none meaning.login (subst Now (sym begins.0) (refl, tt)))))
    hears_line (hears.LogsIn user kept proof) now did octets begins says means plain due follows =
        let gives = finds.gives plain.rest follows.pends in
        let meaning = means gives.line gives.first gives.is follows.limit in
        let leads : lead_of plan plain.node (talk_state_of stage) (Line gives.line) ≡ talks.Lead.Asks (calls.Call.Login user (given_of (proof_seen proof))) =
        lead_is plan plain.node stage gives.line ∙ ap (line_lead (name_in stage)) (sym meaning.outcome) in
        let At : Move → Type 0 = λ m. Moves (Follows (session node boot number seconds now later new)) (opening_line before) plan plain Nothing m octets in
        at_nothing _ _ plan plain due did octets follows.stands.0 (subst At (sym begins.1) (
          calls.Call.Login user (given_of (proof_seen proof)),
          refl,
          heard_asks plan plain (talk_state_of stage) gives.line rest octets (Follows (session node boot number seconds now later new)) follows.stands.1 (is_line gives.line gives.first) gives.octets
              (calls.Call.Login user (given_of (proof_seen proof))) leads says (λ one none asks heard_is_line.
              let after : Session = record plain { whole = plain.whole ++ one ∷ []; standing = Waiting (heard plan (talk_state_of stage) (Line gives.line) []) (calls.Call.Login user (given_of (proof_seen proof))); rest = rest } in
              let Now : Turn → Type 0 = λ t. Stands t (talk_state_of later) after Nothing in
              behind now plain after due one follows refl none meaning.login (subst Now (sym begins.0) (
                record {
                  call = calls.Call.Login user (given_of (proof_seen proof));
                  standing = ap (λ s. Waiting s (calls.Call.Login user (given_of (proof_seen proof)))) (sym (heard_is plan stage later gives.line [] meaning.told meaning.login));
                  before = plain.whole;
                  one = one;
                  whole = refl;
                  asks = asks;
                  unanswered = none;
                },
                refl,
                (entering plan stage later gives.line user (given_of (proof_seen proof)) (sym meaning.outcome) meaning.told, (given_of (proof_seen proof), ap (λ n. calls.Call.Login n (given_of (proof_seen proof))) (sym meaning.own.0))),
              ))),
        ))
    hears_line (hears.Fetches user number_of lines item) now did octets begins says means plain due follows =
        let gives = finds.gives plain.rest follows.pends in
        let meaning = means gives.line gives.first gives.is follows.limit in
        let call : calls.Call = calls.Call.Fetch (name_in stage) item.id in
        let leads : lead_of plan plain.node (talk_state_of stage) (Line gives.line) ≡ talks.Lead.Asks (calls.Call.Fetch (name_in stage) item.id) =
        lead_is plan plain.node stage gives.line ∙ ap (line_lead (name_in stage)) (sym meaning.outcome) in
        let At : Move → Type 0 = λ m. Moves (Follows (session node boot number seconds now later new)) (opening_line before) plan plain Nothing m octets in
        at_nothing _ _ plan plain due did octets follows.stands.0 (subst At (sym begins.1) (
          call,
          ap (λ n. Some (calls.Call.Fetch n item.id)) meaning.own.0,
          heard_asks plan plain (talk_state_of stage) gives.line rest octets (Follows (session node boot number seconds now later new)) follows.stands.1 (is_line gives.line gives.first) gives.octets
              call leads says (λ one none asks heard_is_line.
              let after : Session = record plain { whole = plain.whole ++ one ∷ []; standing = Waiting (heard plan (talk_state_of stage) (Line gives.line) []) (calls.Call.Fetch (name_in stage) item.id); rest = rest } in
              let Now : Turn → Type 0 = λ t. Stands t (talk_state_of later) after Nothing in
              behind now plain after due one follows refl none meaning.login (subst Now (sym begins.0) (
                record {
                  call = call;
                  standing = ap (λ s. Waiting s (calls.Call.Fetch (name_in stage) item.id)) (sym (heard_is plan stage later gives.line [] meaning.told meaning.login));
                  before = plain.whole;
                  one = one;
                  whole = refl;
                  asks = asks;
                  unanswered = none;
                },
                refl,
                ((name_in stage, item.id, refl), ap asked_lines heard_is_line ∙ meaning.asks),
              ))),
        ))
    hears_line (hears.Deletes user items) now did octets begins says means plain due follows =
        let gives = finds.gives plain.rest follows.pends in
        let meaning = means gives.line gives.first gives.is follows.limit in
        let call : calls.Call = calls.Call.Strike (name_in stage) (ids_in items) in
        let leads : lead_of plan plain.node (talk_state_of stage) (Line gives.line) ≡ talks.Lead.Asks (calls.Call.Strike (name_in stage) (ids_in items)) =
        lead_is plan plain.node stage gives.line ∙ ap (line_lead (name_in stage)) (sym meaning.outcome) in
        let At : Move → Type 0 = λ m. Moves (Follows (session node boot number seconds now later new)) (opening_line before) plan plain Nothing m octets in
        at_nothing _ _ plan plain due did octets follows.stands.0 (subst At (sym begins.1) (
          call,
          ap (λ n. Some (calls.Call.Strike n (ids_in items))) meaning.own.0,
          heard_asks plan plain (talk_state_of stage) gives.line rest octets (Follows (session node boot number seconds now later new)) follows.stands.1 (is_line gives.line gives.first) gives.octets
              call leads says (λ one none asks heard_is_line.
              let after : Session = record plain { whole = plain.whole ++ one ∷ []; standing = Waiting (heard plan (talk_state_of stage) (Line gives.line) []) (calls.Call.Strike (name_in stage) (ids_in items)); rest = rest } in
              let Now : Turn → Type 0 = λ t. Stands t (talk_state_of later) after Nothing in
              behind now plain after due one follows refl none meaning.login (subst Now (sym begins.0) (
                record {
                  call = call;
                  standing = ap (λ s. Waiting s (calls.Call.Strike (name_in stage) (ids_in items))) (sym (heard_is plan stage later gives.line [] meaning.told meaning.login));
                  before = plain.whole;
                  one = one;
                  whole = refl;
                  asks = asks;
                  unanswered = none;
                },
                refl,
                (name_in stage, ids_in items, refl),
              ))),
        ))
