-- What a session says before it hears on, and what feeding and falling leave.
use Rattle.std.proofs.Common.{◌≡◌, ℕ, List, [], ◌∷◌, ◌++◌, flat_map, map, refl, sym, ap, subst, ◌∙◌}
use Rattle.std.specs.Prelude.{All, Option, Some, None, codes}
use Rattle.std.proofs.lemmas.List.{append-nil}
use Rattle.std.proofs.lemmas.List.Elements.{All-cons, All-nil}
use Rattle.mail_model.specs.Lines.{HasNoCrlf, sent_line}
use Rattle.mail_model.specs.Plan.{Plan}
use Rattle.mail_model.specs.Session.{Unit}
use Rattle.mail_model.specs.Tape.{Protocol, or_else}
use Rattle.mail_model.specs.PopReplies.{one_line, ready_text, down_text, listed_slots}
use Rattle.mail_model.specs.Identity.{Id}
use Rattle.mail_model.specs.Maildrop.{entered_text}
use Rattle.session_model.specs.Calls as calls
use Rattle.session_model.specs.Calls.{RepliesTo, ShowsPart, asked_lines}
use Rattle.session_model.specs.Talk.{TalkState, Exchange, Standing, IsOn, answered, let_in, entered_as, down_line}
use Rattle.session_model.specs.Talk.TalkState.{Entering, Reading}
use Rattle.session_model.specs.Talk.Standing.{Hearing, EndedByQuit, EndedDown}
use Rattle.session_model.specs.Moves.{with_answer}
use Rattle.session_model.specs.Sessions.{Session, exchanges_of}
use Rattle.call_tickets.specs.Moves as moves
use Rattle.call_tickets.specs.Moves.{Moves, Fed, Fell}
use Rattle.call_tickets.specs.Moves.Due.{Nothing}
use Rattle.call_tickets.specs.declared.step.Move.TheVariants.{Said}
use Rattle.call_tickets.specs.declared.answer.Answer.{Answer}
use Rattle.mail_base.specs.Items.{item_seen}
use Rattle.dot_text.specs.Shown.{Shown, Pending}
use Rattle.pop_session.specs.declared.session.PopSession.{PopSession}
use Rattle.pop_session.specs.declared.session.Turn.{Turn}
use Rattle.pop_session.specs.declared.session.Turn.TheVariants as turn
use Rattle.pop_session.specs.declared.stage.Login.{Login}
use Rattle.pop_session.specs.declared.stage.Stage.{Stage}
use Rattle.pop_session.specs.declared.stage.Stage.TheVariants.{Authorization, Transaction}
use Rattle.pop_session.specs.declared.due.Due.{Due}
use Rattle.pop_session.specs.declared.due.Due.TheVariants as dues
use Rattle.pop_session.specs.declared.due.Text.{Text}
use Rattle.pop_session.specs.declared.due.Text.TheVariants.{Wrong, InUse, Later, Gone, Bye, Remaining}
use Rattle.pop_session.specs.Slots.{listed_slot}
use Rattle.pop_session.specs.Shown.{talk_state_of, login_in}
use Rattle.pop_session.specs.Dues.{text_of, Says, items_told}
use Rattle.pop_session.specs.Follows.{Follows, WaitsFor, Stands, Goes, user_of_login}
use Rattle.pop_session.proofs.Messages.{text}
use Rattle.pop_session.proofs.Tables.{ready_none, down_none}
use Rattle.pop_session.proofs.Marks.{listed_alike}
use Rattle.pop_session.proofs.Units.{session, entered_more, let_none, else_none}

-- the line has no CRLF
pub text_none : (line : Text) → HasNoCrlf (text_of line)
text_none Wrong = text (codes "-ERR name or secret is wrong") refl
text_none InUse = text (codes "-ERR [IN-USE] maildrop is open elsewhere") refl
text_none Later = text (codes "-ERR [SYS/TEMP] try again later") refl
text_none Gone = text (codes "-ERR message was deleted") refl
text_none Bye = text (codes "+OK bye") refl
text_none Remaining = text (codes "-ERR [SYS/TEMP] some messages may remain") refl

-- a reply to an answer, which lets nobody in, and leaves the session so
pub record SaysSo (reply : List (List ℕ)) (unit : Unit) (call : calls.Call) (answer : calls.Answer) (standing : TalkState → Standing) : Type 0 where
  pub reply_is : RepliesTo unit call answer reply
  pub nobody : let_in (Some call) (Some answer) ≡ None
  pub leaves : (state : TalkState) → answered state call answer ≡ standing state

-- who was let in once the answer came
module _ (stage : Stage) (plain : Session) (entered : entered_as plain.whole ≡ user_of_login (login_in stage)) (waits : WaitsFor (talk_state_of stage) plain) where
  before_it : entered_as waits.before ≡ user_of_login (login_in stage)
  before_it =
      let all : entered_as plain.whole ≡ or_else (entered_as waits.before) (let_in waits.one.call waits.one.answer) = ap entered_as waits.whole ∙ entered_more waits.before waits.one in
      let none : let_in waits.one.call waits.one.answer ≡ None = ap (let_in waits.one.call) waits.unanswered ∙ let_none waits.one.call in
      sym (all ∙ ap (or_else (entered_as waits.before)) none ∙ else_none (entered_as waits.before)) ∙ entered

  pub then_entered : (answer : calls.Answer) (reply : List (List ℕ))
      → entered_as (waits.before ++ with_answer waits.one answer reply ∷ []) ≡ or_else (user_of_login (login_in stage)) (let_in (Some waits.call) (Some answer))
  then_entered answer reply =
      entered_more waits.before (with_answer waits.one answer reply)
      ∙ ap (or_else (entered_as waits.before)) (ap (λ (c : Option calls.Call). let_in c (Some answer)) waits.asks)
      ∙ ap (λ (o : Option (List ℕ)). or_else o (let_in (Some waits.call) (Some answer))) before_it

-- The greeting.
pub greets : (plan : Plan) (node boot number seconds : ℕ) (stage : Stage) (cutter : Shown)
    → Goes plan (session node boot number seconds turn.Greets stage cutter) Said (sent_line (ready_text node boot number seconds)) (session node boot number seconds turn.Hears stage cutter)
greets plan node boot number seconds stage cutter plain due follows =
    let At : moves.Due → Type 0 = λ d. Moves (Follows (session node boot number seconds turn.Hears stage cutter)) (ready_text node boot number seconds) plan plain d Said (sent_line (ready_text node boot number seconds)) in
    subst At (sym follows.stands.0) (record {
      says = refl;
      line = ready_none node boot number seconds;
      goes_on = record { speaks = follows.speaks; node = follows.node; limit = follows.limit; pends = follows.pends; others = follows.others; entered = follows.entered; stands = (refl, follows.stands.1) };
    })

-- The reply to an answer.
module _ (plan : Plan) (node boot number seconds : ℕ) (stage : Stage) (cutter : Shown) where
  abbrev now_at : Turn → PopSession
  now_at now = session node boot number seconds now stage cutter

  -- a reply after which the session stands so
  pub says_reply : (reply : List (List ℕ)) (due_it : Due) (now : Turn) (standing : TalkState → Standing) → All HasNoCrlf reply
      → ((unit : Unit) (call : calls.Call) (answer : calls.Answer) → Says due_it unit (talk_state_of stage) call answer → SaysSo reply unit call answer standing)
      → ((plain : Session) → Stands now (talk_state_of stage) (record plain { standing = standing (talk_state_of stage) }) Nothing)
      → Goes plan (now_at (turn.Replies due_it)) Said (flat_map sent_line reply) (now_at now)
  says_reply reply due_it now standing lines is stands plain due follows =
      let answer = follows.stands.0 in
      let waits = follows.stands.1 in
      let says = is waits.one.unit waits.call answer follows.stands.3 in
      let At : moves.Due → Type 0 = λ d. Moves (Follows (now_at now)) (ready_text node boot number seconds) plan plain d Said (flat_map sent_line reply) in
      let whole : List Exchange = waits.before ++ with_answer waits.one answer reply ∷ [] in
      let Of : Standing → Type 0 = λ s. Stands now (talk_state_of stage) (record plain { whole = whole; standing = s }) Nothing in
      subst At (sym follows.stands.2) (record {
        call = waits.call;
        reply = reply;
        after = record plain { whole = whole; standing = answered (talk_state_of stage) waits.call answer };
        did = (waits.before, waits.one, talk_state_of stage, waits.whole, waits.standing, says.reply_is, refl, refl);
        says = refl;
        lines = lines;
        goes_on = record {
          speaks = follows.speaks;
          node = follows.node;
          limit = follows.limit;
          pends = follows.pends;
          others = follows.others;
          entered = then_entered stage plain follows.entered waits answer reply ∙ ap (or_else (user_of_login (login_in stage))) says.nobody ∙ else_none (user_of_login (login_in stage));
          stands = subst Of (sym (says.leaves (talk_state_of stage))) (stands (record plain { whole = whole }));
        };
      })

  -- one line
  pub says_on : (line : Text) → Goes plan (now_at (turn.Replies (dues.Said line))) Said (flat_map sent_line (one_line (text_of line))) (now_at turn.Hears)
  says_on line =
      says_reply (one_line (text_of line)) (dues.Said line) turn.Hears Hearing (All-cons HasNoCrlf (text_of line) [] (text_none line) (All-nil HasNoCrlf))
      (λ unit call answer says. record { reply_is = says.reply; nobody = says.nobody; leaves = says.leaves }) (λ plain. (refl, refl))

  pub says_last : (line : Text) → Goes plan (now_at (turn.Replies (dues.Last line))) Said (flat_map sent_line (one_line (text_of line))) (now_at turn.Ended)
  says_last line =
      says_reply (one_line (text_of line)) (dues.Last line) turn.Ended (λ state. EndedByQuit) (All-cons HasNoCrlf (text_of line) [] (text_none line) (All-nil HasNoCrlf))
      (λ unit call answer says. record { reply_is = says.reply; nobody = says.nobody; leaves = says.leaves }) (λ plain. (refl, tt))

  -- a message
  pub shows : (message : List ℕ) (asked : Option ℕ) (reply : List (List ℕ)) → ShowsPart asked message reply → All HasNoCrlf reply
      → Goes plan (now_at (turn.Replies (dues.Shown message asked))) Said (flat_map sent_line reply) (now_at turn.Hears)
  shows message asked reply part lines =
      says_reply reply (dues.Shown message asked) turn.Hears Hearing lines (λ unit call answer says. of_fetch unit call answer says.0.0 says.0.1 says.0.2 says.1 says.2) (λ plain. (refl, refl))
    where
      of_fetch : (unit : Unit) (call : calls.Call) (answer : calls.Answer) (user : List ℕ) (id : Id) → call ≡ calls.Call.Fetch user id → answer ≡ calls.Answer.Part message → asked_lines unit ≡ asked
          → SaysSo reply unit call answer Hearing
      of_fetch unit call answer user id is of_part so =
          let Of : calls.Call → Type 0 = λ c. SaysSo reply unit c answer Hearing in
          let With : calls.Answer → Type 0 = λ a. SaysSo reply unit (calls.Call.Fetch user id) a Hearing in
          let Asks : Option ℕ → Type 0 = λ a. ShowsPart a message reply in
          subst Of (sym is) (subst With (sym of_part) (record { reply_is = subst Asks (sym so) part; nobody = refl; leaves = λ state. refl }))

-- nobody was let in before
no_login : (stage : Stage) (named : Option (List ℕ)) → talk_state_of stage ≡ Entering named → user_of_login (login_in stage) ≡ None
no_login (Authorization user) named is = refl
no_login (Transaction login listing) named is = cc

-- TRANSACTION begins.
pub enters : (plan : Plan) (node boot number seconds : ℕ) (stage : Stage) (cutter : Shown) (login : Login) (listed : Answer)
    → Goes plan (session node boot number seconds (turn.Replies (dues.Entered login listed)) stage cutter) Said (flat_map sent_line (one_line entered_text))
    (session node boot number seconds turn.Hears (Transaction login (map listed_slot (items_told listed))) cutter)
enters plan node boot number seconds stage cutter login listed plain due follows =
    let answer = follows.stands.0 in
    let waits = follows.stands.1 in
    let says = follows.stands.3 in
    let given = says.1.0 in
    let After : PopSession = session node boot number seconds turn.Hears (Transaction login (map listed_slot (items_told listed))) cutter in
    let At : moves.Due → Type 0 = λ d. Moves (Follows (session node boot number seconds turn.Hears (Transaction login (map listed_slot (items_told listed))) cutter)) (ready_text node boot number seconds) plan plain d Said
    (flat_map sent_line (one_line entered_text)) in
    let IsTold : calls.Call → calls.Answer → Type 0 = λ c a. RepliesTo waits.one.unit c a (one_line entered_text) × (answered (talk_state_of stage) c a ≡ Hearing (Reading login.user (listed_slots (map item_seen (items_told listed)))))
    × (let_in (Some c) (Some a) ≡ Some login.user) in
    let told : IsTold waits.call answer =
    subst (λ c. IsTold c answer) (sym says.1.1) (subst (λ a. IsTold (calls.Call.Login login.user given) a) (sym says.2) (refl, refl, refl)) in
    let whole : List Exchange = waits.before ++ with_answer waits.one answer (one_line entered_text) ∷ [] in
    subst At (sym follows.stands.2) (record {
      call = waits.call;
      reply = one_line entered_text;
      after = record plain { whole = whole; standing = answered (talk_state_of stage) waits.call answer };
      did = (waits.before, waits.one, talk_state_of stage, waits.whole, waits.standing, told.0, refl, refl);
      says = refl;
      lines = All-cons HasNoCrlf entered_text [] (text (codes "+OK maildrop open") refl) (All-nil HasNoCrlf);
      goes_on = record {
        speaks = follows.speaks;
        node = follows.node;
        limit = follows.limit;
        pends = follows.pends;
        others = follows.others;
        entered =
            then_entered stage plain follows.entered waits answer (one_line entered_text)
            ∙ ap (λ (o : Option (List ℕ)). or_else o (let_in (Some waits.call) (Some answer))) (no_login stage says.0.0 says.0.1) ∙ told.2;
        stands = (refl, told.1 ∙ ap (λ s. Hearing (Reading login.user s)) (sym (listed_alike (items_told listed))));
      };
    })

-- the node goes down
pub falls : (node boot number seconds : ℕ) (now : Turn) (stage : Stage) (cutter : Shown) (plain : Session) (due : moves.Due) → Follows (session node boot number seconds now stage cutter) plain due
    → IsOn plain.standing → Fell (Follows (session node boot number seconds turn.Ended stage cutter)) plain (sent_line (down_text node))
falls node boot number seconds now stage cutter plain due follows on =
    let says : down_line plain.protocol plain.node ≡ down_text node = ap (λ (p : Protocol). down_line p plain.node) follows.speaks ∙ ap down_text follows.node in
    record {
      after = record plain { standing = EndedDown };
      did = λ plan. (on, refl, refl);
      says = ap sent_line (sym says);
      line = subst HasNoCrlf (sym says) (down_none node);
      goes_on = record { speaks = follows.speaks; node = follows.node; limit = follows.limit; pends = follows.pends; others = follows.others; entered = follows.entered; stands = (refl, tt) };
    }

-- octets more
pub is_fed : (node boot number seconds : ℕ) (now : Turn) (stage : Stage) (old new : Shown) (piece : List ℕ) (plain : Session) (due : moves.Due) → new.limit ≡ old.limit
    → ((pending : List ℕ) → Pending old pending → Pending new (pending ++ piece)) → Follows (session node boot number seconds now stage old) plain due
    → Fed (Follows (session node boot number seconds now stage new)) plain due piece
is_fed node boot number seconds now stage old new piece plain due limit pends follows = record {
  speaks = follows.speaks;
  node = follows.node;
  limit = limit ∙ follows.limit;
  pends = pends plain.rest follows.pends;
  others = follows.others;
  entered = follows.entered;
  stands = stands_fed now (talk_state_of stage) plain due piece follows.stands;
}
  where
    waits : (state : TalkState) (plain : Session) (piece : List ℕ) → WaitsFor state plain → WaitsFor state (record plain { octets = plain.octets ++ piece; rest = plain.rest ++ piece })
    waits state plain piece it = record { call = it.call; standing = it.standing; before = it.before; one = it.one; whole = it.whole; asks = it.asks; unanswered = it.unanswered }

    stands_fed : (now : Turn) (state : TalkState) (plain : Session) (due : moves.Due) (piece : List ℕ) → Stands now state plain due
        → Stands now state (record plain { octets = plain.octets ++ piece; rest = plain.rest ++ piece }) due
    stands_fed turn.Greets state plain due piece stands = stands
    stands_fed turn.Hears state plain due piece stands = stands
    stands_fed (turn.Waits asked) state plain due piece stands = (waits state plain piece stands.0, stands.1, stands.2)
    stands_fed (turn.Replies says) state plain due piece stands = (stands.0, waits state plain piece stands.1, stands.2, stands.3)
    stands_fed turn.Ended state plain due piece stands = stands

-- as whom a session leaves
pub leaves_as : (session : PopSession) (plain : Session) (due : moves.Due) → Follows session plain due → user_of_login (login_in session.stage) ≡ entered_as (exchanges_of plain)
leaves_as session plain due follows =
    sym follows.entered ∙ ap entered_as (sym (append-nil plain.whole) ∙ ap (λ (l : List Exchange). plain.whole ++ l) (sym follows.others))
