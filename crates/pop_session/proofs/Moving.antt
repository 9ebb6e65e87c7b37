-- What a move does, in all that is said of it.
use Rattle.std.proofs.Common.{◌≡◌, ◌<◌, ◌≤◌, ◌+◌, ℕ, Option, List, [], ◌++◌, length, flat_map, map, refl, sym, ap, subst, ◌∙◌, arith}
use Rattle.std.specs.Prelude.{All, Option, Some, None, Result, Ok, Err, IfOk, MatchOption, slice_get}
use Rattle.std.proofs.lemmas.List.{length-drop}
use Rattle.mail_model.specs.Lines.{HasNoCrlf, sent_line}
use Rattle.mail_model.specs.Plan.{Plan}
use Rattle.mail_model.specs.Session.{Unit}
use Rattle.mail_model.specs.PopReplies.{one_line, ready_text, banner_text}
use Rattle.mail_model.specs.Maildrop.{entered_text}
use Rattle.session_model.specs.Calls as calls
use Rattle.session_model.specs.Calls.{IsReply, ShowsPart}
use Rattle.session_model.specs.Talk.{TalkState, Standing}
use Rattle.session_model.specs.Talk.Standing.{Hearing, Waiting, EndedByQuit, EndedDown, EndedClosed}
use Rattle.session_model.specs.Sessions.{Session}
use Rattle.call_tickets.specs.Moves as moves
use Rattle.call_tickets.specs.Moves.Due.{Nothing, Reply}
use Rattle.call_tickets.specs.declared.step.Move.{Move}
use Rattle.call_tickets.specs.declared.step.Move.TheVariants.{Said, Idle}
use Rattle.mail_base.specs.declared.item.Item.{Item}
use Rattle.call_tickets.specs.declared.answer.Answer.{Answer}
use Rattle.dot_text.specs.Shown.{Shown, Finds, FindsNone, IsLine, behind_line, line_length}
use Rattle.dot_text.specs.declared.cutter.Line.{Line as Found}
use Rattle.pop_session.specs.declared.session.PopSession.{PopSession}
use Rattle.pop_session.specs.declared.session.Turn.{Turn}
use Rattle.pop_session.specs.declared.session.Turn.TheVariants as turn
use Rattle.pop_session.specs.declared.stage.Login.{Login}
use Rattle.pop_session.specs.declared.stage.Stage.{Stage}
use Rattle.pop_session.specs.declared.stage.Stage.TheVariants.{Authorization, Transaction}
use Rattle.pop_session.specs.declared.stage.Heard.{Heard}
use Rattle.pop_session.specs.declared.stage.Heard.TheVariants as hears
use Rattle.pop_session.specs.declared.due.Asked.{Asked}
use Rattle.pop_session.specs.declared.due.Due.{Due}
use Rattle.pop_session.specs.declared.due.Due.TheVariants as dues
use Rattle.pop_session.specs.declared.due.Text.{Text}
use Rattle.pop_session.specs.Slots.{items_of_slots, listed_slot}
use Rattle.pop_session.specs.Shown.{login_in, listed_in, name_in, slots_in, talk_state_of, reply_in, IsOwn, HearsLine}
use Rattle.pop_session.specs.Dues.{text_of, IsAsked, Says, items_told}
use Rattle.pop_session.specs.Follows.{Follows, Goes, Moved, LeadsTurn, IsOwnMove, due_count, left, told_login, told_items, login_of, items_of}
use Rattle.pop_session.proofs.Units.{session, hears_none, hears_line}
use Rattle.pop_session.proofs.Replying.{greets, says_on, says_last, shows, enters}
use Rattle.pop_session.proofs.Marks.{listed_items}

-- something was said that is no line of its client
said : (plan : Plan) (old new : PopSession) (octets : List ℕ) → Goes plan old Said octets new → left new < left old → left new + due_count old.turn ≤ left old → login_of new ≡ login_of old → items_of new ≡ items_of old
    → Moved plan old Said octets new
said plan old new octets goes less no_more login items = record { goes = goes; less = λ busy. less; no_more = no_more; bounded = λ plain due follows is. cc; own = tt; login = login; items = items }

pub moved_greet : (plan : Plan) (node boot number seconds : ℕ) (now : Turn) (stage : Stage) (cutter : Shown) → now ≡ turn.Greets
    → Moved plan (session node boot number seconds now stage cutter) Said (sent_line (ready_text node boot number seconds)) (session node boot number seconds turn.Hears stage cutter)
moved_greet plan node boot number seconds now stage cutter is =
    let At : Turn → Type 0 = λ t. Moved plan (session node boot number seconds t stage cutter) Said (sent_line (ready_text node boot number seconds)) (session node boot number seconds turn.Hears stage cutter) in
    subst At (sym is) (said plan _ _ _ (greets plan node boot number seconds stage cutter) (omega arith) (omega arith) refl refl)

-- The reply to an answer.
module _ (plan : Plan) (node boot number seconds : ℕ) (now : Turn) (stage : Stage) (cutter : Shown) where
  abbrev old : PopSession
  old = session node boot number seconds now stage cutter

  abbrev next_at : Turn → PopSession
  next_at later = session node boot number seconds later stage cutter

  pub moved_on : (line : Text) → now ≡ turn.Replies (dues.Said line) → Moved plan old Said (flat_map sent_line (one_line (text_of line))) (next_at turn.Hears)
  moved_on line is =
      let At : Turn → Type 0 = λ t. Moved plan (next_at t) Said (flat_map sent_line (one_line (text_of line))) (next_at turn.Hears) in
      subst At (sym is) (said plan _ _ _ (says_on plan node boot number seconds stage cutter line) (omega arith) (omega arith) refl refl)

  pub moved_last : (line : Text) → now ≡ turn.Replies (dues.Last line) → Moved plan old Said (flat_map sent_line (one_line (text_of line))) (next_at turn.Ended)
  moved_last line is =
      let At : Turn → Type 0 = λ t. Moved plan (next_at t) Said (flat_map sent_line (one_line (text_of line))) (next_at turn.Ended) in
      subst At (sym is) (said plan _ _ _ (says_last plan node boot number seconds stage cutter line) (omega arith) (omega arith) refl refl)

  pub moved_shows : (message : List ℕ) (asked : Option ℕ) (reply : List (List ℕ)) → now ≡ turn.Replies (dues.Shown message asked) → ShowsPart asked message reply → All HasNoCrlf reply
      → Moved plan old Said (flat_map sent_line reply) (next_at turn.Hears)
  moved_shows message asked reply is part lines =
      let At : Turn → Type 0 = λ t. Moved plan (next_at t) Said (flat_map sent_line reply) (next_at turn.Hears) in
      subst At (sym is) (said plan _ _ _ (shows plan node boot number seconds stage cutter message asked reply part lines) (omega arith) (omega arith) refl refl)

  pub moved_enters : (login : Login) (listed : Answer) → now ≡ turn.Replies (dues.Entered login listed)
      → Moved plan old Said (flat_map sent_line (one_line entered_text)) (session node boot number seconds turn.Hears (Transaction login (map listed_slot (items_told listed))) cutter)
  moved_enters login listed is =
      let At : Turn → Type 0 = λ t. Moved plan (next_at t) Said (flat_map sent_line (one_line entered_text)) (session node boot number seconds turn.Hears (Transaction login (map listed_slot (items_told listed))) cutter) in
      subst At (sym is) (said plan _ _ _ (enters plan node boot number seconds stage cutter login listed) (omega arith) (omega arith) refl (listed_items (items_told listed)))

-- The next line.
module _ (plan : Plan) (node boot number seconds : ℕ) (now : Turn) (stage later : Stage) (cutter new : Shown) (is : now ≡ turn.Hears) where
  pub moved_none : FindsNone cutter new → Moved plan (session node boot number seconds now stage cutter) Idle [] (session node boot number seconds now stage new)
  moved_none finds =
      let At : Turn → Type 0 = λ t. Moved plan (session node boot number seconds t stage cutter) Idle [] (session node boot number seconds t stage new) in
      subst At (sym is) (record {
        goes = hears_none plan node boot number seconds stage later cutter new finds;
        less = λ busy. absurd busy;
        no_more = omega (arith, finds.fewer);
        bounded = λ plain due follows idle. omega (arith, finds.short, follows.limit);
        own = tt;
        login = refl;
        items = refl;
      })

  listed_is : (s : Stage) → listed_in s ≡ items_of_slots (slots_in s)
  listed_is (Authorization user) = refl
  listed_is (Transaction login listing) = refl

  -- what is asked is its own
  own_move : (heard : Heard) (next : Turn) (did : Move) → LeadsTurn heard (next, did) → IsOwn (banner_text node boot number seconds) (name_in stage) (slots_in stage) heard → IsOwnMove (session node boot number seconds turn.Hears stage cutter) did
  own_move (hears.Said reply) next did begins own = let At : Move → Type 0 = IsOwnMove (session node boot number seconds turn.Hears stage cutter) in subst At (sym begins.1) tt
  own_move (hears.Ended reply) next did begins own = let At : Move → Type 0 = IsOwnMove (session node boot number seconds turn.Hears stage cutter) in subst At (sym begins.1) tt
  own_move (hears.LogsIn user kept proof) next did begins own = let At : Move → Type 0 = IsOwnMove (session node boot number seconds turn.Hears stage cutter) in subst At (sym begins.1) own.1
  own_move (hears.Fetches user number_of lines item) next did begins own =
      let At : Move → Type 0 = IsOwnMove (session node boot number seconds turn.Hears stage cutter) in
      subst At (sym begins.1) (own.1.0, item, ap (λ (l : List Item). slice_get l own.1.0) (listed_is stage) ∙ own.1.1, refl, refl)
  own_move (hears.Deletes user items) next did begins own = let At : Move → Type 0 = IsOwnMove (session node boot number seconds turn.Hears stage cutter) in subst At (sym begins.1) own.1

  quiet : (heard : Heard) (next : Turn) (did : Move) → LeadsTurn heard (next, did) → (due_count next ≡ 0) × (did ≡ Idle → ⊥)
      × ((s : Stage) → told_login next s ≡ login_in s) × ((s : Stage) → told_items next s ≡ listed_in s)
  quiet (hears.Said reply) next did begins = (ap due_count begins.0, λ idle. let both = sym begins.1 ∙ idle in cc (both), λ s. ap (λ t. told_login t s) begins.0, λ s. ap (λ t. told_items t s) begins.0)
  quiet (hears.Ended reply) next did begins = (ap due_count begins.0, λ idle. let both = sym begins.1 ∙ idle in cc (both), λ s. ap (λ t. told_login t s) begins.0, λ s. ap (λ t. told_items t s) begins.0)
  quiet (hears.LogsIn user kept proof) next did begins = (ap due_count begins.0, λ idle. let both = sym begins.1 ∙ idle in cc (both), λ s. ap (λ t. told_login t s) begins.0, λ s. ap (λ t. told_items t s) begins.0)
  quiet (hears.Fetches user number_of lines item) next did begins = (ap due_count begins.0, λ idle. let both = sym begins.1 ∙ idle in cc (both), λ s. ap (λ t. told_login t s) begins.0, λ s. ap (λ t. told_items t s) begins.0)
  quiet (hears.Deletes user items) next did begins = (ap due_count begins.0, λ idle. let both = sym begins.1 ∙ idle in cc (both), λ s. ap (λ t. told_login t s) begins.0, λ s. ap (λ t. told_items t s) begins.0)

  pub moved_line : (found : Found) → Finds cutter found cutter → new ≡ behind_line cutter found → (heard : Heard) (next : Turn) (did : Move) (octets : List ℕ) → LeadsTurn heard (next, did)
      → octets ≡ flat_map sent_line (reply_in heard) → IsOwn (banner_text node boot number seconds) (name_in stage) (slots_in stage) heard → login_in later ≡ login_in stage → listed_in later ≡ listed_in stage
      → ((line : List ℕ) → HasNoCrlf line → IsLine cutter found line → cutter.limit ≡ 1024 → HearsLine (banner_text node boot number seconds) plan stage line heard later)
      → Moved plan (session node boot number seconds now stage cutter) did octets (session node boot number seconds next later new)
  moved_line found finds cut heard next did octets begins says own login items means =
      let At : Turn → Type 0 = λ t. Moved plan (session node boot number seconds t stage cutter) did octets (session node boot number seconds next later new) in
      let calm = quiet heard next did begins in
      subst At (sym is) (record {
        goes = hears_line plan node boot number seconds stage later cutter new found finds cut heard next did octets begins says means;
        less = λ busy. omega (arith, finds.within, calm.0, ap (λ (s : Shown). length s.rest) cut, length-drop (line_length found + 2) cutter.rest);
        no_more = omega (arith, finds.within, calm.0, ap (λ (s : Shown). length s.rest) cut, length-drop (line_length found + 2) cutter.rest);
        bounded = λ plain due follows idle. absurd (calm.1 idle);
        own = own_move heard next did begins own;
        login = calm.2 later ∙ login;
        items = calm.3 later ∙ items;
      })

-- nothing is taken where a line is found
pub found_same : (old new : Shown) (found : Found) → Finds old found new → Finds old found old
found_same old new found finds = record { same = refl; within = finds.within; gives = finds.gives }

-- to look for a line changes nothing of what the session is
pub found_follows : (node boot number seconds : ℕ) (now : Turn) (stage : Stage) (old new : Shown) (found : Option Found) (plain : Session) (due : moves.Due)
    → MatchOption found (FindsNone old new) (λ line. Finds old line new) → Follows (session node boot number seconds now stage old) plain due → Follows (session node boot number seconds now stage new) plain due
found_follows node boot number seconds now stage old new None plain due finds follows = record {
  speaks = follows.speaks;
  node = follows.node;
  limit = finds.limit ∙ follows.limit;
  pends = (finds.stays plain.rest follows.pends).pends;
  others = follows.others;
  entered = follows.entered;
  stands = follows.stands;
}
found_follows node boot number seconds now stage old new (Some line) plain due finds follows =
    let At : Shown → Type 0 = λ c. Follows (session node boot number seconds now stage c) plain due in subst At (sym finds.same) follows

-- the call that a session waits for
call_in : Standing → calls.Call
call_in (Hearing state) = calls.Call.Strike [] []
call_in (Waiting state call) = call
call_in EndedByQuit = calls.Call.Strike [] []
call_in EndedDown = calls.Call.Strike [] []
call_in EndedClosed = calls.Call.Strike [] []

-- the answer came
pub takes_answer : (node boot number seconds : ℕ) (now : Turn) (stage : Stage) (cutter : Shown) (asked : Asked) (due_it : Due) (answer : calls.Answer) (plain : Session) (state : TalkState) (call : calls.Call)
    (reply : List (List ℕ)) → now ≡ turn.Waits asked → ((unit : Unit) (state : TalkState) (call : calls.Call) (reply : List (List ℕ)) → IsAsked asked unit state call → IsReply call answer reply → Says due_it unit state call answer)
    → Follows (session node boot number seconds now stage cutter) plain Nothing → plain.standing ≡ Waiting state call → IsReply call answer reply
    → Follows (session node boot number seconds (turn.Replies due_it) stage cutter) plain (Reply answer)
unfolding call_in
takes_answer node boot number seconds now stage cutter asked due_it answer plain state call reply is says before waiting replied =
    let At : Turn → Type 0 = λ t. Follows (session node boot number seconds t stage cutter) plain Nothing in
    let follows : Follows (session node boot number seconds (turn.Waits asked) stage cutter) plain Nothing = subst At is before in
    let waits = follows.stands.0 in
    let same : call ≡ waits.call = ap call_in (sym waiting ∙ waits.standing) in
    let Of : calls.Call → Type 0 = λ c. IsReply c answer reply in
    record {
      speaks = follows.speaks;
      node = follows.node;
      limit = follows.limit;
      pends = follows.pends;
      others = follows.others;
      entered = follows.entered;
      stands = (answer, waits, refl, says waits.one.unit (talk_state_of stage) waits.call reply follows.stands.2 (subst Of same replied));
    }

-- what holds by any plan holds by this one
pub of_plan : (plan : Plan) (old new : PopSession) (before after : List ℕ) (E : Type 0) (result : Result Move E)
    → IfOk result (λ did. (octets : List ℕ) × (after ≡ before ++ octets) × ((any : Plan) → Moved any old did octets new))
    → IfOk result (λ did. (octets : List ℕ) × (after ≡ before ++ octets) × Moved plan old did octets new)
of_plan plan old new before after E (Ok did) holds = (holds.0, holds.1, holds.2 plan)
of_plan plan old new before after E (Err error) holds = holds
