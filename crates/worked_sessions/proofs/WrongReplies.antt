-- The promises are false of a reply that lacks its last line, and of `+OK bye` where the copy is still here.
use Rattle.std.proofs.Common.{◌≡◌, inl, inr, ◌≤◌, ◌-◌, ℕ, zero, suc, List, [], ◌∷◌, ◌++◌, length, Option, Some, None, true, refl, sym, ap, ◌∙◌, subst, arith, codes, slice_get, append_assoc, length-append}
use Rattle.std.proofs.lemmas.Option.{none-some}
use Rattle.std.proofs.lemmas.List.Elements.{All-head}
use Rattle.mail_model.specs.Identity.{Id, Value, State}
use Rattle.mail_model.specs.Identity.Key.{Message}
use Rattle.mail_model.specs.Identity.Value.{Here, Gone}
use Rattle.mail_model.specs.Deleted.{Marks, Unmarks, KeepMarks, IsMarked}
use Rattle.mail_model.specs.Lines.{sent_line}
use Rattle.mail_model.specs.Maildrop.{bye_text, unmarked_text, entered_text, deletion_of}
use Rattle.mail_model.specs.Pop.{pop_command_of}
use Rattle.mail_model.specs.PopReplies.{marked_ids, deleted_text, one_line}
use Rattle.mail_model.specs.Record.{Record, SaysGone, IsAmongRecords}
use Rattle.mail_model.specs.Record.Record.{Stated}
use Rattle.mail_model.specs.Session.{Unit, silent}
use Rattle.mail_model.specs.Session.Unit.{Line}
use Rattle.mail_model.specs.Smtp.{extension_lines, extended_text}
use Rattle.mail_model.specs.Plan.{Plan}
use Rattle.mail_model.specs.Site.{nth_stamp}
use Rattle.mail_model.specs.Tape.{Protocol}
use Rattle.mail_model.specs.Tape.Protocol.{Smtp, Pop}
use Rattle.session_model.specs.Calls.{Answer}
use Rattle.session_model.specs.Calls.Call.{Strike}
use Rattle.session_model.specs.Copies.{OnNode, AreGoneOn}
use Rattle.session_model.specs.Facts.{IsIn}
use Rattle.session_model.specs.Talk.{TalkState, Exchange, Standing, TalkGoes, opening_state, lead_of, line_lead, heard, standing_asked, stands, stands_by, farewell, replies}
use Rattle.session_model.specs.Talk.TalkState.{Mailing, Entering, Reading}
use Rattle.session_model.specs.Talk.Standing.{Hearing, Waiting, EndedByQuit, EndedDown, EndedClosed}
use Rattle.session_model.specs.Reading.{line_of, seen_exchange, all_seen}
use Rattle.session_model.specs.Readings.{view, views}
use Rattle.session_model.specs.Sessions.{Session, IsSession, IsCut, AreSessions, AreAnswered}
use Rattle.session_model.specs.Promises.{DeletedByQuit}
use Rattle.session_model.proofs.Readings.{one_reading}
use Rattle.worked_sessions.specs.OneMessage.{small_plan, small_records}
use Rattle.worked_sessions.specs.OneDeletion.{before_quit, last_quit, deleting_octets}
use Rattle.worked_sessions.specs.WrongReplies.{WrongReplies, extended_lines, extended_entries, bye_lines, bye_entries}
use Rattle.worked_sessions.proofs.Lines.{whole_line}
use Rattle.worked_sessions.proofs.Alike.{shown_at}
use Rattle.worked_sessions.proofs.OneDeletion.{one_deletion_asked}

-- a reply without its last line

abbrev extended : Exchange
extended = record { unit = Line (codes "EHLO c.example"); call = None; answer = None; reply = extension_lines 1 ++ extended_text ∷ [] }

-- the session of which the transcript shows so much
abbrev halved : Session
halved = record {
  protocol = Smtp;
  node = 1;
  octets = sent_line (codes "EHLO c.example");
  whole = [];
  others = extended ∷ [];
  standing = Hearing (Mailing (record silent { greeting = Some (record { name = codes "c.example"; extended = true }) }));
  rest = [];
}

halved_is : IsSession small_plan extended_lines extended_entries 1 halved
halved_is = record {
  talk = record {
    before = halved.standing;
    goes = ([], record { is_unit = whole_line (codes "EHLO c.example") refl; whole = refl; led = (refl, refl, refl) }, (refl, refl));
    ends = refl;
  };
  fed = refl;
  gets = record { part = extension_lines 1; missing = extended_text ∷ []; are = refl; cut = (refl, λ e. omega (arith, ap length e)) };
}

-- where nothing was replied there is no line of a reply
no_reply : (xs : List Exchange) → views xs ≡ [] → replies xs ≡ []
no_reply [] e = refl
no_reply (one ∷ xs) e = by (no_reply xs) one.reply refl
  where
    by : (views xs ≡ [] → replies xs ≡ []) → (reply : List (List ℕ)) → one.reply ≡ reply → replies (one ∷ xs) ≡ []
    by later [] is = ap (λ (r : List (List ℕ)). r ++ replies xs) is ∙ later (sym (ap (λ (r : List (List ℕ)). view one.unit r ++ views xs) is) ∙ e)
    by later (first ∷ rest) is = absurd (omega (arith, ap length (sym (ap (λ (r : List (List ℕ)). view one.unit r ++ views xs) is) ∙ e)))

-- a session that ends says one line at most that answers nothing
one_line_at_most : (protocol : Protocol) (node : ℕ) (standing : Standing) → length (farewell protocol node standing) ≤ 1
one_line_at_most protocol node (Hearing state) = omega arith
one_line_at_most protocol node (Waiting state call) = omega arith
one_line_at_most protocol node EndedByQuit = omega arith
one_line_at_most protocol node EndedDown = omega arith
one_line_at_most protocol node EndedClosed = omega arith

lacks : (sessions : List Session) → AreSessions small_plan extended_lines extended_entries sessions → AreAnswered sessions → ⊥
lacks sessions are answered =
    let s = shown_at small_plan extended_lines extended_entries sessions are 0 Smtp 1 refl in
    let same = one_reading small_plan extended_lines extended_entries 1 s.session halved s.speaks s.there s.is halved_is in
    let got : extension_lines 1 ≡ s.is.gets.part = s.is.gets.are ∙ ap (λ (l : List (List ℕ)). l ++ s.is.gets.part) (no_reply s.session.whole same) in
    let last = farewell s.session.protocol s.session.node s.session.standing in
    let cut : last ≡ s.is.gets.part ++ s.is.gets.missing = subst (λ (o : List Exchange). IsCut o last s.is.gets.part s.is.gets.missing) (answered 1 s.session s.at).0 s.is.gets.cut in
    let three : 3 ≡ length s.is.gets.part = ap length got in
    omega (arith, three, ap length cut, length-append s.is.gets.part s.is.gets.missing, one_line_at_most s.session.protocol s.session.node s.session.standing)

-- a copy that is here behind `+OK bye`

-- where an exchange stands that was replied to
record At (unit : Unit) (reply : List (List ℕ)) (front back : List (Unit × List (List ℕ))) (xs : List Exchange) : Type 0 where
  before : List Exchange
  behind : List Exchange
  one : Exchange
  are : xs ≡ before ++ one ∷ behind
  same_unit : one.unit ≡ unit
  same_reply : one.reply ≡ reply
  fronts : views before ≡ front
  backs : views behind ≡ back

at_view : (xs : List Exchange) (front back : List (Unit × List (List ℕ))) (unit : Unit) (line : List ℕ) (lines : List (List ℕ)) → views xs ≡ front ++ (unit, line ∷ lines) ∷ back
    → At unit (line ∷ lines) front back xs
at_view [] [] back unit line lines e = absurd (omega (arith, ap length e))
at_view [] (x ∷ front) back unit line lines e = absurd (omega (arith, ap length e))
at_view (one ∷ xs) front back unit line lines e = by (λ front' e'. at_view xs front' back unit line lines e') one.reply refl front e
  where
    by : ((front' : List (Unit × List (List ℕ))) → views xs ≡ front' ++ (unit, line ∷ lines) ∷ back → At unit (line ∷ lines) front' back xs)
        → (reply : List (List ℕ)) → one.reply ≡ reply → (front' : List (Unit × List (List ℕ))) → views (one ∷ xs) ≡ front' ++ (unit, line ∷ lines) ∷ back → At unit (line ∷ lines) front' back (one ∷ xs)
    by later [] is front' e' =
        let f = later front' (sym (ap (λ (r : List (List ℕ)). view one.unit r ++ views xs) is) ∙ e') in
        record {
          before = one ∷ f.before;
          behind = f.behind;
          one = f.one;
          are = ap (λ (l : List Exchange). one ∷ l) f.are;
          same_unit = f.same_unit;
          same_reply = f.same_reply;
          fronts = ap (λ (r : List (List ℕ)). view one.unit r ++ views f.before) is ∙ f.fronts;
          backs = f.backs;
        }
    by later (first ∷ rest) is [] e' =
        let whole : (one.unit, first ∷ rest) ∷ views xs ≡ (unit, line ∷ lines) ∷ back = sym (ap (λ (r : List (List ℕ)). view one.unit r ++ views xs) is) ∙ e' in
        let pair : ◌≡◌ {A = Unit × List (List ℕ)} (one.unit, first ∷ rest) (unit, line ∷ lines) = cc whole in
        record {
          before = [];
          behind = xs;
          one = one;
          are = refl;
          same_unit = ap (λ (p : Unit × List (List ℕ)). p.0) pair;
          same_reply = is ∙ ap (λ (p : Unit × List (List ℕ)). p.1) pair;
          fronts = refl;
          backs = cc whole;
        }
    by later (first ∷ rest) is (x ∷ front') e' =
        let whole : (one.unit, first ∷ rest) ∷ views xs ≡ x ∷ (front' ++ (unit, line ∷ lines) ∷ back) = sym (ap (λ (r : List (List ℕ)). view one.unit r ++ views xs) is) ∙ e' in
        let head : (one.unit, first ∷ rest) ≡ x = cc whole in
        let f = later front' (cc whole) in
        record {
          before = one ∷ f.before;
          behind = f.behind;
          one = f.one;
          are = ap (λ (l : List Exchange). one ∷ l) f.are;
          same_unit = f.same_unit;
          same_reply = f.same_reply;
          fronts = ap (λ (r : List (List ℕ)). view one.unit r ++ views f.before) is ∙ (ap (λ (p : Unit × List (List ℕ)). p ∷ views f.before) head ∙ ap (λ (v : List (Unit × List (List ℕ))). x ∷ v) f.fronts);
          backs = f.backs;
        }

-- exchanges that were not replied to take no mark away
keeps : (xs : List Exchange) → views xs ≡ [] → KeepMarks (all_seen xs)
keeps [] e = tt
keeps (one ∷ xs) e = by (keeps xs) one.reply refl
  where
    by : (views xs ≡ [] → KeepMarks (all_seen xs)) → (reply : List (List ℕ)) → one.reply ≡ reply → KeepMarks (all_seen (one ∷ xs))
    by later [] is = (
      λ (unmarks : Unmarks (seen_exchange one)). let none : ◌≡◌ {A = List (List ℕ)} [] (one_line unmarked_text) = sym is ∙ unmarks.1 in omega (arith, ap length none),
      later (sym (ap (λ (r : List (List ℕ)). view one.unit r ++ views xs) is) ∙ e),
    )
    by later (first ∷ rest) is = absurd (omega (arith, ap length (sym (ap (λ (r : List (List ℕ)). view one.unit r ++ views xs) is) ∙ e)))

marked_among : (n : ℕ) (before : List Exchange) (one : Exchange) (behind : List Exchange) → Marks n (seen_exchange one) → KeepMarks (all_seen behind) → IsMarked n (all_seen (before ++ one ∷ behind))
marked_among n [] one behind marks keep = inl (marks, keep)
marked_among n (first ∷ before) one behind marks keep = inr (marked_among n before one behind marks keep)

-- behind QUIT nothing is heard
no_hearing : (plan : Plan) (state : TalkState) (one : Exchange) (user : List ℕ) (ids : List Id) (answer : Option Answer) → one.answer ≡ answer → (next : TalkState)
    → stands plan state one (line_lead user (deletion_of ids)) ≡ Hearing next → ⊥
no_hearing plan state one user [] answer is next e = (let never : EndedByQuit ≡ Hearing next = e in cc)
no_hearing plan state one user (id ∷ ids) None is next e =
    (let never : Waiting (heard plan state one.unit []) (Strike user (id ∷ ids)) ≡ Hearing next = sym (ap (λ (a : Option Answer). standing_asked (heard plan state one.unit []) (Strike user (id ∷ ids)) a) is) ∙ e in cc)
no_hearing plan state one user (id ∷ ids) (Some answer) is next e =
    (let never : EndedByQuit ≡ Hearing next = sym (ap (λ (a : Option Answer). standing_asked (heard plan state one.unit []) (Strike user (id ∷ ids)) a) is) ∙ e in cc)

quit_ends : (plan : Plan) (node : ℕ) (state : TalkState) (one : Exchange) → one.unit ≡ Line (codes "QUIT") → (next : TalkState) → stands_by plan node state one ≡ Hearing next → ⊥
quit_ends plan node (Mailing talk) one is next e = (let never : EndedByQuit ≡ Hearing next = sym (ap (λ (u : Unit). stands plan (Mailing talk) one (lead_of plan node (Mailing talk) u)) is) ∙ e in cc)
quit_ends plan node (Entering named) one is next e = (let never : EndedByQuit ≡ Hearing next = sym (ap (λ (u : Unit). stands plan (Entering named) one (lead_of plan node (Entering named) u)) is) ∙ e in cc)
quit_ends plan node (Reading user slots) one is next e = no_hearing plan (Reading user slots) one user (marked_ids slots) one.answer refl next
    (sym (ap (λ (u : Unit). stands plan (Reading user slots) one (lead_of plan node (Reading user slots) u)) is) ∙ e)

nothing_goes : (plan : Plan) (node : ℕ) (first : Standing) (octets : List ℕ) (one : Exchange) (more : List Exchange) (last : Standing) (rest : List ℕ) → ((next : TalkState) → first ≡ Hearing next → ⊥)
    → TalkGoes plan node first octets (one ∷ more) last rest → ⊥
nothing_goes plan node (Hearing state) octets one more last rest never goes = never state refl
nothing_goes plan node (Waiting state call) octets one more last rest never goes = goes
nothing_goes plan node EndedByQuit octets one more last rest never goes = goes
nothing_goes plan node EndedDown octets one more last rest never goes = goes
nothing_goes plan node EndedClosed octets one more last rest never goes = goes

quit_is_last : (plan : Plan) (node : ℕ) (first : Standing) (octets : List ℕ) (before : List Exchange) (quit : Exchange) (behind : List Exchange) (last : Standing) (rest : List ℕ)
    → TalkGoes plan node first octets (before ++ quit ∷ behind) last rest → quit.unit ≡ Line (codes "QUIT") → behind ≡ []
quit_is_last plan node (Hearing state) octets [] quit [] last rest goes is = refl
quit_is_last plan node (Hearing state) octets [] quit (one ∷ behind) last rest (left, next, goes) is =
    absurd (nothing_goes plan node (stands_by plan node state quit) left one behind last rest (quit_ends plan node state quit is) goes)
quit_is_last plan node (Hearing state) octets (one ∷ before) quit behind last rest (left, next, goes) is =
    quit_is_last plan node (stands_by plan node state one) left before quit behind last rest goes is
quit_is_last plan node (Waiting state call) octets [] quit behind last rest goes is = absurd goes
quit_is_last plan node (Waiting state call) octets (one ∷ before) quit behind last rest goes is = absurd goes
quit_is_last plan node EndedByQuit octets [] quit behind last rest goes is = absurd goes
quit_is_last plan node EndedByQuit octets (one ∷ before) quit behind last rest goes is = absurd goes
quit_is_last plan node EndedDown octets [] quit behind last rest goes is = absurd goes
quit_is_last plan node EndedDown octets (one ∷ before) quit behind last rest goes is = absurd goes
quit_is_last plan node EndedClosed octets [] quit behind last rest goes is = absurd goes
quit_is_last plan node EndedClosed octets (one ∷ before) quit behind last rest goes is = absurd goes

front_none : (xs ys : List Exchange) → xs ++ ys ≡ [] → xs ≡ []
front_none [] ys e = refl
front_none (x ∷ xs) ys e = absurd (omega (arith, ap length e))

-- no record of the node says that a copy is gone
here_still : (user : List ℕ) (id : Id) → SaysGone (Message user id) small_records → ⊥
here_still user id says = by says.gone
  where
    by : IsAmongRecords (Stated (Message user id) (record { value = Gone; stamp = says.stamp; targets = says.targets })) small_records → ⊥
    by (inl e) = cc
    by (inr (inl e)) = cc
    by (inr (inr (inl e))) =
        let state : ◌≡◌ {A = State} (record { value = Here; stamp = nth_stamp 1; targets = 1 }) (record { value = Gone; stamp = says.stamp; targets = says.targets }) = cc e in
        let never : ◌≡◌ {A = Value} Here Gone = ap (λ (s : State). s.value) state in cc
    by (inr (inr (inr none))) = none

only_records : (k : ℕ) (records : List Record) → slice_get (small_records ∷ []) k ≡ Some records → small_records ≡ records
only_records zero records at = cc at
only_records (suc k) records at = absurd (none-some records at)

not_gone : (user : List ℕ) (id : Id) (nodes : List ℕ) → AreGoneOn small_plan (small_records ∷ []) user id nodes → ⊥
not_gone user id [] gone = (let some : 1 ≤ 0 = gone.are.enough in omega (arith, some))
not_gone user id (node ∷ nodes) gone =
    let (records, at, says) = All-head (OnNode (small_records ∷ []) (SaysGone (Message user id))) node nodes gone.each in
    here_still user id (subst (SaysGone (Message user id)) (sym (only_records (node - 1) records at)) says)

none_gone : (user : List ℕ) (ids : List Id) → (ids ≡ [] → ⊥) → ((id : Id) → IsIn id ids → (nodes : List ℕ) × AreGoneOn small_plan (small_records ∷ []) user id nodes) → ⊥
none_gone user [] some gone = some refl
none_gone user (id ∷ ids) some gone = let (nodes, are) = gone id (inl refl) in not_gone user id nodes are

-- the session that was worked
abbrev struck : Session
struck = record { protocol = Pop; node = 1; octets = deleting_octets; whole = before_quit ++ last_quit ∷ []; others = []; standing = EndedByQuit; rest = [] }

struck_is : IsSession small_plan bye_lines bye_entries 2 struck
struck_is = record { talk = one_deletion_asked.talk; fed = refl; gets = record { part = []; missing = []; are = refl; cut = refl } }

here_still_behind : (sessions : List Session) → AreSessions small_plan bye_lines bye_entries sessions → DeletedByQuit small_plan bye_entries (small_records ∷ []) sessions → ⊥
here_still_behind sessions are deleted =
    let s = shown_at small_plan bye_lines bye_entries sessions are 1 Pop 1 refl in
    let same = one_reading small_plan bye_lines bye_entries 2 s.session struck s.speaks s.there s.is struck_is in
    let q = at_view s.session.whole (views before_quit) [] (Line (codes "QUIT")) bye_text [] same in
    let d = at_view q.before ((Line (codes "USER alice"), one_line (codes "+OK send PASS")) ∷ (Line (codes "PASS tanstaaf"), one_line entered_text) ∷ []) [] (Line (codes "DELE 1")) (deleted_text 1) [] q.fronts in
    let marked = subst (λ (l : List Exchange). IsMarked 1 (all_seen l)) (sym d.are)
    (marked_among 1 d.before d.one d.behind (ap (λ (u : Unit). pop_command_of (line_of u)) d.same_unit, d.same_reply) (keeps d.behind d.backs)) in
    let goes = subst (λ (l : List Exchange). TalkGoes small_plan s.session.node (Hearing (opening_state s.session.protocol)) s.session.octets l s.is.talk.before s.session.rest)
    (ap (λ (l : List Exchange). l ++ s.session.others) q.are ∙ append_assoc q.before (q.one ∷ q.behind) s.session.others) s.is.talk.goes in
    let none = quit_is_last small_plan s.session.node (Hearing (opening_state s.session.protocol)) s.session.octets q.before q.one (q.behind ++ s.session.others) s.is.talk.before s.session.rest goes q.same_unit in
    let last = front_none q.behind s.session.others none in
    let (user, ids, deletes, gone) = deleted.bye 2 s.session q.before q.one 1 s.at s.speaks (q.are ∙ ap (λ (l : List Exchange). q.before ++ q.one ∷ l) last)
    (record { line = codes "QUIT"; is = q.same_unit; short = refl; quits = refl }) q.same_reply marked in
    none_gone user ids deletes.marked.some gone

pub wrong_replies : WrongReplies
wrong_replies = record { lacks_last_line = lacks; here_behind_bye = here_still_behind }
