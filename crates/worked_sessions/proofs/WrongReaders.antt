-- The promises to readers are false of what they must not meet.
use Rattle.std.proofs.Common.{◌≡◌, ◌⊎◌, inl, inr, ℕ, zero, suc, Bool, true, false, List, [], ◌∷◌, ◌++◌, length, get_or, flat_map, Option, Some, None, Ok, refl, sym, ap, ◌∙◌, subst, arith, codes, if◌then◌else◌, append-nil}
use Rattle.std.specs.Prelude.{slice_get}
use Rattle.std.specs.Fmt.{decimal}
use Rattle.std.proofs.lemmas.Option.{none-some}
use Rattle.std.proofs.lemmas.List.Elements.{All-nil, All-cons}
use Rattle.mail_model.specs.Identity.{Id, id_text}
use Rattle.mail_model.specs.Identity.Key.{Message}
use Rattle.mail_model.specs.Identity.Value.{Here}
use Rattle.mail_model.specs.Record.{Record, IsAmongRecords}
use Rattle.mail_model.specs.Record.Record.{Stated}
use Rattle.mail_model.specs.Lines.{HasNoCrlf, sent_line}
use Rattle.mail_model.specs.Listing.{is_same_id}
use Rattle.mail_model.specs.Maildrop.{wrong_text, entered_text, deleted_in}
use Rattle.mail_model.specs.Maildrop.Given.{BySecret}
use Rattle.mail_model.specs.Maildrop.LineOutcome.{Answered, AsksLogin}
use Rattle.mail_model.specs.Pop.{pop_command_of}
use Rattle.mail_model.specs.Pop.Command.{Quit}
use Rattle.mail_model.specs.PopReplies.{Item, ListingSlot, id_line, one_line, octets_text, top_of}
use Rattle.mail_model.specs.Shown.{HasLine, ShowsSize, ShowsOctets, ShowsTop}
use Rattle.mail_model.specs.Session.{Unit}
use Rattle.mail_model.specs.Session.Unit.{Line}
use Rattle.mail_model.specs.Site.{nth_id, nth_stamp}
use Rattle.mail_model.specs.Stored.{opened, kind_at}
use Rattle.mail_model.specs.Tape.{Protocol}
use Rattle.mail_model.specs.Tape.Protocol.{Smtp, Pop}
use Rattle.mail_model.specs.Told.{sent}
use Rattle.mail_model.specs.Transcript.{Entry}
use Rattle.mail_model.proofs.Sessions.{by_number}
use Rattle.session_model.specs.Calls.Call.{Login, Fetch}
use Rattle.session_model.specs.Calls.Answer.{Listed, Part}
use Rattle.session_model.specs.Copies.{HasRecordOf}
use Rattle.session_model.specs.Talk.{TalkState, Lead, Exchange, IsLed, TalkGoes, opening_state, lead_of, line_lead, stands}
use Rattle.session_model.specs.Talk.TalkState.{Entering, Reading}
use Rattle.session_model.specs.Talk.Lead.{Asks}
use Rattle.session_model.specs.Talk.Standing.{Hearing}
use Rattle.session_model.specs.Reading.{line_of, seen_exchange}
use Rattle.session_model.specs.Readings.{view, views, AreLines}
use Rattle.session_model.specs.Sessions.{Session, IsSession, AreSessions, session_at}
use Rattle.session_model.specs.Promises.{AreFiled, ShownOnce, ShownAreOwn}
use Rattle.session_model.proofs.InOrder.{kind_there}
use Rattle.session_model.proofs.Readings.{one_reading}
use Rattle.session_model.proofs.Telling.{quit_was_sent}
use Rattle.worked_sessions.specs.OneMessage.{small_plan, small_octets, at_once}
use Rattle.worked_sessions.specs.WrongReaders.{WrongReaders, DeletedNot, ShowsNot, reader_lines, reader_entries, gone_records, other_text, small_item, other_reply, other_top, filed_small, twice_reply, unowned_reply, unowned_records}
use Rattle.worked_sessions.proofs.Lines.{whole_line, has_alice, idle_line}
use Rattle.worked_sessions.proofs.OneMessage.{size}
use Rattle.worked_sessions.proofs.Alike.{shown_at}

-- nobody deleted it

-- the lines that the reader sent
abbrev fed : List (List ℕ)
fed = codes "USER alice" ∷ codes "PASS tanstaaf" ∷ codes "DELE 1" ∷ []

fed_lines : AreLines fed
fed_lines = (whole_line (codes "USER alice") refl, (whole_line (codes "PASS tanstaaf") refl, (whole_line (codes "DELE 1") refl, tt)))

module _ (more : List (List ℕ)) (kinds : opened (reader_lines more) ≡ (Smtp, 1) ∷ (Pop, 1) ∷ []) (sends : sent 2 (reader_lines more) ≡ flat_map sent_line fed ++ []) where
  second : (k : ℕ) (node : ℕ) → kind_at ((Smtp, 1) ∷ (Pop, 1) ∷ []) k ≡ Some (Pop, node) → k ≡ 2
  second zero node is = absurd (none-some (Pop, node) is)
  second (suc zero) node is = absurd (let never : Smtp ≡ Pop = ap (λ (o : Option (Protocol × ℕ)). protocol_of o) is in cc)
    where
      protocol_of : Option (Protocol × ℕ) → Protocol
      protocol_of None = Smtp
      protocol_of (Some kind) = kind.0
  second (suc (suc zero)) node is = refl
  second (suc (suc (suc n))) node is =
      let never : ◌≡◌ {A = Option (Protocol × ℕ)} None (Some (Pop, node)) = sym (by_number ((Smtp, 1) ∷ (Pop, 1) ∷ []) (suc (suc n))) ∙ is in
      absurd (none-some (Pop, node) never)

  deleted_not : DeletedNot more
  deleted_not entries sessions are deleted =
      let (k, session, ids, quit, at, pop, deletes, within) = deleted.only 0 (codes "alice") (nth_id 1) (gone_records, refl, record { stamp = nth_stamp 2; targets = 1; gone = inr (inr (inr (inl refl))) }) in
      let kind : kind_at (opened (reader_lines more)) k ≡ Some (session.protocol, session.node) = kind_there (opened (reader_lines more)) [] sessions k session (are.kinds ∙ sym (append-nil _)) at in
      let is_second : k ≡ 2 = second k session.node (ap (λ (l : List (Protocol × ℕ)). kind_at l k) (sym kinds) ∙ kind ∙ ap (λ (p : Protocol). Some (p, session.node)) pop) in
      let is : IsSession small_plan (reader_lines more) entries 2 session = are.each 2 session (subst (λ (j : ℕ). session_at sessions j ≡ Some session) is_second at) in
      no_quit (quit_was_sent small_plan (reader_lines more) entries 2 session deletes.before [] quit fed [] pop is deletes.are deletes.marked.quit sends fed_lines idle_line)
    where
      no_quit : (pop_command_of (codes "USER alice") ≡ Ok Quit) ⊎ ((pop_command_of (codes "PASS tanstaaf") ≡ Ok Quit) ⊎ ((pop_command_of (codes "DELE 1") ≡ Ok Quit) ⊎ ⊥)) → ⊥
      no_quit (inl is) = cc
      no_quit (inr (inl is)) = cc
      no_quit (inr (inr (inl is))) = cc
      no_quit (inr (inr (inr is))) = is

-- what a session was shown, whoever chooses it

-- an exchange of this unit with this reply
record Found (unit : Unit) (reply : List (List ℕ)) (xs : List Exchange) : Type 0 where
  pub before : List Exchange
  pub behind : List Exchange
  pub one : Exchange
  pub are : xs ≡ before ++ one ∷ behind
  pub same_unit : one.unit ≡ unit
  pub same_reply : one.reply ≡ reply

found_behind : (unit : Unit) (reply : List (List ℕ)) (first : Exchange) (xs : List Exchange) → Found unit reply xs → Found unit reply (first ∷ xs)
found_behind unit reply first xs f = record { before = first ∷ f.before; behind = f.behind; one = f.one; are = ap (λ (l : List Exchange). first ∷ l) f.are; same_unit = f.same_unit; same_reply = f.same_reply }

found_view : (xs : List Exchange) (front back : List (Unit × List (List ℕ))) (unit : Unit) (line : List ℕ) (lines : List (List ℕ)) → views xs ≡ front ++ (unit, line ∷ lines) ∷ back
    → Found unit (line ∷ lines) xs
found_view [] [] back unit line lines e = absurd (omega (arith, ap length e))
found_view [] (x ∷ front) back unit line lines e = absurd (omega (arith, ap length e))
found_view (one ∷ xs) front back unit line lines e = by (λ front' e'. found_view xs front' back unit line lines e') one.reply refl front e
  where
    by : ((front' : List (Unit × List (List ℕ))) → views xs ≡ front' ++ (unit, line ∷ lines) ∷ back → Found unit (line ∷ lines) xs)
        → (reply : List (List ℕ)) → one.reply ≡ reply → (front' : List (Unit × List (List ℕ))) → views (one ∷ xs) ≡ front' ++ (unit, line ∷ lines) ∷ back → Found unit (line ∷ lines) (one ∷ xs)
    by later [] is front' e' = found_behind unit (line ∷ lines) one xs (later front' (sym (ap (λ (r : List (List ℕ)). view one.unit r ++ views xs) is) ∙ e'))
    by later (first ∷ rest) is [] e' =
        let whole : (one.unit, first ∷ rest) ∷ views xs ≡ (unit, line ∷ lines) ∷ back = sym (ap (λ (r : List (List ℕ)). view one.unit r ++ views xs) is) ∙ e' in
        let pair : (one.unit, first ∷ rest) ≡ (unit, line ∷ lines) = cc whole in
        record {
          before = [];
          behind = xs;
          one = one;
          are = refl;
          same_unit = ap (λ (p : Unit × List (List ℕ)). p.0) pair;
          same_reply = is ∙ ap (λ (p : Unit × List (List ℕ)). p.1) pair;
        }
    by later (first ∷ rest) is (x ∷ front') e' =
        let whole : (one.unit, first ∷ rest) ∷ views xs ≡ x ∷ (front' ++ (unit, line ∷ lines) ∷ back) = sym (ap (λ (r : List (List ℕ)). view one.unit r ++ views xs) is) ∙ e' in
        found_behind unit (line ∷ lines) one xs (later front' (cc whole))

-- PASS, answered with this listing
module _ (items : List Item) where
  abbrev pass : Exchange
  pass = record { unit = Line (codes "PASS tanstaaf"); call = Some (Login (codes "alice") (BySecret (codes "tanstaaf"))); answer = Some (Listed items); reply = one_line entered_text }

  abbrev named : TalkState
  named = Entering (Some (codes "alice"))

  pass_leads : lead_of small_plan 1 named (Line (codes "PASS tanstaaf")) ≡ Asks (Login (codes "alice") (BySecret (codes "tanstaaf")))
  pass_leads = ap (λ (b : Bool). line_lead [] (if b then AsksLogin (codes "alice") (BySecret (codes "tanstaaf")) else Answered (one_line wrong_text))) has_alice

-- the worked reader that is shown another text
abbrev uidl : Exchange
uidl = at_once (codes "UIDL 1") (codes "+OK " ++ id_line 1 small_item)

abbrev listed : List ListingSlot
listed = record { item = small_item; marked = false } ∷ []

abbrev asks : Lead
asks = Asks (Fetch (codes "alice") (nth_id 1))

module _ (command : List ℕ) (reply : List (List ℕ)) where
  abbrev fetched : Exchange
  fetched = record { unit = Line command; call = Some (Fetch (codes "alice") (nth_id 1)); answer = Some (Part (flat_map sent_line other_text)); reply = reply }

  abbrev misled : Session
  misled = record {
    protocol = Pop;
    node = 1;
    octets = flat_map sent_line (codes "USER alice" ∷ codes "PASS tanstaaf" ∷ codes "UIDL 1" ∷ command ∷ []);
    whole = at_once (codes "USER alice") (codes "+OK send PASS") ∷ pass (small_item ∷ []) ∷ uidl ∷ fetched ∷ [];
    others = [];
    standing = Hearing (Reading (codes "alice") (deleted_in listed command));
    rest = [];
  }

  misled_goes : HasNoCrlf command → lead_of small_plan 1 (Reading (codes "alice") listed) (Line command) ≡ asks → IsLed asks fetched
      → TalkGoes small_plan 1 (Hearing (opening_state Pop)) misled.octets (misled.whole ++ []) misled.standing []
  misled_goes whole leads shows = (
    flat_map sent_line (codes "PASS tanstaaf" ∷ codes "UIDL 1" ∷ command ∷ []),
    record { is_unit = whole_line (codes "USER alice") refl; whole = refl; led = (refl, refl, refl) },
    (
      flat_map sent_line (codes "UIDL 1" ∷ command ∷ []),
      record { is_unit = whole_line (codes "PASS tanstaaf") refl; whole = refl; led = subst (λ (lead : Lead). IsLed lead (pass (small_item ∷ []))) (sym (pass_leads (small_item ∷ []))) (refl, refl) },
      subst (λ (lead : Lead). TalkGoes small_plan 1 (stands small_plan (named (small_item ∷ [])) (pass (small_item ∷ [])) lead) (flat_map sent_line (codes "UIDL 1" ∷ command ∷ [])) (uidl ∷ fetched ∷ []) misled.standing []) (sym (pass_leads (small_item ∷ []))) (
        flat_map sent_line (command ∷ []),
        record { is_unit = whole_line (codes "UIDL 1") refl; whole = refl; led = (refl, refl, refl) },
        (
          [],
          record { is_unit = whole; whole = refl; led = subst (λ (lead : Lead). IsLed lead fetched) (sym leads) shows },
          (sym (ap (stands small_plan (Reading (codes "alice") listed) fetched) leads), refl),
        ),
      ),
    ),
  )

  -- what is said of an exchange with a message whose id is shown
  abbrev IsAsFiled : Exchange → Type 0
  IsAsFiled other =
      ((size : List ℕ) → ShowsSize 1 size (seen_exchange other) → (octets : List ℕ) × AreFiled filed_small (id_text (nth_id 1)) octets × (size ≡ decimal (length octets)))
      × ((octets : List ℕ) → ShowsOctets 1 octets (seen_exchange other) → AreFiled filed_small (id_text (nth_id 1)) octets)
      × ((count : ℕ) (octets : List ℕ) → ShowsTop 1 count octets (seen_exchange other) → (whole : List ℕ) × AreFiled filed_small (id_text (nth_id 1)) whole × (octets ≡ top_of count whole))

  abbrev misled_lines : List (List ℕ)
  misled_lines = reader_lines (codes "say 2 UIDL 1" ∷ (codes "say 2 " ++ command) ∷ [])

  abbrev misled_entries : List Entry
  misled_entries = reader_entries ((codes "+OK " ++ id_line 1 small_item) ∷ reply)

  shows_not : IsSession small_plan misled_lines misled_entries 2 misled → (line : List ℕ) (lines : List (List ℕ)) → reply ≡ line ∷ lines
      → opened misled_lines ≡ (Smtp, 1) ∷ (Pop, 1) ∷ []
      → ((other : Exchange) → other.unit ≡ Line command → other.reply ≡ reply → IsAsFiled other → ⊥) → ShowsNot command reply
  shows_not misled_is line lines some kinds refuted sessions are filed =
      let s = shown_at small_plan misled_lines misled_entries sessions are 1 Pop 1 (ap (λ (l : List (Protocol × ℕ)). kind_at l 2) kinds) in
      let same = one_reading small_plan misled_lines misled_entries 2 s.session misled s.speaks s.there s.is misled_is in
      let a = found_view s.session.whole (views (at_once (codes "USER alice") (codes "+OK send PASS") ∷ pass (small_item ∷ []) ∷ [])) (views (fetched ∷ [])) uidl.unit (codes "+OK " ++ id_line 1 small_item) [] same in
      let there = same ∙ ap (λ (r : List (List ℕ)). views (at_once (codes "USER alice") (codes "+OK send PASS") ∷ pass (small_item ∷ []) ∷ uidl ∷ []) ++ (view (Line command) r ++ [])) some in
      let b = found_view s.session.whole (views (at_once (codes "USER alice") (codes "+OK send PASS") ∷ pass (small_item ∷ []) ∷ uidl ∷ [])) [] (Line command) line lines there in
      refuted b.one b.same_unit (b.same_reply ∙ sym some) (filed 2 s.session s.at s.speaks 1 (id_text (nth_id 1)) a.before a.behind a.one (omega arith) a.are
      (inr (ap (λ (u : Unit). pop_command_of (line_of u)) a.same_unit, a.same_reply)) b.before b.behind b.one b.are)

-- nothing but the message is filed
filed_is : (id : Id) (octets : List ℕ) → filed_small id ≡ Some octets → small_octets ≡ octets
filed_is id octets = by (is_same_id (nth_id 1) id)
  where
    by : (b : Bool) → (if b then Some small_octets else None) ≡ Some octets → small_octets ≡ octets
    by true is = cc
    by false is = absurd (none-some octets is)

-- RETR
retr_is : IsSession small_plan (misled_lines (codes "RETR 1") other_reply) (misled_entries (codes "RETR 1") other_reply) 2 (misled (codes "RETR 1") other_reply)
retr_is = record {
  talk = record {
    before = (misled (codes "RETR 1") other_reply).standing;
    goes = misled_goes (codes "RETR 1") other_reply (whole_line (codes "RETR 1") refl) refl
        (refl, record { lines = other_text; are = All-cons HasNoCrlf (codes "jello") [] (whole_line (codes "jello") refl) (All-nil HasNoCrlf); whole = refl; says = refl });
    ends = refl;
  };
  fed = refl;
  gets = record { part = []; missing = []; are = refl; cut = refl };
}

no_retr : (other : Exchange) → other.unit ≡ Line (codes "RETR 1") → other.reply ≡ other_reply → IsAsFiled (codes "RETR 1") other_reply other → ⊥
no_retr other unit_is reply_is filed =
    let (id, named_so, is) = filed.1 (flat_map sent_line other_text) (record {
      asked = ap (λ (u : Unit). pop_command_of (line_of u)) unit_is;
      first = octets_text (length (flat_map sent_line other_text));
      lines = other_text;
      good = refl;
      reply = reply_is;
      undots = refl;
    }) in
    absurd (omega (arith, size, ap length (filed_is id (flat_map sent_line other_text) is)))

-- TOP
top_is : IsSession small_plan (misled_lines (codes "TOP 1 0") other_top) (misled_entries (codes "TOP 1 0") other_top) 2 (misled (codes "TOP 1 0") other_top)
top_is = record {
  talk = record {
    before = (misled (codes "TOP 1 0") other_top).standing;
    goes = misled_goes (codes "TOP 1 0") other_top (whole_line (codes "TOP 1 0") refl) refl
        (refl, record { lines = other_text; are = All-cons HasNoCrlf (codes "jello") [] (whole_line (codes "jello") refl) (All-nil HasNoCrlf); whole = refl; says = refl });
    ends = refl;
  };
  fed = refl;
  gets = record { part = []; missing = []; are = refl; cut = refl };
}

no_top : (other : Exchange) → other.unit ≡ Line (codes "TOP 1 0") → other.reply ≡ other_top → IsAsFiled (codes "TOP 1 0") other_top other → ⊥
no_top other unit_is reply_is filed =
    let (whole, (id, named_so, is), same) = filed.2 0 (flat_map sent_line other_text) (record {
      asked = ap (λ (u : Unit). pop_command_of (line_of u)) unit_is;
      first = codes "+OK top";
      lines = other_text;
      good = refl;
      reply = reply_is;
      undots = refl;
    }) in
    let first : 106 ≡ 82 = ap (λ (l : List ℕ). get_or l 0 0) (same ∙ ap (top_of 0) (sym (filed_is id whole is))) in
    absurd (omega (arith, first))

-- the worked reader that is shown one message twice
abbrev uidls : Exchange
uidls = record { unit = Line (codes "UIDL"); call = None; answer = None; reply = twice_reply }

abbrev doubled : Session
doubled = record {
  protocol = Pop;
  node = 1;
  octets = flat_map sent_line (codes "USER alice" ∷ codes "PASS tanstaaf" ∷ codes "UIDL" ∷ []);
  whole = at_once (codes "USER alice") (codes "+OK send PASS") ∷ pass (small_item ∷ small_item ∷ []) ∷ uidls ∷ [];
  others = [];
  standing = Hearing (Reading (codes "alice") (record { item = small_item; marked = false } ∷ record { item = small_item; marked = false } ∷ []));
  rest = [];
}

doubled_goes : TalkGoes small_plan 1 (Hearing (opening_state Pop)) doubled.octets (doubled.whole ++ []) doubled.standing []
doubled_goes = (
  flat_map sent_line (codes "PASS tanstaaf" ∷ codes "UIDL" ∷ []),
  record { is_unit = whole_line (codes "USER alice") refl; whole = refl; led = (refl, refl, refl) },
  (
    sent_line (codes "UIDL"),
    record { is_unit = whole_line (codes "PASS tanstaaf") refl; whole = refl; led = subst (λ (lead : Lead). IsLed lead (pass (small_item ∷ small_item ∷ []))) (sym (pass_leads (small_item ∷ small_item ∷ []))) (refl, refl) },
    subst (λ (lead : Lead). TalkGoes small_plan 1 (stands small_plan (named (small_item ∷ small_item ∷ [])) (pass (small_item ∷ small_item ∷ [])) lead) (sent_line (codes "UIDL")) (uidls ∷ []) doubled.standing []) (sym (pass_leads (small_item ∷ small_item ∷ []))) (
      [],
      record { is_unit = whole_line (codes "UIDL") refl; whole = refl; led = (refl, refl, refl) },
      (refl, refl),
    ),
  ),
)

abbrev doubled_lines : List (List ℕ)
doubled_lines = reader_lines (codes "say 2 UIDL" ∷ [])

doubled_is : IsSession small_plan doubled_lines (reader_entries twice_reply) 2 doubled
doubled_is = record { talk = record { before = doubled.standing; goes = doubled_goes; ends = refl }; fed = refl; gets = record { part = []; missing = []; are = refl; cut = refl } }

lists_two : (sessions : List Session) → AreSessions small_plan doubled_lines (reader_entries twice_reply) sessions → ShownOnce sessions → ⊥
lists_two sessions are once =
    let s = shown_at small_plan doubled_lines (reader_entries twice_reply) sessions are 1 Pop 1 refl in
    let same = one_reading small_plan doubled_lines (reader_entries twice_reply) 2 s.session doubled s.speaks s.there s.is doubled_is in
    let a = found_view s.session.whole (views (at_once (codes "USER alice") (codes "+OK send PASS") ∷ pass (small_item ∷ small_item ∷ []) ∷ [])) [] uidls.unit _ _ same in
    let asked = ap (λ (u : Unit). pop_command_of (line_of u)) a.same_unit in
    let one_is_two = once 2 s.session s.at s.speaks 1 2 (id_text (nth_id 1)) a.before a.behind a.before a.behind a.one a.one (omega arith) (omega arith) a.are
    (inl (asked, subst (HasLine _) (sym a.same_reply) (inr (inl refl)))) a.are (inl (asked, subst (HasLine _) (sym a.same_reply) (inr (inr (inl refl))))) in
    absurd (omega (arith, one_is_two))

-- the worked reader that is shown a message of nobody
abbrev owner : Session
owner = record {
  protocol = Pop;
  node = 1;
  octets = flat_map sent_line (codes "USER alice" ∷ codes "PASS tanstaaf" ∷ codes "UIDL 1" ∷ []);
  whole = at_once (codes "USER alice") (codes "+OK send PASS") ∷ pass (small_item ∷ []) ∷ uidl ∷ [];
  others = [];
  standing = Hearing (Reading (codes "alice") listed);
  rest = [];
}

owner_goes : TalkGoes small_plan 1 (Hearing (opening_state Pop)) owner.octets (owner.whole ++ []) owner.standing []
owner_goes = (
  flat_map sent_line (codes "PASS tanstaaf" ∷ codes "UIDL 1" ∷ []),
  record { is_unit = whole_line (codes "USER alice") refl; whole = refl; led = (refl, refl, refl) },
  (
    sent_line (codes "UIDL 1"),
    record { is_unit = whole_line (codes "PASS tanstaaf") refl; whole = refl; led = subst (λ (lead : Lead). IsLed lead (pass (small_item ∷ []))) (sym (pass_leads (small_item ∷ []))) (refl, refl) },
    subst (λ (lead : Lead). TalkGoes small_plan 1 (stands small_plan (named (small_item ∷ [])) (pass (small_item ∷ [])) lead) (sent_line (codes "UIDL 1")) (uidl ∷ []) owner.standing []) (sym (pass_leads (small_item ∷ []))) (
      [],
      record { is_unit = whole_line (codes "UIDL 1") refl; whole = refl; led = (refl, refl, refl) },
      (refl, refl),
    ),
  ),
)

abbrev owner_lines : List (List ℕ)
owner_lines = reader_lines (codes "say 2 UIDL 1" ∷ [])

owner_is : IsSession small_plan owner_lines (reader_entries (unowned_reply ∷ [])) 2 owner
owner_is = record { talk = record { before = owner.standing; goes = owner_goes; ends = refl }; fed = refl; gets = record { part = []; missing = []; are = refl; cut = refl } }

no_record : (user : List ℕ) (id : Id) → HasRecordOf (unowned_records ∷ []) user id → ⊥
no_record user id has = by has.n has.at has.says
  where
    by : (n : ℕ) → slice_get (unowned_records ∷ []) n ≡ Some has.records → IsAmongRecords (Stated (Message user id) (record { value = Here; stamp = has.stamp; targets = has.targets })) has.records → ⊥
    by zero at says = none unowned_records (let same : unowned_records ≡ has.records = cc at in subst (IsAmongRecords (Stated (Message user id) (record { value = Here; stamp = has.stamp; targets = has.targets }))) (sym same) says)
      where
        none : (records : List Record) → IsAmongRecords (Stated (Message user id) (record { value = Here; stamp = has.stamp; targets = has.targets })) unowned_records → ⊥
        none records (inl is) = cc is
        none records (inr later) = later
    by (suc n) at says = none-some has.records at

owns_none : (sessions : List Session) → AreSessions small_plan owner_lines (reader_entries (unowned_reply ∷ [])) sessions → ShownAreOwn (unowned_records ∷ []) sessions → ⊥
owns_none sessions are own =
    let s = shown_at small_plan owner_lines (reader_entries (unowned_reply ∷ [])) sessions are 1 Pop 1 refl in
    let same = one_reading small_plan owner_lines (reader_entries (unowned_reply ∷ [])) 2 s.session owner s.speaks s.there s.is owner_is in
    let a = found_view s.session.whole (views (at_once (codes "USER alice") (codes "+OK send PASS") ∷ pass (small_item ∷ []) ∷ [])) [] uidl.unit unowned_reply [] same in
    let (user, id, enters, named, has) = own 2 s.session s.at s.speaks 1 (id_text (nth_id 1)) a.before a.behind a.one (omega arith) a.are
    (inr (ap (λ (u : Unit). pop_command_of (line_of u)) a.same_unit, a.same_reply)) in
    no_record user id has

pub wrong_readers : WrongReaders
wrong_readers = record {
  gone_by_close = deleted_not (codes "say 2 DELE 1" ∷ codes "close 2" ∷ []) refl refl;
  gone_by_crash = deleted_not (codes "say 2 DELE 1" ∷ codes "crash 1" ∷ []) refl refl;
  gone_behind_end = deleted_not (codes "say 2 DELE 1" ∷ []) refl refl;
  shows_another_text = shows_not (codes "RETR 1") other_reply retr_is _ _ refl refl no_retr;
  shows_another_top = shows_not (codes "TOP 1 0") other_top top_is _ _ refl refl no_top;
  lists_twice = lists_two;
  shows_unowned = owns_none;
}
