-- The lines `250 stored` of all sessions, in the order in which they were written, answer the messages that were acknowledged, in their order.
use Rattle.std.proofs.Common.{◌≡◌, ◌⊎◌, inl, inr, ⊎_elim, ◌+◌, ℕ, zero, suc, Bool, true, false, ◌&&◌, List, [], ◌∷◌, ◌++◌, length, map, flat_map, All, Option, Some, None, refl, sym, ap, ap₂, ◌∙◌, subst, arith, append_assoc, append-nil, nat_eq, if◌then◌else◌, slice_get}
use Rattle.std.specs.Prelude.{⊤}
use Rattle.std.specs.Option.{option_map}
use Rattle.std.specs.Cmp.Lexicographic.{pointwise}
use Rattle.std.proofs.lemmas.List.{map-append, length-append}
use Rattle.std.proofs.lemmas.List.Concat.{flat_map-append}
use Rattle.std.proofs.lemmas.List.Elements.{All-head, All-tail}
use Rattle.std.proofs.lemmas.Option.{none-some, slice_get-map}
use Rattle.std.proofs.lemmas.Bool.{cases_eq}
use Rattle.mail_model.specs.Plan.{Plan}
use Rattle.mail_model.specs.Tape.{Protocol}
use Rattle.mail_model.specs.Tape.Protocol.{Smtp, Pop}
use Rattle.mail_model.specs.Transcript.{Entry}
use Rattle.mail_model.specs.Transcript.Entry.{Said, Event, Refused}
use Rattle.mail_model.specs.Smtp.{stored_text}
use Rattle.mail_model.specs.Transcript.{closed_event}
use Rattle.mail_model.specs.Transcript.{said_lines, all_of}
use Rattle.mail_model.specs.Shown.{lines_to}
use Rattle.mail_model.specs.Stored.{Ack, stored_sessions, takes_mail, is_taking, kind_at}
use Rattle.mail_model.proofs.Choices.{split_if}
use Rattle.mail_model.proofs.Sessions.{by_number, get_more}
use Rattle.mail_model.proofs.ShownLists as shown
use Rattle.mail_model.proofs.ShownCuts.{no_part, front_of_one}
use Rattle.session_model.specs.Calls.{Call, Answer}
use Rattle.session_model.specs.Calls.Call.{Deliver, Login, Fetch, Strike}
use Rattle.session_model.specs.Calls.Answer.{Stored, Failed}
use Rattle.session_model.specs.Talk.{Exchange, TalkGoes, opening_state, replies, farewell}
use Rattle.session_model.specs.Talk.Standing.{Hearing}
use Rattle.session_model.specs.Mailing.{StoredMail, filing_of, filings, stored_lines}
use Rattle.session_model.specs.Sessions.{Session, session_at}
use Rattle.session_model.specs.Facts.{ack_of}
use Rattle.session_model.specs.Acts.{Act, Deed, Did, Acted, ActedAll, closing, opened_by, fed_by_act}
use Rattle.session_model.specs.Acts.Act.{Opens, Does, Faults, StillWaits, Leaves, Makes, Abandons}
use Rattle.session_model.specs.Acts.Deed.{IsFed, Hears, IsAnswered, IsGivenUp, Falls, Closes}
use Rattle.session_model.specs.Logs.{answered_by, answered_in, answers_of}
use Rattle.session_model.specs.Books.{AtMostOne, acks_by}
use Rattle.session_model.proofs.Events.{NamesUser, event_says_none, event_stores_none}
use Rattle.session_model.specs.Spoken.{Speaks}
use Rattle.session_model.proofs.Did.{did_speaks, did_kind}
use Rattle.session_model.proofs.Acts.{Kept, Spoken, kind_of, at_first, act_push, acted_keeps, closing_is, does_other}
use Rattle.session_model.proofs.Logs.{did_grows, own_answered}
use Rattle.session_model.proofs.Books.{filed_by, filed_all}
use Rattle.session_model.proofs.Mailing.{lines_both, stored_as_told}
use Rattle.session_model.proofs.Storing.{last_lines}
use Rattle.session_model.proofs.Asking.{asks_as_told}

-- the messages that acts acknowledge
abbrev pub acks_in : List Act → List Ack
acks_in acts = flat_map acks_by (flat_map answered_by acts)

-- the greeting of a session is no `250 stored`, and the user whose map is told has a name
abbrev pub IsWorded : Act → Type 0
IsWorded (Opens protocol node greeting) = pointwise nat_eq greeting stored_text ≡ false
IsWorded (Makes order event) = NamesUser event
IsWorded act = ⊤

-- so often this number
abbrev times : ℕ → ℕ → List ℕ
times zero k = []
times (suc n) k = k ∷ times n k

-- whose messages these are
all_of_one : (k : ℕ) (filed : List StoredMail) → map (λ (ack : Ack). ack.session) (map (ack_of k) filed) ≡ times (length filed) k
all_of_one k [] = refl
all_of_one k (filing ∷ filed) = ap (λ (l : List ℕ). k ∷ l) (all_of_one k filed)

-- the kind of a session
pub kind_there : (kinds more : List (Protocol × ℕ)) (sessions : List Session) (k : ℕ) (session : Session) → kinds ≡ map kind_of sessions ++ more → session_at sessions k ≡ Some session
    → kind_at kinds k ≡ Some (session.protocol, session.node)
kind_there kinds more sessions zero session same at = absurd (none-some session at)
kind_there kinds more sessions (suc n) session same at =
    by_number kinds n ∙ ap (λ (l : List (Protocol × ℕ)). slice_get l n) same
    ∙ get_more (map kind_of sessions) more n (session.protocol, session.node) (slice_get-map kind_of sessions n ∙ ap (option_map kind_of) (sym (by_number sessions n) ∙ at))

-- a session that reads mail has no message stored
module _ (plan : Plan) (node : ℕ) (octets rest : List ℕ) (last : _) where
  none_filed : (front xs : List Exchange) → TalkGoes plan node (Hearing (opening_state Pop)) octets (front ++ xs) last rest → filings xs ≡ []
  none_filed front [] g = refl
  none_filed front (one ∷ xs) g =
      ap₂ ◌++◌ (by_call one.call one.answer refl)
      (none_filed (front ++ one ∷ []) xs (subst (λ (l : List Exchange). TalkGoes plan node (Hearing (opening_state Pop)) octets l last rest) (sym (append_assoc front (one ∷ []) xs)) g))
    where
      by_call : (call : Option Call) (answer : Option Answer) → one.call ≡ call → filing_of call answer ≡ []
      by_call (Some (Deliver mail)) answer is =
          let clash : Pop ≡ Smtp = (asks_as_told plan node Pop octets (front ++ one ∷ xs) last rest g front xs one mail refl is).0 in cc
      by_call None answer is = refl
      by_call (Some (Login user given)) answer is = refl
      by_call (Some (Fetch user id)) answer is = refl
      by_call (Some (Strike user ids)) answer is = refl

-- as many lines as messages
lines_told : (plan : Plan) (said : List (List ℕ)) (session : Session) → Speaks plan said session → session.protocol ≡ Smtp → stored_lines said ≡ length (filings session.whole)
lines_told plan said session speaks smtp =
    let goes : TalkGoes plan session.node (Hearing (opening_state Smtp)) session.octets session.whole speaks.talk.before session.rest =
    subst (λ (p : Protocol). TalkGoes plan session.node (Hearing (opening_state p)) session.octets session.whole speaks.talk.before session.rest) smtp speaks.talk.goes in
    let told = (stored_as_told plan session.node session.octets session.whole speaks.talk.before session.rest goes).2 in
    let none : stored_lines (farewell session.protocol session.node session.standing) ≡ 0 =
    ap (λ (p : Protocol). stored_lines (farewell p session.node session.standing)) smtp ∙ last_lines session.node session.standing in
    let both = lines_both (replies session.whole) (farewell session.protocol session.node session.standing) in
    let all = ap stored_lines speaks.lines in
    omega (arith, all, both, told, none)

-- the answers of an act are those of its session
acks_own : (k : ℕ) (deed : Deed) → flat_map acks_by (answered_by (Does k deed)) ≡ map (ack_of k) (filed_by (answered_in k (answered_by (Does k deed))))
acks_own k (IsAnswered call answer reply) =
    append-nil (map (ack_of k) (filing_of (Some call) (Some answer)))
    ∙ ap (map (ack_of k)) (sym (append-nil (filing_of (Some call) (Some answer))) ∙ sym (ap filed_by (own_answered k call answer)))
acks_own k (IsGivenUp call reply) =
    append-nil (map (ack_of k) (filing_of (Some call) (Some Failed)))
    ∙ ap (map (ack_of k)) (sym (append-nil (filing_of (Some call) (Some Failed))) ∙ sym (ap filed_by (own_answered k call Failed)))
acks_own k (IsFed octets) = refl
acks_own k (Hears one) = refl
acks_own k Falls = refl
acks_own k Closes = refl

module _ (kinds : List (Protocol × ℕ)) where
  pub stored_both : (entries more : List Entry) → stored_sessions kinds (entries ++ more) ≡ stored_sessions kinds entries ++ stored_sessions kinds more
  stored_both [] more = refl
  stored_both (Said session text ∷ entries) more =
      rw (stored_both entries more) (split_if (takes_mail kinds session && pointwise nat_eq text stored_text) session (stored_sessions kinds entries) (stored_sessions kinds more))
  stored_both (Event text ∷ entries) more = stored_both entries more
  stored_both (Refused text ∷ entries) more = stored_both entries more

  -- lines of a session that takes mail
  stored_said : (k : ℕ) (lines : List (List ℕ)) → takes_mail kinds k ≡ true → stored_sessions kinds (said_lines k lines) ≡ times (stored_lines lines) k
  stored_said k [] takes = refl
  stored_said k (line ∷ lines) takes = by_test (takes_mail kinds k) (pointwise nat_eq line stored_text) takes (stored_said k lines takes)
    where
      by_test : (b c : Bool) → b ≡ true → stored_sessions kinds (said_lines k lines) ≡ times (stored_lines lines) k
          → (if b && c then k ∷ stored_sessions kinds (said_lines k lines) else stored_sessions kinds (said_lines k lines)) ≡ times ((if c then 1 else 0) + stored_lines lines) k
      by_test true true is same =
          let e : 1 + stored_lines lines ≡ suc (stored_lines lines) = omega arith in ap (λ (l : List ℕ). k ∷ l) same ∙ sym (ap (λ (n : ℕ). times n k) e)
      by_test true false is same = let e : 0 + stored_lines lines ≡ stored_lines lines = omega arith in same ∙ sym (ap (λ (n : ℕ). times n k) e)
      by_test false c is same = cc

  -- and of one that does not
  stored_read : (k : ℕ) (lines : List (List ℕ)) → takes_mail kinds k ≡ false → stored_sessions kinds (said_lines k lines) ≡ []
  stored_read k [] reads = refl
  stored_read k (line ∷ lines) reads = by_test (takes_mail kinds k) (pointwise nat_eq line stored_text) reads (stored_read k lines reads)
    where
      by_test : (b c : Bool) → b ≡ false → stored_sessions kinds (said_lines k lines) ≡ []
          → (if b && c then k ∷ stored_sessions kinds (said_lines k lines) else stored_sessions kinds (said_lines k lines)) ≡ []
      by_test false c is same = same
      by_test true c is same = cc

  -- another line
  stored_not : (k : ℕ) (line : List ℕ) → pointwise nat_eq line stored_text ≡ false → stored_sessions kinds (Said k line ∷ []) ≡ []
  stored_not k line not = by_test (takes_mail kinds k) (pointwise nat_eq line stored_text) not
    where
      by_test : (b c : Bool) → c ≡ false → (if b && c then k ∷ [] else []) ≡ []
      by_test true false is = refl
      by_test false c is = refl
      by_test true true is = cc

module _ (plan : Plan) (kinds : List (Protocol × ℕ)) (acts : List Act) (entries : List Entry) (old : List Session) (kept : Kept plan acts entries old) where
  -- what session k does
  deed_order : (k : ℕ) (deed : Deed) (before behind : Session) (said : List (List ℕ)) → session_at old k ≡ Some before → Did plan before deed said behind
      → kind_at kinds k ≡ Some (before.protocol, before.node) → behind.protocol ≡ before.protocol
      → map (λ (ack : Ack). ack.session) (flat_map acks_by (answered_by (Does k deed))) ≡ stored_sessions kinds (said_lines k said)
  deed_order k deed before behind said at did kind same = by_protocol before.protocol refl
    where
      none_behind : (a b : List StoredMail) → a ++ b ≡ [] → b ≡ []
      none_behind [] b e = e
      none_behind (x ∷ a) b e = cc

      was : Spoken plan (flat_map (fed_by_act k) acts) (lines_to k entries) (Some before)
      was = subst (Spoken plan (flat_map (fed_by_act k) acts) (lines_to k entries)) at (kept.each k)

      now : Speaks plan (was.1 ++ said) behind
      now = did_speaks plan was.1 said before behind deed was.3 did

      filed : filings behind.whole ≡ filings before.whole ++ filed_by (answered_in k (answered_by (Does k deed)))
      filed = sym (filed_all behind.whole) ∙ ap filed_by (did_grows plan k was.1 said before behind deed was.3 did).answers
          ∙ flat_map-append (λ (x : Call × Answer). filing_of (Some x.0) (Some x.1)) (answers_of before.whole) (answered_in k (answered_by (Does k deed)))
          ∙ ap (λ (l : List StoredMail). l ++ filed_by (answered_in k (answered_by (Does k deed)))) (filed_all before.whole)

      own : map (λ (ack : Ack). ack.session) (flat_map acks_by (answered_by (Does k deed))) ≡ times (length (filed_by (answered_in k (answered_by (Does k deed))))) k
      own = ap (map (λ (ack : Ack). ack.session)) (acks_own k deed) ∙ all_of_one k (filed_by (answered_in k (answered_by (Does k deed))))

      by_protocol : (protocol : Protocol) → before.protocol ≡ protocol
          → map (λ (ack : Ack). ack.session) (flat_map acks_by (answered_by (Does k deed))) ≡ stored_sessions kinds (said_lines k said)
      by_protocol Smtp is =
          let first = lines_told plan was.1 before was.3 is in
          let all = lines_told plan (was.1 ++ said) behind now (same ∙ is) in
          let both = lines_both was.1 said in
          let longer = ap length filed ∙ length-append (filings before.whole) (filed_by (answered_in k (answered_by (Does k deed)))) in
          let equal : stored_lines said ≡ length (filed_by (answered_in k (answered_by (Does k deed)))) = omega (arith, first, all, both, longer) in
          own ∙ ap (λ (n : ℕ). times n k) (sym equal) ∙ sym (stored_said kinds k said (ap is_taking kind ∙ ap (λ (p : Protocol). is_taking (Some (p, before.node))) is))
      by_protocol Pop is =
          let goes : TalkGoes plan behind.node (Hearing (opening_state Pop)) behind.octets behind.whole now.talk.before behind.rest =
          subst (λ (p : Protocol). TalkGoes plan behind.node (Hearing (opening_state p)) behind.octets behind.whole now.talk.before behind.rest) (same ∙ is) now.talk.goes in
          let none : filings before.whole ++ filed_by (answered_in k (answered_by (Does k deed))) ≡ [] =
          sym filed ∙ none_filed plan behind.node behind.octets behind.rest now.talk.before [] behind.whole goes in
          own ∙ ap (λ (l : List StoredMail). times (length l) k) (none_behind (filings before.whole) (filed_by (answered_in k (answered_by (Does k deed)))) none)
          ∙ sym (stored_read kinds k said (ap is_taking kind ∙ ap (λ (p : Protocol). is_taking (Some (p, before.node))) is))

  -- whatever act
  acted_order : (act : Act) (more : List Entry) (new : List Session) (others : List (Protocol × ℕ)) → IsWorded act → Acted plan old act more new
      → kinds ≡ flat_map opened_by acts ++ others → map (λ (ack : Ack). ack.session) (flat_map acks_by (answered_by act)) ≡ stored_sessions kinds more
  acted_order (Opens protocol node greeting) more new others worded (says, is) all = sym (ap (stored_sessions kinds) says ∙ stored_not kinds (length old + 1) greeting worded)
  acted_order (Faults node) more new others worded (says, is) all = sym (ap (stored_sessions kinds) says)
  acted_order (StillWaits k) more new others worded (says, is) all = sym (ap (stored_sessions kinds) says)
  acted_order (Leaves k user) more new others worded (says, is) all = sym (ap (stored_sessions kinds) says)
  acted_order (Makes order event) more new others worded (says, is) all = sym (ap (stored_sessions kinds) says ∙ event_stores_none kinds event)
  acted_order (Abandons k) more new others worded (says, is) all = sym (ap (stored_sessions kinds) says)
  acted_order (Does k deed) more new others worded (before, behind, said, at, did, says, is) all =
      let kind = kind_there kinds others old k before (all ∙ ap (λ (l : List (Protocol × ℕ)). l ++ others) kept.kinds) at in
      deed_order k deed before behind said at did kind (did_kind plan said before behind deed did).0
      ∙ sym (ap (stored_sessions kinds) says ∙ stored_both kinds (said_lines k said) (closing k deed behind.standing)
      ∙ ap (λ (l : List ℕ). stored_sessions kinds (said_lines k said) ++ l) (ends (closing_is k deed behind.standing)) ∙ append-nil (stored_sessions kinds (said_lines k said)))
    where
      ends : (closing k deed behind.standing ≡ []) ⊎ (closing k deed behind.standing ≡ closed_event k ∷ []) → stored_sessions kinds (closing k deed behind.standing) ≡ []
      ends which = ⊎_elim (λ none. ap (stored_sessions kinds) none) (λ one. ap (stored_sessions kinds) one) which

-- the first line of a session is no `250 stored`
abbrev pub Greeted : List (List ℕ) → Type 0
Greeted [] = ⊤
Greeted (line ∷ lines) = pointwise nat_eq line stored_text ≡ false

greeted_front : (a b : List (List ℕ)) → Greeted (a ++ b) → Greeted a
greeted_front [] b is = tt
greeted_front (line ∷ a) b is = is

greeted_both : (a b : List (List ℕ)) → Greeted a → (a ≡ [] → Greeted b) → Greeted (a ++ b)
greeted_both [] b first later = later refl
greeted_both (line ∷ a) b first later = first

module _ (plan : Plan) (acts : List Act) (entries : List Entry) (old : List Session) (kept : Kept plan acts entries old) where
  acted_greets : (act : Act) (more : List Entry) (new : List Session) → IsWorded act → Acted plan old act more new → ((k : ℕ) → Greeted (lines_to k entries))
      → (k : ℕ) → Greeted (lines_to k (entries ++ more))
  acted_greets act more new worded acted before k = subst Greeted (sym (shown.lines_both k entries more))
      (greeted_both (lines_to k entries) (lines_to k more) (before k) (λ none. by_act act worded acted none))
    where
      by_act : (act : Act) → IsWorded act → Acted plan old act more new → lines_to k entries ≡ [] → Greeted (lines_to k more)
      by_act (Opens protocol node greeting) greets (says, is) none = subst (λ (e : List Entry). Greeted (lines_to k e)) (sym says) (by_test (nat_eq (length old + 1) k))
        where
          by_test : (b : Bool) → Greeted (if b then greeting ∷ [] else [])
          by_test true = greets
          by_test false = tt
      by_act (Faults node) greets (says, is) none = subst (λ (e : List Entry). Greeted (lines_to k e)) (sym says) tt
      by_act (StillWaits j) greets (says, is) none = subst (λ (e : List Entry). Greeted (lines_to k e)) (sym says) tt
      by_act (Leaves j user) greets (says, is) none = subst (λ (e : List Entry). Greeted (lines_to k e)) (sym says) tt
      by_act (Makes order event) greets (says, is) none = subst Greeted (sym (ap (lines_to k) says ∙ event_says_none k event)) tt
      by_act (Abandons j) greets (says, is) none = subst (λ (e : List Entry). Greeted (lines_to k e)) (sym says) tt
      by_act (Does j deed) greets (first, behind, said, at, did, says, is) none = ⊎_elim
          (λ same.
          let was : Spoken plan (flat_map (fed_by_act k) acts) (lines_to k entries) (Some first) = subst (Spoken plan (flat_map (fed_by_act k) acts) (lines_to k entries)) (ap (session_at old) same ∙ at) (kept.each k) in
          let clash : [] ≡ was.0 ∷ was.1 = sym none ∙ was.2 in cc)
          (λ other. subst (λ (e : List Entry). Greeted (lines_to k e)) (sym says) (subst Greeted (sym (does_other j k said deed behind.standing other)) tt))
          (cases_eq k j)

-- What is so after acts of which all was written.
pub record IsInOrder (plan : Plan) (kinds : List (Protocol × ℕ)) (acts : List Act) (entries : List Entry) (sessions : List Session) : Type 0 where
  pub kept : Kept plan acts entries sessions
  pub lines_of : map (λ (ack : Ack). ack.session) (acks_in acts) ≡ stored_sessions kinds entries
  pub greeted : (k : ℕ) → Greeted (lines_to k entries)

-- nothing was done
pub none_in_order : (plan : Plan) (kinds : List (Protocol × ℕ)) → IsInOrder plan kinds [] [] []
none_in_order plan kinds = record { kept = at_first plan; lines_of = refl; greeted = λ k. tt }

acks_push : (acts : List Act) (act : Act) → acks_in (acts ++ act ∷ []) ≡ acks_in acts ++ flat_map acks_by (answered_by act)
acks_push acts act = ap (flat_map acks_by) (act_push answered_by acts act) ∙ flat_map-append acks_by (flat_map answered_by acts) (answered_by act)

-- one act more
one_in_order : (plan : Plan) (kinds others : List (Protocol × ℕ)) (acts : List Act) (entries more : List Entry) (old new : List Session) (act : Act) → IsInOrder plan kinds acts entries old
    → IsWorded act → kinds ≡ flat_map opened_by acts ++ others → Acted plan old act more new → IsInOrder plan kinds (acts ++ act ∷ []) (entries ++ more) new
one_in_order plan kinds others acts entries more old new act before worded all acted = record {
  kept = acted_keeps plan acts entries old before.kept act more new acted;
  lines_of = ap (map (λ (ack : Ack). ack.session)) (acks_push acts act) ∙ map-append (λ (ack : Ack). ack.session) (acks_in acts) (flat_map acks_by (answered_by act))
      ∙ ap₂ ◌++◌ before.lines_of (acted_order plan kinds acts entries old before.kept act more new others worded acted all) ∙ sym (stored_both kinds entries more);
  greeted = acted_greets plan acts entries old before.kept act more new worded acted before.greeted;
}

-- all acts
pub all_in_order : (plan : Plan) (kinds others : List (Protocol × ℕ)) (been acts : List Act) (entries : List Entry) (old last : List Session) (outputs : List (List Entry))
    → IsInOrder plan kinds been entries old → All IsWorded acts → kinds ≡ flat_map opened_by (been ++ acts) ++ others → ActedAll plan old acts outputs last
    → IsInOrder plan kinds (been ++ acts) (entries ++ all_of outputs) last
all_in_order plan kinds others been [] entries old last [] before worded all done =
    subst (IsInOrder plan kinds (been ++ []) (entries ++ [])) (sym done)
    (subst (λ (l : List Act). IsInOrder plan kinds l (entries ++ []) old) (sym (append-nil been))
    (subst (λ (l : List Entry). IsInOrder plan kinds been l old) (sym (append-nil entries)) before))
all_in_order plan kinds others been (act ∷ acts) entries old last (more ∷ outputs) before worded all (mid, acted, done) =
    subst (λ (l : List Act). IsInOrder plan kinds l (entries ++ all_of (more ∷ outputs)) last) (append_assoc been (act ∷ []) acts)
    (subst (λ (l : List Entry). IsInOrder plan kinds ((been ++ act ∷ []) ++ acts) l last) (append_assoc entries more (all_of outputs))
    (all_in_order plan kinds others (been ++ act ∷ []) acts (entries ++ more) mid last outputs
    (one_in_order plan kinds (flat_map opened_by (act ∷ acts) ++ others) been entries more old mid act before (All-head IsWorded act acts worded)
    (all ∙ ap (λ (l : List (Protocol × ℕ)). l ++ others) (flat_map-append opened_by been (act ∷ acts))
    ∙ append_assoc (flat_map opened_by been) (flat_map opened_by (act ∷ acts)) others) acted)
    (All-tail IsWorded act acts worded) (all ∙ ap (λ (l : List Act). flat_map opened_by l ++ others) (sym (append_assoc been (act ∷ []) acts))) done))
all_in_order plan kinds others been (act ∷ acts) entries old last [] before worded all done = absurd done
all_in_order plan kinds others been [] entries old last (more ∷ outputs) before worded all done = absurd done

-- Where the transcript may be cut: the messages whose line was written, and one at most whose line was not.
pub record AreAcked (kinds : List (Protocol × ℕ)) (acts : List Act) (entries : List Entry) (unwritten : List Ack) : Type 0 where
  pub acks : List Ack
  pub few : AtMostOne unwritten
  pub are : acks ++ unwritten ≡ acks_in acts
  pub lines_of : map (λ (ack : Ack). ack.session) acks ≡ stored_sessions kinds entries
  pub greeted : (k : ℕ) → Greeted (lines_to k entries)

pub whole_acked : (plan : Plan) (kinds : List (Protocol × ℕ)) (acts : List Act) (entries : List Entry) (sessions : List Session) → IsInOrder plan kinds acts entries sessions
    → AreAcked kinds acts entries []
whole_acked plan kinds acts entries sessions in_order =
    record { acks = acks_in acts; few = inl refl; are = append-nil (acks_in acts); lines_of = in_order.lines_of; greeted = in_order.greeted }

-- an act acknowledges one message at most
one_filing : (k : ℕ) (call : Call) (answer : Answer) → AtMostOne (map (ack_of k) (filing_of (Some call) (Some answer)))
one_filing k (Deliver mail) (Stored id) = inr (ack_of k (record { mail = mail; id = id }), refl)
one_filing k (Deliver mail) answer = inl refl
one_filing k (Login user given) answer = inl refl
one_filing k (Fetch user id) answer = inl refl
one_filing k (Strike user ids) answer = inl refl

one_acked : (act : Act) → AtMostOne (flat_map acks_by (answered_by act))
one_acked (Does k (IsAnswered call answer reply)) =
    subst AtMostOne (sym (append-nil (map (ack_of k) (filing_of (Some call) (Some answer))))) (one_filing k call answer)
one_acked (Does k (IsGivenUp call reply)) = subst AtMostOne (sym (append-nil (map (ack_of k) (filing_of (Some call) (Some Failed))))) (one_filing k call Failed)
one_acked (Does k (IsFed octets)) = inl refl
one_acked (Does k (Hears one)) = inl refl
one_acked (Does k Falls) = inl refl
one_acked (Does k Closes) = inl refl
one_acked (Opens protocol node greeting) = inl refl
one_acked (Faults node) = inl refl
one_acked (StillWaits k) = inl refl
one_acked (Leaves k user) = inl refl
one_acked (Makes order event) = inl refl
one_acked (Abandons k) = inl refl

-- what the last act writes is cut
pub cut_acked : (plan : Plan) (kinds others : List (Protocol × ℕ)) (acts : List Act) (entries says front missing : List Entry) (old new : List Session) (act : Act)
    → IsInOrder plan kinds acts entries old → IsWorded act → kinds ≡ flat_map opened_by acts ++ others → Acted plan old act says new → says ≡ front ++ missing
    → (unwritten : List Ack) × AreAcked kinds (acts ++ act ∷ []) (entries ++ front) unwritten
cut_acked plan kinds others acts entries says front missing old new act before worded all acted cut = ⊎_elim none one (one_acked act)
  where
    now : IsInOrder plan kinds (acts ++ act ∷ []) (entries ++ says) new
    now = one_in_order plan kinds others acts entries says old new act before worded all acted

    first_lines : (k : ℕ) → Greeted (lines_to k (entries ++ front))
    first_lines k = greeted_front (lines_to k (entries ++ front)) (lines_to k missing) (subst Greeted
        (ap (lines_to k) (ap (λ (l : List Entry). entries ++ l) cut ∙ sym (append_assoc entries front missing)) ∙ shown.lines_both k (entries ++ front) missing) (now.greeted k))

    own : map (λ (ack : Ack). ack.session) (flat_map acks_by (answered_by act)) ≡ stored_sessions kinds front ++ stored_sessions kinds missing
    own = acted_order plan kinds acts entries old before.kept act says new others worded acted all ∙ ap (stored_sessions kinds) cut ∙ stored_both kinds front missing

    none : flat_map acks_by (answered_by act) ≡ [] → (unwritten : List Ack) × AreAcked kinds (acts ++ act ∷ []) (entries ++ front) unwritten
    none is = (
      [],
      record {
        acks = acks_in acts;
        few = inl refl;
        are = sym (acks_push acts act ∙ ap (λ (l : List Ack). acks_in acts ++ l) is);
        lines_of = before.lines_of ∙ sym (append-nil (stored_sessions kinds entries))
            ∙ ap (λ (l : List ℕ). stored_sessions kinds entries ++ l) (sym (no_part (stored_sessions kinds front) (stored_sessions kinds missing)
            (sym own ∙ ap (map (λ (ack : Ack). ack.session)) is))) ∙ sym (stored_both kinds entries front);
        greeted = first_lines;
      },
    )

    one : (ack : Ack) × (flat_map acks_by (answered_by act) ≡ ack ∷ []) → (unwritten : List Ack) × AreAcked kinds (acts ++ act ∷ []) (entries ++ front) unwritten
    one (ack, is) = ⊎_elim
        (λ no_line. (
          ack ∷ [],
          record {
            acks = acks_in acts;
            few = inr (ack, refl);
            are = sym (acks_push acts act ∙ ap (λ (l : List Ack). acks_in acts ++ l) is);
            lines_of = before.lines_of ∙ sym (append-nil (stored_sessions kinds entries)) ∙ ap (λ (l : List ℕ). stored_sessions kinds entries ++ l) (sym no_line) ∙ sym (stored_both kinds entries front);
            greeted = first_lines;
          },
        ))
        (λ line. (
          [],
          record {
            acks = acks_in (acts ++ act ∷ []);
            few = inl refl;
            are = append-nil (acks_in (acts ++ act ∷ []));
            lines_of = ap (map (λ (x : Ack). x.session)) (acks_push acts act ∙ ap (λ (l : List Ack). acks_in acts ++ l) is) ∙ map-append (λ (x : Ack). x.session) (acks_in acts) (ack ∷ [])
                ∙ ap₂ ◌++◌ before.lines_of (sym line) ∙ sym (stored_both kinds entries front);
            greeted = first_lines;
          },
        ))
        (front_of_one ack.session (stored_sessions kinds front) (stored_sessions kinds missing) (sym (ap (map (λ (x : Ack). x.session)) is) ∙ own))
