-- Plain acts in which no disk fails and every call reads are acts of readers; and which answers are among those of a run.
use Rattle.std.proofs.Common.{◌≡◌, inl, inr, ⊎_elim, ◌+◌, ℕ, suc, List, [], ◌∷◌, ◌++◌, length, map, flat_map, All, Option, Some, None, refl, sym, ap, ap₂, ◌∙◌, subst, arith, nat_eq, slice_get}
use Rattle.std.specs.Prelude.{⊤}
use Rattle.std.proofs.lemmas.Bool.{cases_eq, cond-true, cond-false, eq-eqb, ne_eqb}
use Rattle.std.proofs.lemmas.Option.{none-some}
use Rattle.std.proofs.lemmas.List.Concat.{flat_map-append}
use Rattle.std.proofs.lemmas.List.Elements.{All-nil, All-cons, All-head, All-tail}
use Rattle.mail_model.specs.Tape.{Protocol}
use Rattle.mail_model.specs.Tape.ClusterOrder.{Flow}
use Rattle.mail_model.proofs.Choices.{split_if}
use Rattle.mail_model.proofs.Sessions.{by_number}
use Rattle.session_model.specs.Calls.{Call, Answer}
use Rattle.session_model.specs.Talk.{Exchange}
use Rattle.session_model.specs.Sessions.{Session, session_at}
use Rattle.session_model.specs.Events.ClusterEvent.{HasFlowed, HasFaulted}
use Rattle.session_model.specs.Acts.{Act}
use Rattle.session_model.specs.Acts.Act.{Opens, Does, Faults, StillWaits, Leaves, Makes, Abandons}
use Rattle.session_model.specs.Acts.Deed.{IsFed, Hears, IsAnswered, IsGivenUp, Falls, Closes}
use Rattle.session_model.specs.Books.{AmongAnswers}
use Rattle.session_model.specs.Lives.{failed_by, failed_in}
use Rattle.session_model.specs.Logs.{Asked, Answered, call_in, answer_in, calls_of, answers_of, asked_by, answered_by, asked_in, answered_in}
use Rattle.fresh_sessions.specs.Acts.{IsReadCall, IsReaderAct}
use Rattle.fresh_sessions.proofs.Plain.{IsPlain}

-- parts of a log

asked_both : (k : ℕ) (xs ys : List Asked) → asked_in k (xs ++ ys) ≡ asked_in k xs ++ asked_in k ys
asked_both k [] ys = refl
asked_both k (one ∷ xs) ys = rw (asked_both k xs ys) (split_if (nat_eq one.session k) one.call (asked_in k xs) (asked_in k ys))

answered_both : (k : ℕ) (xs ys : List Answered) → answered_in k (xs ++ ys) ≡ answered_in k xs ++ answered_in k ys
answered_both k [] ys = refl
answered_both k (one ∷ xs) ys =
    rw (answered_both k xs ys) (split_if {X = Call × Answer} (nat_eq one.session k) (one.call, one.answer) (answered_in k xs) (answered_in k ys))

-- what acts asked in session k, and what more acts did
pub asked_parts : (k : ℕ) (acts more : List Act) → asked_in k (flat_map asked_by (acts ++ more)) ≡ asked_in k (flat_map asked_by acts) ++ asked_in k (flat_map asked_by more)
asked_parts k acts more = ap (asked_in k) (flat_map-append asked_by acts more) ∙ asked_both k (flat_map asked_by acts) (flat_map asked_by more)

pub answered_parts : (k : ℕ) (acts more : List Act) → answered_in k (flat_map answered_by (acts ++ more)) ≡ answered_in k (flat_map answered_by acts) ++ answered_in k (flat_map answered_by more)
answered_parts k acts more = ap (answered_in k) (flat_map-append answered_by acts more) ∙ answered_both k (flat_map answered_by acts) (flat_map answered_by more)

-- calls that read
abbrev pub AreReadCalls : List Call → Type 0
AreReadCalls [] = ⊤
AreReadCalls (call ∷ calls) = IsReadCall (Some call) × AreReadCalls calls

-- and answers to such calls
abbrev pub AnswerReads : List (Call × Answer) → Type 0
AnswerReads [] = ⊤
AnswerReads (one ∷ answers) = IsReadCall (Some one.0) × AnswerReads answers

pub calls_apart : (xs ys : List Call) → AreReadCalls (xs ++ ys) → AreReadCalls xs × AreReadCalls ys
calls_apart [] ys reads = (tt, reads)
calls_apart (x ∷ xs) ys reads = let later = calls_apart xs ys reads.1 in ((reads.0, later.0), later.1)

pub answers_apart : (xs ys : List (Call × Answer)) → AnswerReads (xs ++ ys) → AnswerReads xs × AnswerReads ys
answers_apart [] ys reads = (tt, reads)
answers_apart (x ∷ xs) ys reads = let later = answers_apart xs ys reads.1 in ((reads.0, later.0), later.1)

both_empty : (xs ys : List ℕ) → xs ++ ys ≡ [] → (xs ≡ []) × (ys ≡ [])
both_empty [] ys e = (refl, e)
both_empty (x ∷ xs) ys e = absurd (let never : x ∷ (xs ++ ys) ≡ [] = e in cc)

-- what a session heard
hears_reads : (j k : ℕ) (call : Option Call) → j ≡ k → AreReadCalls (asked_in k (flat_map (λ c. record { session = j; call = c } ∷ []) (call_in call))) → IsReadCall call
hears_reads j k None same reads = tt
hears_reads j k (Some call) same reads = (subst AreReadCalls (cond-true (nat_eq j k) (call ∷ []) [] (eq-eqb j k same)) reads).0

answer_reads : (j k : ℕ) (call : Call) (answer : Answer) → j ≡ k → AnswerReads (answered_in k (record { session = j; call = call; answer = answer } ∷ [])) → IsReadCall (Some call)
answer_reads j k call answer same reads = (subst AnswerReads (cond-true {A = List (Call × Answer)} (nat_eq j k) ((call, answer) ∷ []) [] (eq-eqb j k same)) reads).0

module _ (k : ℕ) where
  reader_act : (act : Act) → IsPlain k act → failed_by act ≡ [] → AreReadCalls (asked_in k (asked_by act)) → AnswerReads (answered_in k (answered_by act)) → IsReaderAct act
  reader_act (Opens protocol node greeting) plain sound asks answers = absurd plain
  reader_act (Does j (IsFed octets)) plain sound asks answers = tt
  reader_act (Does j (Hears one)) plain sound asks answers = hears_reads j k one.call plain asks
  reader_act (Does j (IsAnswered call answer reply)) plain sound asks answers = answer_reads j k call answer plain answers
  reader_act (Does j (IsGivenUp call reply)) plain sound asks answers = absurd plain
  reader_act (Does j Falls) plain sound asks answers = tt
  reader_act (Does j Closes) plain sound asks answers = tt
  reader_act (Faults node) plain sound asks answers = absurd (let never : node ∷ [] ≡ [] = sound in cc)
  reader_act (StillWaits j) plain sound asks answers = tt
  reader_act (Leaves j user) plain sound asks answers = tt
  reader_act (Makes Flow HasFlowed) plain sound asks answers = tt
  reader_act (Makes Flow (HasFaulted node)) plain sound asks answers = absurd (let never : node ∷ [] ≡ [] = sound in cc)
  reader_act (Makes order event) plain sound asks answers = absurd plain
  reader_act (Abandons j) plain sound asks answers = absurd plain

  pub reader_acts : (acts : List Act) → All (IsPlain k) acts → failed_in acts ≡ [] → AreReadCalls (asked_in k (flat_map asked_by acts)) → AnswerReads (answered_in k (flat_map answered_by acts))
      → All IsReaderAct acts
  reader_acts [] plain sound asks answers = All-nil IsReaderAct
  reader_acts (act ∷ acts) plain sound asks answers =
      let faults = both_empty (failed_by act) (failed_in acts) sound in
      let calls = calls_apart (asked_in k (asked_by act)) (asked_in k (flat_map asked_by acts)) (subst AreReadCalls (asked_both k (asked_by act) (flat_map asked_by acts)) asks) in
      let told = answers_apart (answered_in k (answered_by act)) (answered_in k (flat_map answered_by acts)) (subst AnswerReads (answered_both k (answered_by act) (flat_map answered_by acts)) answers) in
      All-cons IsReaderAct act acts (reader_act act (All-head (IsPlain k) act acts plain) faults.0 calls.0 told.0)
      (reader_acts acts (All-tail (IsPlain k) act acts plain) faults.1 calls.1 told.1)

-- the only answer of session k is one of the log
pub only_among : (k : ℕ) (call : Call) (answer : Answer) (answered : List Answered) → answered_in k answered ≡ (call, answer) ∷ [] → AmongAnswers (record { session = k; call = call; answer = answer }) answered
only_among k call answer [] is = absurd (let never : ◌≡◌ {A = List (Call × Answer)} [] ((call, answer) ∷ []) = is in cc)
only_among k call answer (other ∷ answered) is = ⊎_elim
    (λ same.
    let here : (other.call, other.answer) ∷ answered_in k answered ≡ (call, answer) ∷ [] =
    sym (cond-true (nat_eq other.session k) ((other.call, other.answer) ∷ answered_in k answered) (answered_in k answered) (eq-eqb other.session k same)) ∙ is in
    inl (first other (answered_in k answered) same here))
    (λ differ. inr (only_among k call answer answered
    (sym (cond-false (nat_eq other.session k) ((other.call, other.answer) ∷ answered_in k answered) (answered_in k answered) (ne_eqb other.session k differ)) ∙ is)))
    (cases_eq other.session k)
  where
    first : (one : Answered) (rest : List (Call × Answer)) → one.session ≡ k → (one.call, one.answer) ∷ rest ≡ (call, answer) ∷ [] → one ≡ record { session = k; call = call; answer = answer }
    first one rest same e = let pair : ◌≡◌ {A = Call × Answer} (one.call, one.answer) (call, answer) = cc in
        ap₂ (λ (s : ℕ) (p : Call × Answer). record { session = s; call = p.0; answer = p.1 }) same pair

-- three exchanges of which the second alone asks, and is answered
pub calls_are : (named proved asked : Exchange) (call : Call) → named.call ≡ None → proved.call ≡ Some call → asked.call ≡ None → calls_of (named ∷ proved ∷ asked ∷ []) ≡ call ∷ []
calls_are named proved asked call none asks no_call = λ i. call_in (none i) ++ (call_in (asks i) ++ (call_in (no_call i) ++ []))

pub answers_are : (named proved asked : Exchange) (call : Call) (answer : Answer) → named.call ≡ None → proved.call ≡ Some call → proved.answer ≡ Some answer → asked.call ≡ None
    → answers_of (named ∷ proved ∷ asked ∷ []) ≡ (call, answer) ∷ []
answers_are named proved asked call answer none asks told no_call =
    λ i. answer_in (none i) named.answer ++ (answer_in (asks i) (told i) ++ (answer_in (no_call i) asked.answer ++ []))

-- the session of a number is of the kind that was opened there
kind_at_end : (kinds : List (Protocol × ℕ)) (sessions : List Session) (last : Protocol × ℕ) (session : Session) → kinds ++ last ∷ [] ≡ map (λ (s : Session). (s.protocol, s.node)) sessions
    → slice_get sessions (length kinds) ≡ Some session → (session.protocol, session.node) ≡ last
kind_at_end kinds [] last session are at = absurd (none-some session at)
kind_at_end [] (first ∷ sessions) last session are at =
    let same : first ≡ session = cc in
    let kind : last ≡ (first.protocol, first.node) = cc in
    sym (kind ∙ ap (λ (s : Session). (s.protocol, s.node)) same)
kind_at_end (kind ∷ kinds) (first ∷ sessions) last session are at =
    let rest : kinds ++ last ∷ [] ≡ map (λ (s : Session). (s.protocol, s.node)) sessions = cc in
    kind_at_end kinds sessions last session rest at

pub kind_of_last : (kinds : List (Protocol × ℕ)) (sessions : List Session) (last : Protocol × ℕ) (session : Session) → kinds ++ last ∷ [] ≡ map (λ (s : Session). (s.protocol, s.node)) sessions
    → session_at sessions (length kinds + 1) ≡ Some session → (session.protocol, session.node) ≡ last
kind_of_last kinds sessions last session are at =
    let e : length kinds + 1 ≡ suc (length kinds) = omega arith in
    kind_at_end kinds sessions last session are (sym (by_number sessions (length kinds)) ∙ ap (session_at sessions) (sym e) ∙ at)
