-- What acts asked and were answered are the calls and answers of exchanges.
use Rattle.std.proofs.Common.{◌≡◌, ◌≢◌, ⊎_elim, ◌+◌, ℕ, zero, suc, List, [], ◌∷◌, ◌++◌, length, flat_map, Option, Some, None, refl, sym, ap, ap₂, ◌∙◌, subst, append_assoc, append-nil, nat_eq}
use Rattle.std.proofs.lemmas.List.Concat.{flat_map-append}
use Rattle.std.proofs.lemmas.Bool.{cases_eq, cond-true, cond-false, eq-eqb, ne_eqb}
use Rattle.mail_model.specs.Plan.{Plan}
use Rattle.mail_model.specs.Transcript.{Entry}
use Rattle.mail_model.specs.Transcript.{all_of}
use Rattle.mail_model.proofs.Choices.{split_if}
use Rattle.mail_model.proofs.Sessions.{by_number}
use Rattle.session_model.specs.Calls.{Call, Answer}
use Rattle.session_model.specs.Calls.Answer.{Failed}
use Rattle.session_model.specs.Talk.{TalkState, Exchange, Standing, Lead, IsLed, Breaks, TalkGoes, opening_state, stands, standing_asked, heard, lead_of}
use Rattle.session_model.specs.Talk.Lead.{Says, Ends, Asks}
use Rattle.session_model.specs.Talk.Standing.{Hearing, Waiting}
use Rattle.session_model.specs.Moves.{with_answer}
use Rattle.session_model.specs.Sessions.{Session, session_at, exchanges_of}
use Rattle.session_model.specs.Acts.{Act, Deed, Did, WasAnswered, Acted, ActedAll, opened_session}
use Rattle.session_model.specs.Acts.Act.{Opens, Does, Faults, StillWaits, Leaves, Makes, Abandons}
use Rattle.session_model.specs.Acts.Deed.{IsFed, Hears, IsAnswered, IsGivenUp, Falls, Closes}
use Rattle.session_model.specs.Logs.{Asked, Answered, IsLogged, call_in, answer_in, calls_of, answers_of, asked_by, answered_by, asked_in, answered_in}
use Rattle.session_model.proofs.Chains.{goes_at}
use Rattle.session_model.specs.Spoken.{Speaks}
use Rattle.session_model.proofs.Did.{never_waits}
use Rattle.session_model.proofs.Acts.{Kept, Spoken, acted_keeps, act_push, replaced, replaced_other, pushed, pushed_other, none_behind}

-- parts of a log

asked_both : (k : ℕ) (xs ys : List Asked) → asked_in k (xs ++ ys) ≡ asked_in k xs ++ asked_in k ys
asked_both k [] ys = refl
asked_both k (one ∷ xs) ys = rw (asked_both k xs ys) (split_if (nat_eq one.session k) one.call (asked_in k xs) (asked_in k ys))

answered_both : (k : ℕ) (xs ys : List Answered) → answered_in k (xs ++ ys) ≡ answered_in k xs ++ answered_in k ys
answered_both k [] ys = refl
answered_both k (one ∷ xs) ys =
    rw (answered_both k xs ys) (split_if {X = Call × Answer} (nat_eq one.session k) (one.call, one.answer) (answered_in k xs) (answered_in k ys))

-- calls that an act of this session asks
own_asked : (k : ℕ) (call : Option Call) → asked_in k (flat_map (λ c. record { session = k; call = c } ∷ []) (call_in call)) ≡ call_in call
own_asked k None = refl
own_asked k (Some call) = cond-true (nat_eq k k) (call ∷ []) [] (eq-eqb k k refl)

other_asked : (j k : ℕ) (call : Option Call) → j ≢ k → asked_in j (flat_map (λ c. record { session = k; call = c } ∷ []) (call_in call)) ≡ []
other_asked j k None other = refl
other_asked j k (Some call) other = cond-false (nat_eq k j) (call ∷ []) [] (ne_eqb k j (λ e. other (sym e)))

pub own_answered : (k : ℕ) (call : Call) (answer : Answer) → answered_in k (record { session = k; call = call; answer = answer } ∷ []) ≡ (call, answer) ∷ []
own_answered k call answer = cond-true (nat_eq k k) ((call, answer) ∷ []) [] (eq-eqb k k refl)

other_answered : (j k : ℕ) (call : Call) (answer : Answer) → j ≢ k → answered_in j (record { session = k; call = call; answer = answer } ∷ []) ≡ []
other_answered j k call answer other = cond-false (nat_eq k j) ((call, answer) ∷ []) [] (ne_eqb k j (λ e. other (sym e)))

-- an act of another session asks and answers nothing
asked_other : (j k : ℕ) (deed : Deed) → j ≢ k → asked_in j (asked_by (Does k deed)) ≡ []
asked_other j k (Hears one) other = other_asked j k one.call other
asked_other j k (IsFed octets) other = refl
asked_other j k (IsAnswered call answer reply) other = refl
asked_other j k (IsGivenUp call reply) other = refl
asked_other j k Falls other = refl
asked_other j k Closes other = refl

answered_other : (j k : ℕ) (deed : Deed) → j ≢ k → answered_in j (answered_by (Does k deed)) ≡ []
answered_other j k (IsAnswered call answer reply) other = other_answered j k call answer other
answered_other j k (IsGivenUp call reply) other = other_answered j k call Failed other
answered_other j k (IsFed octets) other = refl
answered_other j k (Hears one) other = refl
answered_other j k Falls other = refl
answered_other j k Closes other = refl

-- the exchange that waits

waiting_one : (plan : Plan) (state told : TalkState) (call : Call) (one : Exchange) (lead : Lead) → IsLed lead one → Waiting told call ≡ stands plan state one lead
    → (one.answer ≡ None) × (one.call ≡ Some call)
waiting_one plan state told call one (Says reply) led e = cc
waiting_one plan state told call one (Ends reply) led e = cc
waiting_one plan state told call one (Asks asks) led e = by_answer one.answer refl
  where
    by_answer : (answer : Option Answer) → one.answer ≡ answer → (one.answer ≡ None) × (one.call ≡ Some call)
    by_answer None there =
        let waits : Waiting told call ≡ Waiting (heard plan state one.unit []) asks = e ∙ ap (standing_asked (heard plan state one.unit []) asks) there in
        let same : call ≡ asks = cc in
        (there, led.0 ∙ ap Some (sym same))
    by_answer (Some answer) there = absurd (never_waits (heard plan state one.unit []) told asks call answer (e ∙ ap (standing_asked (heard plan state one.unit []) asks) there))

waiting_in : (plan : Plan) (said : List (List ℕ)) (session : Session) (before : List Exchange) (one : Exchange) (told : TalkState) (call : Call) → Speaks plan said session
    → session.whole ≡ before ++ one ∷ [] → session.standing ≡ Waiting told call → (one.answer ≡ None) × (one.call ≡ Some call)
waiting_in plan said session before one told call speaks cut waits =
    let first : speaks.talk.before ≡ Waiting told call = broken speaks.talk.before session.standing waits speaks.talk.ends in
    let goes : TalkGoes plan session.node (Hearing (opening_state session.protocol)) session.octets (before ++ one ∷ []) (Waiting told call) session.rest =
    subst (λ (l : List Exchange). TalkGoes plan session.node (Hearing (opening_state session.protocol)) session.octets l (Waiting told call) session.rest) cut
    (subst (λ (s : Standing). TalkGoes plan session.node (Hearing (opening_state session.protocol)) session.octets session.whole s session.rest) first speaks.talk.goes) in
    let at = goes_at plan session.node (Hearing (opening_state session.protocol)) session.octets before one [] (Waiting told call) session.rest goes in
    waiting_one plan at.state told call one (lead_of plan session.node at.state one.unit) at.next.led at.goes_behind.0
  where
    broken : (first standing : Standing) → standing ≡ Waiting told call → Breaks first standing → first ≡ Waiting told call
    broken first standing is breaks = subst (Breaks first) is breaks

-- what one session does

calls_push : (been : List Exchange) (one : Exchange) → calls_of (been ++ one ∷ []) ≡ calls_of been ++ call_in one.call
calls_push been one = flat_map-append (λ (x : Exchange). call_in x.call) been (one ∷ []) ∙ ap (λ (l : List Call). calls_of been ++ l) (append-nil (call_in one.call))

answers_push : (been : List Exchange) (one : Exchange) → answers_of (been ++ one ∷ []) ≡ answers_of been ++ answer_in one.call one.answer
answers_push been one =
    flat_map-append (λ (x : Exchange). answer_in x.call x.answer) been (one ∷ [])
    ∙ ap (λ (l : List (Call × Answer)). answers_of been ++ l) (append-nil (answer_in one.call one.answer))

none_answered : (call : Option Call) → answer_in call None ≡ []
none_answered None = refl
none_answered (Some call) = refl

-- its calls and answers grow so
pub record Grows (k : ℕ) (deed : Deed) (old new : Session) : Type 0 where
  pub asks : calls_of new.whole ≡ calls_of old.whole ++ asked_in k (asked_by (Does k deed))
  pub answers : answers_of new.whole ≡ answers_of old.whole ++ answered_in k (answered_by (Does k deed))

-- not at all
still : (k : ℕ) (deed : Deed) (old new : Session) → new.whole ≡ old.whole → asked_in k (asked_by (Does k deed)) ≡ [] → answered_in k (answered_by (Does k deed)) ≡ [] → Grows k deed old new
still k deed old new same no_call no_answer = record {
  asks = ap calls_of same ∙ sym (append-nil (calls_of old.whole)) ∙ ap (λ (l : List Call). calls_of old.whole ++ l) (sym no_call);
  answers = ap answers_of same ∙ sym (append-nil (answers_of old.whole)) ∙ ap (λ (l : List (Call × Answer)). answers_of old.whole ++ l) (sym no_answer);
}

-- a call that was answered, or given up
answer_grows : (plan : Plan) (k : ℕ) (said lines : List (List ℕ)) (old new : Session) (deed : Deed) (call : Call) (answer : Answer) (reply : List (List ℕ)) → Speaks plan said old
    → WasAnswered old call answer reply lines new → asked_by (Does k deed) ≡ [] → answered_by (Does k deed) ≡ record { session = k; call = call; answer = answer } ∷ [] → Grows k deed old new
answer_grows plan k said lines old new deed call answer reply speaks did no_call is_answer =
    let before : List Exchange = did.0 in
    let one : Exchange = did.1 in
    let waits = waiting_in plan said old before one did.2 call speaks did.3 did.4 in
    let whole : new.whole ≡ before ++ with_answer one answer reply ∷ [] = ap (λ (s : Session). s.whole) did.7 in
    record {
      asks = ap calls_of whole ∙ calls_push before (with_answer one answer reply) ∙ sym (calls_push before one) ∙ ap calls_of (sym did.3) ∙ sym (append-nil (calls_of old.whole))
          ∙ ap (λ (l : List Asked). calls_of old.whole ++ asked_in k l) (sym no_call);
      answers = ap answers_of whole ∙ answers_push before (with_answer one answer reply)
          ∙ ap₂ ◌++◌
          (sym (append-nil (answers_of before)) ∙ ap (λ (l : List (Call × Answer)). answers_of before ++ l) (sym (ap (answer_in one.call) waits.0 ∙ none_answered one.call))
          ∙ sym (answers_push before one) ∙ ap answers_of (sym did.3))
          (ap (λ (c : Option Call). answer_in c (Some answer)) waits.1 ∙ sym (own_answered k call answer) ∙ ap (answered_in k) (sym is_answer));
    }

pub did_grows : (plan : Plan) (k : ℕ) (said lines : List (List ℕ)) (old new : Session) (deed : Deed) → Speaks plan said old → Did plan old deed lines new → Grows k deed old new
did_grows plan k said lines old new (IsFed more) speaks did = still k (IsFed more) old new (ap (λ (s : Session). s.whole) did.2) refl refl
did_grows plan k said lines old new Falls speaks did = still k Falls old new (ap (λ (s : Session). s.whole) did.2) refl refl
did_grows plan k said lines old new Closes speaks did = still k Closes old new (ap (λ (s : Session). s.whole) did.2) refl refl
did_grows plan k said lines old new (Hears one) speaks did =
    let whole : new.whole ≡ old.whole ++ one ∷ [] = ap (λ (s : Session). s.whole) did.5 in
    record {
      asks = ap calls_of whole ∙ calls_push old.whole one ∙ ap (λ (l : List Call). calls_of old.whole ++ l) (sym (own_asked k one.call));
      answers = ap answers_of whole ∙ answers_push old.whole one
          ∙ ap (λ (l : List (Call × Answer)). answers_of old.whole ++ l) (ap (answer_in one.call) did.6 ∙ none_answered one.call);
    }
did_grows plan k said lines old new (IsAnswered call answer reply) speaks did = answer_grows plan k said lines old new (IsAnswered call answer reply) call answer reply speaks did refl refl
did_grows plan k said lines old new (IsGivenUp call reply) speaks did = answer_grows plan k said lines old new (IsGivenUp call reply) call Failed reply speaks did refl refl

-- all sessions

-- a session, or none, by the logs
abbrev pub Logged : List Call → List (Call × Answer) → Option Session → Type 0
Logged calls answers None = (calls ≡ []) × (answers ≡ [])
Logged calls answers (Some session) = (calls ≡ calls_of session.whole) × (answers ≡ answers_of session.whole)

logged_so : (calls calls_now : List Call) (answers answers_now : List (Call × Answer)) (session now : Option Session) → calls_now ≡ calls → answers_now ≡ answers → now ≡ session
    → Logged calls answers session → Logged calls_now answers_now now
logged_so calls calls_now answers answers_now session now c a s logged =
    subst (λ (x : List Call). Logged x answers_now now) (sym c)
    (subst (λ (x : List (Call × Answer)). Logged calls x now) (sym a)
    (subst (λ (x : Option Session). Logged calls answers x) (sym s) logged))

-- the logs of session k
abbrev pub AreLogged : List Act → List Session → Type 0
AreLogged acts sessions = (k : ℕ) → Logged (asked_in k (flat_map asked_by acts)) (answered_in k (flat_map answered_by acts)) (session_at sessions k)

module _ (plan : Plan) (acts : List Act) (entries : List Entry) (old : List Session) (kept : Kept plan acts entries old) (logged : AreLogged acts old) where
  -- the logs with one act more
  asks_more : (act : Act) (k : ℕ) → asked_in k (flat_map asked_by (acts ++ act ∷ [])) ≡ asked_in k (flat_map asked_by acts) ++ asked_in k (asked_by act)
  asks_more act k = ap (asked_in k) (act_push asked_by acts act) ∙ asked_both k (flat_map asked_by acts) (asked_by act)

  answers_more : (act : Act) (k : ℕ) → answered_in k (flat_map answered_by (acts ++ act ∷ [])) ≡ answered_in k (flat_map answered_by acts) ++ answered_in k (answered_by act)
  answers_more act k = ap (answered_in k) (act_push answered_by acts act) ∙ answered_both k (flat_map answered_by acts) (answered_by act)

  -- a session that an act leaves alone
  log_alone : (act : Act) (new : List Session) (j : ℕ) → asked_in j (asked_by act) ≡ [] → answered_in j (answered_by act) ≡ [] → session_at new j ≡ session_at old j
      → Logged (asked_in j (flat_map asked_by (acts ++ act ∷ []))) (answered_in j (flat_map answered_by (acts ++ act ∷ []))) (session_at new j)
  log_alone act new j no_call no_answer same = logged_so (asked_in j (flat_map asked_by acts)) _ (answered_in j (flat_map answered_by acts)) _ (session_at old j) (session_at new j)
      (asks_more act j ∙ ap (λ (l : List Call). asked_in j (flat_map asked_by acts) ++ l) no_call ∙ append-nil (asked_in j (flat_map asked_by acts)))
      (answers_more act j ∙ ap (λ (l : List (Call × Answer)). answered_in j (flat_map answered_by acts) ++ l) no_answer ∙ append-nil (answered_in j (flat_map answered_by acts)))
      same (logged j)

  -- whatever act
  pub acted_logged : (act : Act) (more : List Entry) (new : List Session) → Acted plan old act more new → AreLogged (acts ++ act ∷ []) new
  acted_logged (Faults node) more new (says, is) j = log_alone (Faults node) new j refl refl (ap (λ (l : List Session). session_at l j) is)
  acted_logged (StillWaits k) more new (says, is) j = log_alone (StillWaits k) new j refl refl (ap (λ (l : List Session). session_at l j) is)
  acted_logged (Leaves k user) more new (says, is) j = log_alone (Leaves k user) new j refl refl (ap (λ (l : List Session). session_at l j) is)
  acted_logged (Makes order event) more new (says, is) j = log_alone (Makes order event) new j refl refl (ap (λ (l : List Session). session_at l j) is)
  acted_logged (Abandons k) more new (says, is) j = log_alone (Abandons k) new j refl refl (ap (λ (l : List Session). session_at l j) is)
  acted_logged (Opens protocol node greeting) more new (says, is) j = ⊎_elim
      (λ same.
      let before : Logged (asked_in j (flat_map asked_by acts)) (answered_in j (flat_map answered_by acts)) None =
      subst (Logged (asked_in j (flat_map asked_by acts)) (answered_in j (flat_map answered_by acts))) (ap (session_at old) same ∙ none_behind old) (logged j) in
      logged_so [] _ [] _ (Some (opened_session protocol node)) (session_at new j)
      (asks_more (Opens protocol node greeting) j ∙ append-nil (asked_in j (flat_map asked_by acts)) ∙ before.0)
      (answers_more (Opens protocol node greeting) j ∙ append-nil (answered_in j (flat_map answered_by acts)) ∙ before.1)
      (ap (λ (l : List Session). session_at l j) is ∙ ap (session_at (old ++ opened_session protocol node ∷ [])) same ∙ pushed old (opened_session protocol node)) (refl, refl))
      (λ other. log_alone (Opens protocol node greeting) new j refl refl
      (ap (λ (l : List Session). session_at l j) is ∙ pushed_other old (opened_session protocol node) j other))
      (cases_eq j (length old + 1))
  acted_logged (Does k deed) more new (before, behind, said, at, did, says, is) j = ⊎_elim
      (λ same. subst (λ (n : ℕ). Logged (asked_in n (flat_map asked_by (acts ++ Does k deed ∷ []))) (answered_in n (flat_map answered_by (acts ++ Does k deed ∷ []))) (session_at new n)) (sym same) own)
      (λ other. log_alone (Does k deed) new j (asked_other j k deed other) (answered_other j k deed other)
      (ap (λ (l : List Session). session_at l j) is ∙ replaced_other old k j before behind at other))
      (cases_eq j k)
    where
      own : Logged (asked_in k (flat_map asked_by (acts ++ Does k deed ∷ []))) (answered_in k (flat_map answered_by (acts ++ Does k deed ∷ []))) (session_at new k)
      own =
          let spoken = subst (Spoken plan _ _) at (kept.each k) in
          let was : Logged (asked_in k (flat_map asked_by acts)) (answered_in k (flat_map answered_by acts)) (Some before) = subst (Logged _ _) at (logged k) in
          let grows = did_grows plan k spoken.1 said before behind deed spoken.3 did in
          logged_so _ _ _ _ (Some behind) (session_at new k) refl refl (ap (λ (l : List Session). session_at l k) is ∙ replaced old k before behind at) (
            asks_more (Does k deed) k ∙ ap (λ (l : List Call). l ++ asked_in k (asked_by (Does k deed))) was.0 ∙ sym grows.asks,
            answers_more (Does k deed) k ∙ ap (λ (l : List (Call × Answer)). l ++ answered_in k (answered_by (Does k deed))) was.1 ∙ sym grows.answers,
          )

-- all acts
pub all_logged : (plan : Plan) (been acts : List Act) (entries : List Entry) (old last : List Session) (outputs : List (List Entry)) → Kept plan been entries old → AreLogged been old
    → ActedAll plan old acts outputs last → Kept plan (been ++ acts) (entries ++ all_of outputs) last × AreLogged (been ++ acts) last
all_logged plan been [] entries old last [] kept logged done = (
  subst (Kept plan (been ++ []) (entries ++ [])) (sym done)
      (subst (λ (l : List Act). Kept plan l (entries ++ []) old) (sym (append-nil been)) (subst (λ (l : List Entry). Kept plan been l old) (sym (append-nil entries)) kept)),
  subst (AreLogged (been ++ [])) (sym done) (subst (λ (l : List Act). AreLogged l old) (sym (append-nil been)) logged),
)
all_logged plan been (act ∷ acts) entries old last [] kept logged done = absurd done
all_logged plan been [] entries old last (more ∷ outputs) kept logged done = absurd done
all_logged plan been (act ∷ acts) entries old last (more ∷ outputs) kept logged (mid, acted, done) =
    let later = all_logged plan (been ++ act ∷ []) acts (entries ++ more) mid last outputs (acted_keeps plan been entries old kept act more mid acted)
    (acted_logged plan been entries old kept logged act more mid acted) done in (
      subst (λ (l : List Act). Kept plan l (entries ++ all_of (more ∷ outputs)) last) (append_assoc been (act ∷ []) acts)
          (subst (λ (l : List Entry). Kept plan ((been ++ act ∷ []) ++ acts) l last) (append_assoc entries more (all_of outputs)) later.0),
      subst (λ (l : List Act). AreLogged l last) (append_assoc been (act ∷ []) acts) later.1,
    )

-- nothing was asked yet
pub none_logged : (k : ℕ) → Logged [] [] (session_at [] k)
none_logged zero = (refl, refl)
none_logged (suc n) = logged_so [] [] [] [] None (session_at [] (suc n)) refl refl (by_number [] n) (refl, refl)

-- a session that was parted in no way has no exchange but those that were got whole
pub logged_whole : (calls : List Call) (answers : List (Call × Answer)) (session : Session) → session.others ≡ [] → Logged calls answers (Some session) → IsLogged calls answers (Some session)
logged_whole calls answers session none logged =
    let whole : session.whole ≡ exchanges_of session = sym (append-nil session.whole) ∙ ap (λ (l : List Exchange). session.whole ++ l) (sym none) in
    (logged.0 ∙ ap calls_of whole, logged.1 ∙ ap answers_of whole)
