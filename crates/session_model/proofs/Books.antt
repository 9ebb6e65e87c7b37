-- The book of a cluster is as clients were told, where it is that of their calls.
use Rattle.std.proofs.Common.{◌≡◌, ◌⊎◌, inl, inr, ⊎_elim, ℕ, Bool, true, false, List, [], ◌∷◌, ◌++◌, map, flat_map, Option, Some, None, refl, sym, ap, ap₂, ◌∙◌, subst, append-nil, nat_eq, if◌then◌else◌}
use Rattle.std.proofs.lemmas.List.{map-append}
use Rattle.std.proofs.lemmas.List.Concat.{flat_map-append}
use Rattle.std.proofs.lemmas.Bool.{cases_eq, cond-true, cond-false, eq-eqb, ne_eqb}
use Rattle.mail_model.specs.Told.{Mail}
use Rattle.mail_model.specs.Stored.{Ack, mails_in}
use Rattle.session_model.specs.Calls.{Call, Answer}
use Rattle.session_model.specs.Calls.Call.{Deliver, Login, Fetch, Strike}
use Rattle.session_model.specs.Talk.{Exchange}
use Rattle.session_model.specs.Mailing.{StoredMail, filing_of, filings}
use Rattle.session_model.specs.Facts.{ack_of}
use Rattle.session_model.specs.Logs.{Asked, Answered, call_in, answer_in, calls_of, answers_of, asked_in, answered_in}
use Rattle.session_model.specs.Books.{Among, acks_by}

-- messages

-- the messages of filings
abbrev pub mails : List StoredMail → List Mail
mails filed = map (λ filing. filing.mail) filed

-- the filings of calls with answers
abbrev pub filed_by : List (Call × Answer) → List StoredMail
filed_by answers = flat_map (λ one. filing_of (Some one.0) (Some one.1)) answers

-- a call that has no answer files nothing
unanswered : (call : Call) → filing_of (Some call) None ≡ []
unanswered (Deliver mail) = refl
unanswered (Login user given) = refl
unanswered (Fetch user id) = refl
unanswered (Strike user ids) = refl

-- the filings of an exchange
filed_one : (call : Option Call) (answer : Option Answer) → filed_by (answer_in call answer) ≡ filing_of call answer
filed_one None answer = refl
filed_one (Some call) None = sym (unanswered call)
filed_one (Some call) (Some answer) = append-nil (filing_of (Some call) (Some answer))

-- and of all
pub filed_all : (exchanges : List Exchange) → filed_by (answers_of exchanges) ≡ filings exchanges
filed_all [] = refl
filed_all (one ∷ exchanges) =
    flat_map-append (λ (x : Call × Answer). filing_of (Some x.0) (Some x.1)) (answer_in one.call one.answer) (answers_of exchanges)
    ∙ ap₂ ◌++◌ (filed_one one.call one.answer) (filed_all exchanges)

-- the messages of session k among those of one answer and of others
mails_one : (k session : ℕ) (filed : List StoredMail) (more : List Ack)
    → mails_in k (map (ack_of session) filed ++ more) ≡ (if nat_eq session k then mails filed ++ mails_in k more else mails_in k more)
mails_one k session [] more = by_test (nat_eq session k)
  where
    by_test : (b : Bool) → mails_in k more ≡ (if b then mails_in k more else mails_in k more)
    by_test true = refl
    by_test false = refl
mails_one k session (filing ∷ filed) more = by_test (nat_eq session k) (mails_one k session filed more)
  where
    by_test : (b : Bool) → mails_in k (map (ack_of session) filed ++ more) ≡ (if b then mails filed ++ mails_in k more else mails_in k more)
        → (if b then filing.mail ∷ mails_in k (map (ack_of session) filed ++ more) else mails_in k (map (ack_of session) filed ++ more))
        ≡ (if b then filing.mail ∷ (mails filed ++ mails_in k more) else mails_in k more)
    by_test true same = ap (λ (l : List Mail). filing.mail ∷ l) same
    by_test false same = same

-- the messages of session k are those of its answers
pub mails_answered : (k : ℕ) (answered : List Answered) → mails_in k (flat_map acks_by answered) ≡ mails (filed_by (answered_in k answered))
mails_answered k [] = refl
mails_answered k (one ∷ answered) =
    mails_one k one.session (filing_of (Some one.call) (Some one.answer)) (flat_map acks_by answered) ∙ by_test (nat_eq one.session k) (mails_answered k answered)
  where
    by_test : (b : Bool) → mails_in k (flat_map acks_by answered) ≡ mails (filed_by (answered_in k answered))
        → (if b then mails (filing_of (Some one.call) (Some one.answer)) ++ mails_in k (flat_map acks_by answered) else mails_in k (flat_map acks_by answered))
        ≡ mails (filed_by (if b then (one.call, one.answer) ∷ answered_in k answered else answered_in k answered))
    by_test true same =
        ap (λ (l : List Mail). mails (filing_of (Some one.call) (Some one.answer)) ++ l) same
        ∙ sym (map-append (λ (filing : StoredMail). filing.mail) (filing_of (Some one.call) (Some one.answer)) (filed_by (answered_in k answered)))
    by_test false same = same

-- deletions

-- the call is one of these
abbrev pub IsCallIn : Call → List Call → Type 0
IsCallIn call [] = ⊥
IsCallIn call (other ∷ calls) = (other ≡ call) ⊎ IsCallIn call calls

-- a call of a log is one of its session
pub among_in : (one : Asked) (asked : List Asked) → Among one asked → IsCallIn one.call (asked_in one.session asked)
among_in one [] among = absurd among
among_in one (other ∷ asked) among = ⊎_elim
    (λ same.
    subst (IsCallIn one.call) (sym (cond-true (nat_eq other.session one.session) (other.call ∷ asked_in one.session asked) (asked_in one.session asked)
    (eq-eqb other.session one.session (ap (λ (a : Asked). a.session) same))))
    (inl (ap (λ (a : Asked). a.call) same)))
    (λ later. by_test (nat_eq other.session one.session) (among_in one asked later)) among
  where
    by_test : (b : Bool) → IsCallIn one.call (asked_in one.session asked) → IsCallIn one.call (if b then other.call ∷ asked_in one.session asked else asked_in one.session asked)
    by_test true is = inr is
    by_test false is = is

-- and the other way round
pub in_among : (k : ℕ) (call : Call) (asked : List Asked) → IsCallIn call (asked_in k asked) → Among (record { session = k; call = call }) asked
in_among k call [] is = absurd is
in_among k call (other ∷ asked) is = ⊎_elim
    (λ same. ⊎_elim
    (λ here. inl (ap₂ (λ (s : ℕ) (c : Call). record { session = s; call = c }) same here))
    (λ later. inr (in_among k call asked later))
    (subst (IsCallIn call) (cond-true (nat_eq other.session k) (other.call ∷ asked_in k asked) (asked_in k asked) (eq-eqb other.session k same)) is))
    (λ differ. inr (in_among k call asked
    (subst (IsCallIn call) (cond-false (nat_eq other.session k) (other.call ∷ asked_in k asked) (asked_in k asked) (ne_eqb other.session k differ)) is)))
    (cases_eq other.session k)

-- a call of a session is that of an exchange
abbrev pub IsAsked : Call → List Exchange → Type 0
IsAsked call exchanges = (before : List Exchange) × (behind : List Exchange) × (one : Exchange) × (exchanges ≡ before ++ one ∷ behind) × (one.call ≡ Some call)

pub call_at : (call : Call) (exchanges : List Exchange) → IsCallIn call (calls_of exchanges) → IsAsked call exchanges
call_at call [] is = absurd is
call_at call (one ∷ exchanges) is = by_call one.call refl (λ h. call_at call exchanges h) is
  where
    later : IsAsked call exchanges → IsAsked call (one ∷ exchanges)
    later (before, behind, x, are, asks) = (one ∷ before, behind, x, ap (λ (l : List Exchange). one ∷ l) are, asks)

    by_call : (here : Option Call) → one.call ≡ here → (IsCallIn call (calls_of exchanges) → IsAsked call exchanges) → IsCallIn call (call_in here ++ calls_of exchanges)
        → IsAsked call (one ∷ exchanges)
    by_call None there rest h = later (rest h)
    by_call (Some own) there rest h = ⊎_elim (λ same. ([], exchanges, one, refl, there ∙ ap Some same)) (λ x. later (rest x)) h

-- and the other way round
pub at_call : (call : Call) (before behind : List Exchange) (one : Exchange) → one.call ≡ Some call → IsCallIn call (calls_of (before ++ one ∷ behind))
at_call call [] behind one is = subst (λ (c : Option Call). IsCallIn call (call_in c ++ calls_of behind)) (sym is) (inl refl)
at_call call (first ∷ before) behind one is = by_call first.call (at_call call before behind one is)
  where
    by_call : (here : Option Call) → IsCallIn call (calls_of (before ++ one ∷ behind)) → IsCallIn call (call_in here ++ calls_of (before ++ one ∷ behind))
    by_call None h = h
    by_call (Some own) h = inr h
