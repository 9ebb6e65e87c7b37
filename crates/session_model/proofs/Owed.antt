-- What a cluster owes of its calls is true in the sessions that asked them.
use Rattle.std.proofs.Common.{◌≡◌, ◌⊎◌, inl, inr, ⊎_elim, ℕ, List, [], ◌∷◌, ◌++◌, flat_map, Option, Some, None, refl, sym, ap, ap₂, ◌∙◌, subst, append_assoc, nat_eq}
use Rattle.std.proofs.lemmas.Bool.{cases_eq, cond-true, cond-false, eq-eqb, ne_eqb}
use Rattle.mail_model.specs.Identity.{Id}
use Rattle.mail_model.specs.Plan.{Plan}
use Rattle.mail_model.specs.Transcript.{Entry}
use Rattle.session_model.specs.Calls.{Call, Answer}
use Rattle.session_model.specs.Calls.Call.{Login, Fetch, Strike}
use Rattle.session_model.specs.Calls.Answer.{Listed, Part, Dropped}
use Rattle.session_model.specs.Talk.{Exchange}
use Rattle.session_model.specs.Reading.{Each, ListsOnce, ListsNamed}
use Rattle.session_model.specs.Sessions.{Session, session_at, exchanges_of}
use Rattle.session_model.specs.Facts.{AsksDeletion, ListsOwn, SizesFiled, IsPartFiled}
use Rattle.session_model.specs.Acts.{Act}
use Rattle.session_model.specs.Logs.{Answered, IsLogged, answer_in, answers_of, asked_by, answered_by, asked_in, answered_in}
use Rattle.session_model.specs.Runs.{Shows}
use Rattle.session_model.specs.Books.{AmongAnswers}
use Rattle.session_model.specs.Owes.{OwedDeletionsAreTrue, OwedListingsAreTrue, OwedListingsAreOwn, OwedPartsAreTrue}
use Rattle.session_model.proofs.Books.{IsCallIn, among_in, call_at}

-- the call with its answer is one of these
abbrev IsPairIn : Call → Answer → List (Call × Answer) → Type 0
IsPairIn call answer [] = ⊥
IsPairIn call answer (other ∷ pairs) = (other ≡ (call, answer)) ⊎ IsPairIn call answer pairs

-- an answer of session k is one of the log
pair_among : (k : ℕ) (call : Call) (answer : Answer) (answered : List Answered) → IsPairIn call answer (answered_in k answered)
    → AmongAnswers (record { session = k; call = call; answer = answer }) answered
pair_among k call answer [] is = absurd is
pair_among k call answer (other ∷ answered) is = ⊎_elim
    (λ same. ⊎_elim
    (λ here. inl (ap₂ (λ (s : ℕ) (p : Call × Answer). record { session = s; call = p.0; answer = p.1 }) same here))
    (λ later. inr (pair_among k call answer answered later))
    (subst (IsPairIn call answer) (cond-true (nat_eq other.session k) ((other.call, other.answer) ∷ answered_in k answered) (answered_in k answered) (eq-eqb other.session k same)) is))
    (λ differ. inr (pair_among k call answer answered
    (subst (IsPairIn call answer) (cond-false (nat_eq other.session k) ((other.call, other.answer) ∷ answered_in k answered) (answered_in k answered) (ne_eqb other.session k differ)) is)))
    (cases_eq other.session k)

-- an exchange that was answered is one of its session's answers
pair_at : (call : Call) (answer : Answer) (before behind : List Exchange) (one : Exchange) → one.call ≡ Some call → one.answer ≡ Some answer
    → IsPairIn call answer (answers_of (before ++ one ∷ behind))
pair_at call answer [] behind one asks told =
    subst (λ (c : Option Call). IsPairIn call answer (answer_in c one.answer ++ answers_of behind)) (sym asks)
    (subst (λ (a : Option Answer). IsPairIn call answer (answer_in (Some call) a ++ answers_of behind)) (sym told) (inl refl))
pair_at call answer (first ∷ before) behind one asks told = by_first first.call first.answer (pair_at call answer before behind one asks told)
  where
    by_first : (c : Option Call) (a : Option Answer) → IsPairIn call answer (answers_of (before ++ one ∷ behind)) → IsPairIn call answer (answer_in c a ++ answers_of (before ++ one ∷ behind))
    by_first None a is = is
    by_first (Some own) None is = is
    by_first (Some own) (Some given) is = inr is

-- each exchange, wherever it stands
each_from : (P : Exchange → Type 0) (front exchanges : List Exchange) → ((before behind : List Exchange) (one : Exchange) → front ++ exchanges ≡ before ++ one ∷ behind → P one) → Each P exchanges
each_from P front [] has = tt
each_from P front (one ∷ exchanges) has = (
  has front exchanges one refl,
  each_from P (front ++ one ∷ []) exchanges (λ before behind other is. has before behind other (sym (append_assoc front (one ∷ []) exchanges) ∙ is)),
)

module _ (plan : Plan) (lines : List (List ℕ)) (entries : List Entry) (acts : List Act) (sessions : List Session) (shows : Shows plan lines entries acts sessions) where
  -- what session k asked and was answered
  pub logged : (k : ℕ) (there : Option Session) → session_at sessions k ≡ there → IsLogged (asked_in k (flat_map asked_by acts)) (answered_in k (flat_map answered_by acts)) there
  logged k there at = subst (IsLogged (asked_in k (flat_map asked_by acts)) (answered_in k (flat_map answered_by acts))) at (shows.logged k)

  -- an answer of an exchange is one of the log
  pub answer_among : (k : ℕ) (session : Session) → session_at sessions k ≡ Some session → (call : Call) (answer : Answer) (before behind : List Exchange) (one : Exchange)
      → exchanges_of session ≡ before ++ one ∷ behind → one.call ≡ Some call → one.answer ≡ Some answer
      → AmongAnswers (record { session = k; call = call; answer = answer }) (flat_map answered_by acts)
  answer_among k session at call answer before behind one are asks told =
      pair_among k call answer (flat_map answered_by acts)
      (subst (IsPairIn call answer) (ap answers_of (sym are) ∙ sym (logged k (Some session) at).1) (pair_at call answer before behind one asks told))

  -- a call of the log is one of a session
  strike_of : (k : ℕ) (user : List ℕ) (ids : List Id) (there : Option Session) → session_at sessions k ≡ there → IsCallIn (Strike user ids) (asked_in k (flat_map asked_by acts))
      → (session : Session) × (one : Exchange) × (session_at sessions k ≡ Some session) × AsksDeletion session user ids one
  strike_of k user ids None none is = absurd (subst (IsCallIn (Strike user ids)) (logged k None none).0 is)
  strike_of k user ids (Some session) at is =
      let found = call_at (Strike user ids) (exchanges_of session) (subst (IsCallIn (Strike user ids)) (logged k (Some session) at).0 is) in
      (session, found.2, at, (found.0, found.1, found.3, found.4))

pub owed_deletions_are_true : OwedDeletionsAreTrue
owed_deletions_are_true plan lines entries disks acts sessions shows owes = record {
  asked = λ n user id gone.
      let (k, ids, among, within) = owes.asks n user id gone in
      let found = strike_of plan lines entries acts sessions shows k user ids (session_at sessions k) refl
      (among_in (record { session = k; call = Strike user ids }) (flat_map asked_by acts) among) in
      (k, found.0, ids, found.1, found.2, found.3, within);
  gone = λ k session user ids one at (before, behind, are, asks) told id within.
      owes.gone k user ids id (answer_among plan lines entries acts sessions shows k session at (Strike user ids) Dropped before behind one are asks told) within;
  once = λ k session at. each_from ListsOnce [] (exchanges_of session) (λ before behind one are user given items asks told.
      owes.once k user given items (answer_among plan lines entries acts sessions shows k session at (Login user given) (Listed items) before behind one are asks told));
}

pub owed_listings_are_true : OwedListingsAreTrue
owed_listings_are_true plan lines entries disks acts sessions shows owes = record {
  once = λ k session at. each_from ListsOnce [] (exchanges_of session) (λ before behind one are user given items asks told.
      owes.once k user given items (answer_among plan lines entries acts sessions shows k session at (Login user given) (Listed items) before behind one are asks told));
  named = λ k session at. each_from ListsNamed [] (exchanges_of session) (λ before behind one are user given items asks told.
      owes.named k user given items (answer_among plan lines entries acts sessions shows k session at (Login user given) (Listed items) before behind one are asks told));
}

pub owed_listings_are_own : OwedListingsAreOwn
owed_listings_are_own plan lines entries disks acts sessions shows owes k session at =
    each_from (ListsOwn disks) [] (exchanges_of session) (λ before behind one are user given items asks told.
    owes k user given items (answer_among plan lines entries acts sessions shows k session at (Login user given) (Listed items) before behind one are asks told))

pub owed_parts_are_true : OwedPartsAreTrue
owed_parts_are_true plan lines entries filed acts sessions shows owes = record {
  sizes = λ k session at. each_from (SizesFiled filed) [] (exchanges_of session) (λ before behind one are user given items asks told.
      owes.sizes k user given items (answer_among plan lines entries acts sessions shows k session at (Login user given) (Listed items) before behind one are asks told));
  parts = λ k session at. each_from (IsPartFiled filed) [] (exchanges_of session) (λ before behind one are user id part asks told.
      owes.parts k user id part (answer_among plan lines entries acts sessions shows k session at (Fetch user id) (Part part) before behind one are asks told));
}
