-- What an ask of a ticket answers, by what it waits for.
use Rattle.std.proofs.Common.{◌≡◌, inl, ⊎_elim, ◌≤◌, ℕ, zero, suc, Bool, true, false, List, [], ◌∷◌, refl, sym, ◌∙◌, subst, arith, true≢false, if◌then◌else◌}
use Rattle.std.proofs.lemmas.Bool.{cases_eq}
use Rattle.object_model.specs.Sets.{has, nodes_in}
use Rattle.object_model.specs.Lists.{Among}
use Rattle.object_model.proofs.Lists.{among_front, among_behind, among_either}
use Rattle.login_model.specs.Readings.{ToldList, LoginStage, Login, FetchStage, Fetch, Reading, ReadTicket}
use Rattle.login_model.specs.Readings.LoginStage.{AsksManager, IsDenied, AsksNodes, HasFailed}
use Rattle.login_model.specs.Readings.FetchStage.{AsksHolder, IsAnswered, NobodyLeft}
use Rattle.login_model.specs.Readings.Reading.{LogsIn, Fetches}
use Rattle.login_model.specs.Facts.{AnswerAwaited, LoginWaits, FetchWaits, ReadingWaits}
use Rattle.login_model.specs.Facts.AnswerAwaited.{ForWord, ForList, ForPart}
use Rattle.login_model.specs.Progress.{ask_of_nodes, login_ask, fetch_ask, ask_read}
use Rattle.login_model.specs.Progress.ReadAnswer.{Lists}
use Rattle.login_model.specs.Progress.ReadAsk.{Pending, Done}
use Rattle.login_model.proofs.Steps.{few}

-- the nodes of a set, in order
pub in_set : (mask n m : ℕ) → Among m (nodes_in mask n) → has mask m ≡ true
in_set mask zero m inside = absurd inside
in_set mask (suc k) m inside = ⊎_elim (λ front. in_set mask k m front) (λ last. by (has mask (suc k)) refl last) (among_either m (nodes_in mask k) _ inside)
  where
    by : (b : Bool) → has mask (suc k) ≡ b → Among m (if b then suc k ∷ [] else []) → has mask m ≡ true
    by true e x = ⊎_elim (λ is. subst (λ j. has mask j ≡ true) is e) (λ none. absurd none) x
    by false e x = absurd x

pub set_in : (mask n m : ℕ) → has mask m ≡ true → m ≤ n → Among m (nodes_in mask n)
set_in mask zero zero h le = absurd (true≢false (sym h))
set_in mask zero (suc m) h le = absurd (omega (arith, le))
set_in mask (suc k) m h le = ⊎_elim
    (λ is. among_behind m (nodes_in mask k) _ (subst (λ b. Among m (if b then suc k ∷ [] else [])) (sym (subst (λ j. has mask j ≡ true) is h)) (inl (sym is))))
    (λ other. among_front m (nodes_in mask k) _ (set_in mask k m h (omega (arith, le, other))))
    (cases_eq m (suc k))

pub pending_waits : (ticket : ReadTicket) (got wanted : ℕ) → ask_read ticket ticket.reading ≡ Pending got wanted → (m : ℕ) × (what : AnswerAwaited) × ReadingWaits ticket.reading m what
pending_waits ticket got wanted e = by ticket.reading e
  where
    of_nodes : (login : Login) (named waiting : ℕ) (told : List ToldList) (nodes : List ℕ) → nodes_in waiting 64 ≡ nodes → ask_of_nodes login named told nodes ≡ Pending got wanted → (m : ℕ) × (has waiting m ≡ true)
    of_nodes login named waiting told [] is e = absurd (cc e)
    of_nodes login named waiting told (m ∷ others) is e = (m, in_set waiting 64 m (subst (Among m) (sym is) (inl refl)))

    of_login : (login : Login) (stage : LoginStage) → login.stage ≡ stage → login_ask login ticket.mishaps stage ≡ Pending got wanted → (m : ℕ) × (what : AnswerAwaited) × LoginWaits login.manager login.stage m what
    of_login login AsksManager is e = (login.manager, ForWord, subst (λ s. LoginWaits login.manager s login.manager ForWord) (sym is) refl)
    of_login login (IsDenied word) is e = absurd (cc e)
    of_login login (AsksNodes named waiting told) is e =
        let r = of_nodes login named waiting told (nodes_in waiting 64) refl e in (r.0, ForList, subst (λ s. LoginWaits login.manager s r.0 ForList) (sym is) r.1)
    of_login login HasFailed is e = absurd (cc e)

    of_fetch : (fetch : Fetch) (stage : FetchStage) → fetch.stage ≡ stage → fetch_ask ticket.mishaps stage ≡ Pending got wanted → (m : ℕ) × (what : AnswerAwaited) × FetchWaits fetch.stage m what
    of_fetch fetch (AsksHolder holder left) is e = (holder, ForPart, subst (λ s. FetchWaits s holder ForPart) (sym is) refl)
    of_fetch fetch (IsAnswered by_ part) is e = absurd (cc e)
    of_fetch fetch NobodyLeft is e = absurd (cc e)

    by : (reading : Reading) → ask_read ticket reading ≡ Pending got wanted → (m : ℕ) × (what : AnswerAwaited) × ReadingWaits reading m what
    by (LogsIn login) e = of_login login login.stage refl e
    by (Fetches fetch) e = of_fetch fetch fetch.stage refl e

pub lists_all : (ticket : ReadTicket) (login : Login) → ticket.reading ≡ LogsIn login → (manager named : ℕ) (told : List ToldList) → ask_read ticket ticket.reading ≡ Done (Lists manager named told)
    → (manager ≡ login.manager) × ((waiting : ℕ) × (login.stage ≡ AsksNodes named waiting told) × ((m : ℕ) → has waiting m ≡ true → ⊥))
lists_all ticket login is manager named told e = by login.stage refl (subst (λ r. ask_read ticket r ≡ Done (Lists manager named told)) is e)
  where
    parts : (a b : ℕ) (t : List ToldList) → Done (Lists a b t) ≡ Done (Lists manager named told) → (a ≡ manager) × (b ≡ named) × (t ≡ told)
    parts a b t e = (cc, cc, cc)

    of_nodes : (other waiting : ℕ) (lists : List ToldList) (nodes : List ℕ) → nodes_in waiting 64 ≡ nodes → ask_of_nodes login other lists nodes ≡ Done (Lists manager named told)
        → (manager ≡ login.manager) × (other ≡ named) × (lists ≡ told) × ((m : ℕ) → has waiting m ≡ true → ⊥)
    of_nodes other waiting lists [] none e =
        let p = parts login.manager other lists e in (sym p.0, p.1, p.2, λ m h. subst (Among m) none (set_in waiting 64 m h (few waiting m h)))
    of_nodes other waiting lists (m ∷ others) some e = absurd (cc e)

    by : (stage : LoginStage) → login.stage ≡ stage → login_ask login ticket.mishaps stage ≡ Done (Lists manager named told)
        → (manager ≡ login.manager) × ((waiting : ℕ) × (login.stage ≡ AsksNodes named waiting told) × ((m : ℕ) → has waiting m ≡ true → ⊥))
    by AsksManager s e = absurd (cc e)
    by (IsDenied word) s e = absurd (cc e)
    by (AsksNodes other waiting lists) s e =
        let r = of_nodes other waiting lists (nodes_in waiting 64) refl e in
        (r.0, (waiting, s ∙ (λ i. AsksNodes (r.1 i) waiting (r.2 i)), r.3))
    by HasFailed s e = absurd (cc e)
