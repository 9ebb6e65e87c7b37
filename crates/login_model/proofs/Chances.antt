-- Each letter that a mishap sends takes a chance away; and a call that failed counts a mishap.
use Rattle.std.proofs.Common.{◌≡◌, inl, ⊎_elim, ◌≤◌, ◌<◌, ◌+◌, ℕ, zero, suc, Bool, true, false, cond, List, [], ◌∷◌, length, None, Some, refl, sym, ap, ◌∙◌, subst, arith, true≢false, nat_eq, if◌then◌else◌}
use Rattle.std.specs.FinMap as map
use Rattle.std.proofs.lemmas.Bool.{cases_eq}
use Rattle.mail_model.specs.Record.{Record}
use Rattle.object_model.specs.Sets.{has, without_node, count_below, count_in, nodes_in}
use Rattle.object_model.specs.Lists.{Among}
use Rattle.object_model.specs.Letters.{Letter}
use Rattle.object_model.specs.Letters.Body.{Unlock}
use Rattle.object_model.specs.Mishaps.{Mishaps, mishaps_of}
use Rattle.object_model.proofs.SetLaws.{left_in}
use Rattle.cluster_model.specs.Rules.{receivers}
use Rattle.cluster_model.proofs.Counting.{count_le}
use Rattle.cluster_model.proofs.Logs.{receiver_is}
use Rattle.login_model.specs.Readings.{ToldList, LoginStage, Login, FetchStage, Fetch, Reading, ReadTicket}
use Rattle.login_model.specs.Readings.LoginStage.{AsksManager, IsDenied, AsksNodes, HasFailed}
use Rattle.login_model.specs.Readings.FetchStage.{AsksHolder, IsAnswered, NobodyLeft}
use Rattle.login_model.specs.Readings.Reading.{LogsIn, Fetches}
use Rattle.login_model.specs.Cluster.{Node, Cluster, slot_at, slot_up}
use Rattle.login_model.specs.Rules.{same, ReadDid, Under, fail, unlock, ask_first, ask_next, login_befell, fetch_befell, befell}
use Rattle.login_model.specs.Facts.{login_failed, fetch_failed, has_failed}
use Rattle.login_model.specs.Parts.{Sound}
use Rattle.login_model.specs.Progress.{ReadAnswer, ReadAsk, ask_of_nodes, login_ask, fetch_ask, ask_read, login_chances, fetch_chances, chances}
use Rattle.login_model.specs.Progress.ReadAnswer.{Fails}
use Rattle.login_model.specs.Progress.ReadAsk.{Done}
use Rattle.login_model.proofs.Steps.{few}

-- a set that lacks a node of another has a node less at least
pub count_less : (a b m : ℕ) → ((n : ℕ) → has a n ≡ true → has b n ≡ true) → has b m ≡ true → (has a m ≡ true → ⊥) → (k : ℕ) → m ≤ k → count_below a k + 1 ≤ count_below b k
unfolding count_below
count_less a b m within inside outside zero le = absurd (nobody m inside le)
  where
    nobody : (j : ℕ) → has b j ≡ true → j ≤ 0 → ⊥
    nobody zero h e = true≢false (sym h)
    nobody (suc j) h e = omega (arith, e)
count_less a b m within inside outside (suc k) le = ⊎_elim
    (λ is. at is (count_le a b within k) (has a (suc k)) (has b (suc k)) refl refl)
    (λ other. on (count_less a b m within inside outside k (omega (arith, le, other))) (has a (suc k)) (has b (suc k)) refl refl)
    (cases_eq m (suc k))
  where
    at : m ≡ suc k → count_below a k ≤ count_below b k → (x y : Bool) → has a (suc k) ≡ x → has b (suc k) ≡ y → (count_below a k + cond x 1 0) + 1 ≤ count_below b k + cond y 1 0
    at is less false true p q = omega (arith, less)
    at is less true y p q = absurd (outside (subst (λ j. has a j ≡ true) (sym is) p))
    at is less false false p q = absurd (true≢false (sym (subst (λ j. has b j ≡ true) is inside) ∙ q))

    on : count_below a k + 1 ≤ count_below b k → (x y : Bool) → has a (suc k) ≡ x → has b (suc k) ≡ y → (count_below a k + cond x 1 0) + 1 ≤ count_below b k + cond y 1 0
    on less true true p q = omega (arith, less)
    on less false true p q = omega (arith, less)
    on less false false p q = omega (arith, less)
    on less true false p q = absurd (true≢false (sym (within (suc k) p) ∙ q))

pub left_less : (left m : ℕ) → has left m ≡ true → count_in (without_node left m) + 1 ≤ count_in left
left_less left m inside = count_less (without_node left m) left m (λ n h. (left_in left m n h).0) inside (λ h. (left_in left m m h).1 refl) 64 (few left m inside)

pub left_le : (left m : ℕ) → count_in (without_node left m) ≤ count_in left
left_le left m = count_le (without_node left m) left (λ n h. (left_in left m n h).0) 64

-- a login that fails sends an Unlock at most
unlock_one : (u : Under) (login : Login) → length (fail u login).out + chances (fail u login).reading ≤ 1
unlock_one u login = by (nat_eq login.manager u.own)
  where
    by : (b : Bool) → length {A = Letter} (if b then [] else record { from = u.own; to = login.manager; epoch = u.epoch; ticket = None; body = Unlock login.user u.number } ∷ []) + 0 ≤ 1
    by true = omega arith
    by false = omega arith

login_falls : (u : Under) (at : ℕ) (login : Login) (stage : LoginStage) → login.stage ≡ stage → length (login_befell u at login stage).out + chances (login_befell u at login stage).reading ≤ login_chances login.stage
login_falls u at login AsksManager e = subst (λ s. length (login_befell u at login AsksManager).out + chances (login_befell u at login AsksManager).reading ≤ login_chances s) (sym e) (by (nat_eq at login.manager))
  where
    by : (b : Bool) → length {A = Letter} ((λ (d : ReadDid). d.out) (if b then fail u login else same (LogsIn login))) + chances ((λ (d : ReadDid). d.reading) (if b then fail u login else same (LogsIn login))) ≤ 1
    by true = unlock_one u login
    by false = subst (λ s. 0 + login_chances s ≤ 1) (sym e) (omega arith)
login_falls u at login (IsDenied word) e = omega arith
login_falls u at login (AsksNodes named waiting told) e = subst (λ s. length (login_befell u at login (AsksNodes named waiting told)).out + chances (login_befell u at login (AsksNodes named waiting told)).reading ≤ login_chances s) (sym e)
    (by (has waiting at))
  where
    by : (b : Bool) → length {A = Letter} ((λ (d : ReadDid). d.out) (if b then fail u login else same (LogsIn login))) + chances ((λ (d : ReadDid). d.reading) (if b then fail u login else same (LogsIn login))) ≤ 1
    by true = unlock_one u login
    by false = subst (λ s. 0 + login_chances s ≤ 1) (sym e) (omega arith)
login_falls u at login HasFailed e = omega arith

-- a fetch asks one of those that are left
first_falls : (u : Under) (fetch : Fetch) (left : ℕ) (holders : List ℕ) → ((h : ℕ) → Among h holders → has left h ≡ true) → length (ask_first u fetch left holders).out + chances (ask_first u fetch left holders).reading ≤ count_in left
first_falls u fetch left [] all = omega arith
first_falls u fetch left (holder ∷ others) all = let less = left_less left holder (all holder (inl refl)) in omega (arith, less)

fetch_falls : (u : Under) (at : ℕ) (fetch : Fetch) (stage : FetchStage) → fetch.stage ≡ stage → length (fetch_befell u at fetch stage).out + chances (fetch_befell u at fetch stage).reading ≤ fetch_chances fetch.stage
fetch_falls u at fetch (AsksHolder holder left) e = subst (λ s. length (fetch_befell u at fetch (AsksHolder holder left)).out + chances (fetch_befell u at fetch (AsksHolder holder left)).reading ≤ fetch_chances s) (sym e)
    (by (nat_eq at holder))
  where
    by : (b : Bool) → length {A = Letter} ((λ (d : ReadDid). d.out) (if b then ask_next u fetch (without_node left at) else same (Fetches fetch))) + chances ((λ (d : ReadDid). d.reading) (if b then ask_next u fetch (without_node left at) else same (Fetches fetch)))
        ≤ count_in left
    by true =
        let first = first_falls u fetch (without_node left at) (receivers u.own (without_node left at) 64) (λ h m. (receiver_is u.own (without_node left at) 64 h m).0) in
        let fewer = left_le left at in
        omega (arith, first, fewer)
    by false = subst (λ s. 0 + fetch_chances s ≤ count_in left) (sym e) (omega arith)
fetch_falls u at fetch (IsAnswered by_ part) e = omega arith
fetch_falls u at fetch NobodyLeft e = omega arith

pub chances_fall : (u : Under) (at : ℕ) (reading : Reading) → length (befell u at reading).out + chances (befell u at reading).reading ≤ chances reading
chances_fall u at (LogsIn login) = login_falls u at login login.stage refl
chances_fall u at (Fetches fetch) = fetch_falls u at fetch fetch.stage refl

-- an ask that says that the call failed
pub failed_is : (ticket : ReadTicket) (reading : Reading) (mishaps : Mishaps) → ask_read ticket reading ≡ Done (Fails mishaps) → (has_failed reading ≡ true) × (mishaps ≡ ticket.mishaps)
failed_is ticket (LogsIn login) mishaps e = by login.stage e
  where
    of_nodes : (named : ℕ) (told : List ToldList) (nodes : List ℕ) → ask_of_nodes login named told nodes ≡ Done (Fails mishaps) → (login_failed (AsksNodes named 0 told) ≡ true) × (mishaps ≡ ticket.mishaps)
    of_nodes named told [] k = absurd (cc k)
    of_nodes named told (m ∷ others) k = absurd (cc k)

    by : (stage : LoginStage) → login_ask login ticket.mishaps stage ≡ Done (Fails mishaps) → (login_failed stage ≡ true) × (mishaps ≡ ticket.mishaps)
    by AsksManager k = absurd (cc k)
    by (IsDenied word) k = absurd (cc k)
    by (AsksNodes named waiting told) k = of_nodes named told (nodes_in waiting 64) k
    by HasFailed k = (refl, cc)
failed_is ticket (Fetches fetch) mishaps e = by fetch.stage e
  where
    by : (stage : FetchStage) → fetch_ask ticket.mishaps stage ≡ Done (Fails mishaps) → (fetch_failed stage ≡ true) × (mishaps ≡ ticket.mishaps)
    by (AsksHolder holder left) k = absurd (cc k)
    by (IsAnswered by_ part) k = absurd (cc k)
    by NobodyLeft k = (refl, cc)

pub failures_count : (w : Cluster) → Sound w → (n : ℕ) (node : Node) (disk : List Record) → slot_at w.slots n ≡ Some (slot_up node disk) → (seq : ℕ) (ticket : ReadTicket) → map.get node.reads seq ≡ Some ticket
    → (mishaps : Mishaps) → ask_read ticket ticket.reading ≡ Done (Fails mishaps) → 0 < mishaps_of mishaps
failures_count w s n node disk here seq ticket at mishaps e =
    let f = failed_is ticket ticket.reading mishaps e in
    subst (λ m. 0 < mishaps_of m) (sym f.1) (((s.order.each n (slot_up node disk) here).each node refl).counts seq ticket at f.0)
