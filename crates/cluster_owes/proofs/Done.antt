-- Calls that read of which nobody is waited for, and what keeps them so.
use Rattle.std.proofs.Common.{◌≡◌, ⊎_elim, ◌+◌, ℕ, Bool, true, false, List, [], ◌∷◌, ◌++◌, Option, Some, None, refl, sym, subst, if◌then◌else◌}
use Rattle.std.specs.Prelude.{nat_eq}
use Rattle.std.specs.Ordering.{nat_cmp}
use Rattle.std.specs.FinMap as fin
use Rattle.std.specs.Cmp.{nat_cmp_total}
use Rattle.std.proofs.lemmas.Bool.{eq-eqb}
use Rattle.std.proofs.lemmas.Map.Lookups.{exact_unsigned}
use Rattle.mail_model.specs.Identity.{Id}
use Rattle.mail_model.specs.Plan.{Proof}
use Rattle.object_model.specs.Sets.{has, without_node}
use Rattle.object_model.specs.Mishaps.{MishapKind, no_mishaps}
use Rattle.object_model.specs.Letters.{Number, LoginWord, ToldItem, ToldPart, Body, Letter}
use Rattle.object_model.specs.Letters.LoginWord.{Named, Wrong, InUse, NoProfile}
use Rattle.object_model.specs.Letters.Body.{LoginAsk, LoginTold, ListTold, FetchTold}
use Rattle.object_model.proofs.MapLaws.{found, left_found}
use Rattle.object_model.proofs.SetLaws.{left_in}
use Rattle.login_model.specs.Readings.{LoginStage, Login, FetchStage, Fetch, Reading, ReadTicket, Reads}
use Rattle.login_model.specs.Readings.LoginStage.{AsksManager, IsDenied, AsksNodes, HasFailed}
use Rattle.login_model.specs.Readings.FetchStage.{AsksHolder, IsAnswered, NobodyLeft}
use Rattle.login_model.specs.Readings.Reading.{LogsIn, Fetches}
use Rattle.login_model.specs.Cluster.{Node}
use Rattle.login_model.specs.Rules.{ReadDid, same, Under, ask, under, take_word, begin_login, begin_fetch, ask_next, word_at, list_at, part_at, hear_for, fail, befell, login_befell, fetch_befell, told_at, hear_told, befell_at, mishap, begin_read, read_at}
use Rattle.login_model.specs.Facts.{AnswerAwaited, LoginWaits, FetchWaits, ReadingWaits}
use Rattle.login_model.specs.Facts.AnswerAwaited.{ForWord, ForList, ForPart}
use Rattle.login_model.proofs.Hears.{read_here}

-- nobody is waited for
abbrev pub IsDone : Reading → Type 0
IsDone reading = (m : ℕ) (what : AnswerAwaited) → ReadingWaits reading m what → ⊥

pub login_done : (login : Login) (stage : LoginStage) → login.stage ≡ stage → ((m : ℕ) (what : AnswerAwaited) → LoginWaits login.manager stage m what → ⊥) → IsDone (LogsIn login)
login_done login stage e done m what w = done m what (subst (λ s. LoginWaits login.manager s m what) e w)

done_login : (login : Login) (stage : LoginStage) → login.stage ≡ stage → IsDone (LogsIn login) → (m : ℕ) (what : AnswerAwaited) → LoginWaits login.manager stage m what → ⊥
done_login login stage e done m what w = done m what (subst (λ s. LoginWaits login.manager s m what) (sym e) w)

done_fetch : (fetch : Fetch) (stage : FetchStage) → fetch.stage ≡ stage → IsDone (Fetches fetch) → (m : ℕ) (what : AnswerAwaited) → FetchWaits stage m what → ⊥
done_fetch fetch stage e done m what w = done m what (subst (λ s. FetchWaits s m what) (sym e) w)

-- such a call hears nothing that it waits for
module _ (u : Under) (from : ℕ) where
  word_kept : (login : Login) (mine : List ToldItem) (word : LoginWord) (stage : LoginStage) → login.stage ≡ stage → IsDone (LogsIn login) → IsDone (word_at u from login mine word stage).reading
  word_kept login mine word AsksManager e done = absurd (done_login login AsksManager e done login.manager ForWord refl)
  word_kept login mine word (IsDenied other) e done = done
  word_kept login mine word (AsksNodes named waiting told) e done = done
  word_kept login mine word HasFailed e done = done

  list_kept : (login : Login) (items : List ToldItem) (stage : LoginStage) → login.stage ≡ stage → IsDone (LogsIn login) → IsDone (list_at from login items stage).reading
  list_kept login items AsksManager e done = done
  list_kept login items (IsDenied word) e done = done
  list_kept login items (AsksNodes named waiting told) e done = by (has waiting from) refl
    where
      by : (b : Bool) → has waiting from ≡ b
          → IsDone (if b then same (LogsIn (record login { stage = AsksNodes named (without_node waiting from) (told ++ record { node = from; items = items } ∷ []) })) else same (LogsIn login)).reading
      by true h = absurd (done_login login (AsksNodes named waiting told) e done from ForList h)
      by false h = done
  list_kept login items HasFailed e done = done

  part_kept : (fetch : Fetch) (part : ToldPart) (stage : FetchStage) → fetch.stage ≡ stage → IsDone (Fetches fetch) → IsDone (part_at from fetch part stage).reading
  part_kept fetch part (AsksHolder holder left) e done = λ m what w. w
  part_kept fetch part (IsAnswered by other) e done = done
  part_kept fetch part NobodyLeft e done = λ m what w. w

  hear_kept : (mine : List ToldItem) (reading : Reading) (body : Body) → IsDone reading → IsDone (hear_for u from mine reading body).reading
  hear_kept mine (LogsIn login) (LoginTold word) done = word_kept login mine word login.stage refl done
  hear_kept mine (LogsIn login) (ListTold items) done = list_kept login items login.stage refl done
  hear_kept mine (Fetches fetch) (FetchTold part) done = part_kept fetch part fetch.stage refl done
  hear_kept mine reading body done = done

-- and no mishap makes it wait
module _ (u : Under) (at : ℕ) where
  failed_done : (login : Login) → IsDone (fail u login).reading
  failed_done login m what w = w

  login_kept : (login : Login) (stage : LoginStage) → login.stage ≡ stage → IsDone (LogsIn login) → IsDone (login_befell u at login stage).reading
  login_kept login AsksManager e done = by (nat_eq at login.manager)
    where
      by : (b : Bool) → IsDone (if b then fail u login else same (LogsIn login)).reading
      by true = failed_done login
      by false = done
  login_kept login (IsDenied word) e done = done
  login_kept login (AsksNodes named waiting told) e done = by (has waiting at)
    where
      by : (b : Bool) → IsDone (if b then fail u login else same (LogsIn login)).reading
      by true = failed_done login
      by false = done
  login_kept login HasFailed e done = done

  fetch_kept : (fetch : Fetch) (stage : FetchStage) → fetch.stage ≡ stage → IsDone (Fetches fetch) → IsDone (fetch_befell u at fetch stage).reading
  fetch_kept fetch (AsksHolder holder left) e done = absurd (done_fetch fetch (AsksHolder holder left) e done holder ForPart refl)
  fetch_kept fetch (IsAnswered by part) e done = done
  fetch_kept fetch NobodyLeft e done = done

  befell_kept : (reading : Reading) → IsDone reading → IsDone (befell u at reading).reading
  befell_kept (LogsIn login) done = login_kept login login.stage refl done
  befell_kept (Fetches fetch) done = fetch_kept fetch fetch.stage refl done

-- A login that its own node manages, and which names no other, is done as it begins. So is a fetch of which the own node is a holder.
pub word_done : (u : Under) (login : Login) (mine : List ToldItem) (word : LoginWord) → ((named : ℕ) → word ≡ Named named → (m : ℕ) → has named m ≡ true → m ≡ u.own) → IsDone (take_word u login mine word).reading
word_done u login mine (Named named) own m ForWord w = w
word_done u login mine (Named named) own m ForList w = let left = left_in named u.own m w in left.1 (own named refl m left.0)
word_done u login mine (Named named) own m ForPart w = w
word_done u login mine (Wrong stamp) own m what w = w
word_done u login mine (InUse by) own m what w = w
word_done u login mine NoProfile own m what w = w

pub begun_login : (u : Under) (user : List ℕ) (proof : Proof) (manager : ℕ) (word : LoginWord) (mine : List ToldItem) → manager ≡ u.own → ((named : ℕ) → word ≡ Named named → (m : ℕ) → has named m ≡ true → m ≡ u.own)
    → IsDone (begin_login u user proof manager word mine).reading
begun_login u user proof manager word mine is own = subst (λ b. IsDone (if b then take_word u login mine word else waits).reading) (sym (eq-eqb manager u.own is)) (word_done u login mine word own)
  where
    login : Login
    login = record { user = user; manager = manager; stage = AsksManager }

    waits : ReadDid
    waits = record { reading = LogsIn login; out = ask u manager (LoginAsk user proof) ∷ [] }

pub begun_fetch : (u : Under) (user : List ℕ) (id : Id) (at most holders : ℕ) (part : ToldPart) → has holders u.own ≡ true → IsDone (begin_fetch u user id at most holders part).reading
begun_fetch u user id at most holders part own =
    subst (λ b. IsDone (if b then same (Fetches (record fetch { stage = IsAnswered u.own part })) else ask_next u fetch holders).reading) (sym own) (λ m what w. w)
  where
    fetch : Fetch
    fetch = record { user = user; id = id; at = at; most = most; stage = NobodyLeft }

-- all tickets of a node are so
abbrev pub AreDone : Reads → Type 0
AreDone reads = (seq : ℕ) (ticket : ReadTicket) → fin.get reads seq ≡ Some ticket → IsDone ticket.reading

pub none_done : AreDone fin.empty
none_done seq ticket e = absurd (clash (fin.get (fin.empty {R = nat_cmp}) seq) (fin.get-empty nat_cmp seq) e)
  where
    clash : (o : Option ReadTicket) → o ≡ None → o ≡ Some ticket → ⊥
    clash o p q = cc

with_done : (reads : Reads) (seq : ℕ) (new : ReadTicket) → AreDone reads → IsDone new.reading → AreDone (fin.insert reads seq new)
with_done reads seq new all done at ticket e = ⊎_elim
    (λ (is, t). subst (λ (x : ReadTicket). IsDone x.reading) (sym t) done)
    (λ (apart, stood). all at ticket stood)
    (found nat_cmp_total exact_unsigned reads seq new at ticket e)

-- so they stay, whatever is heard and befalls
module _ (own : ℕ) (node : Node) (all : AreDone node.reads) where
  pub told_done : (letter : Letter) (mine : List ToldItem) → AreDone (hear_told own node letter mine).node.reads
  told_done letter mine = by letter.ticket (read_at own node letter.ticket) refl
    where
      by : (number : Option Number) (stood : Option ReadTicket) → read_at own node number ≡ stood → AreDone (told_at own node letter mine number stood).node.reads
      by None stood e = all
      by (Some number) None e = all
      by (Some number) (Some ticket) e =
          with_done node.reads number.seq _ all (hear_kept (under own node number) letter.from mine ticket.reading letter.body (all number.seq ticket (read_here own node number ticket e).here))

  pub mishap_done : (kind : MishapKind) (at : ℕ) (number : Number) → AreDone (mishap own kind at node number).node.reads
  mishap_done kind at number = by (read_at own node (Some number)) refl
    where
      by : (stood : Option ReadTicket) → read_at own node (Some number) ≡ stood → AreDone (befell_at own kind at node number stood).node.reads
      by None e = all
      by (Some ticket) e = with_done node.reads number.seq _ all (befell_kept (under own node number) at ticket.reading (all number.seq ticket (read_here own node number ticket e).here))

  pub begun_done : (did : ReadDid) → IsDone did.reading → AreDone (begin_read own node did).node.reads
  begun_done did done = with_done node.reads (node.calls + 1) (record { reading = did.reading; mishaps = no_mishaps }) all done

  pub ended_done : (seq : ℕ) → AreDone (fin.remove node.reads seq)
  ended_done seq at ticket e = all at ticket (left_found nat_cmp_total exact_unsigned node.reads seq at ticket e).1
