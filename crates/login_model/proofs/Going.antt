-- All letters of calls that read go from the node to others.
use Rattle.std.proofs.Common.{◌≡◌, ◌≢◌, inl, ⊎_elim, ℕ, Bool, true, false, List, [], ◌∷◌, ◌++◌, Option, Some, None, refl, sym, ◌∙◌, subst, if◌then◌else◌, nat_eq, true≢false}
use Rattle.std.proofs.lemmas.Bool.{eq-eqb}
use Rattle.mail_model.specs.Identity.{Id}
use Rattle.mail_model.specs.Plan.{Plan, Proof}
use Rattle.mail_model.specs.Record.{Record}
use Rattle.object_model.specs.Sets.{has, without_node}
use Rattle.object_model.specs.Lists.{Among}
use Rattle.object_model.specs.Mishaps.{MishapKind}
use Rattle.object_model.specs.Letters.{Number, LoginWord, ToldItem, ToldPart, Body, Letter}
use Rattle.object_model.specs.Letters.LoginWord.{Named, Wrong, InUse, NoProfile}
use Rattle.object_model.specs.Letters.Body.{LoginAsk, LoginTold, ListAsk, ListTold, FetchAsk, FetchTold, Unlock}
use Rattle.cluster_model.specs.Rules.{receivers}
use Rattle.cluster_model.proofs.Logs.{receiver_is, sent_to}
use Rattle.login_model.specs.Readings.{LoginStage, Login, FetchStage, Fetch, Reading, ReadTicket}
use Rattle.login_model.specs.Readings.LoginStage.{AsksManager, IsDenied, AsksNodes, HasFailed}
use Rattle.login_model.specs.Readings.FetchStage.{AsksHolder, IsAnswered, NobodyLeft}
use Rattle.login_model.specs.Readings.Reading.{LogsIn, Fetches}
use Rattle.login_model.specs.Cluster.{Node}
use Rattle.login_model.specs.Rules.{same, Under, ask, take_word, begin_login, ask_first, ask_next, begin_fetch, word_at, list_at, part_at, hear_for, unlock, fail, login_befell, fetch_befell, befell, Reaction, told_at, hear_told, befell_at, mishap, given_up, give_up, leave, read_at, under, answering}
use Rattle.login_model.specs.Facts.{GoesOut, IsReadBody}
use Rattle.login_model.specs.NodeLaws.{Hears}

not_same : (a b : ℕ) → nat_eq a b ≡ false → a ≢ b
not_same a b e same_ = true≢false (sym (eq-eqb a b same_) ∙ e)

module _ (u : Under) where
  word_goes : (login : Login) (mine : List ToldItem) (word : LoginWord) (one : Letter) → Among one (take_word u login mine word).out → GoesOut u.own one
  word_goes login mine (Named named) one m =
      let r = sent_to u.own u.epoch (Some u.number) (receivers u.own named 64) (ListAsk login.user) one m in
      subst (GoesOut u.own) r.2 (record { from = refl; to = (receiver_is u.own named 64 r.0 r.1).1; body = tt })
  word_goes login mine (Wrong stamp) one m = absurd m
  word_goes login mine (InUse by) one m = absurd m
  word_goes login mine NoProfile one m = absurd m

  pub login_goes : (user : List ℕ) (proof : Proof) (manager : ℕ) (word : LoginWord) (mine : List ToldItem) (one : Letter) → Among one (begin_login u user proof manager word mine).out → GoesOut u.own one
  login_goes user proof manager word mine one m = by (nat_eq manager u.own) refl m
    where
      by : (b : Bool) → nat_eq manager u.own ≡ b → Among one (if b then take_word u (record { user = user; manager = manager; stage = AsksManager }) mine word
          else record { reading = LogsIn (record { user = user; manager = manager; stage = AsksManager }); out = ask u manager (LoginAsk user proof) ∷ [] }).out → GoesOut u.own one
      by true e k = word_goes (record { user = user; manager = manager; stage = AsksManager }) mine word one k
      by false e k = ⊎_elim (λ is. subst (GoesOut u.own) is (record { from = refl; to = not_same manager u.own e; body = tt })) (λ none. absurd none) k

  first_goes : (fetch : Fetch) (left : ℕ) (holders : List ℕ) → ((m : ℕ) → Among m holders → m ≢ u.own) → (one : Letter) → Among one (ask_first u fetch left holders).out → GoesOut u.own one
  first_goes fetch left [] others one m = absurd m
  first_goes fetch left (holder ∷ more) others one m = ⊎_elim (λ is. subst (GoesOut u.own) is (record { from = refl; to = others holder (inl refl); body = tt })) (λ none. absurd none) m

  next_goes : (fetch : Fetch) (left : ℕ) (one : Letter) → Among one (ask_next u fetch left).out → GoesOut u.own one
  next_goes fetch left one m = first_goes fetch left (receivers u.own left 64) (λ k inside. (receiver_is u.own left 64 k inside).1) one m

  pub fetch_goes : (user : List ℕ) (id : Id) (at most holders : ℕ) (part : ToldPart) (one : Letter) → Among one (begin_fetch u user id at most holders part).out → GoesOut u.own one
  fetch_goes user id at most holders part one m = by (has holders u.own) m
    where
      by : (b : Bool) → Among one (if b then same (Fetches (record { user = user; id = id; at = at; most = most; stage = IsAnswered u.own part }))
          else ask_next u (record { user = user; id = id; at = at; most = most; stage = NobodyLeft }) holders).out → GoesOut u.own one
      by true k = absurd k
      by false k = next_goes (record { user = user; id = id; at = at; most = most; stage = NobodyLeft }) holders one k

  unlock_goes : (user : List ℕ) (n : Number) (manager : ℕ) (one : Letter) → Among one (unlock u user n manager) → GoesOut u.own one
  unlock_goes user n manager one m = by (nat_eq manager u.own) refl m
    where
      by : (b : Bool) → nat_eq manager u.own ≡ b → Among one (if b then [] else record { from = u.own; to = manager; epoch = u.epoch; ticket = None; body = Unlock user n } ∷ []) → GoesOut u.own one
      by true e k = absurd k
      by false e k = ⊎_elim (λ is. subst (GoesOut u.own) is (record { from = refl; to = not_same manager u.own e; body = tt })) (λ none. absurd none) k

  pub befell_goes : (at : ℕ) (reading : Reading) (one : Letter) → Among one (befell u at reading).out → GoesOut u.own one
  befell_goes at (LogsIn login) one m = by login.stage m
    where
      test : (b : Bool) → Among one (if b then fail u login else same (LogsIn login)).out → GoesOut u.own one
      test true k = unlock_goes login.user u.number login.manager one k
      test false k = absurd k

      by : (stage : LoginStage) → Among one (login_befell u at login stage).out → GoesOut u.own one
      by AsksManager k = test (nat_eq at login.manager) k
      by (IsDenied word) k = absurd k
      by (AsksNodes named waiting told) k = test (has waiting at) k
      by HasFailed k = absurd k
  befell_goes at (Fetches fetch) one m = by fetch.stage m
    where
      test : (left : ℕ) (b : Bool) → Among one (if b then ask_next u fetch (without_node left at) else same (Fetches fetch)).out → GoesOut u.own one
      test left true k = next_goes fetch (without_node left at) one k
      test left false k = absurd k

      by : (stage : FetchStage) → Among one (fetch_befell u at fetch stage).out → GoesOut u.own one
      by (AsksHolder holder left) k = test left (nat_eq at holder) k
      by (IsAnswered other part) k = absurd k
      by NobodyLeft k = absurd k

  pub give_up_goes : (reading : Reading) (one : Letter) → Among one (give_up u reading) → GoesOut u.own one
  give_up_goes (LogsIn login) one m = by login.stage m
    where
      by : (stage : LoginStage) → Among one (given_up u login stage) → GoesOut u.own one
      by AsksManager k = unlock_goes login.user u.number login.manager one k
      by (IsDenied word) k = absurd k
      by (AsksNodes named waiting told) k = unlock_goes login.user u.number login.manager one k
      by HasFailed k = absurd k
  give_up_goes (Fetches fetch) one m = absurd m

  list_goes : (from : ℕ) (login : Login) (items : List ToldItem) (stage : LoginStage) (one : Letter) → Among one (list_at from login items stage).out → GoesOut u.own one
  list_goes from login items AsksManager one m = absurd m
  list_goes from login items (IsDenied word) one m = absurd m
  list_goes from login items (AsksNodes named waiting told) one m = by (has waiting from) m
    where
      by : (b : Bool) → Among one (if b then same (LogsIn (record login { stage = AsksNodes named (without_node waiting from) (told ++ record { node = from; items = items } ∷ []) })) else same (LogsIn login)).out → GoesOut u.own one
      by true k = absurd k
      by false k = absurd k
  list_goes from login items HasFailed one m = absurd m

  part_goes : (from : ℕ) (fetch : Fetch) (part : ToldPart) (stage : FetchStage) (one : Letter) → Among one (part_at from fetch part stage).out → GoesOut u.own one
  part_goes from fetch part (AsksHolder holder left) one m = absurd m
  part_goes from fetch part (IsAnswered by other) one m = absurd m
  part_goes from fetch part NobodyLeft one m = absurd m

  hear_goes : (from : ℕ) (mine : List ToldItem) (reading : Reading) (body : Body) (one : Letter) → Among one (hear_for u from mine reading body).out → GoesOut u.own one
  hear_goes from mine (LogsIn login) (LoginTold word) one m = by login.stage m
    where
      test : (b : Bool) → Among one (if b then take_word u login mine word else same (LogsIn login)).out → GoesOut u.own one
      test true k = word_goes login mine word one k
      test false k = absurd k

      by : (stage : LoginStage) → Among one (word_at u from login mine word stage).out → GoesOut u.own one
      by AsksManager k = test (nat_eq from login.manager) k
      by (IsDenied other) k = absurd k
      by (AsksNodes named waiting told) k = absurd k
      by HasFailed k = absurd k
  hear_goes from mine (LogsIn login) (ListTold items) one m = list_goes from login items login.stage one m
  hear_goes from mine (Fetches fetch) (FetchTold part) one m = part_goes from fetch part fetch.stage one m
  hear_goes from mine reading body one m = absurd m

pub told_goes : (own : ℕ) (node : Node) (letter : Letter) (mine : List ToldItem) (one : Letter) → Among one (hear_told own node letter mine).out → GoesOut own one
told_goes own node letter mine one m = by letter.ticket (read_at own node letter.ticket) m
  where
    by : (o : Option Number) (r : Option ReadTicket) → Among one (told_at own node letter mine o r).out → GoesOut own one
    by None r k = absurd k
    by (Some number) None k = absurd k
    by (Some number) (Some ticket) k = hear_goes (under own node number) letter.from mine ticket.reading letter.body one k

pub mishap_goes : (own : ℕ) (kind : MishapKind) (at : ℕ) (node : Node) (number : Number) (one : Letter) → Among one (mishap own kind at node number).out → GoesOut own one
mishap_goes own kind at node number one m = by (read_at own node (Some number)) m
  where
    by : (r : Option ReadTicket) → Among one (befell_at own kind at node number r).out → GoesOut own one
    by None k = absurd k
    by (Some ticket) k = befell_goes (under own node number) at ticket.reading one k

pub leave_goes : (own : ℕ) (node : Node) (user : List ℕ) (login : Number) (manager : ℕ) (one : Letter) → Among one (leave own node user login manager).out → GoesOut own one
leave_goes own node user login manager one m = unlock_goes (under own node login) user login manager one m

answer_goes : (own : ℕ) (node : Node) (letter : Letter) (body : Body) → IsReadBody body → letter.to ≡ own → letter.from ≢ own → (one : Letter) → Among one (answering node letter body).out → GoesOut own one
answer_goes own node letter body of to from one m = ⊎_elim (λ is. subst (GoesOut own) is (record { from = to; to = from; body = of })) (λ none. absurd none) m

pub hears_goes : (plan : Plan) (own : ℕ) (node : Node) (disk : List Record) (letter : Letter) (did : Reaction) → letter.to ≡ own → letter.from ≢ own → Hears plan own node disk letter letter.body did
    → (one : Letter) → Among one did.out → GoesOut own one
hears_goes plan own node disk letter did to from h one m = by letter.body h
  where
    out_of : (d : Reaction) → did ≡ d → Among one d.out
    out_of d is = subst (λ (r : Reaction). Among one r.out) is m

    by : (body : Body) → Hears plan own node disk letter body did → GoesOut own one
    by (LoginAsk user proof) (word, of, is) = answer_goes own node letter (LoginTold word) tt to from one (out_of (answering node letter (LoginTold word)) is)
    by (ListAsk user) (mine, lists, is) = answer_goes own node letter (ListTold mine) tt to from one (out_of (answering node letter (ListTold mine)) is)
    by (FetchAsk user id at most) (part, says, is) = answer_goes own node letter (FetchTold part) tt to from one (out_of (answering node letter (FetchTold part)) is)
    by (LoginTold word) (mine, has_mine, is) = told_goes own node letter mine one (out_of (hear_told own node letter mine) is)
    by (ListTold items) is = told_goes own node letter [] one (out_of (hear_told own node letter []) is)
    by (FetchTold part) is = told_goes own node letter [] one (out_of (hear_told own node letter []) is)
    by body is = absurd (out_of (record { node = node; out = [] }) is)
