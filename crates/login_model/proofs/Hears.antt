-- What a node does with a letter of a call that reads is an act.
use Rattle.std.proofs.Common.{◌≡◌, ◌⊎◌, inl, inr, ⊎_elim, ℕ, Bool, true, false, List, [], ◌∷◌, ◌++◌, Option, Some, None, refl, sym, ap, ◌∙◌, subst, true≢false, if◌then◌else◌, ◌&&◌, nat_eq, le_refl}
use Rattle.std.specs.FinMap as map
use Rattle.std.specs.Cmp.{nat_cmp_total}
use Rattle.std.proofs.lemmas.Bool.{and_parts, eqb-true, eq-eqb, and_from}
use Rattle.std.proofs.lemmas.Map.Lookups.{exact_unsigned}
use Rattle.mail_model.specs.Plan.{Plan, Proof, proves}
use Rattle.mail_model.specs.Record.{Record}
use Rattle.object_model.specs.Sets.{has, without_node}
use Rattle.object_model.specs.Letters.{Number, LoginWord, ToldItem, ToldPart, Body, Letter}
use Rattle.object_model.specs.Letters.LoginWord.{Named, Wrong, InUse, NoProfile}
use Rattle.object_model.specs.Letters.Body.{LoginAsk, LoginTold, ListAsk, ListTold, FetchAsk, FetchTold}
use Rattle.object_model.proofs.SetLaws.{left_in}
use Rattle.object_model.proofs.MapLaws.{written}
use Rattle.object_model.proofs.Lists.{same_some}
use Rattle.cluster_model.specs.Rules.{answer}
use Rattle.login_model.specs.Readings.{LoginStage, Login, FetchStage, Fetch, Reading, ReadTicket, Subject, subject_of}
use Rattle.login_model.specs.Readings.LoginStage.{AsksManager, IsDenied, AsksNodes, HasFailed}
use Rattle.login_model.specs.Readings.FetchStage.{AsksHolder, IsAnswered, NobodyLeft}
use Rattle.login_model.specs.Readings.Reading.{LogsIn, Fetches}
use Rattle.login_model.specs.Readings.Subject.{OfUser, OfPart}
use Rattle.login_model.specs.Cluster.{Node, slot_up}
use Rattle.login_model.specs.Cluster.Life.{Up}
use Rattle.login_model.specs.Rules.{ReadDid, same, Under, Reaction, idle, answering, judge, IsWordOf, first_stamp, hear_for, take_word, word_at, list_at, part_at, told_at, hear_told, read_at, under, with_reading}
use Rattle.login_model.specs.Facts.{Fact, SlotShows, IsToldList, subject_asked, fact_told, has_failed, AnswerAwaited, LoginWaits, FetchWaits, ReadingWaits, AsksFor, TellsFor, Covers, Covered, LifeWaits}
use Rattle.login_model.specs.Facts.Fact.{Names, Lists, Says}
use Rattle.login_model.specs.Facts.AnswerAwaited.{ForWord, ForList, ForPart}
use Rattle.login_model.specs.Moves.{AnswersHeard, IsReady, IsCallDone}
use Rattle.login_model.specs.NodeLaws.{act_of, HasMine, Hears}
use Rattle.login_model.proofs.Steps.{ReadStep, same_step, word_step, list_step, part_step}
use Rattle.login_model.proofs.Reacts.{same_up, Backs, is_act, changes_act}
use Rattle.login_model.proofs.Reacts.TicketFrom.{Stays}

pub same_letter : (a b : Letter) → Some a ≡ Some b → a ≡ b
same_letter a b e = cc

pub same_number : (a b : Number) → Some a ≡ Some b → a ≡ b
same_number a b e = cc

pub none_some : {X : Type 0} (o : Option X) (x : X) → o ≡ None → o ≡ Some x → ⊥
none_some o x p q = cc

-- whoever waits does so for what is told
pub no_part : (manager : ℕ) (stage : LoginStage) (m : ℕ) → LoginWaits manager stage m ForPart → ⊥
no_part manager AsksManager m w = w
no_part manager (IsDenied word) m w = w
no_part manager (AsksNodes named waiting told) m w = w
no_part manager HasFailed m w = w

pub no_word : (stage : FetchStage) (m : ℕ) → FetchWaits stage m ForWord → ⊥
no_word (AsksHolder holder left) m w = w
no_word (IsAnswered by part) m w = w
no_word NobodyLeft m w = w

pub no_list : (stage : FetchStage) (m : ℕ) → FetchWaits stage m ForList → ⊥
no_list (AsksHolder holder left) m w = w
no_list (IsAnswered by part) m w = w
no_list NobodyLeft m w = w

word_done : (u : Under) (login : Login) (mine : List ToldItem) (word : LoginWord) (m : ℕ) → ReadingWaits (take_word u login mine word).reading m ForWord → ⊥
word_done u login mine (Named named) m w = w
word_done u login mine (Wrong stamp) m w = w
word_done u login mine (InUse by) m w = w
word_done u login mine NoProfile m w = w

word_settles : (u : Under) (from : ℕ) (login : Login) (mine : List ToldItem) (word : LoginWord) (stage : LoginStage) → login.stage ≡ stage → ReadingWaits (word_at u from login mine word stage).reading from ForWord → ⊥
word_settles u from login mine word AsksManager e w = by (nat_eq from login.manager) refl w
  where
    by : (b : Bool) → nat_eq from login.manager ≡ b → ReadingWaits (if b then take_word u login mine word else same (LogsIn login)).reading from ForWord → ⊥
    by true h k = word_done u login mine word from k
    by false h k = true≢false (sym (eq-eqb from login.manager (subst (λ s. LoginWaits login.manager s from ForWord) e k)) ∙ h)
word_settles u from login mine word (IsDenied other) e w = subst (λ s. LoginWaits login.manager s from ForWord) e w
word_settles u from login mine word (AsksNodes named waiting told) e w = subst (λ s. LoginWaits login.manager s from ForWord) e w
word_settles u from login mine word HasFailed e w = subst (λ s. LoginWaits login.manager s from ForWord) e w

list_settles : (from : ℕ) (login : Login) (items : List ToldItem) (stage : LoginStage) → login.stage ≡ stage → ReadingWaits (list_at from login items stage).reading from ForList → ⊥
list_settles from login items AsksManager e w = subst (λ s. LoginWaits login.manager s from ForList) e w
list_settles from login items (IsDenied other) e w = subst (λ s. LoginWaits login.manager s from ForList) e w
list_settles from login items (AsksNodes named waiting told) e w = by (has waiting from) refl w
  where
    by : (b : Bool) → has waiting from ≡ b
        → ReadingWaits (if b then same (LogsIn (record login { stage = AsksNodes named (without_node waiting from) (told ++ record { node = from; items = items } ∷ []) })) else same (LogsIn login)).reading from ForList → ⊥
    by true h k = (left_in waiting from from k).1 refl
    by false h k = true≢false (sym (subst (λ s. LoginWaits login.manager s from ForList) e k) ∙ h)
list_settles from login items HasFailed e w = subst (λ s. LoginWaits login.manager s from ForList) e w

part_settles : (from : ℕ) (fetch : Fetch) (part : ToldPart) (stage : FetchStage) → fetch.stage ≡ stage → ReadingWaits (part_at from fetch part stage).reading from ForPart → ⊥
part_settles from fetch part (AsksHolder holder left) e w = w
part_settles from fetch part (IsAnswered by other) e w = subst (λ s. FetchWaits s from ForPart) e w
part_settles from fetch part NobodyLeft e w = w

heard_settles : (u : Under) (from : ℕ) (mine : List ToldItem) (reading : Reading) (body : Body) (what : AnswerAwaited) → TellsFor body what → ReadingWaits (hear_for u from mine reading body).reading from what → ⊥
heard_settles u from mine (LogsIn login) (LoginTold word) ForWord t w = word_settles u from login mine word login.stage refl w
heard_settles u from mine (LogsIn login) (ListTold items) ForList t w = list_settles from login items login.stage refl w
heard_settles u from mine (LogsIn login) (FetchTold part) ForPart t w = no_part login.manager login.stage from w
heard_settles u from mine (Fetches fetch) (LoginTold word) ForWord t w = no_word fetch.stage from w
heard_settles u from mine (Fetches fetch) (ListTold items) ForList t w = no_list fetch.stage from w
heard_settles u from mine (Fetches fetch) (FetchTold part) ForPart t w = part_settles from fetch part fetch.stage refl w
heard_settles u from mine reading body what t w = absurd t

-- a call fails by no letter that it hears
word_fine : (u : Under) (login : Login) (mine : List ToldItem) (word : LoginWord) → has_failed (take_word u login mine word).reading ≡ true → ⊥
word_fine u login mine (Named named) e = cc e
word_fine u login mine (Wrong stamp) e = cc e
word_fine u login mine (InUse by) e = cc e
word_fine u login mine NoProfile e = cc e

word_failed : (u : Under) (from : ℕ) (login : Login) (mine : List ToldItem) (word : LoginWord) (stage : LoginStage) → has_failed (word_at u from login mine word stage).reading ≡ true → has_failed (LogsIn login) ≡ true
word_failed u from login mine word AsksManager e = by (nat_eq from login.manager) e
  where
    by : (b : Bool) → has_failed (if b then take_word u login mine word else same (LogsIn login)).reading ≡ true → has_failed (LogsIn login) ≡ true
    by true k = absurd (word_fine u login mine word k)
    by false k = k
word_failed u from login mine word (IsDenied other) e = e
word_failed u from login mine word (AsksNodes named waiting told) e = e
word_failed u from login mine word HasFailed e = e

list_failed : (from : ℕ) (login : Login) (items : List ToldItem) (stage : LoginStage) → has_failed (list_at from login items stage).reading ≡ true → has_failed (LogsIn login) ≡ true
list_failed from login items AsksManager e = e
list_failed from login items (IsDenied other) e = e
list_failed from login items (AsksNodes named waiting told) e = by (has waiting from) e
  where
    by : (b : Bool) → has_failed (if b then same (LogsIn (record login { stage = AsksNodes named (without_node waiting from) (told ++ record { node = from; items = items } ∷ []) })) else same (LogsIn login)).reading ≡ true
        → has_failed (LogsIn login) ≡ true
    by true k = absurd (cc k)
    by false k = k
list_failed from login items HasFailed e = e

part_failed : (from : ℕ) (fetch : Fetch) (part : ToldPart) (stage : FetchStage) → has_failed (part_at from fetch part stage).reading ≡ true → has_failed (Fetches fetch) ≡ true
part_failed from fetch part (AsksHolder holder left) e = absurd (cc e)
part_failed from fetch part (IsAnswered by other) e = e
part_failed from fetch part NobodyLeft e = absurd (cc e)

heard_failed : (u : Under) (from : ℕ) (mine : List ToldItem) (reading : Reading) (body : Body) → has_failed (hear_for u from mine reading body).reading ≡ true → has_failed reading ≡ true
heard_failed u from mine (LogsIn login) (LoginTold word) e = word_failed u from login mine word login.stage e
heard_failed u from mine (LogsIn login) (ListTold items) e = list_failed from login items login.stage e
heard_failed u from mine (Fetches fetch) (FetchTold part) e = part_failed from fetch part fetch.stage e
heard_failed u from mine reading body e = e

-- the standing ticket of a number is one of this node in this boot
pub record ReadHere (own : ℕ) (node : Node) (number : Number) (ticket : ReadTicket) : Type 0 where
  pub at : number.node ≡ own
  pub boot : number.boot ≡ node.boot
  pub here : map.get node.reads number.seq ≡ Some ticket

pub read_here : (own : ℕ) (node : Node) (number : Number) (ticket : ReadTicket) → read_at own node (Some number) ≡ Some ticket → ReadHere own node number ticket
read_here own node number ticket h = by (nat_eq number.node own && nat_eq number.boot node.boot) refl h
  where
    by : (b : Bool) → (nat_eq number.node own && nat_eq number.boot node.boot) ≡ b → (if b then map.get node.reads number.seq else None) ≡ Some ticket → ReadHere own node number ticket
    by true e k = let parts = and_parts (nat_eq number.node own) (nat_eq number.boot node.boot) e in record { at = eqb-true number.node own parts.0; boot = eqb-true number.boot node.boot parts.1; here = k }
    by false e k = absurd (cc k)

pub read_is : (own : ℕ) (node : Node) (number : Number) → number.node ≡ own → number.boot ≡ node.boot → read_at own node (Some number) ≡ map.get node.reads number.seq
read_is own node number at boot = ap (λ b. if b then map.get node.reads number.seq else None) (and_from (nat_eq number.node own) (nat_eq number.boot node.boot) (eq-eqb number.node own at) (eq-eqb number.boot node.boot boot))

-- a letter that asks is answered
module _ (own : ℕ) (node : Node) (disk : List Record) (letter : Letter) (ready : IsReady own (slot_up node disk) (Some letter)) (body : Body) (subject : Subject) (asked : subject_asked letter.body ≡ Some subject)
    (silent : subject_asked body ≡ None) (true_ : (fact : Fact) → fact_told body subject ≡ Some fact → SlotShows (slot_up node disk) fact)
    (tells : (what : AnswerAwaited) → AsksFor letter.body what → TellsFor body what) (untold : (what : AnswerAwaited) → TellsFor letter.body what → ⊥) where
  answer_act : IsCallDone (act_of own node disk (answering node letter body) (Some letter))
  answer_act = is_act own node node disk disk (Some letter) (answer letter body ∷ []) ready refl (le_refl node.calls) refl
      (λ seq ticket h. Stays h)
      (λ one m s e number t. absurd (⊎_elim (λ is. none_some (subject_asked one.body) s (subst (λ (l : Letter). subject_asked l.body ≡ None) is silent) e) (λ none. none) m))
      (λ one m told. ⊎_elim (λ is. subst (AnswersHeard (act_of own node disk (answering node letter body) (Some letter))) is answered) (λ none. absurd none) m)
      (λ one e number m what c. inl (covers one e number m what c))
    where
      answered : AnswersHeard (act_of own node disk (answering node letter body) (Some letter)) (answer letter body)
      answered = record { from = ready.came letter refl; subject = subject; heard = record { letter = letter; is = refl; holds = (refl, asked) }; true_ = true_ }

      covers : (one : Letter) → Some letter ≡ Some one → (number : Number) (m : ℕ) (what : AnswerAwaited) → Covers one number m what → Covered (answer letter body ∷ []) number m what
      covers one e number m what c =
          let d : Covers letter number m what = subst (λ (l : Letter). Covers l number m what) (sym (same_letter letter one e)) c in
          ⊎_elim
          (λ (from, to, asks). record { letter = answer letter body; inside = inl refl; covers = (d.0, inr (from, to, tells what asks)) })
          (λ (to, from, told). absurd (untold what told))
          d.1

-- a letter that tells is heard for a ticket, or is late
module _ (own : ℕ) (node : Node) (disk : List Record) (letter : Letter) (mine : List ToldItem) (ready : IsReady own (slot_up node disk) (Some letter))
    (silent : (what : AnswerAwaited) → AsksFor letter.body what → ⊥) (has_mine : (word : LoginWord) → letter.body ≡ LoginTold word → HasMine own node disk letter word mine) where
  -- nothing waits for a letter that is late
  late : (letter.ticket ≡ None) ⊎ ((number : Number) × (letter.ticket ≡ Some number) × (read_at own node (Some number) ≡ None)) → IsCallDone (act_of own node disk (idle node) (Some letter))
  late how = is_act own node node disk disk (Some letter) [] ready refl (le_refl node.calls) refl
      (λ seq ticket h. Stays h)
      (λ one m s e number t. absurd m)
      (λ one m told. absurd m)
      (λ one e number m what c. inr (settled one e number m what c))
    where
      nobody : (number : Number) → letter.ticket ≡ Some number → number.node ≡ own → (m : ℕ) (what : AnswerAwaited) → LifeWaits (Up node) number m what → ⊥
      nobody number t at m what w =
          let same = same_up node w.reads.node w.reads.up in
          let here = subst (λ (n : Node). map.get n.reads number.seq ≡ Some w.reads.ticket) (sym same) w.reads.here in
          let boot : number.boot ≡ node.boot = w.reads.boot ∙ ap (λ (n : Node). n.boot) (sym same) in
          ⊎_elim
          (λ none. none_some letter.ticket number none t)
          (λ (other, t2, none). none_some (read_at own node (Some number)) w.reads.ticket (subst (λ n. read_at own node (Some n) ≡ None) (same_number other number (sym t2 ∙ t)) none) (read_is own node number at boot ∙ here))
          how

      settled : (one : Letter) → Some letter ≡ Some one → (number : Number) (m : ℕ) (what : AnswerAwaited) → Covers one number m what → (number.node ≡ own) × (LifeWaits (Up node) number m what → ⊥)
      settled one e number m what c =
          let d : Covers letter number m what = subst (λ (l : Letter). Covers l number m what) (sym (same_letter letter one e)) c in
          ⊎_elim
          (λ (from, to, asks). absurd (silent what asks))
          (λ (to, from, told). let at : number.node ≡ own = sym to ∙ ready.came letter refl in (at, nobody number d.0 at m what))
          d.1

  module _ (number : Number) (t : letter.ticket ≡ Some number) (ticket : ReadTicket) (r : read_at own node (Some number) ≡ Some ticket) where
    abbrev u : Under
    u = under own node number

    abbrev did : ReadDid
    did = hear_for u letter.from mine ticket.reading letter.body

    abbrev next : ReadTicket
    next = record ticket { reading = did.reading }

    abbrev B : ℕ → Fact → Type 0
    B = Backs own node (with_reading node number.seq next) disk disk (Some letter) did.out number (subject_of ticket.reading)

    told : (m : ℕ) (fact : Fact) → letter.from ≡ m → fact_told letter.body (subject_of ticket.reading) ≡ Some fact → B m fact
    told m fact from e = inr (record { letter = letter; is = refl; holds = (from, t, e) })

    shows : (user : List ℕ) (items : List ToldItem) → IsToldList user disk items → B own (Lists user items)
    shows user items h = inl (refl, record { node = with_reading node number.seq next; up = refl; shows = h })

    h : ReadHere own node number ticket
    h = read_here own node number ticket r

    step : ReadStep u B ticket.reading did
    step = by ticket.reading refl letter.body refl
      where
        word : (login : Login) (w : LoginWord) → ticket.reading ≡ LogsIn login → letter.body ≡ LoginTold w → (stage : LoginStage) → ReadStep u B (LogsIn login) (word_at u letter.from login mine w stage)
        word login w e b AsksManager = test (nat_eq letter.from login.manager) refl
          where
            test : (c : Bool) → nat_eq letter.from login.manager ≡ c → ReadStep u B (LogsIn login) (if c then take_word u login mine w else same (LogsIn login))
            test true q = word_step u B (sym h.at) login mine w
                (λ named is. told login.manager (Names login.user named) (eqb-true letter.from login.manager q)
                (subst (λ x. fact_told x (subject_of ticket.reading) ≡ Some (Names login.user named)) (sym (b ∙ ap LoginTold is))
                (subst (λ g. fact_told (LoginTold (Named named)) (subject_of g) ≡ Some (Names login.user named)) (sym e) refl)))
                (λ named is own_named. shows login.user mine (has_mine w b login ticket (subst (λ o. read_at own node o ≡ Some ticket) (sym t) r) e named is own_named))
            test false q = same_step u B (LogsIn login)
        word login w e b (IsDenied other) = same_step u B (LogsIn login)
        word login w e b (AsksNodes named waiting lists) = same_step u B (LogsIn login)
        word login w e b HasFailed = same_step u B (LogsIn login)

        by : (reading : Reading) → ticket.reading ≡ reading → (body : Body) → letter.body ≡ body → ReadStep u B reading (hear_for u letter.from mine reading body)
        by (LogsIn login) e (LoginTold w) b = word login w e b login.stage
        by (LogsIn login) e (ListTold items) b = list_step u B letter.from login items login.stage refl (told letter.from (Lists login.user items) refl
            (subst (λ x. fact_told x (subject_of ticket.reading) ≡ Some (Lists login.user items)) (sym b)
            (subst (λ g. fact_told (ListTold items) (subject_of g) ≡ Some (Lists login.user items)) (sym e) refl)))
        by (Fetches fetch) e (FetchTold part) b = part_step u B letter.from fetch part fetch.stage (told letter.from (Says fetch.user fetch.id fetch.at fetch.most part) refl
            (subst (λ x. fact_told x (subject_of ticket.reading) ≡ Some (Says fetch.user fetch.id fetch.at fetch.most part)) (sym b)
            (subst (λ g. fact_told (FetchTold part) (subject_of g) ≡ Some (Says fetch.user fetch.id fetch.at fetch.most part)) (sym e) refl)))
        by reading e body b = same_step u B reading

    told_done : IsCallDone (act_of own node disk (record { node = with_reading node number.seq next; out = did.out }) (Some letter))
    told_done = changes_act own node disk (Some letter) number.seq ticket next h.here did.out ready
        (λ counted failed. counted (heard_failed u letter.from mine ticket.reading letter.body failed))
        (subst (λ (n : Number). ReadStep (record { own = own; epoch = node.epoch; number = n })
        (Backs own node (with_reading node number.seq next) disk disk (Some letter) did.out n (subject_of ticket.reading)) ticket.reading (record { reading = did.reading; out = did.out }))
        number_is step)
        (λ one e n m what c. inr (settled one e n m what c))
      where
        number_is : number ≡ record { node = own; boot = node.boot; seq = number.seq }
        number_is = λ i. record { node = h.at i; boot = h.boot i; seq = number.seq }

        stands : map.get (map.insert node.reads number.seq next) number.seq ≡ Some next
        stands = written nat_cmp_total exact_unsigned node.reads number.seq next

        settled : (one : Letter) → Some letter ≡ Some one → (n : Number) (m : ℕ) (what : AnswerAwaited) → Covers one n m what → (n.node ≡ own) × (LifeWaits (Up (with_reading node number.seq next)) n m what → ⊥)
        settled one e n m what c =
            let d : Covers letter n m what = subst (λ (l : Letter). Covers l n m what) (sym (same_letter letter one e)) c in
            let same_n : number ≡ n = same_number number n (sym t ∙ d.0) in
            ⊎_elim
            (λ (from, to, asks). absurd (silent what asks))
            (λ (to, from, tells). (
              sym to ∙ ready.came letter refl,
              λ w.
                  let same_nodes = same_up (with_reading node number.seq next) w.reads.node w.reads.up in
                  let here : map.get (map.insert node.reads number.seq next) number.seq ≡ Some w.reads.ticket =
                  subst (λ (k : Number). map.get (map.insert node.reads number.seq next) k.seq ≡ Some w.reads.ticket) (sym same_n)
                  (subst (λ (x : Node). map.get x.reads n.seq ≡ Some w.reads.ticket) (sym same_nodes) w.reads.here) in
                  let is : next ≡ w.reads.ticket = same_some (map.get (map.insert node.reads number.seq next) number.seq) next w.reads.ticket stands here in
                  heard_settles u letter.from mine ticket.reading letter.body what tells
                  (subst (λ k. ReadingWaits did.reading k what) (sym from) (subst (λ (x : ReadTicket). ReadingWaits x.reading m what) (sym is) (subst (λ g. ReadingWaits g m what) (sym w.reads.is) w.waits))),
            ))
            d.1

  told_act : IsCallDone (act_of own node disk (hear_told own node letter mine) (Some letter))
  told_act = by letter.ticket refl (read_at own node letter.ticket) refl
    where
      by : (o : Option Number) → letter.ticket ≡ o → (r : Option ReadTicket) → read_at own node o ≡ r → IsCallDone (act_of own node disk (told_at own node letter mine o r) (Some letter))
      by None t r e = late (inl t)
      by (Some number) t None e = late (inr (number, t, e))
      by (Some number) t (Some ticket) e = told_done number t ticket e

-- a letter of another kind: nothing is done
module _ (own : ℕ) (node : Node) (disk : List Record) (letter : Letter) (ready : IsReady own (slot_up node disk) (Some letter)) (silent : (what : AnswerAwaited) → AsksFor letter.body what → ⊥)
    (untold : (what : AnswerAwaited) → TellsFor letter.body what → ⊥) where
  pub idle_act : IsCallDone (act_of own node disk (idle node) (Some letter))
  idle_act = is_act own node node disk disk (Some letter) [] ready refl (le_refl node.calls) refl
      (λ seq ticket h. Stays h)
      (λ one m s e number t. absurd m)
      (λ one m told. absurd m)
      (λ one e number m what c. absurd (nothing one e number m what c))
    where
      nothing : (one : Letter) → Some letter ≡ Some one → (number : Number) (m : ℕ) (what : AnswerAwaited) → Covers one number m what → ⊥
      nothing one e number m what c =
          let d : Covers letter number m what = subst (λ (l : Letter). Covers l number m what) (sym (same_letter letter one e)) c in
          ⊎_elim (λ (from, to, asks). silent what asks) (λ (to, from, told). untold what told) d.1

some_same : {X : Type 0} (a b : X) → Some a ≡ Some b → a ≡ b
some_same a b e = cc

pub hears_acts : (plan : Plan) (own : ℕ) (node : Node) (disk : List Record) (letter : Letter) (did : Reaction) → Hears plan own node disk letter letter.body did
    → IsReady own (slot_up node disk) (Some letter) → IsCallDone (act_of own node disk did (Some letter))
hears_acts plan own node disk letter did h ready = by letter.body refl h
  where
    judged : (user : List ℕ) (b : Bool) (fact : Fact) → fact_told (LoginTold (if b then Named (node.named user) else Wrong first_stamp)) (OfUser user) ≡ Some fact → SlotShows (slot_up node disk) fact
    judged user true fact e = subst (SlotShows (slot_up node disk)) (some_same (Names user (node.named user)) fact e) (record { node = node; up = refl; shows = refl })
    judged user false fact e = absurd (cc e)

    worded : (user : List ℕ) (proof : Proof) (word : LoginWord) → IsWordOf plan node user proof word → (fact : Fact) → fact_told (LoginTold word) (OfUser user) ≡ Some fact → SlotShows (slot_up node disk) fact
    worded user proof word (inl is) fact e = judged user (proves plan user proof) fact (subst (λ w. fact_told (LoginTold w) (OfUser user) ≡ Some fact) is e)
    worded user proof word (inr (right, by_, is)) fact e = absurd (silent (subst (λ w. fact_told (LoginTold w) (OfUser user) ≡ Some fact) is e))
      where
        silent : fact_told (LoginTold (InUse by_)) (OfUser user) ≡ Some fact → ⊥
        silent k = cc k

    by : (body : Body) → letter.body ≡ body → Hears plan own node disk letter body did → IsCallDone (act_of own node disk did (Some letter))
    by (LoginAsk user proof) b (word, of, is) = subst (λ (d : Reaction). IsCallDone (act_of own node disk d (Some letter))) (sym is)
        (answer_act own node disk letter ready (LoginTold word) (OfUser user) (ap subject_asked b) refl
        (λ fact e. worded user proof word of fact e)
        (λ what a. tells what (subst (λ x. AsksFor x what) b a))
        (λ what a. quiet what (subst (λ x. TellsFor x what) b a)))
      where
        tells : (what : AnswerAwaited) → AsksFor (LoginAsk user proof) what → TellsFor (LoginTold word) what
        tells ForWord a = tt
        tells ForList a = absurd a
        tells ForPart a = absurd a

        quiet : (what : AnswerAwaited) → TellsFor (LoginAsk user proof) what → ⊥
        quiet ForWord a = a
        quiet ForList a = a
        quiet ForPart a = a
    by (ListAsk user) b (mine, lists, is) = subst (λ (d : Reaction). IsCallDone (act_of own node disk d (Some letter))) (sym is)
        (answer_act own node disk letter ready (ListTold mine) (OfUser user) (ap subject_asked b) refl
        (λ fact e. subst (SlotShows (slot_up node disk)) (some_same (Lists user mine) fact e) (record { node = node; up = refl; shows = lists }))
        (λ what a. tells what (subst (λ x. AsksFor x what) b a))
        (λ what a. quiet what (subst (λ x. TellsFor x what) b a)))
      where
        tells : (what : AnswerAwaited) → AsksFor (ListAsk user) what → TellsFor (ListTold mine) what
        tells ForWord a = absurd a
        tells ForList a = tt
        tells ForPart a = absurd a

        quiet : (what : AnswerAwaited) → TellsFor (ListAsk user) what → ⊥
        quiet ForWord a = a
        quiet ForList a = a
        quiet ForPart a = a
    by (FetchAsk user id at most) b (part, says, is) = subst (λ (d : Reaction). IsCallDone (act_of own node disk d (Some letter))) (sym is)
        (answer_act own node disk letter ready (FetchTold part) (OfPart user id at most) (ap subject_asked b) refl
        (λ fact e. subst (SlotShows (slot_up node disk)) (some_same (Says user id at most part) fact e) (record { node = node; up = refl; shows = says }))
        (λ what a. tells what (subst (λ x. AsksFor x what) b a))
        (λ what a. quiet what (subst (λ x. TellsFor x what) b a)))
      where
        tells : (what : AnswerAwaited) → AsksFor (FetchAsk user id at most) what → TellsFor (FetchTold part) what
        tells ForWord a = absurd a
        tells ForList a = absurd a
        tells ForPart a = tt

        quiet : (what : AnswerAwaited) → TellsFor (FetchAsk user id at most) what → ⊥
        quiet ForWord a = a
        quiet ForList a = a
        quiet ForPart a = a
    by (LoginTold word) b (mine, has_mine, is) = subst (λ (d : Reaction). IsCallDone (act_of own node disk d (Some letter))) (sym is)
        (told_act own node disk letter mine ready (λ what a. silent what (subst (λ x. AsksFor x what) b a))
        (λ other e. subst (λ w. HasMine own node disk letter w mine) (back word other (sym b ∙ e)) has_mine))
      where
        silent : (what : AnswerAwaited) → AsksFor (LoginTold word) what → ⊥
        silent ForWord a = a
        silent ForList a = a
        silent ForPart a = a

        back : (x y : LoginWord) → LoginTold x ≡ LoginTold y → x ≡ y
        back x y e = cc
    by (ListTold items) b is = subst (λ (d : Reaction). IsCallDone (act_of own node disk d (Some letter))) (sym is)
        (told_act own node disk letter [] ready (λ what a. silent what (subst (λ x. AsksFor x what) b a)) (λ other e. absurd (clash other (sym b ∙ e))))
      where
        silent : (what : AnswerAwaited) → AsksFor (ListTold items) what → ⊥
        silent ForWord a = a
        silent ForList a = a
        silent ForPart a = a

        clash : (y : LoginWord) → ListTold items ≡ LoginTold y → ⊥
        clash y e = cc
    by (FetchTold part) b is = subst (λ (d : Reaction). IsCallDone (act_of own node disk d (Some letter))) (sym is)
        (told_act own node disk letter [] ready (λ what a. silent what (subst (λ x. AsksFor x what) b a)) (λ other e. absurd (clash other (sym b ∙ e))))
      where
        silent : (what : AnswerAwaited) → AsksFor (FetchTold part) what → ⊥
        silent ForWord a = a
        silent ForList a = a
        silent ForPart a = a

        clash : (y : LoginWord) → FetchTold part ≡ LoginTold y → ⊥
        clash y e = cc
    by body b is = subst (λ (d : Reaction). IsCallDone (act_of own node disk d (Some letter))) (sym is)
        (idle_act own node disk letter ready (λ what a. silent what (subst (λ x. AsksFor x what) b a)) (λ what a. quiet what (subst (λ x. TellsFor x what) b a)))
      where
        silent : (what : AnswerAwaited) → AsksFor body what → ⊥
        silent ForWord a = a
        silent ForList a = a
        silent ForPart a = a

        quiet : (what : AnswerAwaited) → TellsFor body what → ⊥
        quiet ForWord a = a
        quiet ForList a = a
        quiet ForPart a = a
