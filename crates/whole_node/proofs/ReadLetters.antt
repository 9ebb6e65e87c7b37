-- The letters of rules of calls that read: each can be heard, and they are few.
use Rattle.std.proofs.Common.{◌≡◌, ◌⊎◌, inl, inr, ⊎_elim, ◌≤◌, ℕ, zero, suc, ◌+◌, ◌&&◌, not, nat_eq, Bool, true, false, List, [], ◌∷◌, ◌++◌, length, map, Option, Some, None, refl, sym, ap, ◌∙◌, subst, arith, true≢false, if◌then◌else◌}
use Rattle.std.specs.Prelude.{All}
use Rattle.std.proofs.lemmas.List.Elements.{All-nil, All-cons}
use Rattle.mail_model.specs.Identity.{Id, EpochId}
use Rattle.mail_model.specs.Plan.{Proof}
use Rattle.object_model.specs.Sets.{has, without_node}
use Rattle.object_model.specs.Lists.{Among}
use Rattle.object_model.specs.Mishaps.{MishapKind}
use Rattle.object_model.specs.Letters.{Number, LoginWord, ToldItem, ToldPart, Body, Letter, is_read_body}
use Rattle.object_model.specs.Letters.LoginWord.{Named, Wrong, InUse, NoProfile}
use Rattle.object_model.specs.Letters.Body.{LoginAsk, LoginTold, ListAsk, ListTold, FetchAsk, FetchTold, Unlock}
use Rattle.cluster_model.specs.Rules.{receivers, letters_to}
use Rattle.login_model.specs.Cluster.{Node}
use Rattle.login_model.specs.Readings.{ToldList, LoginStage, Login, FetchStage, Fetch, Reading, ReadTicket}
use Rattle.login_model.specs.Readings.LoginStage.{AsksManager, IsDenied, AsksNodes, HasFailed}
use Rattle.login_model.specs.Readings.FetchStage.{AsksHolder, IsAnswered, NobodyLeft}
use Rattle.login_model.specs.Readings.Reading.{LogsIn, Fetches}
use Rattle.login_model.specs.Rules.{Under, take_word, begin_login, ask_first, ask_next, begin_fetch, word_at, hear_for, hear_told, unlock, fail, befell, mishap, give_up, given_up, leave, under, read_at, same, ask, login_befell, fetch_befell, befell_at, list_at, part_at, told_at}
use Rattle.node_core.specs.Spelling.{CanBeTaken, AllCanBeTaken}
use Rattle.node_maps.specs.Hearing.{TellsOwnRow}
use Rattle.whole_node.specs.Hearing.{NamesANode, FitsMaps}
use Rattle.whole_node.specs.Reading.{AreReadLetters}

-- each is of a call that reads
abbrev pub OnlyRead : List Letter → Type 0
OnlyRead [] = Unit {0}
OnlyRead (letter ∷ letters) = (is_read_body letter.body ≡ true) × OnlyRead letters

taken_read : (body : Body) → is_read_body body ≡ true → CanBeTaken body
taken_read (Body.LoginAsk user proof) e = tt
taken_read (Body.LoginTold word) e = tt
taken_read (Body.ListAsk user) e = tt
taken_read (Body.ListTold items) e = tt
taken_read (Body.FetchAsk user id at most) e = tt
taken_read (Body.FetchTold part) e = tt
taken_read (Body.Unlock user number) e = tt
taken_read body e = absurd (true≢false (sym e))

fits_read : (letter : Letter) → is_read_body letter.body ≡ true → FitsMaps letter
fits_read letter e = by letter.body e
  where
    by : (body : Body) → is_read_body body ≡ true → NamesANode body × TellsOwnRow letter.from body
    by (Body.LoginAsk user proof) e = (tt, tt)
    by (Body.LoginTold word) e = (tt, tt)
    by (Body.ListAsk user) e = (tt, tt)
    by (Body.ListTold items) e = (tt, tt)
    by (Body.FetchAsk user id at most) e = (tt, tt)
    by (Body.FetchTold part) e = (tt, tt)
    by (Body.Unlock user number) e = (tt, tt)
    by body e = absurd (true≢false (sym e))

all_taken : (letters : List Letter) → OnlyRead letters → AllCanBeTaken letters
all_taken [] r = All-nil (λ (l : Letter). CanBeTaken l.body)
all_taken (letter ∷ letters) r = All-cons (λ (l : Letter). CanBeTaken l.body) letter letters (taken_read letter.body r.0) (all_taken letters r.1)

all_fit : (letters : List Letter) → OnlyRead letters → All FitsMaps letters
all_fit [] r = All-nil FitsMaps
all_fit (letter ∷ letters) r = All-cons FitsMaps letter letters (fits_read letter r.0) (all_fit letters r.1)

-- each is of this ticket, or of none
abbrev pub AreFor : Option Number → List Letter → Type 0
AreFor ticket [] = Unit {0}
AreFor ticket (letter ∷ letters) = ((letter.ticket ≡ None) ⊎ (letter.ticket ≡ ticket)) × AreFor ticket letters

each_for : (ticket : Option Number) (letters : List Letter) → AreFor ticket letters → (one : Letter) → Among one letters → (one.ticket ≡ None) ⊎ (one.ticket ≡ ticket)
each_for ticket [] f one inside = absurd inside
each_for ticket (letter ∷ letters) f one inside = ⊎_elim
    (λ (same : letter ≡ one). subst (λ (l : Letter). (l.ticket ≡ None) ⊎ (l.ticket ≡ ticket)) same f.0)
    (λ (rest : Among one letters). each_for ticket letters f.1 one rest)
    inside

-- these are few, of calls that read, and of one ticket
pub record FewRead (letters : List Letter) : Type 0 where
  pub few : length letters ≤ 64
  pub read : OnlyRead letters
  pub ticket : Option Number
  pub one : AreFor ticket letters

pub are_read : (letters : List Letter) → FewRead letters → AreReadLetters letters
are_read letters f = record { few = f.few; taken = all_taken letters f.read; fits = all_fit letters f.read; one = (f.ticket, each_for f.ticket letters f.one) }

pub none_read : FewRead []
none_read = record { few = omega arith; read = tt; ticket = None; one = tt }

pub one_read : (letter : Letter) → is_read_body letter.body ≡ true → FewRead (letter ∷ [])
one_read letter e = record { few = omega arith; read = (e, tt); ticket = letter.ticket; one = (inr refl, tt) }

length_both : (xs ys : List ℕ) → length (xs ++ ys) ≡ length xs + length ys
length_both [] ys = omega arith
length_both (x ∷ xs) ys = let e : length (xs ++ ys) ≡ length xs + length ys = length_both xs ys in omega (arith, e)

receivers_count : (own mask k : ℕ) → length (receivers own mask k) ≤ k
receivers_count own mask zero = omega arith
receivers_count own mask (suc k) = by (has mask (suc k) && not (nat_eq (suc k) own)) (receivers_count own mask k)
  where
    by : (b : Bool) → length (receivers own mask k) ≤ k → length (receivers own mask k ++ (if b then suc k ∷ [] else [])) ≤ suc k
    by true l = let e : length (receivers own mask k ++ suc k ∷ []) ≡ length (receivers own mask k) + 1 = length_both (receivers own mask k) (suc k ∷ []) in omega (arith, e, l)
    by false l = let e : length (receivers own mask k ++ []) ≡ length (receivers own mask k) + 0 = length_both (receivers own mask k) [] in omega (arith, e, l)

to_count : (own : ℕ) (epoch : EpochId) (ticket : Option Number) (to : List ℕ) (body : Body) → length (letters_to own epoch ticket to body) ≡ length to
to_count own epoch ticket [] body = refl
to_count own epoch ticket (m ∷ to) body = ap suc (to_count own epoch ticket to body)

to_read : (own : ℕ) (epoch : EpochId) (ticket : Option Number) (to : List ℕ) (body : Body) → is_read_body body ≡ true → OnlyRead (letters_to own epoch ticket to body)
to_read own epoch ticket [] body e = tt
to_read own epoch ticket (m ∷ to) body e = (e, to_read own epoch ticket to body e)

to_for : (own : ℕ) (epoch : EpochId) (ticket : Option Number) (to : List ℕ) (body : Body) → AreFor ticket (letters_to own epoch ticket to body)
to_for own epoch ticket [] body = tt
to_for own epoch ticket (m ∷ to) body = (inr refl, to_for own epoch ticket to body)

asked_read : (own : ℕ) (epoch : EpochId) (ticket : Option Number) (mask : ℕ) (body : Body) → is_read_body body ≡ true → FewRead (letters_to own epoch ticket (receivers own mask 64) body)
asked_read own epoch ticket mask body e = record {
  few = let n : length (letters_to own epoch ticket (receivers own mask 64) body) ≡ length (receivers own mask 64) = to_count own epoch ticket (receivers own mask 64) body in
      let l : length (receivers own mask 64) ≤ 64 = receivers_count own mask 64 in omega (arith, n, l);
  read = to_read own epoch ticket (receivers own mask 64) body e;
  ticket = ticket;
  one = to_for own epoch ticket (receivers own mask 64) body;
}

word_read : (u : Under) (login : Login) (mine : List ToldItem) (word : LoginWord) → FewRead (take_word u login mine word).out
word_read u login mine (Named named) = asked_read u.own u.epoch (Some u.number) named (ListAsk login.user) refl
word_read u login mine (Wrong stamp) = none_read
word_read u login mine (InUse by) = none_read
word_read u login mine NoProfile = none_read

pub login_read : (u : Under) (user : List ℕ) (proof : Proof) (manager : ℕ) (word : LoginWord) (mine : List ToldItem) → FewRead (begin_login u user proof manager word mine).out
login_read u user proof manager word mine = by (nat_eq manager u.own)
  where
    login : Login
    login = record { user = user; manager = manager; stage = AsksManager }

    by : (b : Bool) → FewRead (if b then take_word u login mine word else record { reading = LogsIn login; out = ask u manager (LoginAsk user proof) ∷ [] }).out
    by true = word_read u login mine word
    by false = one_read _ refl

first_read : (u : Under) (fetch : Fetch) (left : ℕ) (to : List ℕ) → FewRead (ask_first u fetch left to).out
first_read u fetch left [] = none_read
first_read u fetch left (m ∷ to) = one_read _ refl

pub fetch_read : (u : Under) (user : List ℕ) (id : Id) (at most holders : ℕ) (part : ToldPart) → FewRead (begin_fetch u user id at most holders part).out
fetch_read u user id at most holders part = by (has holders u.own)
  where
    fetch : Fetch
    fetch = record { user = user; id = id; at = at; most = most; stage = NobodyLeft }

    by : (b : Bool) → FewRead (if b then same (Fetches (record fetch { stage = IsAnswered u.own part })) else ask_next u fetch holders).out
    by true = none_read
    by false = first_read u fetch holders (receivers u.own holders 64)

unlock_read : (u : Under) (user : List ℕ) (login : Number) (manager : ℕ) → FewRead (unlock u user login manager)
unlock_read u user login manager = by (nat_eq manager u.own)
  where
    by : (b : Bool) → FewRead (if b then [] else record { from = u.own; to = manager; epoch = u.epoch; ticket = None; body = Unlock user login } ∷ [])
    by true = none_read
    by false = one_read _ refl

pub leave_read : (own : ℕ) (node : Node) (user : List ℕ) (login : Number) (manager : ℕ) → FewRead (leave own node user login manager).out
leave_read own node user login manager = unlock_read (under own node login) user login manager

pub give_up_read : (u : Under) (reading : Reading) → FewRead (give_up u reading)
give_up_read u (LogsIn login) = by login.stage
  where
    by : (stage : LoginStage) → FewRead (given_up u login stage)
    by AsksManager = unlock_read u login.user u.number login.manager
    by (IsDenied word) = none_read
    by (AsksNodes named waiting told) = unlock_read u login.user u.number login.manager
    by HasFailed = none_read
give_up_read u (Fetches fetch) = none_read

-- a mishap sends a letter at most
befell_read : (u : Under) (at : ℕ) (reading : Reading) → FewRead (befell u at reading).out
befell_read u at (LogsIn login) = by login.stage
  where
    if_fails : (b : Bool) → FewRead (if b then fail u login else same (LogsIn login)).out
    if_fails true = unlock_read u login.user u.number login.manager
    if_fails false = none_read

    by : (stage : LoginStage) → FewRead (login_befell u at login stage).out
    by AsksManager = if_fails (nat_eq at login.manager)
    by (IsDenied word) = none_read
    by (AsksNodes named waiting told) = if_fails (has waiting at)
    by HasFailed = none_read
befell_read u at (Fetches fetch) = by fetch.stage
  where
    if_asked : (left : ℕ) (b : Bool) → FewRead (if b then ask_next u fetch left else same (Fetches fetch)).out
    if_asked left true = first_read u fetch left (receivers u.own left 64)
    if_asked left false = none_read

    by : (stage : FetchStage) → FewRead (fetch_befell u at fetch stage).out
    by (AsksHolder holder left) = if_asked (without_node left at) (nat_eq at holder)
    by (IsAnswered node part) = none_read
    by NobodyLeft = none_read

pub mishap_read : (own : ℕ) (kind : MishapKind) (at : ℕ) (node : Node) (number : Number) → FewRead (mishap own kind at node number).out
mishap_read own kind at node number = by (read_at own node (Some number))
  where
    by : (t : Option ReadTicket) → FewRead (befell_at own kind at node number t).out
    by None = none_read
    by (Some ticket) = befell_read (under own node number) at ticket.reading

for_read : (u : Under) (from : ℕ) (mine : List ToldItem) (reading : Reading) (body : Body) → FewRead (hear_for u from mine reading body).out
for_read u from mine (LogsIn login) (LoginTold word) = by login.stage
  where
    if_asked : (b : Bool) → FewRead (if b then take_word u login mine word else same (LogsIn login)).out
    if_asked true = word_read u login mine word
    if_asked false = none_read

    by : (stage : LoginStage) → FewRead (word_at u from login mine word stage).out
    by AsksManager = if_asked (nat_eq from login.manager)
    by (IsDenied other) = none_read
    by (AsksNodes named waiting told) = none_read
    by HasFailed = none_read
for_read u from mine (LogsIn login) (ListTold items) = by login.stage
  where
    if_waits : (reading : Reading) (b : Bool) → FewRead (if b then same reading else same (LogsIn login)).out
    if_waits reading true = none_read
    if_waits reading false = none_read

    by : (stage : LoginStage) → FewRead (list_at from login items stage).out
    by AsksManager = none_read
    by (IsDenied other) = none_read
    by (AsksNodes named waiting told) = if_waits (LogsIn (record login { stage = AsksNodes named (without_node waiting from) (told ++ record { node = from; items = items } ∷ []) })) (has waiting from)
    by HasFailed = none_read
for_read u from mine (Fetches fetch) (FetchTold part) = by fetch.stage
  where
    by : (stage : FetchStage) → FewRead (part_at from fetch part stage).out
    by (AsksHolder holder left) = none_read
    by (IsAnswered node other) = none_read
    by NobodyLeft = none_read
for_read u from mine reading body = none_read

pub told_read : (own : ℕ) (node : Node) (letter : Letter) (mine : List ToldItem) → FewRead (hear_told own node letter mine).out
told_read own node letter mine = by letter.ticket (read_at own node letter.ticket)
  where
    by : (number : Option Number) (t : Option ReadTicket) → FewRead (told_at own node letter mine number t).out
    by None t = none_read
    by (Some number) None = none_read
    by (Some number) (Some ticket) = for_read (under own node number) letter.from mine ticket.reading letter.body
