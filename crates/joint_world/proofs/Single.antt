-- What each rule sends is of the ticket that it serves, or of none.
use Rattle.std.proofs.Common.{◌≡◌, ◌⊎◌, inl, inr, ⊎_elim, ℕ, zero, suc, Bool, true, false, nat_eq, List, [], ◌∷◌, ◌++◌, map, Option, Some, None, refl, sym, ap, ◌∙◌, subst, arith, if◌then◌else◌}
use Rattle.mail_model.specs.Identity.{Id}
use Rattle.mail_model.specs.Plan.{Plan, Proof}
use Rattle.mail_model.specs.Record.{Record}
use Rattle.object_model.specs.Sets.{has, without_node}
use Rattle.object_model.specs.Lists.{Among}
use Rattle.object_model.specs.Mishaps.{MishapKind}
use Rattle.object_model.specs.Mishaps.MishapKind.{Crowded}
use Rattle.object_model.specs.Letters.{Number, LoginWord, ToldItem, ToldPart, Body, Letter}
use Rattle.object_model.specs.Letters.LoginWord.{Named, Wrong, InUse, NoProfile}
use Rattle.object_model.specs.Letters.Body.{LoginAsk, LoginTold, ListAsk, ListTold, FetchAsk, FetchTold, Unlock}
use Rattle.cluster_model.specs.Rules.{receivers}
use Rattle.cluster_model.specs.Room.{has_room}
use Rattle.cluster_model.proofs.Logs.{sent_to}
use Rattle.login_model.specs.Readings.{LoginStage, Login, FetchStage, Fetch, Reading, ReadTicket}
use Rattle.login_model.specs.Readings.LoginStage.{AsksManager, IsDenied, AsksNodes, HasFailed}
use Rattle.login_model.specs.Readings.FetchStage.{AsksHolder, IsAnswered, NobodyLeft}
use Rattle.login_model.specs.Readings as readings
use Rattle.login_model.specs.Cluster as login
use Rattle.login_model.specs.Rules as login_rules
use Rattle.login_model.specs.Rules.{ReadDid, Under, same, ask, take_word, begin_login, begin_fetch, ask_first, ask_next, word_at, list_at, part_at, hear_for, unlock, fail, login_befell, fetch_befell, befell, give_up, under, next_number, read_at, told_at, hear_told, befell_at, mishap, answering}
use Rattle.joint_model.specs.Joint.{Node, whole_slot, read_node}
use Rattle.joint_world.specs.World.{World, with_letter}
use Rattle.joint_world.specs.Rules.{Reaction, LogsIn, Fetches, Hears, befallen, given_up, left}
use Rattle.joint_world.specs.Putting.{Missed, missed, put}
use Rattle.joint_world.specs.Ending.{AreOfTicket, IsOne, RulesSendForOne}
use Rattle.joint_world.proofs.Ending.{OfTicket, mishap_of}
use Rattle.joint_world.proofs.Putting.{missed_seen}

one_of : (number : Number) (ticket : Option Number) (only : Letter) → OfTicket number only → (letter : Letter) → Among letter (only ∷ []) → OfTicket number letter
one_of number ticket only of letter m = ⊎_elim (λ is. subst (OfTicket number) is of) (λ none. absurd none) m

module _ (u : Under) where
  pub word_of : (one : Login) (mine : List ToldItem) (word : LoginWord) → AreOfTicket u.number (take_word u one mine word).out
  word_of one mine (Named named) letter m = let s = sent_to u.own u.epoch (Some u.number) (receivers u.own named 64) (ListAsk one.user) letter m in subst (OfTicket u.number) s.2 (inr refl)
  word_of one mine (Wrong stamp) letter m = absurd m
  word_of one mine (InUse by) letter m = absurd m
  word_of one mine NoProfile letter m = absurd m

  pub login_of : (user : List ℕ) (proof : Proof) (manager : ℕ) (word : LoginWord) (mine : List ToldItem) → AreOfTicket u.number (begin_login u user proof manager word mine).out
  login_of user proof manager word mine letter m = by (nat_eq manager u.own) m
    where
      one : Login
      one = record { user = user; manager = manager; stage = AsksManager }

      by : (b : Bool) → Among letter (if b then take_word u one mine word else record { reading = readings.Reading.LogsIn one; out = ask u manager (LoginAsk user proof) ∷ [] }).out → OfTicket u.number letter
      by true k = word_of one mine word letter k
      by false k = ⊎_elim (λ is. subst (OfTicket u.number) is (inr refl)) (λ none. absurd none) k

  first_of : (fetch : Fetch) (left_ : ℕ) (holders : List ℕ) → AreOfTicket u.number (ask_first u fetch left_ holders).out
  first_of fetch left_ [] letter m = absurd m
  first_of fetch left_ (holder ∷ others) letter m = ⊎_elim (λ is. subst (OfTicket u.number) is (inr refl)) (λ none. absurd none) m

  first_one : (fetch : Fetch) (left_ : ℕ) (holders : List ℕ) → IsOne (ask_first u fetch left_ holders).out
  first_one fetch left_ [] = omega arith
  first_one fetch left_ (holder ∷ others) = omega arith

  pub fetch_of : (user : List ℕ) (id : Id) (at most holders : ℕ) (part : ToldPart) → AreOfTicket u.number (begin_fetch u user id at most holders part).out
  fetch_of user id at most holders part letter m = by (has holders u.own) m
    where
      one : Fetch
      one = record { user = user; id = id; at = at; most = most; stage = NobodyLeft }

      by : (b : Bool) → Among letter (if b then same (readings.Reading.Fetches (record one { stage = IsAnswered u.own part })) else ask_next u one holders).out → OfTicket u.number letter
      by true k = absurd k
      by false k = first_of one holders (receivers u.own holders 64) letter k

  -- a letter that answers
  pub heard_of : (from : ℕ) (mine : List ToldItem) (one : Reading) (body : Body) → AreOfTicket u.number (hear_for u from mine one body).out
  heard_of from mine (readings.Reading.LogsIn one) (LoginTold word) letter m = by one.stage m
    where
      test : (b : Bool) → Among letter (if b then take_word u one mine word else same (readings.Reading.LogsIn one)).out → OfTicket u.number letter
      test true k = word_of one mine word letter k
      test false k = absurd k

      by : (stage : LoginStage) → Among letter (word_at u from one mine word stage).out → OfTicket u.number letter
      by AsksManager k = test (nat_eq from one.manager) k
      by (IsDenied other) k = absurd k
      by (AsksNodes named waiting told) k = absurd k
      by HasFailed k = absurd k
  heard_of from mine (readings.Reading.LogsIn one) (ListTold items) letter m = by one.stage m
    where
      test : (first other : ReadDid) (b : Bool) → first.out ≡ [] → other.out ≡ [] → Among letter (if b then first else other).out → OfTicket u.number letter
      test first other true none others k = absurd (subst (Among letter) none k)
      test first other false none others k = absurd (subst (Among letter) others k)

      by : (stage : LoginStage) → Among letter (list_at from one items stage).out → OfTicket u.number letter
      by AsksManager k = absurd k
      by (IsDenied other) k = absurd k
      by (AsksNodes named waiting told) k = test _ (same (readings.Reading.LogsIn one)) (has waiting from) refl refl k
      by HasFailed k = absurd k
  heard_of from mine (readings.Reading.Fetches fetch) (FetchTold part) letter m = by fetch.stage m
    where
      by : (stage : FetchStage) → Among letter (part_at from fetch part stage).out → OfTicket u.number letter
      by (AsksHolder holder left_) k = absurd k
      by (IsAnswered other before) k = absurd k
      by NobodyLeft k = absurd k
  heard_of from mine one body letter m = absurd m

  -- a lock goes back
  pub unlock_none : (user : List ℕ) (number : Number) (manager : ℕ) (letter : Letter) → Among letter (unlock u user number manager) → letter.ticket ≡ None
  unlock_none user number manager letter m = by (nat_eq manager u.own) m
    where
      by : (b : Bool) → Among letter (if b then [] else record { from = u.own; to = manager; epoch = u.epoch; ticket = None; body = Unlock user number } ∷ []) → letter.ticket ≡ None
      by true k = absurd k
      by false k = ⊎_elim (λ is. ap (λ (l : Letter). l.ticket) (sym is)) (λ none. absurd none) k

  pub unlock_one : (user : List ℕ) (number : Number) (manager : ℕ) → IsOne (unlock u user number manager)
  unlock_one user number manager = by (nat_eq manager u.own)
    where
      by : (b : Bool) → IsOne (if b then [] else record { from = u.own; to = manager; epoch = u.epoch; ticket = None; body = Unlock user number } ∷ [])
      by true = omega arith
      by false = omega arith

  befell_one : (at : ℕ) (one : Reading) → IsOne (befell u at one).out
  befell_one at (readings.Reading.LogsIn one) = by one.stage
    where
      test : (b : Bool) → IsOne (if b then fail u one else same (readings.Reading.LogsIn one)).out
      test true = unlock_one one.user u.number one.manager
      test false = omega arith

      by : (stage : LoginStage) → IsOne (login_befell u at one stage).out
      by AsksManager = test (nat_eq at one.manager)
      by (IsDenied word) = omega arith
      by (AsksNodes named waiting told) = test (has waiting at)
      by HasFailed = omega arith
  befell_one at (readings.Reading.Fetches fetch) = by fetch.stage
    where
      test : (left_ : ℕ) (b : Bool) → IsOne (if b then ask_next u fetch (without_node left_ at) else same (readings.Reading.Fetches fetch)).out
      test left_ true = first_one fetch (without_node left_ at) (receivers u.own (without_node left_ at) 64)
      test left_ false = omega arith

      by : (stage : FetchStage) → IsOne (fetch_befell u at fetch stage).out
      by (AsksHolder holder left_) = test left_ (nat_eq at holder)
      by (IsAnswered other part) = omega arith
      by NobodyLeft = omega arith

  pub gives_none : (one : Reading) (letter : Letter) → Among letter (give_up u one) → letter.ticket ≡ None
  gives_none (readings.Reading.LogsIn one) letter m = by one.stage m
    where
      by : (stage : LoginStage) → Among letter (login_rules.given_up u one stage) → letter.ticket ≡ None
      by AsksManager k = unlock_none one.user u.number one.manager letter k
      by (IsDenied word) k = absurd k
      by (AsksNodes named waiting told) k = unlock_none one.user u.number one.manager letter k
      by HasFailed k = absurd k
  gives_none (readings.Reading.Fetches fetch) letter m = absurd m

  gives_one : (one : Reading) → IsOne (give_up u one)
  gives_one (readings.Reading.LogsIn one) = by one.stage
    where
      by : (stage : LoginStage) → IsOne (login_rules.given_up u one stage)
      by AsksManager = unlock_one one.user u.number one.manager
      by (IsDenied word) = omega arith
      by (AsksNodes named waiting told) = unlock_one one.user u.number one.manager
      by HasFailed = omega arith
  gives_one (readings.Reading.Fetches fetch) = omega arith

pub mishap_one : (own : ℕ) (kind : MishapKind) (at : ℕ) (node : login.Node) (number : Number) → IsOne (mishap own kind at node number).out
mishap_one own kind at node number = by (read_at own node (Some number))
  where
    by : (r : Option ReadTicket) → IsOne (befell_at own kind at node number r).out
    by None = omega arith
    by (Some ticket) = befell_one (under own node number) at ticket.reading

-- What is heard: an answer is of the letter's ticket.
told_of : (own : ℕ) (node : login.Node) (letter : Letter) (mine : List ToldItem) (one : Letter) → Among one (hear_told own node letter mine).out → (one.ticket ≡ None) ⊎ (one.ticket ≡ letter.ticket)
told_of own node letter mine one m = by letter.ticket refl (read_at own node letter.ticket) m
  where
    by : (t : Option Number) → letter.ticket ≡ t → (r : Option ReadTicket) → Among one (told_at own node letter mine t r).out → (one.ticket ≡ None) ⊎ (one.ticket ≡ letter.ticket)
    by None is r k = absurd k
    by (Some number) is None k = absurd k
    by (Some number) is (Some ticket) k = ⊎_elim (λ none. inl none) (λ of. inr (of ∙ sym is)) (heard_of (under own node number) letter.from mine ticket.reading letter.body one k)

answer_of : (node : login.Node) (letter : Letter) (body : Body) (one : Letter) → Among one (answering node letter body).out → (one.ticket ≡ None) ⊎ (one.ticket ≡ letter.ticket)
answer_of node letter body one m = ⊎_elim (λ is. inr (ap (λ (l : Letter). l.ticket) (sym is))) (λ none. absurd none) m

out_is : (a b : Reaction) → a ≡ b → (one : Letter) → Among one a.out → Among one b.out
out_is a b is one m = subst (λ (r : Reaction). Among one r.out) is m

pub hears_of : (plan : Plan) (tells : Bool) (own : ℕ) (node : Node) (disk : List Record) (letter : Letter) (body : Body) (did : Reaction) → Hears plan tells own node disk letter body did
    → (one : Letter) → Among one did.out → (one.ticket ≡ None) ⊎ (one.ticket ≡ letter.ticket)
hears_of plan tells own node disk letter (LoginAsk user proof) did is one m = answer_of (read_node tells node) letter _ one (out_is did _ is one m)
hears_of plan tells own node disk letter (ListAsk user) did (mine, lists, is) one m = answer_of (read_node tells node) letter (ListTold mine) one (out_is did _ is one m)
hears_of plan tells own node disk letter (FetchAsk user id at most) did (part, says, is) one m = answer_of (read_node tells node) letter (FetchTold part) one (out_is did _ is one m)
hears_of plan tells own node disk letter (LoginTold word) did (mine, has_mine, is) one m = told_of own (read_node tells node) letter mine one (out_is did _ is one m)
hears_of plan tells own node disk letter (ListTold items) did is one m = told_of own (read_node tells node) letter [] one (out_is did _ is one m)
hears_of plan tells own node disk letter (FetchTold part) did is one m = told_of own (read_node tells node) letter [] one (out_is did _ is one m)
hears_of plan tells own node disk letter (Unlock user number) did is one m = absurd (out_is did _ is one m)
hears_of plan tells own node disk letter body did h one m = absurd h

pub logs_in_of : (plan : Plan) (tells : Bool) (own : ℕ) (node : Node) (disk : List Record) (user : List ℕ) (proof : Proof) (did : Reaction) → LogsIn plan tells own node disk user proof did
    → AreOfTicket (next_number own (read_node tells node)) did.out
logs_in_of plan tells own node disk user proof did l one m = login_of (under own (read_node tells node) (next_number own (read_node tells node))) user proof l.manager _ l.mine one (out_is did _ l.is one m)

pub fetches_of : (tells : Bool) (own : ℕ) (node : Node) (disk : List Record) (user : List ℕ) (id : Id) (at most holders : ℕ) (did : Reaction) → Fetches tells own node disk user id at most holders did
    → AreOfTicket (next_number own (read_node tells node)) did.out
fetches_of tells own node disk user id at most holders did f one m = fetch_of (under own (read_node tells node) (next_number own (read_node tells node))) user id at most _ f.part one (out_is did _ f.is one m)

pub befalls_of : (tells : Bool) (own : ℕ) (kind : MishapKind) (at : ℕ) (node : Node) (number : Number) → AreOfTicket number (befallen tells own kind at node number).out × IsOne (befallen tells own kind at node number).out
befalls_of tells own kind at node number = (λ one m. mishap_of own kind at (read_node tells node) number one m, mishap_one own kind at (read_node tells node) number)

pub gives_up_of : (tells : Bool) (own : ℕ) (node : Node) (number : Number) (one : Reading) → AreOfTicket number (given_up tells own node number one).out × IsOne (given_up tells own node number one).out
gives_up_of tells own node number one = (λ letter m. inl (gives_none (under own (read_node tells node) number) one letter m), gives_one (under own (read_node tells node) number) one)

pub leaves_of : (tells : Bool) (own : ℕ) (node : Node) (user : List ℕ) (number : Number) (manager : ℕ)
    → ((one : Letter) → Among one (left tells own node user number manager).out → one.ticket ≡ None) × IsOne (left tells own node user number manager).out
leaves_of tells own node user number manager = (λ one m. unlock_none (under own (read_node tells node) number) user number manager one m, unlock_one (under own (read_node tells node) number) user number manager)

pub rules_send_for_one : RulesSendForOne
rules_send_for_one = record {
  logs_in = logs_in_of;
  fetches = fetches_of;
  hears = hears_of;
  befalls = befalls_of;
  gives_up = gives_up_of;
  leaves = leaves_of;
}

-- as letters are put in flight, nothing else changes
pub puts_keep : (tells : Bool) (fuel : ℕ) (queue : List Letter) (w new : World) → put tells fuel queue w ≡ Some new → (map whole_slot new.slots ≡ map whole_slot w.slots) × (new.seconds ≡ w.seconds) × (new.book ≡ w.book)
puts_keep tells fuel [] w new e = let is = some_is w new e in (ap (λ (v : World). map whole_slot v.slots) (sym is), ap (λ (v : World). v.seconds) (sym is), ap (λ (v : World). v.book) (sym is))
  where
    some_is : (a b : World) → Some a ≡ Some b → a ≡ b
    some_is a b p = cc
puts_keep tells zero (letter ∷ queue) w new e = absurd (cc e)
puts_keep tells (suc fuel) (letter ∷ queue) w new e = by (has_room w.flying letter) (λ q v f. puts_keep tells fuel q v new f) e
  where
    m : Missed
    m = missed tells Crowded w.slots letter

    by : (b : Bool) → ((q : List Letter) (v : World) → put tells fuel q v ≡ Some new → (map whole_slot new.slots ≡ map whole_slot v.slots) × (new.seconds ≡ v.seconds) × (new.book ≡ v.book))
        → (if b then put tells fuel queue (with_letter w letter) else put tells fuel (queue ++ m.out) (record w { slots = m.slots })) ≡ Some new
        → (map whole_slot new.slots ≡ map whole_slot w.slots) × (new.seconds ≡ w.seconds) × (new.book ≡ w.book)
    by true rest f = rest queue (with_letter w letter) f
    by false rest f =
        let r = rest (queue ++ m.out) (record w { slots = m.slots }) f in
        (r.0 ∙ (missed_seen tells Crowded w.slots letter).same, r.1, r.2)
