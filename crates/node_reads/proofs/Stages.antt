-- Rules by cases on how far a call has come, as the code tests them.
use Rattle.std.proofs.Common.{◌≡◌, ℕ, nat_eq, Bool, true, false, List, [], ◌∷◌, Option, Some, None, refl, if◌then◌else◌}
use Rattle.object_model.specs.Sets.{without_node}
use Rattle.object_model.specs.Letters.{LoginWord, ToldItem, ToldPart}
use Rattle.cluster_model.specs.Rules.{receivers}
use Rattle.login_model.specs.Readings.{LoginStage, Login, FetchStage, Fetch}
use Rattle.login_model.specs.Readings.LoginStage.{AsksManager, IsDenied, AsksNodes, HasFailed}
use Rattle.login_model.specs.Readings.FetchStage.{AsksHolder, IsAnswered, NobodyLeft}
use Rattle.login_model.specs.Readings.Reading.{LogsIn, Fetches}
use Rattle.login_model.specs.Rules.{Under, same, take_word, word_at, fail, login_befell, given_up, unlock, ask_first, ask_next, part_at, fetch_befell}
use Rattle.node_reads.specs.Readings.{first_in, asks_manager, login_waits, may_hold_lock, HasSpare, asks_first, left_after, asks_if_left, has_part}

pub word_is : (u : Under) (from : ℕ) (login : Login) (mine : List ToldItem) (word : LoginWord) (stage : LoginStage)
    → word_at u from login mine word stage ≡ (if asks_manager from login stage then take_word u login mine word else same (LogsIn login))
word_is u from login mine word AsksManager = refl
word_is u from login mine word (IsDenied other) = refl
word_is u from login mine word (AsksNodes named waiting told) = refl
word_is u from login mine word HasFailed = refl

pub login_befell_is : (u : Under) (at : ℕ) (login : Login) (stage : LoginStage) → login_befell u at login stage ≡ (if login_waits at login stage then fail u login else same (LogsIn login))
login_befell_is u at login AsksManager = refl
login_befell_is u at login (IsDenied word) = refl
login_befell_is u at login (AsksNodes named waiting told) = refl
login_befell_is u at login HasFailed = refl

pub given_up_is : (u : Under) (login : Login) (stage : LoginStage) → given_up u login stage ≡ (if may_hold_lock stage then unlock u login.user u.number login.manager else [])
given_up_is u login AsksManager = refl
given_up_is u login (IsDenied word) = refl
given_up_is u login (AsksNodes named waiting told) = refl
given_up_is u login HasFailed = refl

first_asked : (u : Under) (fetch : Fetch) (left : ℕ) (to : List ℕ) → ask_first u fetch left to ≡ asks_first u fetch left (first_in to)
first_asked u fetch left [] = refl
first_asked u fetch left (holder ∷ others) = refl

pub asked_first : (u : Under) (fetch : Fetch) (left : ℕ) → ask_next u fetch left ≡ asks_first u fetch left (first_in (receivers u.own left 64))
asked_first u fetch left = first_asked u fetch left (receivers u.own left 64)

pub part_is : (from : ℕ) (fetch : Fetch) (part : ToldPart) (stage : FetchStage) → part_at from fetch part stage ≡ (if has_part stage then same (Fetches fetch) else same (Fetches (record fetch { stage = IsAnswered from part })))
part_is from fetch part (AsksHolder holder left) = refl
part_is from fetch part (IsAnswered by other) = refl
part_is from fetch part NobodyLeft = refl

pub fetch_befell_is : (u : Under) (at : ℕ) (fetch : Fetch) (stage : FetchStage) → fetch_befell u at fetch stage ≡ asks_if_left u fetch (left_after at stage)
fetch_befell_is u at fetch (AsksHolder holder left) = by (nat_eq at holder)
  where
    by : (b : Bool) → (if b then ask_next u fetch (without_node left at) else same (Fetches fetch)) ≡ asks_if_left u fetch (if b then Some (without_node left at) else None)
    by true = refl
    by false = refl
fetch_befell_is u at fetch (IsAnswered by part) = refl
fetch_befell_is u at fetch NobodyLeft = refl

-- who asks a manager, or waits for a node, may hold a lock, and has a copy of the name
pub asks_may_hold : (from : ℕ) (login : Login) (stage : LoginStage) → asks_manager from login stage ≡ true → may_hold_lock stage ≡ true
asks_may_hold from login AsksManager e = refl
asks_may_hold from login (IsDenied other) e = e
asks_may_hold from login (AsksNodes named waiting told) e = refl
asks_may_hold from login HasFailed e = e

pub waits_may_hold : (at : ℕ) (login : Login) (stage : LoginStage) → login_waits at login stage ≡ true → may_hold_lock stage ≡ true
waits_may_hold at login AsksManager e = refl
waits_may_hold at login (IsDenied other) e = e
waits_may_hold at login (AsksNodes named waiting told) e = refl
waits_may_hold at login HasFailed e = e

pub spare_is : (stage : LoginStage) (user : List ℕ) (spare : Option (List ℕ)) → may_hold_lock stage ≡ true → HasSpare stage user spare → spare ≡ Some user
spare_is AsksManager user spare e h = h
spare_is (IsDenied other) user spare e h = absurd (cc e)
spare_is (AsksNodes named waiting told) user spare e h = h
spare_is HasFailed user spare e h = absurd (cc e)
