-- How far a call that reads has come: what an ask of its ticket answers.
use Rattle.std.specs.Prelude.{◌≡◌, ◌<◌, ◌≤◌, ◌+◌, ℕ, true, List, [], ◌∷◌, length, Some}
use Rattle.std.specs.FinMap as map
use Rattle.mail_model.specs.Record.{Record}
use Rattle.object_model.specs.Sets.{has, count_in, nodes_in}
use Rattle.object_model.specs.Letters.{LoginWord, ToldPart}
use Rattle.object_model.specs.Mishaps.{Mishaps, mishaps_of}
use Rattle.login_model.specs.Readings.{ToldList, LoginStage, Login, FetchStage, Reading, ReadTicket}
use Rattle.login_model.specs.Readings.LoginStage.{AsksManager, IsDenied, AsksNodes, HasFailed}
use Rattle.login_model.specs.Readings.FetchStage.{AsksHolder, IsAnswered, NobodyLeft}
use Rattle.login_model.specs.Readings.Reading.{LogsIn, Fetches}
use Rattle.login_model.specs.Facts.{AnswerAwaited, ReadingWaits}
use Rattle.login_model.specs.Rules.{Under, befell}
use Rattle.login_model.specs.Cluster.{Node, Cluster, slot_at, slot_up}
use Rattle.login_model.specs.Parts.{Sound}

-- What a call comes to. The items of a listing are the merge of what was told.
pub data ReadAnswer : Type 0 where
  Lists : (manager named : ℕ) (told : List ToldList) → ReadAnswer
  Denies : (manager : ℕ) (word : LoginWord) → ReadAnswer
  Gives : (part : ToldPart) → ReadAnswer
  Fails : (mishaps : Mishaps) → ReadAnswer

pub data ReadAsk : Type 0 where
  Pending : (got wanted : ℕ) → ReadAsk
  Done : (answer : ReadAnswer) → ReadAsk

-- all have told, or some have not
abbrev pub ask_of_nodes : Login → ℕ → List ToldList → List ℕ → ReadAsk
ask_of_nodes login named told [] = Done (Lists login.manager named told)
ask_of_nodes login named told (m ∷ others) = Pending (length told) (count_in named)

abbrev pub login_ask : Login → Mishaps → LoginStage → ReadAsk
login_ask login mishaps AsksManager = Pending 0 1
login_ask login mishaps (IsDenied word) = Done (Denies login.manager word)
login_ask login mishaps (AsksNodes named waiting told) = ask_of_nodes login named told (nodes_in waiting 64)
login_ask login mishaps HasFailed = Done (Fails mishaps)

abbrev pub fetch_ask : Mishaps → FetchStage → ReadAsk
fetch_ask mishaps (AsksHolder holder left) = Pending 0 1
fetch_ask mishaps (IsAnswered by part) = Done (Gives part)
fetch_ask mishaps NobodyLeft = Done (Fails mishaps)

abbrev pub ask_read : ReadTicket → Reading → ReadAsk
ask_read ticket (LogsIn login) = login_ask login ticket.mishaps login.stage
ask_read ticket (Fetches fetch) = fetch_ask ticket.mishaps fetch.stage

-- A ticket that is pending waits for somebody.
abbrev pub PendingWaits : Type 0
PendingWaits = (ticket : ReadTicket) (got wanted : ℕ) → ask_read ticket ticket.reading ≡ Pending got wanted → (m : ℕ) × (what : AnswerAwaited) × ReadingWaits ticket.reading m what

-- Whoever a mishap befell is waited for no more: a login has then failed, and a fetch asks another holder, or nobody.
abbrev pub MishapEndsWait : Type 0
MishapEndsWait = (u : Under) (m : ℕ) (reading : Reading) (what : AnswerAwaited) → ReadingWaits (befell u m reading).reading m what → ⊥

-- A login that is done with a listing has the lists of all nodes that were named.
abbrev pub ListsAreAll : Type 0
ListsAreAll = (ticket : ReadTicket) (login : Login) → ticket.reading ≡ LogsIn login → (manager named : ℕ) (told : List ToldList) → ask_read ticket ticket.reading ≡ Done (Lists manager named told)
    → (manager ≡ login.manager) × ((waiting : ℕ) × (login.stage ≡ AsksNodes named waiting told) × ((m : ℕ) → has waiting m ≡ true → ⊥))

-- A ticket that is done since its call failed counts a mishap.
abbrev pub FailuresCount : Type 0
FailuresCount = (w : Cluster) → Sound w → (n : ℕ) (node : Node) (disk : List Record) → slot_at w.slots n ≡ Some (slot_up node disk) → (seq : ℕ) (ticket : ReadTicket) → map.get node.reads seq ≡ Some ticket
    → (mishaps : Mishaps) → ask_read ticket ticket.reading ≡ Done (Fails mishaps) → 0 < mishaps_of mishaps

-- How many letters mishaps may still send for a call: an Unlock for a login that its manager may have let in, and a FetchAsk to each holder that is left.
abbrev pub login_chances : LoginStage → ℕ
login_chances AsksManager = 1
login_chances (IsDenied word) = 0
login_chances (AsksNodes named waiting told) = 1
login_chances HasFailed = 0

abbrev pub fetch_chances : FetchStage → ℕ
fetch_chances (AsksHolder holder left) = count_in left
fetch_chances (IsAnswered by part) = 0
fetch_chances NobodyLeft = 0

abbrev pub chances : Reading → ℕ
chances (LogsIn login) = login_chances login.stage
chances (Fetches fetch) = fetch_chances fetch.stage

-- Each letter that a mishap sends takes one of these away.
abbrev pub ChancesFall : Type 0
ChancesFall = (u : Under) (at : ℕ) (reading : Reading) → length (befell u at reading).out + chances (befell u at reading).reading ≤ chances reading
