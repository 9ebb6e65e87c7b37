-- What becomes of one call that reads, in words that the code tests.
use Rattle.std.specs.Prelude.{◌≡◌, ◌≤◌, ℕ, Bool, true, false, nat_eq, List, [], ◌∷◌, length, All, Option, Some, None, if◌then◌else◌}
use Rattle.object_model.specs.Sets.{has, without_node}
use Rattle.object_model.specs.Letters.{Letter}
use Rattle.object_model.specs.Letters.Body.{FetchAsk}
use Rattle.login_model.specs.Readings.{LoginStage, Login, FetchStage, Fetch, Reading, ReadTicket}
use Rattle.login_model.specs.Readings.LoginStage.{AsksManager, IsDenied, AsksNodes, HasFailed}
use Rattle.login_model.specs.Readings.FetchStage.{AsksHolder, IsAnswered, NobodyLeft}
use Rattle.login_model.specs.Readings.Reading.{LogsIn, Fetches}
use Rattle.login_model.specs.Rules.{ReadDid, Under, ask, ask_next}
use Rattle.login_model.specs.Progress.{fetch_chances}

-- one letter, or none
abbrev pub listed : Option Letter → List Letter
listed None = []
listed (Some letter) = letter ∷ []

-- the first of a list
abbrev pub first_in : List ℕ → Option ℕ
first_in [] = None
first_in (n ∷ others) = Some n

-- a login and a fetch once a rule was done, with the letters
abbrev pub login_did : Login → List Letter → ReadDid
login_did login letters = record { reading = LogsIn login; out = letters }

abbrev pub fetch_did : Fetch → List Letter → ReadDid
fetch_did fetch letters = record { reading = Fetches fetch; out = letters }

-- whether a login asks this manager
abbrev pub asks_manager : ℕ → Login → LoginStage → Bool
asks_manager from login AsksManager = nat_eq from login.manager
asks_manager from login (IsDenied word) = false
asks_manager from login (AsksNodes named waiting told) = false
asks_manager from login HasFailed = false

-- whether a login waits for a node, its manager or one that has not told yet
abbrev pub login_waits : ℕ → Login → LoginStage → Bool
login_waits at login AsksManager = nat_eq at login.manager
login_waits at login (IsDenied word) = false
login_waits at login (AsksNodes named waiting told) = has waiting at
login_waits at login HasFailed = false

-- whether its manager may have given it a lock
abbrev pub may_hold_lock : LoginStage → Bool
may_hold_lock AsksManager = true
may_hold_lock (IsDenied word) = false
may_hold_lock (AsksNodes named waiting told) = true
may_hold_lock HasFailed = false

-- As long as its manager may have given it a lock, a login has a copy of its user's name.
abbrev pub HasSpare : LoginStage → List ℕ → Option (List ℕ) → Type 0
HasSpare AsksManager user spare = spare ≡ Some user
HasSpare (IsDenied word) user spare = Unit {0}
HasSpare (AsksNodes named waiting told) user spare = spare ≡ Some user
HasSpare HasFailed user spare = Unit {0}

-- A fetch has such a copy for each holder that is left.
abbrev pub HasSpares : FetchStage → List ℕ → List (List ℕ) → Type 0
HasSpares stage user spares = (fetch_chances stage ≤ length spares) × All (λ name. name ≡ user) spares

-- whether a fetch asks this holder
abbrev pub fetch_waits : ℕ → FetchStage → Bool
fetch_waits at (AsksHolder holder left) = nat_eq at holder
fetch_waits at (IsAnswered by part) = false
fetch_waits at NobodyLeft = false

-- the holders that are then left, where it does
abbrev pub left_after : ℕ → FetchStage → Option ℕ
left_after at (AsksHolder holder left) = if nat_eq at holder then Some (without_node left at) else None
left_after at (IsAnswered by part) = None
left_after at NobodyLeft = None

-- a fetch asks this holder, or nobody is left
abbrev pub asks_first : Under → Fetch → ℕ → Option ℕ → ReadDid
asks_first u fetch left None = fetch_did (record fetch { stage = NobodyLeft }) []
asks_first u fetch left (Some holder) = fetch_did (record fetch { stage = AsksHolder holder (without_node left holder) }) (ask u holder (FetchAsk fetch.user fetch.id fetch.at fetch.most) ∷ [])

-- a fetch asks one of those that are left, where it was to
abbrev pub asks_if_left : Under → Fetch → Option ℕ → ReadDid
asks_if_left u fetch None = fetch_did fetch []
asks_if_left u fetch (Some left) = ask_next u fetch left

-- whether a fetch has a part
abbrev pub has_part : FetchStage → Bool
has_part (AsksHolder holder left) = false
has_part (IsAnswered by part) = true
has_part NobodyLeft = false

-- whether a reading waits for a node
abbrev pub reading_waits : ℕ → Reading → Bool
reading_waits at (LogsIn login) = login_waits at login login.stage
reading_waits at (Fetches fetch) = fetch_waits at fetch.stage

abbrev pub waits_at : ℕ → Option ReadTicket → Bool
waits_at at None = false
waits_at at (Some ticket) = reading_waits at ticket.reading

-- whose list of the own node a login takes, as it is told this word
abbrev pub user_of_login : Reading → Option (List ℕ)
user_of_login (LogsIn login) = Some login.user
user_of_login (Fetches fetch) = None

abbrev pub user_at : Option ReadTicket → Option (List ℕ)
user_at None = None
user_at (Some ticket) = user_of_login ticket.reading
