-- What a node does for calls that read. It changes tickets and sends letters; no disk is written.
use Rattle.std.specs.Prelude.{◌≡◌, ◌⊎◌, ℕ, ◌+◌, ◌&&◌, true, nat_eq, List, [], ◌∷◌, ◌++◌, Option, Some, None, if◌then◌else◌}
use Rattle.std.specs.FinMap as map
use Rattle.mail_model.specs.Identity.{Id, EpochId, Stamp}
use Rattle.mail_model.specs.Plan.{Plan, Proof, proves}
use Rattle.object_model.specs.Sets.{has, without_node}
use Rattle.object_model.specs.Letters.{Number, LoginWord, ToldItem, ToldPart, Body, Letter}
use Rattle.object_model.specs.Letters.LoginWord.{Named, Wrong, InUse, NoProfile}
use Rattle.object_model.specs.Letters.Body.{LoginAsk, LoginTold, ListAsk, ListTold, FetchAsk, FetchTold, Unlock}
use Rattle.object_model.specs.Mishaps.{MishapKind, no_mishaps, counted}
use Rattle.cluster_model.specs.Rules.{answer, receivers, letters_to}
use Rattle.login_model.specs.Readings.{ToldList, LoginStage, Login, FetchStage, Fetch, Reading, ReadTicket}
use Rattle.login_model.specs.Readings.LoginStage.{AsksManager, IsDenied, AsksNodes, HasFailed}
use Rattle.login_model.specs.Readings.FetchStage.{AsksHolder, IsAnswered, NobodyLeft}
use Rattle.login_model.specs.Readings.Reading.{LogsIn, Fetches}
use Rattle.login_model.specs.Cluster.{Node}

-- what becomes of a reading, and the letters that are sent for it
pub record ReadDid : Type 0 where
  pub reading : Reading
  pub out : List Letter

-- it stays as it is
abbrev pub same : Reading → ReadDid
same reading = record { reading = reading; out = [] }

-- what a call does for its ticket: the letters carry the ticket's number and the epoch
pub record Under : Type 0 where
  pub own : ℕ
  pub epoch : EpochId
  pub number : Number

abbrev pub ask : Under → ℕ → Body → Letter
ask u to body = record { from = u.own; to = to; epoch = u.epoch; ticket = Some u.number; body = body }

-- the own list, where the own node is named
abbrev pub own_told : ℕ → ℕ → List ToldItem → List ToldList
own_told own named mine = if has named own then record { node = own; items = mine } ∷ [] else []

-- The manager has told: the nodes that it names are asked for their messages, and the own node tells its own at once.
abbrev pub take_word : Under → Login → List ToldItem → LoginWord → ReadDid
take_word u login mine (Named named) = record {
  reading = LogsIn (record login { stage = AsksNodes named (without_node named u.own) (own_told u.own named mine) });
  out = letters_to u.own u.epoch (Some u.number) (receivers u.own named 64) (ListAsk login.user);
}
take_word u login mine (Wrong stamp) = same (LogsIn (record login { stage = IsDenied (Wrong stamp) }))
take_word u login mine (InUse by) = same (LogsIn (record login { stage = IsDenied (InUse by) }))
take_word u login mine NoProfile = same (LogsIn (record login { stage = IsDenied NoProfile }))

-- A login begins. Where the own node is the manager, it judges at once, and else the manager is asked.
abbrev pub begin_login : Under → List ℕ → Proof → ℕ → LoginWord → List ToldItem → ReadDid
begin_login u user proof manager word mine =
    let login : Login = record { user = user; manager = manager; stage = AsksManager } in
    if nat_eq manager u.own then take_word u login mine word else record { reading = LogsIn login; out = ask u manager (LoginAsk user proof) ∷ [] }

-- the holders that are left are asked in rising order
abbrev pub ask_first : Under → Fetch → ℕ → List ℕ → ReadDid
ask_first u fetch left [] = same (Fetches (record fetch { stage = NobodyLeft }))
ask_first u fetch left (holder ∷ others) = record {
  reading = Fetches (record fetch { stage = AsksHolder holder (without_node left holder) });
  out = ask u holder (FetchAsk fetch.user fetch.id fetch.at fetch.most) ∷ [];
}

abbrev pub ask_next : Under → Fetch → ℕ → ReadDid
ask_next u fetch left = ask_first u fetch left (receivers u.own left 64)

-- A fetch begins. Where the own node is a holder, it is asked first, and answers at once.
abbrev pub begin_fetch : Under → List ℕ → Id → ℕ → ℕ → ℕ → ToldPart → ReadDid
begin_fetch u user id at most holders part =
    let fetch : Fetch = record { user = user; id = id; at = at; most = most; stage = NobodyLeft } in
    if has holders u.own then same (Fetches (record fetch { stage = IsAnswered u.own part })) else ask_next u fetch holders

-- The manager is heard while it is asked; the first word counts.
abbrev pub word_at : Under → ℕ → Login → List ToldItem → LoginWord → LoginStage → ReadDid
word_at u from login mine word AsksManager = if nat_eq from login.manager then take_word u login mine word else same (LogsIn login)
word_at u from login mine word (IsDenied other) = same (LogsIn login)
word_at u from login mine word (AsksNodes named waiting told) = same (LogsIn login)
word_at u from login mine word HasFailed = same (LogsIn login)

-- A list is heard from a node that is waited for; the first of each node counts.
abbrev pub list_at : ℕ → Login → List ToldItem → LoginStage → ReadDid
list_at from login items AsksManager = same (LogsIn login)
list_at from login items (IsDenied word) = same (LogsIn login)
list_at from login items (AsksNodes named waiting told) =
    if has waiting from
    then same (LogsIn (record login { stage = AsksNodes named (without_node waiting from) (told ++ record { node = from; items = items } ∷ []) }))
    else same (LogsIn login)
list_at from login items HasFailed = same (LogsIn login)

-- A part is heard from any holder that was asked; the first counts.
abbrev pub part_at : ℕ → Fetch → ToldPart → FetchStage → ReadDid
part_at from fetch part (AsksHolder holder left) = same (Fetches (record fetch { stage = IsAnswered from part }))
part_at from fetch part (IsAnswered by other) = same (Fetches fetch)
part_at from fetch part NobodyLeft = same (Fetches (record fetch { stage = IsAnswered from part }))

-- what a reading becomes where a letter answers its ticket
abbrev pub hear_for : Under → ℕ → List ToldItem → Reading → Body → ReadDid
hear_for u from mine (LogsIn login) (LoginTold word) = word_at u from login mine word login.stage
hear_for u from mine (LogsIn login) (ListTold items) = list_at from login items login.stage
hear_for u from mine (Fetches fetch) (FetchTold part) = part_at from fetch part fetch.stage
hear_for u from mine reading body = same reading

-- the lock goes back to the manager that gave it
abbrev pub unlock : Under → List ℕ → Number → ℕ → List Letter
unlock u user login manager =
    if nat_eq manager u.own then [] else record { from = u.own; to = manager; epoch = u.epoch; ticket = None; body = Unlock user login } ∷ []

abbrev pub fail : Under → Login → ReadDid
fail u login = record { reading = LogsIn (record login { stage = HasFailed }); out = unlock u login.user u.number login.manager }

-- A node that is waited for fails: a login fails with it, and a fetch asks the next holder.
abbrev pub login_befell : Under → ℕ → Login → LoginStage → ReadDid
login_befell u at login AsksManager = if nat_eq at login.manager then fail u login else same (LogsIn login)
login_befell u at login (IsDenied word) = same (LogsIn login)
login_befell u at login (AsksNodes named waiting told) = if has waiting at then fail u login else same (LogsIn login)
login_befell u at login HasFailed = same (LogsIn login)

abbrev pub fetch_befell : Under → ℕ → Fetch → FetchStage → ReadDid
fetch_befell u at fetch (AsksHolder holder left) = if nat_eq at holder then ask_next u fetch (without_node left at) else same (Fetches fetch)
fetch_befell u at fetch (IsAnswered by part) = same (Fetches fetch)
fetch_befell u at fetch NobodyLeft = same (Fetches fetch)

abbrev pub befell : Under → ℕ → Reading → ReadDid
befell u at (LogsIn login) = login_befell u at login login.stage
befell u at (Fetches fetch) = fetch_befell u at fetch fetch.stage

-- what a ticket that is given up sends
abbrev pub given_up : Under → Login → LoginStage → List Letter
given_up u login AsksManager = unlock u login.user u.number login.manager
given_up u login (IsDenied word) = []
given_up u login (AsksNodes named waiting told) = unlock u login.user u.number login.manager
given_up u login HasFailed = []

abbrev pub give_up : Under → Reading → List Letter
give_up u (LogsIn login) = given_up u login login.stage
give_up u (Fetches fetch) = []

-- what a node does, and the letters that it sends
pub record Reaction : Type 0 where
  pub node : Node
  pub out : List Letter

abbrev pub idle : Node → Reaction
idle node = record { node = node; out = [] }

-- the number that the node draws next for a ticket
abbrev pub next_number : ℕ → Node → Number
next_number own node = record { node = own; boot = node.boot; seq = node.calls + 1 }

abbrev pub under : ℕ → Node → Number → Under
under own node number = record { own = own; epoch = node.epoch; number = number }

-- a ticket begins with what becomes of its reading
abbrev pub begin_read : ℕ → Node → ReadDid → Reaction
begin_read own node did = record {
  node = record node { calls = node.calls + 1; reads = map.insert node.reads (node.calls + 1) (record { reading = did.reading; mishaps = no_mishaps }) };
  out = did.out;
}

abbrev pub with_reading : Node → ℕ → ReadTicket → Node
with_reading node seq ticket = record node { reads = map.insert node.reads seq ticket }

-- the standing ticket of a number
abbrev pub read_at : ℕ → Node → Option Number → Option ReadTicket
read_at own node None = None
read_at own node (Some number) = if nat_eq number.node own && nat_eq number.boot node.boot then map.get node.reads number.seq else None

-- a letter answers a ticket; where that stands no more it is late
abbrev pub told_at : ℕ → Node → Letter → List ToldItem → Option Number → Option ReadTicket → Reaction
told_at own node letter mine None ticket = idle node
told_at own node letter mine (Some number) None = idle node
told_at own node letter mine (Some number) (Some ticket) =
    let did = hear_for (under own node number) letter.from mine ticket.reading letter.body in
    record { node = with_reading node number.seq (record ticket { reading = did.reading }); out = did.out }

abbrev pub hear_told : ℕ → Node → Letter → List ToldItem → Reaction
hear_told own node letter mine = told_at own node letter mine letter.ticket (read_at own node letter.ticket)

-- A mishap of a letter to or from node `at` is noted at a ticket of this boot.
abbrev pub befell_at : ℕ → MishapKind → ℕ → Node → Number → Option ReadTicket → Reaction
befell_at own kind at node number None = idle node
befell_at own kind at node number (Some ticket) =
    let did = befell (under own node number) at ticket.reading in
    record { node = with_reading node number.seq (record { reading = did.reading; mishaps = counted kind ticket.mishaps }); out = did.out }

abbrev pub mishap : ℕ → MishapKind → ℕ → Node → Number → Reaction
mishap own kind at node number = befell_at own kind at node number (read_at own node (Some number))

-- a ticket is taken out, as it is answered
abbrev pub end_read : Node → ℕ → Reaction
end_read node seq = record { node = record node { reads = map.remove node.reads seq }; out = [] }

-- or as it is given up
abbrev pub give_up_read : ℕ → Node → Number → Reading → Reaction
give_up_read own node number reading = record { node = (end_read node number.seq).node; out = give_up (under own node number) reading }

-- A Leave gives a lock back, and has no ticket.
abbrev pub leave : ℕ → Node → List ℕ → Number → ℕ → Reaction
leave own node user login manager = record { node = node; out = unlock (under own node login) user login manager }

-- Until there are profiles, a manager knows each user's secret from the plan, and has it with this stamp.
abbrev pub first_stamp : Stamp
first_stamp = record { count = 0; boot = 0; node = 0 }

-- The word of a manager by the secret alone.
abbrev pub judge : Plan → Node → List ℕ → Proof → LoginWord
judge plan node user proof = if proves plan user proof then Named (node.named user) else Wrong first_stamp

-- A manager tells that word; or, where the proof is right, that another login has the maildrop.
abbrev pub IsWordOf : Plan → Node → List ℕ → Proof → LoginWord → Type 0
IsWordOf plan node user proof word = (word ≡ judge plan node user proof) ⊎ ((proves plan user proof ≡ true) × (by : Number) × (word ≡ InUse by))

-- a letter is answered
abbrev pub answering : Node → Letter → Body → Reaction
answering node letter body = record { node = node; out = answer letter body ∷ [] }
