-- What an ask of a ticket gives, by what the machine says of the ticket.
use Rattle.std.specs.Prelude.{◌≡◌, ℕ, nat_eq, Bool, true, false, not, List, [], ◌∷◌, map, Option, Some, None, is_some, if◌then◌else◌}
use Rattle.std.specs.FinMap as fin
use Rattle.object_model.specs.Letters as plain
use Rattle.object_model.specs.Letters.{Number}
use Rattle.mail_base.specs.declared.filing.CallKind.{CallKind}
use Rattle.mail_base.specs.declared.filing.CallKind.TheVariants as call
use Rattle.call_tickets.specs.declared.answer.Ask.{Ask}
use Rattle.call_tickets.specs.declared.answer.Ask.TheVariants as code
use Rattle.call_tickets.specs.declared.answer.Answer.{Answer}
use Rattle.call_tickets.specs.declared.answer.Answer.TheVariants.{Listed, Wrong, InUse, NoProfile, Part, GoneAlready, Failed}
use Rattle.node_tickets.specs.Seen.{mishaps_seen}
use Rattle.login_model.specs.Readings.{LoginStage, Reading, ReadTicket, Reads}
use Rattle.login_model.specs.Readings.LoginStage.{AsksManager, IsDenied, AsksNodes, HasFailed}
use Rattle.login_model.specs.Readings.Reading.{LogsIn, Fetches}
use Rattle.login_model.specs.Progress.{ReadAnswer, ReadAsk, ask_read, chances}
use Rattle.login_model.specs.Progress.ReadAnswer.{Lists, Denies, Gives, Fails}
use Rattle.login_model.specs.Progress.ReadAsk.{Pending, Done}
use Rattle.login_model.specs.Listing.{LoginItem, IsMergeOfTold}
use Rattle.told_lists.specs.Joining.{login_item}
use Rattle.node_reads.specs.Readings.{login_waits, may_hold_lock}

-- An answer of the code says what the machine's does, for the ticket of this number. A listing has what was told, joined; a manager that names nodes denies nobody.
abbrev pub AnswersAs : Number → ReadAnswer → Answer → Type 0
AnswersAs number (Lists manager named told) (Listed login by asked items) = (login ≡ number) × (by ≡ manager) × (asked ≡ named) × IsMergeOfTold told (map login_item items)
AnswersAs number (Denies manager (plain.LoginWord.Wrong stamp)) (Wrong shown) = shown ≡ stamp
AnswersAs number (Denies manager (plain.LoginWord.InUse login)) (InUse by) = by ≡ login
AnswersAs number (Denies manager plain.LoginWord.NoProfile) (NoProfile by) = by ≡ manager
AnswersAs number (Gives (plain.ToldPart.Octets octets whole)) (Part given length) = (given ≡ octets) × (length ≡ whole)
AnswersAs number (Gives (plain.ToldPart.Gone stamp)) GoneAlready = Unit {0}
AnswersAs number (Fails mishaps) (Failed counts) = mishaps_seen counts ≡ mishaps
AnswersAs number answer other = ⊥

-- how far a call has come that is not done
abbrev pub pending_of : ReadAsk → Option Ask
pending_of (Pending got wanted) = Some (code.Pending got wanted)
pending_of (Done answer) = None

-- whether a call is done
abbrev pub is_done : ReadTicket → Bool
is_done ticket = not (is_some (pending_of (ask_read ticket ticket.reading)))

abbrev pub done_at : Option ReadTicket → Bool
done_at None = false
done_at (Some ticket) = is_done ticket

-- the kind of a call
abbrev pub kind_of : Reading → CallKind
kind_of (LogsIn login) = call.Login
kind_of (Fetches fetch) = call.Fetch

abbrev pub kind_at : Option ReadTicket → Option CallKind
kind_at None = None
kind_at (Some ticket) = Some (kind_of ticket.reading)

-- how many letters mishaps may still send for a call
abbrev pub chances_at : Option ReadTicket → ℕ
chances_at None = 0
chances_at (Some ticket) = chances ticket.reading

-- the user of a login that the node manages itself
abbrev pub managed_user : ℕ → Reading → Option (List ℕ)
managed_user own (LogsIn login) = if nat_eq login.manager own then Some login.user else None
managed_user own (Fetches fetch) = None

-- the user of a login that the node manages itself, where a mishap at a node makes the login fail
abbrev pub user_befallen : ℕ → ℕ → Reading → Option (List ℕ)
user_befallen own at (LogsIn login) = if login_waits at login login.stage then managed_user own (LogsIn login) else None
user_befallen own at (Fetches fetch) = None

abbrev pub user_befallen_at : ℕ → ℕ → Option ReadTicket → Option (List ℕ)
user_befallen_at own at None = None
user_befallen_at own at (Some ticket) = user_befallen own at ticket.reading

-- the user of a login that the node manages itself, where it may have given the login a lock
abbrev pub user_held : ℕ → Reading → Option (List ℕ)
user_held own (LogsIn login) = if may_hold_lock login.stage then managed_user own (LogsIn login) else None
user_held own (Fetches fetch) = None

abbrev pub user_held_at : ℕ → Option ReadTicket → Option (List ℕ)
user_held_at own None = None
user_held_at own (Some ticket) = user_held own ticket.reading

-- a call is done, with this answer
abbrev pub DoneAs : Number → ReadAsk → Answer → Type 0
DoneAs number (Pending got wanted) answer = ⊥
DoneAs number (Done answer) given = AnswersAs number answer given

-- these are the messages that a login lists, where it lists any
abbrev pub StageLists : LoginStage → List LoginItem → Type 0
StageLists AsksManager items = Unit {0}
StageLists (IsDenied word) items = Unit {0}
StageLists (AsksNodes named waiting told) items = IsMergeOfTold told items
StageLists HasFailed items = Unit {0}

abbrev pub ReadingLists : Reading → List LoginItem → Type 0
ReadingLists (LogsIn login) items = StageLists login.stage items
ReadingLists (Fetches fetch) items = Unit {0}

-- a ticket is done and has this listing, if it stands
abbrev pub CanEnd : Option ReadTicket → List LoginItem → Type 0
CanEnd None items = Unit {0}
CanEnd (Some ticket) items = (pending_of (ask_read ticket ticket.reading) ≡ None) × ReadingLists ticket.reading items

-- What an ask gives, and which tickets it leaves: a ticket that is done is taken out, and every other stays.
abbrev pub AnswersIn : Number → Reads → ReadAsk → Option Ask → Reads → Type 0
AnswersIn number old (Pending got wanted) ask new = (ask ≡ Some (code.Pending got wanted)) × (new ≡ old)
AnswersIn number old (Done answer) ask new = (given : Answer) × (ask ≡ Some (code.Done given)) × AnswersAs number answer given × (new ≡ fin.remove old number.seq)

abbrev pub AskedIn : Number → Reads → Option ReadTicket → Option Ask → Reads → Type 0
AskedIn number old None ask new = (ask ≡ None) × (new ≡ old)
AskedIn number old (Some ticket) ask new = AnswersIn number old (ask_read ticket ticket.reading) ask new

-- so where the ticket stands under its number
abbrev pub EndsIn : Number → Reads → Option ReadTicket → Option Ask → Reads → Type 0
EndsIn number old None ask new = (ask ≡ None) × (new ≡ old)
EndsIn number old (Some ticket) ask new = (given : Answer) × (ask ≡ Some (code.Done given)) × DoneAs number (ask_read ticket ticket.reading) given × (new ≡ fin.remove old number.seq)

-- whether a list has nothing in it
abbrev pub is_empty : List ℕ → Bool
is_empty [] = true
is_empty (n ∷ others) = false
