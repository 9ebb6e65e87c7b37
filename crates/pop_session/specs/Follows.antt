-- Which session of the definitions a value is.
use Rattle.std.specs.Prelude.{◌≡◌, ℕ, ◌+◌, ◌<◌, ◌≤◌, List, [], ◌∷◌, ◌++◌, length, ⊤, Option, Some, None, slice_get}
use Rattle.std.specs.Option.{option_map}
use Rattle.mail_model.specs.Plan.{Plan}
use Rattle.mail_model.specs.PopReplies.{ready_text, banner_text}
use Rattle.mail_model.specs.Tape.Protocol.{Pop}
use Rattle.session_model.specs.Calls as calls
use Rattle.session_model.specs.Talk.{TalkState, Exchange, entered_as}
use Rattle.session_model.specs.Talk.Standing.{Hearing, Waiting}
use Rattle.session_model.specs.Sessions.{Session}
use Rattle.call_tickets.specs.Moves as moves
use Rattle.call_tickets.specs.Moves.{Moves, IsBusy, HasEnded}
use Rattle.call_tickets.specs.declared.step.Move.{Move}
use Rattle.call_tickets.specs.declared.step.Move.TheVariants.{Begin, Idle}
use Rattle.call_tickets.specs.declared.call.Call.{Call}
use Rattle.call_tickets.specs.declared.call.Call.TheVariants as tickets
use Rattle.call_tickets.specs.declared.answer.Answer.{Answer}
use Rattle.mail_base.specs.declared.item.Item.{Item}
use Rattle.dot_text.specs.Shown.{Pending}
use Rattle.pop_session.specs.declared.session.PopSession.{PopSession}
use Rattle.pop_session.specs.declared.session.Turn.{Turn}
use Rattle.pop_session.specs.declared.session.Turn.TheVariants.{Greets, Hears, Waits, Replies, Ended}
use Rattle.pop_session.specs.declared.due.Due.TheVariants.{Entered, Shown, Said, Last}
use Rattle.pop_session.specs.declared.stage.Login.{Login}
use Rattle.pop_session.specs.declared.stage.Stage.{Stage}
use Rattle.pop_session.specs.declared.stage.Stage.TheVariants as stages
use Rattle.pop_session.specs.declared.stage.Heard.{Heard}
use Rattle.pop_session.specs.declared.stage.Heard.TheVariants as heard
use Rattle.pop_session.specs.declared.listing.Slot.{Slot}
use Rattle.pop_session.specs.declared.due.Asked.TheVariants as asked
use Rattle.call_tickets.specs.declared.step.Move.TheVariants as move
use Rattle.pop_session.specs.Banners.{HasBanner}
use Rattle.pop_session.specs.Slots.{marked_items}
use Rattle.pop_session.specs.Shown.{talk_state_of, login_in, listed_in, slots_in}
use Rattle.pop_session.specs.Dues.{IsAsked, Says, due_login, due_items, taken_login, taken_items}

-- it waits for the answer to a call
pub record WaitsFor (state : TalkState) (plain : Session) : Type 0 where
  pub call : calls.Call
  pub standing : plain.standing ≡ Waiting state call
  pub before : List Exchange
  pub one : Exchange
  pub whole : plain.whole ≡ before ++ one ∷ []
  pub asks : one.call ≡ Some call
  pub unanswered : one.answer ≡ None

-- how the session stands, and what it has to say, by whose turn it is
abbrev pub Stands : Turn → TalkState → Session → moves.Due → Type 0
Stands Greets state plain due = (due ≡ moves.Due.Greeting) × (plain.standing ≡ Hearing state)
Stands Hears state plain due = (due ≡ moves.Due.Nothing) × (plain.standing ≡ Hearing state)
Stands (Waits asked) state plain due = (waits : WaitsFor state plain) × (due ≡ moves.Due.Nothing) × IsAsked asked waits.one.unit state waits.call
Stands (Replies says) state plain due = (answer : calls.Answer) × (waits : WaitsFor state plain) × (due ≡ moves.Due.Reply answer) × Says says waits.one.unit state waits.call answer
Stands Ended state plain due = (due ≡ moves.Due.Nothing) × HasEnded plain.standing

-- the user of a login
abbrev pub user_of_login : Option Login → Option (List ℕ)
user_of_login login = option_map (λ known. known.user) login

-- The value is this session, and has this to say before it hears on.
pub record Follows (session : PopSession) (plain : Session) (due : moves.Due) : Type 0 where
  pub speaks : plain.protocol ≡ Pop
  pub node : plain.node ≡ session.node
  pub limit : session.cutter.limit ≡ 1024
  pub pends : Pending session.cutter plain.rest
  pub others : plain.others ≡ []
  pub entered : entered_as plain.whole ≡ user_of_login (login_in session.stage)
  pub stands : Stands session.turn (talk_state_of session.stage) plain due

-- the line that it opens with
abbrev pub opening_line : PopSession → List ℕ
opening_line session = ready_text session.node session.boot session.number session.seconds

-- and the banner in it, from `<` to `>`
abbrev pub banner_of : PopSession → List ℕ
banner_of session = banner_text session.node session.boot session.number session.seconds

-- what a move does, whichever session of the definitions the value is
abbrev pub Goes : Plan → PopSession → Move → List ℕ → PopSession → Type 0
Goes plan old move octets new = (plain : Session) (due : moves.Due) → Follows old plain due → Moves (Follows new) (opening_line old) plan plain due move octets

-- the login that it was told, from the answer on
abbrev pub told_login : Turn → Stage → Option Login
told_login (Replies due) stage = due_login due (login_in stage)
told_login Greets stage = login_in stage
told_login Hears stage = login_in stage
told_login (Waits asked) stage = login_in stage
told_login Ended stage = login_in stage

-- and the messages of its listing
abbrev pub told_items : Turn → Stage → List Item
told_items (Replies due) stage = due_items due (listed_in stage)
told_items Greets stage = listed_in stage
told_items Hears stage = listed_in stage
told_items (Waits asked) stage = listed_in stage
told_items Ended stage = listed_in stage

abbrev pub login_of : PopSession → Option Login
login_of session = told_login session.turn session.stage

abbrev pub items_of : PopSession → List Item
items_of session = told_items session.turn session.stage

-- The call that a session asks names its banner, its login and what it was listed: a digest is of the banner that it greeted with, a fetch asks the nodes that hold one of its messages for all octets of it, and a
-- deletion has all that are marked, each as it was listed.
abbrev pub IsOwnCall : PopSession → Call → Type 0
IsOwnCall session (tickets.Deliver deliver) = ⊥
IsOwnCall session (tickets.Login user proof) = HasBanner (banner_of session) proof
IsOwnCall session (tickets.Fetch user id holders from most) = (at : ℕ) × (item : Item) × (slice_get (items_of session) at ≡ Some item) × (id ≡ item.id) × (holders ≡ item.holders)
IsOwnCall session (tickets.Strike user items) = items ≡ marked_items (slots_in session.stage)
IsOwnCall session (tickets.Leave user login manager) = ⊥

abbrev pub IsOwnMove : PopSession → Move → Type 0
IsOwnMove session (Begin call) = IsOwnCall session call
IsOwnMove session move = ⊤

-- how much it has to say before it hears on
abbrev pub due_count : Turn → ℕ
due_count Greets = 1
due_count Hears = 0
due_count (Waits asked) = 0
due_count (Replies says) = 1
due_count Ended = 0

-- how much is left to be done: octets that no line has taken, and what is to be said
abbrev pub left : PopSession → ℕ
left session = length session.cutter.rest + due_count session.turn

-- how many octets of its client it holds
abbrev pub held : PopSession → ℕ
held session = length session.cutter.rest

-- What a move did, with the octets that it said: what the definitions say; after one that another may follow at once less is left, and after none more; a session that is
-- idle holds less than 1,024 octets of its client; it stays in as whom it was let in, with what it was listed, and asks of that alone.
pub record Moved (plan : Plan) (old : PopSession) (move : Move) (octets : List ℕ) (new : PopSession) : Type 0 where
  pub goes : Goes plan old move octets new
  pub less : IsBusy move → left new < left old
  pub no_more : left new + due_count old.turn ≤ left old
  pub bounded : (plain : Session) (due : moves.Due) → Follows old plain due → move ≡ Idle → held new < 1024
  pub own : IsOwnMove old move
  pub login : login_of new ≡ login_of old
  pub items : items_of new ≡ items_of old

-- the Leave of a login
abbrev pub leave_of_login : Option Login → Option Call
leave_of_login None = None
leave_of_login (Some login) = Some (tickets.Leave login.user login.ticket login.manager)

-- the call that fetches this message of the user
abbrev pub fetch_of : List ℕ → Item → Call
fetch_of user item = tickets.Fetch user item.id item.holders 0 18446744073709551615

-- whose turn it is once a line was heard, and the move that this was
abbrev pub LeadsTurn : Heard → Turn × Move → Type 0
LeadsTurn (heard.Said reply) next = (next.0 ≡ Hears) × (next.1 ≡ move.Said)
LeadsTurn (heard.Ended reply) next = (next.0 ≡ Ended) × (next.1 ≡ move.Said)
LeadsTurn (heard.LogsIn user kept proof) next = (next.0 ≡ Waits (asked.Login kept)) × (next.1 ≡ Begin (tickets.Login user proof))
LeadsTurn (heard.Fetches user number lines item) next = (next.0 ≡ Waits (asked.Message lines)) × (next.1 ≡ Begin (fetch_of user item))
LeadsTurn (heard.Deletes user items) next = (next.0 ≡ Waits asked.Deletion) × (next.1 ≡ Begin (tickets.Strike user items))

-- it has something to say to the answer of its call
abbrev pub HasReply : Turn → Type 0
HasReply Greets = ⊥
HasReply Hears = ⊥
HasReply (Waits asked) = ⊥
HasReply (Replies says) = ⊤
HasReply Ended = ⊥

-- the stage of a session whose user was let in, with this listing
abbrev pub stage_behind : Turn → Stage → List Slot → Stage
stage_behind (Replies (Entered login listed)) stage listing = stages.Transaction login listing
stage_behind (Replies (Shown octets lines)) stage listing = stage
stage_behind (Replies (Said text)) stage listing = stage
stage_behind (Replies (Last text)) stage listing = stage
stage_behind Greets stage listing = stage
stage_behind Hears stage listing = stage
stage_behind (Waits asked) stage listing = stage
stage_behind Ended stage listing = stage

-- TRANSACTION begins
abbrev pub EntersTransaction : PopSession → List Slot → PopSession → Type 0
EntersTransaction old listing new = new ≡ record old { turn = Hears; stage = stage_behind old.turn old.stage listing }

-- what it was let in as and listed stays
pub record KeepsLogin (old new : PopSession) : Type 0 where
  pub login : login_of new ≡ login_of old
  pub items : items_of new ≡ items_of old
  pub greeting : opening_line new ≡ opening_line old

-- a session that waits takes what the answer names
abbrev pub taken_by : Turn → Option Answer → Option Login → Option Login
taken_by (Waits asked) answer login = taken_login asked answer login
taken_by Greets answer login = login
taken_by Hears answer login = login
taken_by (Replies due) answer login = login
taken_by Ended answer login = login

abbrev pub listed_by : Turn → Option Answer → List Item → List Item
listed_by (Waits asked) answer items = taken_items asked answer items
listed_by Greets answer items = items
listed_by Hears answer items = items
listed_by (Replies due) answer items = items
listed_by Ended answer items = items

-- what the answer leaves of login and messages
pub record TakesAnswer (answer : Option Answer) (old new : PopSession) : Type 0 where
  pub login : login_of new ≡ taken_by old.turn answer (login_of old)
  pub items : items_of new ≡ listed_by old.turn answer (items_of old)
