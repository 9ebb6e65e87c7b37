-- What a session has been told, and what a line led to, as the definition of a session sees them.
use Rattle.std.specs.Prelude.{◌≡◌, ℕ, List, [], Option, Some, None, Result, ⊤, slice_get}
use Rattle.mail_model.specs.Plan.{Plan}
use Rattle.mail_model.specs.Pop.{Command, Fault, pop_command_of, lines_asked}
use Rattle.mail_model.specs.Maildrop as model
use Rattle.mail_model.specs.Maildrop.{LineOutcome, line_outcome, after_line, marked_by}
use Rattle.mail_model.specs.Maildrop.LineOutcome.{Answered, Closed, AsksLogin, AsksMessage, AsksDeletion}
use Rattle.session_model.specs.Calls.{given_of}
use Rattle.session_model.specs.Talk.{TalkState}
use Rattle.session_model.specs.Talk.TalkState.{Entering, Reading}
use Rattle.mail_base.specs.declared.item.Item.{Item}
use Rattle.mail_base.specs.Bodies.{proof_seen}
use Rattle.call_tickets.specs.Seen.{ids_in}
use Rattle.pop_session.specs.declared.listing.Slot.{Slot}
use Rattle.pop_session.specs.declared.stage.Login.{Login}
use Rattle.pop_session.specs.declared.stage.Stage.{Stage}
use Rattle.pop_session.specs.declared.stage.Stage.TheVariants.{Authorization, Transaction}
use Rattle.pop_session.specs.declared.stage.Heard.{Heard}
use Rattle.pop_session.specs.declared.stage.Heard.TheVariants.{Said, Ended, LogsIn, Fetches, Deletes}
use Rattle.pop_session.specs.Banners.{HasBanner}
use Rattle.pop_session.specs.Slots.{slots_seen, items_of_slots, marked_items}

-- what a session has been told, as a table of commands sees it
abbrev pub stage_of : Stage → model.Stage
stage_of (Authorization user) = model.Stage.Authorization user
stage_of (Transaction login listing) = model.Stage.Transaction (slots_seen listing)

-- and as a session does
abbrev pub talk_state_of : Stage → TalkState
talk_state_of (Authorization user) = Entering user
talk_state_of (Transaction login listing) = Reading login.user (slots_seen listing)

-- the login, from TRANSACTION on
abbrev pub login_in : Stage → Option Login
login_in (Authorization user) = None
login_in (Transaction login listing) = Some login

-- the messages of its listing
abbrev pub listed_in : Stage → List Item
listed_in (Authorization user) = []
listed_in (Transaction login listing) = items_of_slots listing

-- what the line leads to
abbrev pub outcome_of_heard : Heard → LineOutcome
outcome_of_heard (Said reply) = Answered reply
outcome_of_heard (Ended reply) = Closed reply
outcome_of_heard (LogsIn user kept proof) = AsksLogin user (given_of (proof_seen proof))
outcome_of_heard (Fetches user number lines item) = AsksMessage number item.id
outcome_of_heard (Deletes user items) = AsksDeletion (ids_in items)

-- the lines that are said at once
abbrev pub reply_in : Heard → List (List ℕ)
reply_in (Said reply) = reply
reply_in (Ended reply) = reply
reply_in (LogsIn user kept proof) = []
reply_in (Fetches user number lines item) = []
reply_in (Deletes user items) = []

-- What is asked is of this user, by a digest of this banner where it is by one, and of messages as they were listed: the one that is fetched is one of them, and those that are deleted are all that are marked.
abbrev pub IsOwn : List ℕ → List ℕ → List Slot → Heard → Type 0
IsOwn banner name listing (Said reply) = ⊤
IsOwn banner name listing (Ended reply) = ⊤
IsOwn banner name listing (LogsIn user kept proof) = (kept ≡ user) × HasBanner banner proof
IsOwn banner name listing (Fetches user number lines item) = (user ≡ name) × ((at : ℕ) × (slice_get (items_of_slots listing) at ≡ Some item))
IsOwn banner name listing (Deletes user items) = (user ≡ name) × (items ≡ marked_items listing)

-- the user whom it was let in as, and its listing
abbrev pub name_in : Stage → List ℕ
name_in (Authorization user) = []
name_in (Transaction login listing) = login.user

abbrev pub slots_in : Stage → List Slot
slots_in (Authorization user) = []
slots_in (Transaction login listing) = listing

-- What a session has been told once a line was heard that is not too long, by the user whom the line names and by what it says.
abbrev pub told_by_line : model.Stage → Option (List ℕ) → Result Command Fault → model.Stage
told_by_line (model.Stage.Authorization old) named said = model.Stage.Authorization named
told_by_line (model.Stage.Transaction slots) named said = model.Stage.Transaction (marked_by slots said)

-- the same of a line that is too long: it names nobody, and marks nothing
abbrev pub told_long : model.Stage → model.Stage
told_long (model.Stage.Authorization old) = model.Stage.Authorization None
told_long (model.Stage.Transaction slots) = model.Stage.Transaction slots

-- a message is asked for as the command does: all of it, or so many lines behind its header
abbrev pub AsksSo : Heard → Option ℕ → Type 0
AsksSo (Said reply) asked = ⊤
AsksSo (Ended reply) asked = ⊤
AsksSo (LogsIn user kept proof) asked = ⊤
AsksSo (Fetches user number lines item) asked = asked ≡ lines
AsksSo (Deletes user items) asked = ⊤

-- the line leads to what it should, and the session has then been told what it should
pub record HearsLine (banner : List ℕ) (plan : Plan) (old : Stage) (line : List ℕ) (heard : Heard) (new : Stage) : Type 0 where
  pub outcome : outcome_of_heard heard ≡ line_outcome plan (stage_of old) line
  pub told : stage_of new ≡ after_line (stage_of old) line
  pub asks : AsksSo heard (lines_asked (pop_command_of line))
  pub own : IsOwn banner (name_in old) (slots_in old) heard
  pub login : login_in new ≡ login_in old
  pub items : listed_in new ≡ listed_in old
