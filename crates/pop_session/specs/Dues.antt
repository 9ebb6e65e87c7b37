-- What a session waits for, and what it has to say to the answer.
use Rattle.std.specs.Prelude.{◌≡◌, ℕ, List, [], map, Option, Some, None}
use Rattle.mail_model.specs.Identity.{Id}
use Rattle.mail_model.specs.Session.{Unit}
use Rattle.mail_model.specs.PopReplies.{one_line}
use Rattle.mail_model.specs.Maildrop.{wrong_text, later_text, gone_text, bye_text, remaining_text, Given}
use Rattle.mail_base.specs.Items.{item_seen}
use Rattle.session_model.specs.Calls as calls
use Rattle.session_model.specs.Calls.{RepliesTo, asked_lines, in_use_text}
use Rattle.session_model.specs.Talk.{TalkState, Standing, answered, let_in}
use Rattle.session_model.specs.Talk.TalkState.{Entering}
use Rattle.session_model.specs.Talk.Standing.{Hearing, EndedByQuit}
use Rattle.mail_base.specs.declared.item.Item.{Item}
use Rattle.call_tickets.specs.declared.answer.Answer.{Answer}
use Rattle.call_tickets.specs.declared.answer.Answer.TheVariants as answers
use Rattle.pop_session.specs.declared.stage.Login as tickets
use Rattle.pop_session.specs.declared.due.Asked.{Asked}
use Rattle.pop_session.specs.declared.due.Asked.TheVariants.{Login, Message, Deletion}
use Rattle.pop_session.specs.declared.due.Text.{Text}
use Rattle.pop_session.specs.declared.due.Text.TheVariants.{Wrong, InUse, Later, Gone, Bye, Remaining}
use Rattle.pop_session.specs.declared.due.Due.{Due}
use Rattle.pop_session.specs.declared.due.Due.TheVariants.{Entered, Shown, Said, Last}

-- the line
abbrev pub text_of : Text → List ℕ
text_of Wrong = wrong_text
text_of InUse = in_use_text
text_of Later = later_text
text_of Gone = gone_text
text_of Bye = bye_text
text_of Remaining = remaining_text

-- the session asked this call in this state, as it heard this unit
abbrev pub IsAsked : Asked → Unit → TalkState → calls.Call → Type 0
IsAsked (Login user) unit state call = ((named : Option (List ℕ)) × (state ≡ Entering named)) × ((given : Given) × (call ≡ calls.Call.Login user given))
IsAsked (Message lines) unit state call = ((user : List ℕ) × (id : Id) × (call ≡ calls.Call.Fetch user id)) × (asked_lines unit ≡ lines)
IsAsked Deletion unit state call = (user : List ℕ) × (ids : List Id) × (call ≡ calls.Call.Strike user ids)

-- A line is the reply, lets nobody in, and leaves the session so.
pub record SaysLine (text : Text) (unit : Unit) (call : calls.Call) (answer : calls.Answer) (standing : TalkState → Standing) : Type 0 where
  pub reply : RepliesTo unit call answer (one_line (text_of text))
  pub nobody : let_in (Some call) (Some answer) ≡ None
  pub leaves : (state : TalkState) → answered state call answer ≡ standing state

-- the messages that an answer lists
abbrev pub items_told : Answer → List Item
items_told (answers.Listed ticket manager nodes items) = items
items_told answer = []

-- this is to be said to the answer
abbrev pub Says : Due → Unit → TalkState → calls.Call → calls.Answer → Type 0
Says (Entered login listed) unit state call answer =
    ((named : Option (List ℕ)) × (state ≡ Entering named)) × ((given : Given) × (call ≡ calls.Call.Login login.user given)) × (answer ≡ calls.Answer.Listed (map item_seen (items_told listed)))
Says (Shown octets lines) unit state call answer = ((user : List ℕ) × (id : Id) × (call ≡ calls.Call.Fetch user id)) × (answer ≡ calls.Answer.Part octets) × (asked_lines unit ≡ lines)
Says (Said text) unit state call answer = SaysLine text unit call answer Hearing
Says (Last text) unit state call answer = SaysLine text unit call answer (λ state. EndedByQuit)

-- the login that a reply tells of, where it does, and the messages
abbrev pub due_login : Due → Option tickets.Login → Option tickets.Login
due_login (Entered login listed) other = Some login
due_login (Shown octets lines) other = other
due_login (Said text) other = other
due_login (Last text) other = other

abbrev pub due_items : Due → List Item → List Item
due_items (Entered login listed) other = items_told listed
due_items (Shown octets lines) other = other
due_items (Said text) other = other
due_items (Last text) other = other

-- A session that waits to be let in takes the login and the messages that the answer names; else it keeps what it had.
abbrev pub taken_login : Asked → Option Answer → Option tickets.Login → Option tickets.Login
taken_login (Login user) (Some (answers.Listed ticket manager nodes items)) other = Some (record { user = user; ticket = ticket; manager = manager })
taken_login asked answer other = other

abbrev pub taken_items : Asked → Option Answer → List Item → List Item
taken_items (Login user) (Some (answers.Listed ticket manager nodes items)) other = items
taken_items asked answer other = other
