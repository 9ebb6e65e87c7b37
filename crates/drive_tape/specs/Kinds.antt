-- Which answers are those of a call, by its kind.
use Rattle.std.specs.Prelude.{◌≡◌, Bool, true, false, ⊤}
use Rattle.session_model.specs.Calls as calls
use Rattle.session_model.specs.Calls.{IsAnswerTo}
use Rattle.mail_base.specs.declared.filing.CallKind.{CallKind}
use Rattle.mail_base.specs.declared.filing.CallKind.TheVariants.{Deliver, Login, Fetch, Strike}
use Rattle.call_tickets.specs.Seen.{answer_seen}
use Rattle.call_tickets.specs.declared.call.Call.{Call}
use Rattle.call_tickets.specs.declared.call.Call.TheVariants.{Leave}
use Rattle.call_tickets.specs.declared.step.Move.{Move}
use Rattle.call_tickets.specs.declared.step.Move.TheVariants.{Begin}
use Rattle.call_tickets.specs.declared.answer.Answer.{Answer}
use Rattle.call_tickets.specs.declared.answer.Answer.TheVariants as answer

-- these are equal
abbrev pub same_kind : CallKind → CallKind → Bool
same_kind Deliver Deliver = true
same_kind Login Login = true
same_kind Fetch Fetch = true
same_kind Strike Strike = true
same_kind kind other = false

-- each may fail
abbrev pub fits_kind : CallKind → Answer → Bool
fits_kind kind (answer.Failed mishaps) = true
fits_kind kind (answer.Stored id confirmers) = same_kind kind Deliver
fits_kind kind (answer.Listed login manager asked items) = same_kind kind Login
fits_kind kind (answer.Wrong stamp) = same_kind kind Login
fits_kind kind (answer.InUse by) = same_kind kind Login
fits_kind kind (answer.NoProfile manager) = same_kind kind Login
fits_kind kind (answer.Part octets whole) = same_kind kind Fetch
fits_kind kind answer.GoneAlready = same_kind kind Fetch
fits_kind kind (answer.Dropped confirmers) = same_kind kind Strike

-- the answers of this kind are those of the call, and no others are
pub record IsKindOf (kind : CallKind) (asked : calls.Call) : Type 0 where
  pub fits : (answer : Answer) → fits_kind kind answer ≡ true → IsAnswerTo asked (answer_seen answer)
  pub only : (answer : Answer) → IsAnswerTo asked (answer_seen answer) → fits_kind kind answer ≡ true

-- the call has an answer
abbrev pub IsNoLeave : Call → Type 0
IsNoLeave (Leave user login manager) = ⊥
IsNoLeave call = ⊤

-- so it is of each that a move begins
abbrev pub AsksNoLeave : Move → Type 0
AsksNoLeave (Begin call) = IsNoLeave call
AsksNoLeave move = ⊤
