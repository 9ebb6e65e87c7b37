-- Calls and answers as the definitions of a session see them.
use Rattle.std.specs.Prelude.{ℕ, Bool, ◌&&◌, nat_eq, List, map, Option, Some, None, if◌then◌else◌}
use Rattle.mail_model.specs.Identity.{Id}
use Rattle.mail_base.specs.declared.item.Item.{Item}
use Rattle.mail_base.specs.Bodies.{proof_seen}
use Rattle.mail_base.specs.Delivers.{mail_in}
use Rattle.mail_base.specs.Items.{item_seen}
use Rattle.session_model.specs.Calls as model
use Rattle.call_tickets.specs.declared.call.Call.{Call}
use Rattle.call_tickets.specs.declared.call.Call.TheVariants.{Deliver, Login, Fetch, Strike, Leave}
use Rattle.call_tickets.specs.declared.answer.Answer.{Answer}
use Rattle.call_tickets.specs.declared.answer.Answer.TheVariants.{Stored, Listed, Wrong, InUse, NoProfile, Part, GoneAlready, Dropped, Failed}

-- the ids of listed messages
abbrev pub ids_in : List Item → List Id
ids_in items = map (λ item. item.id) items

-- all octets of a message are asked for
abbrev pub asks_whole : ℕ → ℕ → Bool
asks_whole from most = nat_eq from 0 && nat_eq most 18446744073709551615

-- The call as a session makes it: one that fetches a whole message, and no Leave, which has no answer.
abbrev pub call_seen : Call → Option model.Call
call_seen (Deliver deliver) = Some (model.Call.Deliver (mail_in deliver))
call_seen (Login user proof) = Some (model.Call.Login user (model.given_of (proof_seen proof)))
call_seen (Fetch user id holders from most) = if asks_whole from most then Some (model.Call.Fetch user id) else None
call_seen (Strike user items) = Some (model.Call.Strike user (ids_in items))
call_seen (Leave user login manager) = None

abbrev pub answer_seen : Answer → model.Answer
answer_seen (Stored id confirmers) = model.Answer.Stored id
answer_seen (Listed login manager asked items) = model.Answer.Listed (map item_seen items)
answer_seen (Wrong stamp) = model.Answer.Wrong
answer_seen (InUse by) = model.Answer.InUse
answer_seen (NoProfile manager) = model.Answer.NoProfile
answer_seen (Part octets whole) = model.Answer.Part octets
answer_seen GoneAlready = model.Answer.GoneAlready
answer_seen (Dropped confirmers) = model.Answer.Dropped
answer_seen (Failed mishaps) = model.Answer.Failed

-- what a session is answered; a call that was given up has failed
abbrev pub given_answer : Option Answer → model.Answer
given_answer None = model.Answer.Failed
given_answer (Some answer) = answer_seen answer
